-- Text of fourteen characters. Assumes nothing.
use Rattle.std.specs.Prelude.{ℕ, ◌-◌, Bool, ◌&&◌, List, [], ◌∷◌, ◌++◌, map, length, drop, replicate, ℤ, pos, ◌≤ℤ◌, Option, ◌==◌, nat_le}
use Rattle.std.specs.List.{list_all, before_first}
use Rattle.datapoint.specs.Meaning.{Meaning}
use Rattle.datapoint.specs.Shapes.{when, natural}

-- no octet is above the highest
abbrev pub within : ℕ → List ℕ → Bool
within highest octets = list_all (λ b. nat_le b highest) octets

-- fourteen octets, and none above the highest, also after a 00
abbrev pub legal : ℕ → List ℕ → Bool
legal highest p = length p == 14 && within highest p

-- the octets before the first 00
abbrev pub characters : List ℕ → List ℕ
characters octets = before_first (λ b. b == 0) octets

-- the characters, and then 0 up to the same length
abbrev pub cleared : List ℕ → List ℕ
cleared p = characters p ++ replicate (length p - length (characters p)) 0

-- nothing but 0 stands after the characters
abbrev pub ended : List ℕ → Bool
ended p = within 0 (drop (length (characters p)) p)

-- a field from 0 to the highest
abbrev pub UpTo : ℕ → ℤ → Type 0
UpTo highest x = (pos 0 ≤ℤ x) × (x ≤ℤ pos highest)

-- of fields that are no less than 0
abbrev pub naturals : {B : Type 0} → (List ℕ → Option B) → List ℤ → Option B
naturals f [] = f []
naturals f (x ∷ rest) = natural (λ n. naturals (λ ns. f (n ∷ ns)) rest) x

-- a payload reads as its characters and then 0; a reading goes out as its fields, which are a legal payload with nothing but 0 after the characters
abbrev pub text : ℕ → Meaning
text highest = record {
  octets = 14;
  fields = 14;
  reading = λ p. when (legal highest p) (map pos (cleared p));
  payload = naturals (λ p. when (legal highest p && ended p) p);
}
