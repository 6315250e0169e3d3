-- Whole numbers, the high octet first. Assumes nothing.
use Rattle.std.specs.Prelude.{ℕ, zero, suc, ◌-◌, ◌/◌, ◌%◌, ◌^◌, cond, List, [], ◌∷◌, ◌++◌, length, ℤ, pos, negsuc, ◌-ℤ◌, Some, None, Option, ◌==◌, nat_lt}
use Rattle.std.specs.Int.Digits.{number_from_digits}
use Rattle.datapoint.specs.Meaning.{Meaning}
use Rattle.datapoint.specs.Shapes.{when, one}
use Rattle.whole.specs.declared.whole.Width.{Width}
use Rattle.whole.specs.declared.whole.Width.TheVariants.{One, Two, Four}
use Rattle.whole.specs.declared.whole.Sign.{Sign}
use Rattle.whole.specs.declared.whole.Sign.TheVariants.{Unsigned, TwosComplement}

-- how many octets
abbrev pub count : Width → ℕ
count One = 1
count Two = 2
count Four = 4

-- the number that octets write in base 256, the high octet first
abbrev pub number_in : List ℕ → ℕ
number_in octets = number_from_digits 256 octets

-- the numbers of n octets from here on stand for negative values: none, or the upper half
abbrev pub negative_from : Sign → ℕ → ℕ
negative_from Unsigned n = 256 ^ n
negative_from TwosComplement n = 256 ^ n / 2

-- the value of the number x of n octets: itself, or 256 ^ n less
abbrev pub value_of : ℕ → ℕ → ℕ → ℤ
value_of n from x = cond (nat_lt x from) (pos x) (pos x -ℤ pos (256 ^ n))

-- the number of n octets that has a value, if the value is in range; negsuc x is -(x + 1)
abbrev pub number_of : ℕ → ℕ → ℤ → Option ℕ
number_of n from (pos x) = when (nat_lt x from) x
number_of n from (negsuc x) = when (nat_lt x (256 ^ n - from)) (256 ^ n - suc x)

-- the n low octets of a number, the high octet first
abbrev pub octets_of : ℕ → ℕ → List ℕ
octets_of zero x = []
octets_of (suc n) x = octets_of n (x / 256) ++ (x % 256 ∷ [])

-- the octets of a number, if there is one
abbrev pub written : ℕ → Option ℕ → Option (List ℕ)
written n None = None
written n (Some x) = Some (octets_of n x)

-- every payload of n octets is legal, and reads one field
abbrev pub in_octets : ℕ → ℕ → Meaning
in_octets n from = record {
  octets = n;
  fields = 1;
  reading = λ p. when (length p == n) (value_of n from (number_in p) ∷ []);
  payload = one (λ z. written n (number_of n from z));
}

abbrev pub whole : Width → Sign → Meaning
whole width sign = in_octets (count width) (negative_from sign (count width))
