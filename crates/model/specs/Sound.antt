-- What holds of every board that a series reaches. Assumes nothing.
use Rattle.std.specs.Prelude.{◌≡◌, ℕ, ◌≤◌, true, ◌⊎◌, List, [], ◌∷◌, length, ℤ, is_some, Some, None, Ok, Err, Option}
use Rattle.std.specs.List.{AllByRecursion}
use Rattle.datapoint.specs.Meaning.{Meaning}
use Rattle.book.specs.Types.{Types}
use Rattle.model.specs.Points.{Point, unplaced, placed, list_of}
use Rattle.model.specs.Series.{Call, Place, Remove, Receive, Set, Override, Release, Read, Send, ListOut, Load, Passable, Reply, counts, tells, loads, perform, Reached}

-- a reading, where there is one, is legal in the type
abbrev pub LegalIn : Meaning → Option (List ℤ) → Type 0
LegalIn m None = Unit {0}
LegalIn m (Some xs) = is_some (m.payload xs) ≡ true

-- a placed point has a type of the book, and each reading that it stores is legal in that type
abbrev pub Stored : Types → Point → Type 0
Stored types unplaced = Unit {0}
Stored types (placed n normal forced) = (m : Meaning) × (types n ≡ Some m) × LegalIn m normal × LegalIn m forced

-- the numbers with which each call may be refused
abbrev pub refusals : Call → List ℕ
refusals (Place p n) = 1 ∷ (2 ∷ (4 ∷ []))
refusals (Remove p) = 1 ∷ (3 ∷ [])
refusals (Receive p payload) = 1 ∷ (3 ∷ (5 ∷ (8 ∷ (9 ∷ []))))
refusals (Set p xs) = 1 ∷ (3 ∷ (5 ∷ (8 ∷ (10 ∷ []))))
refusals (Override p xs) = 1 ∷ (3 ∷ (8 ∷ (10 ∷ [])))
refusals (Release p) = 1 ∷ (3 ∷ (6 ∷ []))
refusals (Read p out) = 1 ∷ (3 ∷ (11 ∷ []))
refusals (Send p out) = 1 ∷ (3 ∷ (7 ∷ (11 ∷ [])))
refusals (ListOut out) = 11 ∷ []
refusals (Load text) = 12 ∷ (1 ∷ (2 ∷ (4 ∷ (8 ∷ (10 ∷ [])))))

abbrev pub OneOf : List ℕ → ℕ → Type 0
OneOf [] k = ⊥
OneOf (n ∷ ns) k = (k ≡ n) ⊎ OneOf ns k

-- the reply is no refusal, or one of these
abbrev pub RefusedBy : List ℕ → Reply → Type 0
RefusedBy ns (counts (Ok k)) = Unit {0}
RefusedBy ns (counts (Err e)) = OneOf ns e.0
RefusedBy ns (tells (Ok t)) = Unit {0}
RefusedBy ns (tells (Err e)) = OneOf ns e.0
RefusedBy ns (loads (Ok k)) = Unit {0}
RefusedBy ns (loads (Err f)) = OneOf ns f.cause

pub record Soundness (types : Types) : Type 0 where
  -- each stored reading is legal in its type
  pub stored : (points : List Point) → Reached types points → AllByRecursion (Stored types) points
  -- no call returns a number outside its own list
  pub refused : (points : List Point) → Reached types points → (c : Call) → Passable c → RefusedBy (refusals c) (perform types c points).0.reply
  -- the longest list fits 32,768 octets
  pub fits : (points : List Point) → Reached types points → length (list_of points) ≤ 32768
