-- What a datapoint type means, and the laws of every meaning. Assumes nothing.
use Rattle.std.specs.Prelude.{◌≡◌, ℕ, ◌<◌, ◌≤◌, true, List, length, ℤ, pos, negsuc, ◌≤ℤ◌, is_some, Some, Option}
use Rattle.std.specs.List.{AllByRecursion}

pub record Meaning : Type 0 where
  -- how many octets a payload has, and how many fields a reading
  pub octets : ℕ
  pub fields : ℕ
  -- the reading of each legal payload; None where the payload is not legal
  pub reading : List ℕ → Option (List ℤ)
  -- the one proper payload of each legal reading; None where the reading is not legal
  pub payload : List ℤ → Option (List ℕ)

-- a payload is made of octets; by recursion, since std's `All` does not compute at octets in a row
abbrev pub Octets : List ℕ → Type 0
Octets p = AllByRecursion (λ b. b < 256) p

-- a field lies from -2,147,483,648 to 4,294,967,295
abbrev pub InRange : ℤ → Type 0
InRange x = (negsuc 2147483647 ≤ℤ x) × (x ≤ℤ pos 4294967295)

-- what every implementation of a type proves of its meaning
pub record Lawful (m : Meaning) : Type 0 where
  pub octets_some : 1 ≤ m.octets
  pub octets_most : m.octets ≤ 14
  pub fields_some : 1 ≤ m.fields
  pub fields_most : m.fields ≤ 16
  -- a legal payload has the counted octets
  pub sized : (p : List ℕ) (xs : List ℤ) → Octets p → m.reading p ≡ Some xs → length p ≡ m.octets
  -- its reading has the counted fields, each in range, and is a legal reading
  pub counted : (p : List ℕ) (xs : List ℤ) → Octets p → m.reading p ≡ Some xs → length xs ≡ m.fields
  pub ranged : (p : List ℕ) (xs : List ℤ) → Octets p → m.reading p ≡ Some xs → AllByRecursion InRange xs
  pub legal : (p : List ℕ) (xs : List ℤ) → Octets p → m.reading p ≡ Some xs → is_some (m.payload xs) ≡ true
  -- a proper payload is made of octets, is legal, and reads back as the reading that it was made from
  pub octets_made : (xs : List ℤ) (p : List ℕ) → m.payload xs ≡ Some p → Octets p
  pub back : (xs : List ℤ) (p : List ℕ) → m.payload xs ≡ Some p → m.reading p ≡ Some xs
