-- The laws of a meaning from what holds of each reading and of each writing. Assumes nothing.
use Rattle.std.specs.Prelude.{◌≡◌, ℕ, ◌≤◌, true, List, length, ℤ, is_some, Some}
use Rattle.std.specs.List.{AllByRecursion}
use Rattle.datapoint.specs.Meaning.{Meaning, Lawful, Octets, InRange}

-- how many there are
pub record Few (m : Meaning) : Type 0 where
  pub octets_some : 1 ≤ m.octets
  pub octets_most : m.octets ≤ 14
  pub fields_some : 1 ≤ m.fields
  pub fields_most : m.fields ≤ 16

-- p is read as xs
pub record Reads (m : Meaning) (p : List ℕ) (xs : List ℤ) : Type 0 where
  pub sized : length p ≡ m.octets
  pub counted : length xs ≡ m.fields
  pub ranged : AllByRecursion InRange xs
  pub legal : is_some (m.payload xs) ≡ true

-- xs is written as p
pub record Writes (m : Meaning) (xs : List ℤ) (p : List ℕ) : Type 0 where
  pub octets_made : Octets p
  pub back : m.reading p ≡ Some xs

pub lawful_both :
    (m : Meaning) → Few m → ((p : List ℕ) (xs : List ℤ) → m.reading p ≡ Some xs → Octets p → Reads m p xs) →
    ((xs : List ℤ) (p : List ℕ) → m.payload xs ≡ Some p → Writes m xs p) → Lawful m
lawful_both m few reads writes =
    record {
      octets_some = few.octets_some;
      octets_most = few.octets_most;
      fields_some = few.fields_some;
      fields_most = few.fields_most;
      sized = λ p xs os e. (reads p xs e os).sized;
      counted = λ p xs os e. (reads p xs e os).counted;
      ranged = λ p xs os e. (reads p xs e os).ranged;
      legal = λ p xs os e. (reads p xs e os).legal;
      octets_made = λ xs p e. (writes xs p e).octets_made;
      back = λ xs p e. (writes xs p e).back;
    }
