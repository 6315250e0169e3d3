-- What a line of a list says: a placed point. Assumes nothing.
use Rattle.std.specs.Prelude.{ℕ, ◌≤◌, List, length, ℤ, Some, None, Option}
use Rattle.std.specs.List.{AllByRecursion}
use Rattle.datapoint.specs.Meaning.{InRange}
use Rattle.book.specs.declared.number.TypeNumber.{TypeNumber}

-- a point, its type number, and its normal and its forced reading, where it has them
pub record Row : Type 0 where
  pub point : ℕ
  pub number : TypeNumber
  pub normal : Option (List ℤ)
  pub forced : Option (List ℤ)

-- a reading that can stand in a line: one field or more, each in range
abbrev pub Writable : Option (List ℤ) → Type 0
Writable None = Unit {0}
Writable (Some xs) = (1 ≤ length xs) × AllByRecursion InRange xs

-- a reading of at most sixteen fields, as every type's is
abbrev pub Few : Option (List ℤ) → Type 0
Few None = Unit {0}
Few (Some xs) = length xs ≤ 16

-- a row that a line can say: its three numbers are at most 65,535
pub record Sayable (r : Row) : Type 0 where
  pub point_most : r.point ≤ 65535
  pub main_most : r.number.main ≤ 65535
  pub sub_most : r.number.sub ≤ 65535
  pub normal_good : Writable r.normal
  pub forced_good : Writable r.forced
