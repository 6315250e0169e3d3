-- A book as a table of type numbers. Assumes nothing.
use Rattle.std.specs.Prelude.{ℕ, ◌&&◌, List, [], ◌∷◌, None, ◌==◌, nat_le}
use Rattle.datapoint.specs.Meaning.{Meaning}
use Rattle.datapoint.specs.Shapes.{when}
use Rattle.std.specs.Option.{option_or}
use Rattle.book.specs.Types.{Types}

-- the numbers main.first to main.last have one type
pub record Row : Type 0 where
  pub main : ℕ
  pub first : ℕ
  pub last : ℕ
  pub meaning : Meaning

abbrev pub row : ℕ → ℕ → ℕ → Meaning → Row
row main first last meaning = record { main = main; first = first; last = last; meaning = meaning }

-- the row's type, where the number is one of the row's
abbrev pub in_row : Row → Types
in_row r n = when (n.main == r.main && (nat_le r.first n.sub && nat_le n.sub r.last)) r.meaning

-- the types of all rows, and no other
abbrev pub in_rows : List Row → Types
in_rows [] n = None
in_rows (r ∷ rest) n = option_or (in_row r n) (in_rows rest n)
