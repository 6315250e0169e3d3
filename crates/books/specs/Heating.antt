-- The heating book (KNX Standard, Datapoint Types, 02.02.01). Assumes nothing.
use Rattle.std.specs.Prelude.{List, [], ◌∷◌}
use Rattle.datapoint.specs.Meaning.{Meaning}
use Rattle.book.specs.Types.{Types}
use Rattle.octet.specs.Range.{up_to}
use Rattle.joined.specs.Joined.{joined}
use Rattle.books.specs.Rows.{Row, row, in_rows}

-- a type joined with a status octet
abbrev pub with_status : Meaning → Meaning
with_status m = joined m (up_to 31)

-- main number, first and last sub number, type
abbrev pub heating_rows : List Row
heating_rows =
    row 20 100 100 (up_to 3) ∷
    row 20 102 103 (up_to 4) ∷
    row 20 104 104 (up_to 2) ∷
    row 200 100 100 (with_status (up_to 1)) ∷
    row 201 100 100 (with_status (up_to 4)) ∷
    row 201 102 102 (with_status (up_to 4)) ∷ []

abbrev pub heating : Types
heating = in_rows heating_rows
