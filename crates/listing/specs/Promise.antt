-- What is promised of reading lines. Assumes nothing.
use Rattle.std.specs.Prelude.{◌≡◌, ℕ, ◌↔◌, List, ◌++◌}
use Rattle.listing.specs.Row.{Row, Sayable}
use Rattle.listing.specs.Show.{show_row}
use Rattle.listing.specs.Read.{got, read_row}

-- a row and a rest are read from a text just where the row can be said and the text is its line and then the rest
abbrev pub ReadsJustWhatItShows : Type 0
ReadsJustWhatItShows = (text : List ℕ) (r : Row) (rest : List ℕ) → (read_row text ≡ got r rest) ↔ (Sayable r × (text ≡ show_row r ++ rest))
