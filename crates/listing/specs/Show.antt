-- The text of a line. Assumes nothing.
use Rattle.std.specs.Prelude.{ℕ, List, [], ◌∷◌, ◌++◌, ℤ, Some, None, codes, decimal, Option}
use Rattle.std.specs.Fmt.{signed_decimal}
pub use Rattle.book.specs.Number.{padding, show_sub, show_number}
use Rattle.listing.specs.Row.{Row}

-- the fields in order, with commas
abbrev pub show_fields : List ℤ → List ℕ
show_fields [] = []
show_fields (x ∷ []) = signed_decimal x
show_fields (x ∷ (y ∷ xs)) = signed_decimal x ++ (codes "," ++ show_fields (y ∷ xs))

-- a missing reading is `none`
abbrev pub show_reading : Option (List ℤ) → List ℕ
show_reading None = codes "none"
show_reading (Some xs) = show_fields xs

-- four keys in this order, one space between, and the octet 0A
abbrev pub show_row : Row → List ℕ
show_row r =
    codes "point=" ++ (decimal r.point
    ++ (codes " type=" ++ (show_number r.number
    ++ (codes " normal=" ++ (show_reading r.normal
    ++ (codes " forced=" ++ (show_reading r.forced
    ++ codes "\n")))))))

-- what is said of a faulty line: its number and the number of its cause
abbrev pub show_fault : ℕ → ℕ → List ℕ
show_fault line cause = codes "line=" ++ (decimal line ++ (codes " cause=" ++ (decimal cause ++ codes "\n")))
