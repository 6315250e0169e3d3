-- The fields of a kept reading. Assumes nothing.
use denote.Ref.{Bor}
use Rattle.std.specs.Prelude.{List, [], ◌∷◌, ◌++◌, length, take, ℤ, Some, None, Option, option_copied, nat_le}
use Rattle.datapoint.specs.Shapes.{when}
use Rattle.listing.specs.Row.{Row}
use Rattle.listing.specs.declared.line.Line.{Line}
use Rattle.listing.specs.declared.reading.Reading.{Reading}

abbrev pub fields_of : Reading → List ℤ
fields_of r = take r.count r.places

abbrev pub fields_in : Option Reading → Option (List ℤ)
fields_in None = None
fields_in (Some r) = Some (fields_of r)

-- at most sixteen fields can be kept
abbrev pub kept : List ℤ → Option (List ℤ)
kept xs = when (nat_le (length xs) 16) xs

abbrev pub lengthened : Option (List ℤ) → ℤ → Option (List ℤ)
lengthened None x = None
lengthened (Some xs) x = kept (xs ++ (x ∷ []))

-- the row of a line
abbrev pub row_of : Line (Bor Reading) → Row
row_of l = record { point = l.point; number = l.number; normal = fields_in (option_copied l.normal); forced = fields_in (option_copied l.forced) }
