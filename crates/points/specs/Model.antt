-- What the board's own records mean. Assumes nothing.
use Rattle.std.specs.Prelude.{List, ℤ, Some, None, Ok, Err, Option, Result}
use Rattle.datapoint.specs.declared.refusal.Refusal.{Refusal}
use Rattle.datapoint.specs.Refusals.{told}
use Rattle.listing.specs.declared.reading.Reading.{Reading}
use Rattle.listing.specs.Fields.{fields_of, fields_in}
use Rattle.model.specs.Points.{Point, unplaced, placed}
use Rattle.model.specs.Calls.{Answer, Told}
use Rattle.points.specs.declared.placed.Placed.{Placed}
use Rattle.points.specs.declared.placed.Telling.{Telling}
use Rattle.points.specs.Marks.{mark_number}

-- a reading that was taken, or the refusal as it is told
abbrev pub taken_reading : Result Reading Refusal → Answer (List ℤ)
taken_reading (Ok r) = Ok (fields_of r)
taken_reading (Err e) = Err (told e)

-- a placed point
abbrev pub placed_point : Placed → Point
placed_point p = placed p.number (fields_in p.normal) (fields_in p.forced)

-- a place of the table
abbrev pub point_of : Option Placed → Point
point_of None = unplaced
point_of (Some p) = placed_point p

-- what a read answers, the mark by its number, or the refusal as it is told
abbrev pub telling_answer : Result Telling Refusal → Answer Told
telling_answer (Ok t) = Ok (record { number = t.number; mark = mark_number t.mark; fields = t.fields })
telling_answer (Err e) = Err (told e)
