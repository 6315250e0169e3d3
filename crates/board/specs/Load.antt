-- What load makes of the line at the front of a text. Assumes nothing.
use denote.Ref.{Bor}
use Rattle.std.specs.Prelude.{ℕ, List, ℤ, Some, None, Ok, Err, Option, Result}
use Rattle.datapoint.specs.declared.refusal.Refusal.TheVariants.{UnknownType, WrongLength, BrokenLine}
use Rattle.datapoint.specs.Refusals.{told}
use Rattle.datapoint.specs.Meaning.{Meaning}
use Rattle.book.specs.Types.{Types}
use Rattle.listing.specs.Row.{Row}
use Rattle.listing.specs.Read.{Got, got, bad}
use Rattle.listing.specs.Line.{Held, missing, these, too_many, Said}
use Rattle.model.specs.Points.{Point}
use Rattle.model.specs.Calls.{Answer, accepted}
use Rattle.model.specs.Load.{accepted_some, placed_as, said_by}
use Rattle.points.specs.declared.placed.Placed.{Placed}
use Rattle.points.specs.Model.{placed_point}

-- a reading as the line holds it: more fields than any type has are a wrong length
abbrev pub accepted_held : Option Meaning → Held → Answer (Option (List ℤ))
accepted_held m missing = Ok None
accepted_held m (these xs) = accepted_some (accepted m xs)
accepted_held m too_many = Err (told (WrongLength 0))

abbrev pub number_only : {A : Type 0} → Answer A → Result A ℕ
number_only (Ok a) = Ok a
number_only (Err e) = Err e.0

-- the point that a line says of its type, or its cause
abbrev pub typed_held : Option Meaning → Said → Result Point ℕ
typed_held None s = Err (told UnknownType).0
typed_held (Some m) s = placed_as s.number (accepted_held (Some m) s.normal) (accepted_held (Some m) s.forced)

-- the line at the front of a text: its point, what stands there, and the rest of the text; or its cause
abbrev pub with_front : ℕ → List ℕ → Result Point ℕ → Result (ℕ × Point × List ℕ) ℕ
with_front p rest (Ok s) = Ok (p, s, rest)
with_front p rest (Err cause) = Err cause

abbrev pub front_said : Types → ℕ → Got Row → Result (ℕ × Point × List ℕ) ℕ
front_said types last bad = Err (told BrokenLine).0
front_said types last (got r rest) = with_front r.point rest (said_by types last r)

abbrev pub front_of : ℕ × Placed × Bor (List ℕ) → ℕ × Point × List ℕ
front_of f = (f.0, placed_point f.1, f.2.now)
