-- Load: the board that a text says, or the first faulty line with its cause. Assumes nothing.
use Rattle.std.specs.Prelude.{ℕ, zero, suc, ◌-◌, Bool, true, false, List, [], ◌∷◌, length, ℤ, Some, None, Ok, Err, Option, Result, nat_lt, slice_set}
use Rattle.datapoint.specs.declared.refusal.Refusal.TheVariants.{NoSuchPoint, AlreadyPlaced, UnknownType, BrokenLine}
use Rattle.datapoint.specs.Refusals.{told}
use Rattle.datapoint.specs.Meaning.{Meaning}
use Rattle.book.specs.declared.number.TypeNumber.{TypeNumber}
use Rattle.book.specs.Types.{Types}
use Rattle.listing.specs.Row.{Row}
use Rattle.listing.specs.Read.{Got, got, bad, read_row}
use Rattle.model.specs.Points.{Point, placed, empty}
use Rattle.model.specs.Calls.{Answer, on_board, accepted}

-- a reading of a line that the type accepts, or why not
abbrev pub accepted_some : Answer (List ℤ) → Answer (Option (List ℤ))
accepted_some (Err e) = Err e
accepted_some (Ok xs) = Ok (Some xs)

abbrev pub accepted_if : Option Meaning → Option (List ℤ) → Answer (Option (List ℤ))
accepted_if m None = Ok None
accepted_if m (Some xs) = accepted_some (accepted m xs)

-- the point that a line says, or the number of the first cause that applies: normal is looked at before forced
abbrev pub placed_as : TypeNumber → Answer (Option (List ℤ)) → Answer (Option (List ℤ)) → Result Point ℕ
placed_as n (Err e) forced = Err e.0
placed_as n (Ok normal) (Err e) = Err e.0
placed_as n (Ok normal) (Ok forced) = Ok (placed n normal forced)

abbrev pub typed_as : Option Meaning → Row → Result Point ℕ
typed_as None r = Err (told UnknownType).0
typed_as (Some m) r = placed_as r.number (accepted_if (Some m) r.normal) (accepted_if (Some m) r.forced)

abbrev pub above_or : Bool → Result Point ℕ → Result Point ℕ
above_or true s = s
above_or false s = Err (told AlreadyPlaced).0

abbrev pub on_board_or : Bool → Result Point ℕ → Result Point ℕ
on_board_or true s = s
on_board_or false s = Err (told NoSuchPoint).0

-- after a line for the point `last`
abbrev pub said_by : Types → ℕ → Row → Result Point ℕ
said_by types last r = on_board_or (on_board r.point) (above_or (nat_lt last r.point) (typed_as (types r.number) r))

-- a faulty line, counted from 1, and its cause
pub record Fault : Type 0 where
  pub line : ℕ
  pub cause : ℕ

-- one line: the rest goes on with its point on the board
abbrev pub taken : (List Point → Result (List Point) Fault) → ℕ → List Point → ℕ → Result Point ℕ → Result (List Point) Fault
taken rest line points p (Err cause) = Err (record { line = line; cause = cause })
taken rest line points p (Ok s) = rest (slice_set points (p - 1) s)

abbrev pub line_by : (ℕ → List ℕ → List Point → Result (List Point) Fault) → Types → ℕ → ℕ → List Point → Got Row → Result (List Point) Fault
line_by next types line last points bad = Err (record { line = line; cause = (told BrokenLine).0 })
line_by next types line last points (got r rest) = taken (next r.point rest) line points r.point (said_by types last r)

-- line by line; each takes an octet at least, so as many turns as there are octets suffice
unfoldable pub load_lines : ℕ → Types → ℕ → ℕ → List ℕ → List Point → Result (List Point) Fault
load_lines turns types line last [] points = Ok points
load_lines zero types line last (c ∷ text) points = Err (record { line = line; cause = (told BrokenLine).0 })
load_lines (suc turns) types line last (c ∷ text) points =
    line_by (λ p rest now. load_lines turns types (suc line) p rest now) types line last points (read_row (c ∷ text))

-- the board that the text says
abbrev pub loaded : Types → List ℕ → Result (List Point) Fault
loaded types text = load_lines (length text) types 1 0 text empty

-- load: the board is replaced whole, or left as it is
abbrev pub replaced : Result (List Point) Fault → List Point → Result ℕ Fault × List Point
replaced (Err f) points = (Err f, points)
replaced (Ok new) points = (Ok 0, new)

abbrev pub loading : Types → List ℕ → List Point → Result ℕ Fault × List Point
loading types text points = replaced (loaded types text) points
