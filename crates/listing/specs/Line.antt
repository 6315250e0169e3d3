-- What a line says, as the code keeps it. Assumes nothing.
use Rattle.std.specs.Prelude.{ℕ, List, ℤ, Some, None, Ok, Err, Option, Result}
use Rattle.book.specs.declared.number.TypeNumber.{TypeNumber}
use Rattle.listing.specs.declared.line.Line.{Line}
use Rattle.listing.specs.declared.line.TooMany.{TooMany}
use Rattle.listing.specs.declared.reading.Reading.{Reading}
use Rattle.listing.specs.Row.{Row}
use Rattle.listing.specs.Read.{Got, got, bad, ◌⨟◌, read_reading, read_placed, read_readings}
use Rattle.listing.specs.Fields.{fields_of, kept}

-- no reading, one that can be kept, or one of more fields than any type has
pub data Held : Type 0 where
  missing : Held
  these : List ℤ → Held
  too_many : Held

-- a reading as the code keeps it, unless it has too many fields
abbrev pub Kept : Type 0
Kept = Result Reading TooMany

-- the fields of a reading that could be kept
abbrev pub kept_in : Kept → Option (List ℤ)
kept_in (Ok r) = Some (fields_of r)
kept_in (Err e) = None

abbrev pub held_fields : Option (List ℤ) → Held
held_fields None = too_many
held_fields (Some xs) = these xs

-- a reading as it was read, perhaps `none`
abbrev pub held_of : Option Kept → Held
held_of None = missing
held_of (Some r) = held_fields (kept_in r)

abbrev pub held : Option (List ℤ) → Held
held None = missing
held (Some xs) = held_fields (kept xs)

-- the value read, in another form
abbrev pub got_as : {A B : Type 0} → (A → B) → Got A → Got B
got_as f (got a rest) = got (f a) rest
got_as f bad = bad

abbrev pub read_held : List ℕ → Got Held
read_held text = got_as held (read_reading text)

abbrev pub both_of : Option Kept × Option Kept → Held × Held
both_of v = (held_of v.0, held_of v.1)

-- a row whose readings are held
pub record Said : Type 0 where
  pub point : ℕ
  pub number : TypeNumber
  pub normal : Held
  pub forced : Held

abbrev pub line_said : Line Kept → Said
line_said l = record { point = l.point; number = l.number; normal = held_of l.normal; forced = held_of l.forced }

abbrev pub row_said : Row → Said
row_said r = record { point = r.point; number = r.number; normal = held r.normal; forced = held r.forced }

-- a line, with its readings held
abbrev pub read_said : List ℕ → Got Said
read_said text =
    read_placed text ⨟ λ placed text.
    read_readings read_held text ⨟ λ readings text.
    got (record { point = placed.0; number = placed.1; normal = readings.0; forced = readings.1 }) text
