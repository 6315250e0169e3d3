-- A date of the years 1990 to 2089. Assumes nothing.
use Rattle.std.specs.Prelude.{ℕ, ◌+◌, ◌%◌, cond, ◌&&◌, [], ◌∷◌, pos, Some, nat_le, nat_lt}
use Rattle.datapoint.specs.Meaning.{Meaning}
use Rattle.datapoint.specs.Shapes.{when}
use Rattle.clock.specs.Fields.{next, field, end}
use Rattle.clock.specs.Calendar.{on_calendar}

-- the year of its last two digits, which from 90 on are of the 20th century
abbrev pub year_of : ℕ → ℕ
year_of digits = cond (nat_le 90 digits) (1900 + digits) (2000 + digits)

-- the day, the month, and the last two digits of the year; the other bits are zero
abbrev pub date_only : Meaning
date_only = record {
  octets = 3;
  fields = 3;
  reading = next λ day. next λ month. next λ digits. end (when (on_calendar day month (Some (year_of digits)) && nat_lt digits 100) (pos day ∷ (pos month ∷ (pos (year_of digits) ∷ []))));
  payload = field λ day. field λ month. field λ year. end (when (on_calendar day month (Some year) && (nat_le 1990 year && nat_le year 2089)) (day ∷ (month ∷ (year % 100 ∷ []))));
}
