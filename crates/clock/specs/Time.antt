-- A weekday with a time of day. Assumes nothing.
use Rattle.std.specs.Prelude.{ℕ, ◌+◌, ◌*◌, ◌/◌, ◌%◌, Bool, ◌&&◌, [], ◌∷◌, pos, nat_lt}
use Rattle.datapoint.specs.Meaning.{Meaning}
use Rattle.datapoint.specs.Shapes.{when}
use Rattle.clock.specs.Fields.{next, field, end}

-- a time from 00:00:00 to 23:59:59
abbrev pub on_clock : ℕ → ℕ → ℕ → Bool
on_clock hour minute second = nat_lt hour 24 && (nat_lt minute 60 && nat_lt second 60)

-- the weekday in bits 7 to 5 and the hour in bits 4 to 0, then the minute, then the second; the other bits are zero
abbrev pub time_of_day : Meaning
time_of_day = record {
  octets = 3;
  fields = 4;
  reading = next λ first. next λ minute. next λ second. end (when (on_clock (first % 32) minute second) (pos (first / 32) ∷ (pos (first % 32) ∷ (pos minute ∷ (pos second ∷ [])))));
  payload = field λ weekday. field λ hour. field λ minute. field λ second. end (when (nat_lt weekday 8 && on_clock hour minute second) ((32 * weekday + hour) ∷ (minute ∷ (second ∷ []))));
}
