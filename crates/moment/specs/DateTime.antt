-- A date and time. Assumes nothing.
use Rattle.std.specs.Prelude.{ℕ, List, ◌++◌, take, drop, ℤ, Some, Option, is_none}
use Rattle.std.specs.Option.{option_map}
use Rattle.datapoint.specs.Meaning.{Meaning}
use Rattle.moment.specs.declared.flags.Flags.{Flags}
use Rattle.moment.specs.declared.moment.Moment.{Moment}
use Rattle.clock.specs.Fields.{next, end, ◌>>=◌}
use Rattle.moment.specs.Flags.{flags_in, flags_of, flags_octets, flags_fields}
use Rattle.moment.specs.Voidable.{date_in, date_of, date_octets, date_fields, time_in, time_of, time_octets, time_fields}

-- the flags of a moment, in which what is not told is void
abbrev pub flags_told : Moment → Flags
flags_told m = record {
  voids = record { year = is_none m.date.years; date = is_none m.date.day; weekday = is_none m.time.weekday; time = is_none m.time.clock };
  status = m.status;
}

-- the years after 1900, the month, the day, the weekday with the hour, the minute, the second, and two octets of flags
abbrev pub moment_in : List ℕ → Option Moment
moment_in = next λ years. next λ month. next λ day. next λ first. next λ minute. next λ second. next λ octet. next λ quality. end do
  flags ← flags_in octet quality
  date ← date_in flags.voids years month day
  time ← time_in flags.voids first minute second
  Some (record { date = date; time = time; status = flags.status })

-- three fields of the date, four of the time, and nine flags
abbrev pub moment_of : List ℤ → Option Moment
moment_of xs = do
  flags ← flags_of (drop 7 xs)
  date ← date_of flags.voids (take 3 xs)
  time ← time_of flags.voids (take 4 (drop 3 xs))
  Some (record { date = date; time = time; status = flags.status })

abbrev pub moment_octets : Moment → List ℕ
moment_octets m = date_octets m.date ++ (time_octets m.time ++ flags_octets (flags_told m))

abbrev pub moment_fields : Moment → List ℤ
moment_fields m = date_fields m.date ++ (time_fields m.time ++ flags_fields (flags_told m))

abbrev pub date_time : Meaning
date_time = record {
  octets = 8;
  fields = 16;
  reading = λ p. option_map moment_fields (moment_in p);
  payload = λ xs. option_map moment_octets (moment_of xs);
}
