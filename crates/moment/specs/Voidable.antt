-- A date and a time, parts of which may be void. Assumes nothing.
use Rattle.std.specs.Prelude.{ℕ, ◌+◌, ◌-◌, ◌*◌, ◌/◌, ◌%◌, Bool, true, false, ◌&&◌, ◌||◌, List, [], ◌∷◌, ℤ, pos, Some, None, Option, unwrap_or, ◌==◌, nat_le, nat_lt}
use Rattle.std.specs.Option.{option_map}
use Rattle.datapoint.specs.Shapes.{when, natural}
use Rattle.moment.specs.declared.flags.Voids.{Voids}
use Rattle.moment.specs.declared.parts.DatePart.{DatePart}
use Rattle.moment.specs.declared.parts.TimePart.{TimePart}
use Rattle.moment.specs.Bits.{zero_from}
use Rattle.clock.specs.Fields.{next, end, ◌>>=◌, octet_of}
use Rattle.clock.specs.Calendar.{on_calendar}
use Rattle.clock.specs.Time.{on_clock}

-- None where it is void, as it may be if it is blank; where it is not void, what is legal
abbrev pub voidable : {A : Type 0} → Bool → Bool → Option A → Option (Option A)
voidable true blank legal = when blank None
voidable false blank legal = option_map Some legal

-- what an octet tells, whatever its bits are, or None where it is void
abbrev pub unless : {A : Type 0} → Bool → A → Option A
unless true a = None
unless false a = Some a

-- the year that so many years after 1900 is, where it is told
abbrev pub year_told : Option ℕ → Option ℕ
year_told = option_map (λ n. 1900 + n)

-- the month and the day, where there is such a date
abbrev pub month_day : Option ℕ → ℕ → ℕ → Option (ℕ × ℕ)
month_day years month day = when (on_calendar day month (year_told years)) (month, day)

-- the month in bits 3 to 0 and the day in bits 4 to 0; the other bits are zero, as they are in every date of the calendar
abbrev pub date_in : Voids → ℕ → ℕ → ℕ → Option DatePart
date_in voids years month day = do
  d ← voidable voids.date (zero_from 4 month && zero_from 5 day) (month_day (unless voids.year years) month day)
  Some (record { years = unless voids.year years; day = d })

-- the years after 1900 of a year from 1900 to 2155; a void year is 0
abbrev pub years_of : Bool → ℤ → Option (Option ℕ)
years_of void = natural (λ year. voidable void (year == 0) (when (nat_le 1900 year && nat_le year 2155) (year - 1900)))

-- the year, the month and the day; what is void is 0
abbrev pub date_of : Voids → List ℤ → Option DatePart
date_of voids = next λ year. next λ month. next λ day. end do
  y ← years_of voids.year year
  m ← octet_of month
  d ← octet_of day
  date ← voidable voids.date (m == 0 && d == 0) (month_day y m d)
  Some (record { years = y; day = date })

abbrev pub date_octets : DatePart → List ℕ
date_octets date = let day = unwrap_or date.day (0, 0) in unwrap_or date.years 0 ∷ (day.0 ∷ (day.1 ∷ []))

abbrev pub date_fields : DatePart → List ℤ
date_fields date = let day = unwrap_or date.day (0, 0) in pos (unwrap_or (year_told date.years) 0) ∷ (pos day.0 ∷ (pos day.1 ∷ []))

-- a time from 00:00:00 to 24:00:00
abbrev pub to_midnight : ℕ → ℕ → ℕ → Bool
to_midnight hour minute second = on_clock hour minute second || (hour == 24 && (minute == 0 && second == 0))

-- the hour, the minute and the second, where there is such a time
abbrev pub clock_time : ℕ → ℕ → ℕ → Option (ℕ × ℕ × ℕ)
clock_time hour minute second = when (to_midnight hour minute second) (hour, minute, second)

-- a weekday from 0 to 7
abbrev pub week_day : ℕ → Option ℕ
week_day weekday = when (nat_lt weekday 8) weekday

-- the weekday in bits 7 to 5 and the hour in bits 4 to 0 of the first octet, then the minute and the second in bits 5 to 0;
-- the other bits are zero, as they are in every time up to midnight
abbrev pub time_in : Voids → ℕ → ℕ → ℕ → Option TimePart
time_in voids first minute second = do
  weekday ← voidable voids.weekday true (week_day (first / 32))
  clock ← voidable voids.time (zero_from 6 minute && zero_from 6 second) (clock_time (first % 32) minute second)
  Some (record { weekday = weekday; clock = clock })

-- the weekday's field; a void weekday is 0
abbrev pub weekday_of : Bool → ℤ → Option (Option ℕ)
weekday_of void = natural (λ weekday. voidable void (weekday == 0) (week_day weekday))

-- the hour, the minute and the second; a void time is 0
abbrev pub clock_of : Bool → List ℤ → Option (Option (ℕ × ℕ × ℕ))
clock_of void = next λ hour. next λ minute. next λ second. end do
  h ← octet_of hour
  m ← octet_of minute
  s ← octet_of second
  voidable void (h == 0 && (m == 0 && s == 0)) (clock_time h m s)

-- the weekday and the time
abbrev pub time_of : Voids → List ℤ → Option TimePart
time_of voids = next λ weekday clock. do
  w ← weekday_of voids.weekday weekday
  c ← clock_of voids.time clock
  Some (record { weekday = w; clock = c })

abbrev pub time_octets : TimePart → List ℕ
time_octets time =
    let clock = unwrap_or time.clock (0, 0, 0) in
    (32 * (unwrap_or time.weekday 0 % 8) + clock.0 % 32) ∷ (clock.1 ∷ (clock.2 ∷ []))

abbrev pub time_fields : TimePart → List ℤ
time_fields time =
    let clock = unwrap_or time.clock (0, 0, 0) in
    pos (unwrap_or time.weekday 0) ∷ (pos clock.0 ∷ (pos clock.1 ∷ (pos clock.2 ∷ [])))
