-- The laws of the date and of the time in a date and time. Assumes nothing.
use Rattle.std.specs.Prelude.{◌≡◌, ℕ, ◌+◌, ◌*◌, ◌/◌, ◌%◌, ◌<◌, Bool, true, ◌&&◌, List, [], ◌∷◌, ℤ, pos, Some, None, Option, IfSome, unwrap_or, is_none, ◌==◌, refl}
use Rattle.std.proofs.Common.{arith}
use Rattle.std.proofs.lemmas.Bool.Decides.{nat_tests}
use Rattle.std.specs.List.{AllByRecursion}
use Rattle.datapoint.specs.Meaning.{Octets, InRange}
use Rattle.moment.specs.declared.flags.Voids.{Voids}
use Rattle.moment.specs.declared.parts.DatePart.{DatePart}
use Rattle.moment.specs.declared.parts.TimePart.{TimePart}
use Rattle.moment.specs.Bits.{zero_from}
use Rattle.clock.specs.Calendar.{on_calendar}
use Rattle.moment.specs.Voidable.{voidable, unless, year_told, month_day, date_in, date_of, date_octets, date_fields, to_midnight, clock_time, clock_of, time_in, time_of, time_octets, time_fields}
use Rattle.clock.specs.Taken.{by_next, by_end, by_when, by_bind, by_some}
use Rattle.moment.specs.FieldLaws.{in_range, octet_was, octet_back, by_voidable, Below, below_or, unless_below, unless_back, year_field, year_few, years_was, years_back, weekday_stands, weekday_again, weekday_was, weekday_back}

-- the month and the day

-- a month and a day that are void, or that are on the calendar
abbrev DayIs : Option ℕ → Option (ℕ × ℕ) → Type 0
DayIs years date = IfSome date (λ d. on_calendar d.1 d.0 (year_told years) ≡ true)

abbrev month_of : Option (ℕ × ℕ) → ℕ
month_of date = (unwrap_or date (0, 0)).0

abbrev day_of : Option (ℕ × ℕ) → ℕ
day_of date = (unwrap_or date (0, 0)).1

calendar_few : (day month : ℕ) (year : Option ℕ) → on_calendar day month year ≡ true → (month < 256) × (day < 256)
calendar_few day month year t = grind (arith, nat_tests)

day_few : (years : Option ℕ) (date : Option (ℕ × ℕ)) → DayIs years date → (month_of date < 256) × (day_of date < 256)
day_few years None h = omega arith
day_few years (Some d) h = calendar_few d.1 d.0 (year_told years) h

day_stands :
    (void blank : Bool) (years : Option ℕ) (m d : ℕ) (date : Option (ℕ × ℕ)) → voidable void blank (month_day years m d) ≡ Some date → DayIs years date
day_stands void blank years m d = by_voidable void blank _ (λ v date. DayIs years date) (λ z. tt) (by_when _ (m, d) _ (λ t. t))

day_was :
    (void : Bool) (years : Option ℕ) (m d : ℕ) (date : Option (ℕ × ℕ)) → voidable void (m == 0 && d == 0) (month_day years m d) ≡ Some date →
    (void ≡ is_none date) × DayIs years date × (month_of date ≡ m) × (day_of date ≡ d)
day_was void years m d =
    by_voidable void (m == 0 && d == 0) _ (λ v date. (v ≡ is_none date) × DayIs years date × (month_of date ≡ m) × (day_of date ≡ d))
    (λ z. (refl, tt, grind (arith, nat_tests), grind (arith, nat_tests))) (by_when _ _ _ (λ t. (refl, t, refl, refl)))

day_again :
    (years : Option ℕ) (d : Option (ℕ × ℕ)) → DayIs years d →
    voidable (is_none d) (zero_from 4 (month_of d) && zero_from 5 (day_of d)) (month_day years (month_of d) (day_of d)) ≡ Some d
day_again years None h = refl
day_again years (Some d) h = rw h

day_back :
    (years : Option ℕ) (d : Option (ℕ × ℕ)) → DayIs years d →
    voidable (is_none d) (month_of d == 0 && day_of d == 0) (month_day years (month_of d) (day_of d)) ≡ Some d
day_back years None h = refl
day_back years (Some d) h = rw h

-- the date

pub record ProperDate (date : DatePart) : Type 0 where
  pub years_fit : Below 256 date.years
  pub day_is : DayIs date.years date.day

pub record DateWritten (voids : Voids) (ys : List ℤ) (date : DatePart) : Type 0 where
  pub proper : ProperDate date
  pub year_void : voids.year ≡ is_none date.years
  pub date_void : voids.date ≡ is_none date.day
  pub fields_are : date_fields date ≡ ys

pub date_read : (voids : Voids) (years month day : ℕ) → years < 256 → (date : DatePart) → date_in voids years month day ≡ Some date → ProperDate date
date_read voids years month day f =
    by_bind _ _ _ λ d e. by_some _ _ (record {
      years_fit = unless_below 256 voids.year years f;
      day_is = day_stands voids.date (zero_from 4 month && zero_from 5 day) (unless voids.year years) month day d e;
    })

pub date_written : (voids : Voids) (ys : List ℤ) (date : DatePart) → date_of voids ys ≡ Some date → DateWritten voids ys date
date_written voids =
    by_next _ _ λ year. by_next _ _ λ month. by_next _ _ λ day. by_end _ _ (
    by_bind _ _ _ λ y ey. by_bind _ _ _ λ m em. by_bind _ _ _ λ d ed. by_bind _ _ _ λ date e. by_some _ _ (
    let yw = years_was voids.year year y ey in let mw = octet_was month m em in let dw = octet_was day d ed in
    let was = day_was voids.date y m d date e in
    record { proper = record { years_fit = yw.2; day_is = was.1 }; year_void = yw.1; date_void = was.0; fields_are = cc }))

module _ (date : DatePart) (p : ProperDate date) (weekday time : Bool) where
  -- the date's flags among others
  abbrev date_voids : Voids
  date_voids = record { year = is_none date.years; date = is_none date.day; weekday = weekday; time = time }

  pub date_again : date_in date_voids (unwrap_or date.years 0) (month_of date.day) (day_of date.day) ≡ Some date
  date_again = rw (unless_back date.years, day_again date.years date.day p.day_is)

  pub date_back : date_of date_voids (date_fields date) ≡ Some date
  date_back =
      let few = day_few date.years date.day p.day_is in
      rw (years_back date.years p.years_fit, octet_back (month_of date.day) few.0, octet_back (day_of date.day) few.1, day_back date.years date.day p.day_is)

pub date_octets_made : (date : DatePart) → ProperDate date → Octets (date_octets date)
date_octets_made date p =
    let few = day_few date.years date.day p.day_is in
    (below_or 256 date.years (omega arith) p.years_fit, (few.0, (few.1, tt)))

pub date_ranged : (date : DatePart) → ProperDate date → AllByRecursion InRange (date_fields date)
date_ranged date p =
    let few = day_few date.years date.day p.day_is in
    in_range (year_field date.years ∷ (month_of date.day ∷ (day_of date.day ∷ []))) (omega (arith, year_few date.years p.years_fit))

-- the time of day

-- a time that is void, or that is up to midnight
abbrev ClockIs : Option (ℕ × ℕ × ℕ) → Type 0
ClockIs clock = IfSome clock (λ c. to_midnight c.0 c.1 c.2 ≡ true)

abbrev hour_of : Option (ℕ × ℕ × ℕ) → ℕ
hour_of clock = (unwrap_or clock (0, 0, 0)).0

abbrev minute_of : Option (ℕ × ℕ × ℕ) → ℕ
minute_of clock = (unwrap_or clock (0, 0, 0)).1

abbrev second_of : Option (ℕ × ℕ × ℕ) → ℕ
second_of clock = (unwrap_or clock (0, 0, 0)).2

midnight_few : (hour minute second : ℕ) → to_midnight hour minute second ≡ true → (hour < 32) × (minute < 64) × (second < 64)
midnight_few hour minute second t = grind (arith, nat_tests)

clock_few : (clock : Option (ℕ × ℕ × ℕ)) → ClockIs clock → (hour_of clock < 32) × (minute_of clock < 64) × (second_of clock < 64)
clock_few None h = omega arith
clock_few (Some c) h = midnight_few c.0 c.1 c.2 h

clock_stands :
    (void blank : Bool) (h m s : ℕ) (clock : Option (ℕ × ℕ × ℕ)) → voidable void blank (clock_time h m s) ≡ Some clock → ClockIs clock
clock_stands void blank h m s = by_voidable void blank _ (λ v clock. ClockIs clock) (λ z. tt) (by_when _ (h, m, s) _ (λ t. t))

-- a blank time is 0
zeros :
    (h m s : ℕ) (hour minute second : ℤ) → (h == 0 && (m == 0 && s == 0)) ≡ true → hour ≡ pos h → minute ≡ pos m → second ≡ pos s →
    pos 0 ∷ (pos 0 ∷ (pos 0 ∷ [])) ≡ hour ∷ (minute ∷ (second ∷ []))
zeros h m s hour minute second z e f g = grind (arith, nat_tests)

clock_was :
    (void : Bool) (ys : List ℤ) (clock : Option (ℕ × ℕ × ℕ)) → clock_of void ys ≡ Some clock →
    (void ≡ is_none clock) × ClockIs clock × (pos (hour_of clock) ∷ (pos (minute_of clock) ∷ (pos (second_of clock) ∷ [])) ≡ ys)
clock_was void =
    by_next _ _ λ hour. by_next _ _ λ minute. by_next _ _ λ second. by_end _ _ (
    by_bind _ _ _ λ h eh. by_bind _ _ _ λ m em. by_bind _ _ _ λ s es.
    let hw = octet_was hour h eh in let mw = octet_was minute m em in let sw = octet_was second s es in
    by_voidable void (h == 0 && (m == 0 && s == 0)) (clock_time h m s)
    (λ v clock. (v ≡ is_none clock) × ClockIs clock × (pos (hour_of clock) ∷ (pos (minute_of clock) ∷ (pos (second_of clock) ∷ [])) ≡ hour ∷ (minute ∷ (second ∷ []))))
    (λ z. (refl, tt, zeros h m s hour minute second z hw.0 mw.0 sw.0)) (by_when (to_midnight h m s) (h, m, s) _ (λ t. (refl, t, cc))))

clock_again :
    (c : Option (ℕ × ℕ × ℕ)) → ClockIs c →
    voidable (is_none c) (zero_from 6 (minute_of c) && zero_from 6 (second_of c)) (clock_time (hour_of c) (minute_of c) (second_of c)) ≡ Some c
clock_again None h = refl
clock_again (Some c) h = rw h

clock_back :
    (c : Option (ℕ × ℕ × ℕ)) → ClockIs c →
    voidable (is_none c) (hour_of c == 0 && (minute_of c == 0 && second_of c == 0)) (clock_time (hour_of c) (minute_of c) (second_of c)) ≡ Some c
clock_back None h = refl
clock_back (Some c) h = rw h

-- the time

pub record ProperTime (time : TimePart) : Type 0 where
  pub weekday_fits : Below 8 time.weekday
  pub clock_is : ClockIs time.clock

pub record TimeWritten (voids : Voids) (ys : List ℤ) (time : TimePart) : Type 0 where
  pub proper : ProperTime time
  pub weekday_void : voids.weekday ≡ is_none time.weekday
  pub time_void : voids.time ≡ is_none time.clock
  pub fields_are : time_fields time ≡ ys

pub time_read : (voids : Voids) (first minute second : ℕ) (time : TimePart) → time_in voids first minute second ≡ Some time → ProperTime time
time_read voids first minute second =
    by_bind _ _ _ λ w ew. by_bind _ _ _ λ c ec. by_some _ _ (record {
      weekday_fits = weekday_stands voids.weekday true (first / 32) w ew;
      clock_is = clock_stands voids.time (zero_from 6 minute && zero_from 6 second) (first % 32) minute second c ec;
    })

pub time_written : (voids : Voids) (ys : List ℤ) (time : TimePart) → time_of voids ys ≡ Some time → TimeWritten voids ys time
time_written voids =
    by_next _ _ λ weekday ys. by_bind _ _ _ λ w ew. by_bind _ _ _ λ c ec. by_some _ _ (
    let ww = weekday_was voids.weekday weekday w ew in let cw = clock_was voids.time ys c ec in
    record { proper = record { weekday_fits = ww.2; clock_is = cw.1 }; weekday_void = ww.1; time_void = cw.0; fields_are = cc })

module _ (time : TimePart) (p : ProperTime time) (year date : Bool) where
  -- the time's flags among others
  abbrev time_voids : Voids
  time_voids = record { year = year; date = date; weekday = is_none time.weekday; time = is_none time.clock }

  -- a weekday and an hour come back out of their octet
  pub time_again :
      time_in time_voids (32 * (unwrap_or time.weekday 0 % 8) + hour_of time.clock % 32) (minute_of time.clock) (second_of time.clock) ≡ Some time
  time_again =
      let few = clock_few time.clock p.clock_is in
      let small = below_or 8 time.weekday (omega arith) p.weekday_fits in
      let packed = 32 * (unwrap_or time.weekday 0 % 8) + hour_of time.clock % 32 in
      let weekday : packed / 32 ≡ unwrap_or time.weekday 0 = omega arith in
      let hour : packed % 32 ≡ hour_of time.clock = omega arith in
      rw (weekday, hour, weekday_again time.weekday p.weekday_fits, clock_again time.clock p.clock_is)

  pub time_back : time_of time_voids (time_fields time) ≡ Some time
  time_back =
      let few = clock_few time.clock p.clock_is in
      rw (
        weekday_back time.weekday p.weekday_fits,
        octet_back (hour_of time.clock) (omega arith),
        octet_back (minute_of time.clock) (omega arith),
        octet_back (second_of time.clock) (omega arith),
        clock_back time.clock p.clock_is,
      )

pub time_octets_made : (time : TimePart) → ProperTime time → Octets (time_octets time)
time_octets_made time p = let few = clock_few time.clock p.clock_is in omega arith

pub time_ranged : (time : TimePart) → ProperTime time → AllByRecursion InRange (time_fields time)
time_ranged time p =
    let few = clock_few time.clock p.clock_is in
    in_range (unwrap_or time.weekday 0 ∷ (hour_of time.clock ∷ (minute_of time.clock ∷ (second_of time.clock ∷ []))))
    (omega (arith, below_or 8 time.weekday (omega arith) p.weekday_fits))
