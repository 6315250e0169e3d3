-- The laws of the date and time. Assumes nothing.
use Rattle.std.specs.Prelude.{◌≡◌, ℕ, ◌<◌, List, ◌++◌, length, take, drop, ℤ, is_some, is_none, Some, Option, refl}
use Rattle.std.proofs.Common.{sym, ap, ap₂, ◌∙◌, arith}
use Rattle.std.proofs.ByRecursion.{All-append}
use Rattle.std.proofs.lemmas.List.{drop-drop, take-append-drop}
use Rattle.std.specs.Option.{option_map}
use Rattle.std.specs.List.{AllByRecursion}
use Rattle.datapoint.specs.Meaning.{Lawful, Octets, InRange}
use Rattle.moment.specs.declared.flags.Flags.{Flags}
use Rattle.moment.specs.declared.moment.Moment.{Moment}
use Rattle.moment.specs.declared.parts.DatePart.{DatePart}
use Rattle.moment.specs.declared.parts.TimePart.{TimePart}
use Rattle.clock.specs.Fields.{◌>>=◌}
use Rattle.moment.specs.Flags.{flags_in, flags_of, flags_octets, flags_fields}
use Rattle.moment.specs.Voidable.{date_in, date_of, date_octets, date_fields, time_in, time_of, time_octets, time_fields}
use Rattle.moment.specs.DateTime.{flags_told, moment_in, moment_of, moment_octets, moment_fields, date_time}
use Rattle.clock.specs.Taken.{by_next, by_end, by_bind, by_some, by_mapped}
use Rattle.clock.specs.Both.{Reads, Writes, lawful_both}
use Rattle.moment.specs.PartLaws.{ProperDate, date_read, date_again, date_written, date_back, date_octets_made, date_ranged, ProperTime, time_read, time_again, time_written, time_back, time_octets_made, time_ranged}
use Rattle.moment.specs.FlagLaws.{flags_were, flags_back, flags_again, flags_octets_made, flags_ranged}

pub record ProperMoment (m : Moment) : Type 0 where
  pub date_is : ProperDate m.date
  pub time_is : ProperTime m.time

-- with the flags and the date of a reading, its time decides
pub decided :
    (xs : List ℤ) (flags : Flags) (date : DatePart) (time : Option TimePart) → flags_of (drop 7 xs) ≡ Some flags →
    date_of flags.voids (take 3 xs) ≡ Some date → time_of flags.voids (take 4 (drop 3 xs)) ≡ time →
    moment_of xs ≡ (time >>= λ t. Some (record { date = date; time = t; status = flags.status }))
decided xs flags date time f d t =
    let told : Flags → DatePart → TimePart → Option Moment = λ f d t. Some (record { date = d; time = t; status = f.status }) in
    ap (λ (o : Option Flags). o >>= λ f. date_of f.voids (take 3 xs) >>= λ d. time_of f.voids (take 4 (drop 3 xs)) >>= told f d) f
    ∙ (ap (λ (o : Option DatePart). o >>= λ d. time_of flags.voids (take 4 (drop 3 xs)) >>= told flags d) d
    ∙ ap (λ (o : Option TimePart). o >>= told flags date) t)

moment_read : (p : List ℕ) (m : Moment) → moment_in p ≡ Some m → Octets p → ProperMoment m × (length p ≡ 8)
moment_read =
    by_next _ _ λ years. by_next _ _ λ month. by_next _ _ λ day. by_next _ _ λ first. by_next _ _ λ minute. by_next _ _ λ second. by_next _ _ λ octet. by_next _ _ λ quality.
    by_end _ _ (
    by_bind (flags_in octet quality) _ _ λ flags ef. by_bind (date_in flags.voids years month day) _ _ λ date ed. by_bind (time_in flags.voids first minute second) _ _ λ time et. by_some _ _ λ os.
    (record { date_is = date_read flags.voids years month day os.0 date ed; time_is = time_read flags.voids first minute second time et }, refl))

moment_back : (m : Moment) → ProperMoment m → moment_of (moment_fields m) ≡ Some m
moment_back m p =
    decided (moment_fields m) (flags_told m) m.date (Some m.time) (flags_back (flags_told m)) (date_back m.date p.date_is (is_none m.time.weekday) (is_none m.time.clock))
    (time_back m.time p.time_is (is_none m.date.years) (is_none m.date.day))

rejoined : (xs : List ℤ) → take 3 xs ++ (take 4 (drop 3 xs) ++ drop 7 xs) ≡ xs
rejoined xs =
    ap (λ (ys : List ℤ). take 3 xs ++ ys) (ap (λ (ys : List ℤ). take 4 (drop 3 xs) ++ ys) (sym (drop-drop 4 3 xs)) ∙ take-append-drop 4 (drop 3 xs))
    ∙ take-append-drop 3 xs

moment_written : (xs : List ℤ) (m : Moment) → moment_of xs ≡ Some m → ProperMoment m × (moment_fields m ≡ xs)
moment_written xs =
    by_bind (flags_of (drop 7 xs)) _ _ λ flags ef. by_bind (date_of flags.voids (take 3 xs)) _ _ λ date ed. by_bind (time_of flags.voids (take 4 (drop 3 xs))) _ _ λ time et. by_some _ _ (
    let dw = date_written flags.voids (take 3 xs) date ed in
    let tw = time_written flags.voids (take 4 (drop 3 xs)) time et in
    let told : flags_told (record { date = date; time = time; status = flags.status }) ≡ flags = λ i. record {
      voids = record { year = sym dw.year_void i; date = sym dw.date_void i; weekday = sym tw.weekday_void i; time = sym tw.time_void i };
      status = flags.status;
    } in
    let fw = ap flags_fields told ∙ flags_were (drop 7 xs) flags ef in
    (record { date_is = dw.proper; time_is = tw.proper }, ap₂ ◌++◌ dw.fields_are (ap₂ ◌++◌ tw.fields_are fw) ∙ rejoined xs))

moment_again : (m : Moment) → ProperMoment m → moment_in (moment_octets m) ≡ Some m
moment_again m p = rw (flags_again (flags_told m), date_again m.date p.date_is _ _, time_again m.time p.time_is _ _)

ranged : (m : Moment) → ProperMoment m → AllByRecursion InRange (moment_fields m)
ranged m p =
    All-append InRange (date_fields m.date) (time_fields m.time ++ flags_fields (flags_told m)) (date_ranged m.date p.date_is)
    (All-append InRange (time_fields m.time) (flags_fields (flags_told m)) (time_ranged m.time p.time_is) (flags_ranged (flags_told m)))

reads : (p : List ℕ) (xs : List ℤ) → date_time.reading p ≡ Some xs → Octets p → Reads date_time p xs
reads p =
    by_mapped moment_fields (moment_in p) _ λ m e os.
    let read = moment_read p m e os in
    record {
      sized = read.1;
      counted = refl;
      ranged = ranged m read.0;
      legal = ap (λ (o : Option Moment). is_some (option_map moment_octets o)) (moment_back m read.0);
    }

writes : (xs : List ℤ) (p : List ℕ) → date_time.payload xs ≡ Some p → Writes date_time xs p
writes xs =
    by_mapped moment_octets (moment_of xs) _ λ m e.
    let written = moment_written xs m e in
    record {
      octets_made =
          All-append (λ b. b < 256) (date_octets m.date) (time_octets m.time ++ flags_octets (flags_told m)) (date_octets_made m.date written.0.date_is)
          (All-append (λ b. b < 256) (time_octets m.time) (flags_octets (flags_told m)) (time_octets_made m.time written.0.time_is) (flags_octets_made (flags_told m)));
      back = ap (option_map moment_fields) (moment_again m written.0) ∙ ap Some written.1;
    }

pub lawful : Lawful date_time
lawful = lawful_both date_time (omega arith) reads writes
