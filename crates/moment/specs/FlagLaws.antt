-- The laws of the flags of a date and time. Assumes nothing.
use Rattle.std.specs.Prelude.{◌≡◌, ℕ, ◌*◌, ◌/◌, ◌%◌, ◌^◌, ◌≤◌, Bool, true, false, not, ◌&&◌, List, [], ◌∷◌, ℤ, pos, Some, None, Option, unwrap_or, is_none, nat_eq, refl}
use Rattle.std.proofs.Common.{ap, ap₂, ◌∙◌, arith}
use Rattle.std.proofs.lemmas.Bool.{eq-eqb}
use Rattle.std.specs.List.{AllByRecursion}
use Rattle.datapoint.specs.Meaning.{Octets, InRange}
use Rattle.moment.specs.declared.flags.Flags.{Flags}
use Rattle.moment.specs.declared.flags.Voids.{Voids}
use Rattle.moment.specs.Bits.{bit, digit}
use Rattle.moment.specs.Flags.{flag_of, workday_told, workday_of, voids_of, flags_in, flags_of, flags_octet, flags_octets, flags_fields}
use Rattle.clock.specs.Taken.{by_next, by_end, by_when, by_bind, by_some}
use Rattle.moment.specs.FieldLaws.{in_range, flag_was, flag_back}

-- flags of fields

workday_made :
    (wd nwd : Bool) → not (wd && nwd) ≡ true →
    (digit wd ≡ digit (unwrap_or (workday_told wd nwd) false)) × (digit nwd ≡ digit (is_none (workday_told wd nwd)))
workday_made true true t = grind arith
workday_made true false t = (refl, refl)
workday_made false true t = (refl, refl)
workday_made false false t = (refl, refl)

workday_was :
    (x y : ℤ) (w : Option Bool) → workday_of (x ∷ (y ∷ [])) ≡ Some w → (x ≡ pos (digit (unwrap_or w false))) × (y ≡ pos (digit (is_none w)))
workday_was x y =
    by_bind (flag_of x) _ _ λ wd ew. by_bind (flag_of y) _ _ λ nwd en. by_when _ _ _ λ t.
    let made = workday_made wd nwd t in let xw = flag_was x wd ew in let yw = flag_was y nwd en in (cc, cc)

voids_were :
    (a b c d : ℤ) (v : Voids) → voids_of (a ∷ (b ∷ (c ∷ (d ∷ [])))) ≡ Some v →
    (a ≡ pos (digit v.year)) × (b ≡ pos (digit v.date)) × (c ≡ pos (digit v.weekday)) × (d ≡ pos (digit v.time))
voids_were a b c d =
    by_bind (flag_of a) _ _ λ ny ea. by_bind (flag_of b) _ _ λ nd eb. by_bind (flag_of c) _ _ λ nw ec. by_bind (flag_of d) _ _ λ nt ed. by_some _ _
    (flag_was a ny ea, flag_was b nd eb, flag_was c nw ec, flag_was d nt ed)

pub flags_were : (fs : List ℤ) (flags : Flags) → flags_of fs ≡ Some flags → flags_fields flags ≡ fs
flags_were =
    by_next _ _ λ f. by_next _ _ λ wd. by_next _ _ λ nwd. by_next _ _ λ ny. by_next _ _ λ nd. by_next _ _ λ ndow. by_next _ _ λ nt. by_next _ _ λ suti. by_next _ _ λ clq.
    by_end _ _ (
    by_bind _ _ _ λ fault ef. by_bind _ _ _ λ workday ew. by_bind _ _ _ λ voids ev. by_bind _ _ _ λ summer es. by_bind _ _ _ λ synchronized ec. by_some _ _ (
    let fw = flag_was f fault ef in let ww = workday_was wd nwd workday ew in let vw = voids_were ny nd ndow nt voids ev in
    let sw = flag_was suti summer es in let cw = flag_was clq synchronized ec in
    cc))

workday_back : (w : Option Bool) → workday_of (pos (digit (unwrap_or w false)) ∷ (pos (digit (is_none w)) ∷ [])) ≡ Some w
workday_back None = refl
workday_back (Some false) = refl
workday_back (Some true) = refl

voids_back :
    (v : Voids) → voids_of (pos (digit v.year) ∷ (pos (digit v.date) ∷ (pos (digit v.weekday) ∷ (pos (digit v.time) ∷ [])))) ≡ Some v
voids_back v = rw (flag_back v.year, flag_back v.date, flag_back v.weekday, flag_back v.time)

pub flags_back : (flags : Flags) → flags_of (flags_fields flags) ≡ Some flags
flags_back flags =
    rw (flag_back flags.status.fault, workday_back flags.status.workday, voids_back flags.voids, flag_back flags.status.summer, flag_back flags.status.synchronized)

-- flags in octets

pub digit_le : (b : Bool) → digit b ≤ 1
digit_le true = omega arith
digit_le false = omega arith

bit_is : (b : Bool) (k octet : ℕ) → octet / 2 ^ k % 2 ≡ digit b → bit k octet ≡ b
bit_is true k octet e = ap (λ (n : ℕ). nat_eq n 1) e
bit_is false k octet e = ap (λ (n : ℕ). nat_eq n 1) e

workday_is : (w : Option Bool) → workday_told (unwrap_or w false) (is_none w) ≡ w
workday_is None = refl
workday_is (Some wd) = refl

pub flags_again : (flags : Flags) → flags_in (flags_octet flags) (128 * digit flags.status.synchronized) ≡ Some flags
flags_again flags =
    let octet = flags_octet flags in
    let quality = 128 * digit flags.status.synchronized in
    let f = digit_le flags.status.fault in
    let wd = digit_le (unwrap_or flags.status.workday false) in
    let nwd = digit_le (is_none flags.status.workday) in
    let ny = digit_le flags.voids.year in
    let nd = digit_le flags.voids.date in
    let ndow = digit_le flags.voids.weekday in
    let nt = digit_le flags.voids.time in
    let suti = digit_le flags.status.summer in
    let clq = digit_le flags.status.synchronized in
    let zero = eq-eqb (quality % 128) 0 (omega arith) in
    rw zero
    (ap Some
    (λ i. record {
      voids = record {
        year = bit_is flags.voids.year 4 octet (omega arith) i;
        date = bit_is flags.voids.date 3 octet (omega arith) i;
        weekday = bit_is flags.voids.weekday 2 octet (omega arith) i;
        time = bit_is flags.voids.time 1 octet (omega arith) i;
      };
      status = record {
        fault = bit_is flags.status.fault 7 octet (omega arith) i;
        workday = (ap₂ workday_told (bit_is (unwrap_or flags.status.workday false) 6 octet (omega arith)) (bit_is (is_none flags.status.workday) 5 octet (omega arith)) ∙ workday_is flags.status.workday) i;
        summer = bit_is flags.status.summer 0 octet (omega arith) i;
        synchronized = bit_is flags.status.synchronized 7 quality (omega arith) i;
      };
    }))

pub flags_octets_made : (flags : Flags) → Octets (flags_octets flags)
flags_octets_made flags =
    omega (
      arith,
      digit_le flags.status.fault,
      digit_le (unwrap_or flags.status.workday false),
      digit_le (is_none flags.status.workday),
      digit_le flags.voids.year,
      digit_le flags.voids.date,
      digit_le flags.voids.weekday,
      digit_le flags.voids.time,
      digit_le flags.status.summer,
      digit_le flags.status.synchronized,
    )

pub flags_ranged : (flags : Flags) → AllByRecursion InRange (flags_fields flags)
flags_ranged flags =
    in_range
    (digit flags.status.fault ∷ (digit (unwrap_or flags.status.workday false) ∷ (digit (is_none flags.status.workday) ∷ (digit flags.voids.year ∷ (digit flags.voids.date ∷
    (digit flags.voids.weekday ∷ (digit flags.voids.time ∷ (digit flags.status.summer ∷ (digit flags.status.synchronized ∷ [])))))))))
    (omega (
      arith,
      digit_le flags.status.fault,
      digit_le (unwrap_or flags.status.workday false),
      digit_le (is_none flags.status.workday),
      digit_le flags.voids.year,
      digit_le flags.voids.date,
      digit_le flags.voids.weekday,
      digit_le flags.voids.time,
      digit_le flags.status.summer,
      digit_le flags.status.synchronized,
    ))
