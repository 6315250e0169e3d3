-- The laws of one field of a date and time: what it was, and that it comes back. Assumes nothing.
use Rattle.std.specs.Prelude.{◌≡◌, ℕ, ◌<◌, Bool, true, false, List, [], ◌∷◌, map, ℤ, pos, negsuc, Some, None, Option, IfSome, unwrap_or, is_none, ◌==◌, refl}
use Rattle.std.proofs.Common.{ap, arith}
use Rattle.std.proofs.lemmas.Int.{ints}
use Rattle.std.proofs.lemmas.Bool.{lt-ltb}
use Rattle.std.proofs.lemmas.Bool.Decides.{nat_tests}
use Rattle.std.specs.List.{AllByRecursion}
use Rattle.datapoint.specs.Meaning.{InRange}
use Rattle.datapoint.specs.Shapes.{when}
use Rattle.clock.specs.Fields.{octet_of}
use Rattle.moment.specs.Bits.{digit}
use Rattle.moment.specs.Flags.{flag_of}
use Rattle.moment.specs.Voidable.{voidable, unless, year_told, years_of, week_day, weekday_of}
use Rattle.clock.specs.Taken.{by_when, by_mapped}

-- numbers below 65536 are in range
pub in_range : (ns : List ℕ) → AllByRecursion (λ n. n < 65536) ns → AllByRecursion InRange (map pos ns)
in_range [] h = tt
in_range (n ∷ ns) h = let small = h.0 in (grind (arith, ints), in_range ns h.1)

pub octet_was : (x : ℤ) (n : ℕ) → octet_of x ≡ Some n → (x ≡ pos n) × (n < 256)
octet_was (pos m) n e = grind (arith, nat_tests)
octet_was (negsuc m) n e = cc

pub octet_back : (n : ℕ) → n < 256 → octet_of (pos n) ≡ Some n
octet_back n h = ap (λ (t : Bool). when t n) (lt-ltb n 256 h)

pub flag_was : (x : ℤ) (b : Bool) → flag_of x ≡ Some b → x ≡ pos (digit b)
flag_was (pos m) true e = grind (arith, nat_tests)
flag_was (pos m) false e = grind (arith, nat_tests)
flag_was (negsuc m) true e = cc
flag_was (negsuc m) false e = cc

pub flag_back : (b : Bool) → flag_of (pos (digit b)) ≡ Some b
flag_back true = refl
flag_back false = refl

-- what a void part was, and another
pub by_voidable :
    {A : Type 0} (void blank : Bool) (legal : Option A) (P : Bool → Option A → Type 0) → (blank ≡ true → P true None) →
    ((a : A) → legal ≡ Some a → P false (Some a)) → (o : Option A) → voidable void blank legal ≡ Some o → P void o
by_voidable true blank legal P none some = by_when blank None (P true) none
by_voidable false blank legal P none some = by_mapped Some legal (P false) some

-- a number that may be void is below n
abbrev pub Below : ℕ → Option ℕ → Type 0
Below n o = IfSome o (λ k. k < n)

pub below_or : (n : ℕ) (o : Option ℕ) → 0 < n → Below n o → unwrap_or o 0 < n
below_or n None z h = z
below_or n (Some k) z h = h

pub unless_below : (n : ℕ) (void : Bool) (k : ℕ) → k < n → Below n (unless void k)
unless_below n true k h = tt
unless_below n false k h = h

pub unless_back : (o : Option ℕ) → unless (is_none o) (unwrap_or o 0) ≡ o
unless_back None = refl
unless_back (Some k) = refl

-- the year's field
abbrev pub year_field : Option ℕ → ℕ
year_field years = unwrap_or (year_told years) 0

pub year_few : (years : Option ℕ) → Below 256 years → year_field years < 65536
year_few None h = omega arith
year_few (Some n) h = omega arith

pub years_was : (void : Bool) (x : ℤ) (y : Option ℕ) → years_of void x ≡ Some y → (x ≡ pos (year_field y)) × (void ≡ is_none y) × Below 256 y
years_was void (pos m) =
    by_voidable void (m == 0) _ (λ v y. (pos m ≡ pos (year_field y)) × (v ≡ is_none y) × Below 256 y) (λ z. (grind (arith, nat_tests), refl, tt))
    (by_when _ _ _ (λ t. (grind (arith, nat_tests), refl, grind (arith, nat_tests))))
years_was void (negsuc m) = λ y e. cc

pub years_back : (y : Option ℕ) → Below 256 y → years_of (is_none y) (pos (year_field y)) ≡ Some y
years_back None h = refl
years_back (Some n) h = grind (arith, nat_tests)

pub weekday_stands : (void blank : Bool) (weekday : ℕ) (w : Option ℕ) → voidable void blank (week_day weekday) ≡ Some w → Below 8 w
weekday_stands void blank weekday = by_voidable void blank _ (λ v w. Below 8 w) (λ z. tt) (by_when _ _ _ (λ t. grind (arith, nat_tests)))

pub weekday_again : (w : Option ℕ) → Below 8 w → voidable (is_none w) true (week_day (unwrap_or w 0)) ≡ Some w
weekday_again None h = refl
weekday_again (Some n) h = grind (arith, nat_tests)

pub weekday_was : (void : Bool) (x : ℤ) (w : Option ℕ) → weekday_of void x ≡ Some w → (x ≡ pos (unwrap_or w 0)) × (void ≡ is_none w) × Below 8 w
weekday_was void (pos m) =
    by_voidable void (m == 0) _ (λ v w. (pos m ≡ pos (unwrap_or w 0)) × (v ≡ is_none w) × Below 8 w) (λ z. (grind (arith, nat_tests), refl, tt))
    (by_when _ _ _ (λ t. (refl, refl, grind (arith, nat_tests))))
weekday_was void (negsuc m) = λ w e. cc

pub weekday_back : (w : Option ℕ) → Below 8 w → weekday_of (is_none w) (pos (unwrap_or w 0)) ≡ Some w
weekday_back None h = refl
weekday_back (Some n) h = grind (arith, nat_tests)
