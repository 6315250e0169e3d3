-- The laws of the time of day. Assumes nothing.
use Rattle.std.specs.Prelude.{◌≡◌, ℕ, List, ℤ, Some, refl}
use Rattle.std.proofs.Common.{arith}
use Rattle.std.proofs.lemmas.Int.{ints}
use Rattle.std.proofs.lemmas.Bool.Decides.{nat_tests}
use Rattle.datapoint.specs.Meaning.{Lawful, Octets}
use Rattle.clock.specs.Time.{time_of_day}
use Rattle.clock.specs.Taken.{by_next, by_end, by_field, by_when}
use Rattle.clock.specs.Both.{Reads, Writes, lawful_both}

reads : (p : List ℕ) (xs : List ℤ) → time_of_day.reading p ≡ Some xs → Octets p → Reads time_of_day p xs
reads = by_next _ _ λ first. by_next _ _ λ minute. by_next _ _ λ second. by_end _ _ (by_when _ _ _ (λ t os. record { sized = refl; counted = refl; ranged = grind (arith, ints, nat_tests); legal = grind (arith, nat_tests) }))

writes : (xs : List ℤ) (p : List ℕ) → time_of_day.payload xs ≡ Some p → Writes time_of_day xs p
writes = by_field _ _ λ weekday. by_field _ _ λ hour. by_field _ _ λ minute. by_field _ _ λ second. by_end _ _ (by_when _ _ _ (λ t. record { octets_made = grind (arith, nat_tests); back = grind (arith, nat_tests) }))

pub lawful : Lawful time_of_day
lawful = lawful_both time_of_day (omega arith) reads writes
