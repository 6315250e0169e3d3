-- The laws of the date. Assumes nothing.
use Rattle.std.specs.Prelude.{◌≡◌, ℕ, List, ℤ, Some, refl}
use Rattle.std.proofs.Common.{arith}
use Rattle.std.proofs.lemmas.Int.{ints}
use Rattle.std.proofs.lemmas.Bool.Decides.{nat_tests}
use Rattle.datapoint.specs.Meaning.{Lawful, Octets}
use Rattle.clock.specs.Date.{date_only}
use Rattle.clock.specs.Taken.{by_next, by_end, by_field, by_when}
use Rattle.clock.specs.Both.{Reads, Writes, lawful_both}

reads : (p : List ℕ) (xs : List ℤ) → date_only.reading p ≡ Some xs → Octets p → Reads date_only p xs
reads = by_next _ _ λ day. by_next _ _ λ month. by_next _ _ λ digits. by_end _ _ (by_when _ _ _ (λ t os. record { sized = refl; counted = refl; ranged = grind (arith, ints, nat_tests); legal = grind (arith, nat_tests) }))

writes : (xs : List ℤ) (p : List ℕ) → date_only.payload xs ≡ Some p → Writes date_only xs p
writes = by_field _ _ λ day. by_field _ _ λ month. by_field _ _ λ year. by_end _ _ (by_when _ _ _ (λ t. record { octets_made = grind (arith, nat_tests); back = grind (arith, nat_tests) }))

pub lawful : Lawful date_only
lawful = lawful_both date_only (omega arith) reads writes
