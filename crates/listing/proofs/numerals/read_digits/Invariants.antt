use Rattle.std.proofs.Common.{◌≡◌, ◌≤◌, length}
use Rattle.listing.specs.Read.{read_digits}
use Rattle.listing.proofs.numerals.read_digits.Given as goal

abbrev pub invariant-loop-text : goal.invariant-loop-text
invariant-loop-text l = (l.n ≤ l.limit) × (read_digits l.limit l.n l.text ≡ read_digits l.limit 0 l.fn.text)

abbrev pub decreases-loop-text : goal.decreases-loop-text
decreases-loop-text l = length l.text
