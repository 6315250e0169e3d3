use Rattle.std.proofs.Common.{◌≡◌}
use Rattle.text.proofs.Fields.{shown}
use Rattle.text.proofs.text.fields.Given as goal

abbrev pub invariant-loop-i : goal.invariant-loop-i
invariant-loop-i l = l.fields ≡ shown l.payload l.i
