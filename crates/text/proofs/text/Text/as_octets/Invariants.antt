use Rattle.text.proofs.Fields.{Taken}
use Rattle.text.proofs.text.Text.as_octets.Given as goal

abbrev pub invariant-loop-i : goal.invariant-loop-i
invariant-loop-i l = Taken l.self.highest l.reading l.octets l.i
