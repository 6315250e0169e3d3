use Rattle.std.proofs.Common.{rules, arith}
use Rattle.text.proofs.Fields.{shown_more}
use Rattle.text.proofs.text.fields.Goals as goal

pub loop-i-preserved : goal.loop-i-preserved
loop-i-preserved c = shown_more _ _ _ _ _ (omega arith) c.loop-i-test.true c.loop-i.invariant (search rules)
