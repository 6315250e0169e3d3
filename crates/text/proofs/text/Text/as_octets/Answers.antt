use Rattle.std.proofs.Common.{rules, refl, arith}
use Rattle.text.proofs.Fields.{taken_none, taken_more, taken_all}
use Rattle.text.proofs.text.Text.as_octets.Goals as goal

pub loop-i-init : goal.loop-i-init
loop-i-init c = taken_none _ _ _ refl

pub loop-i-preserved : goal.loop-i-preserved
loop-i-preserved c = taken_more _ _ _ _ _ (omega arith) c.loop-i.invariant (search rules)

pub returns : goal.returns
returns c = taken_all _ _ _ _ (omega arith) (omega arith) c.loop-i.invariant
