use Rattle.datapoint.specs.declared.refusal.Refusal.TheVariants.{IllegalReading}
use Rattle.joined.specs.Laws.{proper_sized}
use Rattle.joined.proofs.Placed.{filled}
use Rattle.joined.proofs.direction.WritingDirection.run.Goals as goal

pub returns : goal.returns
returns g c =
    let sized = proper_sized _ (g.met.T.DatapointType.lawful c.args.of.now) _ in
    let made = filled IllegalReading _ _ _ c.args.out.now c.write.new.out c.requires.due c.requires.room _ c.write.result sized c.write.ensures in
    record { holds = rw c.or.ensures made.holds; ends = rw c.or.ensures made.ends }
