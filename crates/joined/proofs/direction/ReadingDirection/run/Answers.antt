use Rattle.datapoint.specs.declared.refusal.Refusal.TheVariants.{IllegalPayload}
use Rattle.joined.specs.Laws.{reading_sized}
use Rattle.joined.proofs.Placed.{filled}
use Rattle.joined.proofs.direction.ReadingDirection.run.Goals as goal

pub returns : goal.returns
returns g c =
    let sized = reading_sized _ (g.met.T.DatapointType.lawful c.args.of.now) _ c.type_inv.items in
    let made = filled IllegalPayload _ _ _ c.args.out.now c.read.new.out c.requires.due c.requires.room _ c.read.result sized c.read.ensures in
    record { holds = rw c.or.ensures made.holds; ends = rw c.or.ensures made.ends }
