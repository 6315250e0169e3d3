use Rattle.std.proofs.Common.{refl, rules}
use Rattle.board.proofs.Tables.{changed_at}
use Rattle.board.proofs.table.at_placed.Goals as goal

pub returns-in-Some : goal.returns-in-Some
returns-in-Some g c f none does =
    changed_at _ c.args.point _ _ _ _ f _ c.in_ok-at.ensures (search rules) c.in-Some.is (does _ _ _ (record { shown = _; shows = refl; left = _; met = c.step.ensures; leaves = refl }))
