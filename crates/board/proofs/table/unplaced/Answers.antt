use Rattle.std.proofs.Common.{refl}
use Rattle.model.specs.Points.{empty}
use Rattle.board.proofs.table.unplaced.Goals as goal

pub returns : goal.returns
unfolding empty
returns c = refl
