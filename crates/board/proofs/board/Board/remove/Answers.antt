use Rattle.std.proofs.Common.{Some, ap, rules, arith}
use Rattle.model.specs.Calls.{removing}
use Rattle.board.specs.Board.{with_points}
use Rattle.board.proofs.Tables.{changed_at}
use Rattle.board.proofs.board.Board.remove.Goals as goal

pub returns : goal.returns
returns g c =
    rw (← c.self.view_is) (ap (with_points c.self.inside.book) (changed_at c.self.inside.points c.args.point _ c.index-self-at.result (Some c.in_ok-ok_or.field-0) _ removing _ c.in_ok-at.ensures (search rules) (grind arith) (grind arith)))
