use Rattle.std.proofs.Common.{None, ap, rules, arith}
use Rattle.model.specs.Calls.{placing}
use Rattle.board.specs.Board.{with_points}
use Rattle.board.proofs.Tables.{changed_at}
use Rattle.board.proofs.board.Board.place.Goals as goal

pub returns : goal.returns
returns g c =
    let f = placing (g.B.Book.types c.self.inside.book) c.args.number in
    rw (← c.self.view_is) (ap (with_points c.self.inside.book) (changed_at c.self.inside.points c.args.point _ c.index-self-at.result None _ f _ c.in_ok-at.ensures (search rules) (grind arith) (grind arith)))
