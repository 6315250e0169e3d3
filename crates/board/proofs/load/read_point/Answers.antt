use Rattle.std.proofs.Common.{◌≡◌, true, ltb, ap, ◌∙◌, rules}
use Rattle.std.proofs.lemmas.Result.{err_from_is_err_and}
use Rattle.model.specs.Calls.{on_board}
use Rattle.board.specs.Load.{with_front}
use Rattle.board.proofs.Loads.{front_as}
use Rattle.board.proofs.load.read_point.Goals as goal

pub returns-in_err-place_line-clause-said : goal.returns-in_err-place_line-clause-said
returns-in_err-place_line-clause-said g c =
    let p = err_from_is_err_and c.from_residual-in_err-place_line.result c.from_residual-in_err-place_line.ensures.1 in
    let read = rw c.in_ok-line.ensures.ok_part at c.read_line.ensures.line in
    let inside : on_board c.in_ok-line.line.point ≡ true = search rules in
    let above : ltb c.args.last c.in_ok-line.line.point ≡ true = search rules in
    rw (p.1, p.2) (ap (with_front _ _) c.in_err-place_line.ensures ∙ front_as (g.B.Book.types c.args.book.now) (g.met.B.Book.lawful c.args.book.now) _ _ _ _ read inside above)

pub returns-clause-said : goal.returns-clause-said
returns-clause-said g c =
    let read = rw c.in_ok-line.ensures.ok_part at c.read_line.ensures.line in
    let inside : on_board c.in_ok-line.line.point ≡ true = search rules in
    let above : ltb c.args.last c.in_ok-line.line.point ≡ true = search rules in
    ap (with_front _ _) c.in_ok-place_line.ensures ∙ front_as (g.B.Book.types c.args.book.now) (g.met.B.Book.lawful c.args.book.now) _ _ _ _ read inside above
