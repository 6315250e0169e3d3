use Rattle.std.proofs.Common.{◌≡◌, ◌<◌, length, Ok, Err, sym, ◌∙◌, rules, arith}
use Rattle.std.proofs.lemmas.Result.{err_from_is_err_and}
use Rattle.board.specs.declared.fault.Cause.{Cause}
use Rattle.board.specs.Table.{points_of}
use Rattle.board.specs.Faults.{cause_number}
use Rattle.board.proofs.Loads.{left_all, left_none, left_faulty, left_more}
use Rattle.board.proofs.load.read_table.Goals as goal

pub loop-rest-init : goal.loop-rest-init
loop-rest-init g c = record {
  said = left_all (g.B.Book.types c.args.book.now) c.args.text.now _ c.unplaced-points.ensures;
  short = omega arith;
  full = search rules;
}

pub returns-in_err-point : goal.returns-in_err-point
returns-in_err-point g c =
    let p = err_from_is_err_and c.from_residual.result c.from_residual.ensures.1 in
    let is : (k : Cause) × (c.read_point.result ≡ Err k) × (c.in_err-point.field-0.0 ≡ record { line = c.loop-rest.line; cause = k }) = search rules in
    let said = rw is.1 at c.read_point.ensures.said in
    rw (p.1, p.2, is.2, ← c.loop-rest.invariant.said) (left_faulty (g.B.Book.types c.args.book.now) (length c.args.text.now) c.loop-rest.line c.loop-rest.last c.loop-rest.rest.now (points_of c.loop-rest.points) (cause_number is.0) (search rules) c.loop-rest.invariant.short said)

pub loop-rest-preserved : goal.loop-rest-preserved
loop-rest-preserved g c =
    let is : c.read_point.result ≡ Ok (c.in_ok-point.point, c.in_ok-point.placed, c.in_ok-point.next) = search rules in
    let shorter : length c.in_ok-point.next.now < length c.loop-rest.rest.now = search rules in
    let said = rw is at c.read_point.ensures.said in
    let more = left_more (g.B.Book.types c.args.book.now) (length c.args.text.now) c.loop-rest.line c.loop-rest.last c.loop-rest.rest.now c.loop-rest.points _ _ _ (search rules) c.loop-rest.invariant.short said in
    record {
      said = rw c.from.ensures (more ∙ c.loop-rest.invariant.said);
      short = omega arith;
      full = search rules;
    }

pub returns : goal.returns
returns g c =
    sym (left_none (g.B.Book.types c.args.book.now) (length c.args.text.now) c.loop-rest.line c.loop-rest.last c.loop-rest.rest.now _ (search rules)) ∙ c.loop-rest.invariant.said
