use Rattle.std.proofs.Common.{refl}
use Rattle.std.proofs.lemmas.Result.{err_from_is_err_and}
use Rattle.points.proofs.Readings.{as_understood}
use Rattle.points.proofs.take.understand.Goals as goal

pub returns-in_err-count : goal.returns-in_err-count
returns-in_err-count g c =
    let p = err_from_is_err_and c.from_residual.result c.from_residual.ensures.1 in
    let law = g.met.B.Book.lawful c.args.book.now c.args.number in
    rw (p.1, p.2) (as_understood _ law c.args.payload.now (λ i. (c.type_inv.payload i).fits) _ _ _ refl c.in_err-count.ensures)
