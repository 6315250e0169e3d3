use Rattle.std.proofs.Common.{refl}
use Rattle.std.proofs.lemmas.Result.{err_from_is_err_and}
use Rattle.points.proofs.Readings.{as_accepted}
use Rattle.points.proofs.take.accept.Goals as goal

pub returns-in_err-write : goal.returns-in_err-write
returns-in_err-write g c =
    let p = err_from_is_err_and c.from_residual.result c.from_residual.ensures.1 in
    let law = g.met.B.Book.lawful c.args.book.now c.args.number in
    rw (p.1, p.2) (as_accepted _ law c.args.reading.now _ _ _ refl c.in_err-write.ensures)
