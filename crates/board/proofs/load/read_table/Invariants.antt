use Rattle.std.proofs.Common.{◌≡◌, ◌+◌, ◌≤◌, length}
use Rattle.model.specs.Load.{loaded}
use Rattle.board.specs.Table.{points_of}
use Rattle.board.proofs.Loads.{left}
use Rattle.board.proofs.load.read_table.Given as goal

abbrev pub invariant-loop-rest : goal.invariant-loop-rest
invariant-loop-rest g l =
    let types = g.B.Book.types l.book in
    record {
      said : left types (length l.text) l.line l.last l.rest (points_of l.points) ≡ loaded types l.text;
      short : l.line + length l.rest ≤ length l.text + 1;
      full : length l.points ≡ 48;
    }

abbrev pub decreases-loop-rest : goal.decreases-loop-rest
decreases-loop-rest g l = length l.rest
