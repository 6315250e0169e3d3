use Rattle.std.proofs.Common.{◌≡◌, ◌+◌, ◌*◌, ◌≤◌, ◌++◌, length}
use Rattle.std.specs.Iterator.Adapters.{zip_first, zip_second}
use Rattle.std.specs.Slice.Iter.{iter_rest}
use Rattle.model.specs.Points.{list_of, show_from}
use Rattle.board.specs.Table.{points_of}
use Rattle.board.proofs.lines.lines.Given as goal

abbrev pub invariant-loop-point : goal.invariant-loop-point
invariant-loop-point l =
    let next = (zip_first l.point-iterator).start in
    let rest = iter_rest (zip_second l.point-iterator) in
    record {
      ready : (goal.iterator-loop-point).can_next l.point-iterator;
      finite : (goal.iterator-loop-point).is_finite l.point-iterator;
      listed : l.page ++ show_from next (points_of rest) ≡ list_of (points_of l.points);
      room : length l.page + 768 * length rest ≤ 36864;
      numbered : next + length rest ≤ 49;
    }
