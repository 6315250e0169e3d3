use Rattle.std.proofs.Common.{arith}
use Rattle.joined.proofs.Placed.{one_after_other}
use Rattle.joined.proofs.join.Joined.both.Goals as goal

pub returns-clause-holds : goal.returns-clause-holds
returns-clause-holds g c =
    one_after_other g.D.Direction.REFUSAL _ _ c.in_ok-middle.middle c.in_ok-rest.rest c.run.new.out c.run-2.new.out _
    (omega (arith, c.in_ok-middle.ensures.ends)) (omega (arith, c.in_ok-middle.ensures.ends, c.in_ok-rest.ensures.ends)) c.in_ok-middle.ensures.holds
    c.in_ok-rest.ensures.holds
