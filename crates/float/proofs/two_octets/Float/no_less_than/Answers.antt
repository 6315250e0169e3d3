use Rattle.float.specs.Laws.{smallest_exponent}
use Rattle.float.proofs.two_octets.Float.no_less_than.Goals as goal

pub returns-clause-smallest : goal.returns-clause-smallest
returns-clause-smallest c = smallest_exponent
