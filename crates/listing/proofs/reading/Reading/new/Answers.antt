use Rattle.std.proofs.Common.{arith, rules}
use Rattle.listing.proofs.Kept.{kept_new}
use Rattle.listing.proofs.reading.Reading.new.Goals as goal

pub returns : goal.returns
returns c = kept_new c.args.numbers.now c.copy_from_slice.new.self _ (search rules) (omega arith)
