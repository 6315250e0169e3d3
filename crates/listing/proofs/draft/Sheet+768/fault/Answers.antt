use Rattle.listing.proofs.Room.{fault_room}
use Rattle.listing.proofs.Written.{whole}
use Rattle.listing.proofs.draft.Sheet+768.fault.Goals as goal

pub returns : goal.returns
returns c = whole 768 _ _ _ c.new-draft.ensures c.push_fault.ensures (fault_room c.args.line c.args.cause c.ranges.line.fits c.ranges.cause.fits)
