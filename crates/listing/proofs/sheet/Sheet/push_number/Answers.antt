use Rattle.listing.proofs.Room.{number_room}
use Rattle.listing.proofs.sheet.Sheet.push_number.Goals as goal

pub returns-clause-short : goal.returns-clause-short
returns-clause-short g c = number_room c.args.number c.push_integer.ensures.short c.push_integer-2.ensures.short
