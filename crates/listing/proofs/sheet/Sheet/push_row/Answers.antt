use Rattle.std.proofs.Common.{arith}
use Rattle.listing.specs.Fields.{row_of}
use Rattle.listing.proofs.Room.{row_room}
use Rattle.listing.proofs.sheet.Sheet.push_row.Goals as goal

pub returns-clause-short : goal.returns-clause-short
returns-clause-short g c = row_room (row_of c.args.line.now) (omega arith) (omega arith) (omega arith) (omega arith)
