use Rattle.std.proofs.Common.{rules}
use Rattle.listing.proofs.Sheets.{zeros_behind}
use Rattle.listing.proofs.sheet.Sheet.push_octet.Goals as goal

pub invariant_of-self : goal.invariant_of-self
invariant_of-self g c = (search rules, search rules, zeros_behind g.row.CAP c.self.inside.len c.self.inside.octets c.args.octet (search rules))
