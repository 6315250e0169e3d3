use Rattle.std.proofs.Common.{rules}
use Rattle.listing.proofs.Sheets.{zeros_left}
use Rattle.listing.proofs.sheet.Sheet.append.Goals as goal

pub invariant_of-self : goal.invariant_of-self
invariant_of-self g c = (search rules, search rules, zeros_left g.row.CAP c.self.inside.len _ c.self.inside.octets _ (search rules) (search rules) (search rules) (search rules) (search rules))
