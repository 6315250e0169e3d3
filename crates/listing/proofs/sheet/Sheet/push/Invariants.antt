use Rattle.std.proofs.Common.{◌≡◌, ◌++◌, take}
use Rattle.listing.proofs.sheet.Sheet.push.Given as goal

abbrev pub invariant-loop-octet : goal.invariant-loop-octet
invariant-loop-octet g l = l.self ≡ take g.row.CAP (l.initial.self ++ take l.octet-index l.octets)
