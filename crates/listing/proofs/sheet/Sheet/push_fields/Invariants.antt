use Rattle.std.proofs.Common.{◌≡◌, ◌*◌, ◌≤◌, ◌++◌, length, take}
use Rattle.listing.proofs.Tails.{tails}
use Rattle.listing.proofs.sheet.Sheet.push_fields.Given as goal

abbrev pub invariant-loop-field : goal.invariant-loop-field
invariant-loop-field g l =
    record {
      text : l.self ≡ take g.row.CAP (l.initial.self ++ tails (take l.field-index l.rest));
      short : length (tails (take l.field-index l.rest)) ≤ 21 * l.field-index;
    }
