use Rattle.std.proofs.Common.{◌≡◌, length}
use Rattle.listing.specs.Read.{read_fields}
use Rattle.listing.specs.Fields.{kept}
use Rattle.listing.specs.Line.{got_as, kept_in}
use Rattle.listing.proofs.Listed.{further}
use Rattle.listing.proofs.read.read_fields.Given as goal

abbrev pub invariant-loop-field : goal.invariant-loop-field
invariant-loop-field l = got_as (further (kept_in l.reading)) (read_fields l.text) ≡ got_as kept (read_fields l.fn.text)

abbrev pub decreases-loop-field : goal.decreases-loop-field
decreases-loop-field l = length l.text
