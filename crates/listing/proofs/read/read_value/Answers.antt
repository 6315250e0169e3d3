use Rattle.std.proofs.Common.{sym, ap, ◌∙◌}
use Rattle.listing.specs.Line.{got_as, held_fields}
use Rattle.listing.specs.Read.{read_fields}
use Rattle.listing.proofs.Lines.{held_these}
use Rattle.listing.proofs.read.read_value.Goals as goal

pub returns : goal.returns
returns c =
    rw (← c.in_default.ensures) (ap (got_as held_fields) c.in_ok-reading.ensures ∙ sym (held_these (read_fields c.args.text.now)))
