use Rattle.std.proofs.Common.{◌∙◌}
use Rattle.listing.proofs.Lines.{said_row, onward}
use Rattle.listing.proofs.Rows.{reads_just_what_it_shows}
use Rattle.listing.proofs.read.read_line.Goals as goal

pub returns : goal.returns
returns c =
    let read = c.read_said.ensures ∙ said_row _ in
    record { line = read; onward = onward c.args.text.now _ read; law = reads_just_what_it_shows }
