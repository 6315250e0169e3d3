use Rattle.listing.proofs.Written.{whole}
use Rattle.listing.proofs.draft.Sheet+768.line.Goals as goal

pub returns : goal.returns
returns c = whole 768 _ _ _ c.new-draft.ensures c.push_row.ensures.text c.push_row.ensures.short
