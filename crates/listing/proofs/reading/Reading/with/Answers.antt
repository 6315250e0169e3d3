use Rattle.std.proofs.Common.{rules}
use Rattle.std.proofs.lemmas.Int.{to_z-of_z}
use Rattle.listing.proofs.Kept.{kept_with}
use Rattle.listing.proofs.reading.Reading.with.Goals as goal

pub returns : goal.returns
returns c =
    let fits = c.ranges.field in
    simp to_z-of_z (kept_with c.args.self.now.count c.args.self.now.places c.args.field (search rules) (search rules))
