use Rattle.std.proofs.Common.{◌≡◌, ap, ◌∙◌, w64, SFits, rules}
use Rattle.std.proofs.lemmas.Int.{to_z-of_z}
use Rattle.listing.specs.Read.{read_fields}
use Rattle.listing.specs.Line.{got_as, kept_in}
use Rattle.listing.specs.Fields.{lengthened}
use Rattle.listing.proofs.Listed.{further, both_shorter, fields_again}
use Rattle.listing.proofs.read.read_fields.Goals as goal

pub loop-field-smaller : goal.loop-field-smaller
loop-field-smaller c = both_shorter c.loop-field.text.now _ _ _ _ c.in_ok-field.ensures c.in-Some.ensures

pub loop-field-preserved : goal.loop-field-preserved
loop-field-preserved c =
    let fits : SFits w64 c.in_ok-field.field = search rules in
    let longer : kept_in c.longer-reading.result ≡ lengthened (kept_in c.loop-field.reading) c.in_ok-field.field = simp to_z-of_z at c.longer-reading.ensures in
    ap (λ k. got_as (further k) (read_fields c.in-Some.behind.now)) longer
    ∙ fields_again (kept_in c.loop-field.reading) c.loop-field.text.now _ _ c.in_ok-field.ensures _ _ c.in-Some.ensures
    ∙ c.loop-field.invariant
