use Rattle.std.proofs.Common.{◌-◌, ◌<◌, List, length, get_or, take, drop, ℤ, pos, w64, SFits, rules}
use Rattle.std.proofs.lemmas.Slice.{first_rest}
use Rattle.std.proofs.lemmas.Int.{to_z-of_z}
use Rattle.listing.proofs.Room.{field_room}
use Rattle.listing.proofs.Tails.{tail_written, fields_written, tails_room, fields_room}
use Rattle.listing.proofs.sheet.Sheet.push_fields.Goals as goal

pub loop-field-preserved : goal.loop-field-preserved
loop-field-preserved g c =
    let rest : List ℤ = take (length c.args.fields.now - 1) (drop 1 c.args.fields.now) in
    let i = c.loop-field.field-index in
    let fits : SFits w64 (get_or rest i (pos 0)) = search rules in
    record {
      text = tail_written g.row.CAP _ rest i _ _ c.loop-field-test.true c.loop-field.invariant.text (simp to_z-of_z at c.push_next.ensures);
      short = tails_room rest i c.loop-field-test.true (field_room _ fits) c.loop-field.invariant.short;
    }

pub returns : goal.returns
returns g c =
    let fields : List ℤ = c.args.fields.now in
    let some : 0 < length fields = search rules in
    let fits : SFits w64 (get_or fields 0 (pos 0)) = search rules in
    let parts = first_rest fields (pos 0) some in
    let all = c.loop-field-test.false in
    record {
      text = fields_written g.row.CAP _ c.args.key.now fields _ _ _ _ _ parts all (simp to_z-of_z at c.push_integer.ensures.text) c.loop-field.invariant.text;
      short = fields_room fields _ _ _ parts all c.loop-field.auto.field-index-end (field_room _ fits) c.loop-field.invariant.short;
    }
