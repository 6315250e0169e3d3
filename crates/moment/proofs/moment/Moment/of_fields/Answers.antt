use Rattle.std.proofs.Common.{Some, None, sym, ap, ◌∙◌}
use Rattle.std.proofs.lemmas.List.{take_rest}
use Rattle.moment.specs.Flags.{flags_of}
use Rattle.moment.specs.DateTimeLaws.{decided}
use Rattle.moment.proofs.moment.Moment.of_fields.Goals as goal

pub returns-in_err-time : goal.returns-in_err-time
returns-in_err-time c =
    c.from_residual-in_err-time.ensures
    ∙ sym
    (decided c.args.reading.now _ _ None (ap flags_of (sym (take_rest c.args.reading.now 7)) ∙ sym c.in_ok-flags.ensures)
    (sym c.in_ok-date.ensures) (sym c.in_err-time.ensures))

pub returns : goal.returns
returns c =
    sym
    (decided c.args.reading.now _ _ (Some _) (ap flags_of (sym (take_rest c.args.reading.now 7)) ∙ sym c.in_ok-flags.ensures)
    (sym c.in_ok-date.ensures) (sym c.in_ok-time.ensures))
