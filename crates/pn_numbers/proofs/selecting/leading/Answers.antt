use Rattle.std.proofs.Common.{sym, ap, ◌∙◌}
use Rattle.std.specs.Prelude.{option_and_then}
use Rattle.std.proofs.lemmas.Option.{slice_get-get_or}
use Rattle.pn_numbers.specs.Selection.{selecting_number, number_at}
use Rattle.pn_numbers.proofs.selecting.leading.Goals as goal

pub loop-place-preserved : goal.loop-place-preserved
loop-place-preserved c =
    c.extended-lead.ensures (number_at c.args.node c.args.children.now) c.loop-place.invariant
    (ap (option_and_then (selecting_number c.args.node)) (slice_get-get_or c.args.children.now c.loop-place.place _ c.loop-place-test.true)
    ∙ sym c.selecting_number.ensures)
