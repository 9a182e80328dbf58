use Rattle.std.proofs.Common.{List, set, sym, subst, ap, ◌∙◌}
use Rattle.table_shard.specs.Entry.{EntryView}
use Rattle.table_shard.specs.Marks.{marks_of}
use Rattle.table_shard.specs.Row.{IsRow, Lacks}
use Rattle.table_shard.proofs.Marks.{marks_set}
use Rattle.table_shard.proofs.Rows.{row_put, refilled}
use Rattle.table_shard.proofs.row.Row.put.Goals as goal

pub invariant_of-self : goal.invariant_of-self
invariant_of-self c =
    let row = c.self.inside.entries.items in
    let marks = c.self.inside.marks.items in
    let kept : IsRow (set row c.args.slot c.args.entry) = row_put row c.args.slot c.args.entry c.self.invariant.0 c.requires.entry
    (subst (λ (r : List EntryView). Lacks r c.args.entry.key) (sym c.self.view_is) c.requires.other) in
    let marked = refilled marks c.as_mut_slice.result.now c.args.slot c.args.mark c.as_mut_slice.ensures.value
    ∙ (marks_set row c.args.slot c.args.entry c.args.mark marks c.self.invariant.1 c.requires.mark
    ∙ ap marks_of (sym (refilled row c.as_mut_slice-2.result.now c.args.slot c.args.entry c.as_mut_slice-2.ensures.value))) in
    (subst IsRow (sym (refilled row c.as_mut_slice-2.result.now c.args.slot c.args.entry c.as_mut_slice-2.ensures.value)) kept, marked)
