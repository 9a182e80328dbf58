use Rattle.std.proofs.Common.{◌≡◌, ◌<◌, ◌++◌, [], ◌∷◌, List, length, sym, subst, ◌∙◌}
use Rattle.table_shard.specs.Entry.{EntryView}
use Rattle.table_shard.specs.Marks.{marks_of}
use Rattle.table_shard.specs.Row.{IsRow, Lacks}
use Rattle.table_shard.proofs.Marks.{marks_pushed}
use Rattle.table_shard.proofs.Rows.{row_pushed}
use Rattle.table_shard.proofs.row.Row.push.Goals as goal

pub invariant_of-self : goal.invariant_of-self
invariant_of-self c =
    let row = c.self.inside.entries.items in
    let kept : IsRow (row ++ c.args.entry ∷ []) = row_pushed row c.args.entry c.self.invariant.0
    (subst (λ (r : List EntryView). length r < 8) (sym c.self.view_is) c.requires.room)
    c.requires.entry
    (subst (λ (r : List EntryView). Lacks r c.args.entry.key) (sym c.self.view_is) c.requires.other) in
    let marked : c.push.new.self.items ≡ marks_of (row ++ c.args.entry ∷ []) =
    c.push.ensures.items ∙ marks_pushed row c.args.entry c.args.mark c.self.inside.marks.items c.self.invariant.1 c.requires.mark in
    subst (λ (r : List EntryView). IsRow r × (c.push.new.self.items ≡ marks_of r)) (sym c.push-2.ensures.items) (kept, marked)
