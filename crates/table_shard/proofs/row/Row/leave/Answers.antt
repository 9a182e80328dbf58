use Rattle.std.proofs.Common.{◌≡◌, ◌<◌, List, length, set, get_or, sym, subst, ap, ◌∙◌}
use Rattle.table_shard.specs.Entry.{EntryView, FitsKey, updated}
use Rattle.table_shard.specs.Marks.{marks_of}
use Rattle.table_shard.specs.Row.{IsRow, left}
use Rattle.table_shard.proofs.Marks.{marks_left}
use Rattle.table_shard.proofs.Rows.{row_left, refilled, some_within, left-set}
use Rattle.table_shard.proofs.row.Row.leave.Goals as goal

pub invariant_of-self : goal.invariant_of-self
invariant_of-self c =
    let items = c.self.inside.entries.items in
    let e = c.index-as_mut_slice-slot.result in
    let there : c.args.slot < length items = subst (λ (row : List EntryView). c.args.slot < length row) (sym c.self.view_is)
    (some_within (λ (entry : EntryView). FitsKey entry.key c.args.update) c.args.self.now c.args.slot c.requires) in
    let at : e ≡ get_or items c.args.slot e = c.index-as_mut_slice-slot.is ∙ ap (λ (l : List EntryView). get_or l c.args.slot e) c.as_mut_slice.ensures.value in
    let stays = refilled items c.as_mut_slice.result.now c.args.slot c.make.new.self c.as_mut_slice.ensures.value in
    let makes : c.make.new.self ≡ updated e c.args.update = c.make.ensures ∙ ap (λ (h : EntryView). updated h c.args.update) (sym c.index-as_mut_slice-slot.is) in
    let is_left : set items c.args.slot c.make.new.self ≡ left items c.args.slot c.args.update =
    ap (set items c.args.slot) makes ∙ sym (left-set items c.args.slot e c.args.update there at) in (
      subst IsRow (sym stays) (row_left items c.args.slot e c.make.new.self c.args.update c.self.invariant.0 there at makes c.laws.ensures),
      c.self.invariant.1 ∙ (sym (marks_left items c.args.slot c.args.update) ∙ ap marks_of (sym (stays ∙ is_left))),
    )

pub returns : goal.returns
returns c =
    let items = c.self.inside.entries.items in
    let e = c.index-as_mut_slice-slot.result in
    let there : c.args.slot < length items = subst (λ (row : List EntryView). c.args.slot < length row) (sym c.self.view_is)
    (some_within (λ (entry : EntryView). FitsKey entry.key c.args.update) c.args.self.now c.args.slot c.requires) in
    let at : e ≡ get_or items c.args.slot e = c.index-as_mut_slice-slot.is ∙ ap (λ (l : List EntryView). get_or l c.args.slot e) c.as_mut_slice.ensures.value in
    refilled items c.as_mut_slice.result.now c.args.slot c.make.new.self c.as_mut_slice.ensures.value
    ∙ (ap (set items c.args.slot) (c.make.ensures ∙ ap (λ (h : EntryView). updated h c.args.update) (sym c.index-as_mut_slice-slot.is))
    ∙ (sym (left-set items c.args.slot e c.args.update there at) ∙ ap (λ (row : List EntryView). left row c.args.slot c.args.update) c.self.view_is))
