use Rattle.std.proofs.Common.{◌≡◌, ◌∙◌, ℕ, List, get_or, ap, subst}
use Rattle.std.specs.Prelude.{Option, None, IfSome, IsSomeAnd, slice_get}
use Rattle.table_shard.specs.Entry.{EntryView, IsFirstWithin}
use Rattle.table_shard.specs.Row.{HoldsAt}
use Rattle.table_shard.proofs.Looked.{at_some, looks_open}
use Rattle.table_shard.proofs.row.Row.look.Goals as goal

pub returns-clause-looks : goal.returns-clause-looks
returns-clause-looks g c =
    let row = c.args.self.now in
    let slot = c.in-Some-own.slot in
    let entry = c.index-as_slice-slot.result in
    let at : entry ≡ get_or row slot entry = c.index-as_slice-slot.is ∙ ap (λ (l : List EntryView). get_or l slot entry) (c.as_slice-2.ensures.value ∙ c.self.view_is) in
    let none : IsFirstWithin c.args.path.now entry.notes None =
    at_some (λ (e : EntryView). IsFirstWithin c.args.path.now e.notes None) row slot entry at
    (subst (λ (own : Option ℕ). IfSome own (λ (s : ℕ). IsSomeAnd (slice_get row s) (λ (e : EntryView). IsFirstWithin c.args.path.now e.notes None))) c.in-Some-own.is c.in_default.ensures.there) in
    looks_open g.P.Pins.told c.args.to row c.args.key.now c.args.path.now c.args.pins.now c.count.new.self slot entry c.numbers.result c.count.result
    (subst (λ (r : List EntryView). HoldsAt r slot c.args.key.now) c.self.view_is c.in-Some-own.ensures.some) at none c.numbers.ensures c.in_default-lent_note.ensures c.count.ensures.told
