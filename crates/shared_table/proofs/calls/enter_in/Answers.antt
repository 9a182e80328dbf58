use Rattle.std.proofs.Common.{◌≡◌, ◌<◌, List, ℕ, length, refl, subst, sym, ap}
use Rattle.notes.specs.declared.words.Kept.{Kept}
use Rattle.notes.specs.declared.words.Kept.TheVariants.{Slot, Unkept}
use Rattle.table_shard.specs.Shard.{row_of}
use Rattle.worker_counts.specs.declared.view.TheConstants.{MOST_ADDED}
use Rattle.shared_table.specs.Calls.{EntersAndAdds}
use Rattle.shared_table.specs.Seat.{RowSeatView, at_row}
use Rattle.shared_table.proofs.Seats.{same_entered, slot_low}
use Rattle.shared_table.proofs.calls.enter_in.Goals as goal

pub add-requires-clause-slot : goal.add-requires-clause-slot
add-requires-clause-slot g c =
    slot_low c.enter-kept.new.self c.args.key.now c.in-Slot.slot c.in-Slot.ensures.some c.in-Slot.ensures.slots c.in-Slot.ensures.kept

pub add-requires-clause-room : goal.add-requires-clause-room
add-requires-clause-room g c =
    let entered = c.in-Slot.ensures.entered in
    let same = same_entered (row_of c.args.shard.now c.args.key.now) c.args.key.now c.go_to.new.self entered.counts c.enter-kept.new.pins entered.asks in
    let before : c.go_to.new.self.seat.view.added ≡ c.args.seat.now.seat.view.added = ap (λ (s : RowSeatView). s.seat.view.added) c.go_to.ensures in
    subst (λ (added : List ℕ). length added < MOST_ADDED) (sym same.added) (subst (λ (added : List ℕ). length added < MOST_ADDED) (sym before) c.requires.room)

pub returns-in-Slot : goal.returns-in-Slot
returns-in-Slot g c =
    let entered = c.in-Slot.ensures.entered in
    let same = same_entered (row_of c.args.shard.now c.args.key.now) c.args.key.now c.go_to.new.self entered.counts c.enter-kept.new.pins entered.asks in
    let low = slot_low c.enter-kept.new.self c.args.key.now c.in-Slot.slot c.in-Slot.ensures.some c.in-Slot.ensures.slots c.in-Slot.ensures.kept in
    subst (λ (s : RowSeatView). EntersAndAdds c.args.shard.now s c.args.key.now c.args.numbers (Slot c.in-Slot.slot) c.enter-kept.new.self c.add.new.self) c.go_to.ensures
    (record { between = c.enter-kept.new.pins; enters = entered; same = same; adds = (low, c.add.ensures) })

pub returns-in-Unkept : goal.returns-in-Unkept
returns-in-Unkept g c =
    let entered = c.in-Unkept.ensures.entered in
    let same = same_entered (row_of c.args.shard.now c.args.key.now) c.args.key.now c.go_to.new.self entered.counts c.enter-kept.new.pins entered.asks in
    subst (λ (kept : Kept). EntersAndAdds c.args.shard.now (at_row c.args.seat.now c.args.site.word) c.args.key.now c.args.numbers kept c.enter-kept.new.self c.enter-kept.new.pins) (sym c.in-Unkept.is)
    (subst (λ (s : RowSeatView). EntersAndAdds c.args.shard.now s c.args.key.now c.args.numbers Unkept c.enter-kept.new.self c.enter-kept.new.pins) c.go_to.ensures
    (record { between = c.enter-kept.new.pins; enters = entered; same = same; adds = refl }))
