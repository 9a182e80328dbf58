use Rattle.std.proofs.Common.{◌≡◌, ◌≤◌, ◌-◌, ℕ, Some, length, set, get_or, sym, subst}
use Rattle.notes.specs.declared.words.Kept.{Kept}
use Rattle.notes.specs.declared.words.Kept.TheVariants.{Slot}
use Rattle.board_core.specs.declared.keys.Key.{Key}
use Rattle.table_shard.specs.Spot.{word_of}
use Rattle.visit_log.specs.declared.words.Request.TheVariants.{Leave}
use Rattle.visit_log.specs.declared.words.Reply.TheVariants.{Leave as LeftIt}
use Rattle.visit_log.specs.Sound.{IsSoundUpdate}
use Rattle.visit_log.specs.Counts.{slot_once}
use Rattle.worker_core.specs.Port.{IsBooked}
use Rattle.lone_port.specs.Lone.{LonePortView, book_of, held_by}
use Rattle.lone_port.proofs.Words.{IsOwn, own}
use Rattle.lone_port.proofs.Asked.{leave_some, leave_keeps, leave_books, spot_place}
use Rattle.lone_port.proofs.lone.LonePortPort.leave.Goals as goal

-- What the caller holds, of the table as it was.
abbrev Holds : LonePortView → Kept → Key → Type 0
Holds port kept key = (word : ℕ) → slot_once (word_of (length port.pins)) kept key word ≤ held_by port.pins word

own_slot : (port now : LonePortView) (kept : Kept) (key : Key) (slot : ℕ) → port ≡ now → kept ≡ Slot slot → Holds now kept key → IsOwn port.pins key slot
own_slot port now kept key slot is slot_is held =
    own port.pins key slot (subst (λ (k : Kept). Holds port k key) slot_is (subst (λ (q : LonePortView). Holds q kept key) (sym is) held))

pub bounds-index_mut-slot : goal.bounds-index_mut-slot
bounds-index_mut-slot c =
    let port : LonePortView = record { rows = c.self.inside.shard; pins = c.self.inside.pins.items; desk = c.self.inside.desk; going = c.self.inside.is_going; stops = c.self.inside.stops; lends = c.self.inside.lends } in
    (own_slot port c.args.self.now c.args.kept c.args.key.now c.in-Slot.slot c.self.view_is c.in-Slot.is c.requires.held).low

pub overflow_sub-index_mut : goal.overflow_sub-index_mut
overflow_sub-index_mut c =
    let port : LonePortView = record { rows = c.self.inside.shard; pins = c.self.inside.pins.items; desk = c.self.inside.desk; going = c.self.inside.is_going; stops = c.self.inside.stops; lends = c.self.inside.lends } in
    let mine = own_slot port c.args.self.now c.args.kept c.args.key.now c.in-Slot.slot c.self.view_is c.in-Slot.is c.requires.held in
    let long : length port.rows ≡ length port.pins = sym c.self.invariant.as_many in
    leave_some port c.args.key.now c.spot_of-spot.result.place (length port.rows) c.in-Slot.slot c.index_mut.result.now
    long (spot_place c.spot_of-spot.result c.args.key.now (length port.rows) c.spot_of-spot.ensures.spot) c.spot_of-spot.ensures.there c.index_mut.ensures.value mine

pub bounds-index_mut-slot-2 : goal.bounds-index_mut-slot-2
bounds-index_mut-slot-2 c =
    let port : LonePortView = record { rows = c.self.inside.shard; pins = c.self.inside.pins.items; desk = c.self.inside.desk; going = c.self.inside.is_going; stops = c.self.inside.stops; lends = c.self.inside.lends } in
    (own_slot port c.args.self.now c.args.kept c.args.key.now c.in-Slot.slot c.self.view_is c.in-Slot.is c.requires.held).low

pub invariant_of-self : goal.invariant_of-self
invariant_of-self c =
    let port : LonePortView = record { rows = c.self.inside.shard; pins = c.self.inside.pins.items; desk = c.self.inside.desk; going = c.self.inside.is_going; stops = c.self.inside.stops; lends = c.self.inside.lends } in
    let mine = own_slot port c.args.self.now c.args.kept c.args.key.now c.in-Slot.slot c.self.view_is c.in-Slot.is c.requires.held in
    let long : length port.rows ≡ length port.pins = sym c.self.invariant.as_many in
    leave_keeps port c.leave_held.new.self c.args.key.now c.args.update c.spot_of-spot.result.place (length port.rows) c.in-Slot.slot c.index_mut.result.now c.self.invariant
    long (spot_place c.spot_of-spot.result c.args.key.now (length port.rows) c.spot_of-spot.ensures.spot) c.spot_of-spot.ensures.there c.index_mut.ensures.value mine
    (subst (λ (q : LonePortView). IsSoundUpdate q.desk.position.side c.args.key.now c.args.update) (sym c.self.view_is) c.requires.sound) c.leave_held.ensures.left

pub returns-clause-book : goal.returns-clause-book
returns-clause-book c =
    let port : LonePortView = record { rows = c.self.inside.shard; pins = c.self.inside.pins.items; desk = c.self.inside.desk; going = c.self.inside.is_going; stops = c.self.inside.stops; lends = c.self.inside.lends } in
    let mine = own_slot port c.args.self.now c.args.kept c.args.key.now c.in-Slot.slot c.self.view_is c.in-Slot.is c.requires.held in
    let long : length port.rows ≡ length port.pins = sym c.self.invariant.as_many in
    let counts = c.index_mut.result.now in
    let after : LonePortView = record port {
      rows = c.leave_held.new.self;
      pins = set port.pins c.spot_of-spot.result.place (set counts c.in-Slot.slot (get_or counts c.in-Slot.slot 0 - 1));
    } in
    let booked = leave_books port c.leave_held.new.self c.args.key.now c.args.update c.spot_of-spot.result.place (length port.rows) c.in-Slot.slot c.index_mut.result.now c.self.invariant
    long (spot_place c.spot_of-spot.result c.args.key.now (length port.rows) c.spot_of-spot.ensures.spot) c.spot_of-spot.ensures.there c.index_mut.ensures.value
    mine c.leave_held.ensures.left in
    subst (λ (q : LonePortView). IsBooked (Leave c.args.kept c.args.key.now c.args.update, Some LeftIt) (book_of q) (book_of after)) c.self.view_is
    (subst (λ (k : Kept). IsBooked (Leave k c.args.key.now c.args.update, Some LeftIt) (book_of port) (book_of after)) (sym c.in-Slot.is) booked)
