use Rattle.std.proofs.Common.{◌≡◌, ◌<◌, ◌+◌, ◌∙◌, ℕ, List, [], Some, length, set, get_or, subst, sym, ap}
use Rattle.notes.specs.declared.words.Kept.{Kept}
use Rattle.notes.specs.declared.words.Kept.TheVariants.{Slot, Unkept}
use Rattle.visit_log.specs.declared.words.Request.TheVariants.{Enter}
use Rattle.visit_log.specs.declared.words.Reply.TheVariants.{Enter as Entered}
use Rattle.worker_core.specs.Port.{IsBooked}
use Rattle.lone_port.specs.Lone.{LonePortView, Turns, book_of}
use Rattle.std.proofs.lemmas.List.{get_or_default}
use Rattle.std.proofs.lemmas.List.Elements.{All-get_or}
use Rattle.table_shard.specs.Shard.{EntersIn}
use Rattle.table_shard.proofs.Offered.{enters_standing}
use Rattle.lone_port.proofs.Asked.{enter_keeps, enter_books, enter_turns, refuse_turns, spot_place, counts_in, tells, tells_standing}
use Rattle.lone_port.proofs.lone.LonePortPort.enter.Goals as goal

pub invariant_of-self : goal.invariant_of-self
invariant_of-self c =
    let port : LonePortView = record { rows = c.self.inside.shard; pins = c.self.inside.pins.items; desk = c.self.inside.desk; going = c.self.inside.is_going; stops = c.self.inside.stops; lends = c.self.inside.lends } in
    let long : length port.rows ≡ length port.pins = sym c.self.invariant.as_many in
    let eight : length c.index.result.now ≡ 8 = ap length c.index.ensures ∙ (ap length (get_or_default port.pins c.spot_of-spot.result.place c.index.result.now []
    (subst (λ (n : ℕ). c.spot_of-spot.result.place < n) long c.spot_of-spot.ensures.there))
    ∙ All-get_or (λ (each : List ℕ). length each ≡ 8) port.pins c.spot_of-spot.result.place [] (subst (λ (n : ℕ). c.spot_of-spot.result.place < n) long c.spot_of-spot.ensures.there) c.self.invariant.eight) in
    let entered : EntersIn port.rows c.index.result.now c.args.key.now c.args.numbers (Slot c.in-Slot.slot) c.enter-kept.new.self =
    enters_standing counts_in tells tells_standing port.rows c.args.key.now c.args.numbers _ _ (Slot c.in-Slot.slot) c.enter-kept.new.self eight c.in-Slot.ensures.entered in
    enter_keeps port c.enter-kept.new.self c.args.key.now c.args.numbers c.spot_of-spot.result.place (length port.rows) c.in-Slot.slot c.index_mut.result.now c.index.result.now
    c.self.invariant c.laws.ensures.rows long (spot_place c.spot_of-spot.result c.args.key.now (length port.rows) c.spot_of-spot.ensures.spot) c.spot_of-spot.ensures.there c.index_mut.ensures.value c.index.ensures entered

pub returns-in-Slot-clause-book : goal.returns-in-Slot-clause-book
returns-in-Slot-clause-book c =
    let port : LonePortView = record { rows = c.self.inside.shard; pins = c.self.inside.pins.items; desk = c.self.inside.desk; going = c.self.inside.is_going; stops = c.self.inside.stops; lends = c.self.inside.lends } in
    let long : length port.rows ≡ length port.pins = sym c.self.invariant.as_many in
    let eight : length c.index.result.now ≡ 8 = ap length c.index.ensures ∙ (ap length (get_or_default port.pins c.spot_of-spot.result.place c.index.result.now []
    (subst (λ (n : ℕ). c.spot_of-spot.result.place < n) long c.spot_of-spot.ensures.there))
    ∙ All-get_or (λ (each : List ℕ). length each ≡ 8) port.pins c.spot_of-spot.result.place [] (subst (λ (n : ℕ). c.spot_of-spot.result.place < n) long c.spot_of-spot.ensures.there) c.self.invariant.eight) in
    let entered : EntersIn port.rows c.index.result.now c.args.key.now c.args.numbers (Slot c.in-Slot.slot) c.enter-kept.new.self =
    enters_standing counts_in tells tells_standing port.rows c.args.key.now c.args.numbers _ _ (Slot c.in-Slot.slot) c.enter-kept.new.self eight c.in-Slot.ensures.entered in
    let counts = c.index_mut.result.now in
    let after : LonePortView = record port {
      rows = c.enter-kept.new.self;
      pins = set port.pins c.spot_of-spot.result.place (set counts c.in-Slot.slot (get_or counts c.in-Slot.slot 0 + 1));
    } in
    subst (λ (q : LonePortView). IsBooked (Enter c.args.key.now c.args.numbers, Some (Entered (Slot c.in-Slot.slot))) (book_of q) (book_of after)) c.self.view_is
    (enter_books port c.enter-kept.new.self c.args.key.now c.args.numbers c.spot_of-spot.result.place (length port.rows) c.in-Slot.slot c.index_mut.result.now c.index.result.now
    c.self.invariant c.laws.ensures.rows long (spot_place c.spot_of-spot.result c.args.key.now (length port.rows) c.spot_of-spot.ensures.spot) c.spot_of-spot.ensures.there c.index_mut.ensures.value c.index.ensures entered)

pub returns-in-Slot-clause-turn : goal.returns-in-Slot-clause-turn
returns-in-Slot-clause-turn c path =
    let port : LonePortView = record { rows = c.self.inside.shard; pins = c.self.inside.pins.items; desk = c.self.inside.desk; going = c.self.inside.is_going; stops = c.self.inside.stops; lends = c.self.inside.lends } in
    let long : length port.rows ≡ length port.pins = sym c.self.invariant.as_many in
    let eight : length c.index.result.now ≡ 8 = ap length c.index.ensures ∙ (ap length (get_or_default port.pins c.spot_of-spot.result.place c.index.result.now []
    (subst (λ (n : ℕ). c.spot_of-spot.result.place < n) long c.spot_of-spot.ensures.there))
    ∙ All-get_or (λ (each : List ℕ). length each ≡ 8) port.pins c.spot_of-spot.result.place [] (subst (λ (n : ℕ). c.spot_of-spot.result.place < n) long c.spot_of-spot.ensures.there) c.self.invariant.eight) in
    let entered : EntersIn port.rows c.index.result.now c.args.key.now c.args.numbers (Slot c.in-Slot.slot) c.enter-kept.new.self =
    enters_standing counts_in tells tells_standing port.rows c.args.key.now c.args.numbers _ _ (Slot c.in-Slot.slot) c.enter-kept.new.self eight c.in-Slot.ensures.entered in
    let counts = c.index_mut.result.now in
    let after : LonePortView = record port {
      rows = c.enter-kept.new.self;
      pins = set port.pins c.spot_of-spot.result.place (set counts c.in-Slot.slot (get_or counts c.in-Slot.slot 0 + 1));
    } in
    subst (λ (q : LonePortView). Turns q path (Enter c.args.key.now c.args.numbers) (Some (Entered (Slot c.in-Slot.slot))) after) c.self.view_is
    (enter_turns port path c.enter-kept.new.self c.args.key.now c.args.numbers c.spot_of-spot.result.place (length port.rows) c.in-Slot.slot c.index_mut.result.now c.index.result.now
    long (spot_place c.spot_of-spot.result c.args.key.now (length port.rows) c.spot_of-spot.ensures.spot) c.spot_of-spot.ensures.there c.index_mut.ensures.value c.index.ensures entered)

pub returns-in-Unkept-clause-turn : goal.returns-in-Unkept-clause-turn
returns-in-Unkept-clause-turn c path =
    let port : LonePortView = record { rows = c.self.inside.shard; pins = c.self.inside.pins.items; desk = c.self.inside.desk; going = c.self.inside.is_going; stops = c.self.inside.stops; lends = c.self.inside.lends } in
    let long : length port.rows ≡ length port.pins = sym c.self.invariant.as_many in
    let eight : length c.index.result.now ≡ 8 = ap length c.index.ensures ∙ (ap length (get_or_default port.pins c.spot_of-spot.result.place c.index.result.now []
    (subst (λ (n : ℕ). c.spot_of-spot.result.place < n) long c.spot_of-spot.ensures.there))
    ∙ All-get_or (λ (each : List ℕ). length each ≡ 8) port.pins c.spot_of-spot.result.place [] (subst (λ (n : ℕ). c.spot_of-spot.result.place < n) long c.spot_of-spot.ensures.there) c.self.invariant.eight) in
    let entered : EntersIn port.rows c.index.result.now c.args.key.now c.args.numbers Unkept c.enter-kept.new.self =
    enters_standing counts_in tells tells_standing port.rows c.args.key.now c.args.numbers _ _ Unkept c.enter-kept.new.self eight c.in-Unkept.ensures.entered in
    let after : LonePortView = record port { rows = c.enter-kept.new.self } in
    subst (λ (kept : Kept). Turns c.args.self.now path (Enter c.args.key.now c.args.numbers) (Some (Entered kept)) after) (sym c.in-Unkept.is)
    (subst (λ (q : LonePortView). Turns q path (Enter c.args.key.now c.args.numbers) (Some (Entered Unkept)) after) c.self.view_is
    (refuse_turns port path c.enter-kept.new.self c.args.key.now c.args.numbers c.spot_of-spot.result.place (length port.rows) c.index.result.now
    long (spot_place c.spot_of-spot.result c.args.key.now (length port.rows) c.spot_of-spot.ensures.spot) c.spot_of-spot.ensures.there c.index.ensures entered))
