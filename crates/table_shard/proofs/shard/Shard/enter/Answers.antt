use Rattle.std.proofs.Common.{◌≡◌, ℕ, List, [], length, get_or, sym, subst, ap}
use Rattle.table_shard.specs.Entry.{EntryView}
use Rattle.table_shard.specs.Made.{rows_of}
use Rattle.table_shard.specs.Row.{IsKeptAt}
use Rattle.table_shard.specs.Shard.{row_of, EntersInBy}
use Rattle.table_shard.specs.Spot.{place_of, spot_of}
use Rattle.table_shard.specs.declared.hash.Spot.{Spot}
use Rattle.table_shard.proofs.Places.{kept_in, entered_by}
use Rattle.table_shard.proofs.shard.Shard.enter.Goals as goal

pub returns-clause-entered : goal.returns-clause-entered
returns-clause-entered g c =
    let rows = rows_of c.self.inside.rows in
    let key = c.args.key.now in
    let place = c.args.spot.place in
    let is_spot : c.args.spot ≡ spot_of key (length rows) = subst (λ (n : ℕ). c.args.spot ≡ spot_of key n) (sym (ap length c.self.view_is)) c.requires.spot in
    let is : place ≡ place_of key (length rows) = ap (λ (s : Spot). s.place) is_spot in
    let entered = c.enter.ensures.enters in
    subst (λ (rs : List (List EntryView)). EntersInBy g.P.Pins.told rs key c.args.numbers c.args.pins.now c.enter.result (rows_of c.enter.new.self) c.enter.new.pins) c.self.view_is
    (subst (λ (rs : List (List EntryView)). EntersInBy g.P.Pins.told rows key c.args.numbers c.args.pins.now c.enter.result rs c.enter.new.pins) (sym entered.others)
    (entered_by g.P.Pins.told rows place key c.args.numbers c.args.pins.now c.enter.result (get_or rows place []) entered.row c.enter.new.pins
    c.self.invariant.some is (ap (λ (n : ℕ). get_or rows n []) is) entered.enters))

pub returns-clause-kept : goal.returns-clause-kept
returns-clause-kept g c =
    let rows = rows_of c.self.inside.rows in
    let key = c.args.key.now in
    let is_spot : c.args.spot ≡ spot_of key (length rows) = subst (λ (n : ℕ). c.args.spot ≡ spot_of key n) (sym (ap length c.self.view_is)) c.requires.spot in
    let is : c.args.spot.place ≡ place_of key (length rows) = ap (λ (s : Spot). s.place) is_spot in
    let entered = c.enter.ensures.enters in
    subst (λ (rs : List (List EntryView)). IsKeptAt (row_of rs key) key c.enter.result) (sym entered.others)
    (kept_in rows c.args.spot.place entered.enters.counts key c.args.numbers c.enter.result (get_or rows c.args.spot.place []) entered.row
    c.self.invariant.some is entered.enters.enters)
