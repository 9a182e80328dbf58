use Rattle.std.proofs.Common.{◌≡◌, ℕ, List, [], length, get_or, set, sym, subst, ap, ◌∙◌}
use Rattle.table_shard.specs.Entry.{EntryView}
use Rattle.table_shard.specs.Made.{rows_of}
use Rattle.table_shard.specs.Row.{HoldsAt, left}
use Rattle.table_shard.specs.Shard.{row_of}
use Rattle.table_shard.specs.Spot.{place_of, spot_of}
use Rattle.table_shard.specs.declared.hash.Spot.{Spot}
use Rattle.table_shard.proofs.Places.{stays_in}
use Rattle.table_shard.proofs.Rows.{left_stays}
use Rattle.table_shard.proofs.shard.Shard.leave.Goals as goal

pub returns-clause-stays : goal.returns-clause-stays
returns-clause-stays c = λ other slot h.
    let rows = rows_of c.self.inside.rows in
    let key = c.args.key.now in
    let place = c.args.spot.place in
    let row = left (get_or rows place []) c.args.slot c.args.update in
    let is_spot : c.args.spot ≡ spot_of key (length rows) = subst (λ (n : ℕ). c.args.spot ≡ spot_of key n) (sym (ap length c.self.view_is)) c.requires.spot in
    let is : place ≡ place_of key (length rows) = ap (λ (s : Spot). s.place) is_spot in
    let holds : HoldsAt (row_of rows other) slot other = subst (λ (rs : List (List EntryView)). HoldsAt (row_of rs other) slot other) (sym c.self.view_is) h in
    subst (λ (rs : List (List EntryView)). HoldsAt (row_of rs other) slot other) (sym (c.leave.ensures.left ∙ ap (λ (n : ℕ). set rows n row) is))
    (stays_in rows key other row slot c.self.invariant.some
    (λ same here. left_stays (get_or rows place []) c.args.slot c.args.update slot other (subst (λ (n : ℕ). HoldsAt (get_or rows n []) slot other) (sym is) here))
    holds)
