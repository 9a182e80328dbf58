use Rattle.std.proofs.Common.{◌≡◌, ◌<◌, ℕ, List, [], length, get_or, set, sym, subst, ap, ◌∙◌}
use Rattle.std.proofs.lemmas.List.{get_or_default}
use Rattle.table_shard.specs.Entry.{EntryView}
use Rattle.table_shard.specs.Row.{EntersBy}
use Rattle.table_shard.specs.Made.{rows_at, rows_of}
use Rattle.table_shard.proofs.Made.{length_rows, number_within, row_at, rows_set, made_set}
use Rattle.table_shard.proofs.made_rows.Rows.enter.Goals as goal

pub returns-clause-kept : goal.returns-clause-kept
returns-clause-kept g c =
    let rows = c.own-number.new.self in
    let kept = c.own-number.ensures.kept in
    record {
      made = made_set rows.numbers.items rows.made.items rows.places.items c.own-number.result c.enter-kept.new.self kept.made c.own-number.ensures.own c.laws.ensures;
      for_rows = kept.for_rows;
      for_places = kept.for_places;
    }

pub returns-clause-enters : goal.returns-clause-enters
returns-clause-enters g c =
    let rows = c.own-number.new.self in
    let numbers = rows.numbers.items in
    let made = rows.made.items in
    let places = rows.places.items in
    let place = c.args.place in
    let row = c.enter-kept.new.self in
    let are = c.own-number.ensures.kept.made in
    let same = c.own-number.ensures.same in
    let is : c.own-number.result ≡ get_or numbers place 0 = c.own-number.ensures.number in
    let there : place < length numbers = subst (λ (n : ℕ). place < n) (ap length (sym same) ∙ length_rows numbers made) c.requires.there in
    let within : c.own-number.result < length made = subst (λ (n : ℕ). n < length made) (sym is) (number_within numbers made places place are there) in
    let old : c.index_mut-row.result.now ≡ get_or (rows_of c.args.self.now) place [] =
    c.index_mut-row.ensures.value ∙ (get_or_default made c.own-number.result c.index_mut-row.result.now [] within
    ∙ (ap (λ (n : ℕ). get_or made n []) is ∙ (sym (row_at numbers made place there) ∙ ap (λ (rs : List (List EntryView)). get_or rs place []) same))) in
    record {
      row = row;
      enters = subst (λ (r : List EntryView). EntersBy g.P.Pins.told r c.args.key.now c.args.numbers c.args.pins.now c.enter-kept.result row c.enter-kept.new.pins) old c.enter-kept.ensures.enters;
      others = ap (λ (n : ℕ). rows_at numbers (set made n row)) is
          ∙ (rows_set numbers made places place row are there (subst (λ (n : ℕ). 0 < n) is c.own-number.ensures.own)
          ∙ ap (λ (rs : List (List EntryView)). set rs place row) same);
    }
