use Rattle.std.proofs.Common.{◌≡◌, ◌<◌, ℕ, List, [], length, get_or, set, sym, subst, ap, ◌∙◌}
use Rattle.std.proofs.lemmas.List.{get_or_default}
use Rattle.table_shard.specs.Entry.{EntryView, FitsKey}
use Rattle.table_shard.specs.Row.{left}
use Rattle.table_shard.specs.Made.{rows_at}
use Rattle.table_shard.proofs.Made.{length_rows, number_within, own_of, row_at, rows_set}
use Rattle.table_shard.proofs.made_rows.Rows.leave.Goals as goal

pub returns-clause-left : goal.returns-clause-left
returns-clause-left c =
    let numbers = c.args.self.now.numbers.items in
    let made = c.args.self.now.made.items in
    let places = c.args.self.now.places.items in
    let place = c.args.place in
    let row = c.leave.new.self in
    let are = c.requires.kept.made in
    let there : place < length numbers = subst (λ (n : ℕ). place < n) (length_rows numbers made) c.requires.there in
    let is : c.index.result.now ≡ get_or numbers place 0 = c.index.ensures ∙ get_or_default numbers place c.index.result.now 0 there in
    let own = own_of numbers made places place c.args.slot (λ (entry : EntryView). FitsKey entry.key c.args.update) are there c.requires.fits in
    let within : c.index.result.now < length made = subst (λ (n : ℕ). n < length made) (sym is) (number_within numbers made places place are there) in
    let old : c.index_mut-row.result.now ≡ get_or (rows_at numbers made) place [] =
    c.index_mut-row.ensures.value ∙ (get_or_default made c.index.result.now c.index_mut-row.result.now [] within
    ∙ (ap (λ (n : ℕ). get_or made n []) is ∙ sym (row_at numbers made place there))) in
    ap (λ (n : ℕ). rows_at numbers (set made n row)) is
    ∙ (rows_set numbers made places place row are there own
    ∙ ap (set (rows_at numbers made) place) (c.leave.ensures ∙ ap (λ (r : List EntryView). left r c.args.slot c.args.update) old))
