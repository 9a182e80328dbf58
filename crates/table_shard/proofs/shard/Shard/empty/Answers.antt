use Rattle.std.proofs.Common.{◌≡◌, ℕ, List, [], length, replicate, sym, ap, ◌∙◌}
use Rattle.table_shard.specs.Entry.{EntryView}
use Rattle.table_shard.specs.Made.{rows_of}
use Rattle.table_shard.proofs.Emptied.{all_uncounted}
use Rattle.table_shard.proofs.shard.Shard.empty.Goals as goal

pub returns-clause-pins : goal.returns-clause-pins
returns-clause-pins c =
    let rows = rows_of c.loop-place.self-inside.rows in
    let ends = c.in_default.ensures in
    let free : rows ≡ replicate (length c.args.self.now) [] =
    sym ends.same ∙ (ends.none ∙ ap (λ (n : ℕ). replicate {A = List EntryView} n []) c.loop-place.invariant.1) in
    all_uncounted rows c.loop-place.pins (length c.args.self.now) free c.loop-place.invariant.2
