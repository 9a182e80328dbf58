use Rattle.std.proofs.Common.{◌≡◌, ◌∷◌, ◌++◌, ℕ, List, [], ap, ◌∙◌}
use Rattle.table_shard.specs.Entry.{EntryView}
use Rattle.table_shard.specs.Made.{rows_at}
use Rattle.table_shard.proofs.Made.{rows_blank}
use Rattle.table_shard.proofs.made_rows.Rows.make.Goals as goal

pub returns-clause-free : goal.returns-clause-free
returns-clause-free c =
    let made : c.push_reserved.new.self.items ≡ [] ∷ [] =
    c.push_reserved.ensures.items ∙ (ap (λ (rs : List (List EntryView)). rs ++ c.empty.result ∷ []) c.in_ok-made.ensures.items ∙ ap (λ (r : List EntryView). r ∷ []) c.empty.ensures) in
    ap (λ (ns : List ℕ). rows_at ns c.push_reserved.new.self.items) (c.in_ok-numbers.ensures.items_if_clones_equal (λ y same. same))
    ∙ (ap (rows_at _) made ∙ rows_blank c.args.rows)
