use Rattle.table_shard.specs.Row.{HoldsAt}
use Rattle.table_shard.specs.Shard.{row_of}
use Rattle.search_tests.proofs.table.a_note_counts_where_its_position_is_on_the_path.Given as goal

-- the entry stays in its slot
abbrev pub invariant-loop-leaving : goal.invariant-loop-leaving
invariant-loop-leaving g l = HoldsAt (row_of l.shard l.key) l.slot l.key
