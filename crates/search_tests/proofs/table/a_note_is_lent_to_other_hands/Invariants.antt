use Rattle.table_shard.specs.Row.{HoldsAt}
use Rattle.table_shard.specs.Shard.{row_of}
use Rattle.search_tests.proofs.table.a_note_is_lent_to_other_hands.Given as goal

-- the entry stays in its slot
abbrev pub invariant-loop-leaving : goal.invariant-loop-leaving
invariant-loop-leaving g l = HoldsAt (row_of l.shard l.key) l.slot l.key
