-- What a row lends.
use Rattle.std.proofs.Common.{◌≡◌, ◌/◌, ◌^◌, ℕ, zero, suc, List, [], ◌∷◌, sym, subst, ap}
use Rattle.std.specs.Prelude.{All, Some, IsSomeAnd, slice_get}
use Rattle.std.proofs.lemmas.List.Elements.{All-head, All-tail}
use Rattle.bit_boards.specs.declared.piece.Side.{Side}
use Rattle.board_core.specs.declared.keys.Key.{Key}
use Rattle.hand_dominance.specs.ByKey.{without_hands}
use Rattle.notes.specs.declared.rule.Conclusion.{Conclusion}
use Rattle.notes.specs.declared.rule.Conclusion.TheVariants.{Mate, Escape}
use Rattle.notes.specs.Derivation.{Derivation, conclusion_of}
use Rattle.notes.specs.Lending.{CarriesByKey, IsLentTo}
use Rattle.notes.proofs.Offered.{lent_to}
use Rattle.table_shard.specs.Entry.{EntryView, IsEntry, IsFactAbout, Lends, LendsSome}
use Rattle.table_shard.specs.Row.{IsLent}
use Rattle.table_shard.specs.Spot.{hash_over, mark_of}

-- 1. MARKS.

same_board : (conclusion : Conclusion) (attacker : Side) (from to : Key) → CarriesByKey conclusion attacker from to → without_hands from ≡ without_hands to
same_board Mate attacker from to d = sym d.board
same_board Escape attacker from to d = d.board

mark_by : (one two : Key) → without_hands one ≡ without_hands two → mark_of one ≡ mark_of two
mark_by one two same = ap (λ (k : Key). hash_over k.0 / 2 ^ 32) same

-- Only an entry of the same mark lends a note.
pub lends_mark : (attacker : Side) (key : Key) (entry : EntryView) → LendsSome attacker key entry → mark_of entry.key ≡ mark_of key
lends_mark attacker key entry (note, lends) = mark_by entry.key key (same_board (conclusion_of note) attacker entry.key key lends.lent.holds)

-- 2. NOTES.

lent_by : (attacker : Side) (key : Key) (note : Derivation) (entry : EntryView) → IsEntry entry → Lends attacker key entry note → IsLentTo attacker key note
lent_by attacker key note entry is lends =
    let fact : IsFactAbout entry.key note = All-head (IsFactAbout entry.key) note [] (subst (All (IsFactAbout entry.key)) lends.alone is.facts) in
    lent_to attacker entry.key key note fact.1 fact.0 lends.lent

lent_in : (attacker : Side) (key : Key) (note : Derivation) (row : List EntryView) (slot : ℕ) → All IsEntry row
    → IsSomeAnd (slice_get row slot) (λ entry. Lends attacker key entry note) → IsLentTo attacker key note
lent_in attacker key note [] slot all h = absurd h
lent_in attacker key note (entry ∷ row) zero all h = lent_by attacker key note entry (All-head IsEntry entry row all) h
lent_in attacker key note (entry ∷ row) (suc slot) all h = lent_in attacker key note row slot (All-tail IsEntry entry row all) h

-- What is lent may be carried to whatever position has the key.
pub lent_fact : (attacker : Side) (key : Key) (row : List EntryView) (note : Derivation) → All IsEntry row → IsLent (Some attacker) key row (Some note)
    → IsLentTo attacker key note
lent_fact attacker key row note all (slot, first, lends) = lent_in attacker key note row slot all lends
