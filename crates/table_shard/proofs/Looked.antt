-- A look that shows numbers.
use Rattle.std.proofs.Common.{◌≡◌, ◌+◌, ℕ, zero, suc, List, [], ◌∷◌, get_or, replicate, sym, subst, arith}
use Rattle.std.specs.Prelude.{Option, None, IsSomeAnd, slice_get}
use Rattle.std.proofs.lemmas.List.{get_or-replicate}
use Rattle.bit_boards.specs.declared.piece.Side.{Side}
use Rattle.board_core.specs.declared.keys.Key.{Key}
use Rattle.pn_numbers.specs.declared.numbers.Numbers.{Numbers}
use Rattle.notes.specs.declared.words.Seen.TheVariants.{Open}
use Rattle.table_shard.specs.Entry.{EntryView, IsFirstWithin}
use Rattle.table_shard.specs.Row.{HoldsAt, IsLent, LooksBy}

-- what holds of the entry in a key's slot
holding : (row : List EntryView) (slot : ℕ) (key : Key) (entry : EntryView) (Q : EntryView → Type 0) → HoldsAt row slot key → entry ≡ get_or row slot entry → Q entry
    → IsSomeAnd (slice_get row slot) (λ (e : EntryView). (e.key ≡ key) × Q e)
holding [] slot key entry Q holds at q = absurd holds
holding (x ∷ xs) zero key entry Q holds at q = (holds, subst Q at q)
holding (x ∷ xs) (suc slot) key entry Q holds at q = holding xs slot key entry Q holds at q

-- what holds of what is in a slot holds of the entry there
pub at_some : (Q : EntryView → Type 0) (row : List EntryView) (slot : ℕ) (entry : EntryView) → entry ≡ get_or row slot entry → IsSomeAnd (slice_get row slot) Q → Q entry
at_some Q [] slot entry at h = absurd h
at_some Q (x ∷ xs) zero entry at h = subst Q (sym at) h
at_some Q (x ∷ xs) (suc slot) entry at h = at_some Q xs slot entry at h

-- The key's slot shows its numbers, with the count that was asked for.
pub looks_open : {P : Type 0} (told : P → ℕ → ℕ → P → Type 0) (to : Option Side) (row : List EntryView) (key : Key) (path : List Key) (before after : P) (slot : ℕ) (entry : EntryView)
    (numbers : Numbers) (below : ℕ) → HoldsAt row slot key → entry ≡ get_or row slot entry → IsFirstWithin path entry.notes None → numbers ≡ entry.numbers → IsLent to key row None
    → told before slot below after → LooksBy told to row key path before (Open numbers below) after
looks_open told to row key path before after slot entry numbers below holds at none same lent asked = record {
  counts = replicate (slot + 1) below;
  looks = (
    (
      slot,
      holding row slot key entry (λ (e : EntryView). IsFirstWithin path e.notes None × (numbers ≡ e.numbers) × (below ≡ get_or (replicate (slot + 1) below) slot 0))
          holds at (none, same, sym (get_or-replicate (slot + 1) slot below 0 (omega arith))),
    ),
    lent,
  );
  asks = (slot, holds, asked);
}
