-- What is known after one key's fact was written.
use Rattle.std.proofs.Common.{◌≡◌, inl, inr, ◌∙◌, sym, ap, refl, subst, cond, true, false, Bool, ⊎_elim}
use Rattle.std.specs.Prelude.{Some, Option, unwrap_or}
use Rattle.std.specs.Bool.{Decides}
use Rattle.std.specs.HashMap as table
use Rattle.std.proofs.lemmas.Bool.{cases_Bool}
use Rattle.std.proofs.lemmas.Bool.Decides.{Decides-eqb}
use Rattle.std.proofs.lemmas.Slice.Eq.{slice_eq-Decides}
use Rattle.bit_boards.specs.declared.piece.Side.{Side}
use Rattle.board_core.specs.declared.keys.Key.{Key}
use Rattle.board_core.specs.Board.{Board}
use Rattle.board_core.specs.Kept.{IsKept}
use Rattle.board_core.specs.Key.{key_of}
use Rattle.board_laws.proofs.Keys.{position_exact}
use Rattle.shortest_facts.specs.declared.fact.Fact.{Fact}
use Rattle.shortest_facts.specs.Facts.{IsChanged, nothing_at}
use Rattle.shortest_facts.specs.Keys.{same_words, known_in}

-- two keys are equal exactly where their words are the same
words_tell : (a k : Key) → Decides (same_words a k) (a.0 ≡ k.0)
words_tell a k = slice_eq-Decides Decides-eqb a.0 k.0 (same_words a k) refl

module _ {S : Type 0} (old new : table.HashMap Key Fact S) (key : Key) (fact : Fact) (updates : table.Updates same_words old new key (Some fact)) where
  at_key : (k : Key) → same_words key k ≡ true → table.get same_words new k ≡ Some fact
  at_key k same = subst (λ (t : Bool). table.get same_words new k ≡ cond t (Some fact) (table.get same_words old k)) same (updates.0 k)

  at_other : (k : Key) → same_words key k ≡ false → table.get same_words new k ≡ table.get same_words old k
  at_other k other = subst (λ (t : Bool). table.get same_words new k ≡ cond t (Some fact) (table.get same_words old k)) other (updates.0 k)

  pub changed : (attacker : Side) (b : Board) → IsKept b → key.0 ≡ key_of b
      → IsChanged (known_in attacker (table.get same_words old)) (known_in attacker (table.get same_words new)) b fact
  changed attacker b kept words = record {
    same = refl;
    there = ap (λ (o : Option Fact). unwrap_or o (nothing_at attacker b)) (at_key (record { 0 = key_of b }) ((words_tell key (record { 0 = key_of b })).1 words));
    elsewhere = λ q too.
        ⊎_elim (λ (same : same_words key (record { 0 = key_of q }) ≡ true).
        inl (position_exact q b too kept (sym ((words_tell key (record { 0 = key_of q })).0 same) ∙ words)))
        (λ (other : same_words key (record { 0 = key_of q }) ≡ false).
        inr (ap (λ (o : Option Fact). unwrap_or o (nothing_at attacker q)) (at_other (record { 0 = key_of q }) other)))
        (cases_Bool (same_words key (record { 0 = key_of q })));
  }
