-- What entering a key and leaving a slot does to a row, its counts and its notes.
use Rattle.std.proofs.Common.{◌≡◌, ◌<◌, ◌≤◌, ◌-◌, ◌++◌, ℕ, zero, suc, Bool, true, false, List, [], ◌∷◌, length, get_or, drop, inl, inr, sym, subst, ap, ◌∙◌, arith}
use Rattle.std.specs.Prelude.{Option, Some, None, IfSome, All, IsSomeAnd, slice_get, if◌then◌else◌, ◌||◌, nat_lt}
use Rattle.std.proofs.lemmas.List.{length-set, length_push}
use Rattle.std.proofs.lemmas.List.Elements.{All-nil, All-cons, All-head, All-tail, All-push, All-set, All-drop}
use Rattle.bit_boards.specs.declared.piece.Side.{Side}
use Rattle.board_core.specs.declared.keys.Key.{Key}
use Rattle.pn_numbers.specs.declared.numbers.Numbers.{Numbers}
use Rattle.pn_numbers.specs.Numbers.{IsOpen}
use Rattle.path_tags.specs.Tag.{IsWithin}
use Rattle.notes.specs.Derivation.{Derivation, attacker_of, tag_of}
use Rattle.notes.specs.Lending.{IsLentTo}
use Rattle.notes.specs.declared.words.Kept.{Kept}
use Rattle.notes.specs.declared.words.Kept.TheVariants.{Slot, Unkept}
use Rattle.notes.specs.declared.words.Seen.{Seen}
use Rattle.notes.specs.declared.words.Seen.TheVariants.{New, Open, Solved, Lent}
use Rattle.notes.specs.declared.words.Update.{Update}
use Rattle.notes.specs.declared.words.Update.TheVariants.{Numbers as SetNumbers, Note as AddNote, Nothing as ChangeNothing}
use Rattle.table_shard.specs.Entry.{EntryView, AreFor, IsEntry, IsFirstWithin, IsFactAbout, Shows, is_closed, has_closed, noted, updated}
use Rattle.table_shard.specs.Row.{HoldsAt, IsRow, Looks, Enters, IsGivenUp, fresh, left}
use Rattle.table_shard.proofs.Offered.{holds_end, holds_within, holds_put, lent_fact}
use Rattle.visit_log.specs.Round.{MayShow}
use Rattle.visit_log.specs.Sound.{IsSoundUpdate}

-- 1. ENTERING.

-- What entering a key in a slot does: the slot has the key's entry.
pub record IsEntered (attacker : Side) (row : List EntryView) (counts : List ℕ) (key : Key) (slot : ℕ) (after : List EntryView) : Type 0 where
  pub holds : HoldsAt after slot key
  pub within : slot < 8
  pub grows : length row ≤ length after
  pub notes : All (AreFor attacker) row → All (AreFor attacker) after

fresh_for : (attacker : Side) (key : Key) (numbers : Numbers) → AreFor attacker (fresh key numbers)
fresh_for attacker key numbers = All-nil (λ (note : Derivation). attacker_of note ≡ attacker)

-- An entry that is new has no note, so all stay for the attacker.
pub enters_for : (attacker : Side) (row : List EntryView) (counts : List ℕ) (key : Key) (numbers : Numbers) (kept : Kept) (after : List EntryView)
    → Enters row counts key numbers kept after → All (AreFor attacker) row → All (AreFor attacker) after
enters_for attacker row counts key numbers (Slot slot) after (inl h) notes = subst (All (AreFor attacker)) (sym h.1) notes
enters_for attacker row counts key numbers (Slot slot) after (inr (none, inl (room, at, is))) notes =
    subst (All (AreFor attacker)) (sym is) (All-push (AreFor attacker) row (fresh key numbers) notes (fresh_for attacker key numbers))
enters_for attacker row counts key numbers (Slot slot) after (inr (none, inr (full, given, is))) notes =
    subst (All (AreFor attacker)) (sym is) (All-set (AreFor attacker) row slot (fresh key numbers) (fresh_for attacker key numbers) notes)
enters_for attacker row counts key numbers Unkept after (none, full, above, is) notes = subst (All (AreFor attacker)) (sym is) notes

-- The row of a key that is entered in a slot.
pub entered : (attacker : Side) (row : List EntryView) (counts : List ℕ) (key : Key) (numbers : Numbers) (slot : ℕ) (after : List EntryView) → length row ≤ 8
    → ((s : ℕ) → 0 < get_or counts s 0 → s < length row) → Enters row counts key numbers (Slot slot) after → IsEntered attacker row counts key slot after
entered attacker row counts key numbers slot after few there (inl h) = record {
  holds = subst (λ (r : List EntryView). HoldsAt r slot key) (sym h.1) h.0;
  within = let w = holds_within row key slot h.0 in omega (arith, w, few);
  grows = let e = ap length h.1 in omega (arith, e);
  notes = enters_for attacker row counts key numbers (Slot slot) after (inl h);
}
entered attacker row counts key numbers slot after few there (inr (none, inl (room, at, is))) = record {
  holds = subst (λ (r : List EntryView). HoldsAt r slot key) (sym is)
      (subst (λ (s : ℕ). HoldsAt (row ++ fresh key numbers ∷ []) s key) (sym at) (holds_end row (fresh key numbers)));
  within = omega (arith, at, room);
  grows = let e = ap length is in let n = length_push row (fresh key numbers) in omega (arith, e, n);
  notes = enters_for attacker row counts key numbers (Slot slot) after (inr (none, inl (room, at, is)));
}
entered attacker row counts key numbers slot after few there (inr (none, inr (full, given, is))) = record {
  holds = subst (λ (r : List EntryView). HoldsAt r slot key) (sym is) (holds_put row slot (fresh key numbers) (idle given).0);
  within = let w = (idle given).0 in omega (arith, w, full);
  grows = let e = ap length is in let n = length-set row slot (fresh key numbers) in omega (arith, e, n);
  notes = enters_for attacker row counts key numbers (Slot slot) after (inr (none, inr (full, given, is)));
}
  where
    idle : IsGivenUp row counts slot → (slot < length row) × (get_or counts slot 0 ≡ 0)
    idle (inl first) = (first.has.idle.there, first.has.idle.unpinned)
    idle (inr (solved, first)) = (first.has.there, first.has.unpinned)

-- 2. LEAVING.

noted_for : (attacker : Side) (notes : List Derivation) (note : Derivation) → attacker_of note ≡ attacker → All (λ n. attacker_of n ≡ attacker) notes
    → All (λ n. attacker_of n ≡ attacker) (noted notes note)
noted_for attacker notes note is all = by_test (is_closed note) (has_closed notes || nat_lt 32 (length (tag_of note)))
  where
    by_test : (b c : Bool) → All (λ (n : Derivation). attacker_of n ≡ attacker) (if b then note ∷ [] else (if c then notes else drop (length notes - 3) notes ++ note ∷ []))
    by_test true c = All-cons (λ (n : Derivation). attacker_of n ≡ attacker) note [] is (All-nil (λ (n : Derivation). attacker_of n ≡ attacker))
    by_test false true = all
    by_test false false = All-push (λ (n : Derivation). attacker_of n ≡ attacker) (drop (length notes - 3) notes) note
        (All-drop (λ (n : Derivation). attacker_of n ≡ attacker) (length notes - 3) notes all) is

updated_for : (attacker : Side) (key : Key) (update : Update) (e : EntryView) → IsSoundUpdate attacker key update → AreFor attacker e → AreFor attacker (updated e update)
updated_for attacker key (SetNumbers numbers) e sound all = all
updated_for attacker key (AddNote note) e sound all = noted_for attacker e.notes note sound.1 all
updated_for attacker key ChangeNothing e sound all = all

-- All notes of a row that is left are for the attacker.
pub left_for : (attacker : Side) (key : Key) (update : Update) (row : List EntryView) (slot : ℕ) → IsSoundUpdate attacker key update → All (AreFor attacker) row
    → All (AreFor attacker) (left row slot update)
left_for attacker key update [] slot sound all = all
left_for attacker key update (x ∷ xs) zero sound all =
    All-cons (AreFor attacker) (updated x update) xs (updated_for attacker key update x sound (All-head (AreFor attacker) x xs all)) (All-tail (AreFor attacker) x xs all)
left_for attacker key update (x ∷ xs) (suc slot) sound all =
    All-cons (AreFor attacker) x (left xs slot update) (All-head (AreFor attacker) x xs all)
    (left_for attacker key update xs slot sound (All-tail (AreFor attacker) x xs all))

-- 3. LOOKING.

first_one : (P : Derivation → Type 0) (path : List Key) (notes : List Derivation) (note : Derivation) → All P notes → IsFirstWithin path notes (Some note)
    → P note × IsWithin (tag_of note) path
first_one P path [] note all h = cc
first_one P path (x ∷ xs) note all (inl (within, is)) =
    subst (λ (n : Derivation). P n × IsWithin (tag_of n) path) (some_inj is) (All-head P x xs all, within)
  where
    some_inj : Some note ≡ Some x → x ≡ note
    some_inj e = cc
first_one P path (x ∷ xs) note all (inr (not, rest)) = first_one P path xs note (All-tail P x xs all) rest

at_slot : (row : List EntryView) (slot : ℕ) (P Q : EntryView → Type 0) → All P row → IsSomeAnd (slice_get row slot) Q → (e : EntryView) × P e × Q e
at_slot [] slot P Q all h = absurd h
at_slot (x ∷ xs) zero P Q all h = (x, All-head P x xs all, h)
at_slot (x ∷ xs) (suc slot) P Q all h = at_slot xs slot P Q (All-tail P x xs all) h

-- What a row shows may be shown.
pub looks_may : (attacker : Side) (to : Option Side) (row : List EntryView) (counts : List ℕ) (key : Key) (path : List Key) (seen : Seen) → IfSome to (λ side. side ≡ attacker)
    → IsRow row → All (AreFor attacker) row → Looks to row counts key path seen → MayShow attacker key path seen
looks_may attacker to row counts key path New his is all h = tt
looks_may attacker (Some side) row counts key path (Lent note) his is all (unsolved, lent) =
    subst (λ (s : Side). IsLentTo s key note) his (lent_fact side key row note is.entries lent)
looks_may attacker None row counts key path (Lent note) his is all (unsolved, lent) = absurd (let no : Some note ≡ None = lent in cc)
looks_may attacker to row counts key path (Open numbers below) his is all ((slot, h), lent) =
    let found = at_slot row slot IsEntry (λ (e : EntryView). (e.key ≡ key) × Shows e path (get_or counts slot 0) (Open numbers below)) is.entries h in
    subst IsOpen (sym found.2.1.1) found.1.numbers
looks_may attacker to row counts key path (Solved note) his is all (slot, h) =
    let found = at_slot row slot IsEntry (λ (e : EntryView). (e.key ≡ key) × Shows e path (get_or counts slot 0) (Solved note)) is.entries h in
    let too = at_slot row slot (AreFor attacker) (λ (e : EntryView). (e.key ≡ key) × Shows e path (get_or counts slot 0) (Solved note)) all h in
    let fact = first_one (IsFactAbout found.0.key) path found.0.notes note found.1.facts found.2.1 in
    let mine = first_one (λ (n : Derivation). attacker_of n ≡ attacker) path too.0.notes note too.1 too.2.1 in
    record {
      valid = fact.0.1;
      about = fact.0.0 ∙ ap (λ (k : Key). k.0) found.2.0;
      same_attacker = mine.0;
      within = fact.1;
    }
