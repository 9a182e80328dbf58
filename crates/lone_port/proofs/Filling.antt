-- A table and a desk in which notes are known before anything happens.
use Rattle.std.proofs.Common.{sum, ◌≡◌, ◌<◌, ◌++◌, ℕ, Bool, true, false, List, [], ◌∷◌, length, get_or, inl, inr, refl, sym, subst, ap, ◌∙◌, arith, replicate}
use Rattle.std.specs.Prelude.{All}
use Rattle.std.proofs.lemmas.Bool.{cases_lt}
use Rattle.std.proofs.lemmas.List.{length-set, length-replicate, get_or-replicate, get_or_past}
use Rattle.std.proofs.lemmas.List.Elements.{All-get_or, All-set, All-head, All-tail, All-replicate, All-nil}
use Rattle.std.proofs.lemmas.List.Folds.{sum_by-replicate}
use Rattle.bit_boards.specs.declared.piece.Side.{Side}
use Rattle.board_core.specs.Board.{Board}
use Rattle.notes.specs.Derivation.{Derivation, attacker_of}
use Rattle.notes.specs.declared.words.Kept.TheVariants.{Slot}
use Rattle.notes.specs.declared.words.Update.TheVariants.{Note as AddNote}
use Rattle.table_shard.specs.Entry.{EntryView, AreFor}
use Rattle.table_shard.specs.Known.{TakesNote, TakesNotes, one_each}
use Rattle.table_shard.specs.Row.{left}
use Rattle.table_shard.specs.Shard.{row_of, IsLeftAt}
use Rattle.table_shard.specs.Spot.{place_of}
use Rattle.table_shard.proofs.Offered.{place_within}
use Rattle.unit_desk.specs.Desk.{DeskView}
use Rattle.unit_desk.specs.Known.{IsKnown}
use Rattle.worker_core.specs.Port.{Suits}
use Rattle.lone_port.specs.Lone.{LonePortView, IsLone, alone_at_first, worker_at_first, book_of}
use Rattle.lone_port.specs.Filled.{IsFilled}
use Rattle.lone_port.proofs.Rows.{enters_for, left_for}

-- 1. ONE NOTE.

-- All notes in the rows are for the attacker.
abbrev AllFor : Side → List (List EntryView) → Type 0
AllFor attacker rows = All (All (AreFor attacker)) rows

-- There are as many rows behind it.
pub takes_long : (rows : List (List EntryView)) (note : Derivation) (after : List (List EntryView)) → TakesNote rows note after → length after ≡ length rows
takes_long rows note after h = left_long h.leaves
  where
    between_long : length h.between ≡ length rows
    between_long = ap length h.enters.others ∙ length-set rows (place_of h.key (length rows)) h.enters.row

    left_long : IsLeftAt h.between h.slot h.key (AddNote note) after → length after ≡ length rows
    left_long (inl l) = ap length l.1 ∙ (length-set h.between (place_of h.key (length h.between)) (left (row_of h.between h.key) h.slot (AddNote note)) ∙ between_long)
    left_long (inr l) = ap length l.1 ∙ between_long

-- And all notes are for the attacker, where this one is.
pub takes_for : (attacker : Side) (rows : List (List EntryView)) (note : Derivation) (after : List (List EntryView)) → 0 < length rows → TakesNote rows note after
    → attacker_of note ≡ attacker → AllFor attacker rows → AllFor attacker after
takes_for attacker rows note after some h his all =
    left_all h.leaves
  where
    row_all : All (AreFor attacker) h.enters.row
    row_all = enters_for attacker (row_of rows h.key) (replicate 8 0) h.key one_each (Slot h.slot) h.enters.row h.enters.enters
        (All-get_or (All (AreFor attacker)) rows (place_of h.key (length rows)) [] (place_within h.key (length rows) some) all)

    between_all : AllFor attacker h.between
    between_all = subst (AllFor attacker) (sym h.enters.others) (All-set (All (AreFor attacker)) rows (place_of h.key (length rows)) h.enters.row row_all all)

    some_between : 0 < length h.between
    some_between = subst (λ (n : ℕ). 0 < n) (sym (ap length h.enters.others ∙ length-set rows (place_of h.key (length rows)) h.enters.row)) some

    left_all : IsLeftAt h.between h.slot h.key (AddNote note) after → AllFor attacker after
    left_all (inl l) = subst (AllFor attacker) (sym l.1)
        (All-set (All (AreFor attacker)) h.between (place_of h.key (length h.between)) (left (row_of h.between h.key) h.slot (AddNote note))
        (left_for attacker h.key (AddNote note) (row_of h.between h.key) h.slot (sym h.about, his)
        (All-get_or (All (AreFor attacker)) h.between (place_of h.key (length h.between)) [] (place_within h.key (length h.between) some_between) between_all)) between_all)
    left_all (inr l) = subst (AllFor attacker) (sym l.1) between_all

-- 2. ALL OF THEM.

pub all_long : (rows : List (List EntryView)) (notes : List Derivation) (after : List (List EntryView)) → TakesNotes rows notes after → length after ≡ length rows
all_long rows [] after h = ap length h
all_long rows (note ∷ notes) after h = all_long h.0 notes after h.2 ∙ takes_long rows note h.0 h.1

pub all_for : (attacker : Side) (rows : List (List EntryView)) (notes : List Derivation) (after : List (List EntryView)) → 0 < length rows → TakesNotes rows notes after
    → All (IsKnown attacker) notes → AllFor attacker rows → AllFor attacker after
all_for attacker rows [] after some h known all = subst (AllFor attacker) (sym h) all
all_for attacker rows (note ∷ notes) after some h known all =
    all_for attacker h.0 notes after (subst (λ (n : ℕ). 0 < n) (sym (takes_long rows note h.0 h.1)) some) h.2 (All-tail (IsKnown attacker) note notes known)
    (takes_for attacker rows note h.0 some h.1 (All-head (IsKnown attacker) note notes known).same_attacker all)

-- One more, behind the others.
pub takes_push : (rows : List (List EntryView)) (notes : List Derivation) (note : Derivation) (between after : List (List EntryView)) → TakesNotes rows notes between
    → TakesNote between note after → TakesNotes rows (notes ++ note ∷ []) after
takes_push rows [] note between after h t = (after, subst (λ (z : List (List EntryView)). TakesNote z note after) h t, refl)
takes_push rows (n ∷ notes) note between after h t = (h.0, h.1, takes_push h.0 notes note between after h.2 t)

-- 3. WHAT IS KEPT.

abbrev no_counts : List ℕ
no_counts = replicate {A = ℕ} 8 0

no_count : (n place slot : ℕ) → get_or {A = ℕ} (get_or {A = List ℕ} (replicate n no_counts) place []) slot 0 ≡ 0
no_count n place slot =
    elim (cases_lt place n) as (λ _. get_or {A = ℕ} (get_or {A = List ℕ} (replicate n no_counts) place []) slot 0 ≡ 0) [
      | inl low ↦ ap (λ (counts : List ℕ). get_or counts slot 0) (get_or-replicate n place no_counts [] low) ∙ eight slot
      | inr high ↦ ap (λ (counts : List ℕ). get_or counts slot 0) (get_or_past (replicate n no_counts) place [] (let l = length-replicate n no_counts in omega (arith, l, high)))
          ∙ get_or_past {X = ℕ} [] slot 0 (omega arith)
    ]
  where
    eight : (s : ℕ) → get_or {A = ℕ} no_counts s 0 ≡ 0
    eight s = elim (cases_lt s 8) as (λ _. get_or {A = ℕ} no_counts s 0 ≡ 0) [
      | inl low ↦ get_or-replicate {A = ℕ} 8 s 0 0 low
      | inr high ↦ get_or_past {X = ℕ} no_counts s 0 (omega (arith, high))
    ]

pub filled_lone : (n : ℕ) (notes : List Derivation) (its_rows : List (List EntryView)) (its_pins : List (List ℕ)) (its_desk : DeskView) (its_lends : Bool) → 0 < n
    → its_pins ≡ replicate n (replicate 8 0) → TakesNotes (replicate n []) notes its_rows → All (IsKnown its_desk.position.side) notes
    → IsLone (record { rows = its_rows; pins = its_pins; desk = its_desk; going = true; stops = false; lends = its_lends })
filled_lone n notes its_rows its_pins its_desk its_lends some pins takes known =
    let long : length its_rows ≡ n = all_long (replicate n []) notes its_rows takes ∙ length-replicate n [] in record {
      some = subst (λ (m : ℕ). 0 < m) (sym long) some;
      as_many = ap length pins ∙ (length-replicate n no_counts ∙ sym long);
      eight = subst (All (λ (counts : List ℕ). length counts ≡ 8)) (sym pins) (All-replicate (λ (counts : List ℕ). length counts ≡ 8) n no_counts (length-replicate {A = ℕ} 8 0));
      there = λ place slot above. (
          let none : get_or (get_or its_pins place []) slot 0 ≡ 0 = ap (λ (ps : List (List ℕ)). get_or (get_or ps place []) slot 0) pins ∙ no_count n place slot in
          absurd (omega (arith, above, none)));
      notes = all_for its_desk.position.side (replicate n []) notes its_rows (subst (λ (m : ℕ). 0 < m) (sym (length-replicate {A = List EntryView} n [])) some) takes known
          (All-replicate (All (AreFor its_desk.position.side)) n [] (All-nil (AreFor its_desk.position.side)));
    }

-- 4. WHO MAY WORK OVER IT.

-- A worker in the search of the problem may begin to work over it.
pub filled_suits : (notes : List Derivation) (port : LonePortView) (problem : Board) (expansions room rows number : ℕ) (lends : Bool)
    → IsFilled notes (alone_at_first problem expansions room rows lends) port → Suits (worker_at_first problem number) (book_of port)
filled_suits notes port problem expansions room rows number lends is =
    subst (λ (q : LonePortView). Suits (worker_at_first problem number) (book_of q)) (sym is.others) (record {
      problem = refl;
      going = inl refl;
      held = λ word. omega arith;
      some = omega arith;
      visits = omega arith;
      size = let none = sum_by-replicate sum rows (replicate 8 0) in omega (arith, none);
      most = omega arith;
    })
