-- When a king is attacked after a drop, and from which square a dropped pawn attacks one.
use Rattle.std.proofs.Common.{◌≡◌, ◌≢◌, ◌<◌, ◌+◌, ◌||◌, ◌==◌, ◌/◌, ◌%◌, inl, inr, ℕ, Option, Some, None, Bool, true, false, length, IsTrue, arith, refl, sym, ap, subst, ◌∙◌}
use Rattle.std.proofs.lemmas.Bool.{cases_eq, and_parts, eqb-true, both_ways}
use Rattle.std.proofs.lemmas.Option.{same_Some}
use Rattle.bit_boards.specs.declared.piece.Kind.{Kind}
use Rattle.bit_boards.specs.declared.piece.Kind.TheVariants.{Pawn, King}
use Rattle.bit_boards.specs.declared.piece.Side.{Side}
use Rattle.bit_boards.specs.declared.piece.Side.TheVariants.{Black, White}
use Rattle.bit_boards.specs.declared.piece.Piece.{Piece}
use Rattle.bit_boards.specs.declared.square.Square.{Square}
use Rattle.bit_boards.specs.declared.mask.Mask.{Mask}
use Rattle.bit_boards.specs.Kind.{other}
use Rattle.bit_boards.specs.Square.{height}
use Rattle.bit_boards.specs.Piece.{plain_piece}
use Rattle.bit_boards.specs.Mask.{Holds}
use Rattle.bit_boards.specs.Movement.{distance, fits, goes_by_step}
use Rattle.board_core.specs.Board.{Board, piece_at, is_king_of}
use Rattle.shogi_rules.specs.Rules.{after_drop, IsInCheck, IsQuiet}
use Rattle.attack_laws.proofs.Arrived.{some_of}
use Rattle.legal_moves.specs.Legal.{AreGuarding}
use Rattle.legal_moves.specs.Droppable.{IsEnemyKing}
use Rattle.legal_moves.proofs.Sheltered.{IsOnlyKing, attacker_there, attacked_there, attacked_before, king_dropped, not_king, Dropped, dropped, drop_safe_of, drop_stopping_of}
use Rattle.legal_moves.proofs.Stepping.{only_king}

-- 1. THE MOVER'S KING.

-- where a side has no king, no drop of another piece gives it one
none_dropped : (b : Board) (wanted : Kind) (to s : ℕ) → Dropped b.cells (after_drop b wanted to).cells to (plain_piece wanted b.side) → wanted ≢ King
    → ((square : ℕ) → is_king_of b.side (piece_at b.cells square) ≡ false) → is_king_of b.side (piece_at (after_drop b wanted to).cells s) ≡ true → ⊥
none_dropped b wanted to s d plain none is =
    let new = (after_drop b wanted to).cells in
    elim (cases_eq s to) [
      | inl e ↦ not_king b.side (plain_piece wanted b.side) plain (ap (is_king_of b.side) (sym (ap (piece_at new) e ∙ d.now)) ∙ is)
      | inr n ↦ both_ways _ (none s) (ap (is_king_of b.side) (sym (d.elsewhere s n)) ∙ is)
    ]

-- where a drop stops whoever attacks the mover's king, he isn't attacked after it
pub drop_safe : (b : Board) (wanted : Kind) (to : ℕ) (king : Option Square) (stopping shielding : Mask) → AreGuarding b king stopping shielding
    → length b.cells ≡ 81 → wanted ≢ King → to < 81 → piece_at b.cells to ≡ None → Holds stopping to → ¬ IsInCheck (after_drop b wanted to).cells b.side
drop_safe b wanted to None stopping shielding g long plain low empty has check =
    none_dropped b wanted to check.0 (dropped b wanted to long low empty) plain g.none check.2.king
drop_safe b wanted to (Some king) stopping shielding g long plain low empty has check =
    drop_safe_of b to (plain_piece wanted b.side) (after_drop b wanted to).cells king.number (dropped b wanted to long low empty) plain refl
    (only_king b king stopping shielding g) ((g.blocks to).0 has).1 check

-- and only there
pub drop_stops : (b : Board) (wanted : Kind) (to : ℕ) (king : Option Square) (stopping shielding : Mask) → AreGuarding b king stopping shielding
    → length b.cells ≡ 81 → wanted ≢ King → to < 81 → piece_at b.cells to ≡ None → ¬ IsInCheck (after_drop b wanted to).cells b.side → Holds stopping to
drop_stops b wanted to None stopping shielding g long plain low empty safe = g.all to low
drop_stops b wanted to (Some king) stopping shielding g long plain low empty safe =
    (g.blocks to).1 (
      low,
      drop_stopping_of b to (plain_piece wanted b.side) (after_drop b wanted to).cells king.number (dropped b wanted to long low empty) plain
          (only_king b king stopping shielding g) safe,
    )

-- 2. THE OTHER KING.

or_no : (p : Bool) → (p || false) ≡ true → p ≡ true
or_no true h = refl
or_no false h = h

-- a pawn doesn't slide
pawn_steps : (side : Side) (from to : ℕ) → IsTrue (fits (plain_piece Pawn side) from to) → IsTrue (goes_by_step (plain_piece Pawn side) from to)
pawn_steps side from to h = or_no _ h

-- a dropped pawn that gives check steps to the king: he wasn't attacked before
pub check_by_pawn : (b : Board) (to king : ℕ) → length b.cells ≡ 81 → to < 81 → king < 81 → piece_at b.cells to ≡ None → IsQuiet b → IsEnemyKing b king
    → IsInCheck (after_drop b Pawn to).cells (other b.side) → IsTrue (goes_by_step (plain_piece Pawn b.side) to king)
check_by_pawn b to king long low high empty quiet foe check =
    let new = (after_drop b Pawn to).cells in
    let pawn = plain_piece Pawn b.side in
    let d = dropped b Pawn to long low empty in
    let k : IsOnlyKing b.cells (other b.side) king = record { low = high; here = foe.here; only = foe.only } in
    let plain : Pawn ≢ King = λ e. cc in
    let h = attacker_there new (other b.side) king (king_dropped b.cells new (other b.side) to pawn king d plain k) check in
    elim (cases_eq h.from to) [
      | inl e ↦
          let t = some_of (piece_at new h.from) _ h.attack in
          let same : t.0 ≡ pawn = same_Some t.0 pawn (sym t.1 ∙ (ap (piece_at new) e ∙ d.now)) in
          let fit : IsTrue (fits pawn h.from king) = subst (λ (p : Piece). IsTrue (fits p h.from king)) same t.2.1.fit in
          pawn_steps b.side to king (subst (λ (s : ℕ). IsTrue (fits pawn s king)) e fit)
      | inr n ↦ absurd (quiet (attacked_there b.cells (other b.side) king h.from k h.low
          (attacked_before b.cells new (other (other b.side)) to pawn h.from king d n h.attack).0))
    ]

-- how a pawn steps: to the next row of its file
record IsPawnStep (side : Side) (from to : ℕ) : Type 0 where
  pub file : from / 9 ≡ to / 9
  pub up : height side to ≡ height side from + 1

files_meet : (a b : ℕ) → distance a b ≡ 0 → a ≡ b
files_meet a b h = omega arith

pawn_step : (side : Side) (from to : ℕ) → IsTrue (goes_by_step (plain_piece Pawn side) from to) → IsPawnStep side from to
pawn_step side from to h =
    let t = and_parts (distance (from / 9) (to / 9) == 0) (height side to == height side from + 1) h in
    record { file = files_meet (from / 9) (to / 9) (eqb-true _ _ t.0); up = eqb-true _ _ t.1 }

rows_meet : (side : Side) (s t king : ℕ) → height side king ≡ height side s + 1 → height side king ≡ height side t + 1 → s % 9 ≡ t % 9
rows_meet Black s t king a b = omega arith
rows_meet White s t king a b = omega arith

square_of : (s t : ℕ) → s / 9 ≡ t / 9 → s % 9 ≡ t % 9 → s ≡ t
square_of s t a b = omega arith

-- it steps to him from one square alone
pub pawn_once : (side : Side) (s t king : ℕ) → IsTrue (goes_by_step (plain_piece Pawn side) s king) → IsTrue (goes_by_step (plain_piece Pawn side) t king) → s ≡ t
pawn_once side s t king h k =
    let one = pawn_step side s king h in
    let two = pawn_step side t king k in
    square_of s t (one.file ∙ sym two.file) (rows_meet side s t king one.up two.up)
