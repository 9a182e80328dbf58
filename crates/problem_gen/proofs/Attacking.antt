-- What one more piece on the board attacks, and what it leaves as it was.
use Rattle.std.proofs.Common.{◌≡◌, ◌≢◌, ◌<◌, ◌⊎◌, inl, inr, ◌↔◌, ◌∙◌, ℕ, List, Option, Some, None, true, false, ap, sym, refl, subst}
use Rattle.std.specs.Prelude.{IsSomeAnd}
use Rattle.std.proofs.lemmas.Bool.{cases_eq}
use Rattle.board_laws.proofs.Pieces.{not_the_king}
use Rattle.bit_boards.specs.declared.piece.Piece.{Piece}
use Rattle.bit_boards.specs.declared.piece.Kind.TheVariants.{King}
use Rattle.bit_boards.specs.declared.piece.Side.{Side}
use Rattle.bit_boards.specs.declared.piece.Side.TheVariants.{Black, White}
use Rattle.board_core.specs.Board.{Board, piece_at, is_king_of, ChangesCell}
use Rattle.shogi_rules.specs.Rules.{Reaches, AttacksFrom, Attacks}
use Rattle.shogi_rules.proofs.Offered.{kings_dropped}
use Rattle.problem_gen.specs.declared.drawn.Drawn.{Drawn}
use Rattle.problem_gen.specs.Generator.{piece_of, square_for, with_piece, MayStand, IsUnderWay}

-- what was empty before a piece came
was_empty : (b c : Board) (square : ℕ) (piece : Piece) → ChangesCell b c square (Some piece) → (m : ℕ) → piece_at c.cells m ≡ None → piece_at b.cells m ≡ None
was_empty b c square piece change m h = elim (cases_eq m square) [
  | inl e ↦ absurd (let there = change.there in let here : piece_at c.cells square ≡ None = subst (λ (s : ℕ). piece_at c.cells s ≡ None) e h in cc)
  | inr n ↦ sym (change.elsewhere m n) ∙ h
]

attacked_before : (b c : Board) (square : ℕ) (piece : Piece) (side : Side) (from to : ℕ) (cell : Option Piece) → ChangesCell b c square (Some piece)
    → IsSomeAnd cell (λ p. (p.side ≡ side) × Reaches c.cells p from to) → IsSomeAnd cell (λ p. (p.side ≡ side) × Reaches b.cells p from to)
attacked_before b c square piece side from to None change h = h
attacked_before b c square piece side from to (Some p) change h =
    (h.0, record { fit = h.1.fit; clear = λ m between. was_empty b c square piece change m (h.1.clear m between) })

-- an attack on a board with one more piece comes from it, or was there before
attack_put : (b c : Board) (square : ℕ) (piece : Piece) (side : Side) (to : ℕ) → ChangesCell b c square (Some piece)
    → Attacks c.cells side to → AttacksFrom c.cells side square to ⊎ Attacks b.cells side to
attack_put b c square piece side to change h = elim (cases_eq h.0 square) [
  | inl e ↦ inl (subst (λ (s : ℕ). AttacksFrom c.cells side s to) e h.2)
  | inr n ↦
      let moved : IsSomeAnd (piece_at b.cells h.0) (λ p. (p.side ≡ side) × Reaches c.cells p h.0 to) =
      subst (λ (cell : Option Piece). IsSomeAnd cell (λ p. (p.side ≡ side) × Reaches c.cells p h.0 to)) (change.elsewhere h.0 n) h.2 in
      inr (h.0, h.1, attacked_before b c square piece side h.0 to (piece_at b.cells h.0) change moved)
]

-- where no Black piece attacked the king, one more attacks it exactly where it does so itself
pub attack_of_put : (b c : Board) (king square : ℕ) (piece : Piece) → ¬ Attacks b.cells Black king → square < 81 → ChangesCell b c square (Some piece)
    → Attacks c.cells Black king ↔ AttacksFrom c.cells Black square king
attack_of_put b c king square piece safe within change =
    (λ h. elim (attack_put b c square piece Black king change h) [ inl own ↦ own | inr old ↦ absurd (safe old) ], λ h. (square, within, h))

king_kept : (b c : Board) (king square : ℕ) (piece : Piece) → piece_at b.cells square ≡ None → ChangesCell b c square (Some piece)
    → is_king_of White (piece_at b.cells king) ≡ true → is_king_of White (piece_at c.cells king) ≡ true
king_kept b c king square piece free change there = elim (cases_eq king square) [
  | inl e ↦ absurd (let none : is_king_of White (piece_at b.cells king) ≡ false = rw (e, free) refl in cc)
  | inr n ↦ rw (change.elsewhere king n) there
]

no_king : (side : Side) (piece : Piece) → piece.kind ≢ King → is_king_of side (Some piece) ≡ false
no_king side piece other = rw (not_the_king piece.kind other) refl

only_kept : (b c : Board) (king square : ℕ) (piece : Piece) → piece.kind ≢ King → ChangesCell b c square (Some piece)
    → ((s : ℕ) → is_king_of White (piece_at b.cells s) ≡ true → s ≡ king)
    → (s : ℕ) → is_king_of White (piece_at c.cells s) ≡ true → s ≡ king
only_kept b c king square piece other change only s h = elim (cases_eq s square) [
  | inl e ↦ absurd (let none : is_king_of White (piece_at c.cells s) ≡ false = rw (e, change.there) (no_king White piece other) in cc)
  | inr n ↦ only s (rw (change.elsewhere s n) at h)
]

black_attacks : (cell : Option Piece) (piece : Piece) (cells : List (Option Piece)) (from to : ℕ) → cell ≡ Some piece
    → IsSomeAnd cell (λ p. (p.side ≡ Black) × Reaches cells p from to) → piece.side ≡ Black
black_attacks None piece cells from to e h = absurd h
black_attacks (Some p) piece cells from to e h = let same : p ≡ piece = cc in sym (ap (λ (q : Piece). q.side) same) ∙ h.0

-- a piece that may stand where it is put leaves the problem under way
pub stands_under_way : (b c : Board) (king : ℕ) (piece : Drawn) → IsUnderWay king b → MayStand b king piece → piece.kind ≢ King
    → c ≡ with_piece b piece → ChangesCell b c (square_for piece) (Some (piece_of piece)) → IsUnderWay king c
stands_under_way b c king piece under may other same change = record {
  turn = rw same under.turn;
  there = king_kept b c king (square_for piece) (piece_of piece) may.free change under.there;
  only = only_kept b c king (square_for piece) (piece_of piece) other change under.only;
  defender = kings_dropped b c (square_for piece) (piece_of piece) White other may.free change ∙ under.defender;
  attacker = kings_dropped b c (square_for piece) (piece_of piece) Black other may.free change ∙ under.attacker;
  safe = λ h. elim (attack_put b c (square_for piece) (piece_of piece) Black king change h) [
    | inl own ↦
        may.safe (black_attacks (piece_at c.cells (square_for piece)) (piece_of piece) c.cells (square_for piece) king change.there own)
        (subst (λ (d : Board). AttacksFrom d.cells Black (square_for piece) king) same own)
    | inr old ↦ under.safe old
  ];
}
