-- Where a piece can stand that reaches a square: near it, or on its lines if it slides.
use Rattle.std.proofs.Common.{◌≡◌, ◌<◌, ◌/◌, ◌%◌, ◌&&◌, ◌||◌, ℕ, Option, Some, None, Bool, true, false, arith, refl, sym, ap, ◌∙◌, inl, inr}
use Rattle.std.specs.Prelude.{IsSomeAnd, IsTrue}
use Rattle.std.proofs.lemmas.Bool.{false≢true, or_cases, or_right, or_left, and_from}
use Rattle.board_laws.proofs.Sides.{same_side_itself}
use Rattle.board_laws.proofs.Squares.{line_back}
use Rattle.bit_boards.specs.declared.piece.Piece.{Piece}
use Rattle.bit_boards.specs.declared.piece.Kind.{Kind}
use Rattle.bit_boards.specs.declared.piece.Kind.TheVariants.{Pawn, Lance, Knight, Silver, Gold, Bishop, Rook, King}
use Rattle.bit_boards.specs.declared.piece.Side.{Side}
use Rattle.bit_boards.specs.Kind.{same_side}
use Rattle.bit_boards.specs.Movement.{fits, distance, slides, goes_by_step, goes_by_slide, in_reach, share_line, are_near, StepsAreNear, SlidesShareLine}
use Rattle.board_core.specs.Sets.{is_of_side, is_slider}

-- whatever slides is one of the pieces that slide
slider : (k : Kind) (promoted : Bool) (side : Side) (can : promoted ≡ true → Rattle.bit_boards.specs.Kind.can_promote k ≡ true) (aside low high : ℕ)
    → slides k promoted aside low high ≡ true → is_slider (Some (record { kind = k; promoted = promoted; side = side; promotes = can })) ≡ true
slider Pawn p side can a l h e = absurd (false≢true e)
slider Lance false side can a l h e = refl
slider Lance true side can a l h e = absurd (false≢true e)
slider Knight p side can a l h e = absurd (false≢true e)
slider Silver p side can a l h e = absurd (false≢true e)
slider Gold p side can a l h e = absurd (false≢true e)
slider Bishop p side can a l h e = refl
slider Rook p side can a l h e = refl
slider King p side can a l h e = absurd (false≢true e)

-- near squares and lines are so both ways
near_back : (a b : ℕ) → are_near a b ≡ are_near b a
near_back a b =
    let files : distance (a / 9) (b / 9) ≡ distance (b / 9) (a / 9) = omega arith in
    let rows : distance (a % 9) (b % 9) ≡ distance (b % 9) (a % 9) = omega arith in
    ap (λ x. in_reach x (distance (a % 9) (b % 9))) files ∙ ap (λ y. in_reach (distance (b / 9) (a / 9)) y) rows

-- a piece that would go to a square stands near it, or on its lines and slides
pub candidate : StepsAreNear → SlidesShareLine → (side : Side) (from to : ℕ) → from < 81 → to < 81 → (cell : Option Piece)
    → IsSomeAnd cell (λ piece. (piece.side ≡ side) × IsTrue (fits piece from to))
    → ((are_near to from || (share_line to from && is_slider cell)) && is_of_side side cell) ≡ true
candidate near lined side from to h i None attack = absurd attack
candidate near lined side from to h i (Some piece) attack =
    and_from _ _
    (elim (or_cases (goes_by_step piece from to) (goes_by_slide piece from to) attack.1) [
      | inl step ↦ or_left _ _ (near_back to from ∙ near piece from to h i step)
      | inr slide ↦ or_right _ _ (and_from _ _ (line_back to from ∙ lined piece from to h i slide)
          (slider piece.kind piece.promoted piece.side piece.promotes _ _ _ slide))
    ])
    (ap (same_side piece.side) (sym attack.0) ∙ same_side_itself piece.side)
