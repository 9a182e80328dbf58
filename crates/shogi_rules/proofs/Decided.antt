-- What isn't refused holds: each test of the rules can be decided.
use Rattle.std.proofs.Common.{◌≡◌, ℕ, Option, Some, None, Bool, true, false, List, refl, IsTrue}
use Rattle.std.specs.Prelude.{IsSomeAnd}
use Rattle.bit_boards.specs.declared.piece.Piece.{Piece}
use Rattle.bit_boards.specs.declared.piece.Side.{Side}
use Rattle.bit_boards.specs.declared.piece.Side.TheVariants.{Black, White}
use Rattle.board_core.specs.Board.{Board, piece_at}
use Rattle.bit_boards.specs.Movement.{fits}
use Rattle.shogi_rules.specs.Rules.{promotion_fits, IsOwn, Fits, PromotionFits, IsClear}

side_decided : (a b : Side) → ¬ ¬ (a ≡ b) → a ≡ b
side_decided Black Black h = refl
side_decided Black White h = absurd (h (λ e. cc))
side_decided White Black h = absurd (h (λ e. cc))
side_decided White White h = refl

true_decided : (t : Bool) → ¬ ¬ IsTrue t → IsTrue t
true_decided true h = refl
true_decided false h = absurd (h (λ e. cc))

some_decided : (P : Piece → Type 0) → ((p : Piece) → ¬ ¬ P p → P p) → (o : Option Piece) → ¬ ¬ IsSomeAnd o P → IsSomeAnd o P
some_decided P each None h = absurd (h (λ s. s))
some_decided P each (Some p) h = each p h

pub own_decided : (b : Board) (s : ℕ) → ¬ ¬ IsOwn b s → IsOwn b s
own_decided b s h = some_decided (λ p. p.side ≡ b.side) (λ p. side_decided p.side b.side) (piece_at b.cells s) h

pub fits_decided : (b : Board) (from to : ℕ) → ¬ ¬ Fits b from to → Fits b from to
fits_decided b from to h = some_decided (λ p. IsTrue (fits p from to)) (λ p. true_decided (fits p from to)) (piece_at b.cells from) h

pub promotion_decided : (b : Board) (from to : ℕ) (promote : Bool) → ¬ ¬ PromotionFits b from to promote → PromotionFits b from to promote
promotion_decided b from to promote h =
    some_decided (λ p. IsTrue (promotion_fits p from to promote)) (λ p. true_decided (promotion_fits p from to promote)) (piece_at b.cells from) h

none_decided : (o : Option Piece) → ¬ ¬ (o ≡ None) → o ≡ None
none_decided None h = refl
none_decided (Some p) h = absurd (h (λ e. cc))

pub clear_decided : (cells : List (Option Piece)) (from to : ℕ) → ¬ ¬ IsClear cells from to → IsClear cells from to
clear_decided cells from to h m between = none_decided (piece_at cells m) (λ full. h (λ clear. full (clear m between)))
