-- Cells of a board: who stands there, and what is in a hand.
use Rattle.std.proofs.Common.{◌≡◌, ℕ, zero, suc, List, Option, Some, None, true, false, arith, ap, sym, refl, get_or, ◌∙◌}
use Rattle.std.specs.Prelude.{IsSome, IsSomeAnd, is_some}
use Rattle.std.proofs.lemmas.List.{get_or_past}
use Rattle.bit_boards.specs.declared.piece.Kind.TheVariants.{King}
use Rattle.bit_boards.specs.declared.piece.Side.{Side}
use Rattle.bit_boards.specs.declared.piece.Side.TheVariants.{Black, White}
use Rattle.bit_boards.specs.declared.piece.Piece.{Piece}
use Rattle.bit_boards.specs.Kind.{same_side}
use Rattle.board_core.specs.Board.{Board, piece_at, hand_of, hand_count, is_king_of}
use Rattle.board_core.specs.Kept.{IsKept}
use Rattle.board_core.specs.Sets.{is_of_side}
use Rattle.board_laws.proofs.Sides.{same_side_itself}
-- what stands on a square after a cell was written, and how many cells there are
pub use Rattle.board_core.proofs.Cells.{piece_at-set_same, piece_at-set_other, length-set, piece_at-get_or}
-- what one cell counts
pub use Rattle.board_core.proofs.Keeps.{one_if_most}

-- what stands on a square is what is read there
pub piece_at_is : (cells : List (Option Piece)) (n : ℕ) → piece_at cells n ≡ get_or cells n None
piece_at_is cells n = sym (piece_at-get_or cells n)

-- a side's piece stands where one of it stands
pub own_is : (cell : Option Piece) (side : Side) → IsSomeAnd cell (λ p. p.side ≡ side) → is_of_side side cell ≡ true
own_is None side h = absurd h
own_is (Some piece) side h = ap (λ (s : Side). same_side s side) h ∙ same_side_itself side

pub no_king_here : (cell : Option Piece) (side : Side) → cell ≡ None → is_king_of side cell ≡ true → ⊥
no_king_here cell side e h = let f : is_king_of side cell ≡ false = ap (is_king_of side) e in absurd (cc)

pub full_there : (cell : Option Piece) → cell ≡ None → ¬ IsSome cell
full_there None e h = cc
full_there (Some piece) e h = cc

pub empty_of : (cell : Option Piece) → is_some cell ≡ false → cell ≡ None
empty_of None e = refl
empty_of (Some piece) e = absurd (cc)

pub none_everywhere : (n place : ℕ) → piece_at (Rattle.std.specs.Prelude.replicate n None) place ≡ None
none_everywhere zero zero = refl
none_everywhere zero (suc place) = refl
none_everywhere (suc n) zero = refl
none_everywhere (suc n) (suc place) = none_everywhere n place

-- no king is in hand
pub no_king_in : (b : Board) (side : Side) → IsKept b → hand_count (hand_of b side) King ≡ 0
no_king_in b Black kept = let e = kept.black in get_or_past b.black 7 0 (omega arith)
no_king_in b White kept = let e = kept.white in get_or_past b.white 7 0 (omega arith)
