use Rattle.std.proofs.Common.{◌≡◌, ◌<◌, ◌≤◌, ◌↔◌, ℕ, List, Option, Some, None, true, false, ◌&&◌, length, refl, arith, ap, sym, ◌∙◌}
use Rattle.std.specs.Prelude.{IfSome, IfNone, IsSome, IsNone}
use Rattle.std.specs.List.{count_by}
use Rattle.bit_boards.specs.declared.piece.Piece.{Piece}
use Rattle.bit_boards.specs.declared.piece.Side.{Side}
use Rattle.bit_boards.specs.declared.square.Square.{Square}
use Rattle.bit_boards.specs.Mask.{holds, Holds}
use Rattle.board_core.specs.Board.{piece_at, is_king_of}
use Rattle.board_core.specs.Sets.{is_king, is_of_side}
use Rattle.board_core.proofs.Counting.{count_by-none, count_by-one, passing_once}
use Rattle.board_core.proofs.position.Position.king_square.Goals as goal

only_king : (cells : List (Option Piece)) (side : Side) (found : Option Square) → count_by (is_king_of side) cells ≤ 1
    → IfSome found (λ s. is_king_of side (piece_at cells s.number) ≡ true)
    → IfSome found (λ s. (t : ℕ) → is_king_of side (piece_at cells t) ≡ true → t ≡ s.number)
only_king cells side None most h = tt
only_king cells side (Some s) most h = λ t e. passing_once (is_king_of side) cells s.number t refl most h e

no_king : (cells : List (Option Piece)) (side : Side) (found : Option Square) → length cells ≡ 81
    → (found ≡ None → (s : ℕ) → s < 81 → is_king_of side (piece_at cells s) ≡ false)
    → IfSome found (λ s. is_king_of side (piece_at cells s.number) ≡ true)
    → IsNone found ↔ (count_by (is_king_of side) cells ≡ 0)
no_king cells side None long none some = ((λ u. count_by-none (is_king_of side) cells (λ s b. none refl s (omega arith))), (λ e. refl))
no_king cells side (Some s) long none some = (
  (λ u. absurd (cc)),
  (λ e. let within = s.on_board in absurd (omega (arith, count_by-one (is_king_of side) cells s.number (omega arith) some))),
)

-- the squares with a king of the side
held : (side : Side) (cell : Option Piece) → (is_king cell && is_of_side side cell) ≡ is_king_of side cell
held side None = refl
held side (Some piece) = refl

if_none : (found : Option Square) (P : Type 0) → IfNone found P → found ≡ None → P
if_none None P h e = h
if_none (Some s) P h e = absurd (cc)

if_some : (found : Option Square) (P Q : ℕ → Type 0) → ((s : ℕ) → P s → Q s) → IfSome found (λ s. P s.number) → IfSome found (λ s. Q s.number)
if_some None P Q imply h = tt
if_some (Some s) P Q imply h = imply s.number h

module _ (c : goal.After-first) where
  at : (s : ℕ) → holds c.and.result s ≡ is_king_of c.args.side (piece_at c.args.self.now.cells s)
  at s = c.and.ensures s ∙ (ap (λ b. b && holds c.occupied.result s) (c.kings.ensures s)
      ∙ (ap (λ b. is_king (piece_at c.args.self.now.cells s) && b) (c.occupied.ensures s) ∙ held c.args.side (piece_at c.args.self.now.cells s)))

  some : IfSome c.first.result (λ s. is_king_of c.args.side (piece_at c.args.self.now.cells s.number) ≡ true)
  some = if_some c.first.result (λ s. Holds c.and.result s) (λ s. is_king_of c.args.side (piece_at c.args.self.now.cells s) ≡ true)
      (λ s h. sym (at s) ∙ h) c.first.ensures.found

  none : c.first.result ≡ None → (s : ℕ) → is_king_of c.args.side (piece_at c.args.self.now.cells s) ≡ false
  none e s = sym (at s) ∙ if_none c.first.result _ c.first.ensures.none e s

pub returns-clause-found : goal.returns-clause-found
returns-clause-found c = some c

pub returns-clause-only : goal.returns-clause-only
returns-clause-only c = only_king c.args.self.now.cells c.args.side c.first.result (c.laws.ensures.kings c.args.side) (some c)

pub returns-clause-none : goal.returns-clause-none
returns-clause-none c = no_king c.args.self.now.cells c.args.side c.first.result c.laws.ensures.cells (λ e s w. none c e s) (some c)

standing_is_found : (found : Option Square) (P : Type 0) → (found ≡ None → P → ⊥) → P → IsSome found
standing_is_found None P never h = absurd (never refl h)
standing_is_found (Some s) P never h = refl

pub returns-clause-standing : goal.returns-clause-standing
returns-clause-standing c = λ s stands. standing_is_found c.first.result _ (λ e h. let differs = none c e s in absurd (cc)) stands
