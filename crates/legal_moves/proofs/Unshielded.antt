-- Where a piece shields its king from none, its leaving lets none attack him.
use Rattle.std.proofs.Common.{◌⊎◌, inl, inr, ℕ, List, Option}
use Rattle.std.proofs.lemmas.Bool.{cases_eq}
use Rattle.bit_boards.specs.declared.piece.Side.{Side}
use Rattle.bit_boards.specs.declared.piece.Piece.{Piece}
use Rattle.bit_boards.specs.Kind.{other}
use Rattle.board_core.specs.Board.{Board, piece_at}
use Rattle.shogi_rules.specs.Rules.{AttacksFrom}
use Rattle.attack_lines.specs.Lines.{AttacksWithout, IsShield}
use Rattle.attack_laws.proofs.Arrived.{some_of, some_by, empty_is}
use Rattle.attack_laws.proofs.Stopped.{between_decided}
use Rattle.legal_moves.specs.Legal.{StopsAttackers, StopsOnceLeft}

-- who attacks does so when another piece is lifted
lifted_too : (cells : List (Option Piece)) (side : Side) (lifted from to : ℕ) → AttacksFrom cells side from to → AttacksWithout cells side lifted from to
lifted_too cells side lifted from to attack =
    let t = some_of (piece_at cells from) _ attack in
    some_by (piece_at cells from) _ t.0 t.1 (t.2.0, (t.2.1.fit, (λ m between. empty_is (piece_at cells m) _ (t.2.1.clear m between))))

neither : {A B : Type 0} → (A → ⊥) → (B → ⊥) → A ⊎ B → ⊥
neither f g (inl a) = f a
neither f g (inr b) = g b

pub stops_as_before : (b : Board) (left to king : ℕ) → ¬ IsShield b.cells (other b.side) left king → StopsAttackers b to king → StopsOnceLeft b left to king
stops_as_before b left to king none blocks s low attack = elim (cases_eq to s) [
  | inl e ↦ inl e
  | inr n ↦ elim (between_decided s to king) [
    | inl between ↦ inr between
    | inr aside ↦ absurd (none (record { from = s; on_board = low; lifted = attack; blocked = λ now. neither n aside (blocks s low now) }))
  ]
]

pub stopped_before : (b : Board) (left to king : ℕ) → StopsOnceLeft b left to king → StopsAttackers b to king
stopped_before b left to king blocks s low attack = blocks s low (lifted_too b.cells (other b.side) left s king attack)
