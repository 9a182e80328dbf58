-- A check has a text.
use Rattle.std.proofs.Common.{◌≡◌, ◌≤◌, length, arith, sym, subst}
use Rattle.std.proofs.lemmas.List.{get_or_past}
use Rattle.bit_boards.specs.declared.piece.Kind.{Kind}
use Rattle.bit_boards.specs.declared.piece.Kind.TheVariants.{King}
use Rattle.bit_boards.specs.declared.piece.Side.{Side}
use Rattle.bit_boards.specs.declared.piece.Side.TheVariants.{Black, White}
use Rattle.board_core.specs.declared.moves.Move.{Move}
use Rattle.board_core.specs.declared.moves.Move.TheVariants as moves
use Rattle.board_core.specs.Board.{Board, hand_of, hand_count}
use Rattle.board_core.specs.Kept.{IsKept}
use Rattle.board_core.specs.Text.{HasText}
use Rattle.shogi_rules.specs.Rules.{IsOwn}
use Rattle.shogi_rules.specs.Laws.{LegalBoardMoves}
use Rattle.shogi_rules.specs.declared.illegal.Illegal.TheVariants.{NotInHand}
use Rattle.shogi_rules.specs.Tsume.{IsCheck}

hand_long : (b : Board) (side : Side) → IsKept b → length (hand_of b side) ≤ 7
hand_long b Black kept = let e = kept.black in omega (arith, e)
hand_long b White kept = let e = kept.white in omega (arith, e)

pub check_has_text : LegalBoardMoves → (attacker : Side) (b : Board) (check : Move) → IsKept b → IsCheck attacker b check → HasText check
check_has_text goes attacker b (moves.Board from to promote) kept is =
    λ e. let can = (goes b from.number to.number promote).0 is.legal in can.free (subst (IsOwn b) e can.own)
check_has_text goes attacker b (moves.Drop dropped to) kept is =
    λ e.
    let none : hand_count (hand_of b b.side) King ≡ 0 = get_or_past (hand_of b b.side) 7 0 (hand_long b b.side kept) in
    is.legal NotInHand (subst (λ (k : Kind). hand_count (hand_of b b.side) k ≡ 0) (sym e) none)
