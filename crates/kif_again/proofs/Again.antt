-- What is written is read again.
use Rattle.std.proofs.Common.{◌≡◌, ◌≢◌, ◌<◌, ◌≤◌, ◌+◌, ◌^◌, ℕ, List, length, None, sym, subst, ◌∙◌, arith}
use Rattle.bit_boards.specs.declared.piece.Kind.{Kind}
use Rattle.bit_boards.specs.declared.piece.Kind.TheVariants.{Pawn, Lance, Knight, Silver, Gold, Bishop, Rook, King}
use Rattle.bit_boards.specs.Kind.{total_of}
use Rattle.board_core.specs.declared.moves.Move.{Move}
use Rattle.board_core.specs.Board.{Board, hand_count}
use Rattle.board_core.specs.Kept.{IsKept}
use Rattle.shogi_rules.specs.Tsume.{IsProblem}
use Rattle.kif_record.specs.Record.{IsRecord}
use Rattle.kif_moves.specs.Lines.{numbered}
use Rattle.kif_moves.specs.Playing.{AreInTurn, SayAll}
use Rattle.kif_moves.specs.Reading.{StandsFor}
use Rattle.kif_again.proofs.Hand.{HandAgain, hand_again}
use Rattle.kif_again.proofs.Moves.{end_again}
use Rattle.kif_again.proofs.Play.{move_texts, play_again}
use Rattle.kif_again.proofs.Whole.{all_written, head_of, move_lines_are, record_is, spelled}

few_total : (kind : Kind) → total_of kind ≤ 18
few_total Pawn = omega arith
few_total Lance = omega arith
few_total Knight = omega arith
few_total Silver = omega arith
few_total Gold = omega arith
few_total Bishop = omega arith
few_total Rook = omega arith
few_total King = omega arith

few_black : (b : Board) → IsKept b → (kind : Kind) → kind ≢ King → hand_count b.black kind ≤ 18
few_black b kept piece held = let few = kept.totals piece held in let most = few_total piece in omega (arith, few, most)

few_white : (b : Board) → IsKept b → (kind : Kind) → kind ≢ King → hand_count b.white kind ≤ 18
few_white b kept piece held = let few = kept.totals piece held in let most = few_total piece in omega (arith, few, most)

pub stands_for : (problem : Board) (moves : List Move) (text : List ℕ) → IsKept problem → IsProblem problem → length moves < 2 ^ 63
    → AreInTurn problem.side problem moves → IsRecord problem moves text → StandsFor text problem moves
stands_for b moves text kept is_problem small turn record_of =
    let white = hand_again b.white kept.white (few_white b kept) in
    let black = hand_again b.black kept.black (few_black b kept) in
    let play = play_again b.side b None 1 moves (omega (arith, small)) kept turn in
    let last = end_again (length moves + 1) record_of.mated (omega (arith, small)) in
    let all = all_written b moves record_of.mated white black play.written last in
    subst (λ (t : List ℕ). StandsFor t b moves) (sym (record_of.is_text ∙ record_is b moves record_of.mated)) (record {
      spells = spelled b moves record_of.mated kept.cells white black all;
      kept = kept;
      is_problem = is_problem;
      said = subst (λ ls. SayAll b None ls moves) (sym (move_lines_are b moves record_of.mated all play.counts last)) (play.says (length (head_of b) + 2));
      in_turn = turn;
    })
