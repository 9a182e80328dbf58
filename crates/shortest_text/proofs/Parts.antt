-- The lines of a text about the shortest mate: which bytes they lack, and what they determine.
use Rattle.std.proofs.Common.{◌≡◌, ◌≢◌, ℕ, Bool, true, false, List, [], ◌∷◌, ◌++◌, refl, sym, subst, arith}
use Rattle.std.specs.Prelude.{codes}
use Rattle.std.specs.List.{flat_map}
use Rattle.std.specs.Fmt.{decimal}
use Rattle.std.proofs.lemmas.List.{append_cancel_left}
use Rattle.bit_boards.specs.declared.piece.Kind.{Kind}
use Rattle.bit_boards.specs.declared.piece.Kind.TheVariants.{Pawn, Lance, Knight, Silver, Gold, Bishop, Rook, King}
use Rattle.bit_boards.specs.Text.{kind_letter}
use Rattle.board_core.specs.declared.moves.Move.{Move}
use Rattle.board_core.specs.declared.moves.Move.TheVariants as moves
use Rattle.board_core.specs.Board.{Board}
use Rattle.board_core.specs.Kept.{IsKept}
use Rattle.mate_facts.specs.declared.rank.Rank.{Rank}
use Rattle.usi_text.specs.MoveText.{move_text, promotion_text}
use Rattle.usi_text.specs.Lines.{spaced_move, nomate_text}
use Rattle.sfen_text.specs.Spelling.{sfen_of}
use Rattle.sfen_text.specs.Laws.{PositionTextsApart, TextsAreLines}
use Rattle.cert_text.specs.Entries.{problem_line}
use Rattle.cert_text.specs.declared.head.Claim.{Claim}
use Rattle.cert_text.specs.declared.head.Claim.TheVariants.{Mate, Escape}
use Rattle.cert_text.specs.Reading.{Lacks, IsFrontLine}
use Rattle.cert_text.proofs.Offered.{lacks_both, lacks_by, decimal_lacks, sfen_lacks, rank_small, rank_apart, line_cut}
use Rattle.shortest_text.specs.Text.{numbered_line}

-- ---- moves

letter_feeds : (k : Kind) → kind_letter k ≢ 10
letter_feeds Pawn e = omega (arith, e)
letter_feeds Lance e = omega (arith, e)
letter_feeds Knight e = omega (arith, e)
letter_feeds Silver e = omega (arith, e)
letter_feeds Gold e = omega (arith, e)
letter_feeds Bishop e = omega (arith, e)
letter_feeds Rook e = omega (arith, e)
letter_feeds King e = omega (arith, e)

promotion_lacks : (p : Bool) → Lacks 10 (promotion_text p)
promotion_lacks true = ((λ (e : 43 ≡ 10). omega arith), tt)
promotion_lacks false = tt

-- No line feed stands in a move's text.
pub move_lacks : (m : Move) → Lacks 10 (move_text m)
move_lacks (moves.Board from to p) = ((λ e. omega (arith, e)), ((λ e. omega (arith, e)), ((λ e. omega (arith, e)), ((λ e. omega (arith, e)), promotion_lacks p))))
move_lacks (moves.Drop k to) = (letter_feeds k, ((λ e. omega (arith, e)), ((λ e. omega (arith, e)), ((λ e. omega (arith, e)), tt))))

moves_lack : (ms : List Move) → Lacks 10 (flat_map spaced_move ms)
moves_lack [] = tt
moves_lack (m ∷ ms) = ((λ (e : 32 ≡ 10). omega arith), lacks_both 10 (move_text m) (flat_map spaced_move ms) (move_lacks m) (moves_lack ms))

pub front_lacks : (claim : Claim) (front : List ℕ) → IsFrontLine claim front → Lacks 10 front
front_lacks Escape front is = subst (Lacks 10) (sym is) (lacks_by 10 nomate_text refl)
front_lacks Mate front is = subst (Lacks 10) (sym is.3) (lacks_both 10 (codes "checkmate") (flat_map spaced_move is.0) (lacks_by 10 (codes "checkmate") refl) (moves_lack is.0))

-- ---- lines with a number

pub number_lacks : (words : List ℕ) (rank : Rank) → Lacks 10 words → Lacks 10 (words ++ decimal rank.number)
number_lacks words rank lack = lacks_both 10 words (decimal rank.number) lack (decimal_lacks 10 rank.number (omega arith) (rank_small rank))

pub one_number : (words : List ℕ) (a b : Rank) (s r : List ℕ) → Lacks 10 words → numbered_line words a ++ s ≡ numbered_line words b ++ r → (a ≡ b) × (s ≡ r)
one_number words a b s r lack e =
    let parts = line_cut (words ++ decimal a.number) (words ++ decimal b.number) s r (number_lacks words a lack) (number_lacks words b lack) e in
    (rank_apart a b (append_cancel_left words (decimal a.number) (decimal b.number) parts.0), parts.1)

pub shortest_lacks : Lacks 10 (codes "shortest ")
shortest_lacks = lacks_by 10 (codes "shortest ") refl

pub none_lacks : Lacks 10 (codes "none within ")
none_lacks = lacks_by 10 (codes "none within ") refl

-- ---- problems' lines

pub problem_lacks : TextsAreLines → (p : Board) → IsKept p → Lacks 10 (codes "problem " ++ sfen_of p)
problem_lacks lines p kept = lacks_both 10 (codes "problem ") (sfen_of p) (lacks_by 10 (codes "problem ") refl) (sfen_lacks lines p kept)

pub one_problem : PositionTextsApart → TextsAreLines → (p q : Board) (s r : List ℕ) → IsKept p → IsKept q → problem_line p ++ s ≡ problem_line q ++ r → (p ≡ q) × (s ≡ r)
one_problem apart lines p q s r kept also e =
    let parts = line_cut (codes "problem " ++ sfen_of p) (codes "problem " ++ sfen_of q) s r (problem_lacks lines p kept) (problem_lacks lines q also) e in
    (apart p q kept also (append_cancel_left (codes "problem ") (sfen_of p) (sfen_of q) parts.0), parts.1)
