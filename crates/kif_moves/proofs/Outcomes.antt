-- What an input stands for is one problem with one list of moves, or it has one first fault.
use Rattle.std.proofs.Common.{◌≡◌, ◌+◌, ◌∷◌, [], ℕ, List, Option, Some, None, Ok, Err, Result, inl, inr, length, drop, arith, refl, ap, ◌∙◌, subst}
use Rattle.board_core.specs.declared.moves.Move.{Move}
use Rattle.board_core.specs.Board.{Board}
use Rattle.board_core.specs.Laws.{SquaresApart}
use Rattle.bit_boards.specs.Kind.{other}
use Rattle.shogi_rules.specs.Rules.{IsInCheck}
use Rattle.kif_text.specs.declared.fault.KifFault.{KifFault}
use Rattle.std.specs.Str.Lines.{lines}
use Rattle.bit_boards.specs.declared.piece.Side.{Side}
use Rattle.board_core.specs.Kept.{IsKept}
use Rattle.shogi_rules.specs.Rules.{after}
use Rattle.shogi_rules.specs.Tsume.{IsProblem}
use Rattle.kif_text.specs.Lines.{without_mark, header_lines}
use Rattle.kif_text.specs.Reading.{OneReadingOutcome, IsReadingOutcome, Spells, header_of}
use Rattle.kif_text.proofs.Offered.{spelled_outcome}
use Rattle.kif_moves.specs.declared.fault.KifMovesFault.{KifMovesFault}
use Rattle.kif_moves.specs.declared.fault.KifMovesFault.TheVariants as faults
use Rattle.kif_moves.specs.declared.fault.KifMovesEnd.{KifMovesEnd}
use Rattle.kif_moves.specs.declared.fault.KifMovesEnd.TheVariants as ends
use Rattle.kif_moves.specs.declared.read.KifSolution.{KifSolution}
use Rattle.kif_moves.specs.Lines.{Line, numbered, counted, move_lines}
use Rattle.kif_moves.specs.Steps.{IsPlayEnd}
use Rattle.kif_moves.specs.Playing.{goal, HasLineFault, AreInTurn, SayAll, HasFirstLineFault}
use Rattle.kif_moves.specs.Reading.{StandsFor, HasCheckedDefender, HasMoveFault, HasFirstFault, IsMovesOutcome, IsReadAs, IsFaultAs, KifMovesApart, OneKifMovesFault, KifMovesAreFaultless}
use Rattle.kif_moves.proofs.Apart.{one_list, no_fault, one_fault}

abbrev of_ok : Board → Result Board KifFault → Board
of_ok p (Ok q) = q
of_ok p (Err f) = p

abbrev of_err : KifFault → Result Board KifFault → KifFault
of_err f (Ok q) = f
of_err f (Err g) = g

ok_err : (p : Board) (f : KifFault) → Ok p ≡ Err f → ⊥
ok_err p f e = cc

solution_header : (input : List ℕ) (p : Board) (ms : List Move) → StandsFor input p ms → IsReadingOutcome input (Ok p)
solution_header input p ms h = spelled_outcome input p h.spells h.kept (let problem = h.is_problem in problem.has_king)

checked_header : (input : List ℕ) (h : HasCheckedDefender input) → IsReadingOutcome input (Ok h.position)
checked_header input h = spelled_outcome input h.position h.spells h.kept h.has_king

fault_header : (input : List ℕ) (fault : KifMovesFault) (h : HasMoveFault input fault) → IsReadingOutcome input (Ok h.problem)
fault_header input fault h = spelled_outcome input h.problem h.spells h.kept (let problem = h.is_problem in problem.has_king)

module _ (once : OneReadingOutcome) (squares : SquaresApart) where
  one_board : (input : List ℕ) (p q : Board) → IsReadingOutcome input (Ok p) → IsReadingOutcome input (Ok q) → p ≡ q
  one_board input p q h k = ap (of_ok p) (once input (Ok p) (Ok q) h k)

  no_board : (input : List ℕ) (p : Board) (f : KifFault) → IsReadingOutcome input (Ok p) → IsReadingOutcome input (Err f) → ⊥
  no_board input p f h k = ok_err p f (once input (Ok p) (Err f) h k)

  pub apart : KifMovesApart
  apart input p q ms ns h k =
      let same : p ≡ q = one_board input p q (solution_header input p ms h) (solution_header input q ns k) in
      (same, one_list squares q None (move_lines input) ms ns (subst (λ (b : Board). SayAll b None (move_lines input) ms) same h.said) k.said)

  checked_not_problem : (input : List ℕ) (h : HasCheckedDefender input) (p : Board) → IsReadingOutcome input (Ok p) → (IsInCheck p.cells (other p.side) → ⊥) → ⊥
  checked_not_problem input h p out quiet = quiet (subst (λ (b : Board). IsInCheck b.cells (other b.side)) (one_board input h.position p (checked_header input h) out) h.check)

  faultless_at_move : (input : List ℕ) (p : Board) (ms : List Move) (fault : KifMovesFault) → StandsFor input p ms → HasMoveFault input fault → ⊥
  faultless_at_move input p ms fault h k =
      let same : p ≡ k.problem = one_board input p k.problem (solution_header input p ms h) (fault_header input fault k) in
      no_fault squares k.problem.side k.problem None (move_lines input) ms fault
      (subst (λ (b : Board). SayAll b None (move_lines input) ms) same h.said)
      (subst (λ (b : Board). AreInTurn b.side b ms) same h.in_turn)
      k.first

  pub faultless : KifMovesAreFaultless
  faultless input p ms (faults.Diagram f) h k = no_board input p f (solution_header input p ms h) k
  faultless input p ms faults.DefenderInCheck h k = checked_not_problem input k p (solution_header input p ms h) (let problem = h.is_problem in problem.quiet)
  faultless input p ms (faults.BadMove n) h k = faultless_at_move input p ms (faults.BadMove n) h k
  faultless input p ms (faults.IllegalMove n) h k = faultless_at_move input p ms (faults.IllegalMove n) h k
  faultless input p ms (faults.WrongPiece n) h k = faultless_at_move input p ms (faults.WrongPiece n) h k
  faultless input p ms (faults.NoCheck n) h k = faultless_at_move input p ms (faults.NoCheck n) h k

  both_moves : (input : List ℕ) (f g : KifMovesFault) → HasMoveFault input f → HasMoveFault input g → f ≡ g
  both_moves input f g h k =
      let same : h.problem ≡ k.problem = one_board input h.problem k.problem (fault_header input f h) (fault_header input g k) in
      one_fault squares k.problem.side k.problem None (move_lines input) f g
      (subst (λ (b : Board). HasFirstLineFault b.side b None (move_lines input) f) same h.first) k.first

  checked_or_move : (input : List ℕ) (f : KifMovesFault) → HasCheckedDefender input → HasMoveFault input f → ⊥
  checked_or_move input f h k = checked_not_problem input h k.problem (fault_header input f k) (let problem = k.is_problem in problem.quiet)

  diagram_or_move : (input : List ℕ) (d : KifFault) (f : KifMovesFault) → IsReadingOutcome input (Err d) → HasMoveFault input f → ⊥
  diagram_or_move input d f h k = no_board input k.problem d (fault_header input f k) h

  with_move : (input : List ℕ) (f g : KifMovesFault) → HasMoveFault input f → HasFirstFault input g → f ≡ g
  with_move input f (faults.Diagram d) h k = absurd (diagram_or_move input d f k h)
  with_move input f faults.DefenderInCheck h k = absurd (checked_or_move input f k h)
  with_move input f (faults.BadMove n) h k = both_moves input f (faults.BadMove n) h k
  with_move input f (faults.IllegalMove n) h k = both_moves input f (faults.IllegalMove n) h k
  with_move input f (faults.WrongPiece n) h k = both_moves input f (faults.WrongPiece n) h k
  with_move input f (faults.NoCheck n) h k = both_moves input f (faults.NoCheck n) h k

  with_diagram : (input : List ℕ) (d : KifFault) (g : KifMovesFault) → HasFirstFault input (faults.Diagram d) → HasFirstFault input g → faults.Diagram d ≡ g
  with_diagram input d (faults.Diagram e) h k = ap (λ (r : Result Board KifFault). faults.Diagram (of_err d r)) (once input (Err d) (Err e) h k)
  with_diagram input d faults.DefenderInCheck h k = absurd (no_board input k.position d (checked_header input k) h)
  with_diagram input d (faults.BadMove n) h k = absurd (diagram_or_move input d (faults.BadMove n) h k)
  with_diagram input d (faults.IllegalMove n) h k = absurd (diagram_or_move input d (faults.IllegalMove n) h k)
  with_diagram input d (faults.WrongPiece n) h k = absurd (diagram_or_move input d (faults.WrongPiece n) h k)
  with_diagram input d (faults.NoCheck n) h k = absurd (diagram_or_move input d (faults.NoCheck n) h k)

  with_checked : (input : List ℕ) (g : KifMovesFault) → HasCheckedDefender input → HasFirstFault input g → faults.DefenderInCheck ≡ g
  with_checked input (faults.Diagram e) h k = absurd (no_board input h.position e (checked_header input h) k)
  with_checked input faults.DefenderInCheck h k = refl
  with_checked input (faults.BadMove n) h k = absurd (checked_or_move input (faults.BadMove n) h k)
  with_checked input (faults.IllegalMove n) h k = absurd (checked_or_move input (faults.IllegalMove n) h k)
  with_checked input (faults.WrongPiece n) h k = absurd (checked_or_move input (faults.WrongPiece n) h k)
  with_checked input (faults.NoCheck n) h k = absurd (checked_or_move input (faults.NoCheck n) h k)

  pub one : OneKifMovesFault
  one input (faults.Diagram d) g h k = with_diagram input d g h k
  one input faults.DefenderInCheck g h k = with_checked input g h k
  one input (faults.BadMove n) g h k = with_move input (faults.BadMove n) g h k
  one input (faults.IllegalMove n) g h k = with_move input (faults.IllegalMove n) g h k
  one input (faults.WrongPiece n) g h k = with_move input (faults.WrongPiece n) g h k
  one input (faults.NoCheck n) g h k = with_move input (faults.NoCheck n) g h k

-- what is read of a text that stands for something
pub read_as : KifMovesApart → KifMovesAreFaultless → (input : List ℕ) (p : Board) (ms : List Move) (r : Result KifSolution KifMovesEnd)
    → IsMovesOutcome input r → StandsFor input p ms → IsReadAs p ms r
read_as ones none input p ms (Ok s) out h =
    let same = ones input s.problem.position p s.moves.items ms out h in
    (same.0, same.1)
read_as ones none input p ms (Err (ends.Fault fault)) out h = none input p ms fault h out
read_as ones none input p ms (Err ends.NoMemory) out h = tt

-- what is told of a text with a fault
pub fault_as : OneKifMovesFault → KifMovesAreFaultless → (input : List ℕ) (fault : KifMovesFault) (r : Result KifSolution KifMovesEnd)
    → IsMovesOutcome input r → HasFirstFault input fault → IsFaultAs fault r
fault_as ones none input fault (Ok s) out h = none input s.problem.position s.moves.items fault out h
fault_as ones none input fault (Err (ends.Fault found)) out h = ones input found fault out h
fault_as ones none input fault (Err ends.NoMemory) out h = tt

-- the lines of the moves are those behind the header's, of the text without its mark
pub lines_same : (input text : List ℕ) (head : ℕ) → text ≡ without_mark input → head ≡ length (header_lines text)
    → counted (numbered (head + 1 + 1) (drop (head + 1) (lines text))) ≡ move_lines input
lines_same input text head same long =
    let there : head ≡ length (header_of input) = long ∙ ap (λ (t : List ℕ). length (header_lines t)) same in
    let two : head + 1 + 1 ≡ length (header_of input) + 2 = omega arith in
    let one : head + 1 ≡ length (header_of input) + 1 = omega arith in
    λ i. counted (numbered (two i) (drop (one i) (lines (same i))))

-- no line has a fault of the header
header_faultless : (attacker : Side) (b : Board) (last : Option ℕ) (list : List Line) (f : KifMovesFault)
    → ((b : Board) (last : Option ℕ) (line : Line) → HasLineFault attacker b last line f → ⊥) → HasFirstLineFault attacker b last list f → ⊥
header_faultless attacker b last [] f none h = h
header_faultless attacker b last (line ∷ list) f none (inl h) = none b last line h
header_faultless attacker b last (line ∷ list) f none (inr h) = header_faultless attacker (after b h.0) (Some (goal h.0)) list f none h.3

-- the first fault of a line is that of the input
first_fault : (input : List ℕ) (f : KifMovesFault) → HasMoveFault input f → HasFirstFault input f
first_fault input (faults.Diagram d) h =
    absurd (header_faultless _ h.problem None (move_lines input) (faults.Diagram d) (λ b last line k. k) h.first)
first_fault input faults.DefenderInCheck h =
    absurd (header_faultless _ h.problem None (move_lines input) faults.DefenderInCheck (λ b last line k. k) h.first)
first_fault input (faults.BadMove n) h = h
first_fault input (faults.IllegalMove n) h = h
first_fault input (faults.WrongPiece n) h = h
first_fault input (faults.NoCheck n) h = h

-- what ends the play ends the reading
pub end_there : (input text : List ℕ) (head : ℕ) (p : Board) (end : KifMovesEnd) → text ≡ without_mark input → head ≡ length (header_lines text)
    → Spells input p → IsKept p → IsProblem p → IsPlayEnd p (counted (numbered (head + 1 + 1) (drop (head + 1) (lines text)))) end
    → IsMovesOutcome input (Err end)
end_there input text head p (ends.Fault f) same long spells kept problem h =
    first_fault input f (record {
      problem = p;
      spells = spells;
      kept = kept;
      is_problem = problem;
      first = subst (λ (l : List Line). HasFirstLineFault p.side p None l f) (lines_same input text head same long) h;
    })
end_there input text head p ends.NoMemory same long spells kept problem h = tt
