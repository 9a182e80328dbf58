-- Lines say one list of moves, or have one first fault.
use Rattle.std.proofs.Common.{◌≡◌, ◌∷◌, [], ℕ, List, Option, Some, inl, inr, refl, subst}
use Rattle.bit_boards.specs.declared.piece.Side.{Side}
use Rattle.board_core.specs.declared.moves.Move.{Move}
use Rattle.board_core.specs.Board.{Board}
use Rattle.board_core.specs.Laws.{SquaresApart}
use Rattle.shogi_rules.specs.Rules.{after}
use Rattle.kif_moves.specs.declared.fault.KifMovesFault.{KifMovesFault}
use Rattle.kif_moves.specs.Lines.{Line}
use Rattle.kif_moves.specs.Playing.{goal, AreInTurn, SayAll, HasFirstLineFault}
use Rattle.kif_moves.proofs.Naming.{one_said, no_line_fault, one_line_fault}

pub one_list : SquaresApart → (b : Board) (last : Option ℕ) (lines : List Line) (ms ns : List Move) → SayAll b last lines ms → SayAll b last lines ns → ms ≡ ns
one_list squares b last [] [] [] h k = refl
one_list squares b last [] (m ∷ ms) ns h k = absurd h
one_list squares b last [] [] (n ∷ ns) h k = absurd k
one_list squares b last (line ∷ lines) [] ns h k = absurd h
one_list squares b last (line ∷ lines) (m ∷ ms) [] h k = absurd k
one_list squares b last (line ∷ lines) (m ∷ ms) (n ∷ ns) h k =
    let first : m ≡ n = one_said squares b last line.text m n h.0 k.0 in
    let rest : ms ≡ ns = one_list squares (after b n) (Some (goal n)) lines ms ns (subst (λ (x : Move). SayAll (after b x) (Some (goal x)) lines ms) first h.1) k.1 in
    λ i. first i ∷ rest i

pub no_fault : SquaresApart → (attacker : Side) (b : Board) (last : Option ℕ) (lines : List Line) (ms : List Move) (fault : KifMovesFault)
    → SayAll b last lines ms → AreInTurn attacker b ms → HasFirstLineFault attacker b last lines fault → ⊥
no_fault squares attacker b last [] ms fault says turn there = there
no_fault squares attacker b last (line ∷ lines) [] fault says turn there = says
no_fault squares attacker b last (line ∷ lines) (m ∷ ms) fault says turn (inl there) = no_line_fault squares attacker b last line m fault says.0 turn.0 there
no_fault squares attacker b last (line ∷ lines) (m ∷ ms) fault says turn (inr there) =
    let first : m ≡ there.0 = one_said squares b last line.text m there.0 says.0 there.1 in
    no_fault squares attacker (after b there.0) (Some (goal there.0)) lines ms fault
    (subst (λ (x : Move). SayAll (after b x) (Some (goal x)) lines ms) first says.1)
    (subst (λ (x : Move). AreInTurn attacker (after b x) ms) first turn.1)
    there.3

pub one_fault : SquaresApart → (attacker : Side) (b : Board) (last : Option ℕ) (lines : List Line) (f g : KifMovesFault)
    → HasFirstLineFault attacker b last lines f → HasFirstLineFault attacker b last lines g → f ≡ g
one_fault squares attacker b last [] f g h k = absurd h
one_fault squares attacker b last (line ∷ lines) f g (inl h) (inl k) = one_line_fault squares attacker b last line f g h k
one_fault squares attacker b last (line ∷ lines) f g (inl h) (inr k) = absurd (no_line_fault squares attacker b last line k.0 f k.1 k.2 h)
one_fault squares attacker b last (line ∷ lines) f g (inr h) (inl k) = absurd (no_line_fault squares attacker b last line h.0 g h.1 h.2 k)
one_fault squares attacker b last (line ∷ lines) f g (inr h) (inr k) =
    let first : h.0 ≡ k.0 = one_said squares b last line.text h.0 k.0 h.1 k.1 in
    one_fault squares attacker (after b k.0) (Some (goal k.0)) lines f g
    (subst (λ (x : Move). HasFirstLineFault attacker (after b x) (Some (goal x)) lines f) first h.3) k.3
