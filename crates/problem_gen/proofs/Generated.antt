-- There is one board of a number, and it is a problem.
use Rattle.std.proofs.Common.{◌≡◌, inl, inr, ◌∙◌, ℕ, arith, sym, subst, refl}
use Rattle.bit_boards.specs.declared.piece.Side.TheVariants.{Black, White}
use Rattle.bit_boards.specs.Kind.{other}
use Rattle.board_core.specs.Board.{Board}
use Rattle.shogi_rules.specs.Rules.{Attacks}
use Rattle.shogi_rules.specs.Tsume.{IsProblem}
use Rattle.problem_gen.specs.declared.drawn.Drawn.{Drawn}
use Rattle.problem_gen.specs.Generator.{king_square, black_piece, white_piece, first_in_hand, second_in_hand, with_held, IsPut, IsGenerated, IsUnderWay}

put_once : (b c d : Board) (king : ℕ) (piece : Drawn) → IsPut b king piece c → IsPut b king piece d → c ≡ d
put_once b c d king piece (inl g) (inl h) = g.1 ∙ sym h.1
put_once b c d king piece (inl g) (inr h) = absurd (h.0 g.0)
put_once b c d king piece (inr g) (inl h) = absurd (g.0 h.0)
put_once b c d king piece (inr g) (inr h) = g.1 ∙ sym h.1

-- two boards of one number are one
pub generated_once : (number : ℕ) (a b : Board) → IsGenerated number a → IsGenerated number b → a ≡ b
generated_once number a b g h =
    let one : h.one ≡ g.one = put_once _ _ _ _ _ h.first g.first in
    let second : IsPut g.one (king_square number) (black_piece number 5) h.two =
    subst (λ (c : Board). IsPut c (king_square number) (black_piece number 5) h.two) one h.second in
    let two : h.two ≡ g.two = put_once _ _ _ _ _ second g.second in
    let last : IsPut (with_held (with_held g.two Black (first_in_hand number)) Black (second_in_hand number)) (king_square number) (white_piece number) b =
    subst (λ (c : Board). IsPut (with_held (with_held c Black (first_in_hand number)) Black (second_in_hand number)) (king_square number) (white_piece number) b) two h.last in
    put_once _ _ _ _ _ g.last last

-- what is under way is a problem
pub under_way_problem : (king : ℕ) (b : Board) → IsUnderWay king b → IsProblem b
under_way_problem king b under =
    let side : other b.side ≡ White = rw under.turn refl in
    record {
      has_king = rw (side, under.defender) (omega arith);
      quiet = rw side (λ check. under.safe (subst (λ (s : ℕ). Attacks b.cells Black s) (under.only check.0 check.2.king) check.2.attacked));
    }
