use Rattle.std.proofs.Common.{◌≡◌, ◌∙◌, true, OnOk, ℕ, ap, sym, subst, rules}
use Rattle.bit_boards.specs.declared.piece.Side.{Side}
use Rattle.bit_boards.specs.Kind.{other}
use Rattle.board_core.specs.Board.{piece_at, is_king_of}
use Rattle.board_core.specs.Order.{Lists}
use Rattle.shogi_rules.specs.Tsume.{IsCheck}
use Rattle.check_moves.proofs.Moved.{none_listed}
use Rattle.check_moves.proofs.Meaning.{kingless, not_none}
use Rattle.check_moves.proofs.listing.checks_into.Goals as goal

pub returns-then-ne : goal.returns-then-ne
returns-then-ne c =
    let none : c.args.position.now.side ≡ c.args.problem.now.position.side → ⊥ = λ same. search rules in
    none_listed _ _ (search rules) (λ m check. none check.mover)

pub returns-in-None : goal.returns-in-None
returns-in-None c =
    let b = c.args.position.now in
    let turn : b.side ≡ c.args.problem.now.position.side = search rules in
    let foe : c.other.result ≡ other b.side = c.other.ensures ∙ ap other c.side-2.ensures in
    let none = λ (s : ℕ) (is : is_king_of (other b.side) (piece_at b.cells s) ≡ true).
    not_none c.king_square.result c.in-None.is
    (c.king_square.ensures.standing s (subst (λ (x : Side). is_king_of x (piece_at b.cells s) ≡ true) (sym foe) is)) in
    none_listed _ _ (search rules)
    (λ m check. kingless c.legal_laws.ensures.board c.legal_laws.ensures.drops b c.laws.ensures none m (subst (λ (s : Side). IsCheck s b m) (sym turn) check))

pub returns-in_ok-add_board_checks-in-Some : goal.returns-in_ok-add_board_checks-in-Some
returns-in_ok-add_board_checks-in-Some c =
    let b = c.args.position.now in
    let turn : b.side ≡ c.args.problem.now.position.side = search rules in
    subst (λ (s : Side). OnOk c.add_drop_checks.result (Lists (IsCheck s b) c.add_drop_checks.new.moves)) turn c.add_drop_checks.ensures

pub of-aim-requires-clause-king : goal.of-aim-requires-clause-king
of-aim-requires-clause-king c = rw (c.other.ensures, c.side-2.ensures) at c.in-Some.ensures.found

pub of-aim-requires-clause-only : goal.of-aim-requires-clause-only
of-aim-requires-clause-only c = rw (c.other.ensures, c.side-2.ensures) at c.in-Some.ensures.only
