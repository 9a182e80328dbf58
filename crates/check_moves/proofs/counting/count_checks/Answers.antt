use Rattle.std.proofs.Common.{◌≡◌, ◌∙◌, ◌+◌, true, ℕ, ap, sym, subst, rules}
use Rattle.bit_boards.specs.declared.piece.Side.{Side}
use Rattle.bit_boards.specs.Kind.{other}
use Rattle.board_core.specs.Board.{piece_at, is_king_of}
use Rattle.board_core.specs.Order.{Lists}
use Rattle.shogi_rules.specs.Tsume.{IsCheck}
use Rattle.check_moves.proofs.Meaning.{kingless, not_none}
use Rattle.list_laws.proofs.Totals.{as_many, has_none}
use Rattle.check_moves.proofs.Moved.{no_king_dropped}
use Rattle.check_moves.proofs.counting.count_checks.Goals as goal

pub returns-then-ne-clause-count : goal.returns-then-ne-clause-count
returns-then-ne-clause-count c =
    let none : c.args.position.now.side ≡ c.args.problem.now.position.side → ⊥ = λ same. search rules in
    λ xs l. has_none c.order_laws.ensures.apart (IsCheck c.args.problem.now.position.side c.args.position.now) (λ m check. none check.mover) xs l

pub returns-in-None-clause-count : goal.returns-in-None-clause-count
returns-in-None-clause-count c =
    let b = c.args.position.now in
    let turn : b.side ≡ c.args.problem.now.position.side = search rules in
    let foe : c.other.result ≡ other b.side = c.other.ensures ∙ ap other c.side-2.ensures in
    let none = λ (s : ℕ) (is : is_king_of (other b.side) (piece_at b.cells s) ≡ true).
    not_none c.king_square.result c.in-None.is
    (c.king_square.ensures.standing s (subst (λ (x : Side). is_king_of x (piece_at b.cells s) ≡ true) (sym foe) is)) in
    λ xs l. has_none c.order_laws.ensures.apart (IsCheck b.side b) (kingless c.legal_laws.ensures.board c.legal_laws.ensures.drops b c.laws.ensures none) xs (subst (λ (s : Side). Lists (IsCheck s b) xs) (sym turn) l)

pub returns-in-Some-clause-count : goal.returns-in-Some-clause-count
returns-in-Some-clause-count c =
    let b = c.args.position.now in
    let turn : b.side ≡ c.args.problem.now.position.side = search rules in
    let are = c.count_drop_checks.ensures.are c.count_board_checks.result c.count_board_checks.ensures.are in
    λ xs l.
    as_many c.order_laws.ensures.apart c.order_laws.ensures.origins c.order_laws.ensures.within (IsCheck b.side b) (no_king_dropped b c.laws.ensures)
    (c.count_board_checks.result + c.count_drop_checks.result) (record { moves = are.moves; lists = are.lists; long = are.long })
    xs (subst (λ (s : Side). Lists (IsCheck s b) xs) (sym turn) l)

pub of-aim-requires-clause-king : goal.of-aim-requires-clause-king
of-aim-requires-clause-king c = rw (c.other.ensures, c.side-2.ensures) at c.in-Some.ensures.found

pub of-aim-requires-clause-only : goal.of-aim-requires-clause-only
of-aim-requires-clause-only c = rw (c.other.ensures, c.side-2.ensures) at c.in-Some.ensures.only
