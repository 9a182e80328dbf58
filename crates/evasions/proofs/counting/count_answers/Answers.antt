use Rattle.std.proofs.Common.{◌≡◌, ◌+◌, ℕ, ◌∙◌, ap, subst, rules}
use Rattle.bit_boards.specs.declared.piece.Side.{Side}
use Rattle.bit_boards.specs.Mask.{count}
use Rattle.bit_boards.specs.Kind.{other}
use Rattle.board_core.specs.Order.{Lists}
use Rattle.shogi_rules.specs.Tsume.{IsEvasion}
use Rattle.evasions.proofs.Evading.{none_for, other_turn}
use Rattle.evasions.proofs.Counts.{answers_counted, no_answers}
use Rattle.evasions.proofs.counting.count_answers.Goals as goal

pub returns-then-eq-clause-count : goal.returns-then-eq-clause-count
returns-then-eq-clause-count c =
    let b = c.args.position.now in
    let attacker = c.args.problem.now.position.side in
    let turn : b.side ≡ attacker = search rules in
    λ xs l. no_answers c.order_laws.ensures.apart (IsEvasion attacker b) (none_for b attacker turn) xs l

pub returns-clause-count : goal.returns-clause-count
returns-clause-count c =
    let b = c.args.position.now in
    let attacker = c.args.problem.now.position.side in
    let apart : b.side ≡ attacker → ⊥ = λ same. search rules in
    let turn : attacker ≡ other b.side = other_turn b.side attacker apart in
    let are = c.count_board_moves.ensures.are in
    let many : c.from.result ≡ count c.drop_squares.result = c.from.ensures ∙ c.len.ensures.count in
    λ xs l.
    ap (λ (n : ℕ). c.count_board_moves.result + n) many
    ∙ answers_counted c.order_laws.ensures.apart c.order_laws.ensures.origins b c.laws.ensures c.count_board_moves.result
    (record { moves = are.moves; lists = are.lists; long = are.long }) c.drop_squares.result c.drop_squares.ensures xs
    (subst (λ (s : Side). Lists (IsEvasion s b) xs) turn l)
