use Rattle.std.proofs.Common.{◌≡◌, ◌<◌, ◌&&◌, ◌==◌, ◌∙◌, ℕ, Some, Bool, not, length, sym, ap, subst, rules}
use Rattle.board_core.specs.Board.{piece_at}
use Rattle.attack_lines.proofs.Shielded.{lifted_from, is_lifted, lifts}
use Rattle.attack_lines.specs.Lines.{is_occupied_without}
use Rattle.bit_boards.specs.Mask.{holds}
use Rattle.attack_lines.proofs.attacking.attacked_from.Goals as goal

pub returns-in-Some : goal.returns-in-Some
returns-in-Some c to =
    let cells = c.args.position.now.cells in
    let lifted = c.args.lifted.number in
    let low : lifted < length cells = subst (λ (n : ℕ). lifted < n) (sym c.laws.ensures.cells) c.args.lifted.on_board in
    let same : (m : ℕ) → holds c.without.result m ≡ is_occupied_without cells lifted m = λ m.
    c.without.ensures m ∙ ap (λ (is : Bool). is && not (m == lifted)) (c.all_occupied.ensures m) in
    let there : piece_at cells c.args.from.number ≡ Some c.in-Some.piece = search rules in
    let own : c.in-Some.piece.side ≡ c.args.by = search rules in
    lifts cells c.args.by c.in-Some.piece lifted c.args.from.number to c.without.result _ low same there own
    (c.reached_over.ensures (lifted_from cells lifted) (is_lifted cells lifted low c.without.result same) to)
