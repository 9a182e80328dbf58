use Rattle.std.proofs.Common.{◌↔◌, ℕ, subst, rules}
use Rattle.bit_boards.specs.declared.piece.Side.{Side}
use Rattle.bit_boards.specs.Mask.{Holds}
use Rattle.attack_lines.specs.Lines.{IsAttackedWithout}
use Rattle.legal_moves.proofs.Stepping.{open_steps}
use Rattle.legal_moves.proofs.board_moves.king_steps.Goals as goal

pub returns : goal.returns
returns c =
    let b = c.args.position.now in
    let king = c.args.king.number in
    let P : Side → Type 0 = λ s. (to : ℕ) → Holds c.attacked_without.result to ↔ (Holds c.args.wanted to × IsAttackedWithout b.cells s king to) in
    open_steps b king c.args.wanted c.attacked_without.result c.minus.result c.minus.ensures (subst P (search rules) c.attacked_without.ensures)
