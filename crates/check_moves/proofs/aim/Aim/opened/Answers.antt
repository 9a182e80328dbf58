use Rattle.std.proofs.Common.{sym, ◌∙◌}
use Rattle.std.proofs.lemmas.Bool.{true≢false}
use Rattle.bit_boards.specs.Mask.{Holds}
use Rattle.attack_lines.specs.Lines.{IsShield}
use Rattle.attack_laws.proofs.Arrived.{veils_nothing}
use Rattle.check_moves.proofs.Meaning.{stands_quiet}
use Rattle.check_moves.proofs.Unstopped.{unveils_are}
use Rattle.check_moves.proofs.aim.Aim.opened.Goals as goal

pub returns-then-not-contains : goal.returns-then-not-contains
returns-then-not-contains c = λ to low free.
    let b = c.args.position.now in
    let end = c.args.self.now.sight.square in
    let q = stands_quiet b end.number c.laws.ensures c.requires.quiet end.on_board c.requires.aim.king c.requires.aim.only in
    let none : ¬ IsShield b.cells b.side c.args.from.number end.number =
    λ shield. let has : Holds c.args.self.now.unveilers c.args.from.number = (c.requires.aim.unveilers c.args.from.number).1 shield in
    absurd (true≢false (sym has ∙ (sym c.contains.ensures ∙ c.if-not-contains.true))) in
    (λ has. absurd (true≢false (sym has ∙ c.empty.ensures to)), λ u. absurd (veils_nothing b.cells b.side c.args.from.number to end.number q.unattacked none u))

pub returns : goal.returns
returns c = λ to low free.
    let b = c.args.position.now in
    let king = c.args.self.now.sight.square in
    unveils_are c.mask_laws.ensures.on_board b c.attackers_without-behind.result c.blocks-2.result c.full.result c.minus.result c.args.from.number to king.number low free
    (rw (c.square-king.ensures, c.side.ensures) at c.attackers_without-behind.ensures)
    (rw c.square-king.ensures at (c.blocks-2.ensures to))
    (c.full.ensures to) (c.minus.ensures to)
