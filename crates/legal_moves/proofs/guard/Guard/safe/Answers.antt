use Rattle.std.proofs.Common.{rules, arith}
use Rattle.std.proofs.lemmas.Grind.{common_steps}
use Rattle.legal_moves.proofs.Stepping.{king_safe, others_safe}
use Rattle.legal_moves.proofs.guard.Guard.safe.Goals as goal

pub returns-then-eq : goal.returns-then-eq
returns-then-eq c = λ to promote.
    king_safe c.mask_laws.ensures.on_board c.mask_laws.ensures.steps c.mask_laws.ensures.slides c.args.position.now c.args.self.now c.args.piece c.args.from c.args.wanted
    c.king_steps.result c.laws.ensures.cells c.requires.guard c.requires.leaves (search rules) c.king_steps.ensures to promote

pub returns : goal.returns
returns c = λ to promote.
    others_safe c.mask_laws.ensures.on_board c.args.position.now c.args.self.now c.args.piece c.args.from c.args.wanted
    c.keeps.result c.laws.ensures.cells c.requires.guard c.requires.leaves (λ e. grind (arith, common_steps)) c.keeps.ensures to promote
