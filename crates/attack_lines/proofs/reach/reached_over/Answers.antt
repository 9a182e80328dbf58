use Rattle.attack_lines.proofs.Sights.{reaching}
use Rattle.attack_lines.proofs.reach.reached_over.Goals as goal

pub returns : goal.returns
returns c cells are to = reaching c.mask_laws.ensures.steps cells c.args.piece c.args.from.number to to _ _ _ (λ low. (c.args.from.on_board, low))
    (c.or.ensures to) (c.steps.ensures to) (c.slides.ensures cells are to)
