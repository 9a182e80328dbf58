use Rattle.attack_lines.proofs.Sights.{reaching}
use Rattle.attack_lines.proofs.sight.Sight.reached_from.Goals as goal

pub returns : goal.returns
returns c cells sight from = reaching c.mask_laws.ensures.steps cells c.args.piece from c.args.self.square.number from _ _ _ (λ low. (low, c.args.self.square.on_board))
    (c.or.ensures from) (c.steps_to.ensures from) (c.slid_from.ensures cells sight from)
