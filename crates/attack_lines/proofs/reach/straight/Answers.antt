use Rattle.attack_lines.proofs.Sights.{crossed}
use Rattle.attack_lines.proofs.reach.straight.Goals as goal

pub returns : goal.returns
returns c cells are to =
    crossed _ _ _ _ _ _ _ (c.or.ensures to) (c.or-upright.ensures to) (c.or-across.ensures to)
    (c.seen.ensures cells are to) (c.seen-2.ensures cells are to) (c.seen-3.ensures cells are to) (c.seen-4.ensures cells are to)
