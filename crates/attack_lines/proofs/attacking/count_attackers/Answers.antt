use Rattle.std.proofs.Common.{◌∙◌, ap}
use Rattle.board_laws.proofs.Truth.{same_truth}
use Rattle.bit_boards.specs.Mask.{count}
use Rattle.attack_lines.proofs.attacking.count_attackers.Goals as goal

pub returns-clause-count : goal.returns-clause-count
returns-clause-count c = λ squares exact.
    c.len.ensures.count
    ∙ ap count (c.mask_laws.ensures.apart c.attackers.result squares
    (λ s low. same_truth _ _ (λ h. (exact s).1 ((c.attackers.ensures s).0 h)) (λ h. (c.attackers.ensures s).1 ((exact s).0 h))))
