use Rattle.wide_read.proofs.Lists.{front_lines}
use Rattle.wide_read.proofs.cutting.first_lines.Goals as goal

pub returns-clause-lines : goal.returns-clause-lines
returns-clause-lines c =
    front_lines c.args.text.now c.in_ok-more.field-0-0.now c.in_ok-more.more.now c.split_at.result.0.now c.args.size c.in_ok-more.ensures.parts c.split_at.ensures.front
