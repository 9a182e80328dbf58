use Rattle.std.proofs.Common.{sym}
use Rattle.cmd_bound.proofs.judging.answer.Goals as goal

pub returns-in-Ok-judgement_of : goal.returns-in-Ok-judgement_of
returns-in-Ok-judgement_of g c = λ text stops posed unused. (
  record {
    text = c.in-Ok.text;
    read = c.in-Ok.ensures.exact;
    only = λ t readable is. sym (c.in-Ok.ensures.again t readable is);
    judged = c.in-Ok-judgement_of.ensures text posed;
  },
  unused,
)
