use Rattle.std.proofs.Common.{◌∙◌}
use Rattle.pn_numbers.proofs.selecting.extended.Goals as goal

pub returns : goal.returns
returns c = λ numbers so_far at. c.joined.ensures numbers (rw c.in-Some-lead.is at so_far) (at ∙ c.in-Some.is)
