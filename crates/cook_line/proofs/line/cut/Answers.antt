use Rattle.std.proofs.Common.{◌∙◌, sym}
use Rattle.cook_line.proofs.Cuts.{cut_some, cut_none}
use Rattle.cook_line.proofs.line.cut.Goals as goal

pub returns-in-Some-clause-parts : goal.returns-in-Some-clause-parts
returns-in-Some-clause-parts c = cut_some c.args.text.now c.in-Some.at (sym c.first_space.ensures ∙ c.in-Some.is)

pub returns-in-None-clause-parts : goal.returns-in-None-clause-parts
returns-in-None-clause-parts c = cut_none c.args.text.now (sym c.first_space.ensures ∙ c.in-None.is)
