use Rattle.std.proofs.Common.{◌∙◌, sym}
use Rattle.search_limits.proofs.Powers.{ones-power, power-ones}
use Rattle.search_limits.proofs.making.is_power_of_two.Goals as goal

pub returns : goal.returns
returns c = (
  λ yes. power-ones c.args.number (sym c.is_power_of_two.ensures ∙ yes),
  λ power. c.is_power_of_two.ensures ∙ ones-power c.args.number power,
)
