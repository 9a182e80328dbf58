use Rattle.search_limits.proofs.Powers.{ones-power, power-ones}
use Rattle.search_limits.proofs.making.power_laws.Goals as goal

pub returns : goal.returns
returns c n = (power-ones n, ones-power n)
