use Rattle.std.proofs.Common.{rules}
use Rattle.board_core.specs.Key.{hand_code}
use Rattle.board_core.proofs.pack.hand_bits.Goals as goal

pub returns-clause-code : goal.returns-clause-code
unfolding hand_code
returns-clause-code c = search rules
