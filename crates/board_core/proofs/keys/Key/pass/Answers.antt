use Rattle.std.proofs.Common.{◌∙◌}
use Rattle.board_core.proofs.KeyChanges.{key_of-white_moves, key_of-black_moves}
use Rattle.board_core.proofs.keys.Key.pass.Goals as goal

pub returns-in-Black : goal.returns-in-Black
returns-in-Black c = λ b kept e turn. key_of-white_moves b c.args.self.now.0 kept e (turn ∙ c.in-Black.is)

pub returns-in-White : goal.returns-in-White
returns-in-White c = λ b kept e turn. key_of-black_moves b c.args.self.now.0 kept e (turn ∙ c.in-White.is)
