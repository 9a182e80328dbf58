use Rattle.board_core.proofs.KeyChanges.{key_of-less}
use Rattle.board_core.proofs.keys.Key.spend.Goals as goal

pub returns : goal.returns
returns c = λ b kept e some. rw c.one_in_hand.ensures (key_of-less b c.args.side c.args.kind c.args.self.now.0 kept e some)
