use Rattle.board_core.proofs.KeyChanges.{key_of-more}
use Rattle.board_core.proofs.keys.Key.gain.Goals as goal

pub returns : goal.returns
returns c = λ b kept e. rw c.one_in_hand.ensures (key_of-more b c.args.side c.args.kind c.args.self.now.0 kept e)
