use Rattle.board_core.proofs.KeyChanges.{key_of-with_cell}
use Rattle.board_core.proofs.keys.Key.replace.Goals as goal

pub returns : goal.returns
returns c = λ b long e held.
    key_of-with_cell b c.args.square.number c.changed_word.result c.args.taken c.args.put c.args.self.now.0 long c.args.square.on_board e held c.changed_word.ensures
