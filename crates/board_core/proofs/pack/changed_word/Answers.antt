use Rattle.board_core.proofs.KeyChanges.{word_changed}
use Rattle.board_core.proofs.pack.changed_word.Goals as goal

pub returns : goal.returns
returns c = λ cells long within is held.
    rw (c.code.ensures.code, c.code-2.ensures.code) (word_changed cells c.args.place c.args.word c.args.taken c.args.put long within is held)
