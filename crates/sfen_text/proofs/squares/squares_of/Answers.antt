use Rattle.std.proofs.Common.{◌+◌, ◌∙◌, arith, rules, length, sym}
use Rattle.sfen_text.proofs.Filling.{all_read}
use Rattle.sfen_text.proofs.squares.squares_of.Goals as goal

pub returns-clause-read : goal.returns-clause-read
returns-clause-read c = sym c.loop-rest.invariant.same ∙ all_read c.loop-rest.filling (c.args.at + length c.args.text.now) c.loop-rest.here c.loop-rest.rest.now (search rules) (search rules) (search rules)
