use Rattle.std.proofs.Common.{rules}
use Rattle.program_words.specs.Line.{tsume_line}
use Rattle.program_words.proofs.commands.command_line.Goals as goal

pub returns : goal.returns
unfolding tsume_line
returns c = search rules
