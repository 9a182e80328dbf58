use Rattle.kif_text.proofs.Texts.{prefix_behind}
use Rattle.kif_text.proofs.lines.behind.Goals as goal

pub returns : goal.returns
returns c = prefix_behind c.args.word.now c.args.line.now _ c.strip_prefix.ensures.cases
