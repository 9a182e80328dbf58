use Rattle.usi_text.proofs.Texts.{only_text}
use Rattle.usi_text.proofs.write.write_move.Goals as goal

pub returns-clause-apart : goal.returns-clause-apart
returns-clause-apart c = λ other h. only_text c.value_laws.ensures.squares c.value_laws.ensures.letters _ other _ c.text_of.ensures h
