use Rattle.sfen_text.proofs.FirstFault.{one_outcome, one_spelled}
use Rattle.sfen_text.proofs.TextAgain.{texts_apart}
use Rattle.sfen_text.proofs.TextLaws.{text_long, text_on_line}
use Rattle.sfen_text.proofs.laws.sfen_laws.Goals as goal

pub returns-clause-apart : goal.returns-clause-apart
returns-clause-apart c = texts_apart

pub returns-clause-bytes : goal.returns-clause-bytes
returns-clause-bytes c = text_long

pub returns-clause-lines : goal.returns-clause-lines
returns-clause-lines c = text_on_line

pub returns-clause-spelled : goal.returns-clause-spelled
returns-clause-spelled c = (one_spelled c.value_laws.ensures.in_hand)

pub returns-clause-outcomes : goal.returns-clause-outcomes
returns-clause-outcomes c = one_outcome c.value_laws.ensures.in_hand c.build_laws.ensures.once
