use Rattle.usi_text.proofs.Texts.{is_again}
use Rattle.usi_text.proofs.read.read_move.Goals as goal

pub returns-clause-again : goal.returns-clause-again
returns-clause-again c = is_again c.value_laws.ensures.squares c.value_laws.ensures.letters _ _ c.move_of.ensures
