use Rattle.usi_text.proofs.Texts.{move_apart}
use Rattle.usi_text.proofs.laws.move_laws.Goals as goal

pub returns : goal.returns
returns c = move_apart c.value_laws.ensures.squares c.value_laws.ensures.letters
