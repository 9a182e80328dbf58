use Rattle.std.proofs.Common.{arith}
use Rattle.std.proofs.lemmas.Bool.{not-true, not-false}
use Rattle.shortest_text.proofs.Fronts.{front_begins}
use Rattle.shortest_text.proofs.certificate.begins_as_mate.Goals as goal

pub returns-clause-no : goal.returns-clause-no
returns-clause-no c = λ e is. (front_begins c.args.front.now is).no_escape (c.is_nomate.ensures.0 (grind (arith, not-true, not-false, e)))
