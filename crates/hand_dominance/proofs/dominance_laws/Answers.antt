use Rattle.mate_def.specs.Mate.{RankAtMost, IsMatedWithin, Escapes, CanEvadeTo}
use Rattle.hand_dominance.proofs.Carried.{rank_up, mated_up, escape_down, evade_down, carries_up, carries_down}
use Rattle.hand_dominance.proofs.Listed.{itself, above_too}
use Rattle.hand_dominance.proofs.Above.{serves_below}
use Rattle.hand_dominance.proofs.dominance_laws.Goals as goal

pub returns-clause-mates : goal.returns-clause-mates
returns-clause-mates c = λ n. carries_up (λ attacker b. RankAtMost attacker n b) (λ attacker less more b black white s h. rank_up attacker less more n b black white s h)

pub returns-clause-mated : goal.returns-clause-mated
returns-clause-mated c = λ n. carries_up (λ attacker b. IsMatedWithin attacker n b) (λ attacker less more b black white s h. mated_up attacker less more n b black white s h)

pub returns-clause-escapes : goal.returns-clause-escapes
returns-clause-escapes c = carries_down (λ attacker b. Escapes attacker b) (λ attacker less more b black white s h. escape_down attacker less more b black white s h)

pub returns-clause-evasions : goal.returns-clause-evasions
returns-clause-evasions c = carries_down (λ attacker b. CanEvadeTo attacker (Escapes attacker) b) (λ attacker less more b black white s h. evade_down attacker less more b black white s h)

pub returns-clause-itself : goal.returns-clause-itself
returns-clause-itself c = itself

pub returns-clause-goes_on : goal.returns-clause-goes_on
returns-clause-goes_on c = above_too

pub returns-clause-evades : goal.returns-clause-evades
returns-clause-evades c = serves_below
