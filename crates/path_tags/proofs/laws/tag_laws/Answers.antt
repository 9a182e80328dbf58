use Rattle.path_tags.proofs.Rising.{one_rising}
use Rattle.path_tags.proofs.Joining.{joined_without_rises, joined_holds}
use Rattle.path_tags.proofs.laws.tag_laws.Goals as goal

pub returns-clause-apart : goal.returns-clause-apart
returns-clause-apart c = λ a b rises rise same. one_rising a b rises rise (λ q. (same q).0) (λ q. (same q).1)

pub returns-clause-joined_rise : goal.returns-clause-joined_rise
returns-clause-joined_rise c = λ key a b rises rise. joined_without_rises key a b rises

pub returns-clause-joined_hold : goal.returns-clause-joined_hold
returns-clause-joined_hold c = joined_holds
