use Rattle.path_tags.proofs.Joining.{within_more, within_joined, joined_within}
use Rattle.path_tags.proofs.laws.path_laws.Goals as goal

pub returns-clause-more : goal.returns-clause-more
returns-clause-more c = within_more

pub returns-clause-joined : goal.returns-clause-joined
returns-clause-joined c = λ key a b path. (λ both. within_joined key a b path both.0 both.1, joined_within key a b path)
