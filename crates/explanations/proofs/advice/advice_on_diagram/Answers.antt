-- What is said of diagrams is readable: its characters are computed.
use Rattle.std.proofs.Common.{refl}
use Rattle.std.specs.Char.{encode_utf8}
use Rattle.explanations.proofs.Readable.{readable_literal}
use Rattle.explanations.proofs.advice.advice_on_diagram.Goals as goal

pub returns-in-HandicapName : goal.returns-in-HandicapName
unfolding encode_utf8
returns-in-HandicapName c = readable_literal _ refl refl

pub returns-in-BadCell : goal.returns-in-BadCell
unfolding encode_utf8
returns-in-BadCell c = readable_literal _ refl refl

pub returns-in-BadHand : goal.returns-in-BadHand
unfolding encode_utf8
returns-in-BadHand c = readable_literal _ refl refl

pub returns-in-BadCount : goal.returns-in-BadCount
unfolding encode_utf8
returns-in-BadCount c = readable_literal _ refl refl

pub returns-in-HandTwice : goal.returns-in-HandTwice
unfolding encode_utf8
returns-in-HandTwice c = readable_literal _ refl refl

pub returns-in-BadPosition-NoDefenderKing : goal.returns-in-BadPosition-NoDefenderKing
unfolding encode_utf8
returns-in-BadPosition-NoDefenderKing c = readable_literal _ refl refl
