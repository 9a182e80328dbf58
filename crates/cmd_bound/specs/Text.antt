-- What is printed of what was found out about a bound, and the exit status.
use Rattle.std.specs.Prelude.{ℕ, List, ◌∷◌, ◌++◌, codes}
use Rattle.std.specs.Fmt.{decimal}
use Rattle.usi_text.specs.MoveText.{move_text}
use Rattle.cert_text.specs.Entries.{line}
use Rattle.app_texts.specs.Texts.{judgement_text}
use Rattle.app_texts.specs.declared.answer.Judgement.TheVariants as judgements
use Rattle.cmd_bound.specs.declared.judgement.BoundJudgement.{BoundJudgement}
use Rattle.cmd_bound.specs.declared.judgement.BoundJudgement.TheVariants.{Shortest, NoneWithin, MateRefused, Refused}
use Rattle.cmd_bound.specs.declared.judgement.BoundWhy.{BoundWhy}
use Rattle.cmd_bound.specs.declared.judgement.BoundWhy.TheVariants.{Root, Rank, Check}

-- A reason against a bound: a word, or the check that has no answer.
abbrev pub why_text : BoundWhy → List ℕ
why_text Root = codes "root"
why_text Rank = codes "rank"
why_text (Check check) = move_text check

-- The text of an answer to `check --bound`. For what is accepted how long the shortest mate is, or
-- within how many moves there is none; for a refused certificate what `check` tells of it; for a
-- refused bound the entry and the reason.
abbrev pub bound_text : BoundJudgement → List ℕ
bound_text (Shortest moves) = line (codes "accepted shortest " ++ decimal moves)
bound_text (NoneWithin moves) = line (codes "accepted none within " ++ decimal moves)
bound_text (MateRefused entry why) = judgement_text (judgements.Refused entry why)
bound_text (Refused entry why) = line (codes "refused bound " ++ decimal entry ++ 32 ∷ why_text why)

-- The status: 0 where it is accepted, 7 where it is refused.
abbrev pub bound_status : BoundJudgement → ℕ
bound_status (Shortest moves) = 0
bound_status (NoneWithin moves) = 0
bound_status (MateRefused entry why) = 7
bound_status (Refused entry why) = 7
