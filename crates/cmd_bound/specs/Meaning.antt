-- What `check` means where it is asked for a bound.
use Rattle.std.specs.Prelude.{ℕ, List, Option, ⊤}
use Rattle.one_run.specs.Command.{Meaning}
use Rattle.one_run.specs.Stops.{AreUnused}
use Rattle.cmd_check.specs.declared.asked.TheConstants.{MOST_CERTIFICATE_BYTES}
use Rattle.shortest_text.specs.declared.fault.ShortestFault.{ShortestFault}
use Rattle.cmd_bound.specs.declared.judgement.BoundJudgement.{BoundJudgement}
use Rattle.cmd_bound.specs.Answer.{IsJudged, IsNoText}
use Rattle.cmd_bound.specs.Text.{bound_text}

-- What it means, by the text of the problem that the words give, if any: a text has so many bytes
-- at most; an answer is a judgement on what the text says, and a fault the text's; the text of an
-- answer is the judgement's; and no stop is used.
abbrev pub bound_meaning : Option (List ℕ) → Meaning BoundJudgement ShortestFault
bound_meaning problem = record {
  limit = MOST_CERTIFICATE_BYTES;
  IsTrue = λ stops input judgement. IsJudged problem input judgement;
  IsFault = IsNoText;
  HasText = λ judgement. ⊤;
  text_of = bound_text;
  Uses = AreUnused;
}
