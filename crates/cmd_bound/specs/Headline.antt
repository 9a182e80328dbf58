-- What `check --bound` promises in plain words.
use Rattle.std.specs.Prelude.{◌≡◌, ◌≤◌, ◌↔◌, ◌⊎◌, ℕ, List, Option, Some, length}
use Rattle.board_core.specs.Board.{Board}
use Rattle.mate_facts.specs.declared.rank.Rank.{Rank}
use Rattle.cert_text.specs.Certificate.{CertificateView, Mating}
use Rattle.bound_text.specs.declared.entry.BoundEntry.{BoundEntry}
use Rattle.shortest_text.specs.declared.text.ShortestText.{ShortestText}
use Rattle.shortest_text.specs.declared.text.ShortestText.TheVariants as texts
use Rattle.shortest_text.specs.declared.fault.ShortestFault.{ShortestFault}
use Rattle.shortest_text.specs.Reading.{IsReadable, IsTextOf}
use Rattle.tsume_io.specs.Faults.{Rose}
use Rattle.one_run.specs.declared.ended.Ended.{Ended}
use Rattle.one_run.specs.declared.ended.Ended.TheVariants.{Answered}
use Rattle.one_run.specs.Outside.{Shown}
use Rattle.one_run.specs.Run.{IsAnswered, IsBrokenOff, IsRun, WantsMemory}
use Rattle.one_run.specs.Stops.{Signals, AreUnused}
use Rattle.cmd_check.specs.declared.asked.TheConstants.{MOST_CERTIFICATE_BYTES}
use Rattle.cmd_bound.specs.declared.judgement.BoundJudgement.{BoundJudgement}
use Rattle.cmd_bound.specs.declared.judgement.BoundJudgement.TheVariants.{Shortest, NoneWithin}
use Rattle.cmd_bound.specs.Answer.{IsAccepted, IsJudgedFor, IsNoneAccepted}
use Rattle.cmd_bound.specs.Meaning.{bound_meaning}

-- The bytes are the text of a mate with a bound, of so many moves, both of which are valid for the
-- problem whose text is given, or for its own where none is: so its shortest mate takes so many.
pub record IsShortestText (problem : Option (List ℕ)) (input : List ℕ) (moves : ℕ) : Type 0 where
  pub rank : Rank
  pub certificate : Mating
  pub bound : CertificateView BoundEntry
  pub readable : IsReadable (texts.Found rank certificate bound)
  pub text : IsTextOf (texts.Found rank certificate bound) input
  pub is_rank : moves ≡ rank.number
  pub board : Board
  pub judged_for : IsJudgedFor problem certificate.problem board
  pub accepted : IsAccepted board certificate bound rank.number

-- The bytes are the text of a bound alone, of so many moves, which is valid for the problem whose
-- text is given, or for its own where none is: so there is no mate within them.
pub record IsNoneText (problem : Option (List ℕ)) (input : List ℕ) (moves : ℕ) : Type 0 where
  pub limit : Rank
  pub bound : CertificateView BoundEntry
  pub readable : IsReadable (texts.NoneWithin limit bound)
  pub text : IsTextOf (texts.NoneWithin limit bound) input
  pub is_limit : moves ≡ limit.number
  pub board : Board
  pub judged_for : IsJudgedFor problem bound.problem board
  pub accepted : IsNoneAccepted board bound limit.number

-- The bytes that the source has left are a text about the shortest mate, and short enough.
pub record HasTextLeft (left : Option (List ℕ)) : Type 0 where
  pub input : List ℕ
  pub says : ShortestText
  pub told : left ≡ Some input
  pub short : length input ≤ MOST_CERTIFICATE_BYTES
  pub readable : IsReadable says
  pub text : IsTextOf says input

-- A run of `check --bound` kept all that it promises, for whoever hands it on, whatever stops there
-- are, which it leaves alone.
pub record IsBoundRun (problem : Option (List ℕ)) (source sink : Shown) (ended : Ended BoundJudgement ShortestFault) : Type 0 where
  pub shortest : (input : List ℕ) (moves : ℕ) → source.told ≡ Some input → ¬ IsBrokenOff ended
      → ((ended ≡ Answered (Shortest moves)) ↔ IsShortestText problem input moves)
  pub none_within : (input : List ℕ) (moves : ℕ) → source.told ≡ Some input → ¬ IsBrokenOff ended
      → ((ended ≡ Answered (NoneWithin moves)) ↔ IsNoneText problem input moves)
  pub run : (stops : Signals) → AreUnused stops → IsRun (bound_meaning problem) stops source sink ended
  pub complete : HasTextLeft source.told → ¬ Rose source.faults source.faults_after
      → ¬ Rose sink.faults sink.faults_after → IsAnswered ended ⊎ WantsMemory ended
