-- What `shortest` promises in plain words.
use Rattle.std.specs.Prelude.{◌≡◌, ◌≤◌, ◌⊎◌, ◌-◌, ℕ, List, Option, Some, None, Ok, Vec, length}
use Rattle.std.specs.Global.{Global}
use Rattle.board_core.specs.declared.moves.Move.{Move}
use Rattle.board_core.specs.Board.{Board}
use Rattle.mate_def.specs.Mate.{RankAtMost}
use Rattle.mate_facts.specs.declared.rank.Rank.{Rank}
use Rattle.cert_text.specs.Certificate.{CertificateView, Mating}
use Rattle.bound_text.specs.declared.entry.BoundEntry.{BoundEntry}
use Rattle.search_limits.specs.declared.cause.Cause.{Cause}
use Rattle.tsume_io.specs.Faults.{Rose}
use Rattle.tsume_words.specs.declared.form.ProblemForm.{ProblemForm}
use Rattle.app_texts.specs.declared.fault.ProblemFault.{ProblemFault}
use Rattle.problem_answers.specs.Reading.{StandsFor}
use Rattle.problem_lines.specs.declared.line.TheConstants.{MOST_PROBLEM_BYTES}
use Rattle.shortest_lists.specs.Line.{IsShortestLine}
use Rattle.shortest_mate.specs.declared.finding.Finding.{Finding}
use Rattle.shortest_mate.specs.declared.finding.Finding.TheVariants.{Found, NoneWithin, Unknown}
use Rattle.shortest_mate.specs.Finding.{IsTrueOf}
use Rattle.one_run.specs.declared.ended.Ended.{Ended}
use Rattle.one_run.specs.declared.ended.Ended.TheVariants.{Answered}
use Rattle.one_run.specs.Outside.{Shown}
use Rattle.one_run.specs.Run.{IsEnded, AreUsedTill, IsCounted, IsAnswered, WantsMemory}
use Rattle.one_run.specs.Stops.{Signals, once_armed}
use Rattle.cmd_bound.specs.Headline.{IsNoneText, IsShortestText}
use Rattle.cmd_shortest.specs.Answer.{IsOneHeeded, IsOnePolled}
use Rattle.cmd_shortest.specs.Asked.{ShortestView}
use Rattle.cmd_shortest.specs.Meaning.{shortest_meaning}
use Rattle.cmd_shortest.specs.Text.{finding_text}
use Rattle.cmd_shortest.specs.declared.answer.ShortestAnswer.{ShortestAnswer}

-- The run ended with this, which was printed, when so many expansions were made.
abbrev pub TellsAfter : ℕ → Ended ShortestAnswer ProblemFault → Finding → Type 0
TellsAfter made ended finding = ended ≡ Answered (record { finding = finding; made = made })

-- The run ended with this, which was printed.
abbrev pub Tells : Ended ShortestAnswer ProblemFault → Finding → Type 0
Tells ended finding = (made : ℕ) × TellsAfter made ended finding

-- The problem that the certificate names is a mate in so many of the attacker's moves, and in no
-- fewer. The text that is printed says so, by the certificate and the bound, which can be read from
-- it and are valid for the problem, so that `check --bound` accepts it. The moves are a line of
-- play to the mate by both.
pub record NamesShortest (rank : Rank) (c : Mating) (b : CertificateView BoundEntry) (moves : Vec Move Global) : Type 0 where
  pub mate : RankAtMost c.problem.side rank.number c.problem
  pub none_shorter : ¬ RankAtMost c.problem.side (rank.number - 1) c.problem
  pub accepted : IsShortestText None (finding_text (Found rank c b moves)) rank.number
  pub line : IsShortestLine c b.entries c.problem rank.number moves.items

-- The bytes stand for the certificate's problem, whose shortest mate takes so many moves, as the
-- text that is printed says; and these are no more than were asked about.
pub record StandsForShortest (form : ProblemForm) (limit : ℕ) (input : List ℕ) (rank : Rank) (c : Mating) (b : CertificateView BoundEntry) (moves : Vec Move Global) : Type 0 where
  pub stands_for : StandsFor form input (Ok c.problem)
  pub within : rank.number ≤ limit
  pub names : NamesShortest rank c b moves

-- The problem that the bound names is no mate within so many of the attacker's moves. The text that
-- is printed says so, by the bound, which can be read from it and is valid for the problem, so that
-- `check --bound` accepts it.
pub record NamesNone (limit : Rank) (b : CertificateView BoundEntry) : Type 0 where
  pub none : ¬ RankAtMost b.problem.side limit.number b.problem
  pub accepted : IsNoneText None (finding_text (NoneWithin limit b)) limit.number

-- The bytes stand for the bound's problem, which is no mate within so many moves, as the text that
-- is printed says; and these are as many as were asked about.
pub record StandsForNone (form : ProblemForm) (limit : ℕ) (input : List ℕ) (told : Rank) (b : CertificateView BoundEntry) : Type 0 where
  pub stands_for : StandsFor form input (Ok b.problem)
  pub is_limit : told.number ≡ limit
  pub names : NamesNone told b

-- The bytes stand for a problem of which neither is told, after so many expansions, for each of
-- which the stop was polled, and for this cause: all expansions that were asked for were made; or
-- the stop signalled, once, which it did nowhere else; or what is known, or an escape, leads to
-- more positions than are read.
pub record StandsForUnknown (asked : ShortestView) (stops : Signals) (input : List ℕ) (made : ℕ) (cause : Cause) : Type 0 where
  pub problem : Board
  pub stands_for : StandsFor asked.form input (Ok problem)
  pub why : IsTrueOf problem asked.limit asked.expansions made (Unknown cause)
  pub heeded : IsOneHeeded (Unknown cause) stops.before stops.after
  pub polled : IsOnePolled made stops.before stops.after

-- The bytes that the source has left are a problem, and short enough.
pub record HasProblemLeft (form : ProblemForm) (left : Option (List ℕ)) : Type 0 where
  pub input : List ℕ
  pub problem : Board
  pub told : left ≡ Some input
  pub short : length input ≤ MOST_PROBLEM_BYTES
  pub stands_for : StandsFor form input (Ok problem)

-- A run of `shortest` kept all that it promises, clause by clause, for whoever hands it on.
pub record IsShortestRun (asked : ShortestView) (stops : Signals) (source sink : Shown) (ended : Ended ShortestAnswer ProblemFault) : Type 0 where
  pub found : (input : List ℕ) (rank : Rank) (c : Mating) (b : CertificateView BoundEntry) (moves : Vec Move Global)
      → source.told ≡ Some input → Tells ended (Found rank c b moves) → StandsForShortest asked.form asked.limit input rank c b moves
  pub none_within : (input : List ℕ) (limit : Rank) (b : CertificateView BoundEntry) → source.told ≡ Some input
      → Tells ended (NoneWithin limit b) → StandsForNone asked.form asked.limit input limit b
  pub gave_up : (input : List ℕ) (made : ℕ) (cause : Cause) → source.told ≡ Some input → TellsAfter made ended (Unknown cause)
      → StandsForUnknown asked (once_armed asked.watch.deadline stops) input made cause
  pub own_found : (rank : Rank) (c : Mating) (b : CertificateView BoundEntry) (moves : Vec Move Global)
      → Tells ended (Found rank c b moves) → NamesShortest rank c b moves
  pub own_none : (limit : Rank) (b : CertificateView BoundEntry) → Tells ended (NoneWithin limit b) → NamesNone limit b
  pub does : IsEnded (shortest_meaning asked) stops source sink ended
  pub used : AreUsedTill (shortest_meaning asked) stops ended
  pub counted : IsCounted source sink ended
  pub complete : HasProblemLeft asked.form source.told → ¬ Rose source.faults source.faults_after
      → ¬ Rose sink.faults sink.faults_after
      → IsAnswered ended ⊎ WantsMemory ended
