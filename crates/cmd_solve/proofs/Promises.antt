-- The promise in plain words, from how a run ended.
use Rattle.std.proofs.Common.{◌≡◌, ℕ, List, Option, Some, Ok, Err, subst, sym, inr, refl, []}
use Rattle.board_core.specs.declared.moves.Move.{Move}
use Rattle.board_core.specs.Board.{Board}
use Rattle.mate_def.specs.Mate.{IsMate}
use Rattle.cert_text.specs.declared.certificate.Certificate.TheVariants as certificates
use Rattle.cert_text.specs.Certificate.{Mating, Escaping}
use Rattle.cert_check.specs.Valid.{ValidMate, ValidEscape}
use Rattle.play_line.specs.Line.{IsMainLine}
use Rattle.search_limits.specs.declared.cause.Cause.{Cause}
use Rattle.visit_log.specs.Run.{WorkerView}
use Rattle.app_texts.specs.declared.answer.Solution.{Solution}
use Rattle.app_texts.specs.declared.answer.Solution.TheVariants.{Mate, NoMate, Unknown}
use Rattle.app_texts.specs.declared.fault.ProblemFault.{ProblemFault}
use Rattle.problem_answers.specs.Answer.{IsAcceptedFor}
use Rattle.problem_answers.specs.Reading.{OneReading, StandsFor}
use Rattle.one_run.specs.declared.ended.Ended.{Ended}
use Rattle.one_run.specs.declared.ended.Ended.TheVariants.{Answered, Failed}
use Rattle.one_run.specs.declared.ended.Fault.TheVariants.{NoMemory}
use Rattle.one_run.proofs.Offered.{took_it, unbegun_run}
use Rattle.one_run.specs.Outside.{Shown, IsUntouched}
use Rattle.one_run.specs.Run.{IsEnded, IsRun, IsWellPosed}
use Rattle.one_run.specs.Stops.{Signals, AreUnused, once_armed}
use Rattle.cmd_solve.specs.Headline.{StandsForMate, StandsForNoMate, StandsForUnknown, NamesMate, NamesNoMate, HasProblemLeft, IsSolveRun}
use Rattle.cmd_solve.specs.Meaning.{SolveView, solve_meaning}

pub mate_of : (asked : SolveView) (stops : Signals) (source sink : Shown) (input : List ℕ) (c : Mating) (moves : List Move)
    → IsEnded (solve_meaning asked) stops source sink (Answered (Mate c moves)) → source.told ≡ Some input → StandsForMate asked.form input c moves
mate_of asked stops source sink input c moves ended told =
    let d = ended.decided in
    record {
      problem = d.true_of.problem;
      stands_for = subst (λ (i : List ℕ). StandsFor asked.form i (Ok d.true_of.problem)) (took_it source.told source.told_after d.input input told d.read.took) d.true_of.stands_for;
      mate = d.true_of.true_of.verdict.shown.1.mate;
      valid = d.true_of.true_of.verdict.shown.1.valid;
      accepted = d.true_of.true_of.verdict.shown.1.accepted;
      readable = d.true_of.true_of.verdict.shown.1.readable;
      text = d.true_of.true_of.verdict.shown.1.text;
      line = d.true_of.true_of.verdict.shown.1.line;
    }

pub no_mate_of : (asked : SolveView) (stops : Signals) (source sink : Shown) (input : List ℕ) (c : Escaping)
    → IsEnded (solve_meaning asked) stops source sink (Answered (NoMate c)) → source.told ≡ Some input → StandsForNoMate asked.form input c
no_mate_of asked stops source sink input c ended told =
    let d = ended.decided in
    record {
      problem = d.true_of.problem;
      stands_for = subst (λ (i : List ℕ). StandsFor asked.form i (Ok d.true_of.problem)) (took_it source.told source.told_after d.input input told d.read.took) d.true_of.stands_for;
      no_mate = d.true_of.true_of.verdict.shown.1.no_mate;
      valid = d.true_of.true_of.verdict.shown.1.valid;
      accepted = d.true_of.true_of.verdict.shown.1.accepted;
      readable = d.true_of.true_of.verdict.shown.1.readable;
      text = d.true_of.true_of.verdict.shown.1.text;
    }

pub unknown_of : (asked : SolveView) (stops : Signals) (source sink : Shown) (input : List ℕ) (cause : Cause) (crew : List WorkerView)
    → IsEnded (solve_meaning asked) stops source sink (Answered (Unknown cause crew)) → source.told ≡ Some input
    → StandsForUnknown asked.form asked.settings (once_armed asked.watch.deadline stops) input cause crew
unknown_of asked stops source sink input cause crew ended told =
    let d = ended.decided in
    record {
      problem = d.true_of.problem;
      stands_for = subst (λ (i : List ℕ). StandsFor asked.form i (Ok d.true_of.problem)) (took_it source.told source.told_after d.input input told d.read.took) d.true_of.stands_for;
      why = d.true_of.true_of;
    }

pub own_mate_of : (asked : SolveView) (stops : Signals) (source sink : Shown) (c : Mating) (moves : List Move)
    → IsEnded (solve_meaning asked) stops source sink (Answered (Mate c moves)) → NamesMate c moves
own_mate_of asked stops source sink c moves ended =
    let shown = ended.decided.true_of.true_of.verdict.shown.1 in
    let own = sym shown.valid.problem in
    record {
      mate = subst (λ (p : Board). IsMate p.side p) own shown.mate;
      valid = subst (ValidMate c) own shown.valid;
      accepted = subst (λ (p : Board). IsAcceptedFor p (certificates.Mate c)) own shown.accepted;
      readable = shown.readable;
      text = shown.text;
      line = subst (λ (p : Board). IsMainLine c p.side p moves) own shown.line;
    }

pub own_no_mate_of : (asked : SolveView) (stops : Signals) (source sink : Shown) (c : Escaping)
    → IsEnded (solve_meaning asked) stops source sink (Answered (NoMate c)) → NamesNoMate c
own_no_mate_of asked stops source sink c ended =
    let shown = ended.decided.true_of.true_of.verdict.shown.1 in
    let own = sym shown.valid.problem in
    record {
      no_mate = subst (λ (p : Board). ¬ IsMate p.side p) own shown.no_mate;
      valid = subst (ValidEscape c) own shown.valid;
      accepted = subst (λ (p : Board). IsAcceptedFor p (certificates.Escape c)) own shown.accepted;
      readable = shown.readable;
      text = shown.text;
    }

-- what stands for a problem has no fault
pub posed_of : OneReading → (asked : SolveView) (left : Option (List ℕ)) → HasProblemLeft asked.form left → IsWellPosed (solve_meaning asked) left
posed_of one asked left given = record {
  input = given.input;
  told = given.told;
  short = given.short;
  faultless = λ fault is. let same = one asked.form given.input (Ok given.problem) (Err fault) given.stands_for is in absurd (cc);
}

-- a run of `solve` keeps all that it promises
pub solve_run : OneReading → (asked : SolveView) (stops : Signals) (source sink : Shown) (ended : Ended Solution ProblemFault)
    → IsRun (solve_meaning asked) stops source sink ended → IsSolveRun asked stops source sink ended
solve_run one asked stops source sink ended run = record {
  mate = λ input c moves told is. mate_of asked stops source sink input c moves (at is) told;
  no_mate = λ input c told is. no_mate_of asked stops source sink input c (at is) told;
  gave_up = λ input cause crew told is. unknown_of asked stops source sink input cause crew (at is) told;
  own_mate = λ c moves is. own_mate_of asked stops source sink c moves (at is);
  own_no_mate = λ c is. own_no_mate_of asked stops source sink c (at is);
  does = run.does;
  used = run.used;
  counted = run.counted;
  complete = λ given sound kept. run.complete (posed_of one asked source.told given) sound kept;
}
  where
    at : {other : Ended Solution ProblemFault} → ended ≡ other → IsEnded (solve_meaning asked) stops source sink other
    at is = subst (λ (e : Ended Solution ProblemFault). IsEnded (solve_meaning asked) stops source sink e) is run.does

-- a run that wanted memory before it began keeps all that `solve` promises
pub unbegun_solve : (asked : SolveView) (stops : Signals) (source sink : Shown) → AreUnused stops → IsUntouched source → IsUntouched sink
    → IsSolveRun asked stops source sink (Failed NoMemory [])
unbegun_solve asked stops source sink unused unread unwritten =
    let run = unbegun_run (solve_meaning asked) stops source sink unused unread unwritten in
    record {
      mate = λ input c moves told is. absurd (cc);
      no_mate = λ input c told is. absurd (cc);
      gave_up = λ input cause crew told is. absurd (cc);
      own_mate = λ c moves is. absurd (cc);
      own_no_mate = λ c is. absurd (cc);
      does = run.does;
      used = run.used;
      counted = run.counted;
      complete = λ given sound kept. inr ([], refl);
    }
