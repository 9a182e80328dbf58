-- The promise in plain words, from how a run ended.
use Rattle.std.proofs.Common.{◌≡◌, ℕ, List, Option, Some, None, Result, Ok, Err, ap, subst, sym, inr, refl, [], ◌∙◌}
use Rattle.std.proofs.lemmas.Option.{same_Some}
use Rattle.board_core.specs.Board.{Board}
use Rattle.problem_answers.specs.Reading.{OneReading, StandsFor}
use Rattle.app_texts.specs.declared.fault.ProblemFault.{ProblemFault}
use Rattle.one_run.specs.declared.ended.Ended.{Ended}
use Rattle.one_run.specs.declared.ended.Ended.TheVariants.{Answered, Failed}
use Rattle.one_run.specs.declared.ended.Fault.TheVariants.{NoMemory}
use Rattle.one_run.proofs.Offered.{took_it, unbegun_run}
use Rattle.one_run.specs.Outside.{Shown, IsUntouched}
use Rattle.one_run.specs.Run.{IsEnded, IsRun, IsWellPosed}
use Rattle.one_run.specs.Stops.{Signals, AreUnused, once_armed}
use Rattle.cook_report.specs.Shown.{ValidReportsShow}
use Rattle.cook_line.specs.Moves.{HasBadMove, LinesAreFaultless}
use Rattle.cook_line.specs.Stages.{WordsMean}
use Rattle.cmd_cook.specs.Answer.{HasLineFault, IsCookAnswer, IsCookFault, IsLineSound}
use Rattle.cmd_cook.specs.Asked.{CookView}
use Rattle.cmd_cook.specs.Headline.{HasProblemLeft, IsCookRun, NamesLine, NamesReport, StandsForLine, StandsForReport, StandsForSearches}
use Rattle.cmd_cook.specs.Meaning.{cook_meaning}
use Rattle.cmd_cook.specs.declared.answer.CookAnswer.{CookAnswer}
use Rattle.cmd_cook.specs.declared.answer.CookAnswer.TheVariants.{Report, Lines}
use Rattle.cmd_cook.specs.declared.answer.ToldLine.{ToldLine}
use Rattle.cmd_cook.specs.declared.answer.ToldReport.{ToldReport}
use Rattle.cmd_cook.specs.declared.fault.CookFault.{CookFault}
use Rattle.cmd_cook.specs.declared.fault.CookFault.TheVariants.{Problem, Line}

module _ (asked : CookView) (stops : Signals) (source sink : Shown) (answer : CookAnswer) (ended : IsEnded (cook_meaning asked) stops source sink (Answered answer)) where
  -- what was decided is true of what the source tells
  here : (input : List ℕ) → source.told ≡ Some input → StandsFor asked.solve.form input (Ok ended.decided.true_of.problem)
  here input told =
      let d = ended.decided in
      subst (λ (i : List ℕ). StandsFor asked.solve.form i (Ok d.true_of.problem)) (took_it source.told source.told_after d.input input told d.read.took) d.true_of.stands_for

  searches_of : (input : List ℕ) → source.told ≡ Some input
      → StandsForSearches asked.solve.form asked.solve.settings (once_armed asked.solve.watch.deadline stops) input answer
  searches_of input told = record { problem = ended.decided.true_of.problem; stands_for = here input told; found = ended.decided.true_of.found }

module _ (shows : ValidReportsShow) (asked : CookView) (stops : Signals) (source sink : Shown) (told : ToldReport)
    (ended : IsEnded (cook_meaning asked) stops source sink (Answered (Report told))) where
  own_report_of : NamesReport told.report
  own_report_of =
      let d = ended.decided.true_of in
      record {
        problem = d.problem;
        kept = d.kept;
        is_problem = d.is_problem;
        valid = d.found.valid;
        shows = shows d.problem told.report d.kept d.found.kept d.found.valid;
      }

  report_of : (input : List ℕ) → source.told ≡ Some input → StandsForReport asked.solve.form input told.report
  report_of input is =
      let d = ended.decided.true_of in
      record {
        problem = d.problem;
        stands_for = here asked stops source sink (Report told) ended input is;
        valid = d.found.valid;
        shows = shows d.problem told.report d.kept d.found.kept d.found.valid;
      }

module _ (mean : WordsMean) (asked : CookView) (stops : Signals) (source sink : Shown) (told : ToldLine)
    (ended : IsEnded (cook_meaning asked) stops source sink (Answered (Lines told))) where
  own_along_of : NamesLine asked.line told
  own_along_of =
      let d = ended.decided.true_of in
      record {
        problem = d.problem;
        kept = d.kept;
        is_problem = d.is_problem;
        told_of = d.told;
        says = mean d.problem told.moves.items told.stages.items d.told.stages;
      }

  along_of : (input : List ℕ) → source.told ≡ Some input → StandsForLine asked.solve.form asked.line input told
  along_of input is =
      let d = ended.decided.true_of in
      record {
        problem = d.problem;
        stands_for = here asked stops source sink (Lines told) ended input is;
        told_of = d.told;
        says = mean d.problem told.moves.items told.stages.items d.told.stages;
      }

-- a line that is one from a problem has no fault
no_line_fault : LinesAreFaultless → (line : Option (List ℕ)) (problem : Board) (text : List ℕ) (number : ℕ) → IsLineSound line problem → line ≡ Some text
    → HasBadMove problem text number → ⊥
no_line_fault faultless None problem text number sound is bad = absurd (cc)
no_line_fault faultless (Some own) problem text number sound is bad =
    faultless problem own sound.0 number sound.1 (subst (λ (t : List ℕ). HasBadMove problem t number) (sym (same_Some own text is)) bad)

abbrev problem_in : Board → Result Board ProblemFault → Board
problem_in other (Ok problem) = problem
problem_in other (Err fault) = other

-- what stands for a problem has no fault, where the line is one from it
no_fault : OneReading → LinesAreFaultless → (asked : CookView) (left : Option (List ℕ)) (given : HasProblemLeft asked.solve.form asked.line left) (fault : CookFault)
    → ¬ IsCookFault asked.solve.form asked.line given.input fault
no_fault one faultless asked left given (Problem fault) is =
    let same = one asked.solve.form given.input (Ok given.problem) (Err fault) given.stands_for is in absurd (cc)
no_fault one faultless asked left given (Line number) is =
    let same : is.problem ≡ given.problem
    = ap (problem_in given.problem) (one asked.solve.form given.input (Ok is.problem) (Ok given.problem) is.stands_for given.stands_for) in
    no_line_fault faultless asked.line given.problem is.text number given.line_sound is.given (subst (λ (p : Board). HasBadMove p is.text number) same is.bad)

posed_of : OneReading → LinesAreFaultless → (asked : CookView) (left : Option (List ℕ)) → HasProblemLeft asked.solve.form asked.line left
    → IsWellPosed (cook_meaning asked) left
posed_of one faultless asked left given = record {
  input = given.input;
  told = given.told;
  short = given.short;
  faultless = no_fault one faultless asked left given;
}

-- a run of `cook` keeps all that it promises
pub cook_run : OneReading → ValidReportsShow → LinesAreFaultless → WordsMean → (asked : CookView) (stops : Signals) (source sink : Shown) (ended : Ended CookAnswer CookFault)
    → IsRun (cook_meaning asked) stops source sink ended → IsCookRun asked stops source sink ended
cook_run one shows faultless mean asked stops source sink ended run = record {
  report = λ input lines told is. subst (StandsForReport asked.solve.form input) is.1 (report_of shows asked stops source sink is.0 (at is.2) input told);
  own_report = λ lines is. subst NamesReport is.1 (own_report_of shows asked stops source sink is.0 (at is.2));
  along = λ input line told is. along_of mean asked stops source sink line (at is) input told;
  own_along = λ line is. own_along_of mean asked stops source sink line (at is);
  searches = λ input answer told is. searches_of asked stops source sink answer (at is) input told;
  does = run.does;
  used = run.used;
  counted = run.counted;
  complete = λ given sound kept. run.complete (posed_of one faultless asked source.told given) sound kept;
}
  where
    at : {other : Ended CookAnswer CookFault} → ended ≡ other → IsEnded (cook_meaning asked) stops source sink other
    at is = subst (λ (e : Ended CookAnswer CookFault). IsEnded (cook_meaning asked) stops source sink e) is run.does

-- a run that wanted memory before it began keeps all that `cook` promises
pub unbegun_cook : (asked : CookView) (stops : Signals) (source sink : Shown) → AreUnused stops → IsUntouched source → IsUntouched sink
    → IsCookRun asked stops source sink (Failed NoMemory [])
unbegun_cook asked stops source sink unused unread unwritten =
    let run = unbegun_run (cook_meaning asked) stops source sink unused unread unwritten in
    record {
      report = λ input lines told is. let e = is.2 in absurd (cc);
      own_report = λ lines is. let e = is.2 in absurd (cc);
      along = λ input line told is. absurd (cc);
      own_along = λ line is. absurd (cc);
      searches = λ input answer told is. absurd (cc);
      does = run.does;
      used = run.used;
      counted = run.counted;
      complete = λ given sound kept. inr ([], refl);
    }
