-- The promise in plain words, from how a run ended.
use Rattle.std.proofs.Common.{◌≡◌, ℕ, List, Option, Some, subst}
use Rattle.kif_moves.specs.declared.fault.KifMovesFault.{KifMovesFault}
use Rattle.kif_moves.specs.Reading.{KifMovesAreFaultless}
use Rattle.one_run.specs.declared.ended.Ended.{Ended}
use Rattle.one_run.specs.declared.ended.Ended.TheVariants.{Answered}
use Rattle.one_run.specs.Outside.{Shown}
use Rattle.one_run.specs.Run.{IsEnded, IsWellPosed}
use Rattle.one_run.specs.Stops.{Signals}
use Rattle.one_run.proofs.Offered.{took_it}
use Rattle.cmd_solution.specs.declared.verdict.SolutionVerdict.{SolutionVerdict}
use Rattle.cmd_solution.specs.Headline.{HasSolutionLeft}
use Rattle.cmd_solution.specs.Meaning.{solution_meaning}
use Rattle.cmd_solution.specs.Verdict.{IsJudged}

-- what was answered is true of the input
pub judged_of : (stops : Signals) (source sink : Shown) (input : List ℕ) (verdict : SolutionVerdict) (ended : Ended SolutionVerdict KifMovesFault)
    → IsEnded solution_meaning stops source sink ended → source.told ≡ Some input → ended ≡ Answered verdict → IsJudged input verdict
judged_of stops source sink input verdict ended is told answered =
    let d = (subst (λ (e : Ended SolutionVerdict KifMovesFault). IsEnded solution_meaning stops source sink e) answered is).decided in
    subst (λ (i : List ℕ). IsJudged i verdict) (took_it source.told source.told_after d.input input told d.read.took) d.true_of

-- what stands for a problem and moves has no fault
pub posed_of : KifMovesAreFaultless → (left : Option (List ℕ)) → HasSolutionLeft left → IsWellPosed solution_meaning left
posed_of faultless left given = record {
  input = given.input;
  told = given.told;
  short = given.short;
  faultless = λ fault is. faultless given.input given.problem given.moves fault given.stands is.first;
}
