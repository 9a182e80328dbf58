use Rattle.std.proofs.Common.{◌≡◌, ◌↔◌}
use Rattle.std.proofs.lemmas.Result.{IfOk-weaker}
use Rattle.mate_def.specs.Mate.{RankAtMost}
use Rattle.bound_check.specs.Valid.{IsValidBound}
use Rattle.bound_check.specs.Reasons.{IsVerdict}
use Rattle.bound_check.specs.declared.verdict.BoundVerdict.{BoundVerdict}
use Rattle.bound_check.specs.declared.verdict.BoundVerdict.TheVariants.{Accepted}
use Rattle.bound_check.proofs.Verdicts.{accepted_iff, shown}
use Rattle.bound_check.proofs.verdict.check_bound.Goals as goal

pub returns-clause-accepted : goal.returns-clause-accepted
returns-clause-accepted c =
    IfOk-weaker c.verdict_on.result (IsVerdict c.args.bound.now.entries c.args.problem.now.position c.args.within)
    (λ (v : BoundVerdict). (v ≡ Accepted) ↔ IsValidBound c.args.bound.now.entries c.args.problem.now.position c.args.within)
    (λ v h. accepted_iff c.args.bound.now.entries c.args.problem.now.position c.args.within v h) c.verdict_on.ensures

pub returns-clause-no_mate : goal.returns-clause-no_mate
returns-clause-no_mate c =
    IfOk-weaker c.verdict_on.result (IsVerdict c.args.bound.now.entries c.args.problem.now.position c.args.within)
    (λ (v : BoundVerdict). v ≡ Accepted → ¬ RankAtMost c.args.problem.now.position.side c.args.within c.args.problem.now.position)
    (λ v h e. (shown c.args.bound.now.entries c.args.problem.now.position c.args.within
    ((accepted_iff c.args.bound.now.entries c.args.problem.now.position c.args.within v h).0 e)).no_mate) c.verdict_on.ensures
