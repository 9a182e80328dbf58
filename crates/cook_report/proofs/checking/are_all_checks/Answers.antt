use Rattle.std.proofs.Common.{◌∙◌, map, sym, subst}
use Rattle.list_laws.proofs.MoveLists.{lists_one}
use Rattle.board_core.specs.Order.{Lists}
use Rattle.shogi_rules.specs.Tsume.{IsCheck}
use Rattle.cook_report.specs.Report.{check_of}
use Rattle.cook_report.proofs.checking.are_all_checks.Goals as goal

pub returns : goal.returns
returns c =
    let p = c.args.problem.now.position in (
      (λ yes. subst (Lists (IsCheck p.side p)) (sym (c.are_checks_of.ensures.0 yes ∙ c.as_slice.ensures.moves)) c.in_ok-checks.ensures),
      (λ lists. c.are_checks_of.ensures.1
          (lists_one c.order_laws.ensures.apart (IsCheck p.side p) (map check_of c.args.lines.now) c.in_ok-checks.checks lists c.in_ok-checks.ensures
          ∙ sym c.as_slice.ensures.moves)),
    )
