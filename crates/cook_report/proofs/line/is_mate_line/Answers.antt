use Rattle.std.proofs.Common.{◌↔◌, ◌∙◌, sym}
use Rattle.std.specs.Prelude.{IsTrue}
use Rattle.std.proofs.lemmas.Result.{IfOk-weaker}
use Rattle.mate_facts.specs.Entries.{positions_of}
use Rattle.hand_dominance.specs.BorneOut.{AreKept}
use Rattle.cook_report.specs.Line.{IsLedTo}
use Rattle.cook_report.specs.Valid.{IsMateLine}
use Rattle.cook_report.specs.Shown.{ShowsCheck}
use Rattle.cook_report.proofs.Heard.{both_ok}
use Rattle.cook_report.proofs.Showing.{mate_shows, line_where_led}
use Rattle.cook_report.proofs.line.is_mate_line.Goals as goal

pub returns-clause-line : goal.returns-clause-line
returns-clause-line c =
    let p = c.args.problem.now.position in
    let its = c.args.certificate.now in
    IfOk-weaker c.leads_to_listed.result (λ found. IsTrue found ↔ IsLedTo p.side c.apply-checked.result its) (λ found. IsTrue found ↔ IsMateLine p c.args.check its)
    (λ found led.
    line_where_led p c.args.check its c.apply-checked.result found (sym c.problem.ensures.problem ∙ c.is_same.ensures.0 c.if-not-is_same.false)
    (c.in_ok-are_all_borne_out.ensures.0 c.if-not-branch.false) c.apply-checked.ensures.position led)
    c.leads_to_listed.ensures.led

pub returns-clause-shows : goal.returns-clause-shows
returns-clause-shows c =
    let p = c.args.problem.now.position in
    let its = c.args.certificate.now in
    both_ok (λ found. IsTrue found ↔ IsLedTo p.side c.apply-checked.result its) (λ found. AreKept (positions_of its.entries))
    (λ found. IsTrue found → ShowsCheck p c.args.check) c.leads_to_listed.result
    (λ found led all yes.
    mate_shows c.listing_laws.ensures.ranks c.rank_grows.ensures p c.args.check its c.laws.ensures all c.requires
    ((line_where_led p c.args.check its c.apply-checked.result found (sym c.problem.ensures.problem ∙ c.is_same.ensures.0 c.if-not-is_same.false)
    (c.in_ok-are_all_borne_out.ensures.0 c.if-not-branch.false) c.apply-checked.ensures.position led).0 yes))
    c.leads_to_listed.ensures.led c.leads_to_listed.ensures.kept
