use Rattle.std.proofs.Common.{sym, subst, ◌↔◌}
use Rattle.std.specs.Prelude.{IsTrue}
use Rattle.std.proofs.lemmas.Result.{IfOk-weaker}
use Rattle.bit_boards.specs.declared.piece.Side.{Side}
use Rattle.dominance_places.specs.Covering as covering
use Rattle.dominance_places.specs.Found.{IsFoundCovered}
use Rattle.hand_dominance.specs.BorneOut.{CoversListed, IsCovered}
use Rattle.cert_check.specs.Reasons.{StandsFor}
use Rattle.cert_check.proofs.Covered.{found_some}
use Rattle.cert_check.proofs.Verdicts.{mate_stands, escape_stands}
use Rattle.cert_check.proofs.hearing.stands_for.Goals as goal

pub returns-in-Mate : goal.returns-in-Mate
returns-in-Mate c =
    let p = c.args.problem.now.position in
    let version = covering.version_of c.args.places.now in
    let found = subst (λ (side : Side). IsFoundCovered version c.entries.result.now side p c.in_ok-found-in-Mate.found) c.attacker-attacker.ensures c.in_ok-found-in-Mate.ensures in
    mate_stands c.args.certificate.now c.in-Mate.mate version c.entries.result.now p c.is_some.result c.in-Mate.is c.requires.version c.entries.ensures.entries
    (subst (λ b. IsTrue b ↔ CoversListed version c.entries.result.now p.side p) (sym c.is_some.ensures)
    (found_some version c.entries.result.now p.side p c.in_ok-found-in-Mate.found found))

pub returns : goal.returns
returns c =
    let p = c.args.problem.now.position in
    let version = covering.version_of c.args.places.now in
    IfOk-weaker c.is_covered.result (λ found. IsTrue found ↔ IsCovered version c.entries-in-Escape.result.now c.attacker-attacker.result p)
    (λ found. IsTrue found ↔ StandsFor c.args.certificate.now p)
    (λ found is. escape_stands c.args.certificate.now c.in-Escape.escape version c.entries-in-Escape.result.now p found c.in-Escape.is c.requires.version
    c.entries-in-Escape.ensures.entries
    (subst (λ (side : Side). IsTrue found ↔ IsCovered version c.entries-in-Escape.result.now side p) c.attacker-attacker.ensures is))
    c.is_covered.ensures
