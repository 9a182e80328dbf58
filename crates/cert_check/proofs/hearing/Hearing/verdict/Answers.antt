use Rattle.std.proofs.Common.{◌+◌, arith, subst, length}
use Rattle.cert_text.specs.Kinds.{positions_in}
use Rattle.cert_check.specs.Hearing.{IsFoundIn}
use Rattle.cert_check.proofs.Verdicts.{told, none_found, one_found}
use Rattle.cert_check.proofs.hearing.Hearing.verdict.Goals as goal

pub returns-in-None-clause-verdict : goal.returns-in-None-clause-verdict
returns-in-None-clause-verdict c =
    none_found c.args.self.now.certificate c.args.self.now.problem c.laws.ensures.kept
    (told c.args.self.now.certificate c.args.self.now.problem c.root.result c.root.ensures c.if-not-root.false)
    (subst (IsFoundIn c.args.self.now.certificate c.args.self.now.problem.side 0 (length (positions_in c.args.self.now.certificate))) c.in-None.is c.requires)

pub returns-in-None-clause-shows : goal.returns-in-None-clause-shows
returns-in-None-clause-shows c = λ _.
    c.valid_is_accepted.ensures.shows c.args.self.now.certificate c.args.self.now.problem c.laws.ensures.positions c.laws.ensures.problem
    (none_found c.args.self.now.certificate c.args.self.now.problem c.laws.ensures.kept
    (told c.args.self.now.certificate c.args.self.now.problem c.root.result c.root.ensures c.if-not-root.false)
    (subst (IsFoundIn c.args.self.now.certificate c.args.self.now.problem.side 0 (length (positions_in c.args.self.now.certificate))) c.in-None.is c.requires))

pub returns-in-Some-clause-verdict : goal.returns-in-Some-clause-verdict
returns-in-Some-clause-verdict c =
    one_found c.args.self.now.certificate c.args.self.now.problem (c.in-Some.objection.place + 1) c.in-Some.objection (omega arith)
    (told c.args.self.now.certificate c.args.self.now.problem c.root.result c.root.ensures c.if-not-root.false)
    (subst (IsFoundIn c.args.self.now.certificate c.args.self.now.problem.side 0 (length (positions_in c.args.self.now.certificate))) c.in-Some.is c.requires)
