use Rattle.std.proofs.Common.{◌∙◌, List, Contains, length, arith, ap, sym, subst}
use Rattle.board_core.specs.Board.{Board}
use Rattle.mate_facts.specs.declared.entry.MateEntry.{MateEntry}
use Rattle.cert_extract.proofs.Counts.{few_positions}
use Rattle.cert_extract.proofs.First.{first_serves, first_closed, mate_from, escape_from, ended_from}
use Rattle.notes.specs.declared.rule.Conclusion.TheVariants.{Mate, Escape}
use Rattle.cert_extract.proofs.extract.Goals as goal

pub returns-in_ok-mate_certificate-in-Mate-clause-from : goal.returns-in_ok-mate_certificate-in-Mate-clause-from
returns-in_ok-mate_certificate-in-Mate-clause-from c entry there =
    mate_from c.args.note.now c.source-first.result.now c.source-first.ensures.source c.laws.ensures.valid entry
    (c.in_ok-entries-in-Mate.ensures.from entry
    (subst (λ (es : List MateEntry). Contains es entry) c.deref.ensures.value ((c.in_ok-mate_certificate-in-Mate.ensures.same entry).0 there)))

pub returns-in_ok-escape_certificate-in-Escape-clause-from : goal.returns-in_ok-escape_certificate-in-Escape-clause-from
returns-in_ok-escape_certificate-in-Escape-clause-from c b there =
    escape_from c.args.note.now c.source-first.result.now c.source-first.ensures.source c.laws.ensures.valid b
    (c.in_ok-positions-in-Escape.ensures.from b
    (subst (λ (bs : List Board). Contains bs b) c.deref-in-Escape.ensures.value ((c.in_ok-escape_certificate-in-Escape.ensures.same b).0 there)))

pub returns-in_ok-mate_certificate-in-Mate-clause-count : goal.returns-in_ok-mate_certificate-in-Mate-clause-count
returns-in_ok-mate_certificate-in-Mate-clause-count c =
    let many = c.in_ok-mate_certificate-in-Mate.ensures.count ∙ ap (λ (es : List MateEntry). length es) c.deref.ensures.value in
    few_positions c.in_ok-mate_certificate-in-Mate.field-0.entries c.args.most _ many c.in_ok-entries-in-Mate.ensures.few

pub returns-in_ok-mate_certificate-in-Mate-clause-readable : goal.returns-in_ok-mate_certificate-in-Mate-clause-readable
returns-in_ok-mate_certificate-in-Mate-clause-readable c fits =
    let many = c.in_ok-mate_certificate-in-Mate.ensures.count ∙ ap (λ (es : List MateEntry). length es) c.deref.ensures.value in
    c.in_ok-mate_certificate-in-Mate.ensures.readable
    ((let some = c.in_ok-mate_certificate-in-Mate.ensures.valid.listed.listed.1 in omega (arith, some)), (let few = c.in_ok-entries-in-Mate.ensures.few in omega (arith, many, few, fits)))

pub returns-in_ok-escape_certificate-in-Escape-clause-count : goal.returns-in_ok-escape_certificate-in-Escape-clause-count
returns-in_ok-escape_certificate-in-Escape-clause-count c =
    let many = c.in_ok-escape_certificate-in-Escape.ensures.count ∙ ap (λ (bs : List Board). length bs) c.deref-in-Escape.ensures.value in
    let few = c.in_ok-positions-in-Escape.ensures.few in
    omega (arith, many, few)

pub returns-in_ok-escape_certificate-in-Escape-clause-readable : goal.returns-in_ok-escape_certificate-in-Escape-clause-readable
returns-in_ok-escape_certificate-in-Escape-clause-readable c fits =
    let many = c.in_ok-escape_certificate-in-Escape.ensures.count ∙ ap (λ (bs : List Board). length bs) c.deref-in-Escape.ensures.value in
    let few = c.in_ok-positions-in-Escape.ensures.few in
    let some = c.in_ok-escape_certificate-in-Escape.ensures.valid.listed.inside.1 in
    c.in_ok-escape_certificate-in-Escape.ensures.readable (omega (arith, some), omega (arith, many, few, fits))

pub entries-requires : goal.entries-requires
entries-requires c =
    first_serves c.args.note.now c.source-first.result.now c.source-first.ensures.source c.laws.ensures.valid c.version-version.result Mate
    c.args.problem.now.position c.version-version.ensures c.requires.about c.requires.same_attacker (sym c.conclusion.ensures ∙ c.in-Mate.is)

pub positions-requires-clause-serves : goal.positions-requires-clause-serves
positions-requires-clause-serves c =
    first_serves c.args.note.now c.source-first.result.now c.source-first.ensures.source c.laws.ensures.valid c.version-version.result Escape
    c.args.problem.now.position c.version-version.ensures c.requires.about c.requires.same_attacker (sym c.conclusion.ensures ∙ c.in-Escape.is)

pub positions-requires-clause-closed : goal.positions-requires-clause-closed
positions-requires-clause-closed c =
    first_closed c.args.note.now c.source-first.result.now c.source-first.ensures.source c.laws.ensures.valid c.requires.closed

pub returns-in_err-entries-in-Mate-clause-too_many : goal.returns-in_err-entries-in-Mate-clause-too_many
returns-in_err-entries-in-Mate-clause-too_many c =
    ended_from c.args.note.now c.source-first.result.now c.source-first.ensures.source c.laws.ensures.valid c.args.most c.args.problem.now.position
    c.from_residual.result c.in_err-entries-in-Mate.field-0.0 c.from_residual.ensures.0 c.from_residual.ensures.1
    c.in_err-entries-in-Mate.ensures.too_many

pub returns-in_err-positions-in-Escape-clause-too_many : goal.returns-in_err-positions-in-Escape-clause-too_many
returns-in_err-positions-in-Escape-clause-too_many c =
    ended_from c.args.note.now c.source-first.result.now c.source-first.ensures.source c.laws.ensures.valid c.args.most c.args.problem.now.position
    c.from_residual-in_err-positions-in-Escape.result c.in_err-positions-in-Escape.field-0.0 c.from_residual-in_err-positions-in-Escape.ensures.0
    c.from_residual-in_err-positions-in-Escape.ensures.1 c.in_err-positions-in-Escape.ensures.too_many
