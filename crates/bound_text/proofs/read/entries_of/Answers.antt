use Rattle.std.proofs.Common.{◌+◌, ◌++◌, [], List, ℕ, length, ap, subst, sym, ◌∙◌, arith}
use Rattle.std.proofs.lemmas.Bool.{false≢true}
use Rattle.cert_text.specs.Text.{entries_text}
use Rattle.bound_text.specs.Bound.{bound_form}
use Rattle.bound_text.specs.Scan.{HasReadSome}
use Rattle.bound_text.proofs.Entries.{Laws}
use Rattle.bound_text.proofs.Lines.{read_first, read_next, more_told, all_told, no_line, no_entry, no_rise, lacks_entry, end_fault, entries_err}
use Rattle.bound_text.proofs.read.entries_of.Goals as goal

pub loop-last-init : goal.loop-last-init
loop-last-init c =
    subst (λ entries. HasReadSome c.args.problem.now.position c.args.digits.now c.args.text.now entries c.args.text.now []) (sym c.new-entries.ensures.items)
    (read_first c.sfen_laws.ensures.bytes c.args.problem.now.position c.args.digits.now c.args.text.now)

pub returns-in_default : goal.returns-in_default
returns-in_default c =
    let laws : Laws = record { apart = c.sfen_laws.ensures.apart; lines = c.sfen_laws.ensures.lines } in
    let entries = c.loop-last.entries.items in
    let few = c.loop-last.invariant.few in
    let fewer = more_told c.args.digits.now (length entries) c.len.result c.is_decimal.result c.requires (omega (arith, c.len.ensures, c.loop-last.entries.ok))
    (omega (arith, c.loop-last.entries.ok)) few c.is_decimal.ensures c.loop-last-test.true in
    lacks_entry c.args.problem.now.position c.args.digits.now c.args.text.now entries c.loop-last.rest.now c.loop-last.last.now (c.len-in-loop-last.result + 1)
    c.requires c.loop-last.invariant fewer (omega (arith, c.len-in-loop-last.ensures, c.loop-last.entries.ok))
    (no_line laws c.args.problem.now.position entries c.loop-last.rest.now c.in_default.ensures.none)

pub returns-in-Ok-None : goal.returns-in-Ok-None
returns-in-Ok-None c =
    let laws : Laws = record { apart = c.sfen_laws.ensures.apart; lines = c.sfen_laws.ensures.lines } in
    let entries = c.loop-last.entries.items in
    let few = c.loop-last.invariant.few in
    let fewer = more_told c.args.digits.now (length entries) c.len.result c.is_decimal.result c.requires (omega (arith, c.len.ensures, c.loop-last.entries.ok))
    (omega (arith, c.loop-last.entries.ok)) few c.is_decimal.ensures c.loop-last-test.true in
    let none = rw c.in-Ok-None.field-0-is at c.in-Ok-None.ensures.none in
    lacks_entry c.args.problem.now.position c.args.digits.now c.args.text.now entries c.loop-last.rest.now c.loop-last.last.now (c.len-in-loop-last.result + 1)
    c.requires c.loop-last.invariant fewer (omega (arith, c.len-in-loop-last.ensures, c.loop-last.entries.ok))
    (no_entry laws c.args.problem.now.position entries c.loop-last.rest.now c.in-Some.line.now c.in-Some.more.now c.in-Some.ensures.parts c.in-Some.ensures.front none)

pub returns-then-not-is_before : goal.returns-then-not-is_before
returns-then-not-is_before c =
    let laws : Laws = record { apart = c.sfen_laws.ensures.apart; lines = c.sfen_laws.ensures.lines } in
    let entries = c.loop-last.entries.items in
    let few = c.loop-last.invariant.few in
    let fewer = more_told c.args.digits.now (length entries) c.len.result c.is_decimal.result c.requires (omega (arith, c.len.ensures, c.loop-last.entries.ok))
    (omega (arith, c.loop-last.entries.ok)) few c.is_decimal.ensures c.loop-last-test.true in
    let fits = rw c.in-Ok-Some.field-0-is at c.in-Ok-Some.ensures.fits in
    let text = rw c.in-Ok-Some.field-0-is at c.in-Ok-Some.ensures.text in
    let sfen = rw c.in-Ok-Some.field-0-is at c.in-Ok-Some.ensures.sfen in
    lacks_entry c.args.problem.now.position c.args.digits.now c.args.text.now entries c.loop-last.rest.now c.loop-last.last.now (c.len-in-loop-last.result + 1)
    c.requires c.loop-last.invariant fewer (omega (arith, c.len-in-loop-last.ensures, c.loop-last.entries.ok))
    (no_rise laws c.args.problem.now.position entries c.args.digits.now c.args.text.now c.loop-last.rest.now c.loop-last.last.now c.in-Some.line.now c.in-Some.more.now
    c.in-Ok-Some.read.1.now c.in-Ok-Some.read.0 c.loop-last.invariant c.in-Some.ensures.parts fits text sfen
    (λ before. false≢true (sym c.if-not-is_before.true ∙ c.is_before.ensures.1 before)))

pub loop-last-preserved : goal.loop-last-preserved
loop-last-preserved c =
    let entries = c.loop-last.entries.items in
    let few = c.loop-last.invariant.few in
    let fewer = more_told c.args.digits.now (length entries) c.len.result c.is_decimal.result c.requires (omega (arith, c.len.ensures, c.loop-last.entries.ok))
    (omega (arith, c.loop-last.entries.ok)) few c.is_decimal.ensures c.loop-last-test.true in
    let fits = rw c.in-Ok-Some.field-0-is at c.in-Ok-Some.ensures.fits in
    let text = rw c.in-Ok-Some.field-0-is at c.in-Ok-Some.ensures.text in
    let sfen = rw c.in-Ok-Some.field-0-is at c.in-Ok-Some.ensures.sfen in
    read_next c.args.problem.now.position c.args.digits.now c.args.text.now entries _ c.loop-last.rest.now c.loop-last.last.now c.in-Some.line.now c.in-Some.more.now
    c.in-Ok-Some.read.1.now c.in-Ok-Some.read.0 c.loop-last.invariant fewer c.in-Some.ensures.parts fits text sfen
    (c.is_before.ensures.0 c.if-not-is_before.false) c.in_ok-push.ensures.items

pub returns-in_err-end_of : goal.returns-in_err-end_of
returns-in_err-end_of c =
    let entries = c.loop-last.entries.items in
    let all = all_told c.args.digits.now (length entries) c.len.result (omega (arith, c.len.ensures, c.loop-last.entries.ok)) (omega (arith, c.loop-last.entries.ok))
    (c.is_decimal.ensures.0 c.loop-last-test.false) in
    entries_err (λ entries. entries.items) c.args.problem.now.position c.args.digits.now c.args.text.now c.from_residual-in_err-end_of.result c.in_err-end_of.field-0.0
    c.from_residual-in_err-end_of.ensures.0 c.from_residual-in_err-end_of.ensures.1
    (end_fault c.args.problem.now.position c.args.digits.now c.args.text.now entries c.loop-last.rest.now c.loop-last.last.now c.len-2.result c.in_err-end_of.field-0.0
    c.requires c.loop-last.invariant (omega (arith, c.len-2.ensures, c.loop-last.entries.ok)) all c.in_err-end_of.ensures)

pub returns : goal.returns
returns c =
    let entries = c.loop-last.entries.items in
    let all = all_told c.args.digits.now (length entries) c.len.result (omega (arith, c.len.ensures, c.loop-last.entries.ok)) (omega (arith, c.loop-last.entries.ok))
    (c.is_decimal.ensures.0 c.loop-last-test.false) in
    (c.loop-last.invariant.read.good, all, c.loop-last.invariant.read.so_far ∙ ap (λ (t : List ℕ). entries_text (bound_form c.args.problem.now.position) entries ++ t) c.in_ok-end_of.ensures)
