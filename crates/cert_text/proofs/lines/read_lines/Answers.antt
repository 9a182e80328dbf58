use Rattle.std.proofs.Common.{◌≡◌, [], List, ℕ, subst, sym, ◌∙◌}
use Rattle.std.specs.Ordering.{nat_cmp}
use Rattle.std.specs.Cmp.Lexicographic.{slice_cmp}
use Rattle.std.specs.declared.cmp.Ordering.TheVariants.{Less}
use Rattle.std.proofs.lemmas.Bool.{false≢true}
use Rattle.cert_text.specs.Scan.{HasRead}
use Rattle.cert_text.proofs.Bodies.{read_none, read_on, stops_bad, stops_falling, stops_end, stops_open}
use Rattle.cert_text.proofs.lines.read_lines.Goals as goal

pub loop-line-init : goal.loop-line-init
loop-line-init g c =
    subst (λ entries. HasRead (g.E.Entry.form c.args.problem.now.position) c.args.text.now entries c.args.text.now []) (sym c.new-entries.ensures.items)
    (read_none (g.E.Entry.form c.args.problem.now.position) c.args.text.now c.sfen_laws.ensures.bytes)

pub returns-in_default-2 : goal.returns-in_default-2
returns-in_default-2 g c =
    let none = rw c.in_default-2.is at c.in_ok-entry.ensures.none in
    stops_bad (g.E.Entry.form c.args.problem.now.position) c.args.text.now c.loop-line.entries.items c.loop-line.rest.now c.loop-line.last.now c.in-Some.line.now c.in-Some.more.now
    c.loop-line.invariant c.in-Some.ensures.parts c.in-Some.ensures.front (λ e. false≢true (sym c.if-is_end.false ∙ c.is_end.ensures.1 e)) none

pub returns-then-not-is_before : goal.returns-then-not-is_before
returns-then-not-is_before g c =
    let fits = rw c.in-Some-2.is at c.in_ok-entry.ensures.fits in
    let text = rw c.in-Some-2.is at c.in_ok-entry.ensures.text in
    let sfen = rw c.in-Some-2.is at c.in_ok-entry.ensures.sfen in
    stops_falling (g.E.Entry.form c.args.problem.now.position) c.args.text.now c.loop-line.entries.items c.loop-line.rest.now c.loop-line.last.now c.in-Some.line.now c.in-Some.more.now c.in-Some-2.entry
    c.loop-line.invariant c.in-Some.ensures.parts fits text
    (λ before. false≢true (sym c.if-not-is_before.true ∙ c.is_before.ensures.1 (subst (λ (s : List ℕ). slice_cmp nat_cmp c.loop-line.last.now s ≡ Less) (sym sfen) before)))

pub loop-line-preserved : goal.loop-line-preserved
loop-line-preserved g c =
    let fits = rw c.in-Some-2.is at c.in_ok-entry.ensures.fits in
    let text = rw c.in-Some-2.is at c.in_ok-entry.ensures.text in
    let sfen = rw c.in-Some-2.is at c.in_ok-entry.ensures.sfen in
    read_on (g.E.Entry.form c.args.problem.now.position) c.args.text.now c.loop-line.entries.items _ c.loop-line.rest.now c.loop-line.last.now c.in-Some.line.now c.in-Some.more.now c.in-Some-2.sfen.now c.in-Some-2.entry
    c.loop-line.invariant c.in-Some.ensures.parts fits text sfen (c.is_before.ensures.0 c.if-not-is_before.false) c.in_ok-push.ensures.items

pub returns-then-is_end : goal.returns-then-is_end
returns-then-is_end g c =
    stops_end (g.E.Entry.form c.args.problem.now.position) c.args.text.now c.loop-line.entries.items c.loop-line.rest.now c.loop-line.last.now c.in-Some.line.now c.in-Some.more.now c.stop_at_end-stop.result
    c.loop-line.invariant c.in-Some.ensures.parts (c.is_end.ensures.0 c.if-is_end.true) c.stop_at_end-stop.ensures

pub returns : goal.returns
returns g c =
    stops_open (g.E.Entry.form c.args.problem.now.position) c.args.text.now c.loop-line.entries.items c.loop-line.rest.now c.loop-line.last.now c.loop-line.invariant c.in_default.ensures.none
