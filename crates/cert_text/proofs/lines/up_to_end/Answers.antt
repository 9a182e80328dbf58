use Rattle.std.proofs.Common.{List, ℕ, subst, sym, ◌∙◌}
use Rattle.std.proofs.lemmas.Bool.{false≢true}
use Rattle.cert_text.specs.UpToEnd.{IsUpToEnd}
use Rattle.cert_text.proofs.UpToEnd.{passed_none, passed_more, passed_end, front_taken}
use Rattle.cert_text.proofs.lines.up_to_end.Goals as goal

pub loop-line-init : goal.loop-line-init
loop-line-init c = passed_none c.args.text.now

pub loop-line-preserved : goal.loop-line-preserved
loop-line-preserved c =
    passed_more c.args.text.now c.loop-line.rest.now c.in-Some.line.now c.in-Some.more.now c.loop-line.invariant c.in-Some.ensures.parts c.in-Some.ensures.front
    (λ e. false≢true (sym c.if-is_end.false ∙ c.is_end.ensures.1 e))

pub returns-then-is_end-clause-ends : goal.returns-then-is_end-clause-ends
returns-then-is_end-clause-ends c =
    let own = passed_end c.args.text.now c.loop-line.rest.now c.in-Some.line.now c.in-Some.more.now c.loop-line.invariant c.in-Some.ensures.parts (c.is_end.ensures.0 c.if-is_end.true) in
    subst (λ (t : List ℕ). IsUpToEnd t c.in-Some.more.now) (sym (front_taken c.args.text.now own.0 c.in-Some.more.now own.1)) own.2
