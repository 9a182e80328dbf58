use Rattle.std.proofs.Common.{◌≡◌, ◌≤◌, ◌+◌, ℕ, List, true, false, length, take, get_or, sym, ap, subst, ◌∙◌, arith}
use Rattle.std.specs.Prelude.{not}
use Rattle.std.specs.List.{prefix_len}
use Rattle.std.specs.Str.Lines.{lines}
use Rattle.std.proofs.lemmas.Iterator.Consumers.{YieldsList-turn, YieldsList-end}
use Rattle.std.proofs.lemmas.Iterator.Splits.{YieldsList-from_lines}
use Rattle.std.proofs.lemmas.List.{length_push, length-take}
use Rattle.kif_text.specs.Lines.{goes_on, header_lines}
use Rattle.std.proofs.lemmas.List.Sums.{prefix_len-le-length}
use Rattle.kif_text.proofs.Many.{prefix_more, prefix_stop, prefix_all, lines_few}
use Rattle.kif_text.proofs.header.header_length.Goals as goal

pub returns-then-begins-clause-lines : goal.returns-then-begins-clause-lines
unfolding header_lines lib.Utf8.encode
returns-then-begins-clause-lines c =
    let all = lines c.args.text.now in
    let n = length c.loop-line.yielded in
    let t = YieldsList-turn (YieldsList-from_lines c.args.text.now cc) c.loop-line.yielded _ c.loop-line.yielded_by _ _ c.in-Some.line c.in-Some.is c.next.ensures.steps in
    let stops : goes_on (get_or all n c.in-Some.line.now) ≡ false = ap goes_on (sym t.1) ∙ ap not (sym c.begins.ensures ∙ c.if-begins.true) in
    let same : prefix_len goes_on all ≡ n = prefix_stop goes_on all n c.in-Some.line.now c.loop-line.invariant.3 t.0 stops in
    let long = length-take n all in
    let lt = t.0 in
    c.loop-line.invariant.2 ∙ sym (subst (λ (k : ℕ). length (take k all) ≡ n) (sym same) (omega arith))

pub loop-line-preserved : goal.loop-line-preserved
unfolding header_lines lib.Utf8.encode
loop-line-preserved c =
    let all = lines c.args.text.now in
    let n = length c.loop-line.yielded in
    let t = YieldsList-turn (YieldsList-from_lines c.args.text.now cc) c.loop-line.yielded _ c.loop-line.yielded_by _ _ c.in-Some.line c.in-Some.is c.next.ensures.steps in
    let more = length_push c.loop-line.yielded c.in-Some.line in
    let goes : goes_on (get_or all n c.in-Some.line.now) ≡ true = ap goes_on (sym t.1) ∙ ap not (sym c.begins.ensures ∙ c.if-begins.false) in
    let few : n + 1 ≤ prefix_len goes_on all = prefix_more goes_on all n c.in-Some.line.now c.loop-line.invariant.3 t.0 goes in (
      c.loop-line.invariant.0,
      c.loop-line.invariant.1,
      ap (λ k. k + 1) c.loop-line.invariant.2 ∙ sym more,
      omega (arith, more, few),
    )

pub returns-clause-lines : goal.returns-clause-lines
unfolding header_lines
returns-clause-lines c =
    let all = lines c.args.text.now in
    let n = length c.loop-line.yielded in
    let t = YieldsList-end (YieldsList-from_lines c.args.text.now cc) c.loop-line.yielded _ c.loop-line.yielded_by _ _ c.in-None.is c.next.ensures.steps in
    let all_are_n = t.1 in
    let long = length-take n all in
    let taken : length (take n all) ≡ n = omega arith in
    c.loop-line.invariant.2 ∙ sym taken ∙ ap length (sym (prefix_all goes_on all n c.loop-line.invariant.3 t.1))

pub returns-then-begins-clause-few : goal.returns-then-begins-clause-few
returns-then-begins-clause-few c =
    let read = c.loop-line.invariant.2 in
    let within = c.loop-line.invariant.3 in
    omega (arith, read, within, prefix_len-le-length goes_on (lines c.args.text.now), lines_few c.args.text.now)

pub returns-clause-few : goal.returns-clause-few
returns-clause-few c =
    let read = c.loop-line.invariant.2 in
    let within = c.loop-line.invariant.3 in
    omega (arith, read, within, prefix_len-le-length goes_on (lines c.args.text.now), lines_few c.args.text.now)
