use Rattle.std.proofs.Common.{◌≡◌, ◌≤◌, ◌+◌, ◌∷◌, ◌++◌, [], ℕ, List, true, false, length, take, get_or, sym, ap, subst, ◌∙◌, arith, rules}
use Rattle.std.specs.Prelude.{not}
use Rattle.std.specs.List.{prefix_len}
use Rattle.std.specs.Str.Lines.{lines}
use Rattle.std.proofs.lemmas.Iterator.Consumers.{YieldsList-turn, YieldsList-end}
use Rattle.std.proofs.lemmas.Iterator.Splits.{YieldsList-from_lines}
use Rattle.std.proofs.lemmas.List.{length_push, take_more, length-take}
use Rattle.kif_text.specs.First.{HasFirst}
use Rattle.kif_text.specs.Header.{HasLineFault}
use Rattle.kif_text.specs.Lines.{goes_on, header_lines}
use Rattle.kif_text.specs.Steps.{IsReadFrom}
use Rattle.kif_text.proofs.Many.{prefix_more, prefix_stop, prefix_all, fault_first}
use Rattle.kif_text.proofs.header.diagram_of.Goals as goal

pub returns-then-begins : goal.returns-then-begins
unfolding header_lines lib.Utf8.encode
returns-then-begins c =
    let all = lines c.args.text.now in
    let n = length c.loop-line.yielded in
    let t = YieldsList-turn (YieldsList-from_lines c.args.text.now cc) c.loop-line.yielded _ c.loop-line.yielded_by _ _ c.in-Some.line c.in-Some.is c.next.ensures.steps in
    let stops : goes_on (get_or all n c.in-Some.line.now) ≡ false = ap goes_on (sym t.1) ∙ ap not (sym c.begins.ensures ∙ c.if-begins.true) in
    let same : prefix_len goes_on all ≡ n = prefix_stop goes_on all n c.in-Some.line.now c.loop-line.invariant.3 t.0 stops in
    subst (λ (k : ℕ). IsReadFrom (take k all) c.loop-line.diagram) (sym same) c.loop-line.invariant.4

pub loop-line-preserved : goal.loop-line-preserved
unfolding header_lines lib.Utf8.encode
loop-line-preserved c =
    let all = lines c.args.text.now in
    let n = length c.loop-line.yielded in
    let t = YieldsList-turn (YieldsList-from_lines c.args.text.now cc) c.loop-line.yielded _ c.loop-line.yielded_by _ _ c.in-Some.line c.in-Some.is c.next.ensures.steps in
    let more = length_push c.loop-line.yielded c.in-Some.line in
    let goes : goes_on (get_or all n c.in-Some.line.now) ≡ true = ap goes_on (sym t.1) ∙ ap not (sym c.begins.ensures ∙ c.if-begins.false) in
    let few : n + 1 ≤ prefix_len goes_on all = prefix_more goes_on all n c.in-Some.line.now c.loop-line.invariant.3 t.0 goes in
    let long : c.loop-line.number + 1 ≡ length (take n all) + 1 = let l = length-take n all in let lt = t.0 in let k = c.loop-line.invariant.2 in omega arith in
    let read : IsReadFrom (take n all ++ c.in-Some.line.now ∷ []) c.take_line.new.self = c.in_ok-take_line.ensures (take n all) c.loop-line.invariant.4 long in
    let lines_are : take n all ++ c.in-Some.line.now ∷ [] ≡ take (length (c.loop-line.yielded ++ c.in-Some.line ∷ [])) all
    = ap (λ (x : List ℕ). take n all ++ x ∷ []) t.1 ∙ sym (take_more all n c.in-Some.line.now t.0) ∙ ap (λ k. take k all) (sym more) in (
      c.loop-line.invariant.0,
      c.loop-line.invariant.1,
      ap (λ k. k + 1) c.loop-line.invariant.2 ∙ sym more,
      omega (arith, more, few),
      subst (λ (l : List (List ℕ)). IsReadFrom l c.take_line.new.self) lines_are read,
    )

pub returns-in_err-take_line : goal.returns-in_err-take_line
unfolding header_lines lib.Utf8.encode
returns-in_err-take_line c =
    let all = lines c.args.text.now in
    let n = length c.loop-line.yielded in
    let t = YieldsList-turn (YieldsList-from_lines c.args.text.now cc) c.loop-line.yielded _ c.loop-line.yielded_by _ _ c.in-Some.line c.in-Some.is c.next.ensures.steps in
    let goes : goes_on c.in-Some.line.now ≡ true = ap not (sym c.begins.ensures ∙ c.if-begins.false) in
    let long : c.loop-line.number + 1 ≡ length (take n all) + 1 = let l = length-take n all in let lt = t.0 in let k = c.loop-line.invariant.2 in omega arith in
    let there : HasFirst HasLineFault (header_lines c.args.text.now) c.in_err-take_line.field-0.0
    = fault_first goes_on HasLineFault all n c.in-Some.line.now c.in_err-take_line.field-0.0 c.loop-line.invariant.3 t.0 t.1 goes c.loop-line.invariant.4.well (c.in_err-take_line.ensures (take n all) c.loop-line.invariant.4 long) in
    search (rules, there)

pub returns : goal.returns
unfolding header_lines
returns c =
    let all = lines c.args.text.now in
    let n = length c.loop-line.yielded in
    let t = YieldsList-end (YieldsList-from_lines c.args.text.now cc) c.loop-line.yielded _ c.loop-line.yielded_by _ _ c.in-None.is c.next.ensures.steps in
    subst (λ (l : List (List ℕ)). IsReadFrom l c.loop-line.diagram) (sym (prefix_all goes_on all n c.loop-line.invariant.3 t.1)) c.loop-line.invariant.4
