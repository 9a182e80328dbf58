-- A line that is skipped only counts; the first other one is given; and a text that is read whole
-- has none.
use Rattle.std.proofs.Common.{◌≡◌, ◌∷◌, [], ◌+◌, ℕ, true, false, nat_lt, List, length, sym, ap, ap₂, ◌∙◌, arith}
use Rattle.std.specs.Str.Lines.{lines}
use Rattle.std.proofs.lemmas.Bool.{eqb-true}
use Rattle.problem_lines.specs.Lines.{NumberedLine, is_skipped, without_remark, problems_among}
use Rattle.problem_lines.specs.declared.line.TheConstants.{MOST_PROBLEM_BYTES}
use Rattle.problem_lines.proofs.Among.{problems_among-none, problems_among-skipped, problems_among-kept}
use Rattle.problem_lines.proofs.Cutting.{lines-empty}
use Rattle.problem_lines.proofs.lines.Lines.next.Goals as goal

pub returns-then-not-is_skipped : goal.returns-then-not-is_skipped
returns-then-not-is_skipped c =
    let first : ℕ = c.loop-self.self-inside.number in
    let whole : List ℕ = c.split_first.result.0.now in
    let others : List (List ℕ) = lines c.split_first.result.1.now in
    let kept : is_skipped (without_remark whole) ≡ false =
    ap is_skipped (sym c.split_remark.ensures.content) ∙ sym c.is_skipped.ensures ∙ c.if-not-is_skipped.true in
    let listed : List ℕ → List ℕ → List NumberedLine = λ content remark.
    record { number = first; content = content; remark = remark; is_too_long = nat_lt MOST_PROBLEM_BYTES (length whole) } ∷ problems_among (first + 1) others in
    sym c.self.view_is ∙ sym c.loop-self.invariant.same ∙ ap (problems_among first) c.split_first.ensures.lines
    ∙ problems_among-kept first whole others kept ∙ ap₂ listed (sym c.split_remark.ensures.content) (sym c.split_remark.ensures.remark)

pub loop-self-preserved : goal.loop-self-preserved
loop-self-preserved c = record {
  same =
      let first : ℕ = c.loop-self.self-inside.number in
      let whole : List ℕ = c.split_first.result.0.now in
      let others : List (List ℕ) = lines c.split_first.result.1.now in
      let skipped : is_skipped (without_remark whole) ≡ true =
      ap is_skipped (sym c.split_remark.ensures.content) ∙ sym c.is_skipped.ensures ∙ c.if-not-is_skipped.false in
      sym (problems_among-skipped first whole others skipped) ∙ ap (problems_among first) (sym c.split_first.ensures.lines) ∙ c.loop-self.invariant.same;
  few = omega (arith, c.loop-self.invariant.few, c.split_first.ensures.shorter);
}

pub returns : goal.returns
returns c =
    let first : ℕ = c.loop-self.self-inside.number in
    let rest : List ℕ = c.loop-self.self-inside.rest.now in
    let none : problems_among first (lines rest) ≡ [] =
    ap (problems_among first) (lines-empty rest (eqb-true (length rest) 0 (sym c.is_empty.ensures ∙ c.loop-self-test.false))) ∙ problems_among-none first in
    (sym c.self.view_is ∙ sym c.loop-self.invariant.same ∙ none, none)
