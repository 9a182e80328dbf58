-- No line is left, so nothing more is true of those that are.
use Rattle.std.proofs.Common.{[], List, map, subst, sym, ◌∙◌}
use Rattle.std.proofs.lemmas.List.{append-nil}
use Rattle.collection_text.specs.Told.{ToldView, told_lines}
use Rattle.cmd_certificates.specs.Answer.{AreJudged}
use Rattle.cmd_certificates.specs.Judged.{JudgedView, seen}
use Rattle.cmd_certificates.proofs.judging.judged.Goals as goal

pub returns : goal.returns
returns g c =
    let none : AreJudged c.loop-line.lines [] = subst (λ (lines : List ToldView). AreJudged lines []) (sym c.in_default.ensures.0) tt in
    subst (λ (all : List JudgedView). AreJudged (told_lines c.args.input.now) all) (append-nil (map seen c.loop-line.judged.items) ∙ sym c.new.ensures)
    (c.loop-line.invariant [] none)
