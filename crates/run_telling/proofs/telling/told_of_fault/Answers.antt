use Rattle.std.proofs.Common.{◌∙◌, subst, sym}
use Rattle.std.proofs.lemmas.Result.{IfOk-weaker}
use Rattle.std.specs.Result.{IfOk}
use Rattle.run_telling.specs.Telling.{BeginsAsTold, fault_telling}
use Rattle.run_telling.proofs.Told.{told_so}
use Rattle.run_telling.proofs.telling.told_of_fault.Goals as goal

pub returns-in_ok-words-in-Text : goal.returns-in_ok-words-in-Text
returns-in_ok-words-in-Text g c =
    subst (λ fault. IfOk c.told_line.result (λ text. BeginsAsTold (fault_telling g.F.Explained.text_of g.F.Explained.MayFollow fault) text.items)) (sym c.in-Text.is)
    (IfOk-weaker c.told_line.result _ _ (λ text told.
    told_so g.F.Explained.text_of g.F.Explained.MayFollow c.in-Text.fault c.as_str.result.now c.trouble.result text.items
    (c.as_str.ensures.value ∙ c.in_ok-words-in-Text.ensures) c.trouble.ensures.nothing c.trouble.ensures.harmless told) c.told_line.ensures)
