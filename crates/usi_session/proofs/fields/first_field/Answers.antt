-- The first field and what stands behind it.
use Rattle.std.proofs.Common.{◌≡◌, ◌≢◌, [], sym, ap, ◌∙◌, length, arith}
use Rattle.std.proofs.lemmas.Grind.{common_steps}
use Rattle.std.proofs.lemmas.List.{nil_from_length}
use Rattle.usi_session.specs.Fields.{first_field}
use Rattle.usi_session.proofs.Parts.{firsts, first-cut, first-shorter}
use Rattle.usi_session.proofs.fields.first_field.Goals as goal

pub returns-then-is_empty-clause-none : goal.returns-then-is_empty-clause-none
returns-then-is_empty-clause-none c =
    let none : c.cut.result.0.now ≡ [] = nil_from_length c.cut.result.0.now (grind (arith, common_steps)) in
    (firsts c.args.text.now).none (sym c.cut.ensures.field ∙ none)

-- The field has a byte.
some : (c : goal.Else-is_empty) → first_field c.args.text.now ≢ []
some c none = let e = ap length (c.cut.ensures.field ∙ none) in grind (arith, common_steps)

pub returns-clause-fields : goal.returns-clause-fields
returns-clause-fields c = rw (c.cut.ensures.field, c.cut.ensures.behind) ((firsts c.args.text.now).some (some c))

pub returns-clause-parts : goal.returns-clause-parts
returns-clause-parts c = rw (c.cut.ensures.field, c.cut.ensures.behind) (first-cut c.args.text.now (some c))

pub returns-clause-shorter : goal.returns-clause-shorter
returns-clause-shorter c = rw c.cut.ensures.behind (first-shorter c.args.text.now (some c))
