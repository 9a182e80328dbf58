use Rattle.std.proofs.Common.{◌∷◌, ◌++◌, [], subst, sym, ◌∙◌, append_assoc}
use Rattle.std.specs.Prelude.{codes}
use Rattle.std.specs.Fmt.{decimal}
use Rattle.std.proofs.lemmas.List.{append_cancel_left}
use Rattle.cert_text.specs.Reading.{Lacks}
use Rattle.cert_text.proofs.Offered.{not_lacks, first_line_is}
use Rattle.library_text.proofs.Lines.{first_lacks}
use Rattle.library_text.proofs.first_line.begun.Goals as goal

pub returns-in_default-clause-none : goal.returns-in_default-clause-none
returns-in_default-clause-none c = λ count rest begins.
    not_lacks 10 (codes "library 1 " ++ decimal count) rest
    (subst (Lacks 10) (begins.text ∙ append_assoc (codes "library 1 " ++ decimal count) (10 ∷ []) rest) c.in_default.ensures.none)

pub returns-in_default-behind-clause-none : goal.returns-in_default-behind-clause-none
returns-in_default-behind-clause-none c = λ count rest begins.
    c.in_default-behind.ensures.none (decimal count)
    (first_line_is c.args.text.now c.in-Some.first.now c.in-Some.rest.now (codes "library 1 " ++ decimal count) rest c.in-Some.ensures.parts c.in-Some.ensures.front
    (first_lacks count begins.few) begins.text).0

pub returns-in_default-count_of-clause-none : goal.returns-in_default-count_of-clause-none
returns-in_default-count_of-clause-none c = λ count rest begins.
    let first = (first_line_is c.args.text.now c.in-Some.first.now c.in-Some.rest.now (codes "library 1 " ++ decimal count) rest c.in-Some.ensures.parts c.in-Some.ensures.front
    (first_lacks count begins.few) begins.text).0 in
    c.in_default-count_of.ensures.none count begins.few
    (append_cancel_left (codes "library 1 ") c.in-Some-behind.digits.now (decimal count) (sym c.in-Some-behind.ensures.found ∙ first))
