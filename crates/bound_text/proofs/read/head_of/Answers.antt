use Rattle.std.proofs.Common.{◌∷◌, ◌++◌, [], subst, sym, ◌∙◌, append_assoc}
use Rattle.std.specs.Prelude.{codes}
use Rattle.std.proofs.lemmas.Bool.{false≢true}
use Rattle.std.proofs.lemmas.List.{append_cancel_left}
use Rattle.cert_text.specs.Reading.{Lacks}
use Rattle.cert_text.proofs.Offered.{not_lacks}
use Rattle.bound_text.specs.Reading.{IsNumber}
use Rattle.bound_text.proofs.Heads.{head_cut}
use Rattle.bound_text.proofs.read.head_of.Goals as goal

pub returns-in_default-clause-none : goal.returns-in_default-clause-none
returns-in_default-clause-none c = λ digits rest head.
    not_lacks 10 (codes "bound 1 " ++ digits) rest
    (subst (Lacks 10) (head.text ∙ append_assoc (codes "bound 1 " ++ digits) (10 ∷ []) rest) c.in_default.ensures.none)

pub returns-in_default-behind-clause-none : goal.returns-in_default-behind-clause-none
returns-in_default-behind-clause-none c = λ digits rest head.
    c.in_default-behind.ensures.none digits
    (head_cut c.args.text.now c.in-Some.first.now c.in-Some.rest.now digits rest c.in-Some.ensures.parts c.in-Some.ensures.front head).0

pub returns-then-not-is_number-clause-none : goal.returns-then-not-is_number-clause-none
returns-then-not-is_number-clause-none c = λ digits rest head.
    let first = (head_cut c.args.text.now c.in-Some.first.now c.in-Some.rest.now digits rest c.in-Some.ensures.parts c.in-Some.ensures.front head).0 in
    let same = append_cancel_left (codes "bound 1 ") c.in-Some-behind.digits.now digits (sym c.in-Some-behind.ensures.found ∙ first) in
    false≢true (sym c.if-not-is_number.true ∙ c.is_number.ensures.1 (subst IsNumber (sym same) head.is_number))
