use Rattle.std.proofs.Common.{◌∷◌, ◌++◌, [], List, ℕ, ap, subst, sym, ◌∙◌, append_assoc}
use Rattle.std.specs.Fmt.{decimal}
use Rattle.std.proofs.lemmas.List.{append_cancel_left}
use Rattle.cert_text.specs.Reading.{Lacks}
use Rattle.cert_text.proofs.Offered.{not_lacks, first_line_is, as_line}
use Rattle.shortest_text.proofs.Parts.{number_lacks}
use Rattle.shortest_text.proofs.lines.numbered_line.Goals as goal

pub returns-in_default-clause-none : goal.returns-in_default-clause-none
returns-in_default-clause-none c = λ rank rest e.
    not_lacks 10 (c.args.words.now ++ decimal rank.number) rest
    (subst (Lacks 10) (e ∙ append_assoc (c.args.words.now ++ decimal rank.number) (10 ∷ []) rest) c.in_default.ensures.none)

pub returns-in_default-behind-clause-none : goal.returns-in_default-behind-clause-none
returns-in_default-behind-clause-none c = λ rank rest e.
    c.in_default-behind.ensures.none (decimal rank.number)
    (first_line_is c.args.text.now c.in-Some.first.now c.in-Some.rest.now (c.args.words.now ++ decimal rank.number) rest c.in-Some.ensures.parts c.in-Some.ensures.front
    (number_lacks c.args.words.now rank c.requires) e).0

pub returns-in_default-rank_of_text-clause-none : goal.returns-in_default-rank_of_text-clause-none
returns-in_default-rank_of_text-clause-none c = λ rank rest e.
    let first = (first_line_is c.args.text.now c.in-Some.first.now c.in-Some.rest.now (c.args.words.now ++ decimal rank.number) rest c.in-Some.ensures.parts c.in-Some.ensures.front
    (number_lacks c.args.words.now rank c.requires) e).0 in
    c.in_default-rank_of_text.ensures.none rank (append_cancel_left c.args.words.now c.in-Some-behind.digits.now (decimal rank.number) (sym c.in-Some-behind.ensures.found ∙ first))

pub returns-clause-found : goal.returns-clause-found
returns-clause-found c =
    as_line c.args.text.now c.in-Some.first.now c.in-Some.rest.now (c.args.words.now ++ decimal c.in-Some-rank_of_text.rank.number) c.in-Some.ensures.parts
    (c.in-Some-behind.ensures.found ∙ ap (λ (t : List ℕ). c.args.words.now ++ t) c.in-Some-rank_of_text.ensures.text)
