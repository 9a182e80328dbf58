use Rattle.std.proofs.Common.{◌∷◌, ◌++◌, [], subst, sym, ◌∙◌, append_assoc, Err}
use Rattle.std.specs.Prelude.{codes}
use Rattle.sfen_text.specs.Spelling.{sfen_of}
use Rattle.cert_text.specs.Reading.{Lacks}
use Rattle.cert_text.proofs.Offered.{not_lacks, first_line_is, as_line}
use Rattle.shortest_text.specs.declared.fault.ShortestEnd.{ShortestEnd}
use Rattle.shortest_text.specs.Text.{none_line}
use Rattle.shortest_text.specs.Reading.{IsShortestOutcome}
use Rattle.shortest_text.proofs.Parts.{problem_lacks}
use Rattle.shortest_text.proofs.Outcomes.{no_problem, bound_ends_none}
use Rattle.shortest_text.proofs.read.none_of.Goals as goal

pub returns-in_default : goal.returns-in_default
returns-in_default c = no_problem c.args.limit c.args.text.now (λ p rest kept is e.
    not_lacks 10 (codes "problem " ++ sfen_of p) rest
    (subst (Lacks 10) (e ∙ append_assoc (codes "problem " ++ sfen_of p) (10 ∷ []) rest) c.in_default.ensures.none))

pub returns-in_default-2 : goal.returns-in_default-2
returns-in_default-2 c =
    let none = rw c.in_default-2.is at c.in_ok-problem.ensures.none in
    no_problem c.args.limit c.args.text.now (λ p rest kept is e.
    none p kept is
    (first_line_is c.args.text.now c.in-Some.second.now c.in-Some.rest.now (codes "problem " ++ sfen_of p) rest c.in-Some.ensures.parts c.in-Some.ensures.front
    (problem_lacks c.sfen_laws.ensures.lines p kept) e).0)

pub returns-in-Err : goal.returns-in-Err
returns-in-Err c =
    let found = rw c.in-Some-2.is at c.in_ok-problem.ensures.found in
    let kept = rw c.in-Some-2.is at c.in_ok-problem.ensures.kept in
    let at = as_line c.args.text.now c.in-Some.second.now c.in-Some.rest.now (codes "problem " ++ sfen_of c.in-Some-2.problem.position) c.in-Some.ensures.parts found in
    subst (λ (e : ShortestEnd). IsShortestOutcome (none_line c.args.limit ++ c.args.text.now) (Err e)) (sym c.from.ensures)
    (bound_ends_none c.args.limit c.args.text.now c.in-Some-2.problem.position c.in-Some.rest.now kept c.in-Some-2.problem.accepted at c.in-Err.end c.in-Err.ensures.exact)
