use Rattle.std.proofs.Common.{◌++◌, ◌∷◌, subst}
use Rattle.std.specs.Prelude.{codes}
use Rattle.cert_text.specs.Text.{title_text}
use Rattle.cert_text.specs.Reading.{Lacks}
use Rattle.cert_text.proofs.Cuts.{not_lacks}
use Rattle.cert_text.proofs.Heads.{headed_cut, problem_cut}
use Rattle.cert_text.proofs.head.bare_head_of.Goals as goal

pub returns-in_default-clause-none : goal.returns-in_default-clause-none
returns-in_default-clause-none c = λ title count sfen rest n lack e.
    not_lacks 10 (title_text title count) (codes "problem " ++ (sfen ++ 10 ∷ rest)) (subst (Lacks 10) e c.in_default.ensures.none)

pub returns-in_default-title_of_line-clause-none : goal.returns-in_default-title_of_line-clause-none
returns-in_default-title_of_line-clause-none c = λ title count sfen rest n lack e.
    c.in_default-title_of_line.ensures.none title count n (headed_cut c.args.text.now c.in-Some.first.now c.in-Some.more.now title count sfen rest c.in-Some.ensures.parts c.in-Some.ensures.front n e).0

pub returns-in_default-cut-clause-none : goal.returns-in_default-cut-clause-none
returns-in_default-cut-clause-none c = λ title count sfen rest n lack e.
    not_lacks 10 (codes "problem " ++ sfen) rest (subst (Lacks 10) (headed_cut c.args.text.now c.in-Some.first.now c.in-Some.more.now title count sfen rest c.in-Some.ensures.parts c.in-Some.ensures.front n e).1 c.in_default-cut.ensures.none)

pub returns-in_default-behind-clause-none : goal.returns-in_default-behind-clause-none
returns-in_default-behind-clause-none c = λ title count sfen rest n lack e.
    let more = (headed_cut c.args.text.now c.in-Some.first.now c.in-Some.more.now title count sfen rest c.in-Some.ensures.parts c.in-Some.ensures.front n e).1 in
    c.in_default-behind.ensures.none sfen (problem_cut c.in-Some.more.now c.in-Some-cut.second.now c.in-Some-cut.rest.now sfen rest c.in-Some-cut.ensures.parts c.in-Some-cut.ensures.front lack more).0
