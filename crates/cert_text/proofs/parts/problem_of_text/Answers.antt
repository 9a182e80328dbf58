use Rattle.std.proofs.Common.{◌≡◌, subst, sym, ap, refl, ◌∙◌, Result, Ok, Err}
use Rattle.std.proofs.lemmas.Bool.{false≢true}
use Rattle.board_core.specs.Board.{Board}
use Rattle.sfen_text.specs.declared.fault.TextFault.{TextFault}
use Rattle.sfen_text.specs.Spelling.{sfen_of}
use Rattle.shogi_rules.specs.Tsume.{IsProblem}
use Rattle.cert_text.proofs.parts.problem_of_text.Goals as goal

no_ok : (r : Result Board TextFault) (p : Board) (fault : TextFault) → r ≡ Ok p → r ≡ Err fault → ⊥
no_ok r p fault a b = cc

one_ok : (r : Result Board TextFault) (p q : Board) → r ≡ Ok p → r ≡ Ok q → p ≡ q
one_ok r p q a b = cc

pub returns-in_default-clause-none : goal.returns-in_default-clause-none
returns-in_default-clause-none c = λ p kept problem e. no_ok c.read_sfen.result p c.in_default.field-0 (c.read_sfen.ensures.again p kept problem.has_king e) c.in_default.is

pub returns-then-not-branch-clause-none : goal.returns-then-not-branch-clause-none
returns-then-not-branch-clause-none c = λ p kept problem e.
    let same = one_ok c.read_sfen.result c.in-Ok.position p c.in-Ok.is (c.read_sfen.ensures.again p kept problem.has_king e) in
    false≢true (sym c.if-not-branch.true ∙ c.in_ok-is_spelled.ensures.1 (e ∙ ap sfen_of (sym same)))

pub returns-in-Err-clause-none : goal.returns-in-Err-clause-none
returns-in-Err-clause-none c = λ p kept problem e.
    let same = one_ok c.read_sfen.result c.in-Ok.position p c.in-Ok.is (c.read_sfen.ensures.again p kept problem.has_king e) in
    (subst IsProblem (sym same) problem).quiet (c.in-Err.ensures.err.0 refl)
