use Rattle.std.proofs.Common.{◌≡◌, Result, Ok, Err}
use Rattle.board_core.specs.Board.{Board}
use Rattle.sfen_text.specs.declared.fault.TextFault.{TextFault}
use Rattle.shortest_text.proofs.problem.problem_of_text.Goals as goal

no_ok : (r : Result Board TextFault) (p : Board) (fault : TextFault) → r ≡ Ok p → r ≡ Err fault → ⊥
no_ok r p fault a b = cc

one_ok : (r : Result Board TextFault) (p q : Board) → r ≡ Ok p → r ≡ Ok q → p ≡ q
one_ok r p q a b = cc

pub returns-in_default-clause-none : goal.returns-in_default-clause-none
returns-in_default-clause-none c = λ p kept problem e. no_ok c.read_sfen.result p c.in_default.field-0 (c.read_sfen.ensures.again p kept problem.has_king e) c.in_default.is
