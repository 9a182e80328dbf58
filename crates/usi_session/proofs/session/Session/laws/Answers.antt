-- What a problem and settings keep.
use Rattle.std.proofs.Common.{Option, Some, None, ap, subst}
use Rattle.std.specs.Prelude.{option_map, IfSome}
use Rattle.board_core.specs.Board.{Board}
use Rattle.shogi_rules.specs.Tsume.{IsProblem}
use Rattle.shogi_rules.specs.declared.problem.Problem.{Problem}
use Rattle.search_limits.specs.Sizes.{AreSound}
use Rattle.usi_session.specs.Options.{OptionsView, numbers_by}
use Rattle.usi_session.specs.Sessions.{SessionView}
use Rattle.usi_session.proofs.Sound.{options-sound}
use Rattle.usi_session.proofs.session.Session.laws.Goals as goal

accepted : (problem : Option Problem) → IfSome (option_map (λ p. p.position) problem) IsProblem
accepted None = tt
accepted (Some problem) = problem.accepted

pub returns-clause-problem : goal.returns-clause-problem
returns-clause-problem c =
    subst (λ (p : Option Board). IfSome p IsProblem) (ap (λ (s : SessionView). s.problem) c.self.view_is) (accepted c.self.inside.problem)

pub returns-clause-options : goal.returns-clause-options
returns-clause-options c =
    subst (λ (o : OptionsView). AreSound (numbers_by o)) (ap (λ (s : SessionView). s.options) c.self.view_is) (options-sound c.power_laws.ensures c.self.inside.options)
