-- A refused option is said to be one, whatever memory there is.
use Rattle.std.proofs.Common.{ap, subst}
use Rattle.search_limits.specs.Sizes.{AreSound}
use Rattle.usi_session.specs.Options.{OptionsView, numbers_by, with_option}
use Rattle.usi_session.specs.Sessions.{SessionView}
use Rattle.usi_session.proofs.Somes.{on-err, option-some}
use Rattle.usi_session.proofs.session.Session.set_option.Goals as goal

pub returns-in_err-line-in-None-clause-some : goal.returns-in_err-line-in-None-clause-some
returns-in_err-line-in-None-clause-some c =
    let unsound = subst (λ (o : OptionsView). AreSound (numbers_by (with_option c.args.setting c.args.number o)) → ⊥)
    (ap (λ (s : SessionView). s.options) c.self.view_is) (λ sound. absurd (let yes = c.in-None.ensures.sound.1 sound in cc)) in
    on-err c.from_residual.result (option-some c.args.self.now c.args.setting c.args.number unsound)
