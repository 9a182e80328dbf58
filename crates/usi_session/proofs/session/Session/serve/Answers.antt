-- What is said at a command, whatever memory there is.
use Rattle.std.proofs.Common.{◌≡◌, sym, ap, subst}
use Rattle.usi_session.specs.Commands.{CommandView}
use Rattle.usi_session.specs.Sessions.{SessionView, Says, mate_act}
use Rattle.usi_session.specs.Texts.{names_text, ready_text, bad_option_text, other_go_text}
use Rattle.usi_session.specs.Reading.{command_seen, DoesSome}
use Rattle.usi_session.proofs.Somes.{on-err, only-some}
use Rattle.usi_session.proofs.session.Session.serve.Goals as goal

at : (before : SessionView) (command seen : CommandView) → command ≡ seen → DoesSome before seen → DoesSome before command
at before command seen e some = subst (DoesSome before) (sym e) some

pub returns-in_err-names-in-Usi-clause-some : goal.returns-in_err-names-in-Usi-clause-some
returns-in_err-names-in-Usi-clause-some c =
    on-err c.from_residual.result (at c.args.self.now _ _ (ap command_seen c.in-Usi.is) (only-some (Says names_text) c.args.self.now))

pub returns-in_err-line-in-IsReady-clause-some : goal.returns-in_err-line-in-IsReady-clause-some
returns-in_err-line-in-IsReady-clause-some c =
    on-err c.from_residual-in_err-line-in-IsReady.result (at c.args.self.now _ _ (ap command_seen c.in-IsReady.is) (only-some (Says ready_text) c.args.self.now))

pub returns-in_err-line-in-BadOption-clause-some :
    goal.returns-in_err-line-in-BadOption-clause-some
returns-in_err-line-in-BadOption-clause-some c =
    on-err c.from_residual-in_err-line-in-BadOption.result (at c.args.self.now _ _ (ap command_seen c.in-BadOption.is) (only-some (Says bad_option_text) c.args.self.now))

pub returns-in_err-line-in-OtherGo-clause-some : goal.returns-in_err-line-in-OtherGo-clause-some
returns-in_err-line-in-OtherGo-clause-some c =
    on-err c.from_residual-in_err-line-in-OtherGo.result (at c.args.self.now _ _ (ap command_seen c.in-OtherGo.is) (only-some (Says other_go_text) c.args.self.now))

pub returns-in-GoMate-clause-some : goal.returns-in-GoMate-clause-some
returns-in-GoMate-clause-some c =
    on-err c.mate.result (at c.args.self.now _ _ (ap command_seen c.in-GoMate.is)
    (only-some (mate_act c.args.self.now.problem c.args.self.now.options c.in-GoMate.millis) c.args.self.now))
