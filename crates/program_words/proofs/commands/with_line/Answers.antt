use Rattle.std.proofs.Common.{◌∙◌, ap}
use Rattle.std.proofs.lemmas.Result.{IfOk-weaker}
use Rattle.clap.specs.Words.{App, app_of, with_subcommand}
use Rattle.program_words.proofs.commands.with_line.Goals as goal

pub returns : goal.returns
returns g c =
    IfOk-weaker c.subcommand.result _ _
    (λ r adds. adds.shape c.in_ok-added.ensures.local
    ∙ ap (λ (a : App). with_subcommand (app_of c.args.line) a.top) c.in_ok-added.ensures.app) c.subcommand.ensures
