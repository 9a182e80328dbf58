-- What a builder's settings change of the command line.
use Rattle.std.proofs.Common.{◌≡◌, ◌∙◌, ◌||◌, ap, ap₂, Some, Bool, true, false, List, ℕ}
use Rattle.std.specs.Borrow.{Bor}
use Rattle.clap.specs.Simple.{App, app_of, app_of_fields}
use Rattle.clap.specs.declared.builder.command.Command.{Command}
use Rattle.clap.specs.declared.builder.command.Command.TheViews.{out-Command}

-- the text about a command says nothing of its words
pub same_app : (a b : Command) (text : Bor (List ℕ)) → out-Command b ≡ record (out-Command a) { about = Some text } → app_of b ≡ app_of a
same_app a b text e = ap app_of_fields e

-- and neither does the text after its help
pub same_app_after : (a b : Command) (text : Bor (List ℕ)) → out-Command b ≡ record (out-Command a) { after_help = Some text } → app_of b ≡ app_of a
same_app_after a b text e = ap app_of_fields e

-- the three settings of the program's own command
abbrev versioned : App → App
versioned a = record a { top = record a.top { has_version = true } }

abbrev one_wanted : App → App
one_wanted a = record a { top = record a.top { subcommand_required = true } }

abbrev help_alone : App → App
help_alone a = record a { top = record a.top { arg_required_else_help = true } }

pub all_set : (a b c d : Command) (app : App) (version : Bor (List ℕ)) → app_of a ≡ app → out-Command b ≡ record (out-Command a) { version = Some version }
    → out-Command c ≡ record (out-Command b) { subcommand_required = true } → out-Command d ≡ record (out-Command c) { arg_required_else_help = true }
    → app_of d ≡ help_alone (one_wanted (versioned app))
all_set a b c d app version is e f g =
    let b_is : app_of b ≡ versioned (app_of a) = ap app_of_fields e in
    let c_is : app_of c ≡ one_wanted (app_of b) = ap app_of_fields f in
    let d_is : app_of d ≡ help_alone (app_of c) = ap app_of_fields g in
    d_is ∙ ap help_alone (c_is ∙ ap one_wanted (b_is ∙ ap versioned is))

-- no argument is global
pub stays_local : (new old arg : Bool) → new ≡ (old || arg) → old ≡ false → arg ≡ false → new ≡ false
stays_local new old arg e f g = e ∙ ap₂ (λ x y. x || y) f g
