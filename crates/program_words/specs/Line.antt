-- The command line that clap is given, in clap's own terms.
use Rattle.std.specs.Prelude.{codes, true}
use Rattle.clap.specs.Words.{App, new_app}
use Rattle.program_words.specs.Commands.{commands}

-- The program has a version, wants one of its commands, and shows its help where there are no
-- words.
abbrev pub bare_line : App
bare_line = let made = new_app (codes "tsume") in record made {
  top = record made.top {
    has_version = true;
    subcommand_required = true;
    arg_required_else_help = true;
  };
}

-- The whole command line: the program and its commands.
unfoldable pub tsume_line : App
tsume_line = commands.line bare_line
