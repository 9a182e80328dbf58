-- The line of `upgrade`, in clap's own terms.
use Rattle.std.specs.Prelude.{codes}
use Rattle.clap.specs.Words.{App, new_app, with_rule}
use Rattle.tsume_words.specs.Options.{file_word}

-- `upgrade` has the file alone.
unfoldable pub upgrade_line : App
upgrade_line = with_rule (new_app (codes "upgrade")) file_word
