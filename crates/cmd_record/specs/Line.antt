-- The line of `record`, in clap's own terms.
use Rattle.std.specs.Prelude.{codes}
use Rattle.clap.specs.Words.{App, new_app, with_rule}
use Rattle.tsume_words.specs.Options.{file_word}

-- `record` has the file alone.
unfoldable pub record_line : App
record_line = with_rule (new_app (codes "record")) file_word
