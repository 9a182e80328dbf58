-- What clap gives for `upgrade` where it takes the words behind the command's name: it asks for
-- nothing.
use Rattle.tsume_words.specs.Meaning.{IsGivenWhereTaken}
use Rattle.cmd_upgrade.specs.Words.{upgrade_words}

pub upgrade_is_given : IsGivenWhereTaken upgrade_words
upgrade_is_given words e = tt
