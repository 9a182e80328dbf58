-- What clap gives for `usi` where it takes the words behind the command's name: it asks for
-- nothing.
use Rattle.tsume_words.specs.Meaning.{IsGivenWhereTaken}
use Rattle.cmd_usi.specs.Words.{usi_words}

pub usi_is_given : IsGivenWhereTaken usi_words
usi_is_given words e = tt
