-- What clap gives for `record` where it takes the words behind the command's name: it asks for
-- nothing.
use Rattle.tsume_words.specs.Meaning.{IsGivenWhereTaken}
use Rattle.cmd_record.specs.Words.{record_words}

pub record_is_given : IsGivenWhereTaken record_words
record_is_given words e = tt
