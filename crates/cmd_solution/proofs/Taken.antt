-- What clap gives for `solution` where it takes the words behind the command's name.
use Rattle.tsume_words.proofs.Offered.{no_test_laws}
use Rattle.tsume_words.specs.Meaning.{HasTestLaws, IsGivenWhereTaken}
use Rattle.cmd_solution.specs.Words.{solution_words}

pub solution_is_given : IsGivenWhereTaken solution_words
solution_is_given words e = tt

pub solution_test_laws : HasTestLaws solution_words.tests
solution_test_laws = no_test_laws
