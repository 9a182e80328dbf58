use Rattle.std.proofs.Common.{codes}
use Rattle.clap.specs.Words.{found_of, rows_of}
use Rattle.search_limits.specs.declared.many.TheConstants.{MOST_SEED}
use Rattle.tsume_words.proofs.Offered.{readable, within_is}
use Rattle.cmd_survey.proofs.words.seed.Goals as goal

pub number-requires : goal.number-requires
number-requires c = readable (codes "seed") 0 MOST_SEED (rows_of (found_of c.args.given.now)) c.requires

pub returns-clause-range : goal.returns-clause-range
returns-clause-range c = (within_is (codes "seed") 0 MOST_SEED c.number.result (rows_of (found_of c.args.given.now)) c.number.ensures c.requires).1
