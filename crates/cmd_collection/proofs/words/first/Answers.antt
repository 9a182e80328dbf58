use Rattle.std.proofs.Common.{codes}
use Rattle.clap.specs.Words.{found_of, rows_of}
use Rattle.tsume_words.proofs.Offered.{readable, within_is}
use Rattle.cmd_collection.specs.declared.form.TheConstants.{MOST_FIRST}
use Rattle.cmd_collection.proofs.words.first.Goals as goal

pub number-requires : goal.number-requires
number-requires c = readable (codes "first") 1 MOST_FIRST (rows_of (found_of c.args.given.now)) c.requires

pub returns-clause-range : goal.returns-clause-range
returns-clause-range c = within_is (codes "first") 1 MOST_FIRST c.number.result (rows_of (found_of c.args.given.now)) c.number.ensures c.requires
