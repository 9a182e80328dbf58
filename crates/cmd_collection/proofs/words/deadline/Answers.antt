use Rattle.std.proofs.Common.{codes}
use Rattle.clap.specs.Words.{found_of, rows_of}
use Rattle.tsume_words.specs.declared.watch.TheConstants.{MOST_DEADLINE}
use Rattle.tsume_words.proofs.Offered.{readable_if}
use Rattle.cmd_collection.proofs.words.deadline.Goals as goal

pub number_if_given-requires : goal.number_if_given-requires
number_if_given-requires c = readable_if (codes "deadline") 1 MOST_DEADLINE (rows_of (found_of c.args.given.now)) c.requires
