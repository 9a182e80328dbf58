use Rattle.std.proofs.Common.{codes}
use Rattle.clap.specs.Words.{found_of, rows_of}
use Rattle.search_limits.specs.declared.settings.TheConstants.{MOST_WORKERS}
use Rattle.tsume_words.proofs.Offered.{readable_if}
use Rattle.cmd_check.proofs.words.workers.Goals as goal

pub number_if_given-requires : goal.number_if_given-requires
number_if_given-requires c = readable_if (codes "workers") 1 MOST_WORKERS (rows_of (found_of c.args.given.now)) c.requires
