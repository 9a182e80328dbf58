use Rattle.std.proofs.Common.{codes}
use Rattle.clap.specs.Words.{found_of, rows_of}
use Rattle.search_limits.specs.declared.settings.TheConstants.{MOST_SHARDS}
use Rattle.tsume_words.proofs.Texts.{readable_if}
use Rattle.tsume_words.proofs.given.shards.Goals as goal

pub number_if_given-requires : goal.number_if_given-requires
number_if_given-requires c = readable_if (codes "shards") 1 MOST_SHARDS (rows_of (found_of c.args.given.now)) c.requires.shards
