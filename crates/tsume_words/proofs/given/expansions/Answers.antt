use Rattle.std.proofs.Common.{codes}
use Rattle.clap.specs.Words.{found_of, rows_of}
use Rattle.search_limits.specs.declared.expansions.TheConstants.{MOST_EXPANSIONS}
use Rattle.tsume_words.proofs.Texts.{readable}
use Rattle.tsume_words.proofs.given.expansions.Goals as goal

pub number-requires : goal.number-requires
number-requires c = readable (codes "expansions") 1 MOST_EXPANSIONS (rows_of (found_of c.args.given.now)) c.requires
