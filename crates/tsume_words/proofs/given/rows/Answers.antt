use Rattle.std.proofs.Common.{codes}
use Rattle.clap.specs.Words.{found_of, rows_of}
use Rattle.search_limits.specs.declared.settings.TheConstants.{LEAST_ROWS, MOST_ROWS}
use Rattle.tsume_words.proofs.Texts.{readable, within_is}
use Rattle.tsume_words.proofs.given.rows.Goals as goal

pub number-requires : goal.number-requires
number-requires c = readable (codes "rows") LEAST_ROWS MOST_ROWS (rows_of (found_of c.args.given.now)) c.requires

pub returns-clause-range : goal.returns-clause-range
returns-clause-range c = within_is (codes "rows") LEAST_ROWS MOST_ROWS c.number.result (rows_of (found_of c.args.given.now)) c.number.ensures c.requires
