use Rattle.std.proofs.Common.{arith, codes}
use Rattle.clap.specs.Words.{found_of, rows_of}
use Rattle.shortest_mate.specs.declared.search.TheConstants.{MOST_LIMIT}
use Rattle.tsume_words.proofs.Offered.{readable, within_is}
use Rattle.cmd_shortest.proofs.words.limit.Goals as goal

pub number-requires : goal.number-requires
number-requires c = readable (codes "limit") 1 MOST_LIMIT (rows_of (found_of c.args.given.now)) c.requires

pub overflow_cast-result : goal.overflow_cast-result
overflow_cast-result c =
    let w = within_is (codes "limit") 1 MOST_LIMIT c.number.result (rows_of (found_of c.args.given.now)) c.number.ensures c.requires in
    omega (arith, w.1)

pub returns-clause-range : goal.returns-clause-range
returns-clause-range c = within_is (codes "limit") 1 MOST_LIMIT c.number.result (rows_of (found_of c.args.given.now)) c.number.ensures c.requires
