use Rattle.std.proofs.Common.{arith, codes}
use Rattle.clap.specs.Words.{found_of, rows_of}
use Rattle.search_limits.specs.declared.settings.TheConstants.{MOST_WORKERS}
use Rattle.tsume_words.proofs.Offered.{readable, within_is}
use Rattle.cmd_solve.proofs.words.workers.Goals as goal

pub number-requires : goal.number-requires
number-requires c = readable (codes "workers") 1 MOST_WORKERS (rows_of (found_of c.args.given.now)) c.requires

pub overflow_cast-result : goal.overflow_cast-result
overflow_cast-result c =
    let w = within_is (codes "workers") 1 MOST_WORKERS c.number.result (rows_of (found_of c.args.given.now)) c.number.ensures c.requires in
    omega (arith, w.1)

pub returns-clause-range : goal.returns-clause-range
returns-clause-range c = within_is (codes "workers") 1 MOST_WORKERS c.number.result (rows_of (found_of c.args.given.now)) c.number.ensures c.requires
