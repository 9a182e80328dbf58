use Rattle.std.proofs.Common.{arith, codes}
use Rattle.clap.specs.Words.{found_of, rows_of}
use Rattle.search_limits.specs.declared.settings.TheConstants.{MOST_ROOM}
use Rattle.tsume_words.proofs.Texts.{readable, within_is}
use Rattle.tsume_words.proofs.given.room.Goals as goal

pub number-requires : goal.number-requires
number-requires c = readable (codes "room") 1 MOST_ROOM (rows_of (found_of c.args.given.now)) c.requires

pub overflow_cast-result : goal.overflow_cast-result
overflow_cast-result c =
    let w = within_is (codes "room") 1 MOST_ROOM c.number.result (rows_of (found_of c.args.given.now)) c.number.ensures c.requires in
    omega (arith, w.1)
