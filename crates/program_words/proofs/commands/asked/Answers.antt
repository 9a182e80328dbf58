use Rattle.std.proofs.Common.{rules, codes}
use Rattle.clap.specs.Words.{found_of, rows_of}
use Rattle.program_words.proofs.Named.{collection_given, cook_given, found_is}
use Rattle.program_words.proofs.commands.asked.Goals as goal

pub read_for-requires-in-Some-subcommand_matches-2 : goal.read_for-requires-in-Some-subcommand_matches-2
read_for-requires-in-Some-subcommand_matches-2 c =
    let found = c.subcommand_matches-3.ensures.found in
    cook_given _ (rows_of (found_of c.in-Some-subcommand_matches-2.given.now)) c.requires
    (found_is _ _ (codes "cook") (rows_of (found_of c.in-Some-subcommand_matches-2.given.now)) (search rules) c.in-Some-subcommand_matches-2.ensures.rows)

pub read_for-requires-in-Some-subcommand_matches-5 : goal.read_for-requires-in-Some-subcommand_matches-5
read_for-requires-in-Some-subcommand_matches-5 c =
    let found = c.subcommand_matches-6.ensures.found in
    collection_given _ (rows_of (found_of c.in-Some-subcommand_matches-5.given.now)) c.requires
    (found_is _ _ (codes "collection") (rows_of (found_of c.in-Some-subcommand_matches-5.given.now)) (search rules) c.in-Some-subcommand_matches-5.ensures.rows)

pub returns-in-Some-subcommand_matches-5-clause-outcome : goal.returns-in-Some-subcommand_matches-5-clause-outcome
returns-in-Some-subcommand_matches-5-clause-outcome c =
    let found = c.subcommand_matches-6.ensures.found in
    let is = found_is _ _ (codes "collection") (rows_of (found_of c.in-Some-subcommand_matches-5.given.now)) (search rules) c.in-Some-subcommand_matches-5.ensures.rows in
    search rules
