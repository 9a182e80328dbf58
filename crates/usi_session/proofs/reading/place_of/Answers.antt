-- Behind `startpos` stands what was read there.
use Rattle.usi_session.specs.Reading.{command_seen}
use Rattle.usi_session.specs.Fields.{fields_of}
use Rattle.usi_session.proofs.Commanded.{place-from_start}
use Rattle.usi_session.proofs.reading.place_of.Goals as goal

pub returns-in-Some : goal.returns-in-Some
returns-in-Some c =
    place-from_start c.args.rest.now (fields_of c.in-Some.rest.now) (command_seen c.position_from_start.result) c.in-Some.ensures.found c.position_from_start.ensures
