-- The options with which a session begins make settings.
use Rattle.std.proofs.Common.{refl, arith}
use Rattle.search_limits.specs.Sizes.{AreSound, numbers_of}
use Rattle.usi_session.proofs.options.Options.first.Goals as goal

first-sound : AreSound (numbers_of 1 1000000000 1000000000 65536 64)
first-sound = record {
  ranges = record {
    workers = (omega arith, omega arith);
    expansions = (omega arith, omega arith);
    room = (omega arith, omega arith);
    rows = (omega arith, omega arith);
    shards = (omega arith, omega arith);
  };
  rows = (16, refl);
  shards = (6, refl);
  within = omega arith;
}

pub unreachable-requires : goal.unreachable-requires
unreachable-requires c = let some = c.in-None.ensures.sound.1 first-sound in grind arith
