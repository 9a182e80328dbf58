use Rattle.std.proofs.Common.{w64}
use Rattle.std.specs.Int.Count.{count_trailing_zeros}
use Rattle.std.proofs.Math.Facts.{Fits-lt-pow}
use Rattle.std.proofs.lemmas.Nat.Bits.{bit_at-trailing_zeros}
use Rattle.table_shard.proofs.Powers.{low_bits}
use Rattle.table_shard.proofs.hash.place_of.Goals as goal

pub returns-then-bits-rows : goal.returns-then-bits-rows
returns-then-bits-rows c =
    low_bits c.args.hash (count_trailing_zeros 64 c.args.rows) c.args.rows
    (bit_at-trailing_zeros w64 c.args.rows c.requires (Fits-lt-pow c.ranges.rows)).0 c.if-bits-rows.true
