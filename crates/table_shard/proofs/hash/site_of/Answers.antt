use Rattle.table_shard.specs.Spot.{hash_of}
use Rattle.table_shard.proofs.Sites.{shifted}
use Rattle.table_shard.proofs.hash.site_of.Goals as goal

pub returns-clause-place : goal.returns-clause-place
returns-clause-place c = shifted (hash_of c.args.key.now.0) c.args.shards c.args.own
