use Rattle.table_shard.proofs.Made.{each_row}
use Rattle.table_shard.proofs.made_rows.Rows.laws.Goals as goal

pub returns : goal.returns
returns c = each_row c.args.self.now.numbers.items c.args.self.now.made.items c.args.self.now.places.items c.requires.made
