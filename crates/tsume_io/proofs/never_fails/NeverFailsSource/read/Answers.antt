use Rattle.std.proofs.Common.{arith}
use Rattle.tsume_io.proofs.Pieces.{copied}
use Rattle.tsume_io.proofs.never_fails.NeverFailsSource.read.Goals as goal

pub returns-clause-took : goal.returns-clause-took
returns-clause-took c =
    copied c.args.self.now.bytes.items c.left.result.now c.copy_front-count.new.into _ c.args.self.now.at c.copy_front-count.result c.left.ensures (omega (arith, c.copy_front-count.ensures.count)) c.copy_front-count.ensures.copied
