use Rattle.std.proofs.Common.{◌+◌, arith, rules, ap, sym, ◌∙◌, ◌++◌, drop}
use Rattle.tsume_io.proofs.Pieces.{copied, take-front}
use Rattle.tsume_io.proofs.memory.MemSourceSource.read.Goals as goal

pub returns-clause-took : goal.returns-clause-took
returns-clause-took c =
    let bytes = c.args.self.now.bytes.items in
    let at = c.args.self.now.at in
    let n = c.copy_front-count.result in
    let new = c.copy_front-count.new.into in
    copied bytes c.left.result.now new _ at n (search rules) (omega (arith, c.copy_front-count.ensures.count)) c.copy_front-count.ensures.copied
    ∙ ap (λ l. l ++ drop (at + n) bytes) (sym (take-front n c.min-most.result new c.args.into.now (omega (arith, c.copy_front-count.ensures.count, c.copy_front-count.auto.into))))
