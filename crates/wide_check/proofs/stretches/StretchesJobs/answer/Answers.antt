use Rattle.std.proofs.Common.{◌-◌, arith}
use Rattle.wide_check.proofs.Heard.{begins}
use Rattle.wide_check.proofs.stretches.StretchesJobs.answer.Goals as goal

pub overflow_mul-from : goal.overflow_mul-from
overflow_mul-from c =
    let round = c.args.self.now in
    let b = begins round.size (round.to - round.from) c.args.number round.some c.requires.number in
    omega (arith, b)

pub overflow_add-from : goal.overflow_add-from
overflow_add-from c =
    let round = c.args.self.now in
    let b = begins round.size (round.to - round.from) c.args.number round.some c.requires.number in
    omega (arith, b, round.forth)

pub stretch_end-to-requires : goal.stretch_end-to-requires
stretch_end-to-requires c =
    let round = c.args.self.now in
    let b = begins round.size (round.to - round.from) c.args.number round.some c.requires.number in
    omega (arith, b, round.forth)
