use Rattle.std.proofs.Common.{arith, below_more}
use Rattle.board_core.proofs.EachKind.{each_side}
use Rattle.board_core.proofs.Faults.{two_pawns_within}
use Rattle.board_core.proofs.build.first_file_of_two_pawns.Goals as goal

pub loop-file-preserved : goal.loop-file-preserved
loop-file-preserved c = below_more _ _ c.loop-file.invariant (each_side _
    (λ two. let t = c.has_two_pawns.ensures.1 two in absurd (cc))
    (λ two. let t = c.has_two_pawns-in-loop-file.ensures.1 two in absurd (cc)))

pub returns-clause-none : goal.returns-clause-none
returns-clause-none c = λ e file side two. let w = two_pawns_within _ _ _ two in c.loop-file.invariant file (omega arith) side two
