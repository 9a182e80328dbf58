use Rattle.std.proofs.Common.{sym}
use Rattle.sfen_text.specs.Spelling.{sfen_of}
use Rattle.cert_text.proofs.Heads.{one_head}
use Rattle.cert_text.proofs.read.OpenText.open.Goals as goal

pub returns-in_default-clause-none : goal.returns-in_default-clause-none
returns-in_default-clause-none c = λ title count problem rest begins. c.in_default.ensures.none title count (sfen_of problem) rest begins.head

pub returns-in_default-2-clause-none : goal.returns-in_default-2-clause-none
returns-in_default-2-clause-none c = λ title count problem rest begins.
    let none = rw c.in_default-2.is at c.in_ok-problem.ensures.none in
    let one = one_head title c.in-Some.head.title count c.in-Some.head.count (sfen_of problem) c.in-Some.head.sfen.now rest c.in-Some.head.rest.now c.args.bytes.now begins.head c.in-Some.ensures.found in
    none problem begins.kept begins.is_problem (sym one.2)
