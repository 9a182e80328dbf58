use Rattle.std.proofs.Common.{ap, subst, ◌∙◌}
use Rattle.board_core.specs.Board.{Board}
use Rattle.cert_text.specs.declared.certificate.Certificate.{Certificate}
use Rattle.cert_text.specs.Kinds.{problem_of}
use Rattle.cert_check.specs.Valid.{IsValid}
use Rattle.cert_extract.proofs.Knowing.{mates_known, escapes_known}
use Rattle.cert_extract.proofs.known.leaves.Goals as goal

pub mate_leaves-requires : goal.mate_leaves-requires
mate_leaves-requires c =
    let m = c.in-Mate.mate in
    mates_known c.version.result c.problem.result.now.position.side m c.in_ok-entries-in-Mate.entries.items c.version.ensures
    (ap (λ (b : Board). b.side) c.problem.ensures.problem) (c.in_ok-entries-in-Mate.ensures.same ∙ c.entries.ensures.entries) c.laws.ensures.kept
    (subst (λ (z : Certificate). IsValid z (problem_of z)) c.in-Mate.is c.requires) c.in_ok-entries-in-Mate.ensures.kept

pub escape_leaves-requires : goal.escape_leaves-requires
escape_leaves-requires c =
    let e = c.in-Escape.escape in
    escapes_known c.version-in-Escape.result c.problem-in-Escape.result.now.position.side e c.in_ok-positions-in-Escape.positions.items
    c.version-in-Escape.ensures (ap (λ (b : Board). b.side) c.problem-in-Escape.ensures.problem)
    (c.in_ok-positions-in-Escape.ensures.same ∙ c.entries-in-Escape.ensures.entries) c.laws-in-Escape.ensures.kept
    (subst (λ (z : Certificate). IsValid z (problem_of z)) c.in-Escape.is c.requires) c.in_ok-positions-in-Escape.ensures.kept
