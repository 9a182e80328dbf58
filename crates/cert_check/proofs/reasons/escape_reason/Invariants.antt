use Rattle.std.proofs.Common.{◌≡◌, ◌<◌, ℕ, get_or}
use Rattle.board_core.specs.declared.moves.Move.{Move}
use Rattle.mate_def.specs.Mate.{HasEvasionTo}
use Rattle.hand_dominance.specs.BorneOut.{IsCovered}
use Rattle.dominance_places.specs.Covering.{version_of}
use Rattle.cert_check.proofs.reasons.escape_reason.Given as goal

abbrev pub invariant-loop-check : goal.invariant-loop-check
invariant-loop-check l = (k : ℕ) (m : Move) → k < l.check-index → get_or l.check-items k m ≡ m
    → HasEvasionTo l.problem.position.side (IsCovered (version_of l.places) l.positions l.problem.position.side) l.position m
