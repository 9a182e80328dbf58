use Rattle.std.proofs.Common.{◌≡◌, ◌<◌, ℕ, get_or}
use Rattle.board_core.specs.declared.moves.Move.{Move}
use Rattle.shogi_rules.specs.Rules.{after}
use Rattle.hand_dominance.specs.BorneOut.{IsCovered}
use Rattle.dominance_places.specs.Covering.{version_of}
use Rattle.cert_check.proofs.reasons.has_evasion_back.Given as goal

abbrev pub invariant-loop-evasion-2 : goal.invariant-loop-evasion-2
invariant-loop-evasion-2 l = (k : ℕ) (a : Move) → k < l.evasion-index → get_or l.evasion-items k a ≡ a
    → IsCovered (version_of l.places) l.positions l.problem.position.side (after l.checked a) → ⊥
