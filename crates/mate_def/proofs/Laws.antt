use Rattle.std.proofs.Common.{◌≤◌, ℕ, zero, suc, List, [], Contains, arith}
use Rattle.bit_boards.specs.declared.piece.Side.{Side}
use Rattle.board_core.specs.Board.{Board}
use Rattle.list_laws.proofs.Standing.{in_first}
use Rattle.mate_def.specs.Mate.{after_both, RankAtMost, IsMate, IsClosed, Escapes, MateInOne}

pub rank_grows_to : (attacker : Side) (n m : ℕ) (b : Board) → n ≤ m → RankAtMost attacker n b → RankAtMost attacker m b
rank_grows_to attacker zero m b up h = absurd h
rank_grows_to attacker (suc n) zero b up h = absurd (omega arith)
rank_grows_to attacker (suc n) (suc m) b up h =
    (h.0, h.1, (λ a evasion. rank_grows_to attacker n m (after_both b h.0 a) (omega arith) (h.2 a evasion)))

-- no position of a closed set has a rank
pub closed_excludes : (attacker : Side) (s : List Board) → IsClosed attacker s [] → (n : ℕ) (b : Board) → Contains s b
    → RankAtMost attacker n b → ⊥
closed_excludes attacker s closed zero b member h = h
closed_excludes attacker s closed (suc n) b member h =
    let e = closed.answered b h.0 member h.1 in
    closed_excludes attacker s closed n (after_both b h.0 e.evasion) (in_first _ _ e.leads) (h.2 e.evasion e.is_evasion)

pub escape_excludes : (attacker : Side) (b : Board) → Escapes attacker b → IsMate attacker b → ⊥
escape_excludes attacker b e m = closed_excludes attacker e.0 e.2 m.0 b e.1 m.1

pub one_has_rank : (attacker : Side) (b : Board) → MateInOne attacker b → RankAtMost attacker 1 b
one_has_rank attacker b m = (m.check, m.is_check, (λ a evasion. absurd (m.no_evasion a evasion)))

pub rank_has_one : (attacker : Side) (b : Board) → RankAtMost attacker 1 b → MateInOne attacker b
rank_has_one attacker b h = record { check = h.0; is_check = h.1; no_evasion = λ a evasion. h.2 a evasion }
