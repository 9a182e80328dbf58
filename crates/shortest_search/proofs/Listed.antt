-- What lists of moves say.
use Rattle.std.proofs.Common.{◌≡◌, ℕ, List, length, arith, true, nat_eq}
use Rattle.std.proofs.lemmas.Map.Views.{exact_unsigned_eq}
use Rattle.board_core.specs.declared.moves.Move.{Move}
use Rattle.board_core.specs.Order.{Lists}

-- An empty list lists nothing.
pub none_listed : (P : Move → Type 0) (moves : List Move) (n : ℕ) → Lists P moves → n ≡ length moves → nat_eq n 0 ≡ true → (move : Move) → P move → ⊥
none_listed P moves n lists long empty move has =
    let c = lists.complete move has in
    let zero = exact_unsigned_eq n 0 empty in
    let inside = c.1 in
    omega (arith, zero, long, inside)
