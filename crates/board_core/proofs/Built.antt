-- Parts make one position, or have one first fault.
use Rattle.std.proofs.Common.{◌≡◌, ℕ, ◌<◌, Result, Ok, Err, refl, sym, ap, ◌∙◌, arith}
use Rattle.bit_boards.specs.declared.square.Square.{Square}
use Rattle.bit_boards.specs.declared.piece.Kind.{Kind}
use Rattle.board_core.specs.declared.build.BadPosition.{BadPosition as Bad}
use Rattle.board_core.specs.declared.build.BadPosition.TheVariants as bad
use Rattle.board_core.specs.Board.{Board}
use Rattle.board_core.specs.Build.{HasFault, fault_order, IsBuilt}
use Rattle.board_core.specs.Laws.{SquaresApart, PlacesApart, PlacesInHand}

-- No two faults of a position have one place in their order.
faults_apart : PlacesInHand → SquaresApart → PlacesApart → (b : Board) (x y : Bad) → HasFault b x → HasFault b y → fault_order x ≡ fault_order y → x ≡ y
faults_apart in_hand squares_apart places b (bad.TooMany k) (bad.TooMany l) p q e = ap (λ (j : Kind). bad.TooMany j) (places k l e)
faults_apart in_hand squares_apart places b (bad.TooMany k) bad.NoDefenderKing p q e = absurd (omega (arith, in_hand k p.0, e))
faults_apart in_hand squares_apart places b (bad.TooMany k) bad.TwoKings p q e = absurd (omega (arith, in_hand k p.0, e))
faults_apart in_hand squares_apart places b (bad.TooMany k) (bad.DeadPiece s) p q e = absurd (omega (arith, in_hand k p.0, e))
faults_apart in_hand squares_apart places b (bad.TooMany k) (bad.TwoPawns f) p q e = absurd (omega (arith, in_hand k p.0, e))
faults_apart in_hand squares_apart places b bad.NoDefenderKing (bad.TooMany l) p q e = absurd (omega (arith, in_hand l q.0, e))
faults_apart in_hand squares_apart places b bad.NoDefenderKing bad.NoDefenderKing p q e = refl
faults_apart in_hand squares_apart places b bad.NoDefenderKing bad.TwoKings p q e = absurd (omega (arith, e))
faults_apart in_hand squares_apart places b bad.NoDefenderKing (bad.DeadPiece s) p q e = absurd (omega (arith, e))
faults_apart in_hand squares_apart places b bad.NoDefenderKing (bad.TwoPawns f) p q e = absurd (omega (arith, e))
faults_apart in_hand squares_apart places b bad.TwoKings (bad.TooMany l) p q e = absurd (omega (arith, in_hand l q.0, e))
faults_apart in_hand squares_apart places b bad.TwoKings bad.NoDefenderKing p q e = absurd (omega (arith, e))
faults_apart in_hand squares_apart places b bad.TwoKings bad.TwoKings p q e = refl
faults_apart in_hand squares_apart places b bad.TwoKings (bad.DeadPiece s) p q e = absurd (omega (arith, e))
faults_apart in_hand squares_apart places b bad.TwoKings (bad.TwoPawns f) p q e = absurd (omega (arith, e))
faults_apart in_hand squares_apart places b (bad.DeadPiece s) (bad.TooMany l) p q e = absurd (omega (arith, in_hand l q.0, e))
faults_apart in_hand squares_apart places b (bad.DeadPiece s) bad.NoDefenderKing p q e = absurd (omega (arith, e))
faults_apart in_hand squares_apart places b (bad.DeadPiece s) bad.TwoKings p q e = absurd (omega (arith, e))
faults_apart in_hand squares_apart places b (bad.DeadPiece s) (bad.DeadPiece t) p q e = ap (λ (u : Square). bad.DeadPiece u) (squares_apart s t (omega (arith, e)))
faults_apart in_hand squares_apart places b (bad.DeadPiece s) (bad.TwoPawns f) p q e = absurd (let low = s.on_board in omega (arith, e, low))
faults_apart in_hand squares_apart places b (bad.TwoPawns f) (bad.TooMany l) p q e = absurd (omega (arith, in_hand l q.0, e))
faults_apart in_hand squares_apart places b (bad.TwoPawns f) bad.NoDefenderKing p q e = absurd (omega (arith, e))
faults_apart in_hand squares_apart places b (bad.TwoPawns f) bad.TwoKings p q e = absurd (omega (arith, e))
faults_apart in_hand squares_apart places b (bad.TwoPawns f) (bad.DeadPiece t) p q e = absurd (let low = t.on_board in omega (arith, e, low))
faults_apart in_hand squares_apart places b (bad.TwoPawns f) (bad.TwoPawns g) p q e = let same : f ≡ g = omega (arith, e) in ap (λ (n : ℕ). bad.TwoPawns n) same

same_order : (m n : ℕ) → (m < n → ⊥) → (n < m → ⊥) → m ≡ n
same_order m n not_less not_more = omega arith

pub built_once : PlacesInHand → SquaresApart → PlacesApart → (b : Board) (x y : Result Board Bad) → IsBuilt b x → IsBuilt b y → x ≡ y
built_once in_hand squares_apart places b (Ok p) (Ok q) x y = ap (λ (c : Board). Ok c) (x.0 ∙ sym y.0)
built_once in_hand squares_apart places b (Ok p) (Err fault) x y = absurd (x.1 fault y.0)
built_once in_hand squares_apart places b (Err fault) (Ok q) x y = absurd (y.1 fault x.0)
built_once in_hand squares_apart places b (Err f) (Err g) x y = ap (λ (h : Bad). Err h) (faults_apart in_hand squares_apart places b f g x.0 y.0 (same_order (fault_order f) (fault_order g) (λ less. y.1 f less x.0) (λ more. x.1 g more y.0)))
