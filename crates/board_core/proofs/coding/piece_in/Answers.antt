use Rattle.std.proofs.Common.{refl, ap, Some}
use Rattle.bit_boards.specs.declared.piece.Piece.{Piece}
use Rattle.board_core.proofs.KeyExact.{piece_exact}
use Rattle.board_core.proofs.coding.piece_in.Goals as goal

pub returns-in-9 : goal.returns-in-9
returns-in-9 c = rw c.in-9.is (ap (λ (p : Piece). Some p) (piece_exact _ _ refl refl refl))

pub returns-in-10 : goal.returns-in-10
returns-in-10 c = rw c.in-10.is (ap (λ (p : Piece). Some p) (piece_exact _ _ refl refl refl))

pub returns-in-11 : goal.returns-in-11
returns-in-11 c = rw c.in-11.is (ap (λ (p : Piece). Some p) (piece_exact _ _ refl refl refl))

pub returns-in-12 : goal.returns-in-12
returns-in-12 c = rw c.in-12.is (ap (λ (p : Piece). Some p) (piece_exact _ _ refl refl refl))

pub returns-in-13 : goal.returns-in-13
returns-in-13 c = rw c.in-13.is (ap (λ (p : Piece). Some p) (piece_exact _ _ refl refl refl))

pub returns-in-14 : goal.returns-in-14
returns-in-14 c = rw c.in-14.is (ap (λ (p : Piece). Some p) (piece_exact _ _ refl refl refl))
