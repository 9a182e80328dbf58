-- What is written for a piece is read as that piece.
use Rattle.std.proofs.Common.{◌≡◌, ◌≢◌, inr, ℕ, ◌+◌, ◌≤◌, Bool, true, false, List, [], ◌∷◌, ◌++◌, length, Some, refl, sym, subst, ◌∙◌, arith}
use Rattle.board_laws.proofs.Pieces.{piece_exact}
use Rattle.bit_boards.specs.declared.piece.Kind.{Kind}
use Rattle.bit_boards.specs.declared.piece.Kind.TheVariants.{Pawn, Lance, Knight, Silver, Gold, Bishop, Rook, King}
use Rattle.bit_boards.specs.declared.piece.Side.{Side}
use Rattle.bit_boards.specs.declared.piece.Side.TheVariants.{Black, White}
use Rattle.bit_boards.specs.declared.piece.Piece.{Piece}
use Rattle.bit_boards.specs.Kind.{can_promote}
use Rattle.sfen_text.specs.declared.squares.Sign.TheVariants.{Stands}
use Rattle.bit_boards.specs.Piece.{plain_piece}
use Rattle.sfen_text.specs.Pieces.{letter_of, plus_text, piece_text, promoted_piece, piece_of, promoted_of}
use Rattle.sfen_text.specs.Signs.{plain_sign, sign_of_piece, sign, signs}
use Rattle.sfen_text.proofs.Filling.{signs_one}

pub letter_again : (side : Side) (kind : Kind) → piece_of (letter_of side kind) ≡ Some (plain_piece kind side)
unfolding piece_of
letter_again Black Pawn = refl
letter_again Black Lance = refl
letter_again Black Knight = refl
letter_again Black Silver = refl
letter_again Black Gold = refl
letter_again Black Bishop = refl
letter_again Black Rook = refl
letter_again Black King = refl
letter_again White Pawn = refl
letter_again White Lance = refl
letter_again White Knight = refl
letter_again White Silver = refl
letter_again White Gold = refl
letter_again White Bishop = refl
letter_again White Rook = refl
letter_again White King = refl

pub promoted_again : (side : Side) (kind : Kind) → promoted_of (letter_of side kind) ≡ promoted_piece side kind
unfolding promoted_of
promoted_again Black Pawn = refl
promoted_again Black Lance = refl
promoted_again Black Knight = refl
promoted_again Black Silver = refl
promoted_again Black Gold = refl
promoted_again Black Bishop = refl
promoted_again Black Rook = refl
promoted_again Black King = refl
promoted_again White Pawn = refl
promoted_again White Lance = refl
promoted_again White Knight = refl
promoted_again White Silver = refl
promoted_again White Gold = refl
promoted_again White Bishop = refl
promoted_again White Rook = refl
promoted_again White King = refl

pub plain_again : (side : Side) (kind : Kind) → plain_sign (letter_of side kind) ≡ sign_of_piece (piece_of (letter_of side kind))
plain_again Black Pawn = refl
plain_again Black Lance = refl
plain_again Black Knight = refl
plain_again Black Silver = refl
plain_again Black Gold = refl
plain_again Black Bishop = refl
plain_again Black Rook = refl
plain_again Black King = refl
plain_again White Pawn = refl
plain_again White Lance = refl
plain_again White Knight = refl
plain_again White Silver = refl
plain_again White Gold = refl
plain_again White Bishop = refl
plain_again White Rook = refl
plain_again White King = refl

-- A letter is no byte of another use.
pub record IsPlain (byte : ℕ) : Type 0 where
  pub above : 43 ≤ byte
  pub not_dash : byte ≢ 45
  pub not_o : byte ≢ 111
  pub not_f : byte ≢ 102

pub letter_plain : (side : Side) (kind : Kind) → IsPlain (letter_of side kind) × (58 ≤ letter_of side kind)
letter_plain Black Pawn = (record { above = omega arith; not_dash = λ e. omega arith; not_o = λ e. omega arith; not_f = λ e. omega arith }, omega arith)
letter_plain Black Lance = (record { above = omega arith; not_dash = λ e. omega arith; not_o = λ e. omega arith; not_f = λ e. omega arith }, omega arith)
letter_plain Black Knight = (record { above = omega arith; not_dash = λ e. omega arith; not_o = λ e. omega arith; not_f = λ e. omega arith }, omega arith)
letter_plain Black Silver = (record { above = omega arith; not_dash = λ e. omega arith; not_o = λ e. omega arith; not_f = λ e. omega arith }, omega arith)
letter_plain Black Gold = (record { above = omega arith; not_dash = λ e. omega arith; not_o = λ e. omega arith; not_f = λ e. omega arith }, omega arith)
letter_plain Black Bishop = (record { above = omega arith; not_dash = λ e. omega arith; not_o = λ e. omega arith; not_f = λ e. omega arith }, omega arith)
letter_plain Black Rook = (record { above = omega arith; not_dash = λ e. omega arith; not_o = λ e. omega arith; not_f = λ e. omega arith }, omega arith)
letter_plain Black King = (record { above = omega arith; not_dash = λ e. omega arith; not_o = λ e. omega arith; not_f = λ e. omega arith }, omega arith)
letter_plain White Pawn = (record { above = omega arith; not_dash = λ e. omega arith; not_o = λ e. omega arith; not_f = λ e. omega arith }, omega arith)
letter_plain White Lance = (record { above = omega arith; not_dash = λ e. omega arith; not_o = λ e. omega arith; not_f = λ e. omega arith }, omega arith)
letter_plain White Knight = (record { above = omega arith; not_dash = λ e. omega arith; not_o = λ e. omega arith; not_f = λ e. omega arith }, omega arith)
letter_plain White Silver = (record { above = omega arith; not_dash = λ e. omega arith; not_o = λ e. omega arith; not_f = λ e. omega arith }, omega arith)
letter_plain White Gold = (record { above = omega arith; not_dash = λ e. omega arith; not_o = λ e. omega arith; not_f = λ e. omega arith }, omega arith)
letter_plain White Bishop = (record { above = omega arith; not_dash = λ e. omega arith; not_o = λ e. omega arith; not_f = λ e. omega arith }, omega arith)
letter_plain White Rook = (record { above = omega arith; not_dash = λ e. omega arith; not_o = λ e. omega arith; not_f = λ e. omega arith }, omega arith)
letter_plain White King = (record { above = omega arith; not_dash = λ e. omega arith; not_o = λ e. omega arith; not_f = λ e. omega arith }, omega arith)

promoted_made : (side : Side) (kind : Kind) → can_promote kind ≡ true → (q : Piece) × (promoted_piece side kind ≡ Some q) × (kind ≡ q.kind) × (true ≡ q.promoted) × (side ≡ q.side)
promoted_made side Pawn can = (record { kind = Pawn; promoted = true; side = side; promotes = λ _. refl }, refl, refl, refl, refl)
promoted_made side Lance can = (record { kind = Lance; promoted = true; side = side; promotes = λ _. refl }, refl, refl, refl, refl)
promoted_made side Knight can = (record { kind = Knight; promoted = true; side = side; promotes = λ _. refl }, refl, refl, refl, refl)
promoted_made side Silver can = (record { kind = Silver; promoted = true; side = side; promotes = λ _. refl }, refl, refl, refl, refl)
promoted_made side Gold can = absurd cc
promoted_made side Bishop can = (record { kind = Bishop; promoted = true; side = side; promotes = λ _. refl }, refl, refl, refl, refl)
promoted_made side Rook can = (record { kind = Rook; promoted = true; side = side; promotes = λ _. refl }, refl, refl, refl, refl)
promoted_made side King can = absurd cc

sign_plain : (p : Piece) → p.promoted ≡ false → (at : ℕ) (text : List ℕ) → signs at (letter_of p.side p.kind ∷ text) ≡ sign at (Stands p) (signs (at + 1) text)
sign_plain p e at text =
    let apart = (letter_plain p.side p.kind).1 in
    let one = signs_one at (letter_of p.side p.kind) text (inr (λ h. omega (arith, apart))) in
    let same : plain_piece p.kind p.side ≡ p = piece_exact (plain_piece p.kind p.side) p refl (sym e) refl in
    rw (one, plain_again, letter_again, same) refl

sign_promoted : (p : Piece) → p.promoted ≡ true → (at : ℕ) (text : List ℕ) → signs at (43 ∷ letter_of p.side p.kind ∷ text) ≡ sign at (Stands p) (signs (at + 2) text)
unfolding signs
sign_promoted p e at text =
    let made = promoted_made p.side p.kind (p.promotes e) in
    let same : made.0 ≡ p = piece_exact made.0 p (sym made.2) (sym made.3 ∙ sym e) (sym made.4) in
    rw (promoted_again, made.1, same) refl

-- The sign that is written for a piece.
pub piece_sign : (p : Piece) (at : ℕ) (text : List ℕ) → signs at (piece_text p ++ text) ≡ sign at (Stands p) (signs (at + length (piece_text p)) text)
piece_sign p at text = go p.promoted refl where
  Read : Bool → Type 0
  Read b = signs at ((plus_text b ++ letter_of p.side p.kind ∷ []) ++ text) ≡ sign at (Stands p) (signs (at + length (plus_text b ++ letter_of p.side p.kind ∷ [])) text)

  go : (b : Bool) → p.promoted ≡ b → Read p.promoted
  go true e = subst Read (sym e) (sign_promoted p e at text)
  go false e = subst Read (sym e) (sign_plain p e at text)
