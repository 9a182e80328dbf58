-- What is written for a cell is read as that cell.
use Rattle.std.proofs.Common.{◌≡◌, ◌==◌, ◌&&◌, ◌++◌, ⊎_elim, ℕ, Bool, true, false, List, [], ◌∷◌, Option, Some, None, if◌then◌else◌, refl, sym, subst, ap, ◌∙◌}
use Rattle.bit_boards.specs.declared.piece.Kind.{Kind}
use Rattle.bit_boards.specs.declared.piece.Kind.TheVariants.{Pawn, Lance, Knight, Silver, Gold, Bishop, Rook, King}
use Rattle.bit_boards.specs.declared.piece.Side.{Side}
use Rattle.bit_boards.specs.declared.piece.Side.TheVariants.{Black, White}
use Rattle.bit_boards.specs.declared.piece.Piece.{Piece}
use Rattle.bit_boards.specs.Kind.{can_promote}
use Rattle.bit_boards.specs.Piece.{plain_piece}
use Rattle.std.proofs.lemmas.Bool.{cases_Bool, eqb-true}
use Rattle.board_laws.proofs.Pieces.{piece_exact}
use Rattle.sfen_text.specs.Pieces.{promoted_piece}
use Rattle.kif_text.specs.Characters.{cell_of, is, piece_of, side_of}
use Rattle.kif_record.specs.Characters.{kind_text, mark_of, promoted_sign, sign_of}
use Rattle.kif_record.specs.Diagram.{cell_text}
use Rattle.kif_again.proofs.Written.{Written, written-append}

-- The sign of a piece is one character, which shows it.
record Sign (kind : Kind) (bytes : List ℕ) (promoted : Bool) : Type 0 where
  pub character : ℕ
  pub written : Written bytes (character ∷ [])
  pub shows : (side : Side) → (piece : Piece) × (piece_of side character ≡ Some piece) × (piece.kind ≡ kind) × (piece.promoted ≡ promoted) × (piece.side ≡ side)

plain_sign : (kind : Kind) → Sign kind (kind_text kind) false
unfolding lib.Utf8.encode
plain_sign Pawn = record { character = 27497; written = record { is = refl; scalars = refl; plain = refl }; shows = λ side. (plain_piece Pawn side, refl, refl, refl, refl) }
plain_sign Lance = record { character = 39321; written = record { is = refl; scalars = refl; plain = refl }; shows = λ side. (plain_piece Lance side, refl, refl, refl, refl) }
plain_sign Knight = record { character = 26690; written = record { is = refl; scalars = refl; plain = refl }; shows = λ side. (plain_piece Knight side, refl, refl, refl, refl) }
plain_sign Silver = record { character = 37504; written = record { is = refl; scalars = refl; plain = refl }; shows = λ side. (plain_piece Silver side, refl, refl, refl, refl) }
plain_sign Gold = record { character = 37329; written = record { is = refl; scalars = refl; plain = refl }; shows = λ side. (plain_piece Gold side, refl, refl, refl, refl) }
plain_sign Bishop = record { character = 35282; written = record { is = refl; scalars = refl; plain = refl }; shows = λ side. (plain_piece Bishop side, refl, refl, refl, refl) }
plain_sign Rook = record { character = 39131; written = record { is = refl; scalars = refl; plain = refl }; shows = λ side. (plain_piece Rook side, refl, refl, refl, refl) }
plain_sign King = record { character = 29577; written = record { is = refl; scalars = refl; plain = refl }; shows = λ side. (plain_piece King side, refl, refl, refl, refl) }

promoted_one : (kind : Kind) → can_promote kind ≡ true → Sign kind (promoted_sign kind) true
unfolding lib.Utf8.encode
promoted_one Pawn can = record { character = 12392; written = record { is = refl; scalars = refl; plain = refl }; shows = λ side. (record { kind = Pawn; promoted = true; side = side; promotes = λ _. refl }, refl, refl, refl, refl) }
promoted_one Lance can = record { character = 26447; written = record { is = refl; scalars = refl; plain = refl }; shows = λ side. (record { kind = Lance; promoted = true; side = side; promotes = λ _. refl }, refl, refl, refl, refl) }
promoted_one Knight can = record { character = 22317; written = record { is = refl; scalars = refl; plain = refl }; shows = λ side. (record { kind = Knight; promoted = true; side = side; promotes = λ _. refl }, refl, refl, refl, refl) }
promoted_one Silver can = record { character = 20840; written = record { is = refl; scalars = refl; plain = refl }; shows = λ side. (record { kind = Silver; promoted = true; side = side; promotes = λ _. refl }, refl, refl, refl, refl) }
promoted_one Gold can = absurd cc
promoted_one Bishop can = record { character = 39340; written = record { is = refl; scalars = refl; plain = refl }; shows = λ side. (record { kind = Bishop; promoted = true; side = side; promotes = λ _. refl }, refl, refl, refl, refl) }
promoted_one Rook can = record { character = 40845; written = record { is = refl; scalars = refl; plain = refl }; shows = λ side. (record { kind = Rook; promoted = true; side = side; promotes = λ _. refl }, refl, refl, refl, refl) }
promoted_one King can = absurd cc

-- A cell is a mark and a sign, and reads as what stands in it.
pub record CellAgain (bytes : List ℕ) (cell : Option Piece) : Type 0 where
  pub mark : ℕ
  pub shown : ℕ
  pub written : Written bytes (mark ∷ shown ∷ [])
  pub reads : cell_of mark shown ≡ Some cell

sign_again : (kind : Kind) (promoted : Bool) (side : Side) (bytes : List ℕ) (piece : Piece) → piece.kind ≡ kind → piece.promoted ≡ promoted → piece.side ≡ side
    → Sign kind bytes promoted → (c : ℕ) × Written bytes (c ∷ []) × (piece_of side c ≡ Some piece)
sign_again kind promoted side bytes piece k p s sign =
    let shows = sign.shows side in
    let same : shows.0 ≡ piece = piece_exact shows.0 piece (shows.2 ∙ sym k) (shows.3 ∙ sym p) (shows.4 ∙ sym s) in
    (sign.character, sign.written, shows.1 ∙ ap Some same)

-- What is no empty cell shows a piece of the mark's side.
read_as : (side : Side) (mark shown : ℕ) (piece : Piece) → piece_of side shown ≡ Some piece → side_of mark ≡ Some side → (is mark " " && is shown "・") ≡ false
    → cell_of mark shown ≡ Some (Some piece)
read_as side mark shown piece is_piece is_side apart = rw (apart, is_side, is_piece) refl

-- A dot shows no piece.
no_dot : (c : ℕ) (piece : Piece) → piece_of Black c ≡ Some piece → (is 32 " " && is c "・") ≡ false
no_dot c piece shows =
    ⊎_elim
    (λ yes. let none : piece_of Black 12539 ≡ Some piece = subst (λ (d : ℕ). piece_of Black d ≡ Some piece) (eqb-true c 12539 yes) shows in absurd cc)
    (λ no. no)
    (cases_Bool (c == 12539))

marked : (side : Side) (piece : Piece) (bytes : List ℕ) → piece.side ≡ side → (c : ℕ) × Written bytes (c ∷ []) × (piece_of side c ≡ Some piece)
    → CellAgain (mark_of side ++ bytes) (Some piece)
unfolding lib.Utf8.encode
marked Black piece bytes owner sign = record {
  mark = 32;
  shown = sign.0;
  written = written-append (32 ∷ []) bytes (32 ∷ []) (sign.0 ∷ []) (record { is = refl; scalars = refl; plain = refl }) sign.1;
  reads = read_as Black 32 sign.0 piece sign.2 refl (no_dot sign.0 piece sign.2);
}
marked White piece bytes owner sign = record {
  mark = 118;
  shown = sign.0;
  written = written-append (118 ∷ []) bytes (118 ∷ []) (sign.0 ∷ []) (record { is = refl; scalars = refl; plain = refl }) sign.1;
  reads = read_as White 118 sign.0 piece sign.2 refl refl;
}

pub cell_again : (cell : Option Piece) → CellAgain (cell_text cell) cell
unfolding lib.Utf8.encode
cell_again None = record { mark = 32; shown = 12539; written = record { is = refl; scalars = refl; plain = refl }; reads = refl }
cell_again (Some piece) = marked piece.side piece (sign_of piece) refl (sign_again piece.kind piece.promoted piece.side (sign_of piece) piece refl refl refl (sign_is piece.kind piece.promoted piece.promotes))
  where
    sign_is : (kind : Kind) (promoted : Bool) → (promoted ≡ true → can_promote kind ≡ true) → Sign kind (if promoted then promoted_sign kind else kind_text kind) promoted
    sign_is kind true can = promoted_one kind (can refl)
    sign_is kind false can = plain_sign kind
