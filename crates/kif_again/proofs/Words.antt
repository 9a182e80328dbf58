-- What is written of a move is read as that move.
use Rattle.std.proofs.Common.{◌≡◌, ◌≢◌, ◌==◌, ◌&&◌, ◌<◌, ◌≤◌, ◌+◌, ◌-◌, ◌*◌, ◌/◌, ◌%◌, ◌++◌, ⊎_elim, ℕ, zero, suc, Bool, true, false, not, List, [], ◌∷◌, length, Option, Some, None, refl, sym, subst, ap, ap₂, ◌∙◌, arith, append_assoc, if◌then◌else◌, option_map, nat_le}
use Rattle.std.proofs.lemmas.Bool.{cases_Bool, eqb-true, le-leb, ne_eqb}
use Rattle.bit_boards.specs.declared.piece.Kind.{Kind}
use Rattle.bit_boards.specs.declared.piece.Kind.TheVariants.{Pawn, Lance, Knight, Silver, Gold, Bishop, Rook, King}
use Rattle.bit_boards.specs.declared.piece.Side.TheVariants.{Black}
use Rattle.bit_boards.specs.declared.piece.Piece.{Piece}
use Rattle.bit_boards.specs.Kind.{can_promote}
use Rattle.bit_boards.specs.Piece.{plain_piece}
use Rattle.bit_boards.specs.declared.square.Square.{Square}
use Rattle.bit_boards.specs.Square.{square_on}
use Rattle.std.specs.Str.{IsAscii}
use Rattle.kif_text.specs.Characters.{is, number_of}
use Rattle.kif_text.specs.Lines.{utf8}
use Rattle.kif_record.specs.Characters.{file_text, kind_text, number_text, promoted_name, square_text, wide_blank}
use Rattle.kif_record.specs.Moves.{origin_text, place_text, promotion_text}
use Rattle.kif_moves.specs.Characters.{digit_of, file_of, is_space, row_of, square_of}
use Rattle.kif_moves.specs.Words.{Way, dropped, goal_of, gone, gone_from, is_ending, name_of, origin_of, way_of}
use Rattle.kif_again.proofs.Numbers.{file_again, number_again}
use Rattle.kif_again.proofs.Numbered.{ascii_written}
use Rattle.kif_again.proofs.Written.{Written, written-append, written-nothing}

-- 1. THE NAME.

-- The name of a piece is read as the piece of its kind, promoted as it is.
pub record NameAgain (bytes : List ℕ) (kind : Kind) (promoted : Bool) : Type 0 where
  pub characters : List ℕ
  pub name : Piece
  pub written : Written bytes characters
  pub reads : (rest : List ℕ) → name_of (characters ++ rest) ≡ Some (name, rest)
  pub is_kind : name.kind ≡ kind
  pub is_promoted : name.promoted ≡ promoted

plain_again : (kind : Kind) → NameAgain (kind_text kind) kind false
unfolding lib.Utf8.encode
plain_again Pawn = record { characters = 27497 ∷ []; name = plain_piece Pawn Black; written = record { is = refl; scalars = refl; plain = refl }; reads = λ rest. refl; is_kind = refl; is_promoted = refl }
plain_again Lance = record { characters = 39321 ∷ []; name = plain_piece Lance Black; written = record { is = refl; scalars = refl; plain = refl }; reads = λ rest. refl; is_kind = refl; is_promoted = refl }
plain_again Knight = record { characters = 26690 ∷ []; name = plain_piece Knight Black; written = record { is = refl; scalars = refl; plain = refl }; reads = λ rest. refl; is_kind = refl; is_promoted = refl }
plain_again Silver = record { characters = 37504 ∷ []; name = plain_piece Silver Black; written = record { is = refl; scalars = refl; plain = refl }; reads = λ rest. refl; is_kind = refl; is_promoted = refl }
plain_again Gold = record { characters = 37329 ∷ []; name = plain_piece Gold Black; written = record { is = refl; scalars = refl; plain = refl }; reads = λ rest. refl; is_kind = refl; is_promoted = refl }
plain_again Bishop = record { characters = 35282 ∷ []; name = plain_piece Bishop Black; written = record { is = refl; scalars = refl; plain = refl }; reads = λ rest. refl; is_kind = refl; is_promoted = refl }
plain_again Rook = record { characters = 39131 ∷ []; name = plain_piece Rook Black; written = record { is = refl; scalars = refl; plain = refl }; reads = λ rest. refl; is_kind = refl; is_promoted = refl }
plain_again King = record { characters = 29577 ∷ []; name = plain_piece King Black; written = record { is = refl; scalars = refl; plain = refl }; reads = λ rest. refl; is_kind = refl; is_promoted = refl }

promoted_again : (kind : Kind) → can_promote kind ≡ true → NameAgain (promoted_name kind) kind true
unfolding lib.Utf8.encode
promoted_again Pawn can = record { characters = 12392 ∷ []; name = record { kind = Pawn; promoted = true; side = Black; promotes = λ _. refl }; written = record { is = refl; scalars = refl; plain = refl }; reads = λ rest. refl; is_kind = refl; is_promoted = refl }
promoted_again Lance can = record { characters = 25104 ∷ 39321 ∷ []; name = record { kind = Lance; promoted = true; side = Black; promotes = λ _. refl }; written = record { is = refl; scalars = refl; plain = refl }; reads = λ rest. refl; is_kind = refl; is_promoted = refl }
promoted_again Knight can = record { characters = 25104 ∷ 26690 ∷ []; name = record { kind = Knight; promoted = true; side = Black; promotes = λ _. refl }; written = record { is = refl; scalars = refl; plain = refl }; reads = λ rest. refl; is_kind = refl; is_promoted = refl }
promoted_again Silver can = record { characters = 25104 ∷ 37504 ∷ []; name = record { kind = Silver; promoted = true; side = Black; promotes = λ _. refl }; written = record { is = refl; scalars = refl; plain = refl }; reads = λ rest. refl; is_kind = refl; is_promoted = refl }
promoted_again Gold can = absurd cc
promoted_again Bishop can = record { characters = 39340 ∷ []; name = record { kind = Bishop; promoted = true; side = Black; promotes = λ _. refl }; written = record { is = refl; scalars = refl; plain = refl }; reads = λ rest. refl; is_kind = refl; is_promoted = refl }
promoted_again Rook can = record { characters = 40845 ∷ []; name = record { kind = Rook; promoted = true; side = Black; promotes = λ _. refl }; written = record { is = refl; scalars = refl; plain = refl }; reads = λ rest. refl; is_kind = refl; is_promoted = refl }
promoted_again King can = absurd cc

pub name_again : (kind : Kind) (promoted : Bool) → (promoted ≡ true → can_promote kind ≡ true) → NameAgain (if promoted then promoted_name kind else kind_text kind) kind promoted
name_again piece true can = promoted_again piece (can refl)
name_again piece false can = plain_again piece

-- 2. WHERE IT COMES FROM.

digit_again : (n : ℕ) → 1 ≤ n → n ≤ 9 → digit_of (48 + n) ≡ Some n
digit_again zero from to = absurd (omega (arith, from))
digit_again (suc zero) from to = refl
digit_again (suc (suc zero)) from to = refl
digit_again (suc (suc (suc zero))) from to = refl
digit_again (suc (suc (suc (suc zero)))) from to = refl
digit_again (suc (suc (suc (suc (suc zero))))) from to = refl
digit_again (suc (suc (suc (suc (suc (suc zero)))))) from to = refl
digit_again (suc (suc (suc (suc (suc (suc (suc zero))))))) from to = refl
digit_again (suc (suc (suc (suc (suc (suc (suc (suc zero)))))))) from to = refl
digit_again (suc (suc (suc (suc (suc (suc (suc (suc (suc zero))))))))) from to = refl
digit_again (suc (suc (suc (suc (suc (suc (suc (suc (suc (suc n)))))))))) from to = absurd (omega (arith, to))

origin_again : (square : ℕ) → square < 81 → origin_of (origin_text square) ≡ Some square
origin_again square low =
    let same : square_on (square / 9 + 1) (square % 9 + 1) ≡ square = omega (arith, low) in
    rw (digit_again (square / 9 + 1) (omega arith) (omega (arith, low)), digit_again (square % 9 + 1) (omega arith) (omega arith)) (ap Some same)

origin_ascii : (f r : ℕ) → f ≤ 9 → r ≤ 9 → IsAscii (40 ∷ (48 + f) ∷ (48 + r) ∷ 41 ∷ [])
origin_ascii f r lf lr zero = omega arith
origin_ascii f r lf lr (suc zero) = omega (arith, lf)
origin_ascii f r lf lr (suc (suc zero)) = omega (arith, lr)
origin_ascii f r lf lr (suc (suc (suc zero))) = omega arith
origin_ascii f r lf lr (suc (suc (suc (suc i)))) = omega arith

origin_written : (square : ℕ) → square < 81 → Written (origin_text square) (origin_text square)
origin_written square low =
    let f = 48 + (square / 9 + 1) in
    let r = 48 + (square % 9 + 1) in
    ascii_written (origin_text square) (origin_ascii (square / 9 + 1) (square % 9 + 1) (omega (arith, low)) (omega arith))
    (rw (ne_eqb f 10 (λ e. absurd (omega (arith, e))), ne_eqb f 13 (λ e. absurd (omega (arith, e))), ne_eqb r 10 (λ e. absurd (omega (arith, e))), ne_eqb r 13 (λ e. absurd (omega (arith, e)))) refl)

-- How a piece goes from a square.
pub way_again : (name : Piece) (promote : Bool) (square : ℕ) → square < 81
    → (cs : List ℕ) × Written (promotion_text promote ++ origin_text square) cs × (way_of name cs ≡ Some (gone square promote))
unfolding lib.Utf8.encode
way_again name true square low = (
  25104 ∷ origin_text square,
  written-append (utf8 "成") (origin_text square) (25104 ∷ []) (origin_text square) (record { is = refl; scalars = refl; plain = refl }) (origin_written square low),
  ap (gone_from true) (origin_again square low),
)
way_again name false square low = (origin_text square, origin_written square low, ap (gone_from false) (origin_again square low))

-- 3. WHERE IT GOES.

-- What names something else than another character is another character.
apart : (c d : ℕ) (n : ℕ) → file_of c ≡ Some n → file_of d ≡ None → (c == d) ≡ false
apart c d n is none =
    ⊎_elim
    (λ yes. let same : file_of d ≡ Some n = subst (λ (e : ℕ). file_of e ≡ Some n) (eqb-true c d yes) is in absurd cc)
    (λ other. other)
    (cases_Bool (c == d))

pub record PlaceAgain (bytes : List ℕ) (last : Option ℕ) (to : ℕ) : Type 0 where
  pub first : ℕ
  pub others : List ℕ
  pub written : Written bytes (first ∷ others)
  pub reads : (rest : List ℕ) → goal_of last ((first ∷ others) ++ rest) ≡ Some (to, rest)
  pub not_space : is_space first ≡ false
  pub no_end : (rest : List ℕ) → is_ending ((first ∷ others) ++ rest) ≡ false

square_again : (last : Option ℕ) (square : ℕ) → square < 81 → PlaceAgain (square_text square) last square
square_again last square low =
    let file = file_again (square / 9 + 1) (omega arith) (omega (arith, low)) in
    let row = number_again (square % 9 + 1) (omega arith) (omega arith) in
    let same : square_on (square / 9 + 1) (square % 9 + 1) ≡ square = omega (arith, low) in
    let small : nat_le (square % 9 + 1) 9 ≡ true = le-leb (square % 9 + 1) 9 (omega arith) in
    record {
      first = file.0;
      others = row.0 ∷ [];
      written = written-append _ _ _ _ file.1 row.1;
      reads = λ rest. rw (apart file.0 21516 _ file.2 refl, file.2, row.2, small, same) refl;
      not_space = apart file.0 32 _ file.2 refl;
      no_end = λ rest. rw (apart file.0 35440 _ file.2 refl, apart file.0 25237 _ file.2 refl, apart file.0 20013 _ file.2 refl) refl;
    }

same_again : (square : ℕ) → PlaceAgain (utf8 "同" ++ wide_blank) (Some square) square
unfolding lib.Utf8.encode
same_again square = record {
  first = 21516;
  others = 12288 ∷ [];
  written = record { is = refl; scalars = refl; plain = refl };
  reads = λ rest. refl;
  not_space = refl;
  no_end = λ rest. refl;
}

pub place_again : (last : Option Square) (to : Square) → PlaceAgain (place_text last to) (option_map (λ (s : Square). s.number) last) to.number
place_again None to = square_again None to.number to.on_board
place_again (Some square) to = by_same (square.number == to.number) refl
  where
    by_same : (same : Bool) → (square.number == to.number) ≡ same → PlaceAgain (if same then utf8 "同" ++ wide_blank else square_text to.number) (Some square.number) to.number
    by_same true agree = subst (λ (n : ℕ). PlaceAgain (utf8 "同" ++ wide_blank) (Some n) to.number) (sym (eqb-true square.number to.number agree)) (same_again to.number)
    by_same false other = square_again (Some square.number) to.number to.on_board
