use Rattle.std.proofs.Common.{◌≡◌, ◌≢◌, ◌<◌, ◌≤◌, ◌+◌, ◌*◌, ◌/◌, ◌%◌, ◌^◌, ◌++◌, ◌==◌, ℕ, List, [], ◌∷◌, Option, Some, None, Bool, true, false, cond, nat_lt, length, take, drop, get_or, arith, refl, ap, sym, ◌∙◌, length-drop}
use Rattle.std.proofs.lemmas.Nat.{div-mul-add, mod-mul-add}
use Rattle.std.proofs.lemmas.List.{length-take, take-append-drop, drop-drop, drop_all}
use Rattle.std.proofs.Math.Bool.{Bool-set}
use mathlib.Core.HLevel.{is_prop→PathP}
use Rattle.bit_boards.specs.declared.piece.Piece.{Piece}
use Rattle.bit_boards.specs.declared.piece.Kind.{Kind}
use Rattle.bit_boards.specs.declared.piece.Kind.TheVariants.{Pawn, Lance, Knight, Silver, Gold, Bishop, Rook, King}
use Rattle.bit_boards.specs.declared.piece.Side.{Side}
use Rattle.bit_boards.specs.declared.piece.Side.TheVariants.{Black, White}
use Rattle.bit_boards.specs.Kind.{can_promote, total_of}
use Rattle.board_core.specs.Board.{Board, hand_count}
use Rattle.board_core.specs.Kept.{IsKept}
use Rattle.board_core.specs.Key.{kind_code, side_code, code_of, low_and_high, packed_cells, key_word, hand_code, side_bit, key_of}
use Rattle.board_core.proofs.Packing.{kind_code_small, code_small}

-- a number below `m` beside a multiple of `m` is told from it
apart : (m a b x y : ℕ) → a < m → b < m → a + m * x ≡ b + m * y → (a ≡ b) × (x ≡ y)
apart m a b x y small low e =
    let one : x * m + a ≡ y * m + b = omega arith in (
      sym (mod-mul-add x m a small) ∙ (ap (λ (n : ℕ). n % m) one ∙ mod-mul-add y m b low),
      sym (div-mul-add x m a small) ∙ (ap (λ (n : ℕ). n / m) one ∙ div-mul-add y m b low),
    )

pub low_and_high_exact : (w a b x y : ℕ) → a < 2 ^ w → b < 2 ^ w → low_and_high w a x ≡ low_and_high w b y → (a ≡ b) × (x ≡ y)
low_and_high_exact w a b x y small low e = apart (2 ^ w) a b x y small low e

-- what a piece keeps
abbrev Promotes : Bool → Kind → Type 0
Promotes turned kind = turned ≡ true → can_promote kind ≡ true

no_gold : {P : Type 0} → Promotes true Gold → P
no_gold h = let e = h refl in absurd (cc)

no_king : {P : Type 0} → Promotes true King → P
no_king h = let e = h refl in absurd (cc)

-- what holds of each code that a piece can have
pub of_each : (P : Bool → Kind → Type 0) → P false Pawn → P false Lance → P false Knight → P false Silver → P false Gold → P false Bishop
    → P false Rook → P false King → P true Pawn → P true Lance → P true Knight → P true Silver → P true Bishop → P true Rook
    → (t : Bool) (k : Kind) → Promotes t k → P t k
of_each P a b c d e f g h i j k l m n false Pawn promotes = a
of_each P a b c d e f g h i j k l m n false Lance promotes = b
of_each P a b c d e f g h i j k l m n false Knight promotes = c
of_each P a b c d e f g h i j k l m n false Silver promotes = d
of_each P a b c d e f g h i j k l m n false Gold promotes = e
of_each P a b c d e f g h i j k l m n false Bishop promotes = f
of_each P a b c d e f g h i j k l m n false Rook promotes = g
of_each P a b c d e f g h i j k l m n false King promotes = h
of_each P a b c d e f g h i j k l m n true Pawn promotes = i
of_each P a b c d e f g h i j k l m n true Lance promotes = j
of_each P a b c d e f g h i j k l m n true Knight promotes = k
of_each P a b c d e f g h i j k l m n true Silver promotes = l
of_each P a b c d e f g h i j k l m n true Gold promotes = no_gold promotes
of_each P a b c d e f g h i j k l m n true Bishop promotes = m
of_each P a b c d e f g h i j k l m n true Rook promotes = n
of_each P a b c d e f g h i j k l m n true King promotes = no_king promotes

-- the kind that a code stands for
abbrev kind_in : ℕ → Kind
kind_in n = cond (n == 1) Pawn (cond (n == 2) Lance (cond (n == 3) Knight (cond (n == 4) Silver (cond (n == 5) Gold (cond (n == 6) Bishop
    (cond (n == 7) Rook (cond (n == 8) King (cond (n == 9) Pawn (cond (n == 10) Lance (cond (n == 11) Knight (cond (n == 12) Silver
    (cond (n == 13) Bishop Rook))))))))))))

kind_back : (t : Bool) (k : Kind) → Promotes t k → kind_in (kind_code t k) ≡ k
kind_back = of_each (λ t k. kind_in (kind_code t k) ≡ k) refl refl refl refl refl refl refl refl refl refl refl refl refl refl

turned_back : (t : Bool) (k : Kind) → Promotes t k → nat_lt 8 (kind_code t k) ≡ t
turned_back = of_each (λ t k. nat_lt 8 (kind_code t k) ≡ t) refl refl refl refl refl refl refl refl refl refl refl refl refl refl

some_code : (t : Bool) (k : Kind) → Promotes t k → 1 ≤ kind_code t k
some_code = of_each (λ t k. 1 ≤ kind_code t k) (omega arith) (omega arith) (omega arith) (omega arith) (omega arith) (omega arith)
    (omega arith) (omega arith) (omega arith) (omega arith) (omega arith) (omega arith) (omega arith) (omega arith)

side_in : (s r : Side) (a b : ℕ) → 1 ≤ a → 1 ≤ b → a ≤ 14 → b ≤ 14 → a + side_code s ≡ b + side_code r → (a ≡ b) × (s ≡ r)
side_in Black Black a b p q l m e = (omega arith, refl)
side_in Black White a b p q l m e = absurd (omega arith)
side_in White Black a b p q l m e = absurd (omega arith)
side_in White White a b p q l m e = (omega arith, refl)

pub piece_exact : (a b : Piece) → a.kind ≡ b.kind → a.promoted ≡ b.promoted → a.side ≡ b.side → a ≡ b
piece_exact a b of_kind turned owner = λ i. record {
  kind = of_kind i;
  promoted = turned i;
  side = owner i;
  promotes = is_prop→PathP (λ j. turned j ≡ true → can_promote (of_kind j) ≡ true) (λ j. hlevel Bool-set) a.promotes b.promotes i;
}

piece_code_exact : (a b : Piece) → kind_code a.promoted a.kind + side_code a.side ≡ kind_code b.promoted b.kind + side_code b.side → a ≡ b
piece_code_exact a b e =
    let both = side_in a.side b.side (kind_code a.promoted a.kind) (kind_code b.promoted b.kind)
    (some_code a.promoted a.kind a.promotes) (some_code b.promoted b.kind b.promotes)
    (kind_code_small a.promoted a.kind) (kind_code_small b.promoted b.kind) e in
    piece_exact a b
    (sym (kind_back a.promoted a.kind a.promotes) ∙ (ap kind_in both.0 ∙ kind_back b.promoted b.kind b.promotes))
    (sym (turned_back a.promoted a.kind a.promotes) ∙ (ap (nat_lt 8) both.0 ∙ turned_back b.promoted b.kind b.promotes))
    both.1

-- no two cells have one code
pub cell_exact : (x y : Option Piece) → code_of x ≡ code_of y → x ≡ y
cell_exact None None e = refl
cell_exact None (Some b) e = absurd (omega (arith, some_code b.promoted b.kind b.promotes))
cell_exact (Some a) None e = absurd (omega (arith, some_code a.promoted a.kind a.promotes))
cell_exact (Some a) (Some b) e = ap (λ (p : Piece). Some p) (piece_code_exact a b e)

-- as many squares with one word are the same
packed_exact : (xs ys : List (Option Piece)) → length xs ≡ length ys → packed_cells xs ≡ packed_cells ys → xs ≡ ys
packed_exact [] [] long e = refl
packed_exact [] (y ∷ ys) long e = absurd (omega arith)
packed_exact (x ∷ xs) [] long e = absurd (omega arith)
packed_exact (x ∷ xs) (y ∷ ys) long e =
    let both = low_and_high_exact 5 (code_of x) (code_of y) (packed_cells xs) (packed_cells ys) (code_small x) (code_small y) e in
    let first : x ≡ y = cell_exact x y both.0 in
    let others : xs ≡ ys = packed_exact xs ys (omega arith) both.1 in
    cc

twelve_more : (xs : List (Option Piece)) (i : ℕ) → drop i xs ≡ take 12 (drop i xs) ++ drop (i + 12) xs
twelve_more xs i = sym (take-append-drop 12 (drop i xs)) ∙ ap (λ zs. take 12 (drop i xs) ++ zs) (drop-drop 12 i xs)

word_exact : (xs ys : List (Option Piece)) (i : ℕ) → length xs ≡ length ys → packed_cells (take 12 (drop i xs)) ≡ packed_cells (take 12 (drop i ys))
    → drop (i + 12) xs ≡ drop (i + 12) ys → drop i xs ≡ drop i ys
word_exact xs ys i long e others =
    let front : take 12 (drop i xs) ≡ take 12 (drop i ys) = packed_exact (take 12 (drop i xs)) (take 12 (drop i ys))
    (omega (arith, length-take 12 (drop i xs), length-take 12 (drop i ys), length-drop i xs, length-drop i ys)) e in
    twelve_more xs i ∙ (ap (λ zs. zs ++ drop (i + 12) xs) front ∙ (ap (λ zs. take 12 (drop i ys) ++ zs) others ∙ sym (twelve_more ys i)))

-- boards with the same seven words have the same cells
pub cells_exact : (xs ys : List (Option Piece)) → length xs ≡ 81 → length ys ≡ 81 → key_word xs 0 ≡ key_word ys 0 → key_word xs 1 ≡ key_word ys 1
    → key_word xs 2 ≡ key_word ys 2 → key_word xs 3 ≡ key_word ys 3 → key_word xs 4 ≡ key_word ys 4 → key_word xs 5 ≡ key_word ys 5
    → key_word xs 6 ≡ key_word ys 6 → xs ≡ ys
unfolding key_word
cells_exact xs ys long as_long e0 e1 e2 e3 e4 e5 e6 =
    let same : length xs ≡ length ys = omega arith in
    let none : drop 84 xs ≡ drop 84 ys = drop_all 84 xs (omega arith) ∙ sym (drop_all 84 ys (omega arith)) in
    word_exact xs ys 0 same e0 (word_exact xs ys 12 same e1 (word_exact xs ys 24 same e2 (word_exact xs ys 36 same e3
    (word_exact xs ys 48 same e4 (word_exact xs ys 60 same e5 (word_exact xs ys 72 same e6 none))))))

-- no kind but the king is held more often than a set has it
abbrev pub Modest : List ℕ → Type 0
Modest hand = (k : Kind) → k ≢ King → hand_count hand k ≤ total_of k

pub seven : (hand : List ℕ) → length hand ≡ 7
    → hand ≡ get_or hand 0 0 ∷ get_or hand 1 0 ∷ get_or hand 2 0 ∷ get_or hand 3 0 ∷ get_or hand 4 0 ∷ get_or hand 5 0 ∷ get_or hand 6 0 ∷ []
seven [] h = absurd (omega arith)
seven (a ∷ []) h = absurd (omega arith)
seven (a ∷ b ∷ []) h = absurd (omega arith)
seven (a ∷ b ∷ c ∷ []) h = absurd (omega arith)
seven (a ∷ b ∷ c ∷ d ∷ []) h = absurd (omega arith)
seven (a ∷ b ∷ c ∷ d ∷ e ∷ []) h = absurd (omega arith)
seven (a ∷ b ∷ c ∷ d ∷ e ∷ f ∷ []) h = absurd (omega arith)
seven (a ∷ b ∷ c ∷ d ∷ e ∷ f ∷ g ∷ []) h = refl
seven (a ∷ b ∷ c ∷ d ∷ e ∷ f ∷ g ∷ x ∷ xs) h = absurd (omega arith)

-- hands with one code are the same
pub hand_exact : (g h : List ℕ) → length g ≡ 7 → length h ≡ 7 → Modest g → Modest h → hand_code g ≡ hand_code h → g ≡ h
unfolding hand_code
hand_exact g h long as_long few less e =
    let p = low_and_high_exact 5 (hand_count g Pawn) (hand_count h Pawn) _ _ (omega (arith, few Pawn (λ q. absurd (cc)))) (omega (arith, less Pawn (λ q. absurd (cc)))) e in
    let l = low_and_high_exact 3 (hand_count g Lance) (hand_count h Lance) _ _ (omega (arith, few Lance (λ q. absurd (cc)))) (omega (arith, less Lance (λ q. absurd (cc)))) p.1 in
    let n = low_and_high_exact 3 (hand_count g Knight) (hand_count h Knight) _ _ (omega (arith, few Knight (λ q. absurd (cc)))) (omega (arith, less Knight (λ q. absurd (cc)))) l.1 in
    let s = low_and_high_exact 3 (hand_count g Silver) (hand_count h Silver) _ _ (omega (arith, few Silver (λ q. absurd (cc)))) (omega (arith, less Silver (λ q. absurd (cc)))) n.1 in
    let o = low_and_high_exact 3 (hand_count g Gold) (hand_count h Gold) _ _ (omega (arith, few Gold (λ q. absurd (cc)))) (omega (arith, less Gold (λ q. absurd (cc)))) s.1 in
    let b = low_and_high_exact 2 (hand_count g Bishop) (hand_count h Bishop) (hand_count g Rook) (hand_count h Rook) (omega (arith, few Bishop (λ q. absurd (cc)))) (omega (arith, less Bishop (λ q. absurd (cc)))) o.1 in
    let left = seven g long in
    let right = seven h as_long in
    let p0 = p.0 in
    let l0 = l.0 in
    let n0 = n.0 in
    let s0 = s.0 in
    let o0 = o.0 in
    let b0 = b.0 in
    let b1 = b.1 in
    cc

pub hand_small : (h : List ℕ) → Modest h → hand_code h < 2097152
unfolding hand_code
hand_small h few = omega (
  arith,
  few Pawn (λ q. absurd (cc)),
  few Lance (λ q. absurd (cc)),
  few Knight (λ q. absurd (cc)),
  few Silver (λ q. absurd (cc)),
  few Gold (λ q. absurd (cc)),
  few Bishop (λ q. absurd (cc)),
  few Rook (λ q. absurd (cc)),
)

pub modest_black : (b : Board) → IsKept b → Modest b.black
modest_black b kept k not = omega (arith, kept.totals k not)

pub modest_white : (b : Board) → IsKept b → Modest b.white
modest_white b kept k not = omega (arith, kept.totals k not)

side_exact : (s r : Side) → side_bit s ≡ side_bit r → s ≡ r
side_exact Black Black e = refl
side_exact Black White e = absurd (omega arith)
side_exact White Black e = absurd (omega arith)
side_exact White White e = refl

board_exact : (a b : Board) → a.cells ≡ b.cells → a.black ≡ b.black → a.white ≡ b.white → a.side ≡ b.side → a ≡ b
board_exact a b cells black white side = λ i. record { cells = cells i; black = black i; white = white i; side = side i }

-- no two positions have one key
pub key_exact : (a b : Board) → IsKept a → IsKept b → key_of a ≡ key_of b → a ≡ b
unfolding key_of
key_exact a b kept too e =
    let at = λ (n : ℕ). ap (λ (words : List ℕ). get_or words n 0) e in
    let black = low_and_high_exact 21 (hand_code a.black) (hand_code b.black) _ _ (hand_small a.black (modest_black a kept)) (hand_small b.black (modest_black b too)) (at 7) in
    let white = low_and_high_exact 21 (hand_code a.white) (hand_code b.white) _ _ (hand_small a.white (modest_white a kept)) (hand_small b.white (modest_white b too)) black.1 in
    board_exact a b
    (cells_exact a.cells b.cells kept.cells too.cells (at 0) (at 1) (at 2) (at 3) (at 4) (at 5) (at 6))
    (hand_exact a.black b.black kept.black too.black (modest_black a kept) (modest_black b too) black.0)
    (hand_exact a.white b.white kept.white too.white (modest_white a kept) (modest_white b too) white.0)
    (side_exact a.side b.side white.1)
