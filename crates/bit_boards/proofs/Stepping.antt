-- The tables of steps are what the movement of the pieces says, and steps read backwards are those
-- of the other side's piece.
use Rattle.std.proofs.Common.{◌≡◌, ℕ, ◌+◌, ◌-◌, ◌*◌, ◌<◌, ◌%◌, ◌/◌, ◌||◌, ◌&&◌, Bool, true, false, not, [], get_or, refl, sym, ap, ◌∙◌, arith}
use Rattle.std.proofs.lemmas.Bool.{agree_below_at, and_parts}
use Rattle.bit_boards.specs.declared.piece.Kind.{Kind}
use Rattle.bit_boards.specs.declared.piece.Kind.TheVariants.{Pawn, Lance, Knight, Silver, Gold, Bishop, Rook, King}
use Rattle.bit_boards.specs.declared.piece.Side.{Side}
use Rattle.bit_boards.specs.declared.piece.Side.TheVariants.{Black, White}
use Rattle.bit_boards.specs.declared.piece.Piece.{Piece}
use Rattle.bit_boards.specs.declared.tables.TheConstants.{STEPS}
use Rattle.bit_boards.specs.Gait.{gait_of, row_of_gait, row_of_side}
use Rattle.bit_boards.specs.Kind.{other}
use Rattle.bit_boards.specs.Movement.{steps, slides, goes_by_step, goes_by_slide, distance, on_line, in_reach, share_line, are_near}
use Rattle.bit_boards.specs.Square.{height}
use Rattle.bit_boards.proofs.Masked.{bits_where, for_each_square, each_at}

-- a piece of the side and kind steps from the one square to the other
abbrev pub stepping : Side → Kind → Bool → ℕ → ℕ → Bool
stepping side kind promoted from to = steps kind promoted (distance (from / 9) (to / 9)) (height side from) (height side to)

steps_are : (side : Side) (k : Kind) (p : Bool) → get_or (get_or STEPS (row_of_side side) []) (row_of_gait (gait_of k p)) [] ≡ for_each_square (stepping side k p)
steps_are Black Pawn false = refl
steps_are Black Pawn true = refl
steps_are Black Lance false = refl
steps_are Black Lance true = refl
steps_are Black Knight false = refl
steps_are Black Knight true = refl
steps_are Black Silver false = refl
steps_are Black Silver true = refl
steps_are Black Gold false = refl
steps_are Black Gold true = refl
steps_are Black Bishop false = refl
steps_are Black Bishop true = refl
steps_are Black Rook false = refl
steps_are Black Rook true = refl
steps_are Black King false = refl
steps_are Black King true = refl
steps_are White Pawn false = refl
steps_are White Pawn true = refl
steps_are White Lance false = refl
steps_are White Lance true = refl
steps_are White Knight false = refl
steps_are White Knight true = refl
steps_are White Silver false = refl
steps_are White Silver true = refl
steps_are White Gold false = refl
steps_are White Gold true = refl
steps_are White Bishop false = refl
steps_are White Bishop true = refl
steps_are White Rook false = refl
steps_are White Rook true = refl
steps_are White King false = refl
steps_are White King true = refl

pub steps_at : (side : Side) (k : Kind) (p : Bool) (first row from : ℕ) → first ≡ row_of_side side → row ≡ row_of_gait (gait_of k p) → from < 81
    → get_or (get_or (get_or STEPS first []) row []) from 0 ≡ bits_where (stepping side k p from)
steps_at side k p first row from one two h =
    ap (λ f. get_or (get_or (get_or STEPS f []) row []) from 0) one
    ∙ (ap (λ r. get_or (get_or (get_or STEPS (row_of_side side) []) r []) from 0) two
    ∙ (ap (λ t. get_or t from 0) (steps_are side k p) ∙ each_at (stepping side k p) from h))

-- a step from one height to another is one from the other end, where heights count down; by all
-- distances and heights
abbrev up_or_down : Kind → Bool → ℕ → Bool
up_or_down k p n = steps k p (n / 81) (8 - n / 9 % 9) (8 - n % 9)

abbrev down_or_up : Kind → Bool → ℕ → Bool
down_or_up k p n = steps k p (n / 81) (n % 9) (n / 9 % 9)

turned_at : (k : Kind) (p : Bool) (n : ℕ) → n < 729 → up_or_down k p n ≡ down_or_up k p n
turned_at Pawn false n h = agree_below_at (up_or_down Pawn false) (down_or_up Pawn false) 729 n refl h
turned_at Pawn true n h = agree_below_at (up_or_down Pawn true) (down_or_up Pawn true) 729 n refl h
turned_at Lance false n h = agree_below_at (up_or_down Lance false) (down_or_up Lance false) 729 n refl h
turned_at Lance true n h = agree_below_at (up_or_down Lance true) (down_or_up Lance true) 729 n refl h
turned_at Knight false n h = agree_below_at (up_or_down Knight false) (down_or_up Knight false) 729 n refl h
turned_at Knight true n h = agree_below_at (up_or_down Knight true) (down_or_up Knight true) 729 n refl h
turned_at Silver false n h = agree_below_at (up_or_down Silver false) (down_or_up Silver false) 729 n refl h
turned_at Silver true n h = agree_below_at (up_or_down Silver true) (down_or_up Silver true) 729 n refl h
turned_at Gold false n h = agree_below_at (up_or_down Gold false) (down_or_up Gold false) 729 n refl h
turned_at Gold true n h = agree_below_at (up_or_down Gold true) (down_or_up Gold true) 729 n refl h
turned_at Bishop false n h = agree_below_at (up_or_down Bishop false) (down_or_up Bishop false) 729 n refl h
turned_at Bishop true n h = agree_below_at (up_or_down Bishop true) (down_or_up Bishop true) 729 n refl h
turned_at Rook false n h = agree_below_at (up_or_down Rook false) (down_or_up Rook false) 729 n refl h
turned_at Rook true n h = agree_below_at (up_or_down Rook true) (down_or_up Rook true) 729 n refl h
turned_at King false n h = agree_below_at (up_or_down King false) (down_or_up King false) 729 n refl h
turned_at King true n h = agree_below_at (up_or_down King true) (down_or_up King true) 729 n refl h

turned_by : (k : Kind) (p : Bool) (n aside a b : ℕ) → n / 81 ≡ aside → n / 9 % 9 ≡ a → n % 9 ≡ b
    → up_or_down k p n ≡ down_or_up k p n → steps k p aside (8 - a) (8 - b) ≡ steps k p aside b a
turned_by k p n aside a b x y z e = cc

turned : (k : Kind) (p : Bool) (aside a b : ℕ) → aside < 9 → a < 9 → b < 9 → steps k p aside (8 - a) (8 - b) ≡ steps k p aside b a
turned k p aside a b h i j =
    turned_by k p (81 * aside + 9 * a + b) aside a b (omega arith) (omega arith) (omega arith) (turned_at k p (81 * aside + 9 * a + b) (omega arith))

pub backward : (side : Side) (k : Kind) (p : Bool) (from to : ℕ) → from < 81 → to < 81 → stepping (other side) k p to from ≡ stepping side k p from to
backward Black k p from to h i =
    let apart : distance (to / 9) (from / 9) ≡ distance (from / 9) (to / 9) = omega arith in
    ap (λ x. steps k p x (to % 9) (from % 9)) apart ∙ sym (turned k p (distance (from / 9) (to / 9)) (from % 9) (to % 9) (omega arith) (omega arith) (omega arith))
backward White k p from to h i =
    let apart : distance (to / 9) (from / 9) ≡ distance (from / 9) (to / 9) = omega arith in
    ap (λ x. steps k p x (8 - to % 9) (8 - from % 9)) apart ∙ turned k p (distance (from / 9) (to / 9)) (to % 9) (from % 9) (omega arith) (omega arith) (omega arith)

-- ---- a piece goes only along a line or to a near square

abbrev kept_near : Kind → Bool → ℕ → Bool
kept_near k p n =
    let aside = n / 81 in
    let low = n / 9 % 9 in
    let high = n % 9 in
    (not (steps k p aside low high) || in_reach aside (distance low high)) && (not (slides k p aside low high) || on_line aside (distance low high))

near_at : (k : Kind) (p : Bool) (n : ℕ) → n < 729 → kept_near k p n ≡ true
near_at Pawn false n h = agree_below_at (kept_near Pawn false) (λ _. true) 729 n refl h
near_at Pawn true n h = agree_below_at (kept_near Pawn true) (λ _. true) 729 n refl h
near_at Lance false n h = agree_below_at (kept_near Lance false) (λ _. true) 729 n refl h
near_at Lance true n h = agree_below_at (kept_near Lance true) (λ _. true) 729 n refl h
near_at Knight false n h = agree_below_at (kept_near Knight false) (λ _. true) 729 n refl h
near_at Knight true n h = agree_below_at (kept_near Knight true) (λ _. true) 729 n refl h
near_at Silver false n h = agree_below_at (kept_near Silver false) (λ _. true) 729 n refl h
near_at Silver true n h = agree_below_at (kept_near Silver true) (λ _. true) 729 n refl h
near_at Gold false n h = agree_below_at (kept_near Gold false) (λ _. true) 729 n refl h
near_at Gold true n h = agree_below_at (kept_near Gold true) (λ _. true) 729 n refl h
near_at Bishop false n h = agree_below_at (kept_near Bishop false) (λ _. true) 729 n refl h
near_at Bishop true n h = agree_below_at (kept_near Bishop true) (λ _. true) 729 n refl h
near_at Rook false n h = agree_below_at (kept_near Rook false) (λ _. true) 729 n refl h
near_at Rook true n h = agree_below_at (kept_near Rook true) (λ _. true) 729 n refl h
near_at King false n h = agree_below_at (kept_near King false) (λ _. true) 729 n refl h
near_at King true n h = agree_below_at (kept_near King true) (λ _. true) 729 n refl h

implied : (a b : Bool) → (not a || b) ≡ true → a ≡ true → b ≡ true
implied true b h a = h
implied false b h a = absurd (cc)

near_by : (k : Kind) (p : Bool) (n aside low high : ℕ) → n / 81 ≡ aside → n / 9 % 9 ≡ low → n % 9 ≡ high → kept_near k p n ≡ true
    → ((not (steps k p aside low high) || in_reach aside (distance low high)) && (not (slides k p aside low high) || on_line aside (distance low high))) ≡ true
near_by k p n aside low high x y z e = rw (x, y, z) at e

near_of : (k : Kind) (p : Bool) (aside low high : ℕ) → aside < 9 → low < 9 → high < 9
    → ((not (steps k p aside low high) || in_reach aside (distance low high)) ≡ true) × ((not (slides k p aside low high) || on_line aside (distance low high)) ≡ true)
near_of k p aside low high h i j =
    let n : ℕ = 81 * aside + 9 * low + high in
    and_parts _ _ (near_by k p n aside low high (omega arith) (omega arith) (omega arith) (near_at k p n (omega arith)))

height_small : (s : Side) (n : ℕ) → height s n < 9
height_small Black n = omega arith
height_small White n = omega arith

pub heights_apart : (s : Side) (a b : ℕ) → distance (height s a) (height s b) ≡ distance (a % 9) (b % 9)
heights_apart Black a b = omega arith
heights_apart White a b = omega arith

pub steps_near : (piece : Piece) (from to : ℕ) → from < 81 → to < 81 → goes_by_step piece from to ≡ true → are_near from to ≡ true
steps_near piece from to h i goes =
    let aside : ℕ = distance (from / 9) (to / 9) in
    ap (λ along. in_reach aside along) (sym (heights_apart piece.side from to))
    ∙ implied _ _ (near_of piece.kind piece.promoted aside (height piece.side from) (height piece.side to)
    (omega arith) (height_small piece.side from) (height_small piece.side to)).0 goes

pub slides_lined : (piece : Piece) (from to : ℕ) → from < 81 → to < 81 → goes_by_slide piece from to ≡ true → share_line from to ≡ true
slides_lined piece from to h i goes =
    let aside : ℕ = distance (from / 9) (to / 9) in
    ap (λ along. on_line aside along) (sym (heights_apart piece.side from to))
    ∙ implied _ _ (near_of piece.kind piece.promoted aside (height piece.side from) (height piece.side to)
    (omega arith) (height_small piece.side from) (height_small piece.side to)).1 goes
