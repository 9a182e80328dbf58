-- No two moves have one text.
use Rattle.std.proofs.Common.{Option, Some, None, ◌≡◌, ◌≢◌, ◌+◌, ℕ, List, [], ◌∷◌, Bool, true, false, arith, ap, sym, refl, ◌∙◌}
use Rattle.bit_boards.specs.declared.square.Square.{Square}
use Rattle.board_core.specs.declared.moves.Move.{Move}
use Rattle.board_core.specs.declared.moves.Move.TheVariants as moves
use Rattle.board_core.specs.Laws.{SquaresApart}
use Rattle.bit_boards.specs.Square.{file_of, row_of}
use Rattle.board_core.specs.Laws.{LettersApart}
use Rattle.board_core.specs.Text.{HasText}
use Rattle.usi_text.specs.MoveText.{square_text, promotion_text, move_text, IsRead}

pub square_apart : SquaresApart → (a b : Square) → 48 + file_of a.number ≡ 48 + file_of b.number → 96 + row_of a.number ≡ 96 + row_of b.number
    → a ≡ b
square_apart squares a b file row = squares a b (omega (arith, a.on_board, b.on_board))

promotion_apart : (p q : Bool) → promotion_text p ≡ promotion_text q → p ≡ q
promotion_apart true true h = refl
promotion_apart true false h = absurd cc
promotion_apart false true h = absurd cc
promotion_apart false false h = refl

abbrev head : List ℕ → ℕ
head [] = 0
head (x ∷ xs) = x

abbrev rest : List ℕ → List ℕ
rest [] = []
rest (x ∷ xs) = xs

pub move_apart : SquaresApart → LettersApart → (a b : Move) → move_text a ≡ move_text b → a ≡ b
move_apart squares letters (moves.Board f t p) (moves.Board g u q) h =
    let from : f ≡ g = square_apart squares f g (ap head h) (ap (λ xs. head (rest xs)) h) in
    let to : t ≡ u = square_apart squares t u (ap (λ xs. head (rest (rest xs))) h) (ap (λ xs. head (rest (rest (rest xs)))) h) in
    let turn : p ≡ q = promotion_apart p q (ap (λ xs. rest (rest (rest (rest xs)))) h) in
    cc
move_apart squares letters (moves.Board f t p) (moves.Drop k u) h = let star : 96 + row_of f.number ≡ 42 = ap (λ xs. head (rest xs)) h in absurd (omega (arith, f.on_board))
move_apart squares letters (moves.Drop k t) (moves.Board g u q) h = let star : 42 ≡ 96 + row_of g.number = ap (λ xs. head (rest xs)) h in absurd (omega (arith, g.on_board))
move_apart squares letters (moves.Drop k t) (moves.Drop l u) h =
    let kind : k ≡ l = letters k l (ap head h) in
    let to : t ≡ u = square_apart squares t u (ap (λ xs. head (rest (rest xs))) h) (ap (λ xs. head (rest (rest (rest xs)))) h) in
    cc

-- What is read is the one move with that text.
pub is_again : SquaresApart → LettersApart → (bytes : List ℕ) (r : Option Move) → IsRead bytes r → (m : Move) → HasText m → bytes ≡ move_text m → r ≡ Some m
is_again squares letters bytes None none m h e = absurd (none m h e)
is_again squares letters bytes (Some n) found m h e = ap Some (move_apart squares letters n m (sym found.1 ∙ e))

-- Where the first square isn't one, the text is no move's.
pub no_origin : (f r g s : ℕ) (promote : Bool) → (promote ≡ false → r ≢ 42) → ((q : Square) → square_text q.number ≡ f ∷ r ∷ [] → ⊥)
    → (m : Move) → HasText m → f ∷ r ∷ g ∷ s ∷ promotion_text promote ≡ move_text m → ⊥
no_origin f r g s promote star none (moves.Board from to p) h e = none from cc
no_origin f r g s false star none (moves.Drop k to) h e = star refl cc
no_origin f r g s true star none (moves.Drop k to) h e = absurd cc

-- What is written is no other move's text.
pub only_text : SquaresApart → LettersApart → (m other : Move) (text : List ℕ) → text ≡ move_text m → move_text other ≡ text → other ≡ m
only_text squares letters m other text e h = move_apart squares letters other m (h ∙ e)
