-- A position line comes to one thing.
use Rattle.std.proofs.Common.{◌≡◌, inl, inr, ℕ, ◌+◌, List, [], ◌∷◌, Result, Ok, Err, refl, sym, ap, ◌∙◌, subst}
use Rattle.bit_boards.specs.Kind.{other}
use Rattle.board_core.specs.Board.{Board, HasDefender}
use Rattle.board_core.specs.declared.moves.Move.{Move}
use Rattle.shogi_rules.specs.Rules.{IsInCheck, after}
use Rattle.shogi_rules.specs.Tsume.{IsProblem}
use Rattle.sfen_text.specs.Faults.{IsReadingOutcome}
use Rattle.sfen_text.specs.Laws.{OneReadingOutcome}
use Rattle.sfen_text.specs.declared.fault.TextFault.{TextFault}
use Rattle.usi_text.specs.MoveText.{MoveTextsApart}
use Rattle.usi_session.specs.Positions.{Refusal, BadSfen, DefenderInCheck, IllegalMove, NoDefenderKing, IsMoveOn, LeadTo, HasFirstIllegal, IsPositionOutcome}

-- ---- moves

move-one : MoveTextsApart → (b : Board) (field : List ℕ) (m n : Move) → IsMoveOn b field m → IsMoveOn b field n → m ≡ n
move-one apart b field m n one two = apart m n (sym one.0.1 ∙ two.0.1)

lead-one : MoveTextsApart → (b : Board) (fields : List (List ℕ)) (x y : Board) → LeadTo b fields x → LeadTo b fields y → x ≡ y
lead-one apart b [] x y one two = one ∙ sym two
lead-one apart b (field ∷ fields) x y (m, on, one) (n, too, two) =
    let same = move-one apart b field m n on too in
    lead-one apart (after b m) fields x y one (subst (λ (k : Move). LeadTo (after b k) fields y) (sym same) two)

lead-legal : MoveTextsApart → (b : Board) (here : ℕ) (fields : List (List ℕ)) (x : Board) (number : ℕ) (text : List ℕ) → LeadTo b fields x → HasFirstIllegal b here fields number text → ⊥
lead-legal apart b here [] x number text one two = two
lead-legal apart b here (field ∷ fields) x number text (m, on, one) (inl two) = two.2 m on
lead-legal apart b here (field ∷ fields) x number text (m, on, one) (inr (n, too, two)) =
    let same = move-one apart b field m n on too in
    lead-legal apart (after b m) (here + 1) fields x number text one (subst (λ (k : Move). HasFirstIllegal (after b k) (here + 1) fields number text) (sym same) two)

illegal-one : MoveTextsApart → (b : Board) (here : ℕ) (fields : List (List ℕ)) (i j : ℕ) (t u : List ℕ) → HasFirstIllegal b here fields i t → HasFirstIllegal b here fields j u → (i ≡ j) × (t ≡ u)
illegal-one apart b here [] i j t u one two = absurd one
illegal-one apart b here (field ∷ fields) i j t u (inl one) (inl two) = (one.0 ∙ sym two.0, one.1 ∙ sym two.1)
illegal-one apart b here (field ∷ fields) i j t u (inl one) (inr (n, too, two)) = absurd (one.2 n too)
illegal-one apart b here (field ∷ fields) i j t u (inr (m, on, one)) (inl two) = absurd (two.2 m on)
illegal-one apart b here (field ∷ fields) i j t u (inr (m, on, one)) (inr (n, too, two)) =
    let same = move-one apart b field m n on too in
    illegal-one apart (after b m) (here + 1) fields i j t u one (subst (λ (k : Move). HasFirstIllegal (after b k) (here + 1) fields j u) (sym same) two)

-- ---- behind what an SFEN spells

AfterFirst : Board → List (List ℕ) → Result Board Refusal → Type 0
AfterFirst first moves (Ok problem) = IsProblem first × LeadTo first moves problem × HasDefender problem
AfterFirst first moves (Err (BadSfen fault)) = ⊥
AfterFirst first moves (Err DefenderInCheck) = IsInCheck first.cells (other first.side)
AfterFirst first moves (Err (IllegalMove number text)) = IsProblem first × HasFirstIllegal first 1 moves number text
AfterFirst first moves (Err NoDefenderKing) = IsProblem first × ((last : Board) × LeadTo first moves last × ¬ HasDefender last)

Behind : Result Board TextFault → List (List ℕ) → Result Board Refusal → Type 0
Behind (Ok first) moves outcome = AfterFirst first moves outcome
Behind (Err fault) moves outcome = outcome ≡ Err (BadSfen fault)

read-of : (sfen : List ℕ) (moves : List (List ℕ)) (outcome : Result Board Refusal) → IsPositionOutcome sfen moves outcome
    → (read : Result Board TextFault) × IsReadingOutcome sfen read × Behind read moves outcome
unfolding AfterFirst Behind
read-of sfen moves (Ok problem) (first, spells, leads, is) = (Ok first, spells.0, (spells.1, leads, is.has_king))
read-of sfen moves (Err (BadSfen fault)) is = (Err fault, is, refl)
read-of sfen moves (Err DefenderInCheck) (first, spells, check) = (Ok first, spells, check)
read-of sfen moves (Err (IllegalMove number text)) (first, spells, illegal) = (Ok first, spells.0, (spells.1, illegal))
read-of sfen moves (Err NoDefenderKing) (first, spells, last) = (Ok first, spells.0, (spells.1, last))

after-one : MoveTextsApart → (first : Board) (moves : List (List ℕ)) (x y : Result Board Refusal) → AfterFirst first moves x → AfterFirst first moves y → x ≡ y
unfolding AfterFirst
after-one apart first moves (Ok a) (Ok b) one two = ap Ok (lead-one apart first moves a b one.1 two.1)
after-one apart first moves (Ok a) (Err DefenderInCheck) one two = absurd (one.0.quiet two)
after-one apart first moves (Ok a) (Err (IllegalMove n t)) one two = absurd (lead-legal apart first 1 moves a n t one.1 two.1)
after-one apart first moves (Ok a) (Err NoDefenderKing) one two = absurd (two.1.2 (subst HasDefender (lead-one apart first moves a two.1.0 one.1 two.1.1) one.2))
after-one apart first moves (Err DefenderInCheck) (Ok b) one two = absurd (two.0.quiet one)
after-one apart first moves (Err DefenderInCheck) (Err DefenderInCheck) one two = refl
after-one apart first moves (Err DefenderInCheck) (Err (IllegalMove n t)) one two = absurd (two.0.quiet one)
after-one apart first moves (Err DefenderInCheck) (Err NoDefenderKing) one two = absurd (two.0.quiet one)
after-one apart first moves (Err (IllegalMove n t)) (Ok b) one two = absurd (lead-legal apart first 1 moves b n t two.1 one.1)
after-one apart first moves (Err (IllegalMove n t)) (Err DefenderInCheck) one two = absurd (one.0.quiet two)
after-one apart first moves (Err (IllegalMove n t)) (Err (IllegalMove m u)) one two =
    let same = illegal-one apart first 1 moves n m t u one.1 two.1 in
    let numbers = same.0 in
    let texts = same.1 in
    cc
after-one apart first moves (Err (IllegalMove n t)) (Err NoDefenderKing) one two = absurd (lead-legal apart first 1 moves two.1.0 n t two.1.1 one.1)
after-one apart first moves (Err NoDefenderKing) (Ok b) one two = absurd (one.1.2 (subst HasDefender (lead-one apart first moves b one.1.0 two.1 one.1.1) two.2))
after-one apart first moves (Err NoDefenderKing) (Err DefenderInCheck) one two = absurd (one.0.quiet two)
after-one apart first moves (Err NoDefenderKing) (Err (IllegalMove n t)) one two = absurd (lead-legal apart first 1 moves one.1.0 n t one.1.1 two.1)
after-one apart first moves (Err NoDefenderKing) (Err NoDefenderKing) one two = refl
after-one apart first moves (Err (BadSfen fault)) y one two = absurd one
after-one apart first moves x (Err (BadSfen fault)) one two = absurd two

behind-one : MoveTextsApart → (read : Result Board TextFault) (moves : List (List ℕ)) (x y : Result Board Refusal) → Behind read moves x → Behind read moves y → x ≡ y
unfolding Behind
behind-one apart (Ok first) moves x y one two = after-one apart first moves x y one two
behind-one apart (Err fault) moves x y one two = one ∙ sym two

pub position-outcome-one : OneReadingOutcome → MoveTextsApart → (sfen : List ℕ) (moves : List (List ℕ)) (x y : Result Board Refusal)
    → IsPositionOutcome sfen moves x → IsPositionOutcome sfen moves y → x ≡ y
position-outcome-one reads apart sfen moves x y one two =
    let first = read-of sfen moves x one in
    let second = read-of sfen moves y two in
    let same = reads sfen first.0 second.0 first.1 second.1 in
    behind-one apart first.0 moves x y first.2 (subst (λ (r : Result Board TextFault). Behind r moves y) (sym same) second.2)
