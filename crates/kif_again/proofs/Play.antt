-- The lines of all moves say them.
use Rattle.std.proofs.Common.{◌≡◌, ◌≢◌, ◌<◌, ◌+◌, ◌^◌, ◌++◌, inl, inr, ℕ, zero, suc, Bool, true, false, not, List, [], ◌∷◌, length, Option, Some, None, refl, sym, subst, ap, ap₂, ◌∙◌, arith, option_map, slice_index}
use Rattle.std.specs.List.{AllByRecursion, filter, take_while}
use Rattle.std.proofs.lemmas.Bool.{cond-true}
use Rattle.std.proofs.lemmas.List.Sums.{take_while-cons}
use Rattle.bit_boards.specs.declared.piece.Kind.{Kind}
use Rattle.bit_boards.specs.declared.piece.Kind.TheVariants.{King}
use Rattle.bit_boards.specs.declared.piece.Side.{Side}
use Rattle.bit_boards.specs.declared.piece.Side.TheVariants.{Black, White}
use Rattle.bit_boards.specs.declared.square.Square.{Square}
use Rattle.board_core.specs.declared.moves.Move.{Move}
use Rattle.board_core.specs.declared.moves.Move.TheVariants as moves
use Rattle.board_core.specs.Board.{Board, hand_of}
use Rattle.board_core.specs.Kept.{IsKept}
use Rattle.shogi_rules.specs.Rules.{IsLegal, after}
use Rattle.shogi_rules.specs.declared.illegal.Illegal.TheVariants.{NotInHand}
use Rattle.shogi_rules.proofs.Offered.{kept_after}
use Rattle.kif_record.specs.Diagram.{line}
use Rattle.kif_record.specs.Moves.{goes_to, moves_text}
use Rattle.kif_moves.specs.Lines.{Line, counted, is_end, is_skipped, numbered}
use Rattle.kif_moves.specs.Playing.{AreInTurn, IsInTurn, SayAll, goal}
use Rattle.kif_again.proofs.Lines.{text_of}
use Rattle.kif_again.proofs.Moves.{EndAgain, LineAgain, goal_is, line_again, line_of}
use Rattle.kif_again.proofs.Written.{Written}

legal_of : (attacker : Side) (b : Board) (move : Move) → IsInTurn attacker b move → IsLegal b move
legal_of attacker b move (inl check) = check.legal
legal_of attacker b move (inr evasion) = evasion.legal

nothing_past : (hand : List ℕ) → length hand ≡ 7 → slice_index hand 7 ≡ 0
nothing_past (a ∷ b ∷ c ∷ d ∷ e ∷ f ∷ g ∷ []) long = refl
nothing_past [] long = refl
nothing_past (a ∷ []) long = refl
nothing_past (a ∷ b ∷ []) long = refl
nothing_past (a ∷ b ∷ c ∷ []) long = refl
nothing_past (a ∷ b ∷ c ∷ d ∷ []) long = refl
nothing_past (a ∷ b ∷ c ∷ d ∷ e ∷ []) long = refl
nothing_past (a ∷ b ∷ c ∷ d ∷ e ∷ f ∷ []) long = refl
nothing_past (a ∷ b ∷ c ∷ d ∷ e ∷ f ∷ g ∷ h ∷ rest) long = absurd (omega (arith, long))

hand_long : (b : Board) (side : Side) → IsKept b → length (hand_of b side) ≡ 7
hand_long b Black kept = kept.black
hand_long b White kept = kept.white

no_king : (b : Board) (move : Move) → IsKept b → IsLegal b move → (kind : Kind) (to : Square) → move ≡ moves.Drop kind to → kind ≢ King
no_king b move kept legal piece to is king =
    let drop : move ≡ moves.Drop King to = is ∙ ap (λ (k : Kind). moves.Drop k to) king in
    let is_legal = subst (λ (m : Move). IsLegal b m) drop legal in
    is_legal NotInHand (nothing_past (hand_of b b.side) (hand_long b b.side kept))

-- The lines of moves.
abbrev pub move_texts : ℕ → Option Square → Board → List Move → List (List ℕ)
move_texts number last b [] = []
move_texts number last b (move ∷ more) = line_of number last b move ∷ move_texts (number + 1) (Some (goes_to move)) (after b move) more

pub moves_are : (number : ℕ) (last : Option Square) (b : Board) (moves : List Move) → moves_text number last b moves ≡ text_of (move_texts number last b moves)
moves_are number last b [] = refl
moves_are number last b (move ∷ more) = ap (λ (t : List ℕ). line (line_of number last b move) ++ t) (moves_are (number + 1) (Some (goes_to move)) (after b move) more)

-- A line that is characters.
abbrev pub IsWritten : List ℕ → Type 0
IsWritten text = (characters : List ℕ) × Written text characters

-- Of lines that are moves' and one that ends them, the moves' count.
abbrev pub Counts : List ℕ → Type 0
Counts text = (is_skipped text ≡ false) × (is_end text ≡ false)

pub counted_again : (first : ℕ) (texts : List (List ℕ)) (end : List ℕ) → AllByRecursion Counts texts → EndAgain end → counted (numbered first (texts ++ end ∷ [])) ≡ numbered first texts
unfolding counted
counted_again first [] end all last = rw (last.counts, last.ends) refl
counted_again first (text ∷ texts) end all last =
    let p : Line → Bool = λ line. not (is_end line.text) in
    let q : Line → Bool = λ line. not (is_skipped line.text) in
    let one : Line = record { number = first; text = text } in
    let others : List Line = numbered (first + 1) (texts ++ end ∷ []) in
    ap (take_while p) (cond-true (q one) (one ∷ filter q others) (filter q others) (ap not all.0.0)) ∙ take_while-cons p one (filter q others) ∙ cond-true _ _ _ (ap not all.0.1)
    ∙ ap (λ (ls : List Line). one ∷ ls) (counted_again (first + 1) texts end all.1 last)

-- What is read again of all moves.
pub record PlayAgain (b : Board) (last : Option Square) (moves : List Move) (texts : List (List ℕ)) : Type 0 where
  pub says : (first : ℕ) → SayAll b (option_map (λ (s : Square). s.number) last) (numbered first texts) moves
  pub counts : AllByRecursion Counts texts
  pub written : AllByRecursion IsWritten texts

pub play_again : (attacker : Side) (b : Board) (last : Option Square) (number : ℕ) (moves : List Move) → number + length moves < 2 ^ 64 → IsKept b → AreInTurn attacker b moves
    → PlayAgain b last moves (move_texts number last b moves)
play_again attacker b last number [] small kept turn = record { says = λ first. tt; counts = tt; written = tt }
play_again attacker b last number (move ∷ more) small kept turn =
    let legal = legal_of attacker b move turn.0 in
    let line = line_again b last number move (omega (arith, small)) legal (no_king b move kept legal) in
    let rest = play_again attacker (after b move) (Some (goes_to move)) (number + 1) more (omega (arith, small)) (kept_after b move kept legal) turn.1 in
    record {
      says = λ first. (line.says, subst (λ (g : ℕ). SayAll (after b move) (Some g) (numbered (first + 1) (move_texts (number + 1) (Some (goes_to move)) (after b move) more)) more) (goal_is move) (rest.says (first + 1)));
      counts = ((line.counts, line.goes_on), rest.counts);
      written = ((line.characters, line.written), rest.written);
    }
