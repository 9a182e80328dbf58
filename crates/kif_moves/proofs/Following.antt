-- The lines are followed one after the other.
use Rattle.std.proofs.Common.{◌≡◌, ◌<◌, ◌≤◌, ◌+◌, ◌++◌, ◌∷◌, [], ℕ, suc, List, Bool, true, false, Option, Some, None, Ok, Err, Result, inl, inr, length, length-drop, drop, get_or, drop-cons, drop_of_length-le, le_of_eq, refl, sym, ap, ◌∙◌, subst, arith, append_assoc, append-nil}
use Rattle.std.specs.Prelude.{not, take, nat_eq, if◌then◌else◌}
use Rattle.std.specs.List.{filter, prefix_len, starts_with}
use Rattle.kif_text.specs.Lines.{without_mark}
use Rattle.board_core.specs.declared.moves.Move.{Move}
use Rattle.board_core.specs.Board.{Board}
use Rattle.shogi_rules.specs.Rules.{after}
use Rattle.kif_moves.specs.declared.fault.KifMovesFault.{KifMovesFault}
use Rattle.kif_moves.specs.Lines.{Line, numbered, is_skipped, is_end, counted}
use Rattle.kif_moves.specs.Playing.{goal, IsInTurn, Says, HasLineFault}
use Rattle.kif_moves.specs.Steps.{IsPlayed}

-- 1. Which lines count.

pub counted_skipped : (line : Line) (rest : List Line) → is_skipped line.text ≡ true → counted (line ∷ rest) ≡ counted rest
unfolding counted
counted_skipped line rest skipped = rw skipped refl

pub counted_ended : (line : Line) (rest : List Line) → is_skipped line.text ≡ false → is_end line.text ≡ true → counted (line ∷ rest) ≡ []
unfolding counted
counted_ended line rest kept ends = rw (kept, ends) refl

pub counted_more : (line : Line) (rest : List Line) → is_skipped line.text ≡ false → is_end line.text ≡ false → counted (line ∷ rest) ≡ line ∷ counted rest
unfolding counted
counted_more line rest kept goes =
    let left = filter (λ (l : Line). not (is_skipped l.text)) rest in
    let one : 1 + prefix_len (λ (l : Line). not (is_end l.text)) left ≡ suc (prefix_len (λ (l : Line). not (is_end l.text)) left) = omega arith in
    rw (kept, goes) (ap (λ (n : ℕ). take n (line ∷ left)) one)

pub counted_none : (number : ℕ) → counted (numbered number []) ≡ []
unfolding counted
counted_none number = refl

-- the lines from one of them on
pub from_line : (number n : ℕ) (lines : List (List ℕ)) (text : List ℕ) → n < length lines → text ≡ get_or lines n text
    → numbered number (drop n lines) ≡ record { number = number; text = text } ∷ numbered (number + 1) (drop (n + 1) lines)
from_line number n lines text h is =
    let more : suc n ≡ n + 1 = omega arith in
    let parts : drop n lines ≡ get_or lines n text ∷ drop (n + 1) lines
    = drop-cons lines n text h ∙ ap (λ (k : ℕ). get_or lines n text ∷ drop k lines) more in
    ap (λ (l : List (List ℕ)). numbered number l) (parts ∙ ap (λ (t : List ℕ). t ∷ drop (n + 1) lines) (sym is))

-- 2. What the moves so far lead to.

-- what comes of the rest, behind the moves so far
abbrev pub joined : List Move → Result (List Move) KifMovesFault → Result (List Move) KifMovesFault
joined ms (Ok rest) = Ok (ms ++ rest)
joined ms (Err fault) = Err fault

-- whatever comes of the lines left from here on comes of all
abbrev pub LeadsOn : Board → List Line → Board → Option ℕ → List Line → List Move → Type 0
LeadsOn p all b last left ms = (outcome : Result (List Move) KifMovesFault) → IsPlayed p.side b last left outcome → IsPlayed p.side p None all (joined ms outcome)

pub begins : (p : Board) (all : List Line) (ms : List Move) → ms ≡ [] → LeadsOn p all p None all ms
begins p all ms none (Ok rest) h = subst (λ (l : List Move). IsPlayed p.side p None all (Ok (l ++ rest))) (sym none) h
begins p all ms none (Err fault) h = h

pub skips : (p b : Board) (all rest : List Line) (last : Option ℕ) (line : Line) (ms : List Move) → is_skipped line.text ≡ true
    → LeadsOn p all b last (counted (line ∷ rest)) ms → LeadsOn p all b last (counted rest) ms
skips p b all rest last line ms skipped leads = subst (λ (l : List Line). LeadsOn p all b last l ms) (counted_skipped line rest skipped) leads

pub ends : (p b : Board) (all left : List Line) (last : Option ℕ) (ms : List Move) → left ≡ [] → LeadsOn p all b last left ms
    → IsPlayed p.side p None all (Ok ms)
ends p b all left last ms none leads =
    subst (λ (l : List Move). IsPlayed p.side p None all (Ok l)) (append-nil ms)
    (leads (Ok []) (subst (λ (l : List Line). IsPlayed p.side b last l (Ok [])) (sym none) (tt, tt)))

pub fails : (p b : Board) (all rest : List Line) (last : Option ℕ) (line : Line) (ms : List Move) (fault : KifMovesFault)
    → is_skipped line.text ≡ false → is_end line.text ≡ false → HasLineFault p.side b last line fault
    → LeadsOn p all b last (counted (line ∷ rest)) ms → IsPlayed p.side p None all (Err fault)
fails p b all rest last line ms fault kept goes there leads =
    leads (Err fault) (subst (λ (l : List Line). IsPlayed p.side b last l (Err fault)) (sym (counted_more line rest kept goes)) (inl there))

plays_on : (p b : Board) (all rest : List Line) (last : Option ℕ) (line : Line) (ms : List Move) (m : Move)
    → Says b last line.text m → IsInTurn p.side b m → LeadsOn p all b last (line ∷ rest) ms
    → LeadsOn p all (after b m) (Some (goal m)) rest (ms ++ m ∷ [])
plays_on p b all rest last line ms m says turn leads (Ok ns) h =
    subst (λ (l : List Move). IsPlayed p.side p None all (Ok l)) (sym (append_assoc ms (m ∷ []) ns)) (leads (Ok (m ∷ ns)) ((says, h.0), (turn, h.1)))
plays_on p b all rest last line ms m says turn leads (Err fault) h = leads (Err fault) (inr (m, says, turn, h))

pub plays : (p b next : Board) (all rest : List Line) (last : Option ℕ) (line : Line) (ms longer : List Move) (m : Move)
    → is_skipped line.text ≡ false → is_end line.text ≡ false → Says b last line.text m → IsInTurn p.side b m
    → next ≡ after b m → longer ≡ ms ++ m ∷ []
    → LeadsOn p all b last (counted (line ∷ rest)) ms → LeadsOn p all next (Some (goal m)) (counted rest) longer
plays p b next all rest last line ms longer m kept goes says turn there more leads =
    subst (λ (l : List Move). LeadsOn p all next (Some (goal m)) (counted rest) l) (sym more)
    (subst (λ (c : Board). LeadsOn p all c (Some (goal m)) (counted rest) (ms ++ m ∷ [])) (sym there)
    (plays_on p b all (counted rest) last line ms m says turn
    (subst (λ (l : List Line). LeadsOn p all b last l ms) (counted_more line rest kept goes) leads)))

-- all lines were taken
pub counted_done : (number n : ℕ) (lines : List (List ℕ)) → n ≡ length lines → counted (numbered number (drop n lines)) ≡ []
counted_done number n lines all =
    let none : drop n lines ≡ [] = drop_of_length-le lines (le_of_eq (sym all)) in
    ap (λ (l : List (List ℕ)). counted (numbered number l)) none ∙ counted_none number

-- a text without its mark is no longer
pub unmarked : (text rest : List ℕ) → rest ≡ without_mark text → length rest ≤ length text
unmarked text rest same = subst (λ (l : List ℕ). length l ≤ length text) (sym same) (by (starts_with nat_eq text (0xEF ∷ 0xBB ∷ 0xBF ∷ [])))
  where
    by : (b : Bool) → length (if b then drop 3 text else text) ≤ length text
    by true = let dropped = length-drop 3 text in omega arith
    by false = omega arith
