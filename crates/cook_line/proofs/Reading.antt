-- Lines are read move by move.
use Rattle.std.proofs.Common.{◌≡◌, ◌+◌, ◌∙◌, ◌++◌, ◌∷◌, [], ℕ, List, length, length-append, append_assoc, append-nil, inl, inr, arith, ap, refl, sym, subst}
use Rattle.std.specs.Prelude.{Some}
use Rattle.std.proofs.lemmas.List.Splits.{length-slice_split}
use Rattle.bit_boards.specs.declared.piece.Side.{Side}
use Rattle.board_core.specs.declared.moves.Move.{Move}
use Rattle.board_core.specs.Board.{Board}
use Rattle.sfen_text.specs.Bytes.{is_space}
use Rattle.usi_text.specs.MoveText.{IsRead, MoveTextsApart}
use Rattle.shogi_rules.specs.Rules.{IsQuiet, after}
use Rattle.kif_moves.specs.Playing.{AreInTurn}
use Rattle.cook_line.specs.Moves.{IsMoveOn, SayMoves, HasFirstBad, SaysLine, HasBadMove, LinesAreFaultless, OneBadMove, LinesAreInTurn, parts_of}

-- 1. No part is two moves.

one_move : MoveTextsApart → (part : List ℕ) (m n : Move) → IsRead part (Some m) → IsRead part (Some n) → m ≡ n
one_move apart part m n h k = apart m n (sym h.1 ∙ k.1)

no_bad : MoveTextsApart → (attacker : Side) (b : Board) (here : ℕ) (parts : List (List ℕ)) (ms : List Move) (number : ℕ)
    → SayMoves attacker b parts ms → HasFirstBad attacker b here parts number → ⊥
no_bad apart attacker b here [] ms number says bad = bad
no_bad apart attacker b here (part ∷ parts) [] number says bad = says
no_bad apart attacker b here (part ∷ parts) (m ∷ ms) number says (inl first) = first.1 m says.0
no_bad apart attacker b here (part ∷ parts) (m ∷ ms) number says (inr later) =
    let same : m ≡ later.0 = one_move apart part m later.0 says.0.0 later.1.0 in
    no_bad apart attacker (after b later.0) (here + 1) parts ms number (subst (λ (n : Move). SayMoves attacker (after b n) parts ms) same says.1) later.2

pub faultless : MoveTextsApart → LinesAreFaultless
faultless apart p text ms number says bad = no_bad apart p.side p 1 (parts_of text) ms number says bad

one_bad_from : MoveTextsApart → (attacker : Side) (b : Board) (here : ℕ) (parts : List (List ℕ)) (number other : ℕ)
    → HasFirstBad attacker b here parts number → HasFirstBad attacker b here parts other → number ≡ other
one_bad_from apart attacker b here [] number other h k = absurd h
one_bad_from apart attacker b here (part ∷ parts) number other (inl h) (inl k) = h.0 ∙ sym k.0
one_bad_from apart attacker b here (part ∷ parts) number other (inl h) (inr k) = absurd (h.1 k.0 k.1)
one_bad_from apart attacker b here (part ∷ parts) number other (inr h) (inl k) = absurd (k.1 h.0 h.1)
one_bad_from apart attacker b here (part ∷ parts) number other (inr h) (inr k) =
    let same : h.0 ≡ k.0 = one_move apart part h.0 k.0 h.1.0 k.1.0 in
    one_bad_from apart attacker (after b k.0) (here + 1) parts number other
    (subst (λ (n : Move). HasFirstBad attacker (after b n) (here + 1) parts number) same h.2) k.2

pub one_bad : MoveTextsApart → OneBadMove
one_bad apart p text number other h k = one_bad_from apart p.side p 1 (parts_of text) number other h k

-- 2. What is said is a line.

turns : (attacker : Side) (b : Board) (parts : List (List ℕ)) (ms : List Move) → SayMoves attacker b parts ms → AreInTurn attacker b ms
turns attacker b [] [] says = tt
turns attacker b [] (m ∷ ms) says = absurd says
turns attacker b (part ∷ parts) [] says = absurd says
turns attacker b (part ∷ parts) (m ∷ ms) says = (says.0.1, turns attacker (after b m) parts ms says.1)

no_parts : (attacker : Side) (b : Board) (parts : List (List ℕ)) → SayMoves attacker b parts [] → length parts ≡ 0
no_parts attacker b [] says = refl
no_parts attacker b (part ∷ parts) says = absurd says

pub in_turn : LinesAreInTurn
in_turn p text ms says = record {
  in_turn = turns p.side p (parts_of text) ms says;
  some = λ none.
      let long = length-slice_split is_space text in
      let empty = no_parts p.side p (parts_of text) (subst (SayMoves p.side p (parts_of text)) none says) in
      absurd (omega (arith, long, empty));
}

-- 3. Reading.

-- how far a text is read: what is said from here on is said of all
pub record IsReadTo (p : Board) (text : List ℕ) (b : Board) (ms : List Move) (rest : List (List ℕ)) : Type 0 where
  pub quiet : IsQuiet b
  pub says : (more : List Move) → SayMoves p.side b rest more → SaysLine p text (ms ++ more)
  pub bad : (number : ℕ) → HasFirstBad p.side b (length ms + 1) rest number → HasBadMove p text number

pub read_none : (p : Board) (text : List ℕ) (ms : List Move) → IsQuiet p → ms ≡ [] → IsReadTo p text p ms (parts_of text)
read_none p text ms quiet none = subst (λ (ns : List Move). IsReadTo p text p ns (parts_of text)) (sym none)
    (record { quiet = quiet; says = λ more said. said; bad = λ number first. first })

pub read_more : (p : Board) (text : List ℕ) (b next : Board) (ms longer : List Move) (rest behind : List (List ℕ)) (part : List ℕ) (m : Move)
    → IsReadTo p text b ms rest → rest ≡ part ∷ behind → IsMoveOn p.side b part m → next ≡ after b m → longer ≡ ms ++ m ∷ [] → IsQuiet next
    → IsReadTo p text next longer behind
read_more p text b next ms longer rest behind part m so_far cut on is more quiet = record {
  quiet = quiet;
  says = λ others said.
      subst (SaysLine p text) (sym (append_assoc ms (m ∷ []) others) ∙ ap (λ (ns : List Move). ns ++ others) (sym more))
      (so_far.says (m ∷ others)
      (subst (λ (parts : List (List ℕ)). SayMoves p.side b parts (m ∷ others)) (sym cut) (on, subst (λ (c : Board). SayMoves p.side c behind others) is said)));
  bad = λ number first.
      let long : length longer ≡ length ms + 1 = ap length more ∙ length-append ms (m ∷ []) in
      so_far.bad number (subst (λ (parts : List (List ℕ)). HasFirstBad p.side b (length ms + 1) parts number) (sym cut)
      (inr (
        m,
        on,
        subst (λ (c : Board). HasFirstBad p.side c (length ms + 1 + 1) behind number) is
            (subst (λ (n : ℕ). HasFirstBad p.side next (n + 1) behind number) long first),
      )));
}

pub read_all : (p : Board) (text : List ℕ) (b : Board) (ms : List Move) → IsReadTo p text b ms [] → SaysLine p text ms
read_all p text b ms so_far = subst (SaysLine p text) (append-nil ms) (so_far.says [] tt)

pub read_bad : (p : Board) (text : List ℕ) (b : Board) (ms : List Move) (rest behind : List (List ℕ)) (part : List ℕ)
    → IsReadTo p text b ms rest → rest ≡ part ∷ behind → ((m : Move) → ¬ IsMoveOn p.side b part m) → HasBadMove p text (length ms + 1)
read_bad p text b ms rest behind part so_far cut none =
    so_far.bad (length ms + 1) (subst (λ (parts : List (List ℕ)). HasFirstBad p.side b (length ms + 1) parts (length ms + 1)) (sym cut) (inl (refl, none)))
