-- A line names one move, and has no fault where that is right.
use Rattle.std.proofs.Common.{◌≡◌, ℕ, List, Bool, false, Option, Some, None, Ok, Err, Result, inl, inr, refl, sym, ap, ◌∙◌, subst, subst₂}
use Rattle.bit_boards.specs.declared.piece.Piece.{Piece}
use Rattle.bit_boards.specs.declared.piece.Side.{Side}
use Rattle.bit_boards.specs.declared.piece.Side.TheVariants.{Black, White}
use Rattle.bit_boards.specs.Kind.{other}
use Rattle.board_core.specs.declared.moves.Move.{Move}
use Rattle.board_core.specs.declared.moves.Move.TheVariants as moves
use Rattle.board_core.specs.Board.{Board}
use Rattle.board_core.specs.Laws.{SquaresApart}
use Rattle.shogi_rules.specs.Rules.{IsLegal, IsInCheck, after}
use Rattle.shogi_rules.specs.Tsume.{IsCheck}
use Rattle.kif_moves.specs.declared.fault.KifMovesFault.{KifMovesFault}
use Rattle.kif_moves.specs.declared.fault.KifMovesFault.TheVariants as faults
use Rattle.kif_moves.specs.declared.judge.Step.{Step}
use Rattle.kif_moves.specs.declared.judge.Step.TheVariants as steps
use Rattle.kif_moves.specs.Words.{Way, dropped, gone, Spoken, IsMoveOf, goal_of, name_of, way_of, spoken_of}
use Rattle.kif_moves.specs.Steps.{IsMoveJudged, IsJudged}
use Rattle.kif_moves.specs.Lines.{Line, is_skipped, is_end}
use Rattle.kif_moves.specs.Playing.{named_in, Names, HasName, IsInTurn, Says, NamesIllegal, NamesOther, SaysNoCheck, HasLineFault}
use Rattle.board_laws.proofs.Sides.{other_apart}

abbrev from_of : Way → ℕ
from_of dropped = 0
from_of (gone from promote) = from

abbrev promoted_of : Way → Bool
promoted_of dropped = Bool.false
promoted_of (gone from promote) = promote

abbrev is_drop : Way → Bool
is_drop dropped = Bool.true
is_drop (gone from promote) = Bool.false

same_some : {A : Type 0} (x y : A) (o : Option A) → o ≡ Some x → o ≡ Some y → x ≡ y
same_some {A} x y o e f = ap of (sym e ∙ f)
  where
    of : Option A → A
    of None = x
    of (Some z) = z

none_some : {A : Type 0} (x : A) (o : Option A) → o ≡ None → o ≡ Some x → ⊥
none_some x o e f = cc

-- what was spoken is one move
pub one_move : SquaresApart → (s : Spoken) (m n : Move) → IsMoveOf s m → IsMoveOf s n → m ≡ n
one_move squares s (moves.Board f t p) (moves.Board g u q) h k =
    let same : gone f.number p ≡ gone g.number q = sym h.0 ∙ k.0 in
    let from : f ≡ g = squares f g (ap from_of same) in
    let turn : p ≡ q = ap promoted_of same in
    let to : t ≡ u = squares t u (sym h.1 ∙ k.1) in
    cc
one_move squares s (moves.Board f t p) (moves.Drop l u) h k =
    let same : is_drop (gone f.number p) ≡ is_drop dropped = ap is_drop (sym h.0 ∙ k.0) in
    absurd (cc)
one_move squares s (moves.Drop l u) (moves.Board f t p) h k =
    let same : is_drop dropped ≡ is_drop (gone f.number p) = ap is_drop (sym h.0 ∙ k.0) in
    absurd (cc)
one_move squares s (moves.Drop k t) (moves.Drop l u) h j =
    let kind : k ≡ l = sym h.1 ∙ j.1 in
    let to : t ≡ u = squares t u (sym h.2 ∙ j.2) in
    cc

-- a line names one move and one piece
pub one_named : SquaresApart → (last : Option ℕ) (line : List ℕ) (p q : Piece) (m n : Move) → Names last line p m → Names last line q n → (m ≡ n) × (p ≡ q)
one_named squares last line p q m n a b =
    let same : a.spoken ≡ b.spoken = same_some a.spoken b.spoken (named_in last line) a.is_spoken b.is_spoken in (
      one_move squares b.spoken m n (subst (λ (s : Spoken). IsMoveOf s m) same a.is_move) b.is_move,
      sym a.is_named ∙ ap (λ (s : Spoken). s.name) same ∙ b.is_named,
    )

pub not_unnamed : (last : Option ℕ) (line : List ℕ) (p : Piece) (m : Move) → named_in last line ≡ None → Names last line p m → ⊥
not_unnamed last line p m none a = none_some a.spoken (named_in last line) none a.is_spoken

pub one_said : SquaresApart → (b : Board) (last : Option ℕ) (line : List ℕ) (m n : Move) → Says b last line m → Says b last line n → m ≡ n
one_said squares b last line m n h k = (one_named squares last line h.0 k.0 m n h.1 k.1).0

-- a check or an evasion is legal
pub legal_in_turn : (attacker : Side) (b : Board) (m : Move) → IsInTurn attacker b m → IsLegal b m
legal_in_turn attacker b m (inl h) = h.legal
legal_in_turn attacker b m (inr h) = h.legal

-- the attacker's is a check
check_in_turn : (attacker : Side) (b : Board) (m : Move) → IsInTurn attacker b m → b.side ≡ attacker → IsCheck attacker b m
check_in_turn attacker b m (inl h) e = h
check_in_turn attacker b m (inr h) e = absurd (other_apart attacker (sym h.mover ∙ e))

-- a line that says a check or an evasion has no fault
module _ (squares : SquaresApart) (attacker : Side) (b : Board) (last : Option ℕ) (text : List ℕ) where
  said_not_illegal : (m : Move) → Says b last text m → IsInTurn attacker b m → NamesIllegal b last text → ⊥
  said_not_illegal m says turn r =
      let one = one_named squares last text says.0 r.name m r.move says.1 r.names in
      r.illegal (subst (λ (n : Move). IsLegal b n) one.0 (legal_in_turn attacker b m turn))

  said_not_other : (m : Move) → Says b last text m → NamesOther b last text → ⊥
  said_not_other m says r =
      let one = one_named squares last text says.0 r.name m r.move says.1 r.names in
      r.other_piece (subst₂ (λ (n : Move) (p : Piece). HasName b n p) one.0 one.1 says.2)

  said_not_checkless : (m : Move) → Says b last text m → IsInTurn attacker b m → SaysNoCheck attacker b last text → ⊥
  said_not_checkless m says turn r =
      let one = one_said squares b last text m r.move says r.says in
      let is_check = check_in_turn attacker b m turn r.mover in
      r.no_check (subst (λ (n : Move). IsInCheck (after b n).cells (other attacker)) one is_check.check)

  unnamed_not_illegal : named_in last text ≡ None → NamesIllegal b last text → ⊥
  unnamed_not_illegal none r = not_unnamed last text r.name r.move none r.names

  unnamed_not_other : named_in last text ≡ None → NamesOther b last text → ⊥
  unnamed_not_other none r = not_unnamed last text r.name r.move none r.names

  unnamed_not_checkless : named_in last text ≡ None → SaysNoCheck attacker b last text → ⊥
  unnamed_not_checkless none r = let says = r.says in not_unnamed last text says.0 r.move none says.1

  illegal_not_other : NamesIllegal b last text → NamesOther b last text → ⊥
  illegal_not_other r s =
      let one = one_named squares last text s.name r.name s.move r.move s.names r.names in
      r.illegal (subst (λ (n : Move). IsLegal b n) one.0 s.legal)

  illegal_not_checkless : NamesIllegal b last text → SaysNoCheck attacker b last text → ⊥
  illegal_not_checkless r s =
      let says = s.says in
      let one = one_named squares last text says.0 r.name s.move r.move says.1 r.names in
      r.illegal (subst (λ (n : Move). IsLegal b n) one.0 s.legal)

  other_not_checkless : NamesOther b last text → SaysNoCheck attacker b last text → ⊥
  other_not_checkless r s = said_not_other s.move s.says r

pub no_line_fault : SquaresApart → (attacker : Side) (b : Board) (last : Option ℕ) (line : Line) (m : Move) (fault : KifMovesFault)
    → Says b last line.text m → IsInTurn attacker b m → HasLineFault attacker b last line fault → ⊥
no_line_fault squares attacker b last line m (faults.Diagram fault) says turn there = there
no_line_fault squares attacker b last line m faults.DefenderInCheck says turn there = there
no_line_fault squares attacker b last line m (faults.BadMove number) says turn there = not_unnamed last line.text says.0 m there.1 says.1
no_line_fault squares attacker b last line m (faults.IllegalMove number) says turn there = said_not_illegal squares attacker b last line.text m says turn there.1
no_line_fault squares attacker b last line m (faults.WrongPiece number) says turn there = said_not_other squares attacker b last line.text m says there.1
no_line_fault squares attacker b last line m (faults.NoCheck number) says turn there = said_not_checkless squares attacker b last line.text m says turn there.1

-- a line has one fault
pub one_line_fault : SquaresApart → (attacker : Side) (b : Board) (last : Option ℕ) (line : Line) (f g : KifMovesFault)
    → HasLineFault attacker b last line f → HasLineFault attacker b last line g → f ≡ g
one_line_fault squares attacker b last line (faults.Diagram f) g h k = absurd h
one_line_fault squares attacker b last line faults.DefenderInCheck g h k = absurd h
one_line_fault squares attacker b last line (faults.BadMove f) (faults.Diagram g) h k = absurd k
one_line_fault squares attacker b last line (faults.BadMove f) faults.DefenderInCheck h k = absurd k
one_line_fault squares attacker b last line (faults.BadMove f) (faults.BadMove g) h k = ap faults.BadMove (h.0 ∙ sym k.0)
one_line_fault squares attacker b last line (faults.BadMove f) (faults.IllegalMove g) h k = absurd (unnamed_not_illegal squares attacker b last line.text h.1 k.1)
one_line_fault squares attacker b last line (faults.BadMove f) (faults.WrongPiece g) h k = absurd (unnamed_not_other squares attacker b last line.text h.1 k.1)
one_line_fault squares attacker b last line (faults.BadMove f) (faults.NoCheck g) h k = absurd (unnamed_not_checkless squares attacker b last line.text h.1 k.1)
one_line_fault squares attacker b last line (faults.IllegalMove f) (faults.Diagram g) h k = absurd k
one_line_fault squares attacker b last line (faults.IllegalMove f) faults.DefenderInCheck h k = absurd k
one_line_fault squares attacker b last line (faults.IllegalMove f) (faults.BadMove g) h k = absurd (unnamed_not_illegal squares attacker b last line.text k.1 h.1)
one_line_fault squares attacker b last line (faults.IllegalMove f) (faults.IllegalMove g) h k = ap faults.IllegalMove (h.0 ∙ sym k.0)
one_line_fault squares attacker b last line (faults.IllegalMove f) (faults.WrongPiece g) h k = absurd (illegal_not_other squares attacker b last line.text h.1 k.1)
one_line_fault squares attacker b last line (faults.IllegalMove f) (faults.NoCheck g) h k = absurd (illegal_not_checkless squares attacker b last line.text h.1 k.1)
one_line_fault squares attacker b last line (faults.WrongPiece f) (faults.Diagram g) h k = absurd k
one_line_fault squares attacker b last line (faults.WrongPiece f) faults.DefenderInCheck h k = absurd k
one_line_fault squares attacker b last line (faults.WrongPiece f) (faults.BadMove g) h k = absurd (unnamed_not_other squares attacker b last line.text k.1 h.1)
one_line_fault squares attacker b last line (faults.WrongPiece f) (faults.IllegalMove g) h k = absurd (illegal_not_other squares attacker b last line.text k.1 h.1)
one_line_fault squares attacker b last line (faults.WrongPiece f) (faults.WrongPiece g) h k = ap faults.WrongPiece (h.0 ∙ sym k.0)
one_line_fault squares attacker b last line (faults.WrongPiece f) (faults.NoCheck g) h k = absurd (other_not_checkless squares attacker b last line.text h.1 k.1)
one_line_fault squares attacker b last line (faults.NoCheck f) (faults.Diagram g) h k = absurd k
one_line_fault squares attacker b last line (faults.NoCheck f) faults.DefenderInCheck h k = absurd k
one_line_fault squares attacker b last line (faults.NoCheck f) (faults.BadMove g) h k = absurd (unnamed_not_checkless squares attacker b last line.text k.1 h.1)
one_line_fault squares attacker b last line (faults.NoCheck f) (faults.IllegalMove g) h k = absurd (illegal_not_checkless squares attacker b last line.text k.1 h.1)
one_line_fault squares attacker b last line (faults.NoCheck f) (faults.WrongPiece g) h k = absurd (other_not_checkless squares attacker b last line.text k.1 h.1)
one_line_fault squares attacker b last line (faults.NoCheck f) (faults.NoCheck g) h k = ap faults.NoCheck (h.0 ∙ sym k.0)

-- the parts of a word, read one after the other
pub spoken_parts : (last : Option ℕ) (word : List ℕ) (to : ℕ) (behind : List ℕ) (name : Piece) (rest : List ℕ) (way : Way)
    → goal_of last word ≡ Some (to, behind) → name_of behind ≡ Some (name, rest) → way_of name rest ≡ Some way
    → spoken_of last word ≡ Some (record { to = to; name = name; way = way })
spoken_parts last word to behind name rest way e f g = rw (e, f, g) refl

-- a line that counts is judged as its move is
pub judged : (attacker : Side) (b : Board) (last : Option ℕ) (line : Line) (r : Result Step KifMovesFault)
    → is_skipped line.text ≡ false → is_end line.text ≡ false → IsMoveJudged attacker b last line r → IsJudged attacker b last line r
judged attacker b last line (Ok steps.Skipped) kept goes h = absurd h
judged attacker b last line (Ok steps.Ended) kept goes h = absurd h
judged attacker b last line (Ok (steps.Played m)) kept goes h = (kept, goes, h.0, h.1)
judged attacker b last line (Err fault) kept goes h = (kept, goes, h)

-- who isn't the attacker defends
pub defends : (side attacker : Side) → (side ≡ attacker → ⊥) → side ≡ other attacker
defends Black Black h = absurd (h refl)
defends Black White h = refl
defends White Black h = refl
defends White White h = absurd (h refl)
