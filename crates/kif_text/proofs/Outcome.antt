-- What the lines give is a position or its fault; and no input has two outcomes.
use Rattle.std.proofs.Common.{◌≡◌, ℕ, ◌+◌, ◌-◌, ◌*◌, ◌/◌, ◌%◌, ◌<◌, ◌≤◌, Bool, true, false, cond, List, [], length, Option, Some, None, Result, Ok, Err, refl, sym, ap, subst, inl, inr, ◌∙◌, arith}
use Rattle.std.specs.Prelude.{map, slice_index_or}
use Rattle.std.specs.List.{range_with_len}
use Rattle.std.specs.Str.{IsUtf8}
use Rattle.std.specs.Str.Lossy.{utf8_valid_len}
use Rattle.std.proofs.lemmas.Bool.{cases_lt}
use Rattle.std.proofs.lemmas.List.{ext_get_or}
use Rattle.std.proofs.lemmas.List.FromFn.{length-map-range_with_len, get_or-map-range_with_len}
use Rattle.bit_boards.specs.declared.piece.Piece.{Piece}
use Rattle.bit_boards.specs.declared.piece.Kind.{Kind}
use Rattle.board_core.specs.declared.build.BadPosition.{BadPosition as Bad}
use Rattle.board_core.specs.Board.{Board, HasDefender, piece_at, content_of}
use Rattle.board_core.specs.Kept.{IsKept}
use Rattle.board_core.specs.Build.{IsBuilt}
use Rattle.board_core.specs.Laws.{BuiltOnce}
use Rattle.kif_text.specs.declared.fault.KifFault.{KifFault}
use Rattle.kif_text.specs.declared.fault.KifFault.TheVariants as faults
use Rattle.kif_text.specs.declared.header.Diagram.{Diagram}
use Rattle.kif_text.specs.First.{HasNone, HasFirst}
use Rattle.kif_text.specs.Words.{word_kind, word_count, count_for, fault_of, HasWordFault, words}
use Rattle.kif_text.specs.Rows.{cell_in, is_well, HasBadColumn, HasRowFault, cells_of}
use Rattle.kif_text.specs.Lines.{Meaning, other, handicap, in_hand, row, turn, meaning}
use Rattle.kif_text.specs.Header.{rows_of, HasFaultSaid, HasLineFault, Shows}
use Rattle.kif_text.specs.Reading.{header_of, Spells, HasFirstLineFault, HasFirstFault, IsReadingOutcome}
use Rattle.kif_text.specs.Steps.{IsReadFrom}
use Rattle.kif_text.proofs.First.{one_first, none_or_first}
use Rattle.board_laws.proofs.Kept.{no_fault}
use Rattle.board_laws.proofs.Cells.{piece_at_is}

-- ---- the cells of nine rows

all_cells : (rows : List (List ℕ)) (cells : List (Option Piece)) → length cells ≡ 81 → ((number column : ℕ) → number < 9 → 1 ≤ column → column ≤ 9 → piece_at cells (9 * (9 - column) + number) ≡ content_of (cell_in (slice_index_or rows number []) column)) → cells ≡ cells_of rows
unfolding cells_of
all_cells rows cells size each =
    let at : ℕ → Option Piece = λ square. content_of (cell_in (slice_index_or rows (square % 9) []) (9 - square / 9)) in
    ext_get_or None cells (map at (range_with_len 0 81)) (size ∙ sym (length-map-range_with_len at 0 81))
    (λ s lt. sym (piece_at_is cells s) ∙ ap (λ k. piece_at cells k) (place s (omega arith)) ∙ each (s % 9) (9 - s / 9) (omega arith) (omega arith) (omega arith) ∙ sym (get_or-map-range_with_len at 0 81 s s None (omega arith) (omega arith)))
  where
    place : (s : ℕ) → s < 81 → s ≡ 9 * (9 - (9 - s / 9)) + s % 9
    place s lt = omega arith

abbrev pub board_of : Diagram → Board
board_of diagram = record { cells = diagram.cells; black = diagram.black; white = diagram.white; side = diagram.side }

pub shown : (list : List (List ℕ)) (diagram : Diagram) → IsReadFrom list diagram → 9 ≤ diagram.rows → Shows list (board_of diagram)
shown list diagram is many =
    let rows = is.rows in
    let few = is.few in
    record {
      well = is.well;
      nine = omega arith;
      cells = all_cells (rows_of list) diagram.cells is.size (λ number column below from to. is.cells number column (omega arith) from to);
      black = is.black;
      white = is.white;
      side = is.side;
    }

-- ---- the fault of a line

-- The fault can be one of a line.
IsOfLine : KifFault → Type 0
IsOfLine (faults.NotUtf8 at) = ⊥
IsOfLine (faults.HandicapName line) = Unit {0}
IsOfLine (faults.BadCell line column) = Unit {0}
IsOfLine (faults.BadHand line) = Unit {0}
IsOfLine (faults.BadCount line) = Unit {0}
IsOfLine (faults.HandTwice line) = Unit {0}
IsOfLine faults.NoDiagram = ⊥
IsOfLine (faults.BadPosition bad) = ⊥

some_same : (f g : KifFault) → Some f ≡ Some g → f ≡ g
some_same f g e = cc

of_word : (line : ℕ) (before : List (List ℕ)) (kind : Option Kind) (count : Option ℕ) (f : KifFault) → fault_of line before kind count ≡ Some f → IsOfLine f
unfolding IsOfLine
of_word line before None count f e = subst IsOfLine (some_same (faults.BadHand line) f e) tt
of_word line before (Some kind) None f e = by (lib.Dec.ltb 0 (count_for kind before)) e
  where
    by : (b : Bool) → cond b (Some (faults.HandTwice line)) (Some (faults.BadCount line)) ≡ Some f → IsOfLine f
    by true h = subst IsOfLine (some_same (faults.HandTwice line) f h) tt
    by false h = subst IsOfLine (some_same (faults.BadCount line) f h) tt
of_word line before (Some kind) (Some n) f e = by (lib.Dec.ltb 0 (count_for kind before)) e
  where
    by : (b : Bool) → cond b (Some (faults.HandTwice line)) None ≡ Some f → IsOfLine f
    by true h = subst IsOfLine (some_same (faults.HandTwice line) f h) tt
    by false h = absurd cc

of_line : (line rows : ℕ) (m : Meaning) (f : KifFault) → HasFaultSaid line rows m f → IsOfLine f
unfolding IsOfLine
of_line line rows other f h = absurd h
of_line line rows handicap f h = subst IsOfLine (sym h) tt
of_line line rows (in_hand side text) f h = of_word line h.1.before (word_kind h.1.here) (word_count h.1.here) f h.1.there
of_line line rows (row characters) f (inl h) = subst IsOfLine (sym h.1) tt
of_line line rows (row characters) f (inr h) = subst IsOfLine (sym h.1.2) tt
of_line line rows (turn side) f h = absurd h

as_first : (input : List ℕ) (f : KifFault) → IsOfLine f → HasFirstLineFault input f → HasFirstFault input f
unfolding IsOfLine
as_first input (faults.NotUtf8 at) is h = absurd is
as_first input (faults.HandicapName line) is h = h
as_first input (faults.BadCell line column) is h = h
as_first input (faults.BadHand line) is h = h
as_first input (faults.BadCount line) is h = h
as_first input (faults.HandTwice line) is h = h
as_first input faults.NoDiagram is h = absurd is
as_first input (faults.BadPosition bad) is h = absurd is

-- The first fault of the lines is that of the input.
pub lines_fault : (input : List ℕ) (f : KifFault) → IsUtf8 input → HasFirst HasLineFault (header_of input) f → HasFirstFault input f
lines_fault input f utf8 first = as_first input f (of_line (length first.before + 1) (length (rows_of first.before)) (meaning first.here) f first.there) (record { utf8 = utf8; first = first })

-- ---- one outcome

one_word_fault : (line : ℕ) (before : List (List ℕ)) (word : List ℕ) (f g : KifFault) → HasWordFault line before word f → HasWordFault line before word g → f ≡ g
one_word_fault line before word f g p q = cc

one_column : (line : List ℕ) (c d : ℕ) → HasBadColumn line c → HasBadColumn line d → c ≡ d
one_column line c d p q = elim (cases_lt c d) [
  | inl lt ↦ (let w : is_well line c ≡ true = q.first c p.from lt in let b = p.bad in absurd cc)
  | inr le ↦ elim (cases_lt d c) [
    | inl lt ↦ (let w : is_well line d ≡ true = p.first d q.from lt in let b = q.bad in absurd cc)
    | inr ge ↦ omega arith
  ]
]

one_row_fault : (before : ℕ) (line : List ℕ) (f g : KifFault) → HasRowFault before line f → HasRowFault before line g → f ≡ g
one_row_fault before line f g (inl p) (inl q) = p.1 ∙ sym q.1
one_row_fault before line f g (inl p) (inr q) = absurd (omega arith)
one_row_fault before line f g (inr p) (inl q) = absurd (omega arith)
one_row_fault before line f g (inr p) (inr q) = p.1.2 ∙ ap (λ n. faults.BadCell (before + 1) n) (one_column line p.1.0 q.1.0 p.1.1 q.1.1) ∙ sym q.1.2

one_fault_said : (line rows : ℕ) (m : Meaning) (f g : KifFault) → HasFaultSaid line rows m f → HasFaultSaid line rows m g → f ≡ g
one_fault_said line rows other f g p q = absurd p
one_fault_said line rows handicap f g p q = p ∙ sym q
one_fault_said line rows (in_hand side text) f g p q = one_first (HasWordFault line) (one_word_fault line) (words (Rattle.std.specs.Str.chars text)) f g p.1 q.1
one_fault_said line rows (row characters) f g p q = one_row_fault rows characters f g p q
one_fault_said line rows (turn side) f g p q = absurd p

one_line_fault : (list : List (List ℕ)) (f g : KifFault) → HasFirst HasLineFault list f → HasFirst HasLineFault list g → f ≡ g
one_line_fault list f g p q = one_first HasLineFault (λ before here x y a b. one_fault_said (length before + 1) (length (rows_of before)) (meaning here) x y a b) list f g p q

one_shown : (list : List (List ℕ)) (a b : Board) → Shows list a → Shows list b → a ≡ b
one_shown list a b p q = λ i. record {
  cells = (p.cells ∙ sym q.cells) i;
  black = (p.black ∙ sym q.black) i;
  white = (p.white ∙ sym q.white) i;
  side = (p.side ∙ sym q.side) i;
}

-- What was built, as an outcome.
abbrev as_kif : Result Board Bad → Result Board KifFault
as_kif (Ok p) = Ok p
as_kif (Err bad) = Err (faults.BadPosition bad)

-- The four ways of an input: it isn't UTF-8; a line is faulty; rows are missing; or its lines show
-- the parts of a position.
data Way (input : List ℕ) (outcome : Result Board KifFault) : Type 0 where
  broken : (IsUtf8 input → ⊥) → outcome ≡ Err (faults.NotUtf8 (utf8_valid_len input)) → Way input outcome
  faulty : IsUtf8 input → (fault : KifFault) → HasFirst HasLineFault (header_of input) fault → outcome ≡ Err fault → Way input outcome
  short : IsUtf8 input → HasNone HasLineFault (header_of input) → length (rows_of (header_of input)) < 9 → outcome ≡ Err faults.NoDiagram → Way input outcome
  whole : IsUtf8 input → (b : Board) → Shows (header_of input) b → (built : Result Board Bad) → IsBuilt b built → outcome ≡ as_kif built → Way input outcome

way : (input : List ℕ) (outcome : Result Board KifFault) → IsReadingOutcome input outcome → Way input outcome
way input (Ok p) h = whole h.0.utf8 p h.0.shows (Ok p) h.1 refl
way input (Err (faults.NotUtf8 at)) h = broken h.0 (ap (λ n. Err (faults.NotUtf8 n)) h.1)
way input (Err (faults.HandicapName line)) h = faulty h.utf8 (faults.HandicapName line) h.first refl
way input (Err (faults.BadCell line column)) h = faulty h.utf8 (faults.BadCell line column) h.first refl
way input (Err (faults.BadHand line)) h = faulty h.utf8 (faults.BadHand line) h.first refl
way input (Err (faults.BadCount line)) h = faulty h.utf8 (faults.BadCount line) h.first refl
way input (Err (faults.HandTwice line)) h = faulty h.utf8 (faults.HandTwice line) h.first refl
way input (Err faults.NoDiagram) h = short h.0 h.1 h.2 refl
way input (Err (faults.BadPosition bad)) h = whole h.1.utf8 h.0 h.1.shows (Err bad) h.2 refl

one_way : BuiltOnce → (input : List ℕ) (x y : Result Board KifFault) → Way input x → Way input y → x ≡ y
one_way once input x y (broken not_text p) (broken neither q) = p ∙ sym q
one_way once input x y (broken not_text p) (faulty u g first q) = absurd (not_text u)
one_way once input x y (broken not_text p) (short u none few q) = absurd (not_text u)
one_way once input x y (broken not_text p) (whole u b shows built is q) = absurd (not_text u)
one_way once input x y (faulty u f one p) (broken not_text q) = absurd (not_text u)
one_way once input x y (faulty u f one p) (faulty v g two q) = p ∙ ap (λ (h : KifFault). Err h) (one_line_fault (header_of input) f g one two) ∙ sym q
one_way once input x y (faulty u f one p) (short v none few q) = absurd (none_or_first HasLineFault (header_of input) f none one)
one_way once input x y (faulty u f one p) (whole v b shows built is q) = absurd (none_or_first HasLineFault (header_of input) f shows.well one)
one_way once input x y (short u none few p) (broken not_text q) = absurd (not_text u)
one_way once input x y (short u none few p) (faulty v g two q) = absurd (none_or_first HasLineFault (header_of input) g none two)
one_way once input x y (short u none few p) (short v also less q) = p ∙ sym q
one_way once input x y (short u none few p) (whole v b shows built is q) = let nine = shows.nine in absurd (omega arith)
one_way once input x y (whole u a shows built is p) (broken not_text q) = absurd (not_text u)
one_way once input x y (whole u a shows built is p) (faulty v g two q) = absurd (none_or_first HasLineFault (header_of input) g shows.well two)
one_way once input x y (whole u a shows built is p) (short v none few q) = let nine = shows.nine in absurd (omega arith)
one_way once input x y (whole u a one built is p) (whole v b two also was q) =
    p ∙ ap as_kif (once b built also (subst (λ (c : Board). IsBuilt c built) (one_shown (header_of input) a b one two) is) was) ∙ sym q

pub one_outcome : BuiltOnce → (input : List ℕ) (x y : Result Board KifFault) → IsReadingOutcome input x → IsReadingOutcome input y → x ≡ y
one_outcome once input x y p q = one_way once input x y (way input x p) (way input y q)

-- A position that is spelled, kept and has a defender's king is an outcome.
pub spelled_outcome : (input : List ℕ) (p : Board) → Spells input p → IsKept p → HasDefender p → IsReadingOutcome input (Ok p)
spelled_outcome input p spells kept king = (spells, (refl, λ fault has. no_fault p fault kept king has))

-- ---- what was read

-- The position that the parts make, or the fault that they have, is the outcome.
pub position_there : (input : List ℕ) (list : List (List ℕ)) (diagram : Diagram) (p : Board) → IsUtf8 input → list ≡ header_of input → IsReadFrom list diagram → 9 ≤ diagram.rows → IsBuilt (board_of diagram) (Ok p) → IsReadingOutcome input (Ok p)
position_there input list diagram p utf8 same is many built =
    let shows : Shows (header_of input) (board_of diagram) = subst (λ (l : List (List ℕ)). Shows l (board_of diagram)) same (shown list diagram is many) in
    let spells : Spells input (board_of diagram) = record { utf8 = utf8; shows = shows } in
    subst (λ (q : Board). Spells input q × IsBuilt q (Ok q)) (sym built.0) (spells, (refl, built.1))

pub fault_there : (input : List ℕ) (list : List (List ℕ)) (diagram : Diagram) (bad : Bad) → IsUtf8 input → list ≡ header_of input → IsReadFrom list diagram → 9 ≤ diagram.rows → IsBuilt (board_of diagram) (Err bad) → IsReadingOutcome input (Err (faults.BadPosition bad))
fault_there input list diagram bad utf8 same is many built =
    let shows : Shows (header_of input) (board_of diagram) = subst (λ (l : List (List ℕ)). Shows l (board_of diagram)) same (shown list diagram is many) in
    (board_of diagram, record { utf8 = utf8; shows = shows }, built)

-- The same of a line's fault.
pub line_there : (input : List ℕ) (list : List (List ℕ)) (f : KifFault) → IsUtf8 input → list ≡ header_of input → HasFirst HasLineFault list f → HasFirstFault input f
line_there input list f utf8 same first = lines_fault input f utf8 (subst (λ (l : List (List ℕ)). HasFirst HasLineFault l f) same first)
