-- One more line says its own: the rows, hands and turn of the lines with it.
use Rattle.std.proofs.Common.{◌≡◌, ℕ, ◌+◌, ◌-◌, ◌*◌, ◌<◌, ◌≤◌, List, [], ◌∷◌, ◌++◌, length, get_or, refl, sym, ap, subst, inl, inr, ◌∙◌, arith, Option, Some, None, Ok, length-append}
use Rattle.std.specs.Prelude.{slice_index_or, unwrap_or}
use Rattle.std.proofs.lemmas.List.{append-nil}
use Rattle.std.proofs.lemmas.Grind.{flat_map-append}
use Rattle.std.proofs.Math.ListN.{get_or-append}
use Rattle.std.proofs.lemmas.Bool.{cases_lt}
use Rattle.std.proofs.Math.Seq.{get_or-append_seam}
use Rattle.std.specs.List.{flat_map}
use Rattle.bit_boards.specs.declared.piece.Piece.{Piece}
use Rattle.bit_boards.specs.declared.piece.Side.{Side}
use Rattle.bit_boards.specs.declared.piece.Side.TheVariants.{Black, White}
use Rattle.board_core.specs.Board.{piece_at, content_of}
use Rattle.kif_text.specs.declared.fault.KifFault.{KifFault}
use Rattle.kif_text.specs.declared.header.Diagram.{Diagram}
use Rattle.kif_text.specs.Words.{HasHandFault, hand_of}
use Rattle.kif_text.specs.Rows.{cell_in, HasRowFault}
use Rattle.kif_text.specs.Lines.{Meaning, other, in_hand, row, turn, meaning}
use Rattle.kif_text.specs.Header.{row_said, rows_of, hand_said, turn_said, or_else, last_said, HasFaultSaid, HasLineFault}
use Rattle.kif_text.specs.Steps.{IsReadFrom, IsRowRead, IsRowPut, IsHandRead}
use Rattle.kif_text.proofs.First.{none_in_more}

rows_more : (list : List (List ℕ)) (line : List ℕ) (m : Meaning) → meaning line ≡ m → rows_of (list ++ line ∷ []) ≡ rows_of list ++ row_said m
unfolding rows_of
rows_more list line m e = flat_map-append (λ (l : List ℕ). row_said (meaning l)) list (line ∷ []) ∙ ap (λ (l : List (List ℕ)). flat_map (λ (k : List ℕ). row_said (meaning k)) list ++ l) (append-nil (row_said (meaning line)) ∙ ap row_said e)

or_nothing : {X : Type 0} (x : Option X) → or_else None x ≡ or_else x None
or_nothing None = refl
or_nothing (Some x) = refl

or_assoc : {X : Type 0} (x y z : Option X) → or_else (or_else x y) z ≡ or_else x (or_else y z)
or_assoc None y z = refl
or_assoc (Some x) y z = refl

said_last : {X : Type 0} (says : Meaning → Option X) (list : List (List ℕ)) (line : List ℕ) → last_said says (list ++ line ∷ []) ≡ or_else (says (meaning line)) (last_said says list)
unfolding last_said
said_last says [] line = or_nothing (says (meaning line))
said_last says (l ∷ list) line = ap (λ o. or_else o (says (meaning l))) (said_last says list line) ∙ or_assoc (says (meaning line)) (last_said says list) (says (meaning l))

said_more : {X : Type 0} (says : Meaning → Option X) (list : List (List ℕ)) (line : List ℕ) (m : Meaning) → meaning line ≡ m → last_said says (list ++ line ∷ []) ≡ or_else (says m) (last_said says list)
said_more says list line m e = said_last says list line ∙ ap (λ n. or_else (says n) (last_said says list)) e

-- What one more line may change, by what it says.
pub record Adds (list : List (List ℕ)) (m : Meaning) (new : Diagram) : Type 0 where
  pub well : (fault : KifFault) → HasFaultSaid (length list + 1) (length (rows_of list)) m fault → ⊥
  pub rows : new.rows ≡ length (rows_of list ++ row_said m)
  pub few : new.rows ≤ 9
  pub size : length new.cells ≡ 81
  pub cells : (number column : ℕ) → number < new.rows → 1 ≤ column → column ≤ 9 → piece_at new.cells (9 * (9 - column) + number) ≡ content_of (cell_in (slice_index_or (rows_of list ++ row_said m) number []) column)
  pub black : new.black ≡ hand_of (or_else (hand_said Black m) (last_said (hand_said Black) list))
  pub white : new.white ≡ hand_of (or_else (hand_said White m) (last_said (hand_said White) list))
  pub side : new.side ≡ unwrap_or (or_else (turn_said m) (last_said turn_said list)) Black

read_more : (list : List (List ℕ)) (line : List ℕ) (m : Meaning) (old new : Diagram) → meaning line ≡ m → IsReadFrom list old → Adds list m new → IsReadFrom (list ++ line ∷ []) new
read_more list line m old new e was adds = record {
  well = none_in_more HasLineFault list line was.well (λ fault there. adds.well fault (subst (λ (n : Meaning). HasFaultSaid (length list + 1) (length (rows_of list)) n fault) e there));
  rows = adds.rows ∙ ap (λ (l : List (List ℕ)). length l) (sym (rows_more list line m e));
  few = adds.few;
  size = adds.size;
  cells = λ number column below from to. adds.cells number column below from to ∙ ap (λ (l : List (List ℕ)). content_of (cell_in (slice_index_or l number []) column)) (sym (rows_more list line m e));
  black = adds.black ∙ ap hand_of (sym (said_more (hand_said Black) list line m e));
  white = adds.white ∙ ap hand_of (sym (said_more (hand_said White) list line m e));
  side = adds.side ∙ ap (λ o. unwrap_or o Black) (sym (said_more turn_said list line m e));
}

-- A line that gives no row leaves rows and cells.
no_row : (list : List (List ℕ)) (old : Diagram) → IsReadFrom list old → (old.rows ≡ length (rows_of list ++ []))
    × ((number column : ℕ) → number < old.rows → 1 ≤ column → column ≤ 9 → piece_at old.cells (9 * (9 - column) + number) ≡ content_of (cell_in (slice_index_or (rows_of list ++ []) number []) column))
no_row list old was = (
  was.rows ∙ ap (λ (l : List (List ℕ)). length l) (sym (append-nil (rows_of list))),
  λ number column below from to. was.cells number column below from to ∙ ap (λ (l : List (List ℕ)). content_of (cell_in (slice_index_or l number []) column)) (sym (append-nil (rows_of list))),
)

pub other_more : (list : List (List ℕ)) (line : List ℕ) (old : Diagram) → other ≡ meaning line → IsReadFrom list old → IsReadFrom (list ++ line ∷ []) old
other_more list line old e was = let n = no_row list old was in read_more list line other old old (sym e) was (record {
  well = λ fault there. there;
  rows = n.0;
  few = was.few;
  size = was.size;
  cells = n.1;
  black = was.black;
  white = was.white;
  side = was.side;
})

pub turn_more : (list : List (List ℕ)) (line : List ℕ) (side : Side) (old : Diagram) → turn side ≡ meaning line → IsReadFrom list old → IsReadFrom (list ++ line ∷ []) (record old { side = side })
turn_more list line side old e was = let n = no_row list old was in read_more list line (turn side) old (record old { side = side }) (sym e) was (record {
  well = λ fault there. there;
  rows = n.0;
  few = was.few;
  size = was.size;
  cells = n.1;
  black = was.black;
  white = was.white;
  side = refl;
})

pub black_more : (list : List (List ℕ)) (line text : List ℕ) (number : ℕ) (hand : List ℕ) (old new : Diagram) → in_hand Black text ≡ meaning line → number ≡ length list + 1 → IsHandRead number text (Ok hand) → IsReadFrom list old
    → new.rows ≡ old.rows → new.cells ≡ old.cells → new.black ≡ hand → new.white ≡ old.white → new.side ≡ old.side → IsReadFrom (list ++ line ∷ []) new
black_more list line text number hand old new e at read was rows cells black white side = let n = no_row list old was in read_more list line (in_hand Black text) old new (sym e) was (record {
  well = λ fault there. read.0 fault (subst (λ (k : ℕ). HasHandFault k text fault) (sym at) there);
  rows = rows ∙ n.0;
  few = let f = was.few in omega arith;
  size = ap (λ (l : List (Option Piece)). length l) cells ∙ was.size;
  cells = λ k column below from to. ap (λ (l : List (Option Piece)). piece_at l (9 * (9 - column) + k)) cells ∙ n.1 k column (omega arith) from to;
  black = black ∙ read.1;
  white = white ∙ was.white;
  side = side ∙ was.side;
})

pub white_more : (list : List (List ℕ)) (line text : List ℕ) (number : ℕ) (hand : List ℕ) (old new : Diagram) → in_hand White text ≡ meaning line → number ≡ length list + 1 → IsHandRead number text (Ok hand) → IsReadFrom list old
    → new.rows ≡ old.rows → new.cells ≡ old.cells → new.black ≡ old.black → new.white ≡ hand → new.side ≡ old.side → IsReadFrom (list ++ line ∷ []) new
white_more list line text number hand old new e at read was rows cells black white side = let n = no_row list old was in read_more list line (in_hand White text) old new (sym e) was (record {
  well = λ fault there. read.0 fault (subst (λ (k : ℕ). HasHandFault k text fault) (sym at) there);
  rows = rows ∙ n.0;
  few = let f = was.few in omega arith;
  size = ap (λ (l : List (Option Piece)). length l) cells ∙ was.size;
  cells = λ k column below from to. ap (λ (l : List (Option Piece)). piece_at l (9 * (9 - column) + k)) cells ∙ n.1 k column (omega arith) from to;
  black = black ∙ was.black;
  white = white ∙ read.1;
  side = side ∙ was.side;
})

-- A row that was read has no fault.
row_well : (before : ℕ) (line : List ℕ) (cells : List (Option Piece)) → before < 9 → IsRowRead before line (Ok cells) → (fault : KifFault) → HasRowFault before line fault → ⊥
row_well before line cells few read fault (inl h) = absurd (omega arith)
row_well before line cells few read fault (inr h) = let bad = h.1.1 in let well = read.0 h.1.0 bad.from bad.to in let b = bad.bad in cc

-- The row of a number among the rows with one more.
row_cells : (rows : List (List ℕ)) (line : List ℕ) (old new : Diagram) (cells : List (Option Piece)) → old.rows ≡ length rows → old.rows < 9 → IsRowRead old.rows line (Ok cells) → IsRowPut old cells new
    → ((number column : ℕ) → number < old.rows → 1 ≤ column → column ≤ 9 → piece_at old.cells (9 * (9 - column) + number) ≡ content_of (cell_in (slice_index_or rows number []) column))
    → (number column : ℕ) → number < new.rows → 1 ≤ column → column ≤ 9 → piece_at new.cells (9 * (9 - column) + number) ≡ content_of (cell_in (slice_index_or (rows ++ line ∷ []) number []) column)
row_cells rows line old new cells is few read put before number column below from to =
    let more = put.rows in
    elim (cases_lt number old.rows) [
      | inl lt ↦ (put.elsewhere (9 * (9 - column) + number) (λ e. omega arith) ∙ before number column lt from to
          ∙ ap (λ (l : List ℕ). content_of (cell_in l column)) (sym (get_or-append rows (line ∷ []) [] number (omega arith))))
      | inr le ↦ (
          let same : number ≡ length rows = omega arith in
          let at : 9 * (9 - column) + number ≡ 9 * (8 - (column - 1)) + old.rows = omega arith in
          ap (λ s. piece_at new.cells s) at ∙ put.there (column - 1) (omega arith) ∙ read.1 column from to
          ∙ ap (λ (l : List ℕ). content_of (cell_in l column)) (sym (ap (λ k. get_or (rows ++ line ∷ []) k []) same ∙ get_or-append_seam rows line [] [])))
    ]

pub row_more : (list : List (List ℕ)) (line text : List ℕ) (old new : Diagram) → row text ≡ meaning line → IsReadFrom list old → (old.rows < 9) × ((cells : List (Option Piece)) × IsRowRead old.rows text (Ok cells) × IsRowPut old cells new)
    → IsReadFrom (list ++ line ∷ []) new
row_more list line text old new e was taken =
    let few = taken.0 in
    let cells = taken.1.0 in
    let read = taken.1.1 in
    let put = taken.1.2 in
    read_more list line (row text) old new (sym e) was (record {
      well = λ fault there. row_well old.rows text cells few read fault (subst (λ (n : ℕ). HasRowFault n text fault) (sym was.rows) there);
      rows = put.rows ∙ (let r = was.rows in omega (arith, length-append (rows_of list) (text ∷ [])));
      few = let r = put.rows in omega arith;
      size = put.size ∙ was.size;
      cells = row_cells (rows_of list) text old new cells was.rows few read put was.cells;
      black = put.black ∙ was.black;
      white = put.white ∙ was.white;
      side = put.side ∙ was.side;
    })
