-- How many moves with a property there are.
use Rattle.std.proofs.Common.{◌≡◌, ◌≤◌, ◌+◌, ◌*◌, ◌↔◌, ℕ, List, [], length, Bool, true, false, arith, refl, sym, ap, subst, ◌∙◌}
use Rattle.std.specs.List.{count_by, range_with_len}
use Rattle.bit_boards.specs.declared.square.Square.{Square}
use Rattle.bit_boards.specs.declared.piece.Kind.{Kind}
use Rattle.bit_boards.specs.declared.piece.Kind.TheVariants.{King}
use Rattle.bit_boards.specs.declared.mask.Mask.{Mask}
use Rattle.bit_boards.specs.Mask.{holds, Holds, count}
use Rattle.bit_boards.specs.Kind.{place_of}
use Rattle.board_core.specs.declared.moves.Move.{Move}
use Rattle.board_core.specs.declared.moves.Move.TheVariants as moves
use Rattle.board_core.specs.Order.{Lists, OrdersApart, OrdersByOrigin, OrdersWithin}
use Rattle.list_laws.proofs.MoveLists.{lists_one, rises_within}
use Rattle.list_laws.proofs.Counted.{AreBefore, more_from, more_drops}
use Rattle.list_laws.proofs.Filling.{Fills}
use Rattle.list_laws.proofs.Adding.{lists_all, lists_nothing}

-- the list of so many moves is filled so far
pub record IsFilled (P : Move → Type 0) (own left : ℕ → Bool) (many : ℕ) : Type 0 where
  pub moves : List Move
  pub fills : Fills P own left moves
  pub long : length moves ≡ many
  pub few : many ≤ 13122

-- there are no more moves before a place than places
pub few_before : (P : Move → Type 0) (place many : ℕ) → AreBefore P place many → many ≤ place
few_before P place many a =
    let few = rises_within 0 place a.moves a.lists.rises (λ m c. let was = a.lists.sound m c in was.1) (omega arith) in
    let long = a.long in
    omega arith

pub counted : (mask : Mask) → count mask ≡ count_by (holds mask) (range_with_len 0 81)
unfolding count
counted mask = refl

-- the moves from one more square
pub from_counted : OrdersApart → (P : Move → Type 0) (from : Square) (plain promoted : Mask) (many one two : ℕ)
    → ((to : Square) → Holds plain to.number ↔ P (moves.Board from to false)) → ((to : Square) → Holds promoted to.number ↔ P (moves.Board from to true))
    → one ≡ count plain → two ≡ count promoted
    → AreBefore P (162 * from.number) many → AreBefore P (162 * from.number + 162) (many + (one + two))
from_counted apart P from plain promoted many one two is_plain is_promoted first second before =
    subst (λ (n : ℕ). AreBefore P (162 * from.number + 162) n) (omega (arith, counted plain, counted promoted, first, second))
    (more_from apart P from (holds plain) (holds promoted) is_plain is_promoted many before)

-- the drops of one more kind
pub drops_counted : OrdersApart → (P : Move → Type 0) (dropping : Kind) (squares : Mask) (many one : ℕ)
    → ((to : Square) → Holds squares to.number ↔ P (moves.Drop dropping to)) → one ≡ count squares
    → AreBefore P (13122 + 81 * place_of dropping) many → AreBefore P (13122 + 81 * place_of dropping + 81) (many + one)
drops_counted apart P dropping squares many one are first before =
    subst (λ (n : ℕ). AreBefore P (13122 + 81 * place_of dropping + 81) n) (ap (λ (n : ℕ). many + n) (sym (first ∙ counted squares)))
    (more_drops apart P dropping (holds squares) are many before)

-- so many moves are as many as any list of them has
pub as_many : OrdersApart → OrdersByOrigin → OrdersWithin → (P : Move → Type 0) → ((to : Square) → ¬ P (moves.Drop King to)) → (many : ℕ)
    → AreBefore P 13689 many → (xs : List Move) → Lists P xs → many ≡ length xs
as_many apart origins within P none many a xs l =
    let whole = lists_all origins within P none a.moves a.lists in
    let same : a.moves ≡ xs = lists_one apart P a.moves xs whole l in
    sym a.long ∙ ap (λ (ys : List Move). length ys) same

-- where no move is one, a list has none
pub has_none : OrdersApart → (P : Move → Type 0) → ((m : Move) → ¬ P m) → (xs : List Move) → Lists P xs → 0 ≡ length xs
has_none apart P none xs l = ap (λ (ys : List Move). length ys) (lists_one apart P [] xs (lists_nothing P none) l)
