-- What is known of the evasions that were gone through.
use Rattle.std.proofs.Common.{◌≡◌, ◌<◌, ◌≤◌, ◌+◌, ◌∙◌, ℕ, List, length, get_or, Contains, arith, sym, ap, subst, ⊎_elim}
use Rattle.std.specs.Prelude.{Some, slice_get}
use Rattle.std.proofs.lemmas.Bool.{cases_eq}
use Rattle.std.proofs.lemmas.Option.{get_or_from_slice_get}
use Rattle.bit_boards.specs.declared.piece.Side.{Side}
use Rattle.board_core.specs.declared.moves.Move.{Move}
use Rattle.board_core.specs.Board.{Board}
use Rattle.board_core.specs.Order.{Lists}
use Rattle.list_laws.proofs.Standing.{at_place}
use Rattle.shogi_rules.specs.Rules.{after}
use Rattle.shogi_rules.specs.Tsume.{IsEvasion}
use Rattle.shortest_facts.specs.declared.fact.Fact.{Fact}
use Rattle.shortest_facts.specs.Facts.{Known}

-- The first evasions lead to positions that are mate in fewer moves.
abbrev pub AreFaster : Known → Board → ℕ → List Move → ℕ → Type 0
AreFaster k checked most moves n = (i : ℕ) (m : Move) → i < n → slice_get moves i ≡ Some m → (k.at (after checked m)).most < most

pub faster_on : (k : Known) (checked next : Board) (most : ℕ) (moves : List Move) (n : ℕ) (m : Move) (fact : Fact) → AreFaster k checked most moves n
    → m ≡ get_or moves n m → next ≡ after checked m → fact ≡ k.at next → fact.most < most → AreFaster k checked most moves (n + 1)
faster_on k checked next most moves n m fact so_far is e f less i x h there =
    ⊎_elim
    (λ (last : i ≡ n).
    let same : m ≡ x = is ∙ get_or_from_slice_get moves n x m (subst (λ (j : ℕ). slice_get moves j ≡ Some x) last there) in
    let known : fact ≡ k.at (after checked x) = f ∙ (ap k.at e ∙ ap (λ (y : Move). k.at (after checked y)) same) in
    let number = ap (λ (y : Fact). y.most) known in
    omega (arith, number, less))
    (λ (other : i ≡ n → ⊥). so_far i x (omega (arith, h, other)) there)
    (cases_eq i n)

pub all_faster : (k : Known) (side : Side) (checked after_it : Board) (most : ℕ) (listed items : List Move) (n : ℕ) → k.attacker ≡ side → Lists (IsEvasion side checked) listed
    → items ≡ listed → length items ≤ n → checked ≡ after_it → AreFaster k checked most items n
    → (evasion : Move) → IsEvasion k.attacker after_it evasion → (k.at (after after_it evasion)).most < most
all_faster k side checked after_it most listed items n same lists e long moved faster evasion is =
    let here = subst (λ (b : Board). IsEvasion side b evasion) (sym moved) (subst (λ (s : Side). IsEvasion s after_it evasion) same is) in
    let c = subst (λ (ms : List Move). Contains ms evasion) (sym e) (lists.complete evasion here) in
    let inside = c.1 in
    subst (λ (b : Board). (k.at (after b evasion)).most < most) moved (faster c.0 evasion (omega (arith, inside, long)) (at_place items evasion c))

pub evasion_at : (side : Side) (checked : Board) (listed items : List Move) (i : ℕ) (m : Move) → Lists (IsEvasion side checked) listed → items ≡ listed
    → i < length items → m ≡ get_or items i m → IsEvasion side checked m
evasion_at side checked listed items i m lists e inside is = lists.sound m (subst (λ (ms : List Move). Contains ms m) e (i, inside, sym is))
