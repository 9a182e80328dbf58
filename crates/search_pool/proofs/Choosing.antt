-- What a visit does next: one thing, since one child is selected.
use Rattle.std.proofs.Common.{◌≡◌, ◌<◌, ◌+◌, ◌*◌, ℕ, Bool, true, false, List, take, take-take, count_by, inl, inr, refl, sym, subst, ap, ap₂, ◌∙◌, arith}
use Rattle.std.specs.Prelude.{Option, Some, None, slice_get, nat_lt, ◌==◌, ◌&&◌, ◌-◌, ◌%◌, ◌∷◌, option_and_then, if◌then◌else◌}
use Rattle.std.proofs.lemmas.Bool.{cases_lt}
use Rattle.std.proofs.lemmas.Bool.{eq-eqb}
use Rattle.std.proofs.lemmas.Option.{same_Some, slice_get_within, get_or_from_slice_get}
use Rattle.std.proofs.lemmas.List.Sums.{count_by_more_yes, sum_by-take-le}
use Rattle.pn_numbers.specs.declared.node.Node.{Node}
use Rattle.pn_numbers.specs.declared.numbers.Numbers.{Numbers}
use Rattle.pn_numbers.specs.declared.numbers.TheConstants.{INFINITE}
use Rattle.pn_numbers.specs.declared.selecting.Child.{Child as Counted}
use Rattle.pn_numbers.specs.declared.selecting.TheConstants.{WEIGHT}
use Rattle.pn_numbers.specs.Node.{minimized_number}
use Rattle.pn_numbers.specs.Selection.{selecting_number, number_at, has_number, IsLeastOfOthers, IsSelected}
use Rattle.visit_log.specs.declared.parts.Child.{Child}
use Rattle.visit_log.specs.declared.parts.Look.TheVariants.{Fresh, Stale}
use Rattle.visit_log.specs.declared.parts.Left.TheVariants.{Open}
use Rattle.visit_log.specs.declared.parts.Stage.{Stage}
use Rattle.visit_log.specs.declared.parts.Stage.TheVariants.{Polling, Looking, Claiming, Leaving}
use Rattle.visit_log.specs.Frame.{Task, FrameView, choose}
use Rattle.visit_log.specs.Children.{is_solved, reaches, first_due, counted}
use Rattle.visit_log.specs.Round.{node_in, own, Solves, GivesUp, Selects, LooksNext, Choice, GoesDown}
use Rattle.visit_log.specs.Machine.{State, at_stage, entry_of, Settles, GoesOn}

-- 1. ONE CHILD IS SELECTED.

-- More of a list has more of what stands between.
counted_more : {X : Type 0} (P : X → Bool) (xs : List X) (p q : ℕ) (x : X) → p < q → slice_get xs p ≡ Some x → P x ≡ true → count_by P (take p xs) < count_by P (take q xs)
counted_more {X} P xs p q x less at passes =
    let within = slice_get_within xs p x at in
    let one = count_by_more_yes P xs p x within (ap P (get_or_from_slice_get xs p x x at) ∙ passes) in
    let rest = sum_by-take-le (λ (y : X). if P y then 1 else 0) (take q xs) (p + 1) in
    let same : count_by P (take (p + 1) (take q xs)) ≡ count_by P (take (p + 1) xs) = ap (count_by P) (take-take (p + 1) q xs (omega (arith, less))) in
    omega (arith, one, rest, same)

has_by : (node : Node) (child : Counted) (n : ℕ) (b : Bool) → (if b then Some (minimized_number node child.numbers + WEIGHT * child.below) else None) ≡ Some n
    → (b && (minimized_number node child.numbers + WEIGHT * child.below == n)) ≡ true
has_by node child n true e = eq-eqb _ _ (same_Some (minimized_number node child.numbers + WEIGHT * child.below) n e)
has_by node child n false e = absurd (cc)

-- The child of a selecting number has it.
has_at : (node : Node) (child : Counted) (n : ℕ) → selecting_number node child ≡ Some n → has_number node n child ≡ true
has_at node child n e = has_by node child n (nat_lt (minimized_number node child.numbers) INFINITE) e

child_at : (node : Node) (children : List Counted) (p n : ℕ) (o : Option Counted) → slice_get children p ≡ o → number_at node children p ≡ Some n
    → (child : Counted) × (slice_get children p ≡ Some child) × (has_number node n child ≡ true)
child_at node children p n None at e =
    let none : ◌≡◌ {A = Option ℕ} None (Some n) = subst (λ (o : Option Counted). option_and_then (selecting_number node) o ≡ Some n) at e in absurd (cc)
child_at node children p n (Some child) at e =
    (child, at, has_at node child n (subst (λ (o : Option Counted). option_and_then (selecting_number node) o ≡ Some n) at e))

before_other : (node : Node) (children : List Counted) (p q n k : ℕ) → p < q → number_at node children p ≡ Some n
    → count_by (has_number node n) (take p children) ≡ k → count_by (has_number node n) (take q children) ≡ k → ⊥
before_other node children p q n k less at one two =
    let c = child_at node children p n (slice_get children p) refl at in
    let more = counted_more (has_number node n) children p q c.0 less c.1 c.2 in
    omega (arith, more, one, two)

second_once : (node : Node) (children : List Counted) (p s t : ℕ) → IsLeastOfOthers node children p s → IsLeastOfOthers node children p t → s ≡ t
second_once node children p s t h k = elim h.met [
  | inl a ↦ elim k.met [
    | inl b ↦ (let up = k.none_less a.0 s a.1 a.2 in let down = h.none_less b.0 t b.1 b.2 in omega (arith, up, down))
    | inr b ↦ absurd (a.1 (b.0 a.0 s a.2))
  ]
  | inr a ↦ elim k.met [ inl b ↦ absurd (b.1 (a.0 b.0 t b.2)) | inr b ↦ a.1 ∙ sym b.1 ]
]

selected_once : (node : Node) (children : List Counted) (worker p s q t : ℕ) → IsSelected node children worker p s → IsSelected node children worker q t → (p ≡ q) × (s ≡ t)
selected_once node children worker p s q t h k =
    let up = h.none_less q k.least k.number in
    let down = k.none_less p h.least h.number in
    let same : k.least ≡ h.least = omega (arith, up, down) in
    let number : number_at node children q ≡ Some h.least = k.number ∙ ap Some same in
    let turn = subst (λ (n : ℕ). count_by (has_number node n) (take q children) ≡ (worker - 1) % count_by (has_number node n) children) same k.turn in
    let one : p ≡ q = elim (cases_lt p q) [
      | inl less ↦ absurd (before_other node children p q h.least _ less h.number h.turn turn)
      | inr late ↦ elim (cases_lt q p) [
        | inl less ↦ absurd (before_other node children q p h.least _ less number turn h.turn)
        | inr more ↦ omega (arith, late, more)
      ]
    ] in
    (one, second_once node children p s t h.others (subst (λ (n : ℕ). IsLeastOfOthers node children n t) (sym one) k.others))

selects_once : (task : Task) (f : FrameView) (p s q t : ℕ) → Selects task f p s → Selects task f q t → (p ≡ q) × (s ≡ t)
selects_once task f p s q t h k = selected_once (node_in task f) (counted (node_in task f) f.children) task.worker p s q t h.selected k.selected

-- 2. ONE THING IS DONE.

same_child : (f : FrameView) (p q : ℕ) (c d : Child) → p ≡ q → slice_get f.children p ≡ Some c → slice_get f.children q ≡ Some d → c ≡ d
same_child f p q c d e h k = same_Some c d (sym h ∙ (ap (slice_get f.children) e ∙ k))

due_not : {A : Type 0} (p : ℕ) (o : Option ℕ) → o ≡ Some p → o ≡ None → A
due_not p o e n = (let clash : ◌≡◌ {A = Option ℕ} None (Some p) = sym n ∙ e in absurd (cc))

yes_no : {A : Type 0} (b : Bool) → b ≡ true → b ≡ false → A
yes_no b e n = (let clash : false ≡ true = sym n ∙ e in absurd (cc))

-- A child is looked at next since it is due, or since it is selected.
looks_once : (task : Task) (f : FrameView) (p q : ℕ) (c d : Child) → LooksNext task f p c → LooksNext task f q d → p ≡ q
looks_once task f p q c d h k = elim h.next [
  | inl a ↦ elim k.next [ inl b ↦ same_Some p q (sym a ∙ b) | inr b ↦ due_not p (first_due f.children) a b.1.1.none_due ]
  | inr a ↦ elim k.next [
    | inl b ↦ due_not q (first_due f.children) b a.1.1.none_due
    | inr b ↦ (selects_once task f p a.1.0 q b.1.0 a.1.1 b.1.1).0
  ]
]

looks_not_solves : {A : Type 0} (task : Task) (f : FrameView) (p : ℕ) (c : Child) → LooksNext task f p c → Solves task f → A
looks_not_solves {A} task f p c h k = elim h.next as (λ _. A) [
  | inl a ↦ due_not p (first_due f.children) a k.none_due
  | inr a ↦ yes_no (is_solved (node_in task f) f.children) k.solved a.1.1.unsolved
]

looks_not_gives_up : {A : Type 0} (task : Task) (f : FrameView) (p : ℕ) (c : Child) → LooksNext task f p c → GivesUp task f → A
looks_not_gives_up {A} task f p c h k = elim h.next as (λ _. A) [
  | inl a ↦ due_not p (first_due f.children) a k.none_due
  | inr a ↦ yes_no (reaches (own task f) f.place.limits) k.reached a.1.1.below
]

-- One that this round has looked at isn't looked at again.
stale_not_fresh : {A : Type 0} (task : Task) (f : FrameView) (p second : ℕ) (c : Child) (choice : Choice) → c.look ≡ Stale → slice_get f.children p ≡ Some c
    → Selects task f p second → GoesDown task f choice → A
stale_not_fresh task f p second c choice stale there selects k =
    let same = selects_once task f p second choice.place choice.second selects k.selects in
    let one : choice.child ≡ c = same_child f choice.place p choice.child c (sym same.0) k.there there in
    let clash : Stale ≡ Fresh = sym stale ∙ (ap (λ (x : Child). x.look) (sym one) ∙ k.fresh) in
    absurd (cc)

looks_not_goes : {A : Type 0} (task : Task) (f : FrameView) (p : ℕ) (c : Child) (choice : Choice) → LooksNext task f p c → GoesDown task f choice → A
looks_not_goes {A} task f p c choice h k = elim h.next as (λ _. A) [
  | inl a ↦ due_not p (first_due f.children) a k.selects.none_due
  | inr a ↦ stale_not_fresh task f p a.1.0 c choice a.0 h.there a.1.1 k
]

goes_once : (task : Task) (f : FrameView) (a b : Choice) → GoesDown task f a → GoesDown task f b → a ≡ b
goes_once task f a b h k =
    let same = selects_once task f a.place a.second b.place b.second h.selects k.selects in
    let one : a.child ≡ b.child = same_child f a.place b.place a.child b.child same.0 h.there k.there in
    λ i. record { place = same.0 i; child = one i; second = same.1 i }

settles_once : (task : Task) (f : FrameView) (s t : Stage) (g h : FrameView) → Settles task f s g → Settles task f t h → (s ≡ t) × (g ≡ h)
settles_once task f (Looking p) (Looking q) g h a b = (ap Looking (looks_once task f p q a.0.0 b.0.0 a.0.1 b.0.1), a.1 ∙ sym b.1)
settles_once task f (Looking p) Claiming g h a b = looks_not_solves task f p a.0.0 a.0.1 b.0
settles_once task f (Looking p) (Leaving (Open numbers)) g h a b = looks_not_gives_up task f p a.0.0 a.0.1 b.0
settles_once task f (Looking p) (Polling entry) g h a b = looks_not_goes task f p a.0.0 b.0 a.0.1 b.1
settles_once task f Claiming (Looking q) g h a b = looks_not_solves task f q b.0.0 b.0.1 a.0
settles_once task f Claiming Claiming g h a b = (refl, a.1 ∙ sym b.1)
settles_once task f Claiming (Leaving (Open numbers)) g h a b = yes_no (is_solved (node_in task f) f.children) a.0.solved b.0.unsolved
settles_once task f Claiming (Polling entry) g h a b = yes_no (is_solved (node_in task f) f.children) a.0.solved b.1.selects.unsolved
settles_once task f (Leaving (Open numbers)) (Looking q) g h a b = looks_not_gives_up task f q b.0.0 b.0.1 a.0
settles_once task f (Leaving (Open numbers)) Claiming g h a b = yes_no (is_solved (node_in task f) f.children) b.0.solved a.0.unsolved
settles_once task f (Leaving (Open numbers)) (Leaving (Open others)) g h a b = (ap (λ (n : Numbers). Leaving (Open n)) (a.1 ∙ sym b.1), a.2 ∙ sym b.2)
settles_once task f (Leaving (Open numbers)) (Polling entry) g h a b = yes_no (reaches (own task f) f.place.limits) a.0.reached b.1.selects.below
settles_once task f (Polling entry) (Looking q) g h a b = looks_not_goes task f q b.0.0 a.0 b.0.1 a.1
settles_once task f (Polling entry) Claiming g h a b = yes_no (is_solved (node_in task f) f.children) b.0.solved a.1.selects.unsolved
settles_once task f (Polling entry) (Leaving (Open numbers)) g h a b = yes_no (reaches (own task f) f.place.limits) b.0.reached a.1.selects.below
settles_once task f (Polling entry) (Polling other) g h a b =
    let same = goes_once task f a.0 b.0 a.1 b.1 in
    (ap Polling (a.2 ∙ (ap (entry_of task f) same ∙ sym b.2)), a.3 ∙ (ap (λ (c : Choice). choose f c.place) same ∙ sym b.3))
settles_once task f (Looking p) t g h a b = absurd b
settles_once task f Claiming t g h a b = absurd b
settles_once task f (Leaving (Open numbers)) t g h a b = absurd b
settles_once task f (Polling entry) t g h a b = absurd b
settles_once task f s t g h a b = absurd a

-- The innermost visit goes on in one way.
pub goes_on_once : (task : Task) (s : State) (f : FrameView) (fs : List FrameView) (t u : State) → GoesOn task s f fs t → GoesOn task s f fs u → t ≡ u
goes_on_once task s f fs t u h k =
    let same = settles_once task f t.stage u.stage h.next k.next h.settles k.settles in
    h.is ∙ (ap₂ (λ (stage : Stage) (g : FrameView). at_stage s stage (g ∷ fs)) same.0 same.1 ∙ sym k.is)
