-- Where an answer leads a worker: to one state, or it winds up for want of memory.
use Rattle.std.proofs.Common.{◌≡◌, ◌<◌, ◌+◌, inl, inr, ℕ, List, [], ◌∷◌, refl, sym, subst, ap, ap₂, ◌∙◌, arith, true, false}
use Rattle.std.specs.Prelude.{Some, None, slice_get, slice_set}
use Rattle.std.proofs.lemmas.Option.{same_Some}
use Rattle.bit_boards.specs.declared.piece.Side.{Side}
use Rattle.board_core.specs.Board.{Board}
use Rattle.board_core.specs.Order.{OrdersApart, OrdersWithin}
use Rattle.path_tags.specs.Laws.{TagsApart}
use Rattle.pn_numbers.specs.declared.numbers.Numbers.{Numbers}
use Rattle.notes.specs.Derivation.{Derivation, highest}
use Rattle.notes.specs.declared.words.Kept.{Kept}
use Rattle.notes.specs.declared.words.Seen.{Seen}
use Rattle.notes.specs.declared.words.Seen.TheVariants.{New, Open as Known, Solved as Shown, Lent}
use Rattle.notes.specs.declared.words.Draw.TheVariants.{Go, Done, Spent as AllDrawn}
use Rattle.notes.specs.declared.words.RoomAnswer.TheVariants.{Room, NoRoom as Full}
use Rattle.visit_log.specs.declared.parts.Child.{Child}
use Rattle.visit_log.specs.declared.parts.Entry.{Entry}
use Rattle.visit_log.specs.declared.parts.Left.{Left}
use Rattle.visit_log.specs.declared.parts.Left.TheVariants.{Solved, Open}
use Rattle.visit_log.specs.declared.parts.Stage.{Stage}
use Rattle.visit_log.specs.declared.parts.Stage.TheVariants.{Polling, Drawing, Entering, Looking, Claiming, Leaving, Posting, Winding}
use Rattle.visit_log.specs.declared.words.WorkEnd.{WorkEnd}
use Rattle.visit_log.specs.declared.words.WorkEnd.TheVariants.{Posted, Spent, NoRoom, TooHigh, NoMemory, Stopped}
use Rattle.visit_log.specs.declared.words.Reply.{Reply}
use Rattle.visit_log.specs.declared.words.Reply.TheVariants.{Poll as Polled, Draw as Drew, Claim as Claimed, Look as Looked, Enter as Entered, Leave as LeftIt, Post as PostedIt}
use Rattle.visit_log.specs.Frame.{Task, attacker_in, FrameView, opened, with_children}
use Rattle.visit_log.specs.Children.{notes_under}
use Rattle.visit_log.specs.Round.{Sight, told, looked, Tells, came_back, node_in, IsRefusal}
use Rattle.visit_log.specs.Machine.{State, at_stage, wind, one_claim, path_of, GoesOn, Begins, Opens, Sees, Makes, Returns, LeadsAt, rest_of}
use Rattle.visit_log.specs.Visit.{Exchange}
use Rattle.visit_log.specs.Run.{IsLooking}
use Rattle.worker_core.specs.Port.{Goes}
use Rattle.worker_core.proofs.Offered.{winds_on as still_winds}
use Rattle.search_pool.proofs.Choosing.{goes_on_once}
use Rattle.search_pool.proofs.Listing.{children_once}
use Rattle.search_pool.proofs.Making.{made_once}
use Rattle.visit_log.proofs.Offered.{made_low}
use Rattle.search_pool.proofs.Starting.{start_once}

-- The worker winds up for want of memory.
abbrev pub IsStarved : State → Type 0
IsStarved s = s.stage ≡ Winding NoMemory

-- What is known of moves and of tags.
pub record AreLaws : Type 0 where
  pub orders : OrdersApart
  pub within : OrdersWithin
  pub tags : TagsApart

begins_once : (task : Task) (s : State) (entry : Entry) (t u : State) → Begins task s entry t → Begins task s entry u → ¬ IsStarved t → ¬ IsStarved u → t ≡ u
begins_once task s entry t u (inl h) (inl k) not nor = h.1 ∙ sym k.1
begins_once task s entry t u (inr h) k not nor = absurd (not (ap (λ (z : State). z.stage) h))
begins_once task s entry t u (inl h) (inr k) not nor = absurd (nor (ap (λ (z : State). z.stage) k))

opens_once : AreLaws → (task : Task) (s : State) (frames : List FrameView) (kept : Kept) (t u : State) → Opens task s frames kept t → Opens task s frames kept u
    → ¬ IsStarved t → ¬ IsStarved u → t ≡ u
opens_once laws task s [] kept t u h k not nor = absurd h
opens_once laws task s (f ∷ fs) kept t u (inl (cs, are, h)) (inl (ds, too, k)) not nor =
    let same = children_once laws.orders (attacker_in task) f.place.position (path_of task (f ∷ fs)) cs ds are too in
    goes_on_once task s (opened f.place kept cs) fs t u h (subst (λ (xs : List Child). GoesOn task s (opened f.place kept xs) fs u) (sym same) k)
opens_once laws task s (f ∷ fs) kept t u (inr h) k not nor = absurd (not (ap (λ (z : State). z.stage) h))
opens_once laws task s (f ∷ fs) kept t u (inl h) (inr k) not nor = absurd (nor (ap (λ (z : State). z.stage) k))

told_once : AreLaws → (attacker : Side) (b : Board) (child : Child) (seen : Seen) (m n : Numbers) → Tells attacker b child.by seen m → Tells attacker b child.by seen n
    → told attacker b child seen m ≡ told attacker b child seen n
told_once laws attacker b child New m n h k = ap (told attacker b child New) (start_once laws.orders laws.within attacker b child.by m n h k)
told_once laws attacker b child (Known numbers below) m n h k = refl
told_once laws attacker b child (Shown note) m n h k = refl
told_once laws attacker b child (Lent note) m n h k = refl

looked_once : AreLaws → (task : Task) (f : FrameView) (place : ℕ) (seen : Seen) (a b : Sight) → a.place ≡ place → b.place ≡ place → a.seen ≡ seen → b.seen ≡ seen
    → slice_get f.children place ≡ Some a.child → slice_get f.children place ≡ Some b.child
    → Tells (attacker_in task) f.place.position a.child.by seen a.start → Tells (attacker_in task) f.place.position b.child.by seen b.start → looked task f a ≡ looked task f b
looked_once laws task f place seen a b p q sa sb ca cb ta tb =
    let after_it : Child → Seen → Numbers → Child = told (attacker_in task) f.place.position in
    let child : b.child ≡ a.child = same_Some b.child a.child (sym cb ∙ ca) in
    let same = told_once laws (attacker_in task) f.place.position a.child seen a.start b.start ta
    (subst (λ (c : Child). Tells (attacker_in task) f.place.position c.by seen b.start) child tb) in
    let there : after_it a.child a.seen a.start ≡ after_it b.child b.seen b.start =
    ap (λ (x : Seen). after_it a.child x a.start) sa
    ∙ (same ∙ (ap (λ (x : Seen). after_it a.child x b.start) (sym sb) ∙ ap (λ (c : Child). after_it c b.seen b.start) (sym child))) in
    ap₂ (λ (n : ℕ) (c : Child). with_children f (slice_set f.children n c)) (p ∙ sym q) there

sees_once : AreLaws → (task : Task) (s : State) (place : ℕ) (frames : List FrameView) (seen : Seen) (t u : State) → Sees task s place frames seen t
    → Sees task s place frames seen u → ¬ IsStarved t → ¬ IsStarved u → t ≡ u
sees_once laws task s place [] seen t u h k not nor = absurd h
sees_once laws task s place (f ∷ fs) seen t u (inr h) k not nor = absurd (not (ap (λ (z : State). z.stage) h.1))
sees_once laws task s place (f ∷ fs) seen t u (inl h) (inr k) not nor = absurd (nor (ap (λ (z : State). z.stage) k.1))
sees_once laws task s place (f ∷ fs) seen t u (inl h) (inl k) not nor =
    let same = looked_once laws task f place seen h.0 k.0 h.1 k.1 h.2 k.2 h.3 k.3 h.4 k.4 in
    goes_on_once task s (looked task f h.0) fs t u h.5 (subst (λ (g : FrameView). GoesOn task s g fs u) (sym same) k.5)

-- Why a note isn't made but for want of memory: it would be too high.
high_refused : (task : Task) (f : FrameView) (end : WorkEnd) → IsRefusal task f end → (end ≡ NoMemory → ⊥)
    → (end ≡ TooHigh) × (4096 < highest (notes_under (node_in task f) f.children) + 1)
high_refused task f TooHigh h not = (refl, h)
high_refused task f NoMemory h not = absurd (not refl)
high_refused task f Posted h not = absurd h
high_refused task f Spent h not = absurd h
high_refused task f NoRoom h not = absurd h
high_refused task f Stopped h not = absurd h

refused_high : (task : Task) (s : State) (f : FrameView) (t : State) (end : WorkEnd) → IsRefusal task f end → t ≡ wind (one_claim s) end → ¬ IsStarved t
    → (end ≡ TooHigh) × (4096 < highest (notes_under (node_in task f) f.children) + 1)
refused_high task s f t end h is not = high_refused task f end h (λ e. not (ap (λ (z : State). z.stage) is ∙ ap Winding e))

makes_once : AreLaws → (task : Task) (s : State) (frames : List FrameView) (t u : State) → Makes task s frames t → Makes task s frames u → ¬ IsStarved t → ¬ IsStarved u → t ≡ u
makes_once laws task s [] t u h k not nor = absurd h
makes_once laws task s (f ∷ fs) t u (inl (m, one, h)) (inl (n, two, k)) not nor =
    h ∙ (ap (λ (x : Derivation). at_stage (one_claim s) (Leaving (Solved x)) s.frames) (made_once laws.tags task f m n one two) ∙ sym k)
makes_once laws task s (f ∷ fs) t u (inl (m, one, h)) (inr (end, two, k)) not nor =
    let low = made_low task f m one in
    let high = (refused_high task s f u end two k nor).1 in
    absurd (omega (arith, low, high))
makes_once laws task s (f ∷ fs) t u (inr (end, one, h)) (inl (n, two, k)) not nor =
    let low = made_low task f n two in
    let high = (refused_high task s f t end one h not).1 in
    absurd (omega (arith, low, high))
makes_once laws task s (f ∷ fs) t u (inr (end, one, h)) (inr (other, two, k)) not nor =
    let same : end ≡ other = (refused_high task s f t end one h not).0 ∙ sym (refused_high task s f u other two k nor).0 in
    h ∙ (ap (wind (one_claim s)) same ∙ sym k)

returns_once : (task : Task) (s : State) (frames : List FrameView) (left : Left) (t u : State) → Returns task s frames left t → Returns task s frames left u → t ≡ u
returns_once task s [] (Solved note) t u h k = h ∙ sym k
returns_once task s [] (Open numbers) t u h k = absurd h
returns_once task s (g ∷ gs) left t u h k =
    let same : k.0 ≡ h.0 = same_Some k.0 h.0 (sym k.1 ∙ h.1) in
    goes_on_once task s (came_back g g.chosen h.0 left) gs t u h.2 (subst (λ (c : Child). GoesOn task s (came_back g g.chosen c left) gs u) same k.2)

-- An answer leads a worker that doesn't wind up for want of memory to one state.
pub leads_once : AreLaws → (task : Task) (s : State) (stage : Stage) (a : Reply) (t u : State) → LeadsAt task s stage a t → LeadsAt task s stage a u → ¬ IsStarved t
    → ¬ IsStarved u → t ≡ u
leads_once laws task s (Polling entry) (Polled true) t u h k not nor = h ∙ sym k
leads_once laws task s (Polling entry) (Polled false) t u h k not nor = h ∙ sym k
leads_once laws task s (Drawing entry) (Drew (Go number)) t u h k not nor = begins_once task s entry t u h k not nor
leads_once laws task s (Drawing entry) (Drew Done) t u h k not nor = h ∙ sym k
leads_once laws task s (Drawing entry) (Drew AllDrawn) t u h k not nor = h ∙ sym k
leads_once laws task s Entering (Entered kept) t u h k not nor = opens_once laws task s s.frames kept t u h k not nor
leads_once laws task s (Looking place) (Looked seen) t u h k not nor = sees_once laws task s place s.frames seen t u h k not nor
leads_once laws task s Claiming (Claimed Full) t u h k not nor = h ∙ sym k
leads_once laws task s Claiming (Claimed (Room room)) t u h k not nor = makes_once laws task s s.frames t u h k not nor
leads_once laws task s (Leaving left) LeftIt t u h k not nor = returns_once task s (rest_of s.frames) left t u h k
leads_once laws task s (Posting posted) PostedIt t u h k not nor = h ∙ sym k
leads_once laws task s (Winding end) LeftIt t u h k not nor = h ∙ sym k
leads_once laws task s stage a t u h k not nor = absurd h

-- A worker that winds up for want of memory goes on to.
pub stays_starved : (task : Task) (s t : State) (x : Exchange) → Goes task s x t → IsStarved s → IsStarved t
stays_starved task s t (q, None) h starved = absurd (subst IsLooking starved h.1)
stays_starved task s t (q, Some a) h starved = still_winds task s NoMemory a t (subst (λ (stage : Stage). LeadsAt task s stage a t) starved h.2)
