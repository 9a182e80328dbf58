-- With each answer less is still to come.
use Rattle.std.proofs.Common.{◌≡◌, ◌≤◌, ◌<◌, ◌+◌, ◌-◌, ◌*◌, ℕ, suc, cond, not, Bool, true, false, List, [], ◌∷◌, map, length, arith, refl, ap, ◌∙◌, inl, inr}
use Rattle.std.proofs.lemmas.List.{length-map, length-set}
use Rattle.std.proofs.lemmas.List.Sums.{sum_by-set, count_by-le-length}
use Rattle.std.proofs.lemmas.Option.{slice_get_within, get_or_from_slice_get}
use Rattle.std.specs.Prelude.{Some, slice_get, slice_set, count_by, get_or}
use Rattle.search_limits.specs.declared.expansions.TheConstants.{MOST_EXPANSIONS}
use Rattle.bit_boards.specs.declared.piece.Side.{Side}
use Rattle.board_core.specs.declared.moves.Move.{Move}
use Rattle.board_core.specs.Board.{Board}
use Rattle.board_core.specs.Order.{order_of, RisesFrom, OrdersWithin}
use Rattle.pn_numbers.specs.declared.node.Node.{Node}
use Rattle.pn_numbers.specs.declared.node.Node.TheVariants.{Attacker, Defender}
use Rattle.pn_numbers.specs.declared.numbers.Numbers.{Numbers}
use Rattle.notes.specs.declared.words.Kept.{Kept}
use Rattle.notes.specs.declared.words.Seen.{Seen}
use Rattle.notes.specs.declared.words.Seen.TheVariants.{New, Open as Known, Solved as Shown, Lent}
use Rattle.notes.specs.declared.words.Draw.TheVariants.{Go, Done, Spent as AllDrawn}
use Rattle.notes.specs.declared.words.RoomAnswer.TheVariants.{Room, NoRoom as Full}
use Rattle.visit_log.specs.declared.parts.Child.{Child}
use Rattle.visit_log.specs.declared.parts.Entry.{Entry}
use Rattle.visit_log.specs.declared.parts.Left.{Left}
use Rattle.visit_log.specs.declared.parts.Left.TheVariants.{Solved, Open}
use Rattle.visit_log.specs.declared.parts.Stage.{Stage}
use Rattle.visit_log.specs.declared.parts.Stage.TheVariants.{Polling, Drawing, Entering, Looking, Claiming, Leaving, Posting, Winding}
use Rattle.visit_log.specs.declared.words.WorkEnd.{WorkEnd}
use Rattle.visit_log.specs.declared.words.WorkEnd.TheVariants.{NoMemory}
use Rattle.visit_log.specs.declared.words.Reply.{Reply}
use Rattle.visit_log.specs.declared.words.Reply.TheVariants.{Poll as Polled, Draw as Drew, Claim as Claimed, Look as Looked, Enter as Entered, Leave as LeftIt, Post as PostedIt}
use Rattle.visit_log.specs.Frame.{Task, attacker_in, FrameView, opened}
use Rattle.visit_log.specs.Children.{AreMoves, move_to, is_fresh}
use Rattle.visit_log.specs.Round.{Sight, told, looked, staled, visited, came_back, node_in}
use Rattle.visit_log.specs.Machine.{State, at_stage, wind, starve_at, Settles, GoesOn, Begins, Opens, Sees, Makes, Returns, keep, one_visit, one_claim, rest_of, IsMore, LeadsAt, FitsAt}
use Rattle.visit_log.specs.Run.{Told, Dark, Starved, IsLooking}
use Rattle.visit_log.specs.Sound.{IsLookedAt, IsSoundVisit, IsSoundAt}
use Rattle.visit_log.specs.Counts.{unseen, cost, to_come}
use Rattle.visit_log.specs.Laws.{LessToCome}
use Rattle.visit_log.proofs.Drawn.{length-entered}

-- 1. HOW MANY CHILDREN THERE ARE.

rises_length : OrdersWithin → (low : ℕ) (moves : List Move) → low ≤ 13770 → RisesFrom low moves → low + length moves ≤ 13770
rises_length within low [] under rises = omega (arith, under)
rises_length within low (move ∷ moves) under rises =
    let at = within move in
    let rest = rises_length within (order_of move + 1) moves (omega (arith, at)) rises.1 in
    omega (arith, rest, rises.0)

moves_length : OrdersWithin → (node : Node) (attacker : Side) (b : Board) (moves : List Move) → AreMoves node attacker b moves → length moves ≤ 13770
moves_length within Attacker attacker b moves are = let all = rises_length within 0 moves (omega arith) are.rises in omega (arith, all)
moves_length within Defender attacker b moves are = let all = rises_length within 0 moves (omega arith) are.rises in omega (arith, all)

children_length : OrdersWithin → (node : Node) (attacker : Side) (b : Board) (children : List Child) → AreMoves node attacker b (map move_to children)
    → length children ≤ 13770
children_length within node attacker b children are =
    omega (arith, moves_length within node attacker b (map move_to children) are, length-map children move_to)

-- 2. HOW MANY A ROUND HASN'T LOOKED AT.

-- whether this round hasn't looked at it
abbrev is_unseen : Child → Bool
is_unseen child = not (is_fresh child.look)

unseen_length : (children : List Child) → unseen children ≤ length children
unseen_length children = count_by-le-length is_unseen children

counts_less : {X : Type 0} (p : X → Bool) (xs : List X) (i : ℕ) (x y : X) → slice_get xs i ≡ Some x → p x ≡ true → p y ≡ false
    → count_by p (slice_set xs i y) + 1 ≡ count_by p xs
counts_less {X = X} p xs i x y there counts leaves =
    let one : X → ℕ = λ z. cond (p z) 1 0 in
    let changes = sum_by-set one xs i y x (slice_get_within xs i x there) in
    let was : one (get_or xs i x) ≡ 1 = ap one (get_or_from_slice_get xs i x x there) ∙ ap (λ (b : Bool). cond b 1 0) counts in
    let is : one y ≡ 0 = ap (λ (b : Bool). cond b 1 0) leaves in
    omega (arith, changes, was, is)

told_fresh : (attacker : Side) (b : Board) (child : Child) (seen : Seen) (start : Numbers) → is_unseen (told attacker b child seen start) ≡ false
told_fresh attacker b child New start = refl
told_fresh attacker b child (Known numbers below) start = refl
told_fresh attacker b child (Shown note) start = refl
told_fresh attacker b child (Lent note) start = refl

looked_less : (task : Task) (f : FrameView) (sight : Sight) (place : ℕ) → sight.place ≡ place → IsLookedAt f place
    → unseen (looked task f sight).children + 1 ≡ unseen f.children
looked_less task f sight place e at =
    let attacker = attacker_in task in
    let b = f.place.position in
    counts_less is_unseen f.children sight.place at.child (told attacker b sight.child sight.seen sight.start)
    (ap (λ (i : ℕ). slice_get f.children i) e ∙ at.there) (ap not at.unseen) (told_fresh attacker b sight.child sight.seen sight.start)

back_length : (g : FrameView) (place : ℕ) (child : Child) (left : Left) → length (came_back g place child left).children ≡ length g.children
back_length g place child left = length-set (map staled g.children) place (visited child left) ∙ length-map g.children staled

-- 3. WHAT AN ANSWER LEAVES TO COME.

-- what is still to come at a stage, with these visits going on, after so many drawn
abbrev comes : Stage → List FrameView → ℕ → ℕ
comes st fs visits = 30000 * (MOST_EXPANSIONS - visits) + 13776 * length fs + cost st fs

settles_cost : (task : Task) (f : FrameView) (st : Stage) (g : FrameView) (fs : List FrameView) → Settles task f st g
    → cost st (g ∷ fs) ≤ 3 + unseen f.children
settles_cost task f (Looking place) g fs h = let e = ap (λ (z : FrameView). unseen z.children) h.1 in omega (arith, e)
settles_cost task f Claiming g fs h = omega arith
settles_cost task f (Leaving (Open numbers)) g fs h = omega arith
settles_cost task f (Polling entry) g fs h = omega arith
settles_cost task f (Leaving (Solved note)) g fs h = absurd h
settles_cost task f (Drawing entry) g fs h = absurd h
settles_cost task f Entering g fs h = absurd h
settles_cost task f (Posting posted) g fs h = absurd h
settles_cost task f (Winding end) g fs h = absurd h

goes_on : (task : Task) (s t : State) (f : FrameView) (fs : List FrameView) → GoesOn task s f fs t
    → to_come t ≤ 30000 * (MOST_EXPANSIONS - s.visits) + 13776 * suc (length fs) + (3 + unseen f.children)
goes_on task s t f fs on = let e = ap to_come on.is in let c = settles_cost task f t.stage on.next fs on.settles in omega (arith, e, c)

winds : (s t : State) (end : WorkEnd) → t ≡ wind s end → to_come t ≤ 30000 * (MOST_EXPANSIONS - s.visits) + 13776 * length s.frames
winds s t end e = let same = ap to_come e in omega (arith, same, length-entered s.frames)

begins : (task : Task) (s t : State) (entry : Entry) → s.visits < MOST_EXPANSIONS → Begins task s entry t
    → to_come t < comes (Drawing entry) s.frames s.visits
begins task s t entry under h = elim h [
  | inl begun ↦ (let e = ap to_come begun.1 in omega (arith, e, under))
  | inr lost ↦ (let w = winds (one_visit s) t NoMemory lost in omega (arith, w, under))
]

opens : OrdersWithin → (task : Task) (s t : State) (fs : List FrameView) (kept : Kept) → Opens task s fs kept t → to_come t < comes Entering fs s.visits
opens within task s t [] kept h = absurd h
opens within task s t (f ∷ fs) kept h = elim h [
  | inl listed ↦ (
      let on = goes_on task s t (opened f.place kept listed.0) fs listed.2 in
      let most = children_length within _ (attacker_in task) f.place.position listed.0 listed.1.moves in
      omega (arith, on, unseen_length listed.0, most)
      )
  | inr lost ↦ (let w = winds (at_stage s Entering (keep f kept ∷ fs)) t NoMemory lost in omega (arith, w))
]

sees : (task : Task) (s t : State) (place : ℕ) (fs : List FrameView) (seen : Seen) → IsSoundAt task (Looking place) fs → Sees task s place fs seen t
    → to_come t < comes (Looking place) fs s.visits
sees task s t place [] seen sound h = absurd h
sees task s t place (f ∷ fs) seen sound h = elim h [
  | inl sight ↦ (
      let on = goes_on task s t (looked task f sight.0) fs sight.5 in
      omega (arith, on, looked_less task f sight.0 place sight.1 sound.1)
      )
  | inr lost ↦ (let w = winds (at_stage s (Looking place) (f ∷ fs)) t NoMemory lost.1 in omega (arith, w))
]

makes : (task : Task) (s t : State) (fs : List FrameView) → Makes task s fs t → to_come t < comes Claiming s.frames s.visits
makes task s t [] h = absurd h
makes task s t (f ∷ fs) h = elim h [
  | inl made ↦ (let e = ap to_come made.2 in omega (arith, e))
  | inr refused ↦ (let w = winds (one_claim s) t refused.0 refused.2 in omega (arith, w))
]

-- the visit of a child is over: the visit below goes on
comes_back : OrdersWithin → (task : Task) (s t : State) (g : FrameView) (gs : List FrameView) (left : Left) → IsSoundVisit task g gs
    → (child : Child) → GoesOn task s (came_back g g.chosen child left) gs t → to_come t < comes (Leaving left) (g ∷ g ∷ gs) s.visits
comes_back within task s t g gs left sound child h =
    let back = came_back g g.chosen child left in
    let on = goes_on task s t back gs h in
    let most = children_length within (node_in task g) (attacker_in task) g.place.position g.children sound.listed.moves in
    omega (arith, on, unseen_length back.children, back_length g g.chosen child left, most)

returns : OrdersWithin → (task : Task) (s t : State) (fs : List FrameView) (left : Left) → IsSoundAt task (Leaving left) fs
    → Returns task s (rest_of fs) left t → to_come t < comes (Leaving left) fs s.visits
returns within task s t [] left sound h = absurd sound
returns within task s t (f ∷ []) (Solved note) sound h = let e = ap to_come h in omega (arith, e)
returns within task s t (f ∷ []) (Open numbers) sound h = absurd h
returns within task s t (f ∷ g ∷ gs) (Solved note) sound h = comes_back within task s t g gs (Solved note) sound.0.1.0 h.0 h.2
returns within task s t (f ∷ g ∷ gs) (Open numbers) sound h = comes_back within task s t g gs (Open numbers) sound.0.1.0 h.0 h.2

unwinds : (s t : State) (fs : List FrameView) (end : WorkEnd) → IsMore fs → t ≡ at_stage s (Winding end) (rest_of fs)
    → to_come t < comes (Winding end) fs s.visits
unwinds s t [] end more e = absurd more
unwinds s t (f ∷ fs) end more e = let same = ap to_come e in omega (arith, same)

answers : OrdersWithin → (task : Task) (s t : State) (st : Stage) (answer : Reply) → IsSoundAt task st s.frames → FitsAt task s st answer
    → LeadsAt task s st answer t → to_come t < comes st s.frames s.visits
answers within task s t (Polling entry) (Polled true) sound fits h = let w = winds s t _ h in omega (arith, w)
answers within task s t (Polling entry) (Polled false) sound fits h = let e = ap to_come h in omega (arith, e)
answers within task s t (Drawing entry) (Drew (Go number)) sound fits h = begins task s t entry fits h
answers within task s t (Drawing entry) (Drew Done) sound fits h = let w = winds s t _ h in omega (arith, w)
answers within task s t (Drawing entry) (Drew AllDrawn) sound fits h = let w = winds s t _ h in omega (arith, w)
answers within task s t Entering (Entered kept) sound fits h = opens within task s t s.frames kept h
answers within task s t (Looking place) (Looked seen) sound fits h = sees task s t place s.frames seen sound h
answers within task s t Claiming (Claimed Full) sound fits h = let w = winds s t _ h in omega (arith, w)
answers within task s t Claiming (Claimed (Room room)) sound fits h = makes task s t s.frames h
answers within task s t (Leaving left) LeftIt sound fits h = returns within task s t s.frames left sound h
answers within task s t (Posting posted) PostedIt sound fits h = let w = winds s t _ h in omega (arith, w)
answers within task s t (Winding end) LeftIt sound fits h = unwinds s t s.frames end fits h
answers within task s t st answer sound fits h = absurd h

-- a look that is refused memory
darkens : (s t : State) (st : Stage) → IsLooking st → t ≡ starve_at s st → to_come t < comes st s.frames s.visits
darkens s t (Looking place) looks e = let w = winds s t NoMemory e in omega (arith, w)
darkens s t st looks e = absurd looks

-- With each answer less is still to come, where no position has more moves than the order of moves
-- has places.
pub less_to_come : OrdersWithin → LessToCome
less_to_come within task s t (Told request answer) is sound h some = answers within task s t s.stage answer sound h.1 h.2
less_to_come within task s t (Dark request) is sound h some = darkens s t s.stage h.1 h.2
less_to_come within task s t Starved is sound h some = absurd (omega (arith, some))
