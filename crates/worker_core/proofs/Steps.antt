-- What the machine does to its visits is what an answer leads to.
use Rattle.std.proofs.Common.{◌≡◌, inl, inr, ℕ, List, [], ◌∷◌, refl, sym, ap, ap₂, ◌∙◌, subst}
use Rattle.std.specs.Prelude.{Option, Some, None, slice_get, IsSome}
use Rattle.board_core.specs.declared.keys.Key.{Key}
use Rattle.notes.specs.Derivation.{Derivation}
use Rattle.notes.specs.declared.words.Kept.{Kept}
use Rattle.notes.specs.declared.words.Seen.{Seen}
use Rattle.visit_log.specs.declared.parts.Child.{Child}
use Rattle.visit_log.specs.declared.parts.Left.{Left}
use Rattle.visit_log.specs.declared.parts.Left.TheVariants.{Solved, Open}
use Rattle.visit_log.specs.declared.parts.Stage.{Stage}
use Rattle.visit_log.specs.declared.parts.Stage.TheVariants.{Looking, Entering, Leaving}
use Rattle.visit_log.specs.declared.words.WorkEnd.{WorkEnd}
use Rattle.visit_log.specs.declared.words.WorkEnd.TheVariants.{NoMemory}
use Rattle.visit_log.specs.declared.words.Request.TheVariants.{Look, End}
use Rattle.visit_log.specs.Frame.{Task, FrameView, attacker_in, begun, opened}
use Rattle.visit_log.specs.Children.{AreChildren}
use Rattle.visit_log.specs.Round.{MayShow, Sight, Tells, looked, came_back, IsMade, IsRefusal}
use Rattle.visit_log.specs.Machine.{State, at_stage, path_of, keep, Settles, GoesOn, IsLending, Opens, Sees, Makes, Returns, MayShowAt, wind, one_claim, rest_of, ask_look, ask_look_in}
use Rattle.visit_log.specs.Sound.{IsSoundPlace, IsSoundVisit, IsListed, IsLookedAt, IsNoteOf, IsSoundAt, AreSound}
use Rattle.visit_log.specs.Laws.{OpenedIsSound, LookedIsSound, BackIsSound}
use Rattle.worker_core.specs.Stack.{top_of, HasTop, HasOver, ChangesTop}

-- What the innermost visit does next, and the state then.
pub goes_on : (task : Task) (s t : State) (frames : List FrameView) → ChangesTop (λ f g. Settles task f t.stage g) frames t.frames
    → t.visits ≡ s.visits → t.claims ≡ s.claims → HasOver (λ f fs. GoesOn task s f fs t) frames
goes_on task s t [] changes visits claims = absurd changes
goes_on task s t (f ∷ fs) changes visits claims = record {
  next = changes.0;
  settles = changes.1;
  is = λ i. record { stage = t.stage; frames = changes.2 i; visits = visits i; claims = claims i };
}

-- The rest of a state doesn't matter to what comes next, but for its counts.
goes_on_from : (task : Task) (s u t : State) (f : FrameView) (fs : List FrameView) → u.visits ≡ s.visits → u.claims ≡ s.claims → GoesOn task u f fs t
    → GoesOn task s f fs t
goes_on_from task s u t f fs visits claims on = record {
  next = on.next;
  settles = on.settles;
  is = on.is ∙ (λ i. record { stage = t.stage; frames = on.next ∷ fs; visits = visits i; claims = claims i });
}

-- A visit whose successors were listed: it is sound.
pub listed_top : (task : Task) (before kept_frames listed_frames : List FrameView) (kept : Kept) → OpenedIsSound
    → HasOver (λ f fs. IsSoundPlace task fs f.place × (f ≡ begun f.place)) before → ChangesTop (λ f g. g ≡ keep f kept) before kept_frames
    → ChangesTop (λ f g. AreChildren (attacker_in task) f.place.position (path_of task kept_frames) g.children
    × (g ≡ record { place = f.place; kept = f.kept; children = g.children; chosen = 0 })) kept_frames listed_frames
    → HasTop (λ f. (path : List Key) × IsListed task path f) listed_frames
listed_top task [] ks ls kept law sound k l = absurd sound
listed_top task (f ∷ fs) [] ls kept law sound k l = absurd l
listed_top task (f ∷ fs) (g ∷ gs) ls kept law sound k l =
    let e : g ∷ gs ≡ k.0 ∷ fs = k.2 in
    let first : g ≡ k.0 = cc in
    let eg : g ≡ keep f kept = first ∙ k.1 in
    let es : gs ≡ fs = cc in
    let place : g.place ≡ f.place = ap (λ (z : FrameView). z.place) eg in
    let path : path_of task (g ∷ gs) ≡ path_of task (f ∷ fs) = ap₂ (λ (p : FrameView) (z : List FrameView). path_of task (p ∷ z)) eg es in
    let h : FrameView = l.0 in
    let are : AreChildren (attacker_in task) f.place.position (path_of task (f ∷ fs)) h.children =
    subst (λ (p : List Key). AreChildren (attacker_in task) f.place.position p h.children) path
    (subst (λ (p : Rattle.visit_log.specs.Frame.Place). AreChildren (attacker_in task) p.position (path_of task (g ∷ gs)) h.children) place l.1.0) in
    let is : h ≡ opened f.place kept h.children = l.1.1 ∙ ap (λ (z : FrameView). record { place = z.place; kept = z.kept; children = h.children; chosen = 0 }) eg in
    let visit : IsSoundVisit task (opened f.place kept h.children) fs = law task f fs kept h.children sound.0 are in
    subst (HasTop (λ f. (path : List Key) × IsListed task path f)) (sym l.2)
    (subst (λ (z : FrameView). (path : List Key) × IsListed task path z) (sym is) (path_of task (opened f.place kept h.children ∷ fs), visit.listed))

-- So the position is opened.
pub opens : (task : Task) (s u t : State) (before kept_frames listed_frames : List FrameView) (kept : Kept)
    → HasOver (λ f fs. IsSoundPlace task fs f.place × (f ≡ begun f.place)) before → ChangesTop (λ f g. g ≡ keep f kept) before kept_frames
    → ChangesTop (λ f g. AreChildren (attacker_in task) f.place.position (path_of task kept_frames) g.children
    × (g ≡ record { place = f.place; kept = f.kept; children = g.children; chosen = 0 })) kept_frames listed_frames
    → u.visits ≡ s.visits → u.claims ≡ s.claims → HasOver (λ f fs. GoesOn task u f fs t) listed_frames → Opens task s before kept t
opens task s u t [] ks ls kept sound k l visits claims on = absurd sound
opens task s u t (f ∷ fs) [] ls kept sound k l visits claims on = absurd l
opens task s u t (f ∷ fs) (g ∷ gs) ls kept sound k l visits claims on =
    let e : g ∷ gs ≡ k.0 ∷ fs = k.2 in
    let first : g ≡ k.0 = cc in
    let eg : g ≡ keep f kept = first ∙ k.1 in
    let es : gs ≡ fs = cc in
    let place : g.place ≡ f.place = ap (λ (z : FrameView). z.place) eg in
    let path : path_of task (g ∷ gs) ≡ path_of task (f ∷ fs) = ap₂ (λ (p : FrameView) (z : List FrameView). path_of task (p ∷ z)) eg es in
    let h : FrameView = l.0 in
    let are : AreChildren (attacker_in task) f.place.position (path_of task (f ∷ fs)) h.children =
    subst (λ (p : List Key). AreChildren (attacker_in task) f.place.position p h.children) path
    (subst (λ (p : Rattle.visit_log.specs.Frame.Place). AreChildren (attacker_in task) p.position (path_of task (g ∷ gs)) h.children) place l.1.0) in
    let is : h ≡ opened f.place kept h.children = l.1.1 ∙ ap (λ (z : FrameView). record { place = z.place; kept = z.kept; children = h.children; chosen = 0 }) eg in
    let over : GoesOn task u h gs t = subst (HasOver (λ f fs. GoesOn task u f fs t)) l.2 on in
    let over2 : GoesOn task u (opened f.place kept h.children) fs t =
    subst (λ (z : List FrameView). GoesOn task u (opened f.place kept h.children) z t) es (subst (λ (z : FrameView). GoesOn task u z gs t) is over) in
    inl (h.children, are, goes_on_from task s u t (opened f.place kept h.children) fs visits claims over2)

-- Or there was no memory for its successors.
pub opens_lost : (task : Task) (s u t : State) (before kept_frames : List FrameView) (kept : Kept)
    → HasOver (λ f fs. IsSoundPlace task fs f.place × (f ≡ begun f.place)) before → ChangesTop (λ f g. g ≡ keep f kept) before kept_frames
    → u.frames ≡ kept_frames → u.visits ≡ s.visits → u.claims ≡ s.claims → t ≡ wind u NoMemory → Opens task s before kept t
opens_lost task s u t [] ks kept sound k frames visits claims is = absurd sound
opens_lost task s u t (f ∷ fs) ks kept sound k frames visits claims is =
    let e : u.frames ≡ keep f kept ∷ fs = frames ∙ (k.2 ∙ ap (λ (z : FrameView). z ∷ fs) k.1) in
    let same : at_stage u Entering u.frames ≡ at_stage s Entering (keep f kept ∷ fs) =
    λ i. record { stage = Entering; frames = e i; visits = visits i; claims = claims i } in
    inr (is ∙ ap (λ (z : State). wind z NoMemory) same)

-- A visit one of whose children was looked at: it is sound.
pub looked_top : (task : Task) (place : ℕ) (seen : Seen) (before after : List FrameView) → LookedIsSound
    → HasOver (λ f fs. IsSoundVisit task f fs × IsLookedAt f place) before → MayShowAt task before place seen
    → ChangesTop (λ f g. (sight : Sight) × (sight.place ≡ place) × (sight.seen ≡ seen) × (slice_get f.children place ≡ Some sight.child)
    × Tells (attacker_in task) f.place.position sight.child.by seen sight.start × (g ≡ looked task f sight)) before after
    → HasTop (λ f. (path : List Key) × IsListed task path f) after
looked_top task place seen [] after law sound may changes = absurd sound
looked_top task place seen (f ∷ fs) after law sound may changes =
    let g : FrameView = changes.0 in
    let sight : Sight = changes.1.0 in
    let at : sight.place ≡ place = changes.1.1 in
    let told : sight.seen ≡ seen = changes.1.2 in
    let there : slice_get f.children place ≡ Some sight.child = changes.1.3 in
    let there2 : slice_get f.children sight.place ≡ Some sight.child = subst (λ (n : ℕ). slice_get f.children n ≡ Some sight.child) (sym at) there in
    let at2 : IsLookedAt f sight.place = subst (IsLookedAt f) (sym at) sound.1 in
    let may2 : MayShow (attacker_in task) sight.child.key (path_of task (f ∷ fs)) sight.seen =
    subst (λ (z : Seen). MayShow (attacker_in task) sight.child.key (path_of task (f ∷ fs)) z) (sym told) (may sight.child there) in
    let tells : Tells (attacker_in task) f.place.position sight.child.by sight.seen sight.start =
    subst (λ (z : Seen). Tells (attacker_in task) f.place.position sight.child.by z sight.start) (sym told) changes.1.4 in
    let visit : IsSoundVisit task (looked task f sight) fs = law task f fs sight sound.0 at2 there2 may2 tells in
    subst (HasTop (λ f. (path : List Key) × IsListed task path f)) (sym changes.2)
    (subst (λ (z : FrameView). (path : List Key) × IsListed task path z) (sym changes.1.5) (path_of task (looked task f sight ∷ fs), visit.listed))

pub sees : (task : Task) (s u t : State) (place : ℕ) (seen : Seen) (before after : List FrameView)
    → ChangesTop (λ f g. (sight : Sight) × (sight.place ≡ place) × (sight.seen ≡ seen) × (slice_get f.children place ≡ Some sight.child)
    × Tells (attacker_in task) f.place.position sight.child.by seen sight.start × (g ≡ looked task f sight)) before after
    → u.visits ≡ s.visits → u.claims ≡ s.claims → HasOver (λ f fs. GoesOn task u f fs t) after → Sees task s place before seen t
sees task s u t place seen [] after changes visits claims on = absurd changes
sees task s u t place seen (f ∷ fs) after changes visits claims on =
    let sight : Sight = changes.1.0 in
    let over : GoesOn task u changes.0 fs t = subst (HasOver (λ f fs. GoesOn task u f fs t)) changes.2 on in
    inl (
      sight,
      changes.1.1,
      changes.1.2,
      changes.1.3,
      changes.1.4,
      goes_on_from task s u t (looked task f sight) fs visits claims (subst (λ (z : FrameView). GoesOn task u z fs t) changes.1.5 over),
    )

-- There is no memory to carry a note that is lent.
pub sees_lost : (task : Task) (s u t : State) (place : ℕ) (seen : Seen) (before : List FrameView)
    → HasOver (λ f fs. IsSoundVisit task f fs × IsLookedAt f place) before → IsLending seen → u.frames ≡ before → u.visits ≡ s.visits → u.claims ≡ s.claims
    → t ≡ wind u NoMemory → Sees task s place before seen t
sees_lost task s u t place seen [] sound lent frames visits claims is = absurd sound
sees_lost task s u t place seen (f ∷ fs) sound lent frames visits claims is =
    let same : at_stage u (Looking place) u.frames ≡ at_stage s (Looking place) (f ∷ fs) =
    λ i. record { stage = Looking place; frames = frames i; visits = visits i; claims = claims i } in
    inr (lent, is ∙ ap (λ (z : State). wind z NoMemory) same)

-- The note of the innermost position is made; or it isn't.
pub makes : (task : Task) (s t : State) (frames : List FrameView) (note : Derivation) → HasTop (λ f. IsMade task f note) frames
    → t ≡ at_stage (one_claim s) (Leaving (Solved note)) s.frames → Makes task s frames t
makes task s t [] note made is = absurd made
makes task s t (f ∷ fs) note made is = inl (note, made, is)

pub makes_not : (task : Task) (s t : State) (frames : List FrameView) (end : WorkEnd) → HasTop (λ f. IsRefusal task f end) frames
    → t ≡ wind (one_claim s) end → Makes task s frames t
makes_not task s t [] end refused is = absurd refused
makes_not task s t (f ∷ fs) end refused is = inr (end, refused, is)

pub some_top : (P : FrameView → List FrameView → Type 0) (frames : List FrameView) → HasOver P frames → HasTop (λ f. Unit {0}) frames
some_top P [] has = absurd has
some_top P (f ∷ fs) has = tt

pub over_top : (P : FrameView → List FrameView → Type 0) (Q : FrameView → Type 0) (frames : List FrameView) → ((f : FrameView) (fs : List FrameView) → P f fs → Q f)
    → HasOver P frames → HasTop Q frames
over_top P Q [] more has = absurd has
over_top P Q (f ∷ fs) more has = more f fs has

-- A visit that the visit of a child has come back to: it is sound.
pub back_top : (task : Task) (before : List FrameView) (left : Left) (after : List FrameView) → BackIsSound → IsSoundAt task (Leaving left) before
    → ChangesTop (λ f g. (child : Child) × (slice_get f.children f.chosen ≡ Some child) × (g ≡ came_back f f.chosen child left)) (rest_of before) after
    → HasTop (λ f. (path : List Key) × IsListed task path f) after
back_top task [] left after law sound changes = absurd sound
back_top task (f ∷ []) left after law sound changes = absurd changes
back_top task (f ∷ g ∷ gs) left after law sound changes =
    let child : Child = changes.1.0 in
    let are : AreSound task (f ∷ g ∷ gs) = both left sound in
    let visit : IsSoundVisit task (came_back g g.chosen child left) gs =
    law task f g gs child left are.0 are.1.0 changes.1.1 (λ note is. noted left sound note is) in
    subst (HasTop (λ f. (path : List Key) × IsListed task path f)) (sym changes.2)
    (subst (λ (z : FrameView). (path : List Key) × IsListed task path z) (sym changes.1.2)
    (path_of task (came_back g g.chosen child left ∷ gs), visit.listed))
  where
    both : (left : Left) → IsSoundAt task (Leaving left) (f ∷ g ∷ gs) → AreSound task (f ∷ g ∷ gs)
    both (Open numbers) h = h.0
    both (Solved note) h = h.0

    noted : (left : Left) → IsSoundAt task (Leaving left) (f ∷ g ∷ gs) → (note : Derivation) → left ≡ Solved note
        → IsNoteOf task f.place.position (path_of task (g ∷ gs)) note
    noted (Open numbers) h note is = absurd (cc)
    noted (Solved made) h note is =
        let e : made ≡ note = cc in
        subst (λ (z : Derivation). IsNoteOf task f.place.position (path_of task (g ∷ gs)) z) e h.1

pub returns : (task : Task) (s u t : State) (rest : List FrameView) (left : Left) (after : List FrameView)
    → ChangesTop (λ f g. (child : Child) × (slice_get f.children f.chosen ≡ Some child) × (g ≡ came_back f f.chosen child left)) rest after
    → u.visits ≡ s.visits → u.claims ≡ s.claims → HasOver (λ f fs. GoesOn task u f fs t) after → Returns task s rest left t
returns task s u t [] left after changes visits claims on = absurd changes
returns task s u t (g ∷ gs) left after changes visits claims on =
    let child : Child = changes.1.0 in
    let over : GoesOn task u changes.0 gs t = subst (HasOver (λ f fs. GoesOn task u f fs t)) changes.2 on in
    let on2 : GoesOn task s (came_back g g.chosen child left) gs t =
    goes_on_from task s u t (came_back g g.chosen child left) gs visits claims (subst (λ (z : FrameView). GoesOn task u z gs t) changes.1.2 over) in
    by_left left (child, changes.1.1, on2)
  where
    by_left : (l : Left) → (child : Child) × (slice_get g.children g.chosen ≡ Some child) × GoesOn task s (came_back g g.chosen child l) gs t
        → Returns task s (g ∷ gs) l t
    by_left (Solved note) h = h
    by_left (Open numbers) h = h

-- The child to which the innermost of the others went down is there.
pub back_there : (task : Task) (before : List FrameView) (left : Left) → IsSoundAt task (Leaving left) before → ¬ (rest_of before ≡ [])
    → HasTop (λ f. IsSome (slice_get f.children f.chosen)) (rest_of before)
back_there task [] left sound some = absurd sound
back_there task (f ∷ []) left sound some = absurd (some refl)
back_there task (f ∷ g ∷ gs) left sound some = by_left left sound
  where
    there : (child : Child) → slice_get g.children g.chosen ≡ Some child → IsSome (slice_get g.children g.chosen)
    there child e = subst IsSome (sym e) refl

    by_left : (left : Left) → IsSoundAt task (Leaving left) (f ∷ g ∷ gs) → IsSome (slice_get g.children g.chosen)
    by_left (Open numbers) h = there h.0.0.placed.0 h.0.0.placed.1
    by_left (Solved note) h = there h.0.0.placed.0 h.0.0.placed.1

-- The problem's position is left with a note.
pub root_solved : (task : Task) (before : List FrameView) (left : Left) → IsSoundAt task (Leaving left) before → rest_of before ≡ []
    → (note : Derivation) × (left ≡ Solved note)
root_solved task [] left sound none = absurd sound
root_solved task (f ∷ g ∷ gs) left sound none = absurd (cc)
root_solved task (f ∷ []) left sound none = by_left left sound
  where
    by_left : (left : Left) → IsSoundAt task (Leaving left) (f ∷ []) → (note : Derivation) × (left ≡ Solved note)
    by_left (Open numbers) h = absurd h
    by_left (Solved note) h = (note, refl)

-- The entered position is as it was.
pub kept_placed : (task : Task) (before kept_frames : List FrameView) (kept : Kept)
    → HasOver (λ f fs. IsSoundPlace task fs f.place × (f ≡ begun f.place)) before → ChangesTop (λ f g. g ≡ keep f kept) before kept_frames
    → HasTop (λ f. (fs : List FrameView) × IsSoundPlace task fs f.place) kept_frames
kept_placed task [] ks kept sound k = absurd sound
kept_placed task (f ∷ fs) ks kept sound k =
    subst (HasTop (λ g. (gs : List FrameView) × IsSoundPlace task gs g.place)) (sym k.2)
    (subst (λ (z : FrameView). (gs : List FrameView) × IsSoundPlace task gs z.place) (sym k.1) (fs, sound.0))

-- The stage that is left doesn't matter to what comes next.
pub returns_from : (task : Task) (s u t : State) (fs : List FrameView) (left : Left) → u.visits ≡ s.visits → u.claims ≡ s.claims
    → Returns task u fs left t → Returns task s fs left t
returns_from task s u t [] (Solved note) visits claims r =
    r ∙ (λ i. record { stage = Rattle.visit_log.specs.declared.parts.Stage.TheVariants.Posting (Some note); frames = []; visits = visits i; claims = claims i })
returns_from task s u t [] (Open numbers) visits claims r = r
returns_from task s u t (g ∷ gs) (Solved note) visits claims r = (r.0, r.1, goes_on_from task s u t (came_back g g.chosen r.0 (Solved note)) gs visits claims r.2)
returns_from task s u t (g ∷ gs) (Open numbers) visits claims r = (r.0, r.1, goes_on_from task s u t (came_back g g.chosen r.0 (Open numbers)) gs visits claims r.2)

-- What is asked at a look, by the child's key.
pub look_asks : (o : Option Child) (r : Option Key) (key : Key) → ((child : Child) → o ≡ Some child → r ≡ Some child.key) → (o ≡ None → r ≡ None)
    → r ≡ Some key → Look key ≡ ask_look o
look_asks None r key there none is = let e : Some key ≡ None = sym is ∙ none refl in absurd (cc)
look_asks (Some child) r key there none is = let e : Some key ≡ Some child.key = sym is ∙ there child refl in let k : key ≡ child.key = cc in ap Look k

pub look_asks_none : (o : Option Child) (r : Option Key) → ((child : Child) → o ≡ Some child → r ≡ Some child.key) → r ≡ None → End NoMemory ≡ ask_look o
look_asks_none None r there is = refl
look_asks_none (Some child) r there is = let e : None ≡ Some child.key = sym is ∙ there child refl in absurd (cc)

pub look_in : (frames : List FrameView) (f : FrameView) (place : ℕ) → Some f ≡ top_of frames → ask_look (slice_get f.children place) ≡ ask_look_in frames place
look_in [] f place is = absurd (cc)
look_in (g ∷ gs) f place is = let e : f ≡ g = cc in ap (λ (z : FrameView). ask_look (slice_get z.children place)) e
