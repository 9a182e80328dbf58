-- The last of a list is the first of its reverse.
use Rattle.std.proofs.Common.{◌≡◌, ℕ, zero, ◌+◌, ◌<◌, List, [], ◌∷◌, ◌++◌, reverse, length, get_or, set, take, drop, map, arith, refl, sym, ap, ap₂, ◌∙◌, subst, suc}
use Rattle.std.specs.Prelude.{Option, Some, None, Result, Ok, Err, OnOk, OnErr, IfSome, IfNone, is_some, true, false}
use Rattle.visit_log.specs.declared.parts.Stage.{Stage}
use Rattle.visit_log.specs.declared.parts.Stage.TheVariants.{Polling, Drawing, Entering, Looking, Claiming, Leaving, Posting, Winding}
use Rattle.visit_log.specs.declared.parts.Left.TheVariants.{Solved, Open}
use Rattle.std.proofs.lemmas.List.{reverse-append, take_all, take-append-le, map-append}
use Rattle.bit_boards.specs.declared.piece.Side.{Side}
use Rattle.bit_boards.specs.declared.piece.Side.TheVariants.{Black, White}
use Rattle.board_core.specs.declared.keys.Key.{Key}
use Rattle.board_core.specs.Board.{Board}
use Rattle.pn_numbers.specs.declared.node.Node.{Node}
use Rattle.pn_numbers.specs.declared.node.Node.TheVariants.{Attacker}
use Rattle.notes.specs.declared.words.Kept.{Kept}
use Rattle.visit_log.specs.Frame.{Task, Place, FrameView, attacker_in, node_of, node_at}
use Rattle.visit_log.specs.Visit.{path_at, path_with}
use Rattle.visit_log.specs.Machine.{path_of, Settles, bare, entered_ones, rest_of}
use Rattle.worker_core.specs.Stack.{top_of, HasTop, ChangesTop, without_unentered}

pub reverse-snoc : (xs : List FrameView) (x : FrameView) → reverse (xs ++ x ∷ []) ≡ x ∷ reverse xs
reverse-snoc xs x = reverse-append xs (x ∷ [])

-- A list ends with its last, and with another in its place when that is written.
ends : (xs : List FrameView) (n : ℕ) (y d : FrameView) → length xs ≡ suc n → (ys : List FrameView) × (xs ≡ ys ++ get_or xs n d ∷ []) × (set xs n y ≡ ys ++ y ∷ [])
ends [] n y d h = absurd (omega (arith, h))
ends (x ∷ []) zero y d h = ([], refl, refl)
ends (x ∷ []) (suc n) y d h = absurd (omega (arith, h))
ends (x ∷ x2 ∷ xs) zero y d h = absurd (omega (arith, h))
ends (x ∷ x2 ∷ xs) (suc n) y d h =
    let r = ends (x2 ∷ xs) n y d (omega (arith, h)) in
    (x ∷ r.0, ap (λ (z : List FrameView). x ∷ z) r.1, ap (λ (z : List FrameView). x ∷ z) r.2)

-- What is done to the last is done to the innermost.
pub on_top : (Changes : FrameView → FrameView → Type 0) (xs : List FrameView) (n : ℕ) (d y : FrameView) → length xs ≡ n + 1 → Changes (get_or xs n d) y
    → ChangesTop Changes (reverse xs) (reverse (set xs n y))
on_top Changes xs n d y h is =
    let e = ends xs n y d (omega (arith, h)) in
    let r : reverse xs ≡ get_or xs n d ∷ reverse e.0 = ap reverse e.1 ∙ reverse-snoc e.0 (get_or xs n d) in
    let q : reverse (set xs n y) ≡ y ∷ reverse e.0 = ap reverse e.2 ∙ reverse-snoc e.0 y in
    subst (λ (z : List FrameView). ChangesTop Changes z (reverse (set xs n y))) (sym r) (y, is, q)

-- The path is that of the places.
pub path_on_top : (xs : List FrameView) (n : ℕ) (d y : FrameView) → length xs ≡ n + 1 → y.place ≡ (get_or xs n d).place → (task : Task)
    → path_of task (reverse (set xs n y)) ≡ path_of task (reverse xs)
path_on_top xs n d y h same task =
    let e = ends xs n y d (omega (arith, h)) in
    let r : reverse xs ≡ get_or xs n d ∷ reverse e.0 = ap reverse e.1 ∙ reverse-snoc e.0 (get_or xs n d) in
    let q : reverse (set xs n y) ≡ y ∷ reverse e.0 = ap reverse e.2 ∙ reverse-snoc e.0 y in
    ap (path_of task) q ∙ (ap (λ (z : Place). path_at task z (path_of task (reverse e.0))) same ∙ ap (path_of task) (sym r))

-- What the innermost has, the last has.
pub last_has : (P : FrameView → Type 0) (xs : List FrameView) (n : ℕ) (d : FrameView) → length xs ≡ n + 1 → HasTop P (reverse xs) → P (get_or xs n d)
last_has P xs n d h has =
    let e = ends xs n d d (omega (arith, h)) in
    let r : reverse xs ≡ get_or xs n d ∷ reverse e.0 = ap reverse e.1 ∙ reverse-snoc e.0 (get_or xs n d) in
    subst (λ (z : List FrameView). HasTop P z) r has

-- The innermost is the last.
pub top_is_last : (xs : List FrameView) (n : ℕ) (d : FrameView) → length xs ≡ n + 1 → top_of (reverse xs) ≡ Some (get_or xs n d)
top_is_last xs n d h =
    let e = ends xs n d d (omega (arith, h)) in
    let r : reverse xs ≡ get_or xs n d ∷ reverse e.0 = ap reverse e.1 ∙ reverse-snoc e.0 (get_or xs n d) in
    ap top_of r

-- So where a call succeeded.
pub on_top_ok : {A E : Type 0} (r : Result A E) (Changes : FrameView → FrameView → Type 0) (xs : List FrameView) (n : ℕ) (d y : FrameView)
    → length xs ≡ n + 1 → OnOk r (Changes (get_or xs n d) y) → OnOk r (ChangesTop Changes (reverse xs) (reverse (set xs n y)))
on_top_ok (Ok a) Changes xs n d y h is = on_top Changes xs n d y h is
on_top_ok (Err e) Changes xs n d y h is = tt

pub both_ok : {A E : Type 0} (r : Result A E) (P Q : Type 0) → OnOk r P → OnOk r Q → OnOk r (P × Q)
both_ok (Ok a) P Q p q = (p, q)
both_ok (Err e) P Q p q = tt

-- The place stays, where it does where a call succeeded, and where it failed and changed nothing.
pub place_kept : {A E : Type 0} (r : Result A E) (P : Type 0) (f g : FrameView) → (P → g.place ≡ f.place) → OnOk r P → OnErr r (g ≡ f) → g.place ≡ f.place
place_kept (Ok a) P f g stays is same = stays is
place_kept (Err e) P f g stays is same = ap (λ (z : FrameView). z.place) same

-- So where the successors were listed.
pub listed_place : {A E : Type 0} (r : Result A E) (f g : FrameView)
    → OnOk r (g ≡ record { place = f.place; kept = f.kept; children = g.children; chosen = 0 }) → OnErr r (g ≡ f) → g.place ≡ f.place
listed_place (Ok a) f g is same = ap (λ (z : FrameView). z.place) is
listed_place (Err e) f g is same = ap (λ (z : FrameView). z.place) same

-- What a visit does next leaves it where it is.
pub settles_place : (task : Task) (f g : FrameView) (stage : Stage) → Settles task f stage g → g.place ≡ f.place
settles_place task f g (Looking place) s = ap (λ (z : FrameView). z.place) s.1
settles_place task f g Claiming s = ap (λ (z : FrameView). z.place) s.1
settles_place task f g (Leaving (Open numbers)) s = ap (λ (z : FrameView). z.place) s.2
settles_place task f g (Polling entry) s = ap (λ (z : FrameView). z.place) s.3
settles_place task f g (Leaving (Solved note)) s = absurd s
settles_place task f g (Drawing entry) s = absurd s
settles_place task f g Entering s = absurd s
settles_place task f g (Posting posted) s = absurd s
settles_place task f g (Winding end) s = absurd s

-- What is written through a slice of all is all.
pub refilled : (n : ℕ) (items slice new : List FrameView) → length slice ≡ n → length new ≡ length slice → take n (new ++ drop (length new) items) ≡ new
refilled n items slice new h same =
    let e : n ≡ length new = omega (arith, h, same) in
    take-append-le n new (drop (length new) items) (omega (arith, e)) ∙ take_all n new (omega (arith, e))

-- So what is done to the innermost through a slice is done to it.
pub closes : (Changes : FrameView → FrameView → Type 0) (n : ℕ) (items slice new : List FrameView) → slice ≡ items → length slice ≡ n → length new ≡ length slice
    → ChangesTop Changes (reverse slice) (reverse new) → ChangesTop Changes (reverse items) (reverse (take n (new ++ drop (length new) items)))
closes Changes n items slice new value h same is =
    subst (λ (z : List FrameView). ChangesTop Changes (reverse items) (reverse z)) (sym (refilled n items slice new h same))
    (subst (λ (z : List FrameView). ChangesTop Changes (reverse z) (reverse new)) value is)

pub closes_ok : {A E : Type 0} (r : Result A E) (Changes : FrameView → FrameView → Type 0) (n : ℕ) (items slice new : List FrameView) → slice ≡ items
    → length slice ≡ n → length new ≡ length slice → OnOk r (ChangesTop Changes (reverse slice) (reverse new))
    → OnOk r (ChangesTop Changes (reverse items) (reverse (take n (new ++ drop (length new) items))))
closes_ok (Ok a) Changes n items slice new value h same is = closes Changes n items slice new value h same is
closes_ok (Err e) Changes n items slice new value h same is = tt

-- What is known of the innermost may be weakened.
pub has_top_more : (P Q : FrameView → Type 0) (xs : List FrameView) → ((f : FrameView) → P f → Q f) → HasTop P xs → HasTop Q xs
has_top_more P Q [] more has = absurd has
has_top_more P Q (x ∷ xs) more has = more x has

-- One more of the visits is bare.
pub one_more_bare : (xs ys : List FrameView) (i : ℕ) (d : FrameView) → i < length xs → take i xs ≡ map bare (take i ys) → drop i xs ≡ drop i ys
    → (take (suc i) (set xs i (bare (get_or xs i d))) ≡ map bare (take (suc i) ys)) × (drop (suc i) (set xs i (bare (get_or xs i d))) ≡ drop (suc i) ys)
one_more_bare [] ys i d h bared others = absurd (omega (arith, h))
one_more_bare (x ∷ xs) [] zero d h bared others = absurd (cc)
one_more_bare (x ∷ xs) [] (suc i) d h bared others = absurd (cc)
one_more_bare (x ∷ xs) (y ∷ ys) zero d h bared others =
    let first : x ≡ y = cc in
    let rest : xs ≡ ys = cc in
    (ap (λ (z : FrameView). bare z ∷ []) first, rest)
one_more_bare (x ∷ xs) (y ∷ ys) (suc i) d h bared others =
    let first : x ≡ bare y = cc in
    let before : take i xs ≡ map bare (take i ys) = cc in
    let r = one_more_bare xs ys i d (omega (arith, h)) before others in
    (ap₂ (λ (z : FrameView) (zs : List FrameView). z ∷ zs) first r.0, r.1)

snoc_same : (xs ys : List Key) (a b : Key) → xs ++ a ∷ [] ≡ ys ++ b ∷ [] → xs ≡ ys
snoc_same [] [] a b e = refl
snoc_same [] (y ∷ []) a b e = absurd (cc)
snoc_same [] (y ∷ z ∷ ys) a b e = absurd (cc)
snoc_same (x ∷ []) [] a b e = absurd (cc)
snoc_same (x ∷ z ∷ xs) [] a b e = absurd (cc)
snoc_same (x ∷ xs) (y ∷ ys) a b e =
    let first : x ≡ y = cc in
    let rest : xs ++ a ∷ [] ≡ ys ++ b ∷ [] = cc in
    ap₂ (λ (z : Key) (zs : List Key). z ∷ zs) first (snoc_same xs ys a b rest)

no_snoc : (xs : List Key) (a : Key) → xs ++ a ∷ [] ≡ [] → ⊥
no_snoc [] a e = cc
no_snoc (x ∷ xs) a e = cc

-- Without its latest key the path is that of the visits without the innermost, where that is of an
-- attacker's position.
pub popped : (task : Task) (rest : List FrameView) (f : FrameView) (old new : List Key) (r : Option Key) → old ≡ path_of task (f ∷ rest)
    → node_at (attacker_in task) f.place.position ≡ Attacker → IfSome r (λ key. old ≡ new ++ key ∷ []) → IfNone r (old ≡ []) → new ≡ path_of task rest
popped task rest f old new (Some key) is at some none =
    let path : path_of task (f ∷ rest) ≡ path_of task rest ++ f.place.key ∷ [] =
    ap (λ (n : Node). path_with n f.place.key (path_of task rest)) at in
    snoc_same new (path_of task rest) key f.place.key (sym some ∙ (is ∙ path))
popped task rest f old new None is at some none =
    let path : path_of task (f ∷ rest) ≡ path_of task rest ++ f.place.key ∷ [] =
    ap (λ (n : Node). path_with n f.place.key (path_of task rest)) at in
    absurd (no_snoc (path_of task rest) f.place.key (sym path ∙ (sym is ∙ none)))

same_side : (a s : Side) → s ≡ a → node_of a s ≡ Attacker
same_side Black Black e = refl
same_side Black White e = absurd (cc)
same_side White Black e = absurd (cc)
same_side White White e = refl

-- Where who is to move attacks, it is an attacker's node.
pub attacks : (task : Task) (b : Board) → b.side ≡ attacker_in task → node_at (attacker_in task) b ≡ Attacker
attacks task b e = same_side (attacker_in task) b.side e

-- What is left when a worker winds up.
pub entered_bare : (fs : List FrameView) → map bare (without_unentered fs) ≡ entered_ones fs
entered_bare [] = refl
entered_bare (f ∷ fs) = by_kept f.kept refl
  where
    by_kept : (kept : Option Kept) → f.kept ≡ kept → map bare (without_unentered (f ∷ fs)) ≡ entered_ones (f ∷ fs)
    by_kept None e = let d : is_some f.kept ≡ false = ap is_some e in rw d refl
    by_kept (Some k) e = let d : is_some f.kept ≡ true = ap is_some e in rw d refl

reverse_bare : (xs : List FrameView) → reverse (map bare xs) ≡ map bare (reverse xs)
reverse_bare [] = refl
reverse_bare (x ∷ xs) =
    let a : reverse (bare x ∷ map bare xs) ≡ reverse (map bare xs) ++ bare x ∷ [] = reverse-append (bare x ∷ []) (map bare xs) in
    let b : reverse (x ∷ xs) ≡ reverse xs ++ x ∷ [] = reverse-append (x ∷ []) xs in
    a ∙ (ap (λ (z : List FrameView). z ++ bare x ∷ []) (reverse_bare xs) ∙ (sym (map-append bare (reverse xs) (x ∷ [])) ∙ ap (map bare) (sym b)))

-- Through a slice of all, every visit is bare.
pub bared : (n : ℕ) (items slice new : List FrameView) → slice ≡ items → length slice ≡ n → length new ≡ length slice → new ≡ map bare slice
    → reverse (take n (new ++ drop (length new) items)) ≡ map bare (reverse items)
bared n items slice new value h same is =
    ap reverse (refilled n items slice new h same) ∙ (ap reverse (is ∙ ap (map bare) value) ∙ reverse_bare items)

-- What is left without the innermost, where that hasn't entered its position.
pub unentered_dropped : (frames : List FrameView) (f : FrameView) → Some f ≡ top_of frames → is_some f.kept ≡ false
    → rest_of frames ≡ without_unentered frames
unentered_dropped [] f is none = absurd (cc)
unentered_dropped (g ∷ gs) f is none =
    let e : f ≡ g = cc in
    let d : is_some g.kept ≡ false = subst (λ (z : FrameView). is_some z.kept ≡ false) e none in rw d refl
