-- Entries picked in the order of their positions' texts, and the certificate that lists them.
use Rattle.std.proofs.Common.{◌≡◌, ◌<◌, ◌≤◌, ℕ, zero, suc, List, [], ◌∷◌, length, map, take, Contains, arith, ap, sym, refl, ◌∙◌, subst}
use Rattle.std.specs.Prelude.{Some, slice_get}
use Rattle.std.specs.Option.{option_map}
use Rattle.std.specs.List.{AllByRecursion}
use Rattle.std.proofs.lemmas.List.{take_all, length-map}
use Rattle.std.proofs.lemmas.Option.{slice_get-map}
use Rattle.list_laws.proofs.Standing.{contained, at_place, from_map}
use Rattle.board_core.specs.Board.{Board}
use Rattle.board_core.specs.Kept.{IsKept}
use Rattle.shogi_rules.specs.Tsume.{IsProblem}
use Rattle.mate_facts.specs.declared.entry.MateEntry.{MateEntry}
use Rattle.mate_facts.specs.Entries.{positions_of}
use Rattle.hand_dominance.specs.declared.version.Version.{Version}
use Rattle.hand_dominance.specs.BorneOut.{AreKept}
use Rattle.cert_text.specs.Certificate.{Mating, IsMating, IsRising, MayBeListed, mate_form}
use Rattle.cert_text.specs.Reading.{AreGood}
use Rattle.cert_order.specs.Entries.{HaveSame}
use Rattle.cert_order.specs.Order.{RiseAt, IsTextOrder, ArePicked}
use Rattle.cook_report.specs.Joining.{MayBeTold}

-- 1. What is picked.

module _ {X : Type 0} where
  picked_at : (xs : List X) (order : List ℕ) (ys : List X) → ArePicked xs order ys → (k : ℕ) (y : X) → slice_get ys k ≡ Some y → Contains xs y
  picked_at xs [] [] p k y e = absurd (cc)
  picked_at xs [] (z ∷ zs) p k y e = absurd p
  picked_at xs (o ∷ os) [] p k y e = absurd p
  picked_at xs (o ∷ os) (z ∷ zs) p zero y e = contained xs o y (p.0 ∙ e)
  picked_at xs (o ∷ os) (z ∷ zs) p (suc k) y e = picked_at xs os zs p.1 k y e

  of_picked : (xs : List X) (order : List ℕ) (ys : List X) → ArePicked xs order ys → (y : X) → Contains ys y → Contains xs y
  of_picked xs order ys p y c = picked_at xs order ys p c.0 y (at_place ys y c)

  picked_place : (xs : List X) (order : List ℕ) (ys : List X) → ArePicked xs order ys → (k place : ℕ) (x : X) → slice_get order k ≡ Some place
      → slice_get xs place ≡ Some x → slice_get ys k ≡ Some x
  picked_place xs [] [] p k place x e f = absurd (cc)
  picked_place xs [] (z ∷ zs) p k place x e f = absurd p
  picked_place xs (o ∷ os) [] p k place x e f = absurd p
  picked_place xs (o ∷ os) (z ∷ zs) p zero place x e f = let same : o ≡ place = cc in sym p.0 ∙ (ap (slice_get xs) same ∙ f)
  picked_place xs (o ∷ os) (z ∷ zs) p (suc k) place x e f = picked_place xs os zs p.1 k place x e f

  is_picked : (xs : List X) (order : List ℕ) (ys : List X) → ((place : ℕ) → place < length xs → Contains order place) → ArePicked xs order ys
      → (x : X) → Contains xs x → Contains ys x
  is_picked xs order ys all p x c =
      let o = all c.0 c.1 in
      contained ys o.0 x (picked_place xs order ys p o.0 c.0 x (at_place order c.0 o) (at_place xs x c))

  many_picked : (xs : List X) (order : List ℕ) (ys : List X) → ArePicked xs order ys → length ys ≡ length order
  many_picked xs [] [] p = refl
  many_picked xs [] (z ∷ zs) p = absurd p
  many_picked xs (o ∷ os) [] p = absurd p
  many_picked xs (o ∷ os) (z ∷ zs) p = ap suc (many_picked xs os zs p.1)

  all_listed : (P : X → Type 0) (xs : List X) → ((x : X) → Contains xs x → P x) → AllByRecursion P xs
  all_listed P [] each = tt
  all_listed P (x ∷ xs) each = (
    each x (zero, omega arith, refl),
    all_listed P xs (λ y c. each y (suc c.0, (let inside = c.1 in omega (arith, inside)), c.2)),
  )

picked_map : {X Y : Type 0} (f : X → Y) (xs : List X) (order : List ℕ) (ys : List X) → ArePicked xs order ys → ArePicked (map f xs) order (map f ys)
picked_map {X} {Y} f xs [] [] p = tt
picked_map {X} {Y} f xs [] (z ∷ zs) p = absurd p
picked_map {X} {Y} f xs (o ∷ os) [] p = absurd p
picked_map {X} {Y} f xs (o ∷ os) (z ∷ zs) p = (slice_get-map f xs o ∙ ap (option_map f) p.0, picked_map f xs os zs p.1)

rising : (bs : List Board) (order : List ℕ) (cs : List Board) → ArePicked bs order cs → RiseAt bs order → IsRising cs
rising bs [] [] p r = tt
rising bs [] (c ∷ cs) p r = absurd p
rising bs (o ∷ os) [] p r = absurd p
rising bs (o ∷ []) (c ∷ []) p r = tt
rising bs (o ∷ []) (c ∷ d ∷ cs) p r = absurd p.1
rising bs (o ∷ q ∷ os) (c ∷ []) p r = absurd p.1
rising bs (o ∷ q ∷ os) (c ∷ d ∷ cs) p r = (r.0 c d p.0 p.1.0, rising bs (q ∷ os) (d ∷ cs) p.1 r.1)

-- 2. The certificate.

abbrev position_of : MateEntry → Board
position_of entry = entry.at

-- the positions of all entries
pub all_positions : (entries : List MateEntry) (n : ℕ) (positions : List Board) → positions ≡ positions_of (take n entries) → length entries ≤ n
    → positions ≡ positions_of entries
all_positions entries n positions e h = e ∙ ap positions_of (take_all n entries h)

-- what every entry's position has, each listed position has
pub of_entries : (P : Board → Type 0) (entries : List MateEntry) → ((entry : MateEntry) → Contains entries entry → P entry.at)
    → (b : Board) → Contains (positions_of entries) b → P b
of_entries P entries h b c =
    let found = from_map position_of entries c.0 b (at_place (positions_of entries) b c) in
    subst P found.2 (h found.0 (contained entries c.0 found.0 found.1))

pub as_many : (entries : List MateEntry) → length (positions_of entries) ≡ length entries
as_many entries = length-map entries position_of

module _ (version : Version) (p : Board) (entries sorted : List MateEntry) (order : List ℕ) (may : MayBeTold p entries)
    (ordered : IsTextOrder (positions_of entries) order) (picked : ArePicked entries order sorted) where
  all_places : (place : ℕ) → place < length entries → Contains order place
  all_places place h = ordered.all place (let n = as_many entries in omega (arith, n, h))

  rises : IsRising (positions_of sorted)
  rises = rising (positions_of entries) order (positions_of sorted) (picked_map position_of entries order sorted picked) ordered.rises

  pub mating : IsProblem p → IsMating (record { version = version; problem = p; entries = sorted })
  mating accepted = record {
    is_problem = accepted;
    rising = rises;
    listed = λ e c. may.fits e (of_picked entries order sorted picked e c);
  }

  module _ (c : Mating) (is : c ≡ record { version = version; problem = p; entries = sorted }) where
    pub same_listed : HaveSame c.entries entries
    same_listed =
        subst (λ (c : Mating). HaveSame c.entries entries) (sym is)
        (λ e. (of_picked entries order sorted picked e, is_picked entries order sorted all_places picked e))

    pub as_many_listed : length c.entries ≡ length entries
    as_many_listed = ap (λ (c : Mating). length c.entries) is ∙ (many_picked entries order sorted picked ∙ (ordered.count ∙ as_many entries))

    pub good_listed : AreGood (mate_form c.problem) c.entries
    good_listed =
        subst (λ (c : Mating). AreGood (mate_form c.problem) c.entries) (sym is)
        (record {
          fit = all_listed (MayBeListed (mate_form p)) sorted
              (λ e c. let from = of_picked entries order sorted picked e c in record { kept = may.kept e from; listed = may.fits e from });
          rising = rises;
        })

    pub kept_listed : AreKept (positions_of c.entries)
    kept_listed =
        subst (λ (c : Mating). AreKept (positions_of c.entries)) (sym is)
        (of_entries IsKept sorted (λ e c. may.kept e (of_picked entries order sorted picked e c)))
