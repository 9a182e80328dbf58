-- A list that is picked from another by places, in the order of texts.
use Rattle.std.proofs.Common.{◌≡◌, ◌<◌, ◌≤◌, ◌+◌, ◌++◌, ℕ, zero, suc, List, [], ◌∷◌, get_or, length, map, take, Contains, arith, ap, sym, refl, ◌∙◌, subst}
use Rattle.std.specs.Prelude.{Some, slice_get}
use Rattle.std.specs.Option.{option_map}
use Rattle.std.specs.List.{AllByRecursion}
use Rattle.std.proofs.lemmas.List.{take_more, take_all, length-map, map-id}
use Rattle.std.proofs.lemmas.Option.{slice_get-map, slice_get_read}
use Rattle.bit_boards.specs.declared.piece.Side.{Side}
use Rattle.mate_facts.specs.declared.entry.MateEntry.{MateEntry}
use Rattle.board_core.specs.Board.{Board}
use Rattle.shogi_rules.specs.Tsume.{IsProblem}
use Rattle.board_core.specs.Kept.{IsKept}
use Rattle.cert_text.specs.Certificate.{Mating, Escaping, IsMating, IsEscaping, IsRising, MayBeListed, mate_form, escape_form}
use Rattle.cert_text.specs.Reading.{IsReadCount, IsReadableOf}
use Rattle.mate_facts.specs.Entries.{positions_of}
use Rattle.hand_dominance.specs.declared.version.Version.{Version}
use Rattle.hand_dominance.specs.BorneOut.{AreClosed, CoversLower, IsCovered}
use Rattle.cert_check.specs.Valid.{ValidMate, ValidEscape}
use Rattle.cert_order.specs.Entries.{AreMateEntries, AreEscapeEntries, HaveSame}
use Rattle.cert_order.specs.Order.{RiseAt, IsTextOrder, ArePicked}
use Rattle.list_laws.proofs.Standing.{contained, at_place, from_map}

-- 1. The members.

module _ {X : Type 0} where
  push_pick : (xs : List X) (order : List ℕ) (ys : List X) (place : ℕ) (y : X) → slice_get xs place ≡ Some y → ArePicked xs order ys
      → ArePicked xs (order ++ place ∷ []) (ys ++ y ∷ [])
  push_pick xs [] [] place y e p = (e, tt)
  push_pick xs [] (z ∷ zs) place y e p = absurd p
  push_pick xs (o ∷ os) [] place y e p = absurd p
  push_pick xs (o ∷ os) (z ∷ zs) place y e p = (p.0, push_pick xs os zs place y e p.1)

  pub pick_more : (xs : List X) (order : List ℕ) (ys longer : List X) (i : ℕ) (y : X) → i < length order → get_or order i 0 < length xs
      → y ≡ get_or xs (get_or order i 0) y → longer ≡ ys ++ y ∷ [] → ArePicked xs (take i order) ys → ArePicked xs (take (i + 1) order) longer
  pick_more xs order ys longer i y h inside is e p =
      subst (λ (zs : List X). ArePicked xs (take (i + 1) order) zs) (sym e)
      (subst (λ (os : List ℕ). ArePicked xs os (ys ++ y ∷ [])) (sym (take_more order i 0 h))
      (push_pick xs (take i order) ys (get_or order i 0) y (slice_get_read xs (length xs) (get_or order i 0) y refl inside is) p))

  picked_at : (xs : List X) (order : List ℕ) (ys : List X) → ArePicked xs order ys → (k : ℕ) (y : X) → slice_get ys k ≡ Some y → Contains xs y
  picked_at xs [] [] p k y e = absurd (cc)
  picked_at xs [] (z ∷ zs) p k y e = absurd p
  picked_at xs (o ∷ os) [] p k y e = absurd p
  picked_at xs (o ∷ os) (z ∷ zs) p zero y e = contained xs o y (p.0 ∙ e)
  picked_at xs (o ∷ os) (z ∷ zs) p (suc k) y e = picked_at xs os zs p.1 k y e

  -- a picked one is of the list
  pub of_picked : (xs : List X) (order : List ℕ) (ys : List X) → ArePicked xs order ys → (y : X) → Contains ys y → Contains xs y
  of_picked xs order ys p y c = picked_at xs order ys p c.0 y (at_place ys y c)

  picked_place : (xs : List X) (order : List ℕ) (ys : List X) → ArePicked xs order ys → (k place : ℕ) (x : X) → slice_get order k ≡ Some place
      → slice_get xs place ≡ Some x → slice_get ys k ≡ Some x
  picked_place xs [] [] p k place x e f = absurd (cc)
  picked_place xs [] (z ∷ zs) p k place x e f = absurd p
  picked_place xs (o ∷ os) [] p k place x e f = absurd p
  picked_place xs (o ∷ os) (z ∷ zs) p zero place x e f = let same : o ≡ place = cc in sym p.0 ∙ (ap (slice_get xs) same ∙ f)
  picked_place xs (o ∷ os) (z ∷ zs) p (suc k) place x e f = picked_place xs os zs p.1 k place x e f

  -- where all places are in the order, one of the list is picked
  pub is_picked : (xs : List X) (order : List ℕ) (ys : List X) → ((place : ℕ) → place < length xs → Contains order place) → ArePicked xs order ys
      → (x : X) → Contains xs x → Contains ys x
  is_picked xs order ys all p x c =
      let o = all c.0 c.1 in
      contained ys o.0 x (picked_place xs order ys p o.0 c.0 x (at_place order c.0 o) (at_place xs x c))

-- as many are picked as there are places
pub as_many_picked : {X : Type 0} (xs : List X) (order : List ℕ) (ys : List X) → ArePicked xs order ys → length ys ≡ length order
as_many_picked xs [] [] p = refl
as_many_picked xs [] (z ∷ zs) p = absurd p
as_many_picked xs (o ∷ os) [] p = absurd p
as_many_picked xs (o ∷ os) (z ∷ zs) p = ap suc (as_many_picked xs os zs p.1)

-- what each listed item has, all have
pub all_listed : {X : Type 0} (P : X → Type 0) (xs : List X) → ((x : X) → Contains xs x → P x) → AllByRecursion P xs
all_listed P [] each = tt
all_listed P (x ∷ xs) each = (
  each x (zero, omega arith, refl),
  all_listed P xs (λ y c. each y (suc c.0, (let inside = c.1 in omega (arith, inside)), c.2)),
)

pub picked_map : {X Y : Type 0} (f : X → Y) (xs : List X) (order : List ℕ) (ys : List X) → ArePicked xs order ys → ArePicked (map f xs) order (map f ys)
picked_map {X} {Y} f xs [] [] p = tt
picked_map {X} {Y} f xs [] (z ∷ zs) p = absurd p
picked_map {X} {Y} f xs (o ∷ os) [] p = absurd p
picked_map {X} {Y} f xs (o ∷ os) (z ∷ zs) p = (slice_get-map f xs o ∙ ap (option_map f) p.0, picked_map f xs os zs p.1)

pub rising : (bs : List Board) (order : List ℕ) (cs : List Board) → ArePicked bs order cs → RiseAt bs order → IsRising cs
rising bs [] [] p r = tt
rising bs [] (c ∷ cs) p r = absurd p
rising bs (o ∷ os) [] p r = absurd p
rising bs (o ∷ []) (c ∷ []) p r = tt
rising bs (o ∷ []) (c ∷ d ∷ cs) p r = absurd p.1
rising bs (o ∷ q ∷ os) (c ∷ []) p r = absurd p.1
rising bs (o ∷ q ∷ os) (c ∷ d ∷ cs) p r = (r.0 c d p.0 p.1.0, rising bs (q ∷ os) (d ∷ cs) p.1 r.1)

-- 2. A mate's entries.

abbrev position_of : MateEntry → Board
position_of entry = entry.at

-- the positions of all entries
pub all_positions : (entries : List MateEntry) (n : ℕ) (positions : List Board) → positions ≡ positions_of (take n entries) → length entries ≤ n
    → positions ≡ positions_of entries
all_positions entries n positions e h = e ∙ ap positions_of (take_all n entries h)

-- what every entry's position has, each listed position has
pub of_entries : (P : Board → Type 0) (entries : List MateEntry) → ((entry : MateEntry) → Contains entries entry → P entry.at)
    → (b : Board) → Contains (positions_of entries) b → P b
of_entries P entries h b c =
    let found = from_map position_of entries c.0 b (at_place (positions_of entries) b c) in
    subst P found.2 (h found.0 (contained entries c.0 found.0 found.1))

pub as_many : (entries : List MateEntry) → length (positions_of entries) ≡ length entries
as_many entries = length-map entries position_of

pub mating : (version : Version) (p : Board) (entries sorted : List MateEntry) (order : List ℕ) → IsProblem p → AreMateEntries version p entries
    → IsTextOrder (positions_of entries) order → ArePicked entries order sorted → IsMating (record { version = version; problem = p; entries = sorted })
mating version p entries sorted order accepted are ordered picked = record {
  is_problem = accepted;
  rising = rising (positions_of entries) order (positions_of sorted) (picked_map position_of entries order sorted picked) ordered.rises;
  listed = λ entry c.
      let from = of_picked entries order sorted picked entry c in
      record { has_text = are.texts entry from; is_entry = are.problems entry from };
}

all_entries : (entries : List MateEntry) (order : List ℕ) → IsTextOrder (positions_of entries) order → (place : ℕ) → place < length entries → Contains order place
all_entries entries order ordered place h = ordered.all place (let n = length-map entries position_of in omega arith)

still_below : (version : Version) (attacker : Side) (entries sorted : List MateEntry) → ((entry : MateEntry) → Contains entries entry → Contains sorted entry) → (rank : ℕ) (b : Board)
    → CoversLower version entries attacker rank b → CoversLower version sorted attacker rank b
still_below version attacker entries sorted kept rank b l = record { entry = l.entry; listed = kept l.entry l.listed; covers = l.covers; lower = l.lower }

valid_sorted : (version : Version) (p : Board) (entries sorted : List MateEntry) (order : List ℕ) → AreMateEntries version p entries
    → IsTextOrder (positions_of entries) order → ArePicked entries order sorted → ValidMate (record { version = version; problem = p; entries = sorted }) p
valid_sorted version p entries sorted order are ordered picked =
    let kept = λ (entry : MateEntry) (c : Contains entries entry). is_picked entries order sorted (all_entries entries order ordered) picked entry c in
    record {
      problem = refl;
      listed = record { entry = are.listed.entry; listed = kept are.listed.entry are.listed.listed; covers = are.listed.covers };
      entries = λ entry c.
          let b = are.borne_out entry (of_picked entries order sorted picked entry c) in
          record { check = b.check; evasions = λ evasion h. still_below version p.side entries sorted kept entry.rank.number _ (b.evasions evasion h) };
    }

pub valid_mate : (version : Version) (p : Board) (entries sorted : List MateEntry) (order : List ℕ) (certificate : Mating)
    → certificate ≡ record { version = version; problem = p; entries = sorted } → AreMateEntries version p entries
    → IsTextOrder (positions_of entries) order → ArePicked entries order sorted → ValidMate certificate p
valid_mate version p entries sorted order certificate is are ordered picked =
    subst (λ (c : Mating). ValidMate c p) (sym is) (valid_sorted version p entries sorted order are ordered picked)

pub same_mate : (version : Version) (p : Board) (entries sorted : List MateEntry) (order : List ℕ) (certificate : Mating)
    → certificate ≡ record { version = version; problem = p; entries = sorted }
    → IsTextOrder (positions_of entries) order → ArePicked entries order sorted → HaveSame certificate.entries entries
same_mate version p entries sorted order certificate is ordered picked =
    subst (λ (c : Mating). HaveSame c.entries entries) (sym is)
    (λ entry. (of_picked entries order sorted picked entry, is_picked entries order sorted (all_entries entries order ordered) picked entry))

pub count_mate : (version : Version) (p : Board) (entries sorted : List MateEntry) (order : List ℕ) (certificate : Mating)
    → certificate ≡ record { version = version; problem = p; entries = sorted }
    → IsTextOrder (positions_of entries) order → ArePicked entries order sorted → length certificate.entries ≡ length entries
count_mate version p entries sorted order certificate is ordered picked =
    ap (λ (c : Mating). length c.entries) is ∙ (as_many_picked entries order sorted picked ∙ (ordered.count ∙ as_many entries))

pub readable_mate : (version : Version) (p : Board) (entries sorted : List MateEntry) (order : List ℕ) (certificate : Mating)
    → certificate ≡ record { version = version; problem = p; entries = sorted } → IsProblem p → IsKept p → AreMateEntries version p entries
    → IsTextOrder (positions_of entries) order → ArePicked entries order sorted
    → IsReadCount (length certificate.entries) → IsReadableOf (mate_form certificate.problem) certificate
readable_mate version p entries sorted order certificate is accepted kept are ordered picked =
    let keeps = mating version p entries sorted order accepted are ordered picked in
    subst (λ (c : Mating). IsReadCount (length c.entries) → IsReadableOf (mate_form c.problem) c) (sym is)
    (λ count. record {
      kept = kept;
      is_problem = accepted;
      count = count;
      good = record {
        fit = all_listed (MayBeListed (mate_form p)) sorted
            (λ entry c. record { kept = are.kept entry (of_picked entries order sorted picked entry c); listed = keeps.listed entry c });
        rising = keeps.rising;
      };
    })

-- 3. An escape's entries.

pub escaping : (version : Version) (p : Board) (entries sorted : List Board) (order : List ℕ) → IsProblem p → AreEscapeEntries version p entries
    → IsTextOrder entries order → ArePicked entries order sorted → IsEscaping (record { version = version; problem = p; entries = sorted })
escaping version p entries sorted order accepted are ordered picked = record {
  is_problem = accepted;
  rising = subst IsRising (sym (map-id sorted)) (rising entries order sorted picked ordered.rises);
  listed = λ b c. are.problems b (of_picked entries order sorted picked b c);
}

still_covered : (version : Version) (attacker : Side) (entries sorted : List Board) → ((b : Board) → Contains entries b → Contains sorted b) → (b : Board)
    → IsCovered version entries attacker b → IsCovered version sorted attacker b
still_covered version attacker entries sorted kept b h = record { listed = h.listed; inside = kept h.listed h.inside; covers = h.covers }

closed_sorted : (version : Version) (attacker : Side) (entries sorted : List Board) → ((b : Board) → Contains entries b → Contains sorted b)
    → ((b : Board) → Contains sorted b → Contains entries b) → AreClosed version entries attacker → AreClosed version sorted attacker
closed_sorted version attacker entries sorted kept of closed = record {
  turn = λ b c. closed.turn b (of b c);
  held = λ b c check is_check.
      let a = closed.held b (of b c) check is_check in
      record { evasion = a.evasion; is_evasion = a.is_evasion; leads = still_covered version attacker entries sorted kept _ a.leads };
}

pub valid_escape : (version : Version) (p : Board) (entries sorted : List Board) (order : List ℕ) (certificate : Escaping)
    → certificate ≡ record { version = version; problem = p; entries = sorted } → AreEscapeEntries version p entries
    → IsTextOrder entries order → ArePicked entries order sorted → ValidEscape certificate p
valid_escape version p entries sorted order certificate is are ordered picked =
    let kept = λ (b : Board) (c : Contains entries b). is_picked entries order sorted ordered.all picked b c in
    let of = λ (b : Board) (c : Contains sorted b). of_picked entries order sorted picked b c in
    subst (λ (c : Escaping). ValidEscape c p) (sym is)
    (record { problem = refl; listed = still_covered version p.side entries sorted kept p are.listed; closed = closed_sorted version p.side entries sorted kept of are.closed })

pub same_escape : (version : Version) (p : Board) (entries sorted : List Board) (order : List ℕ) (certificate : Escaping)
    → certificate ≡ record { version = version; problem = p; entries = sorted } → IsTextOrder entries order → ArePicked entries order sorted
    → HaveSame certificate.entries entries
same_escape version p entries sorted order certificate is ordered picked =
    subst (λ (c : Escaping). HaveSame c.entries entries) (sym is)
    (λ b. (of_picked entries order sorted picked b, is_picked entries order sorted ordered.all picked b))

pub count_escape : (version : Version) (p : Board) (entries sorted : List Board) (order : List ℕ) (certificate : Escaping)
    → certificate ≡ record { version = version; problem = p; entries = sorted } → IsTextOrder entries order → ArePicked entries order sorted
    → length certificate.entries ≡ length entries
count_escape version p entries sorted order certificate is ordered picked =
    ap (λ (c : Escaping). length c.entries) is ∙ (as_many_picked entries order sorted picked ∙ ordered.count)

pub readable_escape : (version : Version) (p : Board) (entries sorted : List Board) (order : List ℕ) (certificate : Escaping)
    → certificate ≡ record { version = version; problem = p; entries = sorted } → IsProblem p → IsKept p → AreEscapeEntries version p entries
    → IsTextOrder entries order → ArePicked entries order sorted
    → IsReadCount (length certificate.entries) → IsReadableOf (escape_form certificate.problem) certificate
readable_escape version p entries sorted order certificate is accepted kept are ordered picked =
    let keeps = escaping version p entries sorted order accepted are ordered picked in
    subst (λ (c : Escaping). IsReadCount (length c.entries) → IsReadableOf (escape_form c.problem) c) (sym is)
    (λ count. record {
      kept = kept;
      is_problem = accepted;
      count = count;
      good = record {
        fit = all_listed (MayBeListed (escape_form p)) sorted
            (λ b c. record { kept = are.kept b (of_picked entries order sorted picked b c); listed = keeps.listed b c });
        rising = keeps.rising;
      };
    })
