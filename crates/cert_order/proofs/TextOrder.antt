-- A map from texts to places holds the places of the positions in the order of their texts.
use Rattle.std.proofs.Common.{◌≡◌, ◌≢◌, ◌<◌, ◌+◌, if◌then◌else◌, ℕ, suc, Bool, Option, List, [], ◌∷◌, length, Contains, Vec, arith, ap, sym, refl, ◌∙◌, subst, true, false, ⊎_elim}
use Rattle.std.specs.Prelude.{Some, None, is_some, slice_get}
use Rattle.std.specs.Global.{Global}
use Rattle.std.specs.Ordering.{nat_cmp, is_eq}
use Rattle.std.specs.Cmp.{IsTotalOrder}
use Rattle.std.specs.declared.cmp.Ordering.{Ordering}
use Rattle.std.specs.declared.cmp.Ordering.TheVariants.{Less}
use Rattle.std.specs.Cmp.Lexicographic.{slice_cmp}
use Rattle.std.specs.Map.{lookup, values_of, keys_of}
use Rattle.std.specs.List.Sorted.{IsStrictlySortedBy}
use Rattle.std.specs.BTreeMap.{get, is_at, BTreeMap, Updates, IsOrdered, values}
use Rattle.std.proofs.lemmas.Bool.{cases_eq, cases_Bool}
use Rattle.std.proofs.lemmas.List.{length-map}
use Rattle.std.proofs.lemmas.Cmp.{nat_list_cmp_total, tied_itself, on_total}
use Rattle.std.proofs.lemmas.Map.Lookups.{exact_bytes}
use Rattle.std.proofs.lemmas.Map.Entries.{place_from_lookup, btree_map_get_place}
use Rattle.std.proofs.lemmas.Map.Keys.{Less-from_sorted, sorted_tail}
use Rattle.std.proofs.lemmas.Option.{same_Some}
use Rattle.board_laws.proofs.Keys.{equal_of}
use Rattle.list_laws.proofs.Mapped.{written, unwritten}
use Rattle.board_core.specs.Board.{Board}
use Rattle.board_core.specs.Kept.{IsKept}
use Rattle.sfen_text.specs.Spelling.{sfen_of}
use Rattle.cert_text.specs.Certificate.{IsBefore}
use Rattle.mate_facts.specs.Entries.{AreApart}
use Rattle.cert_order.specs.Order.{RiseAt, IsTextOrder}
use Rattle.list_laws.proofs.Standing.{contained, at_place, from_map, contains_map}

abbrev pub Text : Type 0
Text = Vec ℕ Global

-- the order of texts: by their bytes
abbrev pub text_cmp : Text → Text → Ordering
text_cmp a b = slice_cmp nat_cmp a.items b.items

-- a position stands at a place below the bound, and has the text
pub record HasTextAt (positions : List Board) (bound place : ℕ) (text : Text) : Type 0 where
  pub position : Board
  pub there : slice_get positions place ≡ Some position
  pub below : place < bound
  pub text_of : sfen_of position ≡ text.items

-- a text leads to the place
pub record HasKey (by_text : BTreeMap Text ℕ) (place : ℕ) : Type 0 where
  pub text : Text
  pub leads : get text_cmp by_text text ≡ Some place

-- the map has the texts of the first positions, each with its place, and no others
pub record AreTextsBelow (positions : List Board) (bound : ℕ) (by_text : BTreeMap Text ℕ) : Type 0 where
  pub right : (text : Text) (place : ℕ) → get text_cmp by_text text ≡ Some place → HasTextAt positions bound place text
  pub all : (place : ℕ) → place < bound → HasKey by_text place
  pub count : length by_text.entries ≡ bound

-- 1. The map grows.

pub none_yet : (positions : List Board) (by_text : BTreeMap Text ℕ) → by_text.entries ≡ [] → AreTextsBelow positions 0 by_text
none_yet positions by_text empty = record {
  right = λ text place h.
      let at : None ≡ Some place = subst (λ (es : List (Text × ℕ)). lookup (is_at (text_cmp text)) es ≡ Some place) empty h in
      absurd (cc);
  all = λ place h. absurd (omega arith);
  count = ap (λ (es : List (Text × ℕ)). length es) empty;
}

same_text : (a k : Text) → is_at (text_cmp a) k ≡ true → a.items ≡ k.items
same_text a k h = exact_bytes a.items k.items (equal_of (text_cmp a k) h)

at_itself : (a : Text) → is_at (text_cmp a) a ≡ true
at_itself a = ap is_eq (tied_itself nat_list_cmp_total a.items)

right_after : (positions : List Board) (n : ℕ) (p : Board) (key : Text) (old new : BTreeMap Text ℕ)
    → slice_get positions n ≡ Some p → key.items ≡ sfen_of p
    → Updates text_cmp old new key (Some n) → AreTextsBelow positions n old
    → (text : Text) (place : ℕ) → get text_cmp new text ≡ Some place → HasTextAt positions (n + 1) place text
right_after positions n p key old new here words updates known text place h =
    ⊎_elim
    (λ (yes : is_at (text_cmp key) text ≡ true).
    let same : n ≡ place = same_Some n place (sym (written text_cmp old new key n updates text yes) ∙ h) in
    record {
      position = p;
      there = subst (λ (i : ℕ). slice_get positions i ≡ Some p) same here;
      below = omega arith;
      text_of = sym words ∙ same_text key text yes;
    })
    (λ (no : is_at (text_cmp key) text ≡ false).
    let s = known.right text place (sym (unwritten text_cmp old new key n updates text no) ∙ h) in
    record { position = s.position; there = s.there; below = (let b = s.below in omega arith); text_of = s.text_of })
    (cases_Bool (is_at (text_cmp key) text))

-- another position has another text, so its entry stays
stays : (positions : List Board) (n : ℕ) (p : Board) (key : Text) (old new : BTreeMap Text ℕ)
    → AreApart positions → ((b : Board) → Contains positions b → IsKept b)
    → slice_get positions n ≡ Some p → key.items ≡ sfen_of p → ((other : Board) → IsKept other → sfen_of other ≡ key.items → other ≡ p)
    → Updates text_cmp old new key (Some n) → AreTextsBelow positions n old
    → (place : ℕ) → place < n → HasKey new place
stays positions n p key old new apart kept here words own updates known place h =
    let k = known.all place h in
    let s = known.right k.text place k.leads in
    ⊎_elim
    (λ (yes : is_at (text_cmp key) k.text ≡ true).
    let same : s.position ≡ p = own s.position (kept s.position (contained positions place s.position s.there)) (s.text_of ∙ sym (same_text key k.text yes)) in
    let one : place ≡ n = apart place n p (s.there ∙ ap (λ (b : Board). Some b) same) here in
    absurd (omega arith))
    (λ (no : is_at (text_cmp key) k.text ≡ false). record { text = k.text; leads = unwritten text_cmp old new key n updates k.text no ∙ k.leads })
    (cases_Bool (is_at (text_cmp key) k.text))

-- no position so far has the text of the next one
no_text_yet : (positions : List Board) (n : ℕ) (p : Board) (key : Text) (old : BTreeMap Text ℕ)
    → AreApart positions → ((b : Board) → Contains positions b → IsKept b)
    → slice_get positions n ≡ Some p → ((other : Board) → IsKept other → sfen_of other ≡ key.items → other ≡ p)
    → AreTextsBelow positions n old → (found : Option ℕ) → get text_cmp old key ≡ found → is_some found ≡ false
no_text_yet positions n p key old apart kept here own known None e = refl
no_text_yet positions n p key old apart kept here own known (Some place) e =
    let s = known.right key place e in
    let same : s.position ≡ p = own s.position (kept s.position (contained positions place s.position s.there)) s.text_of in
    let one : place ≡ n = apart place n p (s.there ∙ ap (λ (b : Board). Some b) same) here in
    absurd (let below = s.below in omega (arith, below, one))

pub one_text_more : (positions : List Board) (n : ℕ) (p : Board) (key : Text) (old new : BTreeMap Text ℕ) (found : Option ℕ)
    → AreApart positions → ((b : Board) → Contains positions b → IsKept b)
    → slice_get positions n ≡ Some p → key.items ≡ sfen_of p → ((other : Board) → IsKept other → sfen_of other ≡ key.items → other ≡ p)
    → Updates text_cmp old new key (Some n) → found ≡ get text_cmp old key
    → length new.entries ≡ length old.entries + (if is_some found then 0 else 1)
    → AreTextsBelow positions n old → AreTextsBelow positions (n + 1) new
one_text_more positions n p key old new found apart kept here words own updates was longer known = record {
  right = right_after positions n p key old new here words updates known;
  all = λ place h.
      ⊎_elim
      (λ (last : place ≡ n). record { text = key; leads = written text_cmp old new key n updates key (at_itself key) ∙ ap (λ (i : ℕ). Some i) (sym last) })
      (λ (sooner : place ≢ n). stays positions n p key old new apart kept here words own updates known place (omega arith))
      (cases_eq place n);
  count =
      let none = no_text_yet positions n p key old apart kept here own known found (sym was) in
      let more = longer ∙ ap (λ (there : Bool). length old.entries + (if there then 0 else 1)) none in
      let before = known.count in
      omega (arith, more, before);
}

-- 2. Its values are the order.

text_total : IsTotalOrder text_cmp
text_total = on_total (λ (t : Text). t.items) nat_list_cmp_total

-- each entry leads to the place of a position with its text
abbrev AreRight : List Board → List (Text × ℕ) → Type 0
AreRight positions entries = (i : ℕ) (text : Text) (place : ℕ) → slice_get entries i ≡ Some (text, place) → HasTextAt positions (length positions) place text

entries_right : (positions : List Board) (by_text : BTreeMap Text ℕ) → IsOrdered text_cmp by_text → AreTextsBelow positions (length positions) by_text
    → AreRight positions by_text.entries
entries_right positions by_text ordered known i text place e =
    known.right text place (btree_map_get_place text_total by_text i text place ordered e)

before : (positions : List Board) (e f : Text × ℕ) → HasTextAt positions (length positions) e.1 e.0 → HasTextAt positions (length positions) f.1 f.0
    → text_cmp e.0 f.0 ≡ Less → (a b : Board) → slice_get positions e.1 ≡ Some a → slice_get positions f.1 ≡ Some b → IsBefore a b
before positions e f at_e at_f less a b ha hb =
    let ea : at_e.position ≡ a = same_Some at_e.position a (sym at_e.there ∙ ha) in
    let fb : at_f.position ≡ b = same_Some at_f.position b (sym at_f.there ∙ hb) in
    let ta : sfen_of a ≡ e.0.items = ap sfen_of (sym ea) ∙ at_e.text_of in
    let tb : sfen_of b ≡ f.0.items = ap sfen_of (sym fb) ∙ at_f.text_of in
    subst (λ (x : List ℕ). slice_cmp nat_cmp x (sfen_of b) ≡ Less) (sym ta)
    (subst (λ (y : List ℕ). slice_cmp nat_cmp e.0.items y ≡ Less) (sym tb) less)

rising : (positions : List Board) (entries : List (Text × ℕ)) → IsStrictlySortedBy text_cmp (keys_of entries) → AreRight positions entries
    → RiseAt positions (values_of entries)
rising positions [] sorted right = tt
rising positions (e ∷ []) sorted right = tt
rising positions (e ∷ f ∷ rest) sorted right = (
  before positions e f (right 0 e.0 e.1 refl) (right 1 f.0 f.1 refl) (Less-from_sorted text_cmp (keys_of (e ∷ f ∷ rest)) 0 1 e.0 sorted (omega arith) (omega arith)),
  rising positions (f ∷ rest) (sorted_tail text_cmp e.0 (keys_of (f ∷ rest)) sorted) (λ i text place h. right (suc i) text place h),
)

pub text_ordered : (positions : List Board) (n : ℕ) (by_text : BTreeMap Text ℕ) (order : List ℕ) → n ≡ length positions → order ≡ values by_text
    → IsOrdered text_cmp by_text → AreTextsBelow positions n by_text → IsTextOrder positions order
text_ordered positions n by_text order whole is ordered known =
    let known_all = subst (λ (k : ℕ). AreTextsBelow positions k by_text) whole known in
    let right = entries_right positions by_text ordered known_all in
    subst (IsTextOrder positions) (sym is)
    (record {
      all = λ place h.
          let k = known_all.all place h in
          let at = place_from_lookup (is_at (text_cmp k.text)) by_text.entries place k.leads in
          contains_map (λ (e : Text × ℕ). e.1) by_text.entries (at.1, place) (contained by_text.entries at.0 (at.1, place) at.2);
      within = λ place c.
          let e = from_map (λ (e : Text × ℕ). e.1) by_text.entries c.0 place (at_place (values by_text) place c) in
          let r = right c.0 e.0.0 e.0.1 e.1 in
          subst (λ (n : ℕ). n < length positions) e.2 r.below;
      count = length-map by_text.entries (λ (e : Text × ℕ). e.1) ∙ known_all.count;
      rises = rising positions by_text.entries ordered right;
    })
