-- What is joined of all certificates, and what that bears out.
use Rattle.std.proofs.Common.{◌≡◌, ◌<◌, ◌+◌, ◌++◌, ◌↔◌, inl, inr, ℕ, zero, suc, List, [], ◌∷◌, length, take, get_or, Contains, arith, refl, sym, ◌∙◌, ap, subst}
use Rattle.std.specs.Prelude.{slice_get, Result, Ok, Err, IsErr, IsErrAnd, IfErr}
use Rattle.std.specs.List.{flat_map}
use Rattle.std.proofs.lemmas.Grind.{flat_map-append}
use Rattle.std.proofs.lemmas.List.{append_assoc, append-nil, take_more}
use Rattle.std.proofs.lemmas.Option.{same_Some}
use Rattle.std.proofs.lemmas.List.Elements.{Contains-append_left, Contains-append_right, Contains-append_cases}
use Rattle.list_laws.proofs.Standing.{contained, at_place, contains_map, from_map, none_in_none}
use Rattle.bit_boards.specs.declared.piece.Side.{Side}
use Rattle.board_core.specs.declared.moves.Move.{Move}
use Rattle.board_core.specs.Board.{Board}
use Rattle.mate_def.specs.Mate.{after_both}
use Rattle.mate_facts.specs.declared.entry.MateEntry.{MateEntry}
use Rattle.mate_facts.specs.Entries.{positions_of}
use Rattle.hand_dominance.specs.declared.version.Version.{Version}
use Rattle.hand_dominance.specs.declared.version.Version.TheVariants.{One, Two}
use Rattle.hand_dominance.specs.BorneOut.{Covers, CoversListed, CoversLower, CoversStays}
use Rattle.position_places.specs.declared.places.Places.{Places}
use Rattle.position_places.specs.Places.{ArePlacesOf}
use Rattle.dominance_places.specs.Found.{ComesBefore}
use Rattle.cert_text.specs.Certificate.{Mating, IsMating, IsMateEntry}
use Rattle.cert_order.specs.Entries.{HaveSame}
use Rattle.cook_report.specs.declared.ends.JoinEnd.{JoinEnd}
use Rattle.cook_report.specs.declared.ends.JoinEnd.TheVariants.{TooMany, NoMemory}
use Rattle.cook_report.specs.Valid.{AreAllBorneOut, IsMateLine}
use Rattle.cook_report.specs.Joined.{entries_in, IsFirstLeast, IsJoined, IsJoinedVersion, HaveMoreThan, IsJoinEnd, CoversAsMuch, AreValid, AnswerEach}
use Rattle.cook_report.specs.Joining.{AreJoined, MayBeTold}

-- 1. The entries of all certificates

pub of_all : (certificates : List Mating) (e : MateEntry) → Contains (entries_in certificates) e
    → (c : Mating) × Contains certificates c × Contains c.entries e
of_all [] e there = absurd (none_in_none e there)
of_all (c ∷ certificates) e there = elim (Contains-append_cases c.entries (entries_in certificates) e there) [
  | inl here ↦ (c, (zero, omega arith, refl), here)
  | inr later ↦
      let found = of_all certificates e later in
      (found.0, (suc found.1.0, (let inside = found.1.1 in omega (arith, inside)), found.1.2), found.2)
]

pub in_all : (certificates : List Mating) (c : Mating) (e : MateEntry) (at : Contains certificates c) → Contains c.entries e → Contains (entries_in certificates) e
in_all [] c e at there = absurd (none_in_none c at)
in_all (first ∷ certificates) c e (zero, inside, same) there =
    Contains-append_left first.entries (entries_in certificates) e (subst (λ (m : Mating). Contains m.entries e) (sym same) there)
in_all (first ∷ certificates) c e (suc k, inside, same) there =
    Contains-append_right first.entries (entries_in certificates) e (in_all certificates c e (k, omega (arith, inside), same) there)

-- 2. Too many

more_of : (limit : ℕ) (xs ys : List MateEntry) → ((e : MateEntry) → Contains xs e → Contains ys e) → HaveMoreThan limit xs → HaveMoreThan limit ys
more_of limit xs ys all m = record {
  positions = m.positions;
  apart = m.apart;
  more = m.more;
  listed = λ b c.
      let there = m.listed b c in
      let found = from_map (λ (e : MateEntry). e.at) xs there.0 b (at_place (positions_of xs) b there) in
      subst (Contains (positions_of ys)) found.2 (contains_map (λ (e : MateEntry). e.at) ys found.0 (all found.0 (contained xs there.0 found.0 found.1)));
}

pub end_of : (limit : ℕ) (xs ys : List MateEntry) (end : JoinEnd) → ((e : MateEntry) → Contains xs e → Contains ys e) → IsJoinEnd limit xs end → IsJoinEnd limit ys end
end_of limit xs ys TooMany all m = more_of limit xs ys all m
end_of limit xs ys NoMemory all m = tt

-- what ends a call ends its caller
pub ended : {X : Type 0} (Q : JoinEnd → Type 0) (result : Result X JoinEnd) (end : JoinEnd) → IsErr result → IsErrAnd result (λ found. found ≡ end)
    → Q end → IfErr result Q
ended Q (Ok value) end is same h = tt
ended Q (Err found) end is same h = subst Q (sym same) h

-- 3. What is seen

pub one_on : {X : Type 0} (seen items : List X) (i : ℕ) (x : X) → i < length items → x ≡ get_or items i x → (seen ++ take i items) ++ x ∷ [] ≡ seen ++ take (i + 1) items
one_on {X} seen items i x inside is =
    append_assoc seen (take i items) (x ∷ [])
    ∙ ap (λ (xs : List X). seen ++ xs) (ap (λ (y : X). take i items ++ y ∷ []) is ∙ sym (take_more items i x inside))

pub first_items : {X : Type 0} (items : List X) (i : ℕ) (x : X) → Contains (take i items) x → Contains items x
first_items [] i x c = subst (λ (xs : List _). Contains xs x) (take-none i) c
  where
    take-none : {X : Type 0} (i : ℕ) → take {A = X} i [] ≡ []
    take-none zero = refl
    take-none (suc i) = refl
first_items (y ∷ items) zero x c = absurd (none_in_none x c)
first_items (y ∷ items) (suc i) x (zero, inside, same) = (zero, omega arith, same)
first_items (y ∷ items) (suc i) x (suc k, inside, same) =
    let more = first_items items i x (k, omega (arith, inside), same) in
    (suc more.0, (let within = more.1 in omega (arith, within)), more.2)

item_in : {X : Type 0} (items : List X) (i : ℕ) (x y : X) → i < length items → x ≡ get_or items i x → Contains (x ∷ []) y → Contains items y
item_in {X} items i x y inside is (zero, here, same) = subst (Contains items) same (i, inside, sym is)
item_in {X} items i x y inside is (suc k, here, same) = absurd (omega (arith, here))

-- what is seen with one more item is seen with all
pub seen_with : {X : Type 0} (seen items : List X) (i : ℕ) (x : X) → i < length items → x ≡ get_or items i x
    → (e : X) → Contains ((seen ++ take i items) ++ x ∷ []) e → Contains (seen ++ items) e
seen_with seen items i x inside is e there = elim (Contains-append_cases (seen ++ take i items) (x ∷ []) e there) [
  | inl before ↦ elim (Contains-append_cases seen (take i items) e before) [
    | inl old ↦ Contains-append_left seen items e old
    | inr new ↦ Contains-append_right seen items e (first_items items i e new)
  ]
  | inr last ↦ Contains-append_right seen items e (item_in items i x e inside is last)
]

pub fits_here : (c : Mating) (p : Board) (x : MateEntry) → IsMating c → Contains c.entries x → c.problem.side ≡ p.side → IsMateEntry p x
fits_here c p x kept there same =
    let e = kept.listed x there in
    record { has_text = e.has_text; is_entry = record { is_problem = e.is_entry.is_problem; side = e.is_entry.side ∙ same } }

-- the entries of one certificate more
pub certificate_on : (certificates : List Mating) (i : ℕ) (c : Mating) → i < length certificates → c ≡ get_or certificates i c
    → entries_in (take i certificates) ++ c.entries ≡ entries_in (take (i + 1) certificates)
certificate_on certificates i c inside is =
    let f : Mating → List MateEntry = λ its. its.entries in
    let one : flat_map f (c ∷ []) ≡ c.entries = append-nil c.entries in
    ap (λ (es : List MateEntry). entries_in (take i certificates) ++ es) (sym one)
    ∙ (sym (flat_map-append f (take i certificates) (c ∷ []))
    ∙ ap (flat_map f) (ap (λ (its : Mating). take i certificates ++ its ∷ []) is ∙ sym (take_more certificates i c inside)))

pub first_entries : (certificates : List Mating) (i : ℕ) (e : MateEntry) → Contains (entries_in (take i certificates)) e → Contains (entries_in certificates) e
first_entries certificates i e there =
    let found = of_all (take i certificates) e there in
    in_all certificates found.0 e (first_items certificates i found.0 found.1) found.2

-- 4. What is joined of all that is seen

pub none_joined : (p : Board) (limit : ℕ) (entries : List MateEntry) → entries ≡ [] → AreJoined p limit [] entries
none_joined p limit entries none =
    subst (AreJoined p limit []) (sym none)
    (record {
      few = omega arith;
      right = λ e c. absurd (none_in_none e c);
      all = λ e c. absurd (none_in_none e c);
      fits = λ e c. absurd (none_in_none e c);
    })

pub told : (p : Board) (limit : ℕ) (seen entries : List MateEntry) (places : Places) → AreJoined p limit seen entries → ArePlacesOf places (positions_of entries)
    → MayBeTold p entries
told p limit seen entries places joined placed = record {
  fits = λ e c. let f = joined.right e c in joined.fits e (contained seen f.place e f.there);
  kept = λ e c. placed.kept e.at (contains_map (λ (e : MateEntry). e.at) entries e c);
  apart = placed.apart;
}

-- of two that come each before the other, both are one
same_place : (i j : ℕ) (a b : MateEntry) → ComesBefore i a j b → ComesBefore j b i a → i ≡ j
same_place i j a b (inl less) (inl more) = absurd (omega (arith, less, more))
same_place i j a b (inl less) (inr more) = let e = more.0 in absurd (omega (arith, less, e))
same_place i j a b (inr less) (inl more) = let e = less.0 in absurd (omega (arith, more, e))
same_place i j a b (inr less) (inr more) = let one = less.1 in let other = more.1 in omega (arith, one, other)

one_first : (seen : List MateEntry) (a b : MateEntry) → IsFirstLeast seen a → IsFirstLeast seen b → a.at ≡ b.at → a ≡ b
one_first seen a b f g same =
    let place = same_place f.place g.place a b (f.first g.place b g.there (sym same)) (g.first f.place a f.there same) in
    same_Some a b (sym f.there ∙ (ap (slice_get seen) place ∙ g.there))

module _ (p : Board) (limit : ℕ) (certificates : List Mating) (entries : List MateEntry) (joined : AreJoined p limit (entries_in certificates) entries)
    (c : Mating) (same : HaveSame c.entries entries) where
  -- exactly these are listed
  pub are_joined : (e : MateEntry) → Contains c.entries e ↔ IsJoined certificates e
  are_joined e = (
    (λ there. joined.right e ((same e).0 there)),
    (λ first.
        let g = joined.all e (contained (entries_in certificates) first.place e first.there) in
        subst (Contains c.entries) (one_first (entries_in certificates) g.other e (joined.right g.other g.listed) first g.same) ((same g.other).1 g.listed)),
  )

  module _ (stays : CoversStays) (version : IsJoinedVersion certificates c.version) where
    covers_on : (one joint : Version) → IsJoinedVersion certificates joint → (its : Mating) → Contains certificates its → its.version ≡ one
        → (attacker : Side) (over under : Board) → Covers one attacker over under → Covers joint attacker over under
    covers_on One joint is its at own attacker over under covers = stays joint attacker over under covers
    covers_on Two Two is its at own attacker over under covers = covers
    covers_on Two One is its at own attacker over under covers = let none = sym own ∙ is its at in absurd (cc)

    -- what covers an entry of one covers one of all, of no greater rank
    lower_too : (its : Mating) → Contains certificates its → (attacker : Side) (rank : ℕ) (position : Board)
        → CoversLower its.version its.entries attacker rank position → CoversLower c.version c.entries attacker rank position
    lower_too its at attacker rank position l =
        let g = joined.all l.entry (in_all certificates its l.entry at l.listed) in
        record {
          entry = g.other;
          listed = (same g.other).1 g.listed;
          covers = subst (Covers c.version attacker position) (sym g.same)
              (covers_on its.version c.version version its at refl attacker position l.entry.at l.covers);
          lower = (let less = l.lower in let low = g.no_greater in omega (arith, less, low));
        }

    pub covers_as_much : (attacker : Side) (its : Mating) → Contains certificates its → CoversAsMuch attacker its c
    covers_as_much attacker its at position l =
        let low = lower_too its at attacker (suc l.entry.rank.number) position (record { entry = l.entry; listed = l.listed; covers = l.covers; lower = omega arith }) in
        record { entry = low.entry; listed = low.listed; covers = low.covers }

    pub all_borne_out : (attacker : Side) → ((its : Mating) → Contains certificates its → AreAllBorneOut attacker its) → AreAllBorneOut attacker c
    all_borne_out attacker each e there =
        let f = joined.right e ((same e).0 there) in
        let found = of_all certificates e (contained (entries_in certificates) f.place e f.there) in
        let b = each found.0 found.1 e found.2 in
        record { check = b.check; evasions = λ evasion is. lower_too found.0 found.1 attacker e.rank.number _ (b.evasions evasion is) }

    -- so it shows that a check mates, where each evasion leads to the problem of a valid one
    pub mate_line : (sides : (its : Mating) → Contains certificates its → its.problem.side ≡ p.side) → c.problem ≡ p → (check : Move) → AreValid certificates
        → AnswerEach certificates p check → IsMateLine p check c
    mate_line sides about check valid each = record {
      problem = about;
      entries = all_borne_out p.side
          (λ its at. subst (λ (side : Side). AreAllBorneOut side its) (sides its at) (valid its at).entries);
      evasions = λ evasion is.
          let found = each evasion is in
          let its = found.0 in
          covers_as_much p.side its found.1 (after_both p check evasion)
          (subst (λ (b : Board). CoversListed its.version its.entries p.side b) found.2
          (subst (λ (side : Side). CoversListed its.version its.entries side its.problem) (sides its found.1) (valid its found.1).listed));
    }
