-- The walk of a mate: what is listed so far, and which notes are yet to be walked.
use Rattle.std.proofs.Common.{◌≡◌, ◌≢◌, ◌<◌, ◌≤◌, ◌*◌, ◌++◌, ◌⊎◌, inl, inr, ℕ, zero, suc, List, [], ◌∷◌, length, get_or, map, set, reverse, Contains, arith, refl, sym, ◌∙◌, ap, subst}
use Rattle.std.specs.Prelude.{Some, slice_get}
use Rattle.std.specs.Option.{option_map}
use Rattle.std.proofs.lemmas.List.{length-map}
use Rattle.std.proofs.lemmas.Option.{same_Some, slice_get_within, slice_get_read, slice_get-map}
use Rattle.std.proofs.lemmas.List.Elements.{Contains-append_left, Contains-append_right, Contains-append_cases, Contains-push, Contains-push_cases}
use Rattle.bit_boards.specs.declared.piece.Side.{Side}
use Rattle.board_core.specs.declared.moves.Move.{Move}
use Rattle.board_core.specs.Board.{Board}
use Rattle.board_core.specs.Kept.{IsKept}
use Rattle.board_core.specs.Text.{HasText}
use Rattle.list_laws.proofs.Standing.{at_place, contained, contains_map}
use Rattle.shogi_rules.specs.Rules.{after}
use Rattle.shogi_rules.specs.Tsume.{IsCheck, IsEvasion, IsProblem}
use Rattle.mate_def.specs.Mate.{after_both}
use Rattle.mate_facts.specs.declared.entry.MateEntry.{MateEntry}
use Rattle.mate_facts.specs.Entries.{AreApart, IsListedWith, positions_of}
use Rattle.hand_dominance.specs.declared.version.Version.{Version}
use Rattle.hand_dominance.specs.declared.version.Version.TheVariants.{One}
use Rattle.hand_dominance.specs.BorneOut.{Covers, CoversListed, CoversLower}
use Rattle.cert_order.specs.Entries.{AreMateEntries}
use Rattle.notes.specs.declared.rule.Rule.TheVariants.{MateBy, MateLeaf}
use Rattle.notes.specs.declared.rule.Conclusion.TheVariants.{Mate}
use Rattle.notes.specs.Derivation.{Derivation, IsNoLeaf, Ranked, attacker_of, position_of, rule_of, height_of, beside_of}
use Rattle.cert_extract.specs.Beside.{IsToldBeside}
use Rattle.notes.specs.Sets.{AreMates, ranked}
use Rattle.notes.proofs.Offered.{valid_kept}
use Rattle.cert_extract.specs.Tree.{two_under}
use Rattle.cert_extract.specs.Extracted.{IsMateFrom}
use Rattle.cert_extract.specs.Listing.{StandsBelow, IsLowerThanListed, StayListed, HasListed, IsWanted, HasListedLeaf, HasMetLeaf}
use Rattle.cert_extract.proofs.Trees.{in_reverse, of_reverse}
use Rattle.cert_extract.proofs.Rules.{IsPending, MatesDown, mates_down, problem_at, borne_in, leaf_fits, leaf_high}
use Rattle.position_places.specs.declared.places.Places.{Places}
use Rattle.position_places.specs.Places.{ArePlacesOf, IsPlaceOrNext}
use Rattle.shogi_rules.specs.Laws.{LegalBoardMoves}
use Rattle.cert_extract.proofs.Escapes.{none_in, Adds, is_new, is_old, placed_new, placed_old, first_pending, popped}
use Rattle.cert_extract.proofs.Texts.{check_has_text}

-- 1. Lists in which one item is put in another's place

pub set_cases : {X : Type 0} (xs : List X) (k : ℕ) (y x : X) → Contains (set xs k y) x → Contains xs x ⊎ (y ≡ x)
set_cases [] k y x c = inl c
set_cases (z ∷ xs) zero y x (zero, inside, e) = inr e
set_cases (z ∷ xs) zero y x (suc j, inside, e) = inl (suc j, inside, e)
set_cases (z ∷ xs) (suc k) y x (zero, inside, e) = inl (zero, omega arith, e)
set_cases (z ∷ xs) (suc k) y x (suc j, inside, e) = elim (set_cases xs k y x (j, omega (arith, inside), e)) [
  | inl there ↦ inl (suc there.0, (let within = there.1 in omega (arith, within)), there.2)
  | inr same ↦ inr same
]

pub set_here : {X : Type 0} (xs : List X) (k : ℕ) (old y : X) → slice_get xs k ≡ Some old → Contains (set xs k y) y
set_here [] k old y at = absurd (cc)
set_here (z ∷ xs) zero old y at = (zero, omega arith, refl)
set_here (z ∷ xs) (suc k) old y at = let more = set_here xs k old y at in (suc more.0, (let inside = more.1 in omega (arith, inside)), more.2)

pub set_keeps : {X : Type 0} (xs : List X) (k : ℕ) (old y x : X) → slice_get xs k ≡ Some old → Contains xs x → Contains (set xs k y) x ⊎ (old ≡ x)
set_keeps [] k old y x at c = absurd (cc)
set_keeps (z ∷ xs) zero old y x at (zero, inside, e) = inr (sym (same_Some z old at) ∙ e)
set_keeps (z ∷ xs) zero old y x at (suc j, inside, e) = inl (suc j, inside, e)
set_keeps (z ∷ xs) (suc k) old y x at (zero, inside, e) = inl (zero, omega arith, e)
set_keeps (z ∷ xs) (suc k) old y x at (suc j, inside, e) = elim (set_keeps xs k old y x at (j, omega (arith, inside), e)) [
  | inl there ↦ inl (suc there.0, (let within = there.1 in omega (arith, within)), there.2)
  | inr same ↦ inr same
]

pub map-set : {X Y : Type 0} (f : X → Y) (xs : List X) (k : ℕ) (old y : X) → slice_get xs k ≡ Some old → f y ≡ f old → map f (set xs k y) ≡ map f xs
map-set f [] k old y at e = absurd (cc)
map-set f (z ∷ xs) zero old y at e = let same = e ∙ ap f (sym (same_Some z old at)) in λ i. same i ∷ map f xs
map-set f (z ∷ xs) (suc k) old y at e = let same = map-set f xs k old y at e in λ i. f z ∷ same i

-- 2. The walk

pub record IsListedMate (attacker : Side) (top : Derivation) (entry : MateEntry) : Type 0 where
  pub from : IsMateFrom top entry
  pub kept : IsKept entry.at
  pub is_problem : IsProblem entry.at
  pub turn : entry.at.side ≡ attacker
  pub has_text : HasText entry.by

-- the position covers that of a note that is yet to be walked
abbrev IsAheadOf : Version → Side → List Derivation → Board → Type 0
IsAheadOf version attacker pending q = (n : Derivation) × Contains pending n × Covers version attacker q (position_of n)

-- the position covers one that is listed with a lower rank, or that of a note ahead of less than
-- twice that height
abbrev IsBelow : Version → Side → List MateEntry → List Derivation → ℕ → Board → Type 0
IsBelow version attacker entries pending rank q =
    CoversLower version entries attacker rank q
    ⊎ ((n : Derivation) × Contains pending n × Covers version attacker q (position_of n) × (height_of n < 2 * rank))

-- an entry's move is a check, and each evasion leads to a position with a lower rank, listed or
-- ahead
pub record IsBorne (version : Version) (attacker : Side) (entries : List MateEntry) (pending : List Derivation) (entry : MateEntry) : Type 0 where
  pub check : IsCheck attacker entry.at entry.by
  pub evasions : (evasion : Move) → IsEvasion attacker (after entry.at entry.by) evasion
      → IsBelow version attacker entries pending entry.rank.number (after_both entry.at entry.by evasion)

pub record IsMateWalk (version : Version) (p : Board) (top : Derivation) (entries : List MateEntry) (pending : List Derivation) : Type 0 where
  pub start : CoversListed version entries p.side p ⊎ IsAheadOf version p.side pending p
  pub borne : (entry : MateEntry) → Contains entries entry → IsBorne version p.side entries pending entry
  pub notes : (n : Derivation) → Contains pending n → IsPending version Mate p.side top n
  pub listed : (entry : MateEntry) → Contains entries entry → IsListedMate p.side top entry

pub mate_begun : (version : Version) (p : Board) (top : Derivation) → IsPending version Mate p.side top top → Covers version p.side p (position_of top)
    → IsMateWalk version p top [] (top ∷ [])
mate_begun version p top h covers = record {
  start = inr (top, (zero, omega arith, refl), covers);
  borne = λ entry c. none_in entry _ c;
  notes = λ n c. subst (λ (d : Derivation). IsPending version Mate p.side top d) (alone n c) h;
  listed = λ entry c. none_in entry _ c;
}
  where
    alone : (n : Derivation) → Contains (top ∷ []) n → top ≡ n
    alone n (zero, inside, e) = e
    alone n (suc k, inside, e) = absurd (omega (arith, inside))

-- each position that is listed below a rank still is
abbrev pub StayBelow : Side → List MateEntry → List MateEntry → Type 0
StayBelow attacker entries more = (rank : ℕ) (b : Board) → CoversLower One entries attacker rank b → CoversLower One more attacker rank b

stay_below : (attacker : Side) (entries more : List MateEntry) → StayListed entries more → StayBelow attacker entries more
stay_below attacker entries more stay rank b l =
    let found = stay l.entry.at l.entry.rank.number (record { entry = l.entry; listed = l.listed; same = refl; low = omega arith }) in
    let low = found.low in
    let under = l.lower in
    record { entry = found.entry; listed = found.listed; covers = l.covers ∙ sym found.same; lower = omega (arith, low, under) }

-- so is what covers it, in each version
lower_stays : (version : Version) (attacker : Side) (entries more : List MateEntry) → StayBelow attacker entries more → (rank : ℕ) (q : Board)
    → CoversLower version entries attacker rank q → CoversLower version more attacker rank q
lower_stays version attacker entries more stay rank q h =
    let found = stay rank h.entry.at (record { entry = h.entry; listed = h.listed; covers = refl; lower = h.lower }) in
    record {
      entry = found.entry;
      listed = found.listed;
      covers = subst (Covers version attacker q) found.covers h.covers;
      lower = found.lower;
    }

listed_stays : (version : Version) (attacker : Side) (entries more : List MateEntry) → StayBelow attacker entries more → (q : Board)
    → CoversListed version entries attacker q → CoversListed version more attacker q
listed_stays version attacker entries more stay q h =
    let found = lower_stays version attacker entries more stay (suc h.entry.rank.number) q
    (record { entry = h.entry; listed = h.listed; covers = h.covers; lower = omega arith }) in
    record { entry = found.entry; listed = found.listed; covers = found.covers }

-- an entry stands for the note: it is about its position, with a rank that isn't above half its
-- height
pub record StandsFor (entries : List MateEntry) (note : Derivation) : Type 0 where
  pub entry : MateEntry
  pub listed : Contains entries entry
  pub same : entry.at ≡ position_of note
  pub low : 2 * entry.rank.number ≤ height_of note

lower_here : (version : Version) (attacker : Side) (more : List MateEntry) (note : Derivation) → StandsFor more note → (rank : ℕ) (q : Board)
    → Covers version attacker q (position_of note) → height_of note < 2 * rank → CoversLower version more attacker rank q
lower_here version attacker more note here rank q covers under =
    let low = here.low in
    record {
      entry = here.entry;
      listed = here.listed;
      covers = subst (Covers version attacker q) (sym here.same) covers;
      lower = omega (arith, low, under);
    }

-- what was below a rank still is, where a note is no longer ahead but an entry stands for it
still_below : (version : Version) (attacker : Side) (entries more : List MateEntry) (rest ahead : List Derivation) (note : Derivation)
    → StayBelow attacker entries more → ((n : Derivation) → Contains rest n → Contains ahead n) → StandsFor more note
    → (rank : ℕ) (q : Board) → IsBelow version attacker entries (rest ++ note ∷ []) rank q → IsBelow version attacker more ahead rank q
still_below version attacker entries more rest ahead note stay kept here rank q (inl h) = inl (lower_stays version attacker entries more stay rank q h)
still_below version attacker entries more rest ahead note stay kept here rank q (inr (n, c, covers, low)) = elim (Contains-push_cases rest note n c) [
  | inl before ↦ inr (n, kept n before, covers, low)
  | inr same ↦
      inl (lower_here version attacker more note here rank q (subst (λ (d : Derivation). Covers version attacker q (position_of d)) (sym same) covers)
      (subst (λ (d : Derivation). height_of d < 2 * rank) (sym same) low))
]

still_borne : (version : Version) (attacker : Side) (entries more : List MateEntry) (pending ahead : List Derivation)
    → ((rank : ℕ) (q : Board) → IsBelow version attacker entries pending rank q → IsBelow version attacker more ahead rank q) → (entry : MateEntry)
    → IsBorne version attacker entries pending entry → IsBorne version attacker more ahead entry
still_borne version attacker entries more pending ahead go entry borne = record {
  check = borne.check;
  evasions = λ evasion is. go entry.rank.number _ (borne.evasions evasion is);
}

still_start : (version : Version) (attacker : Side) (entries more : List MateEntry) (rest ahead : List Derivation) (note : Derivation) (p : Board)
    → StayBelow attacker entries more → ((n : Derivation) → Contains rest n → Contains ahead n) → StandsFor more note
    → CoversListed version entries attacker p ⊎ IsAheadOf version attacker (rest ++ note ∷ []) p
    → CoversListed version more attacker p ⊎ IsAheadOf version attacker ahead p
still_start version attacker entries more rest ahead note p stay kept here (inl h) = inl (listed_stays version attacker entries more stay p h)
still_start version attacker entries more rest ahead note p stay kept here (inr (n, c, covers)) = elim (Contains-push_cases rest note n c) [
  | inl before ↦ inr (n, kept n before, covers)
  | inr same ↦
      inl (record {
        entry = here.entry;
        listed = here.listed;
        covers = subst (Covers version attacker p) (ap position_of (sym same) ∙ sym here.same) covers;
      })
]

-- the entry is about the note's position, by its check, and its rank is half its height
pub record IsEntryOf (note : Derivation) (entry : MateEntry) : Type 0 where
  pub about : entry.at ≡ position_of note
  pub by : rule_of note ≡ MateBy entry.by
  pub high : height_of note ≡ 2 * entry.rank.number

by_of : (a b : Move) → MateBy a ≡ MateBy b → a ≡ b
by_of a b e = cc

module _ (version : Version) (p : Board) (top : Derivation) (entries : List MateEntry) (rest : List Derivation) (note : Derivation)
    (walk : IsMateWalk version p top entries (rest ++ note ∷ [])) where
  -- the note's position is listed with a rank that isn't above half its height: it isn't walked
  -- again
  pub mate_met : (old : MateEntry) → Contains entries old → old.at ≡ position_of note → 2 * old.rank.number ≤ height_of note
      → IsMateWalk version p top entries rest
  mate_met old c about low =
      let here : StandsFor entries note = record { entry = old; listed = c; same = about; low = low } in
      let go = still_below version p.side entries entries rest rest note (λ rank b l. l) (λ n c. c) here in
      record {
        start = still_start version p.side entries entries rest rest note p (λ rank b l. l) (λ n c. c) here walk.start;
        borne = λ entry c. still_borne version p.side entries entries (rest ++ note ∷ []) rest go entry (walk.borne entry c);
        notes = λ n c. walk.notes n (Contains-append_left rest (note ∷ []) n c);
        listed = walk.listed;
      }

  here_pending : IsPending version Mate p.side top note
  here_pending = walk.notes note (Contains-push rest note)

  abbrev ahead : List Derivation
  ahead = rest ++ reverse (two_under note)

  module _ (entry : MateEntry) (is : IsEntryOf note entry) (goes : LegalBoardMoves) where
    down : MatesDown version p.side top note
    down = mates_down version p.side top note here_pending (subst IsNoLeaf (sym is.by) tt)

    its_check : IsCheck p.side entry.at entry.by
    its_check =
        subst (λ (b : Board). IsCheck p.side b entry.by) (sym is.about)
        (subst (IsCheck p.side (position_of note)) (by_of down.check entry.by (sym down.by ∙ is.by)) down.is_check)

    pub its_listed : IsListedMate p.side top entry
    its_listed = record {
      from = record { note = note; within = here_pending.within; says = inl (record { about = sym is.about; by = is.by; high = is.high }) };
      kept = subst IsKept (sym is.about) (valid_kept note here_pending.valid);
      is_problem = subst IsProblem (sym is.about) (problem_at version Mate p.side top note here_pending);
      turn = ap (λ (b : Board). b.side) is.about ∙ here_pending.turn;
      has_text = check_has_text goes p.side entry.at entry.by (subst IsKept (sym is.about) (valid_kept note here_pending.valid)) its_check;
    }

    its_borne : (more : List MateEntry) → IsBorne version p.side more ahead entry
    its_borne more = record {
      check = its_check;
      evasions = λ evasion h.
          let same_check = by_of down.check entry.by (sym down.by ∙ is.by) in
          let before : after entry.at entry.by ≡ after (position_of note) down.check =
          ap (λ (b : Board). after b entry.by) is.about ∙ ap (after (position_of note)) (sym same_check) in
          let found = down.evasions evasion (subst (λ (b : Board). IsEvasion p.side b evasion) before h) in
          let low = down.lower found.next found.under in
          let high = is.high in
          inr (
            found.next,
            Contains-append_right rest (reverse (two_under note)) found.next (in_reverse (two_under note) found.next found.under),
            subst (λ (b : Board). Covers version p.side b (position_of found.next)) (ap (λ (b : Board). after b evasion) (sym before)) found.covers,
            omega (arith, low, high),
          );
    }

    -- the entry is listed now, each other one was, and ranks have only fallen
    pub mate_walked : (more : List MateEntry) → HasListed entries entry more → IsMateWalk version p top more ahead
    mate_walked more has =
        let stay = stay_below p.side entries more has.stay in
        let of = has.of in
        let here : StandsFor more note =
        record { entry = entry; listed = has.there; same = is.about; low = (let high = is.high in omega (arith, high)) } in
        let kept = λ (n : Derivation) (c : Contains rest n). Contains-append_left rest (reverse (two_under note)) n c in
        let go = still_below version p.side entries more rest ahead note stay kept here in
        record {
          start = still_start version p.side entries more rest ahead note p stay kept here walk.start;
          borne = λ other c. elim (of other c) [
            | inl before ↦ still_borne version p.side entries more (rest ++ note ∷ []) ahead go other (walk.borne other before)
            | inr same ↦ subst (IsBorne version p.side more ahead) same (its_borne more)
          ];
          notes = λ n c. elim (Contains-append_cases rest (reverse (two_under note)) n c) [
            | inl before ↦ walk.notes n (Contains-append_left rest (note ∷ []) n before)
            | inr new ↦ down.next n (of_reverse (two_under note) n new)
          ];
          listed = λ other c. elim (of other c) [
            | inl before ↦ walk.listed other before
            | inr same ↦ subst (IsListedMate p.side top) same its_listed
          ];
        }

-- 3. A leaf

-- the note is a leaf of this rank, and stands among these entries
pub record IsLeafWith (note : Derivation) (set : List MateEntry) (rank : ℕ) : Type 0 where
  pub version : Version
  pub leaf : rule_of note ≡ MateLeaf version rank
  pub are : AreMates version (attacker_of note) set
  pub listed : IsListedWith set rank (position_of note)
  pub these : beside_of note ≡ ranked set

-- it wants its own entry
pub own_wanted : (note : Derivation) (set : List MateEntry) (rank : ℕ) (is : IsLeafWith note set rank) → IsWanted set (position_of note) rank is.listed.entry
own_wanted note set rank is = record { inside = is.listed.listed; low = inr (is.listed.has_rank, is.listed.same) }

pub wanted_low : (set : List MateEntry) (b : Board) (rank : ℕ) (entry : MateEntry) → IsWanted set b rank entry → entry.rank.number ≤ rank
wanted_low set b rank entry wanted = elim wanted.low [ inl less ↦ omega (arith, less) | inr same ↦ let e = same.0 in omega (arith, e) ]

-- what it wants it tells of
pub wanted_told : (note : Derivation) (set : List MateEntry) (rank : ℕ) (is : IsLeafWith note set rank) (entry : MateEntry)
    → IsWanted set (position_of note) rank entry
    → IsToldBeside (beside_of note) rank (position_of note) (record { rank = entry.rank.number; at = entry.at })
wanted_told note set rank is entry wanted = record {
  inside = subst (λ (beside : List Ranked). Contains beside (record { rank = entry.rank.number; at = entry.at })) (sym is.these)
      (contains_map (λ (e : MateEntry). record { rank = e.rank.number; at = e.at }) set entry wanted.inside);
  low = wanted.low;
}

module _ (version : Version) (p : Board) (top : Derivation) (entries : List MateEntry) (rest : List Derivation) (note : Derivation)
    (walk : IsMateWalk version p top entries (rest ++ note ∷ [])) (set : List MateEntry) (rank : ℕ) (is : IsLeafWith note set rank)
    (goes : LegalBoardMoves) where
  leaf_pending : IsPending version Mate p.side top note
  leaf_pending = walk.notes note (Contains-push rest note)

  set_are : AreMates is.version p.side set
  set_are = subst (λ (side : Side). AreMates is.version side set) leaf_pending.same_attacker is.are

  fits : version ≡ One → is.version ≡ One
  fits = leaf_fits note (MateLeaf is.version rank) version is.version leaf_pending.valid is.leaf (λ other. refl) leaf_pending.fits

  high : height_of note ≡ 2 * rank
  high = leaf_high note is.version rank leaf_pending.valid is.leaf

  pub wanted_listed : (entry : MateEntry) → IsWanted set (position_of note) rank entry → IsListedMate p.side top entry
  wanted_listed entry wanted =
      let borne = set_are.borne_out entry wanted.inside in
      let problem = set_are.problems entry wanted.inside in
      record {
        from = record {
          note = note;
          within = leaf_pending.within;
          says = inr (record {
            version = is.version;
            rank = rank;
            leaf = is.leaf;
            beside = wanted_told note set rank is entry wanted;
          });
        };
        kept = borne.0;
        is_problem = problem.is_problem;
        turn = problem.turn;
        has_text = check_has_text goes p.side entry.at entry.by borne.0 borne.1.check;
      }

  -- what bears it out is wanted too
  wanted_borne : (more : List MateEntry)
      → ((other : MateEntry) → IsWanted set (position_of note) rank other → StandsBelow more other.at other.rank.number) → (entry : MateEntry)
      → IsWanted set (position_of note) rank entry → IsBorne version p.side more rest entry
  wanted_borne more all entry wanted =
      let borne = borne_in version is.version p.side set entry fits (set_are.borne_out entry wanted.inside).1 in
      record {
        check = borne.check;
        evasions = λ evasion it.
            let under = borne.evasions evasion it in
            let less = under.lower in
            let low = wanted_low set (position_of note) rank entry wanted in
            let found = all under.entry (record { inside = under.listed; low = inl (omega (arith, less, low)) }) in
            let below = found.low in
            inl (record {
              entry = found.entry;
              listed = found.listed;
              covers = subst (Covers version p.side (after_both entry.at entry.by evasion)) (sym found.same) under.covers;
              lower = omega (arith, below, less);
            });
      }

  -- all that it lists is listed now
  pub leaf_stands : (more : List MateEntry) → HasListedLeaf set (position_of note) rank entries more → StandsFor more note
  leaf_stands more has =
      let own = is.listed in
      let found = has.all own.entry (own_wanted note set rank is) in
      let low = found.low in
      let same = own.has_rank in
      record { entry = found.entry; listed = found.listed; same = found.same ∙ own.same; low = omega (arith, low, same, high) }

  pub leaf_walked : (more : List MateEntry) → HasListedLeaf set (position_of note) rank entries more → IsMateWalk version p top more rest
  leaf_walked more has =
      let here = leaf_stands more has in
      let stay = stay_below p.side entries more has.grown.stay in
      let go = still_below version p.side entries more rest rest note stay (λ n c. c) here in
      record {
        start = still_start version p.side entries more rest rest note p stay (λ n c. c) here walk.start;
        borne = λ other c. elim (has.grown.of other c) [
          | inl before ↦ still_borne version p.side entries more (rest ++ note ∷ []) rest go other (walk.borne other before)
          | inr wanted ↦ wanted_borne more has.all other wanted
        ];
        notes = λ n c. walk.notes n (Contains-append_left rest (note ∷ []) n c);
        listed = λ other c. elim (has.grown.of other c) [ inl before ↦ walk.listed other before | inr wanted ↦ wanted_listed other wanted ];
      }

  -- its position is listed with no greater rank: it isn't walked
  pub leaf_met : StandsBelow entries (position_of note) rank → IsMateWalk version p top entries rest
  leaf_met below =
      let low = below.low in
      mate_met version p top entries rest note walk below.entry below.listed below.same (omega (arith, low, high))

-- 4. How the entries change

pub positions_pushed : (entries : List MateEntry) (entry : MateEntry) → positions_of (entries ++ entry ∷ []) ≡ positions_of entries ++ entry.at ∷ []
positions_pushed [] entry = refl
positions_pushed (first ∷ entries) entry = let more = positions_pushed entries entry in λ i. first.at ∷ more i

-- a position that isn't listed is listed with no rank
pub not_listed : (entries : List MateEntry) (b : Board) (rank : ℕ) → (¬ Contains (positions_of entries) b) → IsLowerThanListed entries b rank
not_listed entries b rank new entry c same = absurd (new (subst (Contains (positions_of entries)) same (contains_map (λ (e : MateEntry). e.at) entries entry c)))

-- an entry is put behind the others
pub pushed_listed : (entries : List MateEntry) (entry : MateEntry) → (¬ Contains (positions_of entries) entry.at)
    → HasListed entries entry (entries ++ entry ∷ [])
pushed_listed entries entry new = record {
  lower = not_listed entries entry.at entry.rank.number new;
  stay = λ b rank below. record {
    entry = below.entry;
    listed = Contains-append_left entries (entry ∷ []) below.entry below.listed;
    same = below.same;
    low = below.low;
  };
  of = λ other c. Contains-push_cases entries entry other c;
  there = Contains-push entries entry;
}

-- no two entries are about the same position
one_entry : (entries : List MateEntry) (place : ℕ) (old entry : MateEntry) → AreApart (positions_of entries) → slice_get entries place ≡ Some old
    → Contains entries entry → entry.at ≡ old.at → old ≡ entry
one_entry entries place old entry apart at c same =
    let f : MateEntry → Board = λ e. e.at in
    let here = slice_get-map f entries place ∙ ap (option_map f) at in
    let there = slice_get-map f entries c.0 ∙ ap (option_map f) (at_place entries entry c) in
    let one = apart place c.0 old.at here (there ∙ ap (λ (b : Board). Some b) same) in
    same_Some old entry (sym at ∙ (ap (slice_get entries) one ∙ at_place entries entry c))

-- what is listed there has the rank of the entry at the place
pub rank_there : (entries : List MateEntry) (place : ℕ) (old : MateEntry) (b : Board) (rank : ℕ) → AreApart (positions_of entries)
    → slice_get entries place ≡ Some old → old.at ≡ b → rank < old.rank.number → IsLowerThanListed entries b rank
rank_there entries place old b rank apart at about less entry c same =
    let is = one_entry entries place old entry apart at c (same ∙ sym about) in
    let its = ap (λ (e : MateEntry). e.rank.number) is in
    omega (arith, less, its)

-- an entry takes the place of one of the same position and greater rank
pub set_listed : (entries : List MateEntry) (place : ℕ) (old entry : MateEntry) → AreApart (positions_of entries) → slice_get entries place ≡ Some old
    → old.at ≡ entry.at → entry.rank.number < old.rank.number → HasListed entries entry (set entries place entry)
set_listed entries place old entry apart at about less = record {
  lower = rank_there entries place old entry.at entry.rank.number apart at about less;
  stay = λ b rank below. elim (set_keeps entries place old entry below.entry at below.listed) [
    | inl there ↦ record { entry = below.entry; listed = there; same = below.same; low = below.low }
    | inr same ↦
        let was : old.rank.number ≡ below.entry.rank.number = ap (λ (e : MateEntry). e.rank.number) same in
        let low = below.low in
        record {
          entry = entry;
          listed = set_here entries place old entry at;
          same = sym about ∙ (ap (λ (e : MateEntry). e.at) same ∙ below.same);
          low = omega (arith, less, was, low);
        }
  ];
  of = λ other c. set_cases entries place entry other c;
  there = set_here entries place old entry at;
}

-- it is listed with no greater rank
pub stands_there : (entries : List MateEntry) (place : ℕ) (old : MateEntry) (b : Board) (rank : ℕ) → slice_get entries place ≡ Some old → old.at ≡ b
    → old.rank.number ≤ rank → StandsBelow entries b rank
stands_there entries place old b rank at about low = record { entry = old; listed = contained entries place old at; same = about; low = low }

-- an entry of a place that isn't behind all others
pub within_entries : (entries : List MateEntry) (q : Board) (place : ℕ) → IsPlaceOrNext (positions_of entries) q place → place ≢ length entries
    → place < length entries
within_entries entries q place at differs =
    let many = length-map entries (λ (e : MateEntry). e.at) in
    let there = is_old (positions_of entries) q place at (λ same. differs (same ∙ many)) in
    let inside = slice_get_within (positions_of entries) place q there in
    omega (arith, inside, many)

pub old_entry : (entries : List MateEntry) (q : Board) (place : ℕ) (old : MateEntry) → IsPlaceOrNext (positions_of entries) q place → place ≢ length entries
    → old ≡ get_or entries place old → (slice_get entries place ≡ Some old) × (old.at ≡ q)
old_entry entries q place old at differs is =
    let many = length-map entries (λ (e : MateEntry). e.at) in
    let there = is_old (positions_of entries) q place at (λ same. differs (same ∙ many)) in
    let here = slice_get_read entries (length entries) place old refl (within_entries entries q place at differs) is in
    let mapped = slice_get-map (λ (e : MateEntry). e.at) entries place ∙ ap (option_map (λ (e : MateEntry). e.at)) here in
    (here, same_Some old.at q (sym mapped ∙ there))

-- a position of a place behind all others isn't listed
pub new_entry : (entries : List MateEntry) (q : Board) (place : ℕ) → IsPlaceOrNext (positions_of entries) q place → place ≡ length entries
    → ¬ Contains (positions_of entries) q
new_entry entries q place at last =
    let many = length-map entries (λ (e : MateEntry). e.at) in
    is_new (positions_of entries) q place at (last ∙ sym many)

-- the entry at the place where a position stands
pub found_entry : (entries : List MateEntry) (q : Board) (place : ℕ) (old : MateEntry) → slice_get (positions_of entries) place ≡ Some q
    → old ≡ get_or entries place old → (slice_get entries place ≡ Some old) × (old.at ≡ q)
found_entry entries q place old there is =
    let many = length-map entries (λ (e : MateEntry). e.at) in
    let inside = slice_get_within (positions_of entries) place q there in
    old_entry entries q place old (inl there) (λ same. omega (arith, many, inside, same)) is

pub entries_placed_new : (old new : Places) (entry : MateEntry) (entries longer : List MateEntry) (place : ℕ) → ArePlacesOf old (positions_of entries)
    → Adds old entry.at new → IsPlaceOrNext (positions_of entries) entry.at place → place ≡ length entries → longer ≡ entries ++ entry ∷ []
    → ArePlacesOf new (positions_of longer)
entries_placed_new old new entry entries longer place known adds at last is =
    let many = length-map entries (λ (e : MateEntry). e.at) in
    placed_new old new entry.at entry.at (positions_of entries) (positions_of longer) place known adds at (last ∙ sym many) refl
    (ap positions_of is ∙ positions_pushed entries entry)

pub entries_placed_old : (old new : Places) (entry : MateEntry) (entries : List MateEntry) (place : ℕ) → ArePlacesOf old (positions_of entries)
    → Adds old entry.at new → IsPlaceOrNext (positions_of entries) entry.at place → place ≢ length entries → ArePlacesOf new (positions_of entries)
entries_placed_old old new entry entries place known adds at differs =
    let many = length-map entries (λ (e : MateEntry). e.at) in
    placed_old old new entry.at (positions_of entries) place known adds at (λ same. differs (same ∙ many))

pub positions_set : (entries : List MateEntry) (place : ℕ) (old entry : MateEntry) → slice_get entries place ≡ Some old → old.at ≡ entry.at
    → positions_of (set entries place entry) ≡ positions_of entries
positions_set entries place old entry at same = map-set (λ (e : MateEntry). e.at) entries place old entry at (sym same)

-- 5. Nothing is ahead

listed_alone : (version : Version) (attacker : Side) (entries : List MateEntry) (rank : ℕ) (q : Board) → IsBelow version attacker entries [] rank q
    → CoversLower version entries attacker rank q
listed_alone version attacker entries rank q (inl h) = h
listed_alone version attacker entries rank q (inr (n, c, covers, low)) = none_in n _ c

start_alone : (version : Version) (attacker : Side) (entries : List MateEntry) (p : Board)
    → CoversListed version entries attacker p ⊎ IsAheadOf version attacker [] p → CoversListed version entries attacker p
start_alone version attacker entries p (inl h) = h
start_alone version attacker entries p (inr (n, c, covers)) = none_in n _ c

pub mate_ended : (version : Version) (p : Board) (top : Derivation) (entries : List MateEntry) → IsMateWalk version p top entries []
    → AreApart (positions_of entries) → AreMateEntries version p entries
mate_ended version p top entries walk apart = record {
  listed = start_alone version p.side entries p walk.start;
  borne_out = λ entry c.
      let b = walk.borne entry c in
      record { check = b.check; evasions = λ evasion is. listed_alone version p.side entries entry.rank.number _ (b.evasions evasion is) };
  problems = λ entry c. record { is_problem = (walk.listed entry c).is_problem; side = (walk.listed entry c).turn };
  kept = λ entry c. (walk.listed entry c).kept;
  texts = λ entry c. (walk.listed entry c).has_text;
  apart = apart;
}

-- 6. The stack of notes, as references

module _ {A : Type 0} (v : A → Derivation) where
  pub mate_at_first : (version : Version) (p : Board) (entries : List MateEntry) (pending none : List A) (x : A) → entries ≡ [] → none ≡ [] → pending ≡ none ++ x ∷ []
      → IsPending version Mate p.side (v x) (v x) → Covers version p.side p (position_of (v x)) → IsMateWalk version p (v x) entries (map v pending)
  mate_at_first version p entries pending none x unlisted empty is h about =
      subst (λ (es : List MateEntry). IsMateWalk version p (v x) es (map v pending)) (sym unlisted)
      (subst (IsMateWalk version p (v x) []) (sym (first_pending v pending none x empty is)) (mate_begun version p (v x) h about))

  module _ (version : Version) (p : Board) (top : Derivation) (entries : List MateEntry) (pending rest : List A) (next : A) (is : pending ≡ rest ++ next ∷ [])
      (walk : IsMateWalk version p top entries (map v pending)) where
    pub at_next : IsMateWalk version p top entries (map v rest ++ v next ∷ [])
    at_next = subst (IsMateWalk version p top entries) (popped v pending rest next is) walk

    pub next_pending : IsPending version Mate p.side top (v next)
    next_pending = at_next.notes (v next) (Contains-push (map v rest) (v next))

    pub mate_past : (entry : MateEntry) → IsEntryOf (v next) entry → StandsBelow entries entry.at entry.rank.number → IsMateWalk version p top entries (map v rest)
    mate_past entry its below =
        let high = its.high in
        let low = below.low in
        mate_met version p top entries (map v rest) (v next) at_next below.entry below.listed (below.same ∙ its.about) (omega (arith, high, low))

    pub mate_on : (new : List A) (entry : MateEntry) → map v new ≡ map v rest ++ reverse (two_under (v next)) → IsEntryOf (v next) entry → LegalBoardMoves
        → (more : List MateEntry) → HasListed entries entry more → IsMateWalk version p top more (map v new)
    mate_on new entry pushed its goes more has =
        subst (IsMateWalk version p top more) (sym pushed) (mate_walked version p top entries (map v rest) (v next) at_next entry its goes more has)

    pub mate_leaf_on : (set : List MateEntry) (rank : ℕ) → IsLeafWith (v next) set rank → LegalBoardMoves → (more : List MateEntry)
        → HasMetLeaf set (position_of (v next)) rank entries more → IsMateWalk version p top more (map v rest)
    mate_leaf_on set rank is goes more met = elim met [
      | inl has ↦ leaf_walked version p top entries (map v rest) (v next) at_next set rank is goes more has
      | inr below ↦
          subst (λ (es : List MateEntry). IsMateWalk version p top es (map v rest)) (sym below.1)
          (leaf_met version p top entries (map v rest) (v next) at_next set rank is goes below.0)
    ]

  pub mate_done : (version : Version) (p : Board) (top : Derivation) (entries : List MateEntry) (pending : List A) → length pending ≡ 0
      → IsMateWalk version p top entries (map v pending) → AreApart (positions_of entries) → AreMateEntries version p entries
  mate_done version p top entries [] none walk apart = mate_ended version p top entries walk apart
  mate_done version p top entries (x ∷ pending) none walk apart = absurd (omega (arith, none))
