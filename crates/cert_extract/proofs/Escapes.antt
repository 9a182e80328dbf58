-- The walk of an escape: what is listed so far, and which notes are yet to be walked.
use Rattle.std.proofs.Common.{◌≡◌, ◌≢◌, ◌≤◌, ◌++◌, ◌⊎◌, inl, inr, ℕ, zero, suc, List, [], ◌∷◌, length, map, reverse, Contains, arith, refl, sym, ◌∙◌, ap, subst}
use Rattle.std.specs.Prelude.{Some, slice_get}
use Rattle.std.proofs.lemmas.List.{map_push, length-append}
use Rattle.std.proofs.lemmas.Option.{slice_get_within}
use Rattle.std.proofs.lemmas.List.Elements.{Contains-append_left, Contains-append_right, Contains-append_cases, Contains-push, Contains-push_cases}
use Rattle.bit_boards.specs.declared.piece.Side.{Side}
use Rattle.board_core.specs.declared.keys.Key.{Key}
use Rattle.board_core.specs.declared.moves.Move.{Move}
use Rattle.board_core.specs.Board.{Board}
use Rattle.board_core.specs.Kept.{IsKept}
use Rattle.board_core.specs.Key.{key_of}
use Rattle.shogi_rules.specs.Tsume.{IsCheck, IsProblem}
use Rattle.mate_def.specs.Mate.{HasEvasionTo}
use Rattle.mate_facts.specs.Entries.{AreApart}
use Rattle.hand_dominance.specs.declared.version.Version.{Version}
use Rattle.hand_dominance.specs.declared.version.Version.TheVariants.{One}
use Rattle.hand_dominance.specs.BorneOut.{Covers, IsCovered}
use Rattle.cert_order.specs.Entries.{AreEscapeEntries}
use Rattle.notes.specs.declared.rule.Rule.{Rule}
use Rattle.notes.specs.declared.rule.Rule.TheVariants.{EscapeLeaf}
use Rattle.notes.specs.declared.rule.Conclusion.TheVariants.{Escape}
use Rattle.position_places.specs.declared.places.Places.{Places}
use Rattle.position_places.specs.Places.{ArePlacesOf, IsWith, IsPlaceOrNext}
use Rattle.list_laws.proofs.Standing.{contained, contains_map}
use Rattle.notes.specs.Derivation.{Derivation, IsNoLeaf, Ranked, attacker_of, position_of, rule_of, tag_of, beside_of}
use Rattle.notes.specs.Sets.{AreEscapes, unranked}
use Rattle.notes.proofs.Offered.{valid_kept}
use Rattle.cert_extract.specs.Tree.{two_under}
use Rattle.cert_extract.specs.Beside.{IsBeside}
use Rattle.cert_extract.specs.Extracted.{IsEscapeFrom}
use Rattle.cert_extract.specs.Listing.{HasPutAll}
use Rattle.cert_extract.proofs.Trees.{in_reverse, of_reverse}
use Rattle.cert_extract.proofs.Rules.{IsPending, EscapesDown, escapes_down, problem_at, held_in, leaf_fits}

-- the position of a note that is yet to be walked covers this one
abbrev pub IsAhead : Version → Side → List Derivation → Board → Type 0
IsAhead version attacker pending q = (n : Derivation) × Contains pending n × Covers version attacker (position_of n) q

-- a listed position covers this one, or one ahead does
abbrev IsMetOrAhead : Version → Side → List Board → List Derivation → Board → Type 0
IsMetOrAhead version attacker positions pending q = IsCovered version positions attacker q ⊎ IsAhead version attacker pending q

pub record IsListed (attacker : Side) (top : Derivation) (b : Board) : Type 0 where
  pub from : IsEscapeFrom top b
  pub kept : IsKept b
  pub is_problem : IsProblem b
  pub turn : b.side ≡ attacker

-- what covers the position is listed or ahead; from each listed position, each check has an evasion
-- to one of which that is so; the tags of what is ahead have only keys of listed positions
pub record IsEscapeWalk (version : Version) (p : Board) (top : Derivation) (positions : List Board) (pending : List Derivation) : Type 0 where
  pub start : IsMetOrAhead version p.side positions pending p
  pub ways : (b : Board) (check : Move) → Contains positions b → IsCheck p.side b check
      → HasEvasionTo p.side (IsMetOrAhead version p.side positions pending) b check
  pub notes : (n : Derivation) → Contains pending n → IsPending version Escape p.side top n
  pub tags : (n : Derivation) (key : Key) → Contains pending n → Contains (tag_of n) key → (b : Board) × Contains positions b × (key.0 ≡ key_of b)
  pub listed : (b : Board) → Contains positions b → IsListed p.side top b

pub none_in : {X : Type 0} (x : X) (T : Type 0) → Contains [] x → T
none_in x T c = absurd (let inside = c.1 in omega (arith, inside))

pub escape_begun : (version : Version) (p : Board) (top : Derivation) → IsPending version Escape p.side top top → Covers version p.side (position_of top) p
    → tag_of top ≡ [] → IsEscapeWalk version p top [] (top ∷ [])
escape_begun version p top h covers closed = record {
  start = inr (top, (zero, omega arith, refl), covers);
  ways = λ b check c is. none_in b _ c;
  notes = λ n c. subst (λ (d : Derivation). IsPending version Escape p.side top d) (alone n c) h;
  tags = λ n key c held.
      none_in key _ (subst (λ (tag : List Key). Contains tag key) closed (subst (λ (d : Derivation). Contains (tag_of d) key) (sym (alone n c)) held));
  listed = λ b c. none_in b _ c;
}
  where
    alone : (n : Derivation) → Contains (top ∷ []) n → top ≡ n
    alone n (zero, inside, e) = e
    alone n (suc k, inside, e) = absurd (omega (arith, inside))

-- what was listed or ahead still is, where a note is no longer ahead but its position is listed
still : (version : Version) (attacker : Side) (positions more : List Board) (rest ahead : List Derivation) (note : Derivation)
    → ((b : Board) → Contains positions b → Contains more b) → ((n : Derivation) → Contains rest n → Contains ahead n) → Contains more (position_of note)
    → (q : Board) → IsMetOrAhead version attacker positions (rest ++ note ∷ []) q → IsMetOrAhead version attacker more ahead q
still version attacker positions more rest ahead note longer kept here q (inl h) =
    inl (record { listed = h.listed; inside = longer h.listed h.inside; covers = h.covers })
still version attacker positions more rest ahead note longer kept here q (inr (n, c, covers)) = elim (Contains-push_cases rest note n c) [
  | inl before ↦ inr (n, kept n before, covers)
  | inr same ↦
      inl (record {
        listed = position_of note;
        inside = here;
        covers = subst (λ (d : Derivation). Covers version attacker (position_of d) q) (sym same) covers;
      })
]

still_way : (attacker : Side) (b : Board) (check : Move) (P Q : Board → Type 0) → ((q : Board) → P q → Q q) → HasEvasionTo attacker P b check
    → HasEvasionTo attacker Q b check
still_way attacker b check P Q f way = record { evasion = way.evasion; is_evasion = way.is_evasion; leads = f _ way.leads }

module _ (version : Version) (p : Board) (top : Derivation) (positions : List Board) (rest : List Derivation) (note : Derivation)
    (walk : IsEscapeWalk version p top positions (rest ++ note ∷ [])) where
  -- the note's position is listed: it isn't walked again
  pub escape_met : Contains positions (position_of note) → IsEscapeWalk version p top positions rest
  escape_met here =
      let go = still version p.side positions positions rest rest note (λ b c. c) (λ n c. c) here in
      record {
        start = go p walk.start;
        ways = λ b check c is. still_way p.side b check _ _ go (walk.ways b check c is);
        notes = λ n c. walk.notes n (Contains-append_left rest (note ∷ []) n c);
        tags = λ n key c held. walk.tags n key (Contains-append_left rest (note ∷ []) n c) held;
        listed = walk.listed;
      }

  here_pending : IsPending version Escape p.side top note
  here_pending = walk.notes note (Contains-push rest note)

  abbrev more : List Board
  more = positions ++ position_of note ∷ []

  abbrev ahead : List Derivation
  ahead = rest ++ reverse (two_under note)

  is_more : (b : Board) → Contains positions b → Contains more b
  is_more b c = Contains-append_left positions (position_of note ∷ []) b c

  -- a key of the note's tag, or its position's, is that of a listed position
  key_listed : (key : Key) → (key.0 ≡ key_of (position_of note)) ⊎ Contains (tag_of note) key → (b : Board) × Contains more b × (key.0 ≡ key_of b)
  key_listed key (inl own) = (position_of note, Contains-push positions (position_of note), own)
  key_listed key (inr held) = let found = walk.tags note key (Contains-push rest note) held in (found.0, is_more found.0 found.1, found.2)

  pub next_listed : (b : Board) → Contains more b → IsListed p.side top b
  next_listed b c = elim (Contains-push_cases positions (position_of note) b c) [
    | inl before ↦ walk.listed b before
    | inr same ↦ subst (IsListed p.side top) same (record {
      from = record { note = note; within = here_pending.within; own = here_pending.own; tells = inl refl; concludes = here_pending.concludes };
      kept = valid_kept note here_pending.valid;
      is_problem = problem_at version Escape p.side top note here_pending;
      turn = here_pending.turn;
    })
  ]

  go_on : (q : Board) → IsMetOrAhead version p.side positions (rest ++ note ∷ []) q → IsMetOrAhead version p.side more ahead q
  go_on = still version p.side positions more rest ahead note is_more (λ n c. Contains-append_left rest (reverse (two_under note)) n c) (Contains-push positions (position_of note))

  module _ (no_leaf : IsNoLeaf (rule_of note)) where
    down : EscapesDown version p.side top note
    down = escapes_down version p.side top note here_pending no_leaf

    own_ways : (check : Move) → IsCheck p.side (position_of note) check → HasEvasionTo p.side (IsMetOrAhead version p.side more ahead) (position_of note) check
    own_ways check is =
        let way = down.ways check is in
        record {
          evasion = way.evasion;
          is_evasion = way.is_evasion;
          leads = elim way.leads [
            | inl on ↦ inr (on.next, Contains-append_right rest (reverse (two_under note)) on.next (in_reverse (two_under note) on.next on.under), on.covers)
            | inr back ↦
                let found = key_listed back.key back.held in
                let same = back.of_no_other found.0 (next_listed found.0 found.1).kept (sym found.2) in
                inl (record { listed = back.back; inside = subst (Contains more) same found.1; covers = back.covers })
          ];
        }

    -- the note's position isn't listed yet: it is, and what is two steps under it is ahead
    pub escape_walked : IsEscapeWalk version p top more ahead
    escape_walked = record {
      start = go_on p walk.start;
      ways = λ b check c is. elim (Contains-push_cases positions (position_of note) b c) [
        | inl before ↦ still_way p.side b check _ _ go_on (walk.ways b check before is)
        | inr same ↦
            subst (λ (a : Board). HasEvasionTo p.side (IsMetOrAhead version p.side more ahead) a check) same
            (own_ways check (subst (λ (a : Board). IsCheck p.side a check) (sym same) is))
      ];
      notes = λ n c. elim (Contains-append_cases rest (reverse (two_under note)) n c) [
        | inl before ↦ walk.notes n (Contains-append_left rest (note ∷ []) n before)
        | inr new ↦ down.next n (of_reverse (two_under note) n new)
      ];
      tags = λ n key c held. elim (Contains-append_cases rest (reverse (two_under note)) n c) [
        | inl before ↦
            let found = walk.tags n key (Contains-append_left rest (note ∷ []) n before) held in
            (found.0, is_more found.0 found.1, found.2)
        | inr new ↦ key_listed key (down.tags n key (of_reverse (two_under note) n new) held)
      ];
      listed = next_listed;
    }

-- a leaf, and the positions that it stands among
pub record IsLeafAmong (note : Derivation) (set : List Board) : Type 0 where
  pub version : Version
  pub leaf : rule_of note ≡ EscapeLeaf version
  pub are : AreEscapes version (attacker_of note) set
  pub listed : Contains set (position_of note)
  pub these : beside_of note ≡ unranked set

-- it tells of all of them
pub among_told : (note : Derivation) (set : List Board) → IsLeafAmong note set → (b : Board) → Contains set b
    → IsBeside (rule_of note) (beside_of note) (position_of note) b
among_told note set is b inside =
    subst (λ (rule : Rule). IsBeside rule (beside_of note) (position_of note) b) (sym is.leaf) (
      record { rank = 0; at = b },
      subst (λ (beside : List Ranked). Contains beside (record { rank = 0; at = b })) (sym is.these)
          (contains_map (λ (q : Board). record { rank = 0; at = q }) set b inside),
      refl,
    )

module _ (version : Version) (p : Board) (top : Derivation) (positions : List Board) (rest : List Derivation) (note : Derivation)
    (walk : IsEscapeWalk version p top positions (rest ++ note ∷ [])) (set : List Board) (is : IsLeafAmong note set) where
  leaf_pending : IsPending version Escape p.side top note
  leaf_pending = walk.notes note (Contains-push rest note)

  set_are : AreEscapes is.version p.side set
  set_are = subst (λ (side : Side). AreEscapes is.version side set) leaf_pending.same_attacker is.are

  fits : version ≡ One → is.version ≡ One
  fits = leaf_fits note (EscapeLeaf is.version) version is.version leaf_pending.valid is.leaf (λ other. refl) leaf_pending.fits

  pub set_listed : (b : Board) → Contains set b → IsListed p.side top b
  set_listed b inside =
      let problem = set_are.problems b inside in
      record {
        from = record {
          note = note;
          within = leaf_pending.within;
          own = leaf_pending.own;
          tells = inr (among_told note set is b inside);
          concludes = leaf_pending.concludes;
        };
        kept = set_are.kept b inside;
        is_problem = problem.is_problem;
        turn = problem.turn;
      }

  -- its set is listed now
  pub leaf_walked : (new : List Board) → HasPutAll set positions new → IsEscapeWalk version p top new rest
  leaf_walked new has =
      let here = has.all (position_of note) is.listed in
      let go = still version p.side positions new rest rest note has.grown.stay (λ n c. c) here in
      record {
        start = go p walk.start;
        ways = λ b check c it. elim (has.grown.of b c) [
          | inl before ↦ still_way p.side b check _ _ go (walk.ways b check before it)
          | inr inside ↦
              still_way p.side b check _ _ (λ q covered. inl (record { listed = covered.listed; inside = has.all covered.listed covered.inside; covers = covered.covers }))
              (held_in version is.version p.side set b fits (set_are.closed.held b inside) check it)
        ];
        notes = λ n c. walk.notes n (Contains-append_left rest (note ∷ []) n c);
        tags = λ n key c held.
            let found = walk.tags n key (Contains-append_left rest (note ∷ []) n c) held in
            (found.0, has.grown.stay found.0 found.1, found.2);
        listed = λ b c. elim (has.grown.of b c) [ inl before ↦ walk.listed b before | inr inside ↦ set_listed b inside ];
      }

none_ahead : (version : Version) (attacker : Side) (positions : List Board) (q : Board) → IsMetOrAhead version attacker positions [] q
    → IsCovered version positions attacker q
none_ahead version attacker positions q (inl h) = h
none_ahead version attacker positions q (inr (n, c, covers)) = none_in n _ c

-- nothing is ahead
pub escape_ended : (version : Version) (p : Board) (top : Derivation) (positions : List Board) → IsEscapeWalk version p top positions [] → AreApart positions
    → AreEscapeEntries version p positions
escape_ended version p top positions walk apart = record {
  listed = none_ahead version p.side positions p walk.start;
  closed = record {
    turn = λ b c. (walk.listed b c).turn;
    held = λ b c check is. still_way p.side b check _ _ (none_ahead version p.side positions) (walk.ways b check c is);
  };
  problems = λ b c. record { is_problem = (walk.listed b c).is_problem; side = (walk.listed b c).turn };
  kept = λ b c. (walk.listed b c).kept;
  apart = apart;
}

-- Places of positions

-- the place behind all others is that of a new position, and any other that of a listed one
pub is_new : (positions : List Board) (q : Board) (place : ℕ) → IsPlaceOrNext positions q place → place ≡ length positions → ¬ Contains positions q
is_new positions q place (inl at) last = absurd (let inside = slice_get_within positions place q at in omega (arith, inside, last))
is_new positions q place (inr new) last = new.0

pub is_old : (positions : List Board) (q : Board) (place : ℕ) → IsPlaceOrNext positions q place → place ≢ length positions → slice_get positions place ≡ Some q
is_old positions q place (inl at) differs = at
is_old positions q place (inr new) differs = absurd (differs new.1)

abbrev pub Adds : Places → Board → Places → Type 0
Adds old q new = (positions longer : List Board) → ArePlacesOf old positions → IsWith positions q longer → ArePlacesOf new longer

pub placed_new : (old new : Places) (q r : Board) (positions longer : List Board) (place : ℕ) → ArePlacesOf old positions → Adds old q new
    → IsPlaceOrNext positions q place → place ≡ length positions → r ≡ q → longer ≡ positions ++ r ∷ [] → ArePlacesOf new longer
placed_new old new q r positions longer place known adds at last same is =
    adds positions longer known (inr (is_new positions q place at last, is ∙ ap (λ (b : Board). positions ++ b ∷ []) same))

pub placed_old : (old new : Places) (q : Board) (positions : List Board) (place : ℕ) → ArePlacesOf old positions → Adds old q new
    → IsPlaceOrNext positions q place → place ≢ length positions → ArePlacesOf new positions
placed_old old new q positions place known adds at differs =
    adds positions positions known (inl (contained positions place q (is_old positions q place at differs), refl))

-- Where fewer are listed than so many, one more still is within that.
pub few_more : {X : Type 0} (xs ys : List X) (x : X) (place most : ℕ) → ys ≡ xs ++ x ∷ [] → place ≡ length xs → place ≢ most → length xs ≤ most
    → length ys ≤ most
few_more {X} xs ys x place most is last differs few =
    let longer = ap (λ (zs : List X). length zs) is in
    let long = length-append xs (x ∷ []) in
    omega (arith, longer, long, last, differs, few)

-- The stack of notes, as references

module _ {A : Type 0} (v : A → Derivation) where
  pub first_pending : (pending none : List A) (x : A) → none ≡ [] → pending ≡ none ++ x ∷ [] → map v pending ≡ v x ∷ []
  first_pending pending none x empty is = ap (map v) (is ∙ ap (λ (xs : List A). xs ++ x ∷ []) empty)

  pub popped : (pending rest : List A) (next : A) → pending ≡ rest ++ next ∷ [] → map v pending ≡ map v rest ++ v next ∷ []
  popped pending rest next is = ap (map v) is ∙ map_push v rest next

  pub escape_at_first : (version : Version) (p : Board) (positions : List Board) (pending none : List A) (x : A) → positions ≡ [] → none ≡ []
      → pending ≡ none ++ x ∷ [] → IsPending version Escape p.side (v x) (v x) → Covers version p.side (position_of (v x)) p → tag_of (v x) ≡ []
      → IsEscapeWalk version p (v x) positions (map v pending)
  escape_at_first version p positions pending none x unlisted empty is h covers closed =
      subst (λ (bs : List Board). IsEscapeWalk version p (v x) bs (map v pending)) (sym unlisted)
      (subst (IsEscapeWalk version p (v x) []) (sym (first_pending pending none x empty is)) (escape_begun version p (v x) h covers closed))

  pub next_pending : (version : Version) (p : Board) (top : Derivation) (positions : List Board) (pending rest : List A) (next : A)
      → pending ≡ rest ++ next ∷ [] → IsEscapeWalk version p top positions (map v pending) → IsPending version Escape p.side top (v next)
  next_pending version p top positions pending rest next is walk =
      walk.notes (v next) (subst (λ (ns : List Derivation). Contains ns (v next)) (sym (popped pending rest next is)) (Contains-push (map v rest) (v next)))

  pub escape_on : (version : Version) (p : Board) (top : Derivation) (positions longer : List Board) (pending rest new : List A) (next : A) (r : Board)
      → pending ≡ rest ++ next ∷ [] → map v new ≡ map v rest ++ reverse (two_under (v next)) → r ≡ position_of (v next) → longer ≡ positions ++ r ∷ []
      → IsNoLeaf (rule_of (v next)) → IsEscapeWalk version p top positions (map v pending) → IsEscapeWalk version p top longer (map v new)
  escape_on version p top positions longer pending rest new next r is pushed same listed no_leaf walk =
      subst (λ (bs : List Board). IsEscapeWalk version p top bs (map v new)) (sym (listed ∙ ap (λ (b : Board). positions ++ b ∷ []) same))
      (subst (IsEscapeWalk version p top (positions ++ position_of (v next) ∷ [])) (sym pushed)
      (escape_walked version p top positions (map v rest) (v next) (subst (IsEscapeWalk version p top positions) (popped pending rest next is) walk) no_leaf))

  pub escape_past : (version : Version) (p : Board) (top : Derivation) (positions : List Board) (pending rest : List A) (next : A)
      → pending ≡ rest ++ next ∷ [] → Contains positions (position_of (v next))
      → IsEscapeWalk version p top positions (map v pending) → IsEscapeWalk version p top positions (map v rest)
  escape_past version p top positions pending rest next is here walk =
      escape_met version p top positions (map v rest) (v next) (subst (IsEscapeWalk version p top positions) (popped pending rest next is) walk) here

  pub escape_leaf_on : (version : Version) (p : Board) (top : Derivation) (positions new set : List Board) (pending rest : List A) (next : A)
      → pending ≡ rest ++ next ∷ [] → IsLeafAmong (v next) set → HasPutAll set positions new → IsEscapeWalk version p top positions (map v pending)
      → IsEscapeWalk version p top new (map v rest)
  escape_leaf_on version p top positions new set pending rest next is leaf has walk =
      leaf_walked version p top positions (map v rest) (v next) (subst (IsEscapeWalk version p top positions) (popped pending rest next is) walk) set leaf new has

  pub escape_done : (version : Version) (p : Board) (top : Derivation) (positions : List Board) (pending : List A) → length pending ≡ 0
      → IsEscapeWalk version p top positions (map v pending) → AreApart positions → AreEscapeEntries version p positions
  escape_done version p top positions [] none walk apart = escape_ended version p top positions walk apart
  escape_done version p top positions (x ∷ pending) none walk apart = absurd (omega (arith, none))
