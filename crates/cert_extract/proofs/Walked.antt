-- The notes that were walked: which they are, what is listed of them, and which may follow.
use Rattle.std.proofs.Common.{◌≡◌, ◌<◌, ◌*◌, ◌++◌, ◌⊎◌, inl, inr, ℕ, List, [], ◌∷◌, length, map, set, reverse, Contains, arith, refl, sym, ◌∙◌, ap, subst}
use Rattle.std.proofs.lemmas.List.{length-append}
use Rattle.std.proofs.lemmas.List.Elements.{Contains-append_left, Contains-append_cases, Contains-push, Contains-push_cases}
use Rattle.bit_boards.specs.declared.piece.Side.{Side}
use Rattle.board_core.specs.Board.{Board}
use Rattle.list_laws.proofs.Standing.{contained, at_place, from_map, contains_map}
use Rattle.mate_facts.specs.declared.entry.MateEntry.{MateEntry}
use Rattle.mate_facts.specs.Entries.{AreApart, positions_of}
use Rattle.shogi_rules.specs.Laws.{LegalBoardMoves}
use Rattle.notes.specs.declared.rule.Rule.{Rule}
use Rattle.notes.specs.declared.rule.Conclusion.TheVariants.{Mate, Escape}
use Rattle.hand_dominance.specs.declared.version.Version.{Version}
use Rattle.notes.specs.Derivation.{Derivation, IsNoLeaf, position_of, rule_of, height_of, concluded, conclusion_of, source_of, beside_of}
use Rattle.notes.specs.Valid.{IsValid}
use Rattle.cert_extract.specs.Tree.{two_under}
use Rattle.cert_extract.specs.Walk.{IsUnderOne, MayFollow, IsWalk}
use Rattle.cert_extract.specs.Beside.{IsBeside, Tells}
use Rattle.cert_extract.specs.Extracted.{IsLeafOf, IsMet, HasMoreThan, IsEndFor}
use Rattle.cert_extract.specs.declared.ends.ExtractEnd.{ExtractEnd}
use Rattle.cert_extract.specs.declared.ends.ExtractEnd.TheVariants.{TooMany, NoMemory}
use Rattle.cert_extract.specs.Listing.{IsFull, IsLowerThanListed, StayListed, HasListed, IsWanted, HasListedLeaf, HasMetLeaf, IsEndAt, IsEndInLeaf, IsEndInSet, IsFullInLeaf, HasPutAll, IsFullInSet}
use Rattle.cert_extract.proofs.Trees.{of_reverse}
use Rattle.cert_extract.proofs.Rules.{leaf_high}
use Rattle.cert_extract.proofs.Grown.{full_behind}
use Rattle.cert_extract.proofs.Escapes.{IsListed, IsEscapeWalk, IsLeafAmong, none_in, first_pending, popped, next_listed, set_listed, among_told}
use Rattle.cert_extract.proofs.Mates.{IsListedMate, IsMateWalk, IsEntryOf, IsLeafWith, StandsFor, not_listed, own_wanted, wanted_told, wanted_listed, its_listed, at_next}

-- 1. A walk, of which a note more is walked

no_split : {X : Type 0} (before rest : List X) (x : X) → [] ≡ before ++ x ∷ rest → ⊥
no_split before rest x e = let long = length-append before (x ∷ rest) in let same = ap length e in omega (arith, long, same)

-- where a list with one more behind it has an item, the item is that one, or the list had it after
-- the same ones
push_split : {X : Type 0} (xs before rest : List X) (y x : X) → xs ++ y ∷ [] ≡ before ++ x ∷ rest
    → ((xs ≡ before) × (y ≡ x)) ⊎ ((fewer : List X) × (xs ≡ before ++ x ∷ fewer))
push_split [] [] rest y x e = inl (refl, (cc))
push_split [] (b ∷ before) rest y x e =
    absurd (no_split before rest x (tail_of y b [] (before ++ x ∷ rest) e))
  where
    tail_of : {X : Type 0} (y b : X) (xs ys : List X) → y ∷ xs ≡ b ∷ ys → xs ≡ ys
    tail_of y b xs ys e = cc
push_split (z ∷ xs) [] rest y x e = inr (xs, (cc))
push_split (z ∷ xs) (b ∷ before) rest y x e = elim (push_split xs before rest y x (cc)) [
  | inl last ↦ inl ((let same = last.0 in cc), last.1)
  | inr old ↦ inr (old.0, (let same = old.1 in cc))
]

longer_walk : (top : Derivation) (walked : List Derivation) (note : Derivation) → IsWalk top walked → MayFollow top walked note → IsWalk top (walked ++ note ∷ [])
longer_walk top walked note walk may before rest other e = elim (push_split walked before rest note other e) [
  | inl last ↦ subst (λ (n : Derivation). MayFollow top before n) last.1 (subst (λ (ns : List Derivation). MayFollow top ns note) last.0 may)
  | inr old ↦ walk before old.0 other old.1
]

-- 2. What was walked, what is listed, and what is pending

-- the tree alone is pending, and none was walked; or what is pending stands two steps under what
-- was walked
abbrev pub AreNext : Derivation → List Derivation → List Derivation → Type 0
AreNext top walked pending = ((walked ≡ []) × (pending ≡ top ∷ [])) ⊎ ((n : Derivation) → Contains pending n → IsUnderOne walked n)

-- one of the notes tells of the position
abbrev pub IsToldBy : List Derivation → Board → Type 0
IsToldBy walked b = (note : Derivation) × Contains walked note × Tells note b

-- the tree's last step carries none; the walked notes are a walk, of which what is pending goes on;
-- their positions are listed, and of each listed one of them tells
pub record AreWalked (top : Derivation) (positions : List Board) (pending walked : List Derivation) : Type 0 where
  pub source : source_of top ≡ top
  pub walk : IsWalk top walked
  pub next : AreNext top walked pending
  pub told : (b : Board) → Contains positions b → IsToldBy walked b
  pub own : (n : Derivation) → Contains walked n → Contains positions (position_of n)

pub none_walked : (top : Derivation) → source_of top ≡ top → AreWalked top [] (top ∷ []) []
none_walked top source = record {
  source = source;
  walk = λ before rest note e. absurd (no_split before rest note e);
  next = inl (refl, refl);
  told = λ b c. none_in b _ c;
  own = λ n c. none_in n _ c;
}

alone : (rest : List Derivation) (note top : Derivation) → rest ++ note ∷ [] ≡ top ∷ [] → (rest ≡ []) × (top ≡ note)
alone [] note top e = (refl, (cc))
alone (x ∷ rest) note top e = let long = length-append rest (note ∷ []) in let same = ap length e in absurd (omega (arith, long, same))

module _ (top : Derivation) (positions : List Board) (rest walked : List Derivation) (note : Derivation)
    (are : AreWalked top positions (rest ++ note ∷ []) walked) where
  -- the note is passed by
  pub still_walked : AreWalked top positions rest walked
  still_walked = record {
    source = are.source;
    walk = are.walk;
    next = inr (elim are.next [
      | inl first ↦ λ n c. none_in n _ (subst (λ (ns : List Derivation). Contains ns n) (alone rest note top first.1).0 c)
      | inr under ↦ λ n c. under n (Contains-append_left rest (note ∷ []) n c)
    ]);
    told = are.told;
    own = are.own;
  }

  stands_there : ((walked ≡ []) × (source_of top ≡ note)) ⊎ IsUnderOne walked note
  stands_there = elim are.next [
    | inl first ↦ inl (first.0, are.source ∙ (alone rest note top first.1).1)
    | inr under ↦ inr (under note (Contains-push rest note))
  ]

  -- the position of a note that was walked is listed
  pub listed_there : (earlier : Derivation) → Contains walked earlier → Contains positions (position_of earlier)
  listed_there earlier c = are.own earlier c

  abbrev pub IsLower : Type 0
  IsLower = (earlier : Derivation) → Contains walked earlier → position_of earlier ≡ position_of note
      → (conclusion_of note ≡ Mate) × (height_of note < height_of earlier)

  pub lower_where_new : (¬ Contains positions (position_of note)) → IsLower
  lower_where_new new earlier c e = absurd (new (subst (Contains positions) e (listed_there earlier c)))

  -- what was walked, with the note
  abbrev pub more_walked : List Derivation
  more_walked = walked ++ note ∷ []

  pub walk_on : IsLower → IsWalk top more_walked
  walk_on lower = longer_walk top walked note are.walk (record { stands = stands_there; lower = lower })

  -- of what is listed now one of these tells
  pub told_more : (longer : List Board) → ((b : Board) → Contains longer b → Contains positions b ⊎ Tells note b) → (b : Board) → Contains longer b
      → IsToldBy more_walked b
  told_more longer of b c = elim (of b c) [
    | inl before ↦ let found = are.told b before in (found.0, Contains-append_left walked (note ∷ []) found.0 found.1, found.2)
    | inr tells ↦ (note, Contains-push walked note, tells)
  ]

  own_more : (longer : List Board) → ((b : Board) → Contains positions b → Contains longer b) → (earlier : Derivation) → Contains walked earlier
      → Contains longer (position_of earlier)
  own_more longer stay earlier c = stay (position_of earlier) (are.own earlier c)

  before_under : (n : Derivation) → Contains rest n → IsUnderOne more_walked n
  before_under n c = elim are.next [
    | inl first ↦ none_in n _ (subst (λ (ns : List Derivation). Contains ns n) (alone rest note top first.1).0 c)
    | inr under ↦
        let up = under n (Contains-append_left rest (note ∷ []) n c) in
        (up.0, Contains-append_left walked (note ∷ []) up.0 up.1, up.2)
  ]

  -- the note is walked, and of what is two steps under it some is pending
  pub one_walked : IsLower → (longer : List Board) → ((b : Board) → Contains positions b → Contains longer b)
      → ((b : Board) → Contains longer b → Contains positions b ⊎ Tells note b) → Contains longer (position_of note) → (ahead : List Derivation)
      → ((n : Derivation) → Contains ahead n → Contains rest n ⊎ Contains (two_under note) n) → AreWalked top longer ahead more_walked
  one_walked lower longer stay of here ahead from = record {
    source = are.source;
    walk = walk_on lower;
    next = inr (λ n c. elim (from n c) [ inl before ↦ before_under n before | inr new ↦ (note, Contains-push walked note, new) ]);
    told = told_more longer of;
    own = λ n c. elim (Contains-push_cases walked note n c) [
      | inl before ↦ own_more longer stay n before
      | inr same ↦ subst (λ (d : Derivation). Contains longer (position_of d)) same here
    ];
  }

  -- the note is walked, and tells of one too many
  pub more_met : (most : ℕ) (p : Board) → IsLower → (longer : List Board) → ((b : Board) → Contains positions b → Contains longer b)
      → ((b : Board) → Contains longer b → Contains positions b ⊎ Tells note b) → (IsNoLeaf (rule_of note) → Contains longer (position_of note))
      → most < length longer → AreApart longer → ((b : Board) → Contains longer b → IsMet top p.side b) → HasMoreThan most p top
  more_met most p lower longer stay of here many apart from = record {
    walked = more_walked;
    walk = walk_on lower;
    positions = longer;
    told = told_more longer of;
    own = λ n c no_leaf. elim (Contains-push_cases walked note n c) [
      | inl before ↦ own_more longer stay n before
      | inr same ↦
          subst (λ (d : Derivation). Contains longer (position_of d)) same
          (here (subst (λ (d : Derivation). IsNoLeaf (rule_of d)) (sym same) no_leaf))
    ];
    apart = apart;
    more = many;
    from = from;
  }

-- what is pending behind a note that gave way to those two steps under it
two_more : (rest : List Derivation) (note n : Derivation) → Contains (rest ++ reverse (two_under note)) n → Contains rest n ⊎ Contains (two_under note) n
two_more rest note n c = elim (Contains-append_cases rest (reverse (two_under note)) n c) [
  | inl before ↦ inl before
  | inr new ↦ inr (of_reverse (two_under note) n new)
]

-- one more than so many
many_more : (most : ℕ) (positions : List Board) (b : Board) → most ≡ length positions → most < length (positions ++ b ∷ [])
many_more most positions b full = let long = length-append positions (b ∷ []) in omega (arith, long, full)

-- 5. An escape

-- some notes were walked
abbrev pub SomeWalked : Derivation → List Board → List Derivation → Type 0
SomeWalked top positions pending = (walked : List Derivation) × AreWalked top positions pending walked

met_escape : (attacker : Side) (top : Derivation) (b : Board) → conclusion_of top ≡ Escape → IsListed attacker top b → IsMet top attacker b
met_escape attacker top b escape listed = record {
  note = listed.from.note;
  within = listed.from.within;
  tells = listed.from.tells;
  concludes = listed.from.concludes ∙ sym escape;
  turn = listed.turn;
}

module _ {A : Type 0} (v : A → Derivation) where
  pub escapes_at_first : (positions : List Board) (pending none : List A) (x : A) → positions ≡ [] → none ≡ [] → pending ≡ none ++ x ∷ []
      → source_of (v x) ≡ v x → SomeWalked (v x) positions (map v pending)
  escapes_at_first positions pending none x unlisted empty is source =
      subst (λ (bs : List Board). SomeWalked (v x) bs (map v pending)) (sym unlisted)
      (subst (SomeWalked (v x) []) (sym (first_pending v pending none x empty is)) ([], none_walked (v x) source))

  module _ (top : Derivation) (positions : List Board) (pending rest : List A) (next : A) (is : pending ≡ rest ++ next ∷ [])
      (some : SomeWalked top positions (map v pending)) where
    at_note : SomeWalked top positions (map v rest ++ v next ∷ [])
    at_note = subst (SomeWalked top positions) (popped v pending rest next is) some

    pub escapes_past : SomeWalked top positions (map v rest)
    escapes_past = (at_note.0, still_walked top positions (map v rest) at_note.0 (v next) at_note.1)

    module _ (fresh : ¬ Contains positions (position_of (v next))) where
      lower_here : IsLower top positions (map v rest) at_note.0 (v next) at_note.1
      lower_here = lower_where_new top positions (map v rest) at_note.0 (v next) at_note.1 fresh

      pub escapes_on : (longer : List Board) (new : List A) → map v new ≡ map v rest ++ reverse (two_under (v next))
          → longer ≡ positions ++ position_of (v next) ∷ [] → SomeWalked top longer (map v new)
      escapes_on longer new pushed listed =
          subst (λ (bs : List Board). SomeWalked top bs (map v new)) (sym listed)
          (subst (SomeWalked top (positions ++ position_of (v next) ∷ [])) (sym pushed) (
            at_note.0 ++ v next ∷ [],
            one_walked top positions (map v rest) at_note.0 (v next) at_note.1 lower_here (positions ++ position_of (v next) ∷ [])
                (λ b c. Contains-append_left positions (position_of (v next) ∷ []) b c)
                (λ b c. elim (Contains-push_cases positions (position_of (v next)) b c) [ inl before ↦ inl before | inr same ↦ inr (inl same) ])
                (Contains-push positions (position_of (v next))) (map v rest ++ reverse (two_under (v next))) (two_more (map v rest) (v next)),
          ))

      -- what stands beside a leaf is told by it
      beside : (set : List Board) → IsLeafAmong (v next) set → (b : Board) → Contains set b → Tells (v next) b
      beside set leaf b inside = inr (among_told (v next) set leaf b inside)

      pub escapes_leaf_on : (new set : List Board) → IsLeafAmong (v next) set → HasPutAll set positions new → SomeWalked top new (map v rest)
      escapes_leaf_on new set leaf has = (
        at_note.0 ++ v next ∷ [],
        one_walked top positions (map v rest) at_note.0 (v next) at_note.1 lower_here new has.grown.stay
            (λ b c. elim (has.grown.of b c) [ inl before ↦ inl before | inr inside ↦ inr (beside set leaf b inside) ])
            (has.all (position_of (v next)) leaf.listed) (map v rest) (λ n c. inl c),
      )

      module _ (version : Version) (p : Board) (most : ℕ) (escape : conclusion_of top ≡ Escape) (walk : IsEscapeWalk version p top positions (map v pending)) where
        walk_at : IsEscapeWalk version p top positions (map v rest ++ v next ∷ [])
        walk_at = subst (IsEscapeWalk version p top positions) (popped v pending rest next is) walk

        pub escape_too_many : IsFull most positions (position_of (v next)) → HasMoreThan most p top
        escape_too_many full =
            let longer = positions ++ position_of (v next) ∷ [] in
            more_met top positions (map v rest) at_note.0 (v next) at_note.1 most p lower_here longer
            (λ b c. Contains-append_left positions (position_of (v next) ∷ []) b c)
            (λ b c. elim (Contains-push_cases positions (position_of (v next)) b c) [ inl before ↦ inl before | inr same ↦ inr (inl same) ])
            (λ no_leaf. Contains-push positions (position_of (v next))) (many_more most positions (position_of (v next)) full.full) full.apart
            (λ b c. met_escape p.side top b escape (next_listed version p top positions (map v rest) (v next) walk_at b c))

        pub escape_leaf_too_many : (set : List Board) → IsLeafAmong (v next) set → IsFullInSet most set positions → HasMoreThan most p top
        escape_leaf_too_many set leaf full =
            let longer = full.new ++ full.b ∷ [] in
            let of : (b : Board) → Contains longer b → Contains positions b ⊎ Contains set b =
            λ b c. elim (Contains-push_cases full.new full.b b c) [
              | inl before ↦ full.grown.of b before
              | inr same ↦ inr (subst (Contains set) same full.inside)
            ] in
            more_met top positions (map v rest) at_note.0 (v next) at_note.1 most p lower_here longer
            (λ b c. Contains-append_left full.new (full.b ∷ []) b (full.grown.stay b c))
            (λ b c. elim (of b c) [ inl before ↦ inl before | inr inside ↦ inr (beside set leaf b inside) ])
            (λ no_leaf. absurd (subst IsNoLeaf leaf.leaf no_leaf)) (many_more most full.new full.b full.full.full) full.full.apart
            (λ b c. met_escape p.side top b escape (elim (of b c) [
              | inl before ↦ walk_at.listed b before
              | inr inside ↦ set_listed version p top positions (map v rest) (v next) walk_at set leaf b inside
            ]))

module _ {A : Type 0} (v : A → Derivation) (top : Derivation) (positions : List Board) (pending rest : List A) (next : A) (is : pending ≡ rest ++ next ∷ [])
    (some : SomeWalked top positions (map v pending)) where
  -- what ends the listing ends the walk
  pub escape_end : (version : Version) (p : Board) (most : ℕ) → conclusion_of top ≡ Escape → IsEscapeWalk version p top positions (map v pending)
      → (end : ExtractEnd) → IsEndAt most positions (position_of (v next)) end → IsEndFor most p top end
  escape_end version p most escape walk TooMany full = escape_too_many v top positions pending rest next is some full.new version p most escape walk full
  escape_end version p most escape walk NoMemory full = tt

  pub escape_leaf_end : (¬ Contains positions (position_of (v next))) → (version : Version) (p : Board) (most : ℕ) → conclusion_of top ≡ Escape
      → IsEscapeWalk version p top positions (map v pending) → (set : List Board) → IsLeafAmong (v next) set → (mid : List Board)
      → mid ≡ positions ++ position_of (v next) ∷ [] → (end : ExtractEnd) → IsEndInSet most set mid end → IsEndFor most p top end
  escape_leaf_end fresh version p most escape walk set leaf mid put TooMany full =
      escape_leaf_too_many v top positions pending rest next is some fresh version p most escape walk set leaf
      (full_behind set most positions (position_of (v next)) mid leaf.listed put full)
  escape_leaf_end fresh version p most escape walk set leaf mid put NoMemory full = tt

-- 6. A mate

pub record MatesWalked (top : Derivation) (entries : List MateEntry) (pending : List Derivation) : Type 0 where
  pub walked : List Derivation
  pub are : AreWalked top (positions_of entries) pending walked
  pub low : (n : Derivation) → Contains walked n → StandsFor entries n

-- ranks have only fallen
still_low : (entries more : List MateEntry) (n : Derivation) → StayListed entries more → StandsFor entries n → StandsFor more n
still_low entries more n stay h =
    let found = stay h.entry.at h.entry.rank.number (record { entry = h.entry; listed = h.listed; same = refl; low = omega arith }) in
    let low = h.low in
    let below = found.low in
    record { entry = found.entry; listed = found.listed; same = found.same ∙ h.same; low = omega (arith, low, below) }

-- of what a leaf says an entry, it tells of its position
leaf_tells : (note : Derivation) (entry : MateEntry) → IsLeafOf note entry → Tells note entry.at
leaf_tells note entry leaf =
    inr (subst (λ (rule : Rule). IsBeside rule (beside_of note) (position_of note) entry.at) (sym leaf.leaf)
    (record { rank = entry.rank.number; at = entry.at }, leaf.beside, refl))

met_mate : (attacker : Side) (top : Derivation) (entry : MateEntry) → conclusion_of top ≡ Mate → IsListedMate attacker top entry
    → IsMet top attacker entry.at
met_mate attacker top entry mate listed = record {
  note = listed.from.note;
  within = listed.from.within;
  tells = elim listed.from.says [ inl step ↦ inl step.about | inr leaf ↦ leaf_tells listed.from.note entry leaf ];
  concludes = elim listed.from.says [ inl step ↦ ap concluded step.by ∙ sym mate | inr leaf ↦ ap concluded leaf.leaf ∙ sym mate ];
  turn = listed.turn;
}

-- each listed position is met
met_listed : (version : Version) (p : Board) (top : Derivation) (entries : List MateEntry) (pending : List Derivation)
    → IsMateWalk version p top entries pending → conclusion_of top ≡ Mate → (b : Board) → Contains (positions_of entries) b → IsMet top p.side b
met_listed version p top entries pending walk mate b c =
    let found = from_map (λ (e : MateEntry). e.at) entries c.0 b (at_place (positions_of entries) b c) in
    subst (IsMet top p.side) found.2 (met_mate p.side top found.0 mate (walk.listed found.0 (contained entries c.0 found.0 found.1)))

-- the positions of what is listed now
positions_more : (entries more : List MateEntry) (P : MateEntry → Type 0) (Q : Board → Type 0)
    → ((entry : MateEntry) → Contains more entry → Contains entries entry ⊎ P entry) → ((entry : MateEntry) → P entry → Q entry.at) → (b : Board)
    → Contains (positions_of more) b → Contains (positions_of entries) b ⊎ Q b
positions_more entries more P Q of give b c =
    let found = from_map (λ (e : MateEntry). e.at) more c.0 b (at_place (positions_of more) b c) in
    elim (of found.0 (contained more c.0 found.0 found.1)) [
      | inl before ↦ inl (subst (Contains (positions_of entries)) found.2 (contains_map (λ (e : MateEntry). e.at) entries found.0 before))
      | inr new ↦ inr (subst Q found.2 (give found.0 new))
    ]

-- a position that is listed stays listed
positions_stay : (entries more : List MateEntry) → StayListed entries more → (b : Board) → Contains (positions_of entries) b → Contains (positions_of more) b
positions_stay entries more stay b c =
    let found = from_map (λ (e : MateEntry). e.at) entries c.0 b (at_place (positions_of entries) b c) in
    let still = stay b found.0.rank.number (record { entry = found.0; listed = contained entries c.0 found.0 found.1; same = found.2; low = omega arith }) in
    subst (Contains (positions_of more)) still.same (contains_map (λ (e : MateEntry). e.at) more still.entry still.listed)

module _ (top : Derivation) (entries : List MateEntry) (rest : List Derivation) (note : Derivation)
    (mates : MatesWalked top entries (rest ++ note ∷ [])) where
  -- a mate whose position is listed with a greater rank, if at all, is lower than each that was
  -- walked there
  mate_lower_here : (rank : ℕ) → conclusion_of note ≡ Mate → height_of note ≡ 2 * rank → IsLowerThanListed entries (position_of note) rank
      → IsLower top (positions_of entries) rest mates.walked note mates.are
  mate_lower_here rank mate high lower earlier c e =
      let found = mates.low earlier c in
      let less = lower found.entry found.listed (found.same ∙ e) in
      let low = found.low in
      (mate, omega (arith, less, low, high))

  -- the note is walked, and an entry stands for it
  mates_more : (rank : ℕ) → conclusion_of note ≡ Mate → height_of note ≡ 2 * rank → IsLowerThanListed entries (position_of note) rank
      → (more : List MateEntry) → StayListed entries more → ((b : Board) → Contains (positions_of more) b → Contains (positions_of entries) b ⊎ Tells note b)
      → StandsFor more note → (ahead : List Derivation) → ((n : Derivation) → Contains ahead n → Contains rest n ⊎ Contains (two_under note) n)
      → MatesWalked top more ahead
  mates_more rank mate high lower more stay of here ahead from = record {
    walked = mates.walked ++ note ∷ [];
    are = one_walked top (positions_of entries) rest mates.walked note mates.are (mate_lower_here rank mate high lower) (positions_of more)
        (positions_stay entries more stay) of
        (subst (Contains (positions_of more)) here.same (contains_map (λ (e : MateEntry). e.at) more here.entry here.listed)) ahead from;
    low = λ n c. elim (Contains-push_cases mates.walked note n c) [
      | inl before ↦ still_low entries more n stay (mates.low n before)
      | inr same ↦ subst (StandsFor more) same here
    ];
  }

  -- it tells of one too many
  mates_met : (most : ℕ) (p : Board) (rank : ℕ) → conclusion_of note ≡ Mate → height_of note ≡ 2 * rank
      → IsLowerThanListed entries (position_of note) rank → (positions : List Board) (b : Board)
      → ((q : Board) → Contains (positions_of entries) q → Contains positions q)
      → ((q : Board) → Contains (positions ++ b ∷ []) q → Contains (positions_of entries) q ⊎ Tells note q)
      → (IsNoLeaf (rule_of note) → b ≡ position_of note) → IsFull most positions b
      → ((q : Board) → Contains (positions ++ b ∷ []) q → IsMet top p.side q) → HasMoreThan most p top
  mates_met most p rank mate high lower positions b stay of here full met =
      more_met top (positions_of entries) rest mates.walked note mates.are most p (mate_lower_here rank mate high lower) (positions ++ b ∷ [])
      (λ q c. Contains-append_left positions (b ∷ []) q (stay q c)) of
      (λ no_leaf. subst (Contains (positions ++ b ∷ [])) (here no_leaf) (Contains-push positions b)) (many_more most positions b full.full) full.apart met

module _ {A : Type 0} (v : A → Derivation) where
  pub mates_at_first : (entries : List MateEntry) (pending none : List A) (x : A) → entries ≡ [] → none ≡ [] → pending ≡ none ++ x ∷ []
      → source_of (v x) ≡ v x → MatesWalked (v x) entries (map v pending)
  mates_at_first entries pending none x unlisted empty is source =
      subst (λ (es : List MateEntry). MatesWalked (v x) es (map v pending)) (sym unlisted)
      (subst (MatesWalked (v x) []) (sym (first_pending v pending none x empty is))
      (record { walked = []; are = none_walked (v x) source; low = λ n c. none_in n _ c }))

  module _ (top : Derivation) (entries : List MateEntry) (pending rest : List A) (next : A) (is : pending ≡ rest ++ next ∷ [])
      (mates : MatesWalked top entries (map v pending)) where
    at_mate : MatesWalked top entries (map v rest ++ v next ∷ [])
    at_mate = subst (MatesWalked top entries) (popped v pending rest next is) mates

    pub mates_past : MatesWalked top entries (map v rest)
    mates_past = record {
      walked = at_mate.walked;
      are = still_walked top (positions_of entries) (map v rest) at_mate.walked (v next) at_mate.are;
      low = at_mate.low;
    }

    module _ (entry : MateEntry) (its : IsEntryOf (v next) entry) where
      its_lower : IsLowerThanListed entries entry.at entry.rank.number → IsLowerThanListed entries (position_of (v next)) entry.rank.number
      its_lower lower = subst (λ (b : Board). IsLowerThanListed entries b entry.rank.number) its.about lower

      -- of its own position a note tells
      told_own : (b : Board) → entry.at ≡ b → Tells (v next) b
      told_own b same = inl (sym its.about ∙ same)

      pub mates_on : (more : List MateEntry) (new : List A) → map v new ≡ map v rest ++ reverse (two_under (v next)) → HasListed entries entry more
          → MatesWalked top more (map v new)
      mates_on more new pushed has =
          subst (MatesWalked top more) (sym pushed)
          (mates_more top entries (map v rest) (v next) at_mate entry.rank.number (ap concluded its.by) its.high (its_lower has.lower) more has.stay
          (positions_more entries more (λ e. entry ≡ e) (Tells (v next)) has.of (λ e same. told_own e.at (ap (λ (it : MateEntry). it.at) same)))
          (record { entry = entry; listed = has.there; same = its.about; low = (let high = its.high in omega (arith, high)) })
          (map v rest ++ reverse (two_under (v next))) (two_more (map v rest) (v next)))

      pub mate_too_many : (version : Version) (p : Board) (most : ℕ) → conclusion_of top ≡ Mate → LegalBoardMoves
          → IsFull most (positions_of entries) entry.at → IsMateWalk version p top entries (map v pending) → HasMoreThan most p top
      mate_too_many version p most mate goes full walk =
          let walked = at_next v version p top entries pending rest next is walk in
          mates_met top entries (map v rest) (v next) at_mate most p entry.rank.number (ap concluded its.by) its.high
          (its_lower (not_listed entries entry.at entry.rank.number full.new)) (positions_of entries) entry.at (λ q c. c)
          (λ q c. elim (Contains-push_cases (positions_of entries) entry.at q c) [ inl before ↦ inl before | inr same ↦ inr (told_own q same) ])
          (λ no_leaf. its.about) full
          (λ q c. elim (Contains-push_cases (positions_of entries) entry.at q c) [
            | inl before ↦ met_listed version p top entries (map v pending) walk mate q before
            | inr same ↦
                subst (IsMet top p.side) same
                (met_mate p.side top entry mate (its_listed version p top entries (map v rest) (v next) walked entry its goes))
          ])

    module _ (set : List MateEntry) (rank : ℕ) (leaf : IsLeafWith (v next) set rank) (valid : IsValid (v next)) where
      concludes : conclusion_of (v next) ≡ Mate
      concludes = ap concluded leaf.leaf

      high : height_of (v next) ≡ 2 * rank
      high = leaf_high (v next) leaf.version rank valid leaf.leaf

      -- what it wants stands beside it
      told_wanted : (entry : MateEntry) → IsWanted set (position_of (v next)) rank entry → Tells (v next) entry.at
      told_wanted entry wanted = leaf_tells (v next) entry (record {
        version = leaf.version;
        rank = rank;
        leaf = leaf.leaf;
        beside = wanted_told (v next) set rank leaf entry wanted;
      })

      leaf_on : (more : List MateEntry) → HasListedLeaf set (position_of (v next)) rank entries more → MatesWalked top more (map v rest)
      leaf_on more has =
          let own = leaf.listed in
          let found = has.all own.entry (own_wanted (v next) set rank leaf) in
          let low = found.low in
          let same = own.has_rank in
          mates_more top entries (map v rest) (v next) at_mate rank concludes high has.lower more has.grown.stay
          (positions_more entries more (IsWanted set (position_of (v next)) rank) (Tells (v next)) has.grown.of told_wanted)
          (record { entry = found.entry; listed = found.listed; same = found.same ∙ own.same; low = omega (arith, low, same, high) })
          (map v rest) (λ n c. inl c)

      pub mates_leaf_on : (more : List MateEntry) → HasMetLeaf set (position_of (v next)) rank entries more → MatesWalked top more (map v rest)
      mates_leaf_on more met = elim met [
        | inl has ↦ leaf_on more has
        | inr below ↦ subst (λ (es : List MateEntry). MatesWalked top es (map v rest)) (sym below.1) mates_past
      ]

      pub mate_leaf_too_many : (version : Version) (p : Board) (most : ℕ) → conclusion_of top ≡ Mate → LegalBoardMoves
          → IsFullInLeaf most set (position_of (v next)) rank entries → IsMateWalk version p top entries (map v pending) → HasMoreThan most p top
      mate_leaf_too_many version p most mate goes full walk =
          let walked = at_next v version p top entries pending rest next is walk in
          let of : (q : Board) → Contains (positions_of full.new ++ full.entry.at ∷ []) q
          → Contains (positions_of entries) q ⊎ ((entry : MateEntry) × IsWanted set (position_of (v next)) rank entry × (entry.at ≡ q)) =
          λ q c. elim (Contains-push_cases (positions_of full.new) full.entry.at q c) [
            | inl before ↦
                positions_more entries full.new (IsWanted set (position_of (v next)) rank)
                (λ b. (entry : MateEntry) × IsWanted set (position_of (v next)) rank entry × (entry.at ≡ b)) full.grown.of (λ e wanted. (e, wanted, refl)) q before
            | inr same ↦ inr (full.entry, full.wanted, same)
          ] in
          mates_met top entries (map v rest) (v next) at_mate most p rank concludes high full.lower (positions_of full.new) full.entry.at
          (positions_stay entries full.new full.grown.stay)
          (λ q c. elim (of q c) [ inl before ↦ inl before | inr new ↦ inr (subst (Tells (v next)) new.2 (told_wanted new.0 new.1)) ])
          (λ no_leaf. absurd (subst IsNoLeaf leaf.leaf no_leaf)) full.full
          (λ q c. elim (of q c) [
            | inl before ↦ met_listed version p top entries (map v pending) walk mate q before
            | inr new ↦
                subst (IsMet top p.side) new.2
                (met_mate p.side top new.0 mate (wanted_listed version p top entries (map v rest) (v next) walked set rank leaf goes new.0 new.1))
          ])

module _ {A : Type 0} (v : A → Derivation) (top : Derivation) (entries : List MateEntry) (pending rest : List A) (next : A) (is : pending ≡ rest ++ next ∷ [])
    (mates : MatesWalked top entries (map v pending)) (version : Version) (p : Board) (most : ℕ) (mate : conclusion_of top ≡ Mate) (goes : LegalBoardMoves)
    (walk : IsMateWalk version p top entries (map v pending)) where
  pub mate_end : (entry : MateEntry) → IsEntryOf (v next) entry → (end : ExtractEnd) → IsEndAt most (positions_of entries) entry.at end
      → IsEndFor most p top end
  mate_end entry its TooMany full = mate_too_many v top entries pending rest next is mates entry its version p most mate goes full walk
  mate_end entry its NoMemory full = tt

  pub mate_leaf_end : (set : List MateEntry) (rank : ℕ) → IsLeafWith (v next) set rank → IsValid (v next) → (end : ExtractEnd)
      → IsEndInLeaf most set (position_of (v next)) rank entries end → IsEndFor most p top end
  mate_leaf_end set rank leaf valid TooMany full = mate_leaf_too_many v top entries pending rest next is mates set rank leaf valid version p most mate goes full walk
  mate_leaf_end set rank leaf valid NoMemory full = tt
