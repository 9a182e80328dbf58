-- A line of play, rank by rank.
use Rattle.std.proofs.Common.{◌≡◌, ◌<◌, ◌≤◌, ◌+◌, ◌-◌, ◌*◌, ◌++◌, ◌∙◌, inl, inr, ℕ, List, [], ◌∷◌, length, Contains, arith, sym, subst, ap, append_assoc}
use Rattle.std.specs.Prelude.{Some, slice_get}
use Rattle.std.proofs.lemmas.Bool.{cases_eq}
use Rattle.std.proofs.lemmas.List.{length-append}
use Rattle.bit_boards.specs.declared.piece.Side.{Side}
use Rattle.board_core.specs.declared.moves.Move.{Move}
use Rattle.board_core.specs.Board.{Board}
use Rattle.board_core.specs.Order.{order_of, Lists, PlacesInOrder}
use Rattle.board_core.specs.Text.{HasText}
use Rattle.usi_text.specs.Lines.{AllHaveText}
use Rattle.shogi_rules.specs.Rules.{IsQuiet, after}
use Rattle.shogi_rules.specs.Tsume.{IsCheck, IsEvasion}
use Rattle.mate_def.specs.Mate.{after_both, HasEvasionTo, CanEvadeTo, RankAtMost, RankGrows}
use Rattle.mate_facts.specs.declared.entry.MateEntry.{MateEntry}
use Rattle.mate_facts.specs.Entries.{AreApart, IsListedWith, positions_of}
use Rattle.hand_dominance.specs.declared.version.Version.{Version}
use Rattle.hand_dominance.specs.declared.version.Version.TheVariants.{One}
use Rattle.hand_dominance.specs.BorneOut.{CoversLower, IsBorneOut}
use Rattle.mate_facts.specs.Laws.{EntriesApart}
use Rattle.cert_text.specs.Certificate.{Mating, IsMating}
use Rattle.cert_check.specs.Valid.{ValidMate, ShowsMate}
use Rattle.bound_text.specs.declared.entry.BoundEntry.{BoundEntry}
use Rattle.bound_check.specs.Valid.{IsListedFrom, Keeps, IsValidBound, ShowsBound}
use Rattle.list_laws.proofs.Standing.{at_place, contains_map}
use Rattle.shortest_lists.specs.Line.{IsListedMove, Lasts, IsFirstLasting, IsLineFrom}

-- 1. An evasion lasts.

-- the mate's move at a position of a rank: a check, and each evasion to it leads below the rank
pub record IsBorneAt (c : Mating) (attacker : Side) (rank : ℕ) (b : Board) (check : Move) : Type 0 where
  pub is_check : IsCheck attacker b check
  pub below : (evasion : Move) → IsEvasion attacker (after b check) evasion → CoversLower One c.entries attacker rank (after_both b check evasion)

pub borne_at : EntriesApart → (c : Mating) (p b : Board) (rank : ℕ) (check : Move) → ValidMate c p → c.version ≡ One → AreApart (positions_of c.entries)
    → IsListedWith c.entries rank b → IsListedMove c b check → IsBorneAt c p.side rank b check
borne_at law c p b rank check valid one_version apart ranked moved =
    let borne = subst (λ (v : Version). IsBorneOut v c.entries p.side moved.entry) one_version (valid.entries moved.entry moved.listed) in
    let one = law c.entries apart moved.entry ranked.entry moved.listed ranked.listed (moved.same ∙ sym ranked.same) in
    let its : moved.entry.rank.number ≡ rank = ap (λ (e : MateEntry). e.rank.number) one ∙ ranked.has_rank in
    subst (IsBorneAt c p.side rank b) moved.has_move
    (subst (λ (a : Board). IsBorneAt c p.side rank a moved.entry.by) moved.same
    (subst (λ (r : ℕ). IsBorneAt c p.side r moved.entry.at moved.entry.by) its
    (record { is_check = borne.check; below = borne.evasions })))

held_at : (bounds : List BoundEntry) (p b : Board) (within least : ℕ) (check : Move) → IsValidBound bounds p within → (from : IsListedFrom bounds least b)
    → IsCheck p.side b check → HasEvasionTo p.side (Keeps bounds from.entry.bound.number) b check
held_at bounds p b within least check valid from is_check =
    subst (λ (a : Board). HasEvasionTo p.side (Keeps bounds from.entry.bound.number) a check) from.same
    (valid.held from.entry from.listed check (subst (λ (a : Board). IsCheck p.side a check) (sym from.same) is_check))

pub some_lasts : EntriesApart → RankGrows → (c : Mating) (bounds : List BoundEntry) (p b : Board) (within rank : ℕ) (check : Move) → ValidMate c p → c.version ≡ One
    → AreApart (positions_of c.entries) → ShowsMate c p → IsValidBound bounds p within → ShowsBound bounds p within → 1 < rank
    → Lasts c bounds rank b → IsListedMove c b check → CanEvadeTo p.side (Lasts c bounds (rank - 1)) (after b check)
some_lasts law grows c bounds p b within rank check valid one_version apart shows bounded shows_bound some lasts moved =
    let borne = borne_at law c p b rank check valid one_version apart lasts.ranked moved in
    let from = lasts.kept some in
    let enough = from.enough in
    let has = held_at bounds p b within (rank - 1) check bounded from borne.is_check in
    let next : Board = after_both b check has.evasion in
    let below = borne.below has.evasion has.is_evasion in
    let lower = below.lower in
    let least = below.entry.rank.some in
    let exact : below.entry.rank.number ≡ rank - 1 = elim (cases_eq below.entry.rank.number (rank - 1)) [
      | inl same ↦ same
      | inr differs ↦ absurd (
          let deep : 1 < from.entry.bound.number = omega (arith, enough, lower, least, differs, some) in
          let listed = has.leads deep in
          let within_it = listed.enough in
          let mate = grows p.side below.entry.rank.number listed.entry.bound.number below.entry.at
          (omega (arith, enough, lower, differs, within_it, some)) (shows.ranks below.entry below.listed) in
          shows_bound.none_listed listed.entry listed.listed
          (subst (RankAtMost p.side listed.entry.bound.number) (sym below.covers ∙ sym listed.same) mate))
    ] in
    record {
      evasion = has.evasion;
      is_evasion = has.is_evasion;
      leads = record {
        ranked = record { entry = below.entry; listed = below.listed; same = sym below.covers; has_rank = exact };
        kept = λ above.
            let listed = has.leads (omega (arith, enough, above)) in
            let number = listed.enough in
            record { entry = listed.entry; listed = listed.listed; same = listed.same; enough = omega (arith, enough, number) };
      };
    }

-- the rank is exact
pub exact : RankGrows → (c : Mating) (bounds : List BoundEntry) (p b : Board) (within rank : ℕ) → ShowsMate c p → ShowsBound bounds p within
    → Lasts c bounds rank b → RankAtMost p.side rank b × (¬ RankAtMost p.side (rank - 1) b)
exact grows c bounds p b within rank shows shows_bound lasts = (
  subst (λ (r : ℕ). RankAtMost p.side r b) ranked.has_rank
      (subst (RankAtMost p.side ranked.entry.rank.number) ranked.same (shows.ranks ranked.entry ranked.listed)),
  (λ shorter. elim (cases_eq rank 1) [
    | inl one ↦ subst (λ (r : ℕ). RankAtMost p.side (r - 1) b) one shorter
    | inr above ↦
        let from = lasts.kept (let some = ranked.entry.rank.some in let its = ranked.has_rank in omega (arith, some, its, above)) in
        shows_bound.none_listed from.entry from.listed
        (subst (RankAtMost p.side from.entry.bound.number) (sym from.same) (grows p.side (rank - 1) from.entry.bound.number b from.enough shorter))
  ]),
)
  where
    ranked : IsListedWith c.entries rank b
    ranked = lasts.ranked

-- 2. The first that does.

pub first_in : PlacesInOrder → (P Q : Move → Type 0) (items moves : List Move) (n : ℕ) (m : Move) → Lists Q moves → items ≡ moves
    → slice_get items n ≡ Some m → ((i : ℕ) (x : Move) → i < n → slice_get items i ≡ Some x → ¬ P x)
    → (other : Move) → Q other → P other → order_of m ≤ order_of other
first_in places P Q items moves n m lists as_listed here none other is has =
    let there = lists.complete other is in
    let at = at_place moves other there in
    let of_items = subst (λ (ms : List Move). slice_get ms there.0 ≡ Some other) (sym as_listed) at in
    let turn : order_of other < order_of m → there.0 < n =
    places 0 moves lists.rises there.0 n other m at (subst (λ (ms : List Move). slice_get ms n ≡ Some m) as_listed here) in
    let no : order_of other < order_of m → ⊥ = λ less. none there.0 other (turn less) of_items has in
    grind arith

-- 3. The moves so far.

text_more : (ms : List Move) (m : Move) → AllHaveText ms → HasText m → AllHaveText (ms ++ m ∷ [])
text_more [] m h t = (t, tt)
text_more (x ∷ xs) m h t = (h.0, text_more xs m h.1 t)

pub texts_more : (ms longer : List Move) (m : Move) → longer ≡ ms ++ m ∷ [] → AllHaveText ms → HasText m → AllHaveText longer
texts_more ms longer m e h t = subst AllHaveText (sym e) (text_more ms m h t)

long_more : (ms longer : List Move) (m : Move) → longer ≡ ms ++ m ∷ [] → length longer ≡ length ms + 1
long_more ms longer m e = let long = length-append ms (m ∷ []) in let same = ap (λ (l : List Move). length l) e in omega (arith, long, same)

-- with any line from the position behind them, the moves are a line
abbrev pub LeadsOn : Mating → List BoundEntry → Board → ℕ → List Move → ℕ → Board → Type 0
LeadsOn c bounds p rank ms left b = (rest : List Move) → IsLineFrom c bounds p.side left b rest → IsLineFrom c bounds p.side rank p (ms ++ rest)

pub record IsOnLine (c : Mating) (bounds : List BoundEntry) (p : Board) (rank : ℕ) (ms : List Move) (left : ℕ) (b : Board) : Type 0 where
  pub leads : LeadsOn c bounds p rank ms left b
  pub lasts : Lasts c bounds left b
  pub texts : AllHaveText ms
  pub long : length ms + 2 * left ≡ 2 * rank

pub begins : (c : Mating) (bounds : List BoundEntry) (p : Board) (rank : ℕ) (ms : List Move) → ms ≡ [] → IsListedWith c.entries rank p
    → IsValidBound bounds p (rank - 1) → IsOnLine c bounds p rank ms rank p
begins c bounds p rank ms none ranked bounded = record {
  leads = λ rest h. subst (λ (xs : List Move). IsLineFrom c bounds p.side rank p (xs ++ rest)) (sym none) h;
  lasts = record { ranked = ranked; kept = λ some. bounded.root (omega (arith, some)) };
  texts = subst AllHaveText (sym none) tt;
  long = (let empty = ap (λ (l : List Move). length l) none in omega (arith, empty));
}

pub some_left : (c : Mating) (bounds : List BoundEntry) (left : ℕ) (b : Board) → Lasts c bounds left b → 1 ≤ left
some_left c bounds left b lasts = let least = lasts.ranked.entry.rank.some in let same = lasts.ranked.has_rank in omega (arith, least, same)

pub listed_at : (c : Mating) (b : Board) (rank : ℕ) → IsListedWith c.entries rank b → Contains (positions_of c.entries) b
listed_at c b rank at = subst (Contains (positions_of c.entries)) at.same (contains_map (λ (e : MateEntry). e.at) c.entries at.entry at.listed)

-- a check and an evasion more
pub goes_on : (c : Mating) (bounds : List BoundEntry) (p : Board) (rank : ℕ) (ms longer longest : List Move) (left : ℕ) (b checked next : Board)
    (check evasion : Move) → IsOnLine c bounds p rank ms left b → IsListedMove c b check → 1 < left → checked ≡ after b check
    → next ≡ after checked evasion → IsFirstLasting c bounds p.side (left - 1) checked evasion → longer ≡ ms ++ check ∷ []
    → longest ≡ longer ++ evasion ∷ [] → HasText check → HasText evasion → IsOnLine c bounds p rank longest (left - 1) next
goes_on c bounds p rank ms longer longest left b checked next check evasion on moved some e f first longer_by longest_by check_text evasion_text = record {
  leads = λ rest h.
      let whole : longest ++ rest ≡ ms ++ (check ∷ evasion ∷ rest) =
      ap (λ (xs : List Move). xs ++ rest) (longest_by ∙ ap (λ (xs : List Move). xs ++ evasion ∷ []) longer_by) ∙ joined rest in
      let there : next ≡ after_both b check evasion = f ∙ ap (λ (a : Board). after a evasion) e in
      subst (IsLineFrom c bounds p.side rank p) (sym whole)
      (on.leads (check ∷ evasion ∷ rest) (
        some,
        moved,
        subst (λ (a : Board). IsFirstLasting c bounds p.side (left - 1) a evasion) e first,
        subst (λ (a : Board). IsLineFrom c bounds p.side (left - 1) a rest) there h,
      ));
  lasts = subst (Lasts c bounds (left - 1)) (sym f) first.lasts;
  texts = texts_more longer longest evasion longest_by (texts_more ms longer check longer_by on.texts check_text) evasion_text;
  long =
      let before = on.long in
      let one = long_more ms longer check longer_by in
      let two = long_more longer longest evasion longest_by in
      omega (arith, before, one, two, some);
}
  where
    joined : (rest : List Move) → ((ms ++ check ∷ []) ++ evasion ∷ []) ++ rest ≡ ms ++ (check ∷ evasion ∷ rest)
    joined rest = simp append_assoc

pub quiet_at : (c : Mating) → IsMating c → (b : Board) (rank : ℕ) → IsListedWith c.entries rank b → IsQuiet b
quiet_at c kept b rank at = subst IsQuiet at.same (kept.listed at.entry at.listed).is_entry.is_problem.quiet
