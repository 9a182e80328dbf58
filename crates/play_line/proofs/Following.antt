-- The line is followed from position to position, down the ranks.
use Rattle.std.proofs.Common.{◌≡◌, ◌<◌, ◌≤◌, ◌++◌, ℕ, List, [], ◌∷◌, get_or, arith, ap, sym, ◌∙◌, subst, append_assoc}
use Rattle.std.specs.Prelude.{Some, None, Option, slice_get}
use Rattle.bit_boards.specs.declared.piece.Side.{Side}
use Rattle.board_core.specs.declared.moves.Move.{Move}
use Rattle.board_core.specs.Board.{Board}
use Rattle.board_core.specs.Kept.{IsKept}
use Rattle.board_core.specs.Text.{HasText}
use Rattle.list_laws.proofs.Standing.{contained, at_place}
use Rattle.shogi_rules.specs.Rules.{IsQuiet, after}
use Rattle.shogi_rules.specs.Tsume.{IsCheck, IsEvasion}
use Rattle.mate_def.specs.Mate.{after_both}
use Rattle.mate_facts.specs.declared.entry.MateEntry.{MateEntry}
use Rattle.mate_facts.specs.Entries.{positions_of}
use Rattle.hand_dominance.specs.BorneOut.{BorneOutAbove, CoversListed, CoversLower, IsBorneOutAt}
use Rattle.usi_text.specs.Lines.{AllHaveText}
use Rattle.cert_text.specs.Certificate.{Mating}
use Rattle.cert_check.specs.Valid.{ValidMate}
use Rattle.dominance_places.specs.declared.covering.CoverPlaces.{CoverPlaces}
use Rattle.dominance_places.specs.Covering.{AreCoverPlacesOf, version_of}
use Rattle.dominance_places.specs.Found.{IsLeastCovered}
use Rattle.play_line.specs.Line.{IsMoveAt, IsLongest, IsMainLine, DoMate}
use Rattle.play_line.proofs.Listed.{rank_least, entry_is}

-- 1. Texts.

text_more : (ms : List Move) (m : Move) → AllHaveText ms → HasText m → AllHaveText (ms ++ m ∷ [])
text_more [] m h t = (t, tt)
text_more (x ∷ xs) m h t = (h.0, text_more xs m h.1 t)

pub texts_more : (ms longer : List Move) (m : Move) → longer ≡ ms ++ m ∷ [] → AllHaveText ms → HasText m → AllHaveText longer
texts_more ms longer m e h t = subst AllHaveText (sym e) (text_more ms m h t)

-- 2. Entries.

pub move_at : (c : Mating) (attacker : Side) (position : Board) (entries : List MateEntry) (place : ℕ) (entry : MateEntry) → entries ≡ c.entries
    → IsLeastCovered c.version c.entries attacker position place → entry ≡ get_or entries place entry → IsMoveAt c attacker position entry.by
move_at c attacker position entries place entry same found is = record {
  place = place;
  found = found;
  has_move = ap (λ (e : MateEntry). e.by) (entry_is c attacker position entries place entry same found is);
}

-- the position's entry serves at the position
pub serves : BorneOutAbove → (c : Mating) (p position : Board) (entries : List MateEntry) (place : ℕ) (entry : MateEntry) → ValidMate c p
    → entries ≡ c.entries → IsLeastCovered c.version c.entries p.side position place → entry ≡ get_or entries place entry → IsKept position → IsKept entry.at
    → IsBorneOutAt c.version c.entries p.side entry position
serves law c p position entries place entry valid same found is high low =
    let one = entry_is c p.side position entries place entry same found is in
    let its = found.stands.entry in
    subst (λ (e : MateEntry). IsBorneOutAt c.version c.entries p.side e position) one
    (law c.version p.side c.entries its position (valid.entries its (contained c.entries place its found.stands.there)) high
    (subst (λ (e : MateEntry). IsKept e.at) (sym one) low) found.stands.covers)

-- 3. The moves so far.

-- with any main line from the position behind them, the moves are a main line, and with any that
-- mate from there they mate
pub record LeadsOn (c : Mating) (p : Board) (ms : List Move) (b : Board) : Type 0 where
  pub line : (rest : List Move) → IsMainLine c p.side b rest → IsMainLine c p.side p (ms ++ rest)
  pub mates : (rest : List Move) → DoMate p.side b rest → DoMate p.side p (ms ++ rest)

-- what is known before each check: the moves so far lead to the position, the entry of which stands
-- at the place
pub record IsOnLine (c : Mating) (p position : Board) (place : ℕ) (ms : List Move) : Type 0 where
  pub quiet : IsQuiet position
  pub found : IsLeastCovered c.version c.entries p.side position place
  pub leads : LeadsOn c p ms position
  pub texts : AllHaveText ms

-- the places are those of the certificate's positions, found as its version asks
pub record AreTheirs (c : Mating) (places : CoverPlaces) : Type 0 where
  pub version : version_of places ≡ c.version
  pub stand : AreCoverPlacesOf places (positions_of c.entries)

step_on : (c : Mating) (p b : Board) (ms : List Move) (check evasion : Move) → LeadsOn c p ms b → IsMoveAt c p.side b check
    → IsCheck p.side b check → IsLongest c p.side (after b check) evasion → LeadsOn c p ((ms ++ check ∷ []) ++ evasion ∷ []) (after_both b check evasion)
step_on c p b ms check evasion leads move is_check longest =
    let joined = λ (rest : List Move). joined_on ms check evasion rest in
    record {
      line = λ rest h. subst (λ (xs : List Move). IsMainLine c p.side p xs) (sym (joined rest)) (leads.line (check ∷ evasion ∷ rest) (move, longest, h));
      mates = λ rest h. subst (λ (xs : List Move). DoMate p.side p xs) (sym (joined rest))
          (leads.mates (check ∷ evasion ∷ rest) (is_check, longest.is_evasion, h));
    }
  where
    joined_on : (ms : List Move) (check evasion : Move) (rest : List Move) → ((ms ++ check ∷ []) ++ evasion ∷ []) ++ rest ≡ ms ++ (check ∷ evasion ∷ rest)
    joined_on ms check evasion rest = simp append_assoc

-- the check has no evasion: the line is whole
module _ (c : Mating) (p position checked : Board) (place : ℕ) (ms longer : List Move) (check : Move) (e : checked ≡ after position check)
    (none : (evasion : Move) → IsEvasion p.side checked evasion → ⊥) (longer_by : longer ≡ ms ++ check ∷ []) (on : IsOnLine c p position place ms) where
  no_evasion : (evasion : Move) → ¬ IsEvasion p.side (after position check) evasion
  no_evasion evasion h = none evasion (subst (λ (b : Board). IsEvasion p.side b evasion) (sym e) h)

  pub ends : IsMoveAt c p.side position check → IsMainLine c p.side p longer
  ends move =
      subst (λ (xs : List Move). IsMainLine c p.side p xs) (sym longer_by) (on.leads.line (check ∷ []) (move, no_evasion))

  pub mates_there : IsCheck p.side position check → DoMate p.side p longer
  mates_there is_check =
      subst (λ (xs : List Move). DoMate p.side p xs) (sym longer_by) (on.leads.mates (check ∷ []) (is_check, no_evasion))

-- the line goes on behind the evasion
pub goes_on : (c : Mating) (p position checked next : Board) (place to : ℕ) (ms longer longest : List Move) (check evasion : Move)
    → checked ≡ after position check → next ≡ after checked evasion → IsQuiet next → IsMoveAt c p.side position check → IsCheck p.side position check
    → IsLongest c p.side checked evasion → IsLeastCovered c.version c.entries p.side next to
    → longer ≡ ms ++ check ∷ [] → longest ≡ longer ++ evasion ∷ [] → HasText check → HasText evasion
    → IsOnLine c p position place ms → IsOnLine c p next to longest
goes_on c p position checked next place to ms longer longest check evasion e f quiet move is_check best found longer_by longest_by check_text evasion_text on =
    let whole : longest ≡ (ms ++ check ∷ []) ++ evasion ∷ [] = longest_by ∙ ap (λ (xs : List Move). xs ++ evasion ∷ []) longer_by in
    let there : next ≡ after_both position check evasion = f ∙ ap (λ (b : Board). after b evasion) e in
    record {
      quiet = quiet;
      found = found;
      leads = subst (LeadsOn c p longest) (sym there)
          (subst (λ (xs : List Move). LeadsOn c p xs (after_both position check evasion)) (sym whole)
          (step_on c p position ms check evasion on.leads move is_check (subst (λ (b : Board). IsLongest c p.side b evasion) e best)));
      texts = texts_more longer longest evasion longest_by (texts_more ms longer check longer_by on.texts check_text) evasion_text;
    }

-- 4. What the calls ask.

-- an evasion leads to a position that covers a listed one of lower rank
covers_lower : (c : Mating) (p position checked : Board) (entry : MateEntry) → IsBorneOutAt c.version c.entries p.side entry position
    → checked ≡ after position entry.by → (evasion : Move) → IsEvasion p.side checked evasion
    → CoversLower c.version c.entries p.side entry.rank.number (after checked evasion)
covers_lower c p position checked entry out e evasion is_evasion =
    subst (λ (b : Board). CoversLower c.version c.entries p.side entry.rank.number (after b evasion)) (sym e)
    (out.evasions evasion (subst (λ (b : Board). IsEvasion p.side b evasion) e is_evasion))

pub covers_listed : (c : Mating) (p position checked : Board) (entry : MateEntry) → IsBorneOutAt c.version c.entries p.side entry position
    → checked ≡ after position entry.by → (evasion : Move) → IsEvasion p.side checked evasion
    → CoversListed c.version c.entries p.side (after checked evasion)
covers_listed c p position checked entry out e evasion is_evasion =
    let below = covers_lower c p position checked entry out e evasion is_evasion in
    record { entry = below.entry; listed = below.listed; covers = below.covers }

-- 5. Ranks fall.

abbrev pub rank_of : Option MateEntry → ℕ
rank_of None = 0
rank_of (Some entry) = entry.rank.number

-- the rank of the entry at a place
abbrev pub rank_at : List MateEntry → ℕ → ℕ
rank_at entries place = rank_of (slice_get entries place)

rank_read : (c : Mating) (attacker : Side) (position : Board) (entries : List MateEntry) (place : ℕ) → entries ≡ c.entries
    → (found : IsLeastCovered c.version c.entries attacker position place) → rank_at entries place ≡ found.stands.entry.rank.number
rank_read c attacker position entries place same found =
    ap (λ (es : List MateEntry). rank_at es place) same ∙ ap rank_of found.stands.there

pub rank_falls : (c : Mating) (p position checked next : Board) (entries : List MateEntry) (place to : ℕ) (entry : MateEntry) (evasion : Move)
    → entries ≡ c.entries → IsLeastCovered c.version c.entries p.side position place → entry ≡ get_or entries place entry
    → IsBorneOutAt c.version c.entries p.side entry position → checked ≡ after position entry.by → next ≡ after checked evasion
    → IsEvasion p.side checked evasion → IsLeastCovered c.version c.entries p.side next to → rank_at entries to < rank_at entries place
rank_falls c p position checked next entries place to entry evasion same found is out e f is_evasion new =
    let below = subst (CoversLower c.version c.entries p.side entry.rank.number) (sym f) (covers_lower c p position checked entry out e evasion is_evasion) in
    let least : new.stands.entry.rank.number ≤ below.entry.rank.number =
    rank_least c.version c.entries p.side next to below.listed.0 new
    (record { entry = below.entry; there = at_place c.entries below.entry below.listed; covers = below.covers }) in
    let after = rank_read c p.side next entries to same new in
    let before = rank_read c p.side position entries place same found in
    let one = ap (λ (x : MateEntry). x.rank.number) (entry_is c p.side position entries place entry same found is) in
    let lower = below.lower in
    omega (arith, least, after, before, one, lower)
