-- What lists of positions bear out, in both versions.
use Rattle.std.proofs.Common.{◌≡◌, ◌≤◌, inl, ℕ, zero, suc, List, Contains, arith, ap, sym, refl, ◌∙◌, subst}
use Rattle.bit_boards.specs.declared.piece.Side.{Side}
use Rattle.bit_boards.specs.Kind.{other, place_of}
use Rattle.board_core.specs.declared.moves.Move.{Move}
use Rattle.board_core.specs.Board.{Board, hand_count, hand_of}
use Rattle.board_core.specs.Kept.{IsKept}
use Rattle.shogi_rules.specs.Rules.{after}
use Rattle.shogi_rules.specs.Tsume.{IsCheck, IsEvasion}
use Rattle.shogi_rules.proofs.Offered.{kept_after}
use Rattle.mate_def.specs.Mate.{after_both, RankAtMost, HasEvasionTo, Escapes}
use Rattle.mate_facts.specs.declared.entry.MateEntry.{MateEntry}
use Rattle.hand_dominance.specs.declared.version.Version.{Version}
use Rattle.hand_dominance.specs.declared.version.Version.TheVariants.{One, Two}
use Rattle.hand_dominance.specs.Dominance.{Dominates}
use Rattle.hand_dominance.specs.BorneOut.{Covers, AreBorneOut, AreKept, AreClosed, IsBorneOut, IsCovered, IsHeld}
use Rattle.hand_dominance.proofs.Hands.{less_count, more_count}
use Rattle.hand_dominance.proofs.Moves.{handed, same_board, after_handed}
use Rattle.hand_dominance.proofs.Carried.{IsShifted, less_in, more_in, shifted_under, rank_up, carries_up, check_up, evasion_down, shifted_check, shifted_evasion}

-- 1. DOMINANCE.

pub itself : (attacker : Side) (b : Board) → Dominates attacker b b
itself attacker b = record { cells = refl; turn = refl; more = λ k. omega arith; less = λ k. omega arith }

pub above_too : (attacker : Side) (a b c : Board) → Dominates attacker a b → Dominates attacker b c → Dominates attacker a c
above_too attacker a b c one two = record {
  cells = one.cells ∙ two.cells;
  turn = one.turn ∙ two.turn;
  more = λ k. let low = two.more k in let high = one.more k in omega (arith, low, high);
  less = λ k. let low = one.less k in let high = two.less k in omega (arith, low, high);
}

-- what covers a position dominates it, in both versions
pub dominates : (version : Version) (attacker : Side) (over under : Board) → Covers version attacker over under → Dominates attacker over under
dominates One attacker over under c = subst (λ (b : Board). Dominates attacker b under) (sym c) (itself attacker under)
dominates Two attacker over under c = c

-- what is the position itself covers it
pub covers_stay : (version : Version) (attacker : Side) (over under : Board) → Covers One attacker over under → Covers version attacker over under
covers_stay One attacker over under c = c
covers_stay Two attacker over under c = dominates One attacker over under c

-- the position dominates the one with so many less, and more
pub above_shifted : (attacker : Side) (less more : List ℕ) (b : Board) (black white : List ℕ) → IsShifted attacker less more b black white
    → Dominates attacker b (handed b black white)
above_shifted attacker less more b black white s = record {
  cells = refl;
  turn = refl;
  more = λ k.
      let low = less_count (hand_of b attacker) less (place_of k) in
      let e = ap (λ (hand : List ℕ). hand_count hand k) s.own in omega (arith, low, e);
  less = λ k.
      let high = more_count (hand_of b (other attacker)) more (place_of k) in
      let e = ap (λ (hand : List ℕ). hand_count hand k) s.its in omega (arith, high, e);
}

both_kept : (attacker : Side) (b : Board) (check evasion : Move) → IsKept b → IsCheck attacker b check → IsEvasion attacker (after b check) evasion
    → IsKept (after_both b check evasion)
both_kept attacker b check evasion k is answers =
    kept_after (after b check) evasion (kept_after b check k is.legal) answers.legal

-- 2. MATES.

rank_within : (version : Version) (attacker : Side) (entries : List MateEntry) → AreBorneOut version entries attacker → (n : ℕ) (entry : MateEntry)
    → Contains entries entry → entry.rank.number ≤ n → RankAtMost attacker n entry.at
rank_within version attacker entries borne zero entry listed low = absurd (let some = entry.rank.some in omega (arith, low, some))
rank_within version attacker entries borne (suc n) entry listed low =
    let b = borne entry listed in (
      entry.by,
      b.1.check,
      λ evasion is.
          let next = b.1.evasions evasion is in
          let lower = next.lower in
          let at = after_both entry.at entry.by evasion in
          carries_up (λ side it. RankAtMost side n it) (λ side less more it black white s h. rank_up side less more n it black white s h) attacker
          at next.entry.at (both_kept attacker entry.at entry.by evasion b.0 b.1.check is)
          (borne next.entry next.listed).0 (dominates version attacker at next.entry.at next.covers)
          (rank_within version attacker entries borne n next.entry next.listed (omega (arith, low, lower))),
    )

pub rank_above : (version : Version) (attacker : Side) (entries : List MateEntry) (entry : MateEntry) (position : Board)
    → AreBorneOut version entries attacker → Contains entries entry → IsKept position → Covers version attacker position entry.at
    → RankAtMost attacker entry.rank.number position
rank_above version attacker entries entry position borne listed kept above =
    carries_up (λ side it. RankAtMost side entry.rank.number it)
    (λ side less more it black white s h. rank_up side less more entry.rank.number it black white s h) attacker position entry.at kept
    (borne entry listed).0 (dominates version attacker position entry.at above)
    (rank_within version attacker entries borne entry.rank.number entry listed (omega arith))

pub borne_out_stays : (version : Version) (attacker : Side) (entries : List MateEntry) (entry : MateEntry) → IsBorneOut One entries attacker entry
    → IsBorneOut version entries attacker entry
borne_out_stays version attacker entries entry borne = record {
  check = borne.check;
  evasions = λ evasion is.
      let next = borne.evasions evasion is in
      record {
        entry = next.entry;
        listed = next.listed;
        covers = covers_stay version attacker (after_both entry.at entry.by evasion) next.entry.at next.covers;
        lower = next.lower;
      };
}

-- 3. ESCAPES.

pub held_stays : (version : Version) (attacker : Side) (s : List Board) (b : Board) → IsHeld One s attacker b → IsHeld version s attacker b
held_stays version attacker s b held check is =
    let e = held check is in
    record {
      evasion = e.evasion;
      is_evasion = e.is_evasion;
      leads = record {
        listed = e.leads.listed;
        inside = e.leads.inside;
        covers = covers_stay version attacker e.leads.listed (after_both b check e.evasion) e.leads.covers;
      };
    }

pub escapes : (attacker : Side) (s : List Board) (position : Board) → AreClosed One s attacker → Contains s position → Escapes attacker position
escapes attacker s position closed inside = (
  s,
  inside,
  record {
    turn = closed.turn;
    answered = λ b check within is.
        let e = closed.held b within check is in
        record {
          evasion = e.evasion;
          is_evasion = e.is_evasion;
          leads = inl (subst (λ (q : Board). Contains s q) e.leads.covers e.leads.inside);
        };
  },
)

-- the evasion that answers a check at the position above answers it below, and leads below what it
-- led to
pub answered_below : (version : Version) (attacker : Side) (s : List Board) → AreKept s → AreClosed version s attacker → (position : Board)
    → IsKept position → IsCovered Two s attacker position → (check : Move) → IsCheck attacker position check
    → HasEvasionTo attacker (λ q. IsKept q × IsCovered Two s attacker q) position check
answered_below version attacker s all closed position kept low check checks =
    let b = low.listed in
    let less = less_in attacker b position in
    let more = more_in attacker b position in
    let begun = shifted_under attacker b position (all b low.inside) kept low.covers in
    let as_handed = same_board b position low.covers.cells low.covers.turn in
    let is = subst (λ (it : Board). IsCheck attacker it check) as_handed checks in
    let mid = after b check in
    let at = handed b position.black position.white in
    let down = after at check in
    let e = closed.held b low.inside check (check_up attacker less more b position.black position.white check begun is) in
    let same = after_handed b position.black position.white check in
    let between = shifted_check attacker less more b position.black position.white check begun is in
    let last = shifted_evasion attacker less more mid down.black down.white e.evasion between e.is_evasion in
    let ends = after (handed mid down.black down.white) e.evasion in
    let whole : after_both position check e.evasion ≡ handed (after mid e.evasion) ends.black ends.white =
    ap (λ (it : Board). after_both it check e.evasion) as_handed
    ∙ (ap (λ (it : Board). after it e.evasion) same ∙ after_handed mid down.black down.white e.evasion) in
    let answers : IsEvasion attacker (after position check) e.evasion =
    subst (λ (it : Board). IsEvasion attacker (after it check) e.evasion) (sym as_handed)
    (subst (λ (it : Board). IsEvasion attacker it e.evasion) (sym same)
    (evasion_down attacker less more mid down.black down.white e.evasion between e.is_evasion)) in
    let under : Dominates attacker (after mid e.evasion) (after_both position check e.evasion) =
    subst (Dominates attacker (after mid e.evasion)) (sym whole)
    (above_shifted attacker less more (after mid e.evasion) ends.black ends.white last) in
    let covered : IsCovered Two s attacker (after_both position check e.evasion) = record {
      listed = e.leads.listed;
      inside = e.leads.inside;
      covers = above_too attacker e.leads.listed (after mid e.evasion) (after_both position check e.evasion)
          (dominates version attacker e.leads.listed (after mid e.evasion) e.leads.covers) under;
    } in
    record { evasion = e.evasion; is_evasion = answers; leads = (both_kept attacker position check e.evasion kept checks answers, covered) }

pub none_below : (version : Version) (attacker : Side) (s : List Board) → AreKept s → AreClosed version s attacker → (n : ℕ) (position : Board)
    → IsKept position → IsCovered Two s attacker position → RankAtMost attacker n position → ⊥
none_below version attacker s all closed zero position kept low h = h
none_below version attacker s all closed (suc n) position kept low h =
    let e = answered_below version attacker s all closed position kept low h.0 h.1 in
    none_below version attacker s all closed n (after_both position h.0 e.evasion) e.leads.0 e.leads.1 (h.2 e.evasion e.is_evasion)
