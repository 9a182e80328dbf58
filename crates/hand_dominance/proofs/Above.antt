-- An entry that is borne out serves at each position that covers its own.
use Rattle.std.proofs.Common.{◌≡◌, List, ap, sym, ◌∙◌, subst}
use Rattle.bit_boards.specs.declared.piece.Side.{Side}
use Rattle.board_core.specs.declared.moves.Move.{Move}
use Rattle.board_core.specs.Board.{Board}
use Rattle.board_core.specs.Kept.{IsKept}
use Rattle.shogi_rules.specs.Rules.{after}
use Rattle.shogi_rules.specs.Tsume.{IsCheck, IsEvasion}
use Rattle.mate_def.specs.Mate.{after_both}
use Rattle.mate_facts.specs.declared.entry.MateEntry.{MateEntry}
use Rattle.hand_dominance.specs.declared.version.Version.{Version}
use Rattle.hand_dominance.specs.declared.version.Version.TheVariants.{One, Two}
use Rattle.hand_dominance.specs.Dominance.{Dominates}
use Rattle.hand_dominance.specs.BorneOut.{Covers, IsBorneOut, IsBorneOutAt}
use Rattle.hand_dominance.proofs.Moves.{handed, same_board, after_handed}
use Rattle.hand_dominance.proofs.Carried.{less_in, more_in, shifted_under, check_up, evasion_down, shifted_check, shifted_evasion}
use Rattle.hand_dominance.proofs.Listed.{above_too, above_shifted}

-- 1. A CHECK AND AN EVASION.

-- an evasion to a check below is one above, and leads to what dominates what it leads to below
record IsMatched (attacker : Side) (over under : Board) (check evasion : Move) : Type 0 where
  pub is_evasion : IsEvasion attacker (after under check) evasion
  pub above : Dominates attacker (after_both over check evasion) (after_both under check evasion)

check_above : (attacker : Side) (over under : Board) (check : Move) → IsKept over → IsKept under → Dominates attacker over under
    → IsCheck attacker under check → IsCheck attacker over check
check_above attacker over under check high low d is =
    check_up attacker (less_in attacker over under) (more_in attacker over under) over under.black under.white check
    (shifted_under attacker over under high low d)
    (subst (λ (it : Board). IsCheck attacker it check) (same_board over under d.cells d.turn) is)

matched : (attacker : Side) (over under : Board) (check evasion : Move) → IsKept over → IsKept under → Dominates attacker over under
    → IsCheck attacker under check → IsEvasion attacker (after over check) evasion → IsMatched attacker over under check evasion
matched attacker over under check evasion high low d is answers =
    let less = less_in attacker over under in
    let more = more_in attacker over under in
    let begun = shifted_under attacker over under high low d in
    let as_handed = same_board over under d.cells d.turn in
    let mid = after over check in
    let at = handed over under.black under.white in
    let down = after at check in
    let same = after_handed over under.black under.white check in
    let between = shifted_check attacker less more over under.black under.white check begun
    (subst (λ (it : Board). IsCheck attacker it check) as_handed is) in
    let last = shifted_evasion attacker less more mid down.black down.white evasion between answers in
    let ends = after (handed mid down.black down.white) evasion in
    let whole : after_both under check evasion ≡ handed (after mid evasion) ends.black ends.white =
    ap (λ (it : Board). after_both it check evasion) as_handed
    ∙ (ap (λ (it : Board). after it evasion) same ∙ after_handed mid down.black down.white evasion) in
    record {
      is_evasion = subst (λ (it : Board). IsEvasion attacker (after it check) evasion) (sym as_handed)
          (subst (λ (it : Board). IsEvasion attacker it evasion) (sym same)
          (evasion_down attacker less more mid down.black down.white evasion between answers));
      above = subst (Dominates attacker (after mid evasion)) (sym whole)
          (above_shifted attacker less more (after mid evasion) ends.black ends.white last);
    }

-- an evasion above is one below, and leads to what dominates what it leads to below
pub serves_below : (attacker : Side) (over under : Board) (evasion : Move) → IsKept over → IsKept under → Dominates attacker over under
    → IsEvasion attacker over evasion → IsEvasion attacker under evasion × Dominates attacker (after over evasion) (after under evasion)
serves_below attacker over under evasion high low d is =
    let less = less_in attacker over under in
    let more = more_in attacker over under in
    let begun = shifted_under attacker over under high low d in
    let as_handed = same_board over under d.cells d.turn in
    let down = after (handed over under.black under.white) evasion in
    let last = shifted_evasion attacker less more over under.black under.white evasion begun is in
    let whole : after under evasion ≡ handed (after over evasion) down.black down.white =
    ap (λ (it : Board). after it evasion) as_handed ∙ after_handed over under.black under.white evasion in (
      subst (λ (it : Board). IsEvasion attacker it evasion) (sym as_handed) (evasion_down attacker less more over under.black under.white evasion begun is),
      subst (Dominates attacker (after over evasion)) (sym whole) (above_shifted attacker less more (after over evasion) down.black down.white last),
    )

-- 2. ENTRIES.

pub borne_out_above : (version : Version) (attacker : Side) (entries : List MateEntry) (entry : MateEntry) (position : Board)
    → IsBorneOut version entries attacker entry → IsKept position → IsKept entry.at → Covers version attacker position entry.at
    → IsBorneOutAt version entries attacker entry position
borne_out_above One attacker entries entry position borne high low covers =
    subst (IsBorneOutAt One entries attacker entry) (sym covers) borne
borne_out_above Two attacker entries entry position borne high low covers = record {
  check = check_above attacker position entry.at entry.by high low covers borne.check;
  evasions = λ evasion answers.
      let it = matched attacker position entry.at entry.by evasion high low covers borne.check answers in
      let next = borne.evasions evasion it.is_evasion in
      record {
        entry = next.entry;
        listed = next.listed;
        covers = above_too attacker (after_both position entry.by evasion) (after_both entry.at entry.by evasion) next.entry.at it.above next.covers;
        lower = next.lower;
      };
}
