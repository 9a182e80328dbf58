use Rattle.hand_dominance.proofs.Listed.{rank_above, none_below, dominates, borne_out_stays, held_stays, covers_stay, escapes}
use Rattle.hand_dominance.proofs.Above.{borne_out_above}
use Rattle.hand_dominance.proofs.Covering.{escapes_covered}
use Rattle.hand_dominance.proofs.listing_laws.Goals as goal

pub returns-clause-ranks : goal.returns-clause-ranks
returns-clause-ranks c = rank_above

pub returns-clause-above : goal.returns-clause-above
returns-clause-above c = borne_out_above

pub returns-clause-none : goal.returns-clause-none
returns-clause-none c = λ version attacker s position all closed kept low mate.
    none_below version attacker s all closed mate.0 position kept
    (record { listed = low.listed; inside = low.inside; covers = dominates version attacker low.listed position low.covers }) mate.1

pub returns-clause-escapes : goal.returns-clause-escapes
returns-clause-escapes c = escapes

pub returns-clause-escapes_covered : goal.returns-clause-escapes_covered
returns-clause-escapes_covered c = escapes_covered

pub returns-clause-covers : goal.returns-clause-covers
returns-clause-covers c = covers_stay

pub returns-clause-borne_out : goal.returns-clause-borne_out
returns-clause-borne_out c = borne_out_stays

pub returns-clause-held : goal.returns-clause-held
returns-clause-held c = held_stays
