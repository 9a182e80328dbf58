-- What may be lent by keys may be carried, and the other way round.
use Rattle.std.proofs.Common.{◌≡◌, ◌↔◌, sym}
use Rattle.bit_boards.specs.declared.piece.Side.{Side}
use Rattle.board_core.specs.declared.keys.Key.{Key}
use Rattle.board_core.specs.Board.{Board}
use Rattle.board_core.specs.Kept.{IsKept}
use Rattle.board_core.specs.Key.{key_of}
use Rattle.hand_dominance.proofs.Keys.{keys_tell}
use Rattle.notes.specs.declared.rule.Conclusion.{Conclusion}
use Rattle.notes.specs.declared.rule.Conclusion.TheVariants.{Mate, Escape}
use Rattle.notes.specs.Derivation.{Derivation, position_of, conclusion_of}
use Rattle.notes.specs.Valid.{CarriesTo, IsValid}
use Rattle.notes.specs.Lending.{CarriesByKey, MayBeLent, IsLentTo, LendingIsCarrying}
use Rattle.notes.proofs.Truth.{valid_kept}

holds_as : (conclusion : Conclusion) (attacker : Side) (from to : Key) (here there : Board) → IsKept here → IsKept there → key_of here ≡ from.0
    → key_of there ≡ to.0 → CarriesByKey conclusion attacker from to ↔ CarriesTo conclusion attacker here there
holds_as Mate attacker from to here there kept too is other_is = keys_tell attacker there here to from too kept (sym other_is) (sym is)
holds_as Escape attacker from to here there kept too is other_is = keys_tell attacker here there from to kept too (sym is) (sym other_is)

pub lending_is_carrying : LendingIsCarrying
lending_is_carrying attacker from to b note valid is kept other_is =
    let both = holds_as (conclusion_of note) attacker from to (position_of note) b (valid_kept note valid) kept is other_is in (
      λ lent. record { same_attacker = lent.same_attacker; closed = lent.closed; holds = both.0 lent.holds },
      λ carried. record { same_attacker = carried.same_attacker; closed = carried.closed; holds = both.1 carried.holds },
    )

-- A valid note that may be lent to a key may be carried to whatever position has it.
pub lent_to : (attacker : Side) (from to : Key) (note : Derivation) → IsValid note → key_of (position_of note) ≡ from.0 → MayBeLent attacker from to note
    → IsLentTo attacker to note
lent_to attacker from to note valid is lent = record {
  valid = valid;
  may = λ b kept other_is. (lending_is_carrying attacker from to b note valid is kept other_is).0 lent;
}
