-- The two sides.
use Rattle.std.proofs.Common.{◌≡◌, true, refl}
use Rattle.bit_boards.specs.declared.piece.Side.{Side}
use Rattle.bit_boards.specs.declared.piece.Side.TheVariants.{Black, White}
use Rattle.bit_boards.specs.Kind.{other, same_side}
-- sides that are found the same are one
pub use Rattle.board_core.proofs.EachKind.{same_side_is}

pub same_side_itself : (side : Side) → same_side side side ≡ true
same_side_itself Black = refl
same_side_itself White = refl

pub other_twice : (side : Side) → other (other side) ≡ side
other_twice Black = refl
other_twice White = refl

-- no side is its other
pub other_apart : (side : Side) → other side ≡ side → ⊥
other_apart Black e = absurd (cc)
other_apart White e = absurd (cc)

pub sides_differ : (side : Side) → same_side side (other side) ≡ true → ⊥
sides_differ Black h = absurd (cc)
sides_differ White h = absurd (cc)
