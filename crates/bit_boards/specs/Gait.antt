-- The ways in which pieces step, besides their slides.
use Rattle.std.specs.Prelude.{ℕ, Bool, true, false}
use Rattle.bit_boards.specs.declared.piece.Kind.{Kind}
use Rattle.bit_boards.specs.declared.piece.Kind.TheVariants.{Pawn, Lance, Knight, Silver, Gold, Bishop, Rook, King}
use Rattle.bit_boards.specs.declared.piece.Side.{Side}
use Rattle.bit_boards.specs.declared.piece.Side.TheVariants.{Black, White}
use Rattle.bit_boards.specs.declared.gait.Gait.{Gait}
use Rattle.bit_boards.specs.declared.gait.Gait.TheVariants as gaits

-- The gait of a kind, promoted or not: pieces of one gait step alike.
abbrev pub gait_of : Kind → Bool → Gait
gait_of Pawn false = gaits.Pawn
gait_of Pawn true = gaits.Gold
gait_of Lance false = gaits.Still
gait_of Lance true = gaits.Gold
gait_of Knight false = gaits.Knight
gait_of Knight true = gaits.Gold
gait_of Silver false = gaits.Silver
gait_of Silver true = gaits.Gold
gait_of Gold promoted = gaits.Gold
gait_of Bishop false = gaits.Still
gait_of Bishop true = gaits.Cross
gait_of Rook false = gaits.Still
gait_of Rook true = gaits.Corners
gait_of King promoted = gaits.King

-- The gaits in their order.
abbrev pub row_of_gait : Gait → ℕ
row_of_gait gaits.Still = 0
row_of_gait gaits.Pawn = 1
row_of_gait gaits.Knight = 2
row_of_gait gaits.Silver = 3
row_of_gait gaits.Gold = 4
row_of_gait gaits.King = 5
row_of_gait gaits.Cross = 6
row_of_gait gaits.Corners = 7

-- The sides in their order.
abbrev pub row_of_side : Side → ℕ
row_of_side Black = 0
row_of_side White = 1
