-- Kinds, and pieces by their kind.
use Rattle.std.proofs.Common.{◌≡◌, ◌≢◌, true, false, refl}
use Rattle.std.proofs.Math.Bool.{Bool-set}
use Rattle.bit_boards.specs.declared.piece.Kind.{Kind}
use Rattle.bit_boards.specs.declared.piece.Kind.TheVariants.{Pawn, Lance, Knight, Silver, Gold, Bishop, Rook, King}
use Rattle.bit_boards.specs.Kind.{same_kind, can_promote}
-- kinds that are found the same are one
pub use Rattle.board_core.proofs.EachKind.{same_kind_is, same_kind_refl}
-- pieces of one kind and side, both promoted or neither, are one
pub use Rattle.board_core.proofs.KeyExact.{piece_exact}

pub not_the_king : (kind : Kind) → kind ≢ King → same_kind kind King ≡ false
not_the_king Pawn h = refl
not_the_king Lance h = refl
not_the_king Knight h = refl
not_the_king Silver h = refl
not_the_king Gold h = refl
not_the_king Bishop h = refl
not_the_king Rook h = refl
not_the_king King h = absurd (h refl)

-- that a kind can promote is known in one way
pub promotes_same : (kind : Kind) (one two : true ≡ true → can_promote kind ≡ true) → one ≡ two
promotes_same which = hlevel Bool-set
