-- A set has one more of each kind that is drawn.
use Rattle.std.proofs.Common.{◌≡◌, ◌<◌, ◌+◌, ◌⊎◌, inl, inr, arith, refl}
use Rattle.board_laws.proofs.Cells.{one_if_most}
use Rattle.bit_boards.specs.declared.piece.Kind.{Kind}
use Rattle.bit_boards.specs.declared.piece.Kind.TheVariants.{Pawn, Lance, Knight, Silver, Gold, Bishop, Rook, King}
use Rattle.bit_boards.specs.Kind.{same_kind, total_of}
use Rattle.board_core.specs.Board.{one_if}

-- A kind is one of three.
abbrev pub IsOne : Kind → Kind → Kind → Kind → Type 0
IsOne a b c k = (k ≡ a) ⊎ ((k ≡ b) ⊎ (k ≡ c))

-- no light piece is a heavy one
apart : (k j : Kind) → IsOne Silver Lance Pawn k → IsOne Gold Knight Rook j → one_if (same_kind k j) ≡ 0
apart k j (inl e) (inl f) = rw (e, f) refl
apart k j (inl e) (inr (inl f)) = rw (e, f) refl
apart k j (inl e) (inr (inr f)) = rw (e, f) refl
apart k j (inr (inl e)) (inl f) = rw (e, f) refl
apart k j (inr (inl e)) (inr (inl f)) = rw (e, f) refl
apart k j (inr (inl e)) (inr (inr f)) = rw (e, f) refl
apart k j (inr (inr e)) (inl f) = rw (e, f) refl
apart k j (inr (inr e)) (inr (inl f)) = rw (e, f) refl
apart k j (inr (inr e)) (inr (inr f)) = rw (e, f) refl

light_no_bishop : (k : Kind) → IsOne Silver Lance Pawn k → one_if (same_kind k Bishop) ≡ 0
light_no_bishop k (inl e) = rw e refl
light_no_bishop k (inr (inl e)) = rw e refl
light_no_bishop k (inr (inr e)) = rw e refl

heavy_no_bishop : (k : Kind) → IsOne Gold Knight Rook k → one_if (same_kind k Bishop) ≡ 0
heavy_no_bishop k (inl e) = rw e refl
heavy_no_bishop k (inr (inl e)) = rw e refl
heavy_no_bishop k (inr (inr e)) = rw e refl

-- of the second that Black holds
pub fourth_left : (i j h k : Kind) → IsOne Silver Lance Pawn i → IsOne Silver Lance Pawn j → IsOne Gold Knight Rook h → IsOne Bishop Silver Gold k
    → one_if (same_kind King k) + one_if (same_kind i k) + one_if (same_kind j k) + one_if (same_kind h k) < total_of k
fourth_left i j h k one two three (inl e) = rw e (omega (arith, light_no_bishop i one, light_no_bishop j two, heavy_no_bishop h three))
fourth_left i j h k one two three (inr (inl e)) =
    rw e (omega (arith, one_if_most (same_kind i Silver), one_if_most (same_kind j Silver), one_if_most (same_kind h Silver)))
fourth_left i j h k one two three (inr (inr e)) =
    rw e (omega (arith, one_if_most (same_kind i Gold), one_if_most (same_kind j Gold), one_if_most (same_kind h Gold)))

-- of the White piece
pub fifth_left : (i j h l k : Kind) → IsOne Silver Lance Pawn i → IsOne Silver Lance Pawn j → (k ≡ Gold) ⊎ (k ≡ Pawn)
    → one_if (same_kind King k) + one_if (same_kind i k) + one_if (same_kind j k) + one_if (same_kind h k) + one_if (same_kind l k) < total_of k
fifth_left i j h l k one two (inl e) =
    rw e (omega (arith, apart i Gold one (inl refl), apart j Gold two (inl refl), one_if_most (same_kind h Gold), one_if_most (same_kind l Gold)))
fifth_left i j h l k one two (inr e) =
    rw e (omega (arith, one_if_most (same_kind i Pawn), one_if_most (same_kind j Pawn), one_if_most (same_kind h Pawn), one_if_most (same_kind l Pawn)))
