-- What holds of each kind and of each side, and what tells kinds and sides apart.
use Rattle.std.proofs.Common.{◌≡◌, ◌≢◌, ◌<◌, ℕ, true, ◌==◌, cond, arith, refl, ap, sym, ◌∙◌}
use Rattle.std.proofs.lemmas.Bool.Decides.{eqb_tells}
use Rattle.bit_boards.specs.declared.piece.Kind.{Kind}
use Rattle.bit_boards.specs.declared.piece.Kind.TheVariants.{Pawn, Lance, Knight, Silver, Gold, Bishop, Rook, King}
use Rattle.bit_boards.specs.declared.piece.Side.{Side}
use Rattle.bit_boards.specs.declared.piece.Side.TheVariants.{Black, White}
use Rattle.bit_boards.specs.Kind.{same_kind, same_side, place_of}

-- what holds of the eight kinds holds of each
pub of_each : (P : Kind → Type 0) → P Pawn → P Lance → P Knight → P Silver → P Gold → P Bishop → P Rook → P King → (k : Kind) → P k
of_each P p l n s g b r k Pawn = p
of_each P p l n s g b r k Lance = l
of_each P p l n s g b r k Knight = n
of_each P p l n s g b r k Silver = s
of_each P p l n s g b r k Gold = g
of_each P p l n s g b r k Bishop = b
of_each P p l n s g b r k Rook = r
of_each P p l n s g b r k King = k

-- what holds of the seven kinds in hand holds of each kind but the king
pub each_kind : (P : Kind → Type 0) → P Pawn → P Lance → P Knight → P Silver → P Gold → P Bishop → P Rook → (k : Kind) → k ≢ King → P k
each_kind P p l n s g b r Pawn h = p
each_kind P p l n s g b r Lance h = l
each_kind P p l n s g b r Knight h = n
each_kind P p l n s g b r Silver h = s
each_kind P p l n s g b r Gold h = g
each_kind P p l n s g b r Bishop h = b
each_kind P p l n s g b r Rook h = r
each_kind P p l n s g b r King h = absurd (h refl)

-- what holds of both sides holds of each
pub each_side : (P : Side → Type 0) → P Black → P White → (s : Side) → P s
each_side P b w Black = b
each_side P b w White = w

pub place_below : (k : Kind) → k ≢ King → place_of k < 7
place_below k h = each_kind (λ j. place_of j < 7) (omega arith) (omega arith) (omega arith) (omega arith) (omega arith) (omega arith) (omega arith) k h

pub place_within : (k : Kind) → place_of k < 8
place_within = of_each (λ k. place_of k < 8) (omega arith) (omega arith) (omega arith) (omega arith) (omega arith) (omega arith) (omega arith) (omega arith)

abbrev kind_at : ℕ → Kind
kind_at n = cond (n == 0) Pawn (cond (n == 1) Lance (cond (n == 2) Knight (cond (n == 3) Silver
    (cond (n == 4) Gold (cond (n == 5) Bishop (cond (n == 6) Rook King))))))

kind_back : (k : Kind) → kind_at (place_of k) ≡ k
kind_back = of_each (λ k. kind_at (place_of k) ≡ k) refl refl refl refl refl refl refl refl

-- kinds of one place are one
pub same_place : (k l : Kind) → place_of k ≡ place_of l → k ≡ l
same_place k l h = sym (kind_back k) ∙ (ap kind_at h ∙ kind_back l)

pub same_kind_is : (k l : Kind) → same_kind k l ≡ true → k ≡ l
same_kind_is k l h = same_place k l (grind (arith, eqb_tells (place_of k) (place_of l)))

pub same_kind_refl : (k : Kind) → same_kind k k ≡ true
same_kind_refl = of_each (λ k. same_kind k k ≡ true) refl refl refl refl refl refl refl refl

pub same_side_is : (a b : Side) → same_side a b ≡ true → a ≡ b
same_side_is Black Black h = refl
same_side_is Black White h = absurd (cc)
same_side_is White Black h = absurd (cc)
same_side_is White White h = refl
