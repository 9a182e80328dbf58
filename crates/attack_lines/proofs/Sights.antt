-- What is seen along lines is where pieces slide to and from; and pieces reach what they step or
-- slide to.
use Rattle.std.proofs.Common.{◌≡◌, ℕ, ◌<◌, ◌&&◌, ◌||◌, ◌⊎◌, ◌↔◌, List, Option, Bool, false, nat_lt, IsTrue, inl, inr, refl, sym, ap, subst, ◌∙◌}
use Rattle.std.proofs.lemmas.Bool.{ltb-true, lt-ltb, and_parts, and_from, or_left, or_right, or_cases}
use Rattle.bit_boards.specs.declared.piece.Kind.TheVariants.{Lance, Bishop, Rook}
use Rattle.bit_boards.specs.declared.piece.Side.{Side}
use Rattle.bit_boards.specs.declared.piece.Side.TheVariants.{Black, White}
use Rattle.bit_boards.specs.declared.piece.Piece.{Piece}
use Rattle.bit_boards.specs.declared.direction.Direction.{Direction}
use Rattle.bit_boards.specs.declared.direction.Direction.TheVariants.{Up, UpRight, Right, DownRight, Down, DownLeft, Left, UpLeft}
use Rattle.bit_boards.specs.Kind.{other}
use Rattle.bit_boards.specs.Direction.{opposite, LiesToward}
use Rattle.bit_boards.specs.Movement.{goes_by_step, goes_by_slide, StepsAreNear}
use Rattle.shogi_rules.specs.Rules.{IsClear, Reaches}
use Rattle.attack_lines.specs.Lines.{IsSeenOver, IsSeenStraight, IsSeenDiagonal}
use Rattle.attack_lines.specs.Parts.{ahead_of, SlidesTo}
use Rattle.attack_lines.proofs.Slid.{Straight, Diagonal, sliding, lance_goes, lance_ahead, rook_goes, rook_ahead, bishop_goes, bishop_ahead, turned_toward, between_back, nothing_near}

clear_back : (cells : List (Option Piece)) (a b : ℕ) → IsClear cells a b → IsClear cells b a
clear_back cells a b clear = λ m between. clear m (between_back b m a between)

turned_seen : (cells : List (Option Piece)) (d : Direction) (a b : ℕ) → a < 81 → IsSeenOver cells d a b → IsSeenOver cells (opposite d) b a
turned_seen cells d a b h s = record { toward = turned_toward d a b h s.toward; clear = clear_back cells a b s.clear }

-- ---- along files and rows

straight_back : (cells : List (Option Piece)) (a b : ℕ) → a < 81 → IsSeenStraight cells a b → IsSeenStraight cells b a
straight_back cells a b h (inl s) = inr (inr (inl (turned_seen cells Up a b h s)))
straight_back cells a b h (inr (inl s)) = inr (inr (inr (turned_seen cells Right a b h s)))
straight_back cells a b h (inr (inr (inl s))) = inl (turned_seen cells Down a b h s)
straight_back cells a b h (inr (inr (inr s))) = inr (inl (turned_seen cells Left a b h s))

straight_parts : (cells : List (Option Piece)) (a b : ℕ) → IsSeenStraight cells a b → Straight (λ d. LiesToward d a b) × IsClear cells a b
straight_parts cells a b (inl s) = (inl s.toward, s.clear)
straight_parts cells a b (inr (inl s)) = (inr (inl s.toward), s.clear)
straight_parts cells a b (inr (inr (inl s))) = (inr (inr (inl s.toward)), s.clear)
straight_parts cells a b (inr (inr (inr s))) = (inr (inr (inr s.toward)), s.clear)

straight_from : (cells : List (Option Piece)) (a b : ℕ) → Straight (λ d. LiesToward d a b) → IsClear cells a b → IsSeenStraight cells a b
straight_from cells a b (inl t) clear = inl (record { toward = t; clear = clear })
straight_from cells a b (inr (inl t)) clear = inr (inl (record { toward = t; clear = clear }))
straight_from cells a b (inr (inr (inl t))) clear = inr (inr (inl (record { toward = t; clear = clear })))
straight_from cells a b (inr (inr (inr t))) clear = inr (inr (inr (record { toward = t; clear = clear })))

straight_on_board : (a b : ℕ) → Straight (λ d. LiesToward d a b) → b < 81
straight_on_board a b (inl t) = t.0
straight_on_board a b (inr (inl t)) = t.0
straight_on_board a b (inr (inr (inl t))) = t.0
straight_on_board a b (inr (inr (inr t))) = t.0

pub rook_slides : (cells : List (Option Piece)) (piece : Piece) → piece.kind ≡ Rook → (a b : ℕ) → IsSeenStraight cells a b ↔ ((b < 81) × SlidesTo cells piece a b)
rook_slides cells piece kind a b =
    let same : goes_by_slide piece a b ≡ sliding piece.side Rook piece.promoted a b = ap (λ k. sliding piece.side k piece.promoted a b) kind in (
      (λ s.
          let parts = straight_parts cells a b s in
          (straight_on_board a b parts.0, record { slide = same ∙ rook_ahead piece.side piece.promoted a b parts.0; clear = parts.1 })),
      (λ s. straight_from cells a b (rook_goes piece.side piece.promoted a b s.0 (sym same ∙ s.1.slide)) s.1.clear),
    )

pub rook_slid : (cells : List (Option Piece)) (piece : Piece) → piece.kind ≡ Rook → (a b : ℕ) → b < 81 → IsSeenStraight cells b a ↔ ((a < 81) × SlidesTo cells piece a b)
rook_slid cells piece kind a b h = (
  (λ s. (straight_on_board b a (straight_parts cells b a s).0, ((rook_slides cells piece kind a b).0 (straight_back cells b a h s)).1)),
  (λ s. straight_back cells a b s.0 ((rook_slides cells piece kind a b).1 (h, s.1))),
)

-- ---- along diagonals

diagonal_back : (cells : List (Option Piece)) (a b : ℕ) → a < 81 → IsSeenDiagonal cells a b → IsSeenDiagonal cells b a
diagonal_back cells a b h (inl s) = inr (inr (inl (turned_seen cells UpRight a b h s)))
diagonal_back cells a b h (inr (inl s)) = inr (inr (inr (turned_seen cells DownRight a b h s)))
diagonal_back cells a b h (inr (inr (inl s))) = inl (turned_seen cells DownLeft a b h s)
diagonal_back cells a b h (inr (inr (inr s))) = inr (inl (turned_seen cells UpLeft a b h s))

diagonal_parts : (cells : List (Option Piece)) (a b : ℕ) → IsSeenDiagonal cells a b → Diagonal (λ d. LiesToward d a b) × IsClear cells a b
diagonal_parts cells a b (inl s) = (inl s.toward, s.clear)
diagonal_parts cells a b (inr (inl s)) = (inr (inl s.toward), s.clear)
diagonal_parts cells a b (inr (inr (inl s))) = (inr (inr (inl s.toward)), s.clear)
diagonal_parts cells a b (inr (inr (inr s))) = (inr (inr (inr s.toward)), s.clear)

diagonal_from : (cells : List (Option Piece)) (a b : ℕ) → Diagonal (λ d. LiesToward d a b) → IsClear cells a b → IsSeenDiagonal cells a b
diagonal_from cells a b (inl t) clear = inl (record { toward = t; clear = clear })
diagonal_from cells a b (inr (inl t)) clear = inr (inl (record { toward = t; clear = clear }))
diagonal_from cells a b (inr (inr (inl t))) clear = inr (inr (inl (record { toward = t; clear = clear })))
diagonal_from cells a b (inr (inr (inr t))) clear = inr (inr (inr (record { toward = t; clear = clear })))

diagonal_on_board : (a b : ℕ) → Diagonal (λ d. LiesToward d a b) → b < 81
diagonal_on_board a b (inl t) = t.0
diagonal_on_board a b (inr (inl t)) = t.0
diagonal_on_board a b (inr (inr (inl t))) = t.0
diagonal_on_board a b (inr (inr (inr t))) = t.0

pub bishop_slides : (cells : List (Option Piece)) (piece : Piece) → piece.kind ≡ Bishop → (a b : ℕ) → IsSeenDiagonal cells a b ↔ ((b < 81) × SlidesTo cells piece a b)
bishop_slides cells piece kind a b =
    let same : goes_by_slide piece a b ≡ sliding piece.side Bishop piece.promoted a b = ap (λ k. sliding piece.side k piece.promoted a b) kind in (
      (λ s.
          let parts = diagonal_parts cells a b s in
          (diagonal_on_board a b parts.0, record { slide = same ∙ bishop_ahead piece.side piece.promoted a b parts.0; clear = parts.1 })),
      (λ s. diagonal_from cells a b (bishop_goes piece.side piece.promoted a b s.0 (sym same ∙ s.1.slide)) s.1.clear),
    )

pub bishop_slid : (cells : List (Option Piece)) (piece : Piece) → piece.kind ≡ Bishop → (a b : ℕ) → b < 81 → IsSeenDiagonal cells b a ↔ ((a < 81) × SlidesTo cells piece a b)
bishop_slid cells piece kind a b h = (
  (λ s. (diagonal_on_board b a (diagonal_parts cells b a s).0, ((bishop_slides cells piece kind a b).0 (diagonal_back cells b a h s)).1)),
  (λ s. diagonal_back cells a b s.0 ((bishop_slides cells piece kind a b).1 (h, s.1))),
)

-- ---- straight ahead

lance_same : (piece : Piece) (a b : ℕ) → piece.kind ≡ Lance → piece.promoted ≡ false → goes_by_slide piece a b ≡ sliding piece.side Lance false a b
lance_same piece a b kind plain = ap (λ k. sliding piece.side k piece.promoted a b) kind ∙ ap (λ p. sliding piece.side Lance p a b) plain

pub lance_slides : (cells : List (Option Piece)) (piece : Piece) → piece.kind ≡ Lance → piece.promoted ≡ false → (a b : ℕ)
    → IsSeenOver cells (ahead_of piece.side) a b ↔ ((b < 81) × SlidesTo cells piece a b)
lance_slides cells piece kind plain a b =
    let same = lance_same piece a b kind plain in (
      (λ s. (s.toward.0, record { slide = same ∙ lance_ahead piece.side a s.toward.1 b s.toward.2; clear = s.clear })),
      (λ s. record { toward = lance_goes piece.side a b s.0 (sym same ∙ s.1.slide); clear = s.1.clear }),
    )

ahead_back : (side : Side) → opposite (ahead_of (other side)) ≡ ahead_of side
ahead_back Black = refl
ahead_back White = refl

back_ahead : (side : Side) → opposite (ahead_of side) ≡ ahead_of (other side)
back_ahead Black = refl
back_ahead White = refl

ahead_straight : (cells : List (Option Piece)) (side : Side) (a b : ℕ) → IsSeenOver cells (ahead_of side) a b → IsSeenStraight cells a b
ahead_straight cells Black a b s = inl s
ahead_straight cells White a b s = inr (inr (inl s))

pub lance_slid : (cells : List (Option Piece)) (piece : Piece) → piece.kind ≡ Lance → piece.promoted ≡ false → (a b : ℕ) → b < 81
    → (IsSeenStraight cells b a × LiesToward (ahead_of (other piece.side)) b a) ↔ ((a < 81) × SlidesTo cells piece a b)
lance_slid cells piece kind plain a b h = (
  (λ s.
      let P : Direction → Type 0 = λ d. LiesToward d a b in
      let forth = subst P (ahead_back piece.side) (turned_toward (ahead_of (other piece.side)) b a h s.1) in
      let clear = clear_back cells b a (straight_parts cells b a s.0).1 in
      (s.1.0, ((lance_slides cells piece kind plain a b).0 (record { toward = forth; clear = clear })).1)),
  (λ s.
      let P : Direction → Type 0 = λ d. LiesToward d b a in
      let seen = (lance_slides cells piece kind plain a b).1 (h, s.1) in (
        straight_back cells a b s.0 (ahead_straight cells piece.side a b seen),
        subst P (back_ahead piece.side) (turned_toward (ahead_of piece.side) a b s.0 seen.toward),
      )),
)

-- ---- steps and slides together, where n is the square that is asked for

pub reaching : StepsAreNear → (cells : List (Option Piece)) (piece : Piece) (a b n : ℕ) (all step slide : Bool) → (n < 81 → (a < 81) × (b < 81))
    → all ≡ (step || slide) → step ≡ (nat_lt n 81 && goes_by_step piece a b) → (IsTrue slide ↔ ((n < 81) × SlidesTo cells piece a b))
    → IsTrue all ↔ ((n < 81) × Reaches cells piece a b)
reaching near cells piece a b n all step slide within whole one two = (
  (λ has. elim (or_cases step slide (sym whole ∙ has)) [
    | inl is ↦
        let parts = and_parts _ _ (sym one ∙ is) in
        let low = ltb-true _ _ parts.0 in
        let ends = within low in (
          low,
          record {
            fit = or_left _ _ parts.1;
            clear = λ m between. absurd (nothing_near a m b (near piece a b ends.0 ends.1 parts.1) between);
          },
        )
    | inr is ↦ let s = two.0 is in (s.0, record { fit = or_right _ _ s.1.slide; clear = s.1.clear })
  ]),
  (λ r. whole ∙ (elim (or_cases (goes_by_step piece a b) (goes_by_slide piece a b) r.1.fit) [
    | inl is ↦ or_left _ _ (one ∙ and_from _ _ (lt-ltb _ _ r.0) is)
    | inr is ↦ or_right _ _ (two.1 (r.0, record { slide = is; clear = r.1.clear }))
  ])),
)

-- ---- what is seen in one of four directions, by the sets of two of them and of the two others

pub crossed : {A B C D : Type 0} (all one two a c d b : Bool) → all ≡ (one || two) → one ≡ (a || c) → two ≡ (d || b)
    → (IsTrue a ↔ A) → (IsTrue c ↔ C) → (IsTrue d ↔ D) → (IsTrue b ↔ B) → IsTrue all ↔ (A ⊎ (B ⊎ (C ⊎ D)))
crossed {A} {B} {C} {D} all one two a c d b whole first second is-a is-c is-d is-b = (
  (λ has. elim (or_cases one two (sym whole ∙ has)) [
    | inl h ↦ elim (or_cases a c (sym first ∙ h)) [
      | inl x ↦ inl (is-a.0 x)
      | inr x ↦ inr (inr (inl (is-c.0 x)))
    ]
    | inr h ↦ elim (or_cases d b (sym second ∙ h)) [
      | inl x ↦ inr (inr (inr (is-d.0 x)))
      | inr x ↦ inr (inl (is-b.0 x))
    ]
  ]),
  back,
) where
  back : (A ⊎ (B ⊎ (C ⊎ D))) → IsTrue all
  back (inl x) = whole ∙ or_left one two (first ∙ or_left a c (is-a.1 x))
  back (inr (inl x)) = whole ∙ or_right one two (second ∙ or_right d b (is-b.1 x))
  back (inr (inr (inl x))) = whole ∙ or_left one two (first ∙ or_right a c (is-c.1 x))
  back (inr (inr (inr x))) = whole ∙ or_right one two (second ∙ or_left d b (is-d.1 x))
