-- What alone keeps a piece off: the one occupied square between; and that such a piece slides.
use Rattle.std.proofs.Common.{◌≡◌, ℕ, ◌<◌, ◌==◌, ◌&&◌, ◌||◌, ◌⊎◌, ◌≢◌, ◌↔◌, List, Option, Some, None, Bool, true, false, length, slice_set, not, is_some, IsTrue, IsSomeAnd, inl, inr, refl, sym, ap, subst, ◌∙◌, eq-eqb, ne_eqb}
use Rattle.std.proofs.lemmas.Bool.{cases_Bool, cases_eq, and_from, or_cases, or_left, or_right, both_ways, not_from_true, not_from_false, false≢true}
use Rattle.board_laws.proofs.Sides.{same_side_itself}
use Rattle.board_laws.proofs.Squares.{line_back}
use Rattle.board_laws.proofs.Truth.{gone_before}
use Rattle.board_laws.proofs.Cells.{empty_of, piece_at-set_same, piece_at-set_other}
use Rattle.bit_boards.specs.declared.piece.Kind.{Kind}
use Rattle.bit_boards.specs.declared.piece.Kind.TheVariants.{Pawn, Lance, Knight, Silver, Gold, Bishop, Rook, King}
use Rattle.bit_boards.specs.declared.piece.Side.{Side}
use Rattle.bit_boards.specs.declared.piece.Side.TheVariants.{Black, White}
use Rattle.bit_boards.specs.declared.piece.Piece.{Piece}
use Rattle.bit_boards.specs.declared.mask.Mask.{Mask}
use Rattle.bit_boards.specs.Kind.{can_promote, same_side}
use Rattle.bit_boards.specs.Mask.{holds, Holds}
use Rattle.bit_boards.specs.Movement.{fits, slides, goes_by_step, goes_by_slide, share_line, IsBetween, StepsAreNear, SlidesShareLine}
use Rattle.board_core.specs.Board.{piece_at}
use Rattle.board_core.specs.Sets.{is_of_side, is_slider}
use Rattle.shogi_rules.specs.Rules.{Reaches}
use Rattle.attack_lines.specs.Lines.{is_occupied_without, AttacksWithout, IsAttackedWithout}
use Rattle.attack_lines.specs.Parts.{AreOccupied, IsOnly, KeepsOff}
use Rattle.attack_lines.proofs.Slid.{nothing_near}

-- a square that is no longer left, and isn't the one just taken out, was gone before
pub was_gone : (left : Bool) (f at : ℕ) → (f ≡ at → ⊥) → (left && not (f == at)) ≡ false → left ≡ false
was_gone true f at other e = absurd (both_ways _ e (not_from_false _ (ne_eqb f at other)))
was_gone false f at other e = refl

-- ---- one piece between

-- the set is that of the occupied squares between
abbrev pub StandBetween : List (Option Piece) → Mask → ℕ → ℕ → Type 0
StandBetween cells mask from to = (s : ℕ) → Holds mask s ↔ (IsBetween from s to × (is_some (piece_at cells s) ≡ true))

pub side_of : (side : Side) (piece : Piece) → is_of_side side (Some piece) ≡ true → piece.side ≡ side
side_of side piece h = one piece.side side h where
  one : (a b : Side) → same_side a b ≡ true → a ≡ b
  one Black Black e = refl
  one Black White e = absurd (cc)
  one White Black e = absurd (cc)
  one White White e = refl

lone : (b : Bool) (m s : ℕ) → (b ≡ true → m ≡ s) → (b && not (m == s)) ≡ false
lone false m s h = refl
lone true m s h = not_from_true _ (eq-eqb m s (h refl))

alone : (b : Bool) (m s : ℕ) → (b && not (m == s)) ≡ false → b ≡ true → m ≡ s
alone b m s e there = elim (cases_eq m s) [
  | inl same ↦ same
  | inr other ↦ absurd (both_ways _ e (and_from _ _ there (not_from_false _ (ne_eqb m s other))))
]

abbrev Lifted : List (Option Piece) → Side → ℕ → ℕ → ℕ → Option Piece → Type 0
Lifted cells side s from to cell =
    IsSomeAnd cell (λ p. (p.side ≡ side) × (IsTrue (fits p from to) × ((m : ℕ) → IsBetween from m to → is_occupied_without cells s m ≡ false)))

abbrev Attacking : List (Option Piece) → Side → ℕ → ℕ → Option Piece → Type 0
Attacking cells side from to cell = IsSomeAnd cell (λ p. (p.side ≡ side) × Reaches cells p from to)

pub keeps : (cells : List (Option Piece)) (side : Side) (piece : Piece) (s from to : ℕ) (mask : Mask) → piece_at cells from ≡ Some piece → piece.side ≡ side
    → IsTrue (fits piece from to) → StandBetween cells mask from to → IsOnly mask s → KeepsOff cells side s from to
keeps cells side piece s from to mask is own fit stand only =
    let here = (stand s).0 only.has in
    record {
      lifted = subst (Lifted cells side s from to) (sym is)
          (own, (fit, λ m between. lone (is_some (piece_at cells m)) m s (λ there. only.others m ((stand m).1 (between, there)))));
      blocked = λ attacks.
          let r = subst (Attacking cells side from to) is attacks in
          both_ways (is_some (piece_at cells s)) (ap is_some (r.1.clear s here.0)) here.1;
    }

pub kept : (cells : List (Option Piece)) (side : Side) (piece : Piece) (s from to : ℕ) (mask : Mask) → piece_at cells from ≡ Some piece
    → StandBetween cells mask from to → KeepsOff cells side s from to → IsOnly mask s
kept cells side piece s from to mask is stand k =
    let l = subst (Lifted cells side s from to) is k.lifted in
    let others : (t : ℕ) → Holds mask t → t ≡ s = λ t has. let at = (stand t).0 has in alone (is_some (piece_at cells t)) t s (l.1.1 t at.0) at.1 in
    elim (cases_Bool (holds mask s)) [
      | inl has ↦ record { has = has; others = others }
      | inr none ↦ absurd (k.blocked (subst (Attacking cells side from to) (sym is) (
        l.0,
        record {
          fit = l.1.0;
          clear = λ m between. elim (cases_Bool (is_some (piece_at cells m))) [
            | inl there ↦
                let has = (stand m).1 (between, there) in
                absurd (both_ways (holds mask s) none (subst (λ x. Holds mask x) (others m has) has))
            | inr empty ↦ empty_of (piece_at cells m) empty
          ];
        },
      )))
    ]

-- ---- a piece that is kept off slides

-- whatever slides is one of the pieces that slide
slider : (k : Kind) (promoted : Bool) (side : Side) (can : promoted ≡ true → can_promote k ≡ true) (aside low high : ℕ)
    → slides k promoted aside low high ≡ true → is_slider (Some (record { kind = k; promoted = promoted; side = side; promotes = can })) ≡ true
slider Pawn p side can a l h e = absurd (false≢true e)
slider Lance false side can a l h e = refl
slider Lance true side can a l h e = absurd (false≢true e)
slider Knight p side can a l h e = absurd (false≢true e)
slider Silver p side can a l h e = absurd (false≢true e)
slider Gold p side can a l h e = absurd (false≢true e)
slider Bishop p side can a l h e = refl
slider Rook p side can a l h e = refl
slider King p side can a l h e = absurd (false≢true e)

-- the piece in a cell of which something holds
some_of : {P : Piece → Type 0} (cell : Option Piece) → IsSomeAnd cell P → (piece : Piece) × (cell ≡ Some piece) × P piece
some_of None h = absurd h
some_of (Some piece) h = (piece, refl, h)

pub kept_on_line : StepsAreNear → SlidesShareLine → (cells : List (Option Piece)) (side : Side) (s from to : ℕ) → from < 81 → to < 81 → KeepsOff cells side s from to
    → ((share_line to from && is_slider (piece_at cells from)) && is_of_side side (piece_at cells from)) ≡ true
kept_on_line near lined cells side s from to h i k =
    let found = some_of (piece_at cells from) k.lifted in
    let piece = found.0 in
    let is = found.1 in
    let own = found.2.0 in
    let fit : IsTrue (fits piece from to) = found.2.1.0 in
    and_from _ _
    (elim (or_cases (goes_by_step piece from to) (goes_by_slide piece from to) fit) [
      | inl step ↦ absurd (k.blocked (subst (Attacking cells side from to) (sym is) (
        own,
        record {
          fit = fit;
          clear = λ m between. absurd (nothing_near from m to (near piece from to h i step) between);
        },
      )))
      | inr slide ↦ and_from _ _ (line_back to from ∙ lined piece from to h i slide)
          (ap is_slider is ∙ slider piece.kind piece.promoted piece.side piece.promotes _ _ _ slide)
    ])
    (ap (is_of_side side) is ∙ (ap (λ x. same_side x side) own ∙ same_side_itself side))

-- ---- a piece reaches once another is lifted what it reaches where that cell is empty

abbrev pub lifted_from : List (Option Piece) → ℕ → List (Option Piece)
lifted_from cells lifted = slice_set cells lifted None

without_same : (is : Bool) (m : ℕ) → false ≡ (is && not (m == m))
without_same is m = sym (not_so is (eq-eqb m m refl)) where
  not_so : (is : Bool) {e : Bool} → e ≡ true → (is && not e) ≡ false
  not_so true h = not_from_true _ h
  not_so false h = refl

without_other : (is other : Bool) → other ≡ false → is ≡ (is && not other)
without_other true other e = sym (not_from_false _ e)
without_other false other e = refl

pub is_lifted : (cells : List (Option Piece)) (lifted : ℕ) → lifted < length cells → (mask : Mask)
    → ((m : ℕ) → holds mask m ≡ is_occupied_without cells lifted m) → AreOccupied mask (lifted_from cells lifted)
is_lifted cells lifted low mask is m = is m ∙ sym (at (cases_eq m lifted)) where
  at : (m ≡ lifted) ⊎ (m ≢ lifted) → is_some (piece_at (lifted_from cells lifted) m) ≡ is_occupied_without cells lifted m
  at (inl e) = subst (λ (x : ℕ). is_some (piece_at (lifted_from cells lifted) x) ≡ is_occupied_without cells lifted x) (sym e)
      (ap is_some (piece_at-set_same cells lifted None low) ∙ without_same (is_some (piece_at cells lifted)) lifted)
  at (inr n) = ap is_some (piece_at-set_other cells lifted m None n) ∙ without_other (is_some (piece_at cells m)) (m == lifted) (ne_eqb m lifted n)

pub lifts : (cells : List (Option Piece)) (side : Side) (piece : Piece) (lifted from to : ℕ) (mask : Mask) (is : Bool) → lifted < length cells
    → ((m : ℕ) → holds mask m ≡ is_occupied_without cells lifted m) → piece_at cells from ≡ Some piece → piece.side ≡ side
    → IsTrue is ↔ ((to < 81) × Reaches (lifted_from cells lifted) piece from to) → IsTrue is ↔ ((to < 81) × AttacksWithout cells side lifted from to)
lifts cells side piece lifted from to mask is low same there own reach =
    let are = is_lifted cells lifted low mask same in (
      (λ has.
          let r = reach.0 has in (
            r.0,
            subst (Lifted cells side lifted from to) (sym there)
                (own, (r.1.fit, λ m between. sym (same m) ∙ (are m ∙ ap is_some (r.1.clear m between)))),
          )),
      (λ a.
          let l = subst (Lifted cells side lifted from to) there a.1 in
          reach.1 (
            a.0,
            record {
              fit = l.1.0;
              clear = λ m between. empty_of (piece_at (lifted_from cells lifted) m) (sym (are m) ∙ (same m ∙ l.1.1 m between));
            },
          )),
    )

-- whoever attacks goes there over an empty board
goes_there : (cells : List (Option Piece)) (side : Side) (lifted from to : ℕ) (cell : Option Piece) → Lifted cells side lifted from to cell
    → IsSomeAnd cell (λ p. (p.side ≡ side) × IsTrue (fits p from to))
goes_there cells side lifted from to None h = absurd h
goes_there cells side lifted from to (Some piece) h = (h.0, h.1.0)

-- ---- the squares that pieces attack, one piece after the other

abbrev Candidates : List (Option Piece) → Side → ℕ → ℕ → Type 0
Candidates cells side from to = IsSomeAnd (piece_at cells from) (λ p. (p.side ≡ side) × IsTrue (fits p from to))

pub candidates_more : (cells : List (Option Piece)) (side : Side) (squares left rest found one more : Mask) (taken : ℕ)
    → ((t : ℕ) → holds rest t ≡ (holds left t && not (t == taken))) → ((s : ℕ) → holds more s ≡ (holds found s || holds one s))
    → ((from : ℕ) → from < 81 → Candidates cells side from taken → Holds one from)
    → ((from to : ℕ) → from < 81 → Holds squares to → holds left to ≡ false → Candidates cells side from to → Holds found from)
    → (from to : ℕ) → from < 81 → Holds squares to → holds rest to ≡ false → Candidates cells side from to → Holds more from
candidates_more cells side squares left rest found one more taken is both now before from to low wanted gone c = both from ∙ elim (cases_eq to taken) [
  | inl e ↦ or_right _ _ (now from low (subst (λ (x : ℕ). Candidates cells side from x) e c))
  | inr n ↦ or_left _ _ (before from to low wanted (gone_before (holds left to) (holds rest to) to taken (is to) gone n) c)
]

pub none_attacked : (cells : List (Option Piece)) (side : Side) (lifted : ℕ) (squares left found : Mask) → ((s : ℕ) → holds found s ≡ false)
    → ((from to : ℕ) → from < 81 → Holds squares to → Candidates cells side from to → Holds left from)
    → ((to : ℕ) → Holds found to → IsAttackedWithout cells side lifted to)
    × ((from to : ℕ) → from < 81 → holds left from ≡ false → Holds squares to → AttacksWithout cells side lifted from to → Holds found to)
none_attacked cells side lifted squares left found none all = (
  (λ to has. absurd (both_ways (holds found to) (none to) has)),
  (λ from to low gone wanted a.
      absurd (both_ways (holds left from) gone (all from to low wanted (goes_there cells side lifted from to (piece_at cells from) a)))),
)

pub attacked_more : (cells : List (Option Piece)) (side : Side) (lifted : ℕ) (squares left rest found one more : Mask) (taken : ℕ) → taken < 81
    → ((t : ℕ) → Holds squares t → t < 81)
    → ((t : ℕ) → holds rest t ≡ (holds left t && not (t == taken))) → ((s : ℕ) → holds more s ≡ (holds found s || holds one s))
    → ((to : ℕ) → Holds one to ↔ ((to < 81) × AttacksWithout cells side lifted taken to))
    → ((to : ℕ) → Holds found to → IsAttackedWithout cells side lifted to)
    × ((from to : ℕ) → from < 81 → holds left from ≡ false → Holds squares to → AttacksWithout cells side lifted from to → Holds found to)
    → ((to : ℕ) → Holds more to → IsAttackedWithout cells side lifted to)
    × ((from to : ℕ) → from < 81 → holds rest from ≡ false → Holds squares to → AttacksWithout cells side lifted from to → Holds more to)
attacked_more cells side lifted squares left rest found one more taken at on_board is both now before = (
  (λ to has. elim (or_cases (holds found to) (holds one to) (sym (both to) ∙ has)) [
    | inl h ↦ before.0 to h
    | inr h ↦ (taken, at, ((now to).0 h).1)
  ]),
  (λ from to low gone wanted a. both to ∙ elim (cases_eq from taken) [
    | inl e ↦ or_right _ _ ((now to).1 (on_board to wanted, subst (λ (x : ℕ). AttacksWithout cells side lifted x to) e a))
    | inr n ↦ or_left _ _ (before.1 from to low (gone_before (holds left from) (holds rest from) from taken (is from) gone n) wanted a)
  ]),
)
