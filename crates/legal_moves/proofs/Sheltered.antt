-- When a side's own king is attacked after its move, by the board before it.
use Rattle.std.proofs.Common.{◌≡◌, ◌≢◌, ◌<◌, ◌/◌, ◌%◌, ◌⊎◌, inl, inr, ℕ, List, Option, Some, None, Bool, true, false, length, IsTrue, arith, refl, sym, ap, subst, ◌∙◌}
use Rattle.std.specs.Prelude.{IsSomeAnd}
use Rattle.std.proofs.lemmas.Bool.{cases_eq, and_parts, or_cases}
use Rattle.std.proofs.lemmas.Option.{same_Some}
use Rattle.board_laws.proofs.Cells.{piece_at-set_same, piece_at-set_other, no_king_here}
use Rattle.board_laws.proofs.Sides.{same_side_itself, same_side_is, sides_differ}
use Rattle.board_laws.proofs.Squares.{nowhere}
use Rattle.bit_boards.specs.declared.piece.Kind.{Kind}
use Rattle.bit_boards.specs.declared.piece.Kind.TheVariants.{Pawn, Lance, Knight, Silver, Gold, Bishop, Rook, King}
use Rattle.bit_boards.specs.declared.piece.Side.{Side}
use Rattle.bit_boards.specs.declared.piece.Piece.{Piece}
use Rattle.bit_boards.specs.Kind.{other, same_side, same_kind}
use Rattle.bit_boards.specs.Piece.{plain_piece}
use Rattle.bit_boards.specs.Movement.{distance, in_reach, on_line, are_near, share_line, goes_by_step, goes_by_slide, fits, IsBetween, StepsAreNear, SlidesShareLine}
use Rattle.board_core.specs.Board.{Board, piece_at, is_king_of}
use Rattle.shogi_rules.specs.Rules.{landed_piece, after_board, after_drop, AttacksFrom, IsInCheck, IsOwn}
use Rattle.attack_lines.specs.Lines.{AttacksWithout}
use Rattle.attack_laws.proofs.Lying.{not_last}
use Rattle.attack_laws.proofs.Arrived.{Arrives, arrives_board, some_of, some_by, none_some, clear_with, clear_without}
use Rattle.attack_laws.proofs.Stopped.{between_decided}

-- 1. KINGS.

pub king_by : (side : Side) (piece : Piece) → piece.kind ≡ King → piece.side ≡ side → is_king_of side (Some piece) ≡ true
king_by side piece kind own = rw (kind, own) (same_side_itself side)

king_kind : (k : Kind) → same_kind k King ≡ true → k ≡ King
king_kind Pawn h = absurd (cc)
king_kind Lance h = absurd (cc)
king_kind Knight h = absurd (cc)
king_kind Silver h = absurd (cc)
king_kind Gold h = absurd (cc)
king_kind Bishop h = absurd (cc)
king_kind Rook h = absurd (cc)
king_kind King h = refl

-- a side's king is a piece of it, of the kind
pub king_parts : (side : Side) (cell : Option Piece) → is_king_of side cell ≡ true → IsSomeAnd cell (λ piece. (piece.kind ≡ King) × (piece.side ≡ side))
king_parts side None h = absurd (cc)
king_parts side (Some piece) h = let t = and_parts _ _ h in (king_kind piece.kind t.0, same_side_is piece.side side t.1)

-- a piece that isn't a king is no side's king
pub not_king : (side : Side) (piece : Piece) → piece.kind ≢ King → is_king_of side (Some piece) ≡ true → ⊥
not_king side piece plain is = let t = king_parts side (Some piece) is in plain t.0

-- a piece of the one side is none of the other
no_side : (piece : Piece) (side : Side) → piece.side ≡ side → piece.side ≡ other side → ⊥
no_side piece side own foe = sides_differ side (subst (λ (s : Side). same_side side s ≡ true) (sym own ∙ foe) (same_side_itself side))

-- the side's king stands there, and no other king of it
pub record IsOnlyKing (cells : List (Option Piece)) (side : Side) (king : ℕ) : Type 0 where
  pub low : king < 81
  pub here : is_king_of side (piece_at cells king) ≡ true
  pub only : (s : ℕ) → is_king_of side (piece_at cells s) ≡ true → s ≡ king

pub attacked_there : (cells : List (Option Piece)) (side : Side) (king s : ℕ) → IsOnlyKing cells side king → s < 81 → AttacksFrom cells (other side) s king → IsInCheck cells side
attacked_there cells side king s k low attack = (king, k.low, record { king = k.here; attacked = (s, low, attack) })

-- who attacks the king of a side in check
pub record HasAttacker (cells : List (Option Piece)) (side : Side) (king : ℕ) : Type 0 where
  pub from : ℕ
  pub low : from < 81
  pub attack : AttacksFrom cells (other side) from king

pub attacker_there : (cells : List (Option Piece)) (side : Side) (king : ℕ) → IsOnlyKing cells side king → IsInCheck cells side → HasAttacker cells side king
attacker_there cells side king k check =
    let a = check.2.attacked in
    record { from = a.0; low = a.1; attack = subst (λ (x : ℕ). AttacksFrom cells (other side) a.0 x) (k.only check.0 check.2.king) a.2 }

-- 2. A PIECE THAT ISN'T THE KING MOVES.

-- the side's piece stands there, and goes to a square where none of it stands
pub record Leaves (b : Board) (from to : ℕ) (piece : Piece) : Type 0 where
  pub long : length b.cells ≡ 81
  pub start : from < 81
  pub on_board : to < 81
  pub apart : from ≢ to
  pub there : piece_at b.cells from ≡ Some piece
  pub own : piece.side ≡ b.side
  pub free : ¬ IsOwn b to

arrived : (b : Board) (from to : ℕ) (promote : Bool) (piece : Piece) → Leaves b from to piece
    → Arrives b.cells (after_board b from to promote).cells from to (landed_piece promote piece)
arrived b from to promote piece g = arrives_board b from to promote piece g.long g.start g.on_board g.apart g.there

king_own : (b : Board) (king : ℕ) → is_king_of b.side (piece_at b.cells king) ≡ true → IsOwn b king
king_own b king here = let t = some_of (piece_at b.cells king) _ (king_parts b.side (piece_at b.cells king) here) in some_by (piece_at b.cells king) _ t.0 t.1 t.2.1

-- the king stays where he is
king_after : (b : Board) (from to : ℕ) (promote : Bool) (piece : Piece) (king : ℕ) → Leaves b from to piece → piece.kind ≢ King
    → IsOnlyKing b.cells b.side king → IsOnlyKing (after_board b from to promote).cells b.side king
king_after b from to promote piece king g plain k =
    let new = (after_board b from to promote).cells in
    let a = arrived b from to promote piece g in
    record {
      low = k.low;
      here =
          let not_to : king ≢ to = λ e. g.free (subst (IsOwn b) e (king_own b king k.here)) in
          let not_from : king ≢ from = λ e. not_king b.side piece plain (ap (is_king_of b.side) (sym g.there ∙ sym (ap (piece_at b.cells) e)) ∙ k.here) in
          ap (is_king_of b.side) (a.elsewhere king not_to not_from) ∙ k.here;
      only = λ s is. elim (cases_eq s to) [
        | inl e ↦ absurd (not_king b.side (landed_piece promote piece) plain (ap (is_king_of b.side) (sym (ap (piece_at new) e ∙ a.stands)) ∙ is))
        | inr n ↦ elim (cases_eq s from) [
          | inl e ↦ absurd (no_king_here (piece_at new s) b.side (ap (piece_at new) e ∙ a.left) is)
          | inr m ↦ k.only s (ap (is_king_of b.side) (sym (a.elsewhere s n m)) ∙ is)
        ]
      ];
    }

-- on the square a piece stops whoever attacks once the origin is lifted
abbrev pub Stopping : Board → ℕ → ℕ → ℕ → Type 0
Stopping b from to king = (s : ℕ) → s < 81 → AttacksWithout b.cells (other b.side) from s king → (to ≡ s) ⊎ IsBetween s to king

foe_not_there : (b : Board) (from to : ℕ) (promote : Bool) (piece : Piece) (s end : ℕ) → Leaves b from to piece
    → AttacksFrom (after_board b from to promote).cells (other b.side) s end → s ≢ to
foe_not_there b from to promote piece s end g attack e =
    let new = (after_board b from to promote).cells in
    let a = arrived b from to promote piece g in
    let t = some_of (piece_at new s) _ attack in
    let same : Some t.0 ≡ Some (landed_piece promote piece) = sym t.1 ∙ (ap (piece_at new) e ∙ a.stands) in
    no_side (landed_piece promote piece) b.side g.own (subst (λ (p : Piece). p.side ≡ other b.side) (same_Some t.0 _ same) t.2.0)

foe_stays : (b : Board) (from to : ℕ) (promote : Bool) (piece : Piece) (s end : ℕ) → Leaves b from to piece → s ≢ to
    → AttacksWithout b.cells (other b.side) from s end → ¬ IsBetween s to end
    → AttacksFrom (after_board b from to promote).cells (other b.side) s end
foe_stays b from to promote piece s end g apart attack aside =
    let new = (after_board b from to promote).cells in
    let a = arrived b from to promote piece g in
    let t = some_of (piece_at b.cells s) _ attack in
    let n : s ≢ from = λ e. no_side t.0 b.side
    (subst (λ (p : Piece). p.side ≡ b.side) (same_Some piece t.0 (sym g.there ∙ (sym (ap (piece_at b.cells) e) ∙ t.1))) g.own) t.2.0 in
    some_by (piece_at new s) _ t.0 (a.elsewhere s apart n ∙ t.1)
    (t.2.0, record { fit = t.2.1.0; clear = clear_with b.cells new from to (landed_piece promote piece) s end a t.2.1.1 aside })

-- who attacks after the move did so once the origin was lifted, and isn't cut off
foe_before : (b : Board) (from to : ℕ) (promote : Bool) (piece : Piece) (s end : ℕ) → Leaves b from to piece
    → AttacksFrom (after_board b from to promote).cells (other b.side) s end
    → AttacksWithout b.cells (other b.side) from s end × (¬ IsBetween s to end)
foe_before b from to promote piece s end g attack =
    let new = (after_board b from to promote).cells in
    let a = arrived b from to promote piece g in
    let t = some_of (piece_at new s) _ attack in
    let apart = foe_not_there b from to promote piece s end g attack in
    let n : s ≢ from = λ e. none_some {A = ⊥} (piece_at new s) t.0 (ap (piece_at new) e ∙ a.left) t.1 in (
      some_by (piece_at b.cells s) _ t.0 (sym (a.elsewhere s apart n) ∙ t.1)
          (t.2.0, (t.2.1.fit, clear_without b.cells new from to (landed_piece promote piece) s end a t.2.1.clear)),
      (λ between. none_some {A = ⊥} (piece_at new to) (landed_piece promote piece) (t.2.1.clear to between) a.stands),
    )

pub safe_of : (b : Board) (from to : ℕ) (promote : Bool) (piece : Piece) (king : ℕ) → Leaves b from to piece → piece.kind ≢ King
    → IsOnlyKing b.cells b.side king → Stopping b from to king → ¬ IsInCheck (after_board b from to promote).cells b.side
safe_of b from to promote piece king g plain k stopping check =
    let new = (after_board b from to promote).cells in
    let h = attacker_there new b.side king (king_after b from to promote piece king g plain k) check in
    let before = foe_before b from to promote piece h.from king g h.attack in
    elim (stopping h.from h.low before.0) [
      | inl e ↦ foe_not_there b from to promote piece h.from king g h.attack (sym e)
      | inr between ↦ before.1 between
    ]

pub stopping_of : (b : Board) (from to : ℕ) (promote : Bool) (piece : Piece) (king : ℕ) → Leaves b from to piece → piece.kind ≢ King
    → IsOnlyKing b.cells b.side king → ¬ IsInCheck (after_board b from to promote).cells b.side → Stopping b from to king
stopping_of b from to promote piece king g plain k safe s low attack =
    let new = (after_board b from to promote).cells in
    elim (cases_eq to s) [
      | inl e ↦ inl e
      | inr n ↦ elim (between_decided s to king) [
        | inl between ↦ inr between
        | inr aside ↦ absurd (safe (attacked_there new b.side king s (king_after b from to promote piece king g plain k) low
            (foe_stays b from to promote piece s king g (λ e. n (sym e)) attack aside)))
      ]
    ]

-- 3. THE KING MOVES.

not_itself : StepsAreNear → SlidesShareLine → (piece : Piece) (x : ℕ) → x < 81 → IsTrue (fits piece x x) → ⊥
not_itself near lined piece x low fit = elim (or_cases (goes_by_step piece x x) (goes_by_slide piece x x) fit) [
  | inl step ↦
      let e : are_near x x ≡ false = ap (λ d. in_reach d (distance (x % 9) (x % 9))) (nowhere (x / 9)) ∙ ap (λ d. in_reach 0 d) (nowhere (x % 9)) in
      let t = near piece x x low low step in
      absurd (cc)
  | inr slide ↦
      let e : share_line x x ≡ false = ap (λ d. on_line d (distance (x % 9) (x % 9))) (nowhere (x / 9)) ∙ ap (λ d. on_line 0 d) (nowhere (x % 9)) in
      let t = lined piece x x low low slide in
      absurd (cc)
]

king_moved : (b : Board) (from to : ℕ) (promote : Bool) (piece : Piece) → Leaves b from to piece → piece.kind ≡ King
    → IsOnlyKing b.cells b.side from → IsOnlyKing (after_board b from to promote).cells b.side to
king_moved b from to promote piece g kind k =
    let new = (after_board b from to promote).cells in
    let a = arrived b from to promote piece g in
    record {
      low = g.on_board;
      here = ap (is_king_of b.side) a.stands ∙ king_by b.side (landed_piece promote piece) kind g.own;
      only = λ s is. elim (cases_eq s to) [
        | inl e ↦ e
        | inr n ↦ elim (cases_eq s from) [
          | inl e ↦ absurd (no_king_here (piece_at new s) b.side (ap (piece_at new) e ∙ a.left) is)
          | inr m ↦ absurd (m (k.only s (ap (is_king_of b.side) (sym (a.elsewhere s n m)) ∙ is)))
        ]
      ];
    }

pub king_safe_of : (b : Board) (from to : ℕ) (promote : Bool) (piece : Piece) → Leaves b from to piece → piece.kind ≡ King
    → IsOnlyKing b.cells b.side from → ((s : ℕ) → s < 81 → ¬ AttacksWithout b.cells (other b.side) from s to)
    → ¬ IsInCheck (after_board b from to promote).cells b.side
king_safe_of b from to promote piece g kind k none check =
    let new = (after_board b from to promote).cells in
    let h = attacker_there new b.side to (king_moved b from to promote piece g kind k) check in
    none h.from h.low (foe_before b from to promote piece h.from to g h.attack).0

pub king_none_of : StepsAreNear → SlidesShareLine → (b : Board) (from to : ℕ) (promote : Bool) (piece : Piece) → Leaves b from to piece → piece.kind ≡ King
    → IsOnlyKing b.cells b.side from → ¬ IsInCheck (after_board b from to promote).cells b.side
    → (s : ℕ) → s < 81 → ¬ AttacksWithout b.cells (other b.side) from s to
king_none_of near lined b from to promote piece g kind k safe s low attack =
    let new = (after_board b from to promote).cells in
    let t = some_of (piece_at b.cells s) _ attack in
    let apart : s ≢ to = λ e. not_itself near lined t.0 to g.on_board (subst (λ (x : ℕ). IsTrue (fits t.0 x to)) e t.2.1.0) in
    safe (attacked_there new b.side to s (king_moved b from to promote piece g kind k) low
    (foe_stays b from to promote piece s to g apart attack (λ between. not_last s to to between refl)))

-- 4. A DROP.

-- on an empty square a piece came to stand
pub record Dropped (old new : List (Option Piece)) (to : ℕ) (piece : Piece) : Type 0 where
  pub before : piece_at old to ≡ None
  pub now : piece_at new to ≡ Some piece
  pub elsewhere : (s : ℕ) → s ≢ to → piece_at new s ≡ piece_at old s

pub dropped : (b : Board) (wanted : Kind) (to : ℕ) → length b.cells ≡ 81 → to < 81 → piece_at b.cells to ≡ None
    → Dropped b.cells (after_drop b wanted to).cells to (plain_piece wanted b.side)
dropped b wanted to long low empty = record {
  before = empty;
  now = piece_at-set_same b.cells to (Some (plain_piece wanted b.side)) (omega arith);
  elsewhere = λ s n. piece_at-set_other b.cells to s (Some (plain_piece wanted b.side)) n;
}

pub king_dropped : (old new : List (Option Piece)) (side : Side) (to : ℕ) (piece : Piece) (king : ℕ) → Dropped old new to piece → piece.kind ≢ King
    → IsOnlyKing old side king → IsOnlyKing new side king
king_dropped old new side to piece king d plain k = record {
  low = k.low;
  here = ap (is_king_of side) (d.elsewhere king (λ e. no_king_here (piece_at old king) side (ap (piece_at old) e ∙ d.before) k.here)) ∙ k.here;
  only = λ s is. elim (cases_eq s to) [
    | inl e ↦ absurd (not_king side piece plain (ap (is_king_of side) (sym (ap (piece_at new) e ∙ d.now)) ∙ is))
    | inr n ↦ k.only s (ap (is_king_of side) (sym (d.elsewhere s n)) ∙ is)
  ];
}

-- who attacks after the drop, and isn't the piece that was dropped, attacked before, and it doesn't
-- stand between
pub attacked_before : (old new : List (Option Piece)) (side : Side) (to : ℕ) (piece : Piece) (s end : ℕ) → Dropped old new to piece → s ≢ to
    → AttacksFrom new side s end → AttacksFrom old side s end × (¬ IsBetween s to end)
attacked_before old new side to piece s end d apart attack =
    let t = some_of (piece_at new s) _ attack in (
      some_by (piece_at old s) _ t.0 (sym (d.elsewhere s apart) ∙ t.1) (
        t.2.0,
        record {
          fit = t.2.1.fit;
          clear = λ m between. elim (cases_eq m to) [
            | inl e ↦ ap (piece_at old) e ∙ d.before
            | inr n ↦ sym (d.elsewhere m n) ∙ t.2.1.clear m between
          ];
        },
      ),
      (λ between. none_some {A = ⊥} (piece_at new to) piece (t.2.1.clear to between) d.now),
    )

attacks_still : (old new : List (Option Piece)) (side : Side) (to : ℕ) (piece : Piece) (s end : ℕ) → Dropped old new to piece
    → AttacksFrom old side s end → ¬ IsBetween s to end → AttacksFrom new side s end
attacks_still old new side to piece s end d attack aside =
    let t = some_of (piece_at old s) _ attack in
    let apart : s ≢ to = λ e. none_some {A = ⊥} (piece_at old s) t.0 (ap (piece_at old) e ∙ d.before) t.1 in
    some_by (piece_at new s) _ t.0 (d.elsewhere s apart ∙ t.1) (
      t.2.0,
      record {
        fit = t.2.1.fit;
        clear = λ m between. d.elsewhere m (λ e. aside (subst (λ (x : ℕ). IsBetween s x end) e between)) ∙ t.2.1.clear m between;
      },
    )

pub drop_safe_of : (b : Board) (to : ℕ) (piece : Piece) (new : List (Option Piece)) (king : ℕ) → Dropped b.cells new to piece → piece.kind ≢ King
    → piece.side ≡ b.side → IsOnlyKing b.cells b.side king
    → ((s : ℕ) → s < 81 → AttacksFrom b.cells (other b.side) s king → (to ≡ s) ⊎ IsBetween s to king) → ¬ IsInCheck new b.side
drop_safe_of b to piece new king d kind own k stopping check =
    let h = attacker_there new b.side king (king_dropped b.cells new b.side to piece king d kind k) check in
    let apart : h.from ≢ to = λ e.
    let t = some_of (piece_at new h.from) _ h.attack in
    no_side piece b.side own (subst (λ (p : Piece). p.side ≡ other b.side) (same_Some t.0 piece (sym t.1 ∙ (ap (piece_at new) e ∙ d.now))) t.2.0) in
    let before = attacked_before b.cells new (other b.side) to piece h.from king d apart h.attack in
    elim (stopping h.from h.low before.0) [
      | inl e ↦ apart (sym e)
      | inr between ↦ before.1 between
    ]

pub drop_stopping_of : (b : Board) (to : ℕ) (piece : Piece) (new : List (Option Piece)) (king : ℕ) → Dropped b.cells new to piece → piece.kind ≢ King
    → IsOnlyKing b.cells b.side king → ¬ IsInCheck new b.side
    → (s : ℕ) → s < 81 → AttacksFrom b.cells (other b.side) s king → (to ≡ s) ⊎ IsBetween s to king
drop_stopping_of b to piece new king d kind k safe s low attack =
    elim (between_decided s to king) [
      | inl between ↦ inr between
      | inr aside ↦ absurd (safe (attacked_there new b.side king s (king_dropped b.cells new b.side to piece king d kind k) low
          (attacks_still b.cells new (other b.side) to piece s king d attack aside)))
    ]

-- 5. NO KING.

-- a side without a king has none after a piece moved that is none, so isn't in check
pub kingless_moved : (b : Board) (from to : ℕ) (promote : Bool) (piece : Piece) → Leaves b from to piece → piece.kind ≢ King
    → ((s : ℕ) → is_king_of b.side (piece_at b.cells s) ≡ false) → ¬ IsInCheck (after_board b from to promote).cells b.side
kingless_moved b from to promote piece g plain none check =
    let new = (after_board b from to promote).cells in
    let a = arrived b from to promote piece g in
    let s = check.0 in
    let is = check.2.king in
    elim (cases_eq s to) [
      | inl e ↦ not_king b.side (landed_piece promote piece) plain (ap (is_king_of b.side) (sym (ap (piece_at new) e ∙ a.stands)) ∙ is)
      | inr n ↦ elim (cases_eq s from) [
        | inl e ↦ no_king_here (piece_at new s) b.side (ap (piece_at new) e ∙ a.left) is
        | inr m ↦ let before = none s in let now = ap (is_king_of b.side) (sym (a.elsewhere s n m)) ∙ is in absurd (cc)
      ]
    ]

pub kingless_dropped : (old new : List (Option Piece)) (side : Side) (to : ℕ) (piece : Piece) → Dropped old new to piece → piece.kind ≢ King
    → ((s : ℕ) → is_king_of side (piece_at old s) ≡ false) → ¬ IsInCheck new side
kingless_dropped old new side to piece d plain none check =
    let s = check.0 in
    let is = check.2.king in
    elim (cases_eq s to) [
      | inl e ↦ not_king side piece plain (ap (is_king_of side) (sym (ap (piece_at new) e ∙ d.now)) ∙ is)
      | inr n ↦ let before = none s in let now = ap (is_king_of side) (sym (d.elsewhere s n)) ∙ is in absurd (cc)
    ]
