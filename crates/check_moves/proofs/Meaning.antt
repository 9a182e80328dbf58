-- What makes a legal move a check: the piece that moved reaches the king, or another is unveiled.
use Rattle.std.proofs.Common.{◌≡◌, ◌≢◌, ◌<◌, ◌/◌, ◌&&◌, ◌||◌, ◌⊎◌, ◌↔◌, inl, inr, ℕ, List, Option, Some, None, Bool, true, false, length, not, IsTrue, IsSome, arith, refl, sym, ap, subst, ◌∙◌}
use Rattle.std.specs.Prelude.{IsSomeAnd}
use Rattle.std.proofs.lemmas.Bool.{cases_eq, and_parts, or_cases, or_left, or_right, not-true}
use Rattle.std.proofs.lemmas.Option.{same_Some}
use Rattle.board_laws.proofs.Cells.{piece_at-set_same, piece_at-set_other, no_king_here}
use Rattle.board_laws.proofs.Sides.{other_twice, sides_differ}
use Rattle.bit_boards.specs.declared.piece.Kind.{Kind}
use Rattle.bit_boards.specs.declared.piece.Side.{Side}
use Rattle.bit_boards.specs.declared.piece.Piece.{Piece}
use Rattle.bit_boards.specs.declared.square.Square.{Square}
use Rattle.bit_boards.specs.Kind.{other, same_side, can_promote}
use Rattle.bit_boards.specs.Piece.{plain_piece}
use Rattle.bit_boards.specs.Square.{height}
use Rattle.bit_boards.specs.declared.mask.Mask.{Mask}
use Rattle.bit_boards.specs.Mask.{holds, Holds}
use Rattle.bit_boards.specs.Movement.{fits, steps, slides, distance, StepsAreNear}
use Rattle.board_core.specs.Board.{Board, piece_at, is_king_of}
use Rattle.board_core.specs.Kept.{IsKept}
use Rattle.board_core.specs.declared.moves.Move.{Move}
use Rattle.board_core.specs.declared.moves.Move.TheVariants as moves
use Rattle.shogi_rules.specs.declared.illegal.Illegal.{Illegal}
use Rattle.shogi_rules.specs.declared.illegal.Illegal.TheVariants.{NotThere, OwnPiece}
use Rattle.shogi_rules.specs.Rules.{landed_piece, after_board, after_drop, promotion_fits, Reaches, IsClear, AttacksFrom, IsInCheck, IsQuiet, IsOwn, RefusesBoard, RefusesDrop}
use Rattle.shogi_rules.specs.Tsume.{IsCheck}
use Rattle.shogi_rules.specs.Laws.{LegalBoardMoves, LegalDrops}
use Rattle.attack_laws.specs.Unveiled.{IsUnveiled}
use Rattle.attack_laws.proofs.Lying.{not_first}
use Rattle.attack_laws.proofs.Arrived.{Arrives, arrives_board, some_of, some_by, none_some, reaches_after, reaches_before, unveiled_of, unveiled_attacks}

-- 1. THE DEFENDER'S KING, WHO IS NOT ATTACKED.

-- the king of the side not to move stands there, and no piece of the other attacks him
pub record StandsQuiet (b : Board) (end : ℕ) : Type 0 where
  pub long : length b.cells ≡ 81
  pub low : end < 81
  pub king : is_king_of (other b.side) (piece_at b.cells end) ≡ true
  pub only : (s : ℕ) → is_king_of (other b.side) (piece_at b.cells s) ≡ true → s ≡ end
  pub unattacked : (s : ℕ) → s < 81 → ¬ AttacksFrom b.cells b.side s end

pub stands_quiet : (b : Board) (end : ℕ) → IsKept b → IsQuiet b → end < 81 → is_king_of (other b.side) (piece_at b.cells end) ≡ true
    → ((s : ℕ) → is_king_of (other b.side) (piece_at b.cells s) ≡ true → s ≡ end) → StandsQuiet b end
stands_quiet b end kept quiet low king only = record {
  long = kept.cells;
  low = low;
  king = king;
  only = only;
  unattacked = λ s on attack. quiet (
    end,
    low,
    record {
      king = king;
      attacked = (s, on, subst (λ (side : Side). AttacksFrom b.cells side s end) (sym (other_twice b.side)) attack);
    },
  );
}

-- a piece of the one side is no king of the other
no_foe : (piece : Piece) (side : Side) → piece.side ≡ side → is_king_of (other side) (Some piece) ≡ true → ⊥
no_foe piece side own is = sides_differ side (subst (λ (s : Side). same_side s (other side) ≡ true) own ((and_parts _ _ is).1))

in_check_of : (cells : List (Option Piece)) (side : Side) (end s : ℕ) → end < 81 → is_king_of (other side) (piece_at cells end) ≡ true → s < 81
    → AttacksFrom cells side s end → IsInCheck cells (other side)
in_check_of cells side end s low king on attack =
    (end, low, record { king = king; attacked = (s, on, subst (λ (x : Side). AttacksFrom cells x s end) (sym (other_twice side)) attack) })

-- who attacks the king of a side in check, where he stands
record Attacker (cells : List (Option Piece)) (side : Side) (end : ℕ) : Type 0 where
  pub from : ℕ
  pub low : from < 81
  pub attack : AttacksFrom cells side from end

attacker_of : (cells : List (Option Piece)) (side : Side) (end : ℕ) → ((s : ℕ) → is_king_of (other side) (piece_at cells s) ≡ true → s ≡ end)
    → IsInCheck cells (other side) → Attacker cells side end
attacker_of cells side end only check =
    let here : check.0 ≡ end = only check.0 check.2.king in
    let a = check.2.attacked in
    let attack = subst (λ (x : Side). AttacksFrom cells x a.0 check.0) (other_twice side) a.2 in
    record { from = a.0; low = a.1; attack = subst (λ (x : ℕ). AttacksFrom cells side a.0 x) here attack }

-- 2. A MOVE ON THE BOARD.

-- the side's piece may go there but for what it promotes to and leaves behind
pub record Goes (b : Board) (from to : ℕ) (piece : Piece) : Type 0 where
  pub start : from < 81
  pub on_board : to < 81
  pub there : piece_at b.cells from ≡ Some piece
  pub own : piece.side ≡ b.side
  pub free : ¬ IsOwn b to
  pub fit : IsTrue (fits piece from to)
  pub clear : IsClear b.cells from to

pub goes_of : LegalBoardMoves → (b : Board) (from to : ℕ) (promote : Bool) (piece : Piece) → from < 81 → to < 81 → piece_at b.cells from ≡ Some piece
    → ((why : Illegal) → ¬ RefusesBoard b from to promote why) → Goes b from to piece
goes_of laws b from to promote piece start end there legal =
    let can = (laws b from to promote).0 legal in
    record {
      start = start;
      on_board = end;
      there = there;
      own = subst (λ (c : Option Piece). IsSomeAnd c (λ p. p.side ≡ b.side)) there can.own;
      free = can.free;
      fit = subst (λ (c : Option Piece). IsSomeAnd c (λ p. IsTrue (fits p from to))) there can.fits;
      clear = can.clear;
    }

apart : (b : Board) (from to : ℕ) (piece : Piece) → Goes b from to piece → from ≢ to
apart b from to piece g same = g.free (subst (λ (s : ℕ). IsOwn b s) same (some_by (piece_at b.cells from) _ piece g.there g.own))

arrives : (b : Board) (from to : ℕ) (promote : Bool) (piece : Piece) → length b.cells ≡ 81 → Goes b from to piece
    → Arrives b.cells (after_board b from to promote).cells from to (landed_piece promote piece)
arrives b from to promote piece long g = arrives_board b from to promote piece long g.start g.on_board (apart b from to piece g) g.there

-- no king is taken
king_untouched : (b : Board) (from to : ℕ) (piece : Piece) (end : ℕ) → StandsQuiet b end → Goes b from to piece → end ≢ to
king_untouched b from to piece end q g e =
    q.unattacked from g.start (subst (λ (x : ℕ). AttacksFrom b.cells b.side from x) (sym e)
    (some_by (piece_at b.cells from) _ piece g.there (g.own, record { fit = g.fit; clear = g.clear })))

not_origin : (b : Board) (from to : ℕ) (piece : Piece) (end : ℕ) → StandsQuiet b end → Goes b from to piece → end ≢ from
not_origin b from to piece end q g e =
    no_foe piece b.side g.own (subst (λ (c : Option Piece). is_king_of (other b.side) c ≡ true) (ap (piece_at b.cells) e ∙ g.there) q.king)

king_after : (b : Board) (from to : ℕ) (promote : Bool) (piece : Piece) (end : ℕ) → StandsQuiet b end → Goes b from to piece
    → is_king_of (other b.side) (piece_at (after_board b from to promote).cells end) ≡ true
king_after b from to promote piece end q g =
    let a = arrives b from to promote piece q.long g in
    ap (is_king_of (other b.side)) (a.elsewhere end (king_untouched b from to piece end q g) (not_origin b from to piece end q g)) ∙ q.king

-- a king of the other side that stands after the move stood there before
king_was : (b : Board) (from to : ℕ) (promote : Bool) (piece : Piece) → length b.cells ≡ 81 → Goes b from to piece
    → (s : ℕ) → is_king_of (other b.side) (piece_at (after_board b from to promote).cells s) ≡ true → is_king_of (other b.side) (piece_at b.cells s) ≡ true
king_was b from to promote piece long g s is =
    let new = (after_board b from to promote).cells in
    let a = arrives b from to promote piece long g in
    elim (cases_eq s to) [
      | inl e ↦ absurd (no_foe (landed_piece promote piece) b.side g.own (subst (λ (c : Option Piece). is_king_of (other b.side) c ≡ true) (ap (piece_at new) e ∙ a.stands) is))
      | inr n ↦ elim (cases_eq s from) [
        | inl e ↦ absurd (no_king_here (piece_at new s) (other b.side) (ap (piece_at new) e ∙ a.left) is)
        | inr m ↦ ap (is_king_of (other b.side)) (sym (a.elsewhere s n m)) ∙ is
      ]
    ]

only_after : (b : Board) (from to : ℕ) (promote : Bool) (piece : Piece) (end : ℕ) → StandsQuiet b end → Goes b from to piece
    → (s : ℕ) → is_king_of (other b.side) (piece_at (after_board b from to promote).cells s) ≡ true → s ≡ end
only_after b from to promote piece end q g s is = q.only s (king_was b from to promote piece q.long g s is)

-- the piece that has come reaches the king, or another one is unveiled
abbrev pub Aims : Board → ℕ → ℕ → Piece → ℕ → Type 0
Aims b from to landed end = Reaches b.cells landed to end ⊎ IsUnveiled b.cells b.side from to end

aims_of : StepsAreNear → (b : Board) (from to : ℕ) (promote : Bool) (piece : Piece) (end : ℕ) → StandsQuiet b end → Goes b from to piece
    → Attacker (after_board b from to promote).cells b.side end → Aims b from to (landed_piece promote piece) end
aims_of near b from to promote piece end q g k =
    let new = (after_board b from to promote).cells in
    let a = arrives b from to promote piece q.long g in
    elim (cases_eq k.from to) [
      | inl e ↦
          let t = some_of (piece_at new k.from) _ k.attack in
          let same : t.0 ≡ landed_piece promote piece = same_Some _ _ (sym t.1 ∙ (ap (piece_at new) e ∙ a.stands)) in
          let reach = subst (λ (x : ℕ). Reaches new (landed_piece promote piece) x end) e (subst (λ (p : Piece). Reaches new p k.from end) same t.2.1) in
          inl (reaches_before near b.cells new from to promote piece end g.on_board q.low a g.there
          (subst (λ (s : Side). ¬ AttacksFrom b.cells s from end) (sym g.own) (q.unattacked from g.start)) reach)
      | inr n ↦ inr (unveiled_of b.cells new b.side from to (landed_piece promote piece) k.from end a k.low n k.attack)
    ]

checks_by : (b : Board) (from to : ℕ) (promote : Bool) (piece : Piece) (end : ℕ) → StandsQuiet b end → Goes b from to piece
    → Aims b from to (landed_piece promote piece) end → IsInCheck (after_board b from to promote).cells (other b.side)
checks_by b from to promote piece end q g (inl reach) =
    let new = (after_board b from to promote).cells in
    let a = arrives b from to promote piece q.long g in
    in_check_of new b.side end to q.low (king_after b from to promote piece end q g) g.on_board
    (some_by (piece_at new to) _ (landed_piece promote piece) a.stands (g.own, reaches_after b.cells new from to (landed_piece promote piece) end a reach))
checks_by b from to promote piece end q g (inr u) =
    let new = (after_board b from to promote).cells in
    let a = arrives b from to promote piece q.long g in
    in_check_of new b.side end u.from q.low (king_after b from to promote piece end q g) u.on_board
    (unveiled_attacks b.cells new b.side from to (landed_piece promote piece) end a (q.unattacked from g.start) g.free u)

-- a legal move is a check where it aims at the king
pub check_board : StepsAreNear → LegalBoardMoves → (b : Board) (end : ℕ) → StandsQuiet b end → (from to : Square) (promote : Bool) (piece : Piece)
    → piece_at b.cells from.number ≡ Some piece
    → IsCheck b.side b (moves.Board from to promote)
    ↔ (((why : Illegal) → ¬ RefusesBoard b from.number to.number promote why) × Aims b from.number to.number (landed_piece promote piece) end)
check_board near laws b end q from to promote piece there = (
  λ check.
      let legal = check.legal in
      let stands : (why : Illegal) → ¬ RefusesBoard b from.number to.number promote why = λ why. legal why in
      let g = goes_of laws b from.number to.number promote piece from.on_board to.on_board there stands in (
        stands,
        aims_of near b from.number to.number promote piece end q g
            (attacker_of (after_board b from.number to.number promote).cells b.side end (only_after b from.number to.number promote piece end q g) check.check),
      ),
  λ both.
      let g = goes_of laws b from.number to.number promote piece from.on_board to.on_board there both.0 in
      record {
        mover = refl;
        legal = λ why. both.0 why;
        check = checks_by b from.number to.number promote piece end q g both.1;
      },
)

-- 3. A DROP.

record Stands (old new : List (Option Piece)) (to : ℕ) (piece : Piece) : Type 0 where
  pub before : piece_at old to ≡ None
  pub now : piece_at new to ≡ Some piece
  pub elsewhere : (s : ℕ) → s ≢ to → piece_at new s ≡ piece_at old s

stands : (b : Board) (kind : Kind) (to : ℕ) → length b.cells ≡ 81 → to < 81 → piece_at b.cells to ≡ None
    → Stands b.cells (after_drop b kind to).cells to (plain_piece kind b.side)
stands b kind to long low empty = record {
  before = empty;
  now = piece_at-set_same b.cells to (Some (plain_piece kind b.side)) (omega arith);
  elsewhere = λ s n. piece_at-set_other b.cells to s (Some (plain_piece kind b.side)) n;
}

reaches_dropped : (old new : List (Option Piece)) (to : ℕ) (piece : Piece) (end : ℕ) → Stands old new to piece → Reaches old piece to end → Reaches new piece to end
reaches_dropped old new to piece end s r = record { fit = r.fit; clear = λ m between. s.elsewhere m (not_first to m end between) ∙ r.clear m between }

reaches_undropped : (old new : List (Option Piece)) (to : ℕ) (piece : Piece) (end : ℕ) → Stands old new to piece → Reaches new piece to end → Reaches old piece to end
reaches_undropped old new to piece end s r = record { fit = r.fit; clear = λ m between. sym (s.elsewhere m (not_first to m end between)) ∙ r.clear m between }

attacks_undropped : (old new : List (Option Piece)) (side : Side) (to : ℕ) (piece : Piece) (from end : ℕ) → Stands old new to piece → from ≢ to
    → AttacksFrom new side from end → AttacksFrom old side from end
attacks_undropped old new side to piece from end s apart attack =
    let t = some_of (piece_at new from) _ attack in
    some_by (piece_at old from) _ t.0 (sym (s.elsewhere from apart) ∙ t.1) (
      t.2.0,
      record {
        fit = t.2.1.fit;
        clear = λ m between. elim (cases_eq m to) [
          | inl e ↦ ap (piece_at old) e ∙ s.before
          | inr n ↦ sym (s.elsewhere m n) ∙ t.2.1.clear m between
        ];
      },
    )

king_dropped : (b : Board) (kind : Kind) (to end : ℕ) → StandsQuiet b end → Stands b.cells (after_drop b kind to).cells to (plain_piece kind b.side)
    → is_king_of (other b.side) (piece_at (after_drop b kind to).cells end) ≡ true
king_dropped b dropped to end q s =
    let n : end ≢ to = λ e. no_king_here (piece_at b.cells end) (other b.side) (ap (piece_at b.cells) e ∙ s.before) q.king in
    ap (is_king_of (other b.side)) (s.elsewhere end n) ∙ q.king

king_stood : (b : Board) (kind : Kind) (to : ℕ) → Stands b.cells (after_drop b kind to).cells to (plain_piece kind b.side)
    → (x : ℕ) → is_king_of (other b.side) (piece_at (after_drop b kind to).cells x) ≡ true → is_king_of (other b.side) (piece_at b.cells x) ≡ true
king_stood b kind to s x is =
    let new = (after_drop b kind to).cells in
    elim (cases_eq x to) [
      | inl e ↦ absurd (no_foe (plain_piece kind b.side) b.side refl (subst (λ (c : Option Piece). is_king_of (other b.side) c ≡ true) (ap (piece_at new) e ∙ s.now) is))
      | inr n ↦ ap (is_king_of (other b.side)) (sym (s.elsewhere x n)) ∙ is
    ]

only_dropped : (b : Board) (kind : Kind) (to end : ℕ) → StandsQuiet b end → Stands b.cells (after_drop b kind to).cells to (plain_piece kind b.side)
    → (x : ℕ) → is_king_of (other b.side) (piece_at (after_drop b kind to).cells x) ≡ true → x ≡ end
only_dropped b kind to end q s x is = q.only x (king_stood b kind to s x is)

reach_of_drop : (b : Board) (kind : Kind) (to end : ℕ) → StandsQuiet b end → Stands b.cells (after_drop b kind to).cells to (plain_piece kind b.side)
    → Attacker (after_drop b kind to).cells b.side end → Reaches b.cells (plain_piece kind b.side) to end
reach_of_drop b kind to end q s k =
    let new = (after_drop b kind to).cells in
    let piece = plain_piece kind b.side in
    elim (cases_eq k.from to) [
      | inl e ↦
          let t = some_of (piece_at new k.from) _ k.attack in
          let same : t.0 ≡ piece = same_Some _ _ (sym t.1 ∙ (ap (piece_at new) e ∙ s.now)) in
          let reach = subst (λ (x : ℕ). Reaches new piece x end) e (subst (λ (p : Piece). Reaches new p k.from end) same t.2.1) in
          reaches_undropped b.cells new to piece end s reach
      | inr n ↦ absurd (q.unattacked k.from k.low (attacks_undropped b.cells new b.side to piece k.from end s n k.attack))
    ]

pub check_drop : LegalDrops → (b : Board) (end : ℕ) → StandsQuiet b end → (kind : Kind) (to : Square)
    → IsCheck b.side b (moves.Drop kind to)
    ↔ (((why : Illegal) → ¬ RefusesDrop b kind to.number why) × Reaches b.cells (plain_piece kind b.side) to.number end)
check_drop laws b end q kind to = (
  λ check.
      let legal = check.legal in
      let may : (why : Illegal) → ¬ RefusesDrop b kind to.number why = λ why. legal why in
      let s = stands b kind to.number q.long to.on_board (let can = (laws b kind to.number).0 may in can.empty) in (
        may,
        reach_of_drop b kind to.number end q s
            (attacker_of (after_drop b kind to.number).cells b.side end (only_dropped b kind to.number end q s) check.check),
      ),
  λ both.
      let s = stands b kind to.number q.long to.on_board (let can = (laws b kind to.number).0 both.0 in can.empty) in
      record {
        mover = refl;
        legal = λ why. both.0 why;
        check = in_check_of (after_drop b kind to.number).cells b.side end to.number q.low (king_dropped b kind to.number end q s) to.on_board
            (some_by (piece_at (after_drop b kind to.number).cells to.number) _ (plain_piece kind b.side) s.now
            (refl, reaches_dropped b.cells (after_drop b kind to.number).cells to.number (plain_piece kind b.side) end s both.1));
      },
)

-- 4. WHERE NO MOVE IS A CHECK.

-- a side without a king isn't given check
pub kingless : LegalBoardMoves → LegalDrops → (b : Board) → IsKept b → ((s : ℕ) → is_king_of (other b.side) (piece_at b.cells s) ≡ true → ⊥) → (move : Move) → ¬ IsCheck b.side b move
kingless board drop b kept none (moves.Board from to promote) check =
    let legal = check.legal in
    let may : (why : Illegal) → ¬ RefusesBoard b from.number to.number promote why = λ why. legal why in
    let can = (board b from.number to.number promote).0 may in
    let t = some_of (piece_at b.cells from.number) _ can.own in
    let g = goes_of board b from.number to.number promote t.0 from.on_board to.on_board t.1 may in
    let c = check.check in
    none c.0 (king_was b from.number to.number promote t.0 kept.cells g c.0 c.2.king)
kingless board drop b kept none (moves.Drop dropped to) check =
    let legal = check.legal in
    let may : (why : Illegal) → ¬ RefusesDrop b dropped to.number why = λ why. legal why in
    let s = stands b dropped to.number kept.cells to.on_board (let can = (drop b dropped to.number).0 may in can.empty) in
    let c = check.check in
    none c.0 (king_stood b dropped to.number s c.0 c.2.king)

-- a square that wasn't found is none
pub not_none : (found : Option Square) → found ≡ None → IsSome found → ⊥
not_none found e is = cc

-- 5. AS SETS.

reaches_alike : (cells : List (Option Piece)) (p q : Piece) (from to : ℕ) → p.kind ≡ q.kind → p.promoted ≡ q.promoted → p.side ≡ q.side
    → Reaches cells p from to → Reaches cells q from to
reaches_alike cells p q from to kind promoted side r =
    let aside = distance (from / 9) (to / 9) in
    let fit = λ (k : Kind) (b : Bool) (s : Side). steps k b aside (height s from) (height s to) || slides k b aside (height s from) (height s to) in
    record {
      fit = subst (λ (s : Side). IsTrue (fit q.kind q.promoted s)) side
          (subst (λ (b : Bool). IsTrue (fit q.kind b p.side)) promoted (subst (λ (k : Kind). IsTrue (fit k p.promoted p.side)) kind r.fit));
      clear = r.clear;
    }

-- pieces that are alike reach the same
pub reached_alike : (cells : List (Option Piece)) (aims : Mask) (p q : Piece) (to end : ℕ) → p.kind ≡ q.kind → p.promoted ≡ q.promoted → p.side ≡ q.side
    → Holds aims to ↔ ((to < 81) × Reaches cells p to end) → Holds aims to ↔ ((to < 81) × Reaches cells q to end)
reached_alike cells aims p q to end kind promoted side are = (
  λ has. let r = are.0 has in (r.0, reaches_alike cells p q to end kind promoted side r.1),
  λ r. are.1 (r.0, reaches_alike cells q p to end (sym kind) (sym promoted) (sym side) r.1),
)

-- a piece that is promoted by a legal move wasn't, and can be
pub promotable : LegalBoardMoves → (b : Board) (from to : ℕ) (piece : Piece) → piece_at b.cells from ≡ Some piece
    → ((why : Illegal) → ¬ RefusesBoard b from to true why) → (piece.promoted ≡ false) × (can_promote piece.kind ≡ true)
promotable laws b from to piece there legal =
    let can = (laws b from to true).0 legal in
    let fit = subst (λ (c : Option Piece). IsSomeAnd c (λ p. IsTrue (promotion_fits p from to true))) there can.promotion in
    let both = and_parts (not piece.promoted && can_promote piece.kind) _ fit in
    let parts = and_parts (not piece.promoted) (can_promote piece.kind) both.0 in
    (not-true piece.promoted parts.0, parts.1)

-- the squares where a piece's move opens a line or aims at the king, as far as it may go there, are
-- those of its checks
pub board_checks_are : StepsAreNear → LegalBoardMoves → (b : Board) (end : ℕ) → StandsQuiet b end → (from to : Square) (promote : Bool) (piece : Piece)
    → piece_at b.cells from.number ≡ Some piece → (made wanted unveils aims : Mask)
    → Holds made to.number ↔ (Holds wanted to.number × ((why : Illegal) → ¬ RefusesBoard b from.number to.number promote why))
    → holds wanted to.number ≡ (holds unveils to.number || holds aims to.number)
    → (¬ IsOwn b to.number → Holds unveils to.number ↔ IsUnveiled b.cells b.side from.number to.number end)
    → (((why : Illegal) → ¬ RefusesBoard b from.number to.number promote why)
    → Holds aims to.number ↔ ((to.number < 81) × Reaches b.cells (landed_piece promote piece) to.number end))
    → Holds made to.number ↔ IsCheck b.side b (moves.Board from to promote)
board_checks_are near laws b end q from to promote piece there made wanted unveils aims are either unveil aim =
    let means = check_board near laws b end q from to promote piece there in (
      λ has.
          let m = are.0 has in
          let free : ¬ IsOwn b to.number = λ own. m.1 OwnPiece own in
          means.1 (
            m.1,
            elim (or_cases _ _ (sym either ∙ m.0)) [
              | inl u ↦ inr ((unveil free).0 u)
              | inr r ↦ inl (let t = (aim m.1).0 r in t.1)
            ],
          ),
      λ check.
          let m = means.0 check in
          let free : ¬ IsOwn b to.number = λ own. m.0 OwnPiece own in
          are.1 (
            either ∙ elim m.1 [
              | inr u ↦ or_left _ _ ((unveil free).1 u)
              | inl r ↦ or_right _ _ ((aim m.0).1 (to.on_board, r))
            ],
            m.0,
          ),
    )

-- where no piece stands, none gives check
pub none_checks : (b : Board) (from to : Square) (promote : Bool) → piece_at b.cells from.number ≡ None → ¬ IsCheck b.side b (moves.Board from to promote)
none_checks b from to promote empty check =
    let legal = check.legal in
    legal NotThere (λ own. let t = some_of (piece_at b.cells from.number) _ own in none_some {A = ⊥} (piece_at b.cells from.number) t.0 empty t.1)

-- the squares from which a dropped piece aims at the king, as far as it may be dropped there, are
-- those of its checks
pub drop_checks_are : LegalDrops → (b : Board) (end : ℕ) → StandsQuiet b end → (dropped : Kind) (to : Square) (made aims : Mask)
    → Holds made to.number ↔ (Holds aims to.number × ((why : Illegal) → ¬ RefusesDrop b dropped to.number why))
    → Holds aims to.number ↔ ((to.number < 81) × Reaches b.cells (plain_piece dropped b.side) to.number end)
    → Holds made to.number ↔ IsCheck b.side b (moves.Drop dropped to)
drop_checks_are laws b end q dropped to made aims are aim =
    let means = check_drop laws b end q dropped to in (
      λ has. let m = are.0 has in let t = aim.0 m.0 in means.1 (m.1, t.1),
      λ check. let m = means.0 check in are.1 (aim.1 (to.on_board, m.1), m.0),
    )
