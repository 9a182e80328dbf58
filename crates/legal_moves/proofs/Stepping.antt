-- Which squares are left of those to which a piece goes.
use Rattle.std.proofs.Common.{◌≡◌, ◌≢◌, ◌<◌, ◌&&◌, ◌⊎◌, ◌↔◌, inl, inr, ℕ, Option, Some, None, Bool, true, false, not, length, sym, ap, subst, ◌∙◌, refl, IsTrue, nat_lt, ◌||◌}
use Rattle.std.specs.Prelude.{IsSomeAnd}
use Rattle.std.proofs.lemmas.Bool.{lt-ltb, both_ways}
use Rattle.std.proofs.lemmas.Bool.{cases_Bool}
use Rattle.board_laws.proofs.Sides.{same_side_itself, same_side_is}
use Rattle.bit_boards.specs.declared.piece.Kind.TheVariants.{King}
use Rattle.bit_boards.specs.declared.piece.Side.{Side}
use Rattle.bit_boards.specs.declared.piece.Piece.{Piece}
use Rattle.bit_boards.specs.declared.square.Square.{Square}
use Rattle.bit_boards.specs.declared.mask.Mask.{Mask}
use Rattle.bit_boards.specs.Mask.{holds, Holds, MasksOnBoard}
use Rattle.bit_boards.specs.Movement.{StepsAreNear, SlidesShareLine}
use Rattle.board_core.specs.Board.{Board, piece_at, is_king_of}
use Rattle.shogi_rules.specs.Rules.{IsInCheck, IsOwn, Reaches, promotion_fits, after_board}
use Rattle.shogi_rules.specs.Laws.{LegalBoardMoves}
use Rattle.board_core.specs.Sets.{is_of_side}
use Rattle.bit_boards.specs.Piece.{is_dead}
use Rattle.bit_boards.specs.Kind.{same_side, other}
use Rattle.attack_lines.specs.Lines.{IsAttackedWithout}
use Rattle.legal_moves.specs.declared.guard.Guard.{Guard}
use Rattle.legal_moves.specs.Legal.{IsLegalBoard, IsGuarded, AreGuarding, IsGuardOf}
use Rattle.legal_moves.specs.Steps.{KeepsKing, IsOpenTo, LeavesFor, MayGo, MovesFrom}
use Rattle.attack_laws.proofs.Arrived.{some_of, some_by}
use Rattle.legal_moves.proofs.Masked.{shared, first_of, second_of, remains, not_taken, from_first, from_second, either_of}
use Rattle.legal_moves.proofs.Sheltered.{Leaves, IsOnlyKing, king_by, safe_of, stopping_of, king_safe_of, king_none_of, kingless_moved}

-- the king's squares that nothing attacks once he has left
pub open_steps : (b : Board) (king : ℕ) (wanted attacked safe : Mask) → ((s : ℕ) → holds safe s ≡ (holds wanted s && not (holds attacked s)))
    → ((to : ℕ) → Holds attacked to ↔ (Holds wanted to × IsAttackedWithout b.cells (other b.side) king to))
    → (to : ℕ) → Holds safe to ↔ (Holds wanted to × IsOpenTo b king to)
open_steps b king wanted attacked safe is are to = (
  (λ has.
      let w = first_of _ _ _ (is to) has in
      (w, λ from low attacks. both_ways (holds attacked to) (not_taken _ _ _ (is to) has) ((are to).1 (w, (from, low, attacks))))),
  (λ both. remains _ _ _ (is to) both.0 (free (cases_Bool (holds attacked to)) both.1)),
) where
  free : (Holds attacked to) ⊎ (holds attacked to ≡ false) → IsOpenTo b king to → holds attacked to ≡ false
  free (inl has) unattacked = let a = ((are to).0 has).1 in absurd (unattacked a.0 a.1 a.2)
  free (inr none) unattacked = none

leaves : MasksOnBoard → (b : Board) (piece : Piece) (from : Square) (squares : Mask) (to : ℕ) → length b.cells ≡ 81 → LeavesFor b from.number piece squares
    → Holds squares to → Leaves b from.number to piece
leaves on_board b piece from squares to long l has = record {
  long = long;
  start = from.on_board;
  on_board = on_board squares to has;
  apart = l.apart to has;
  there = l.there;
  own = l.own;
  free = l.free to has;
}

pub only_king : (b : Board) (king : Square) (stopping shielding : Mask) → IsGuarded b king stopping shielding → IsOnlyKing b.cells b.side king.number
only_king b king stopping shielding g = record { low = king.on_board; here = g.here; only = g.only }

king_here : (b : Board) (piece : Piece) (from : ℕ) → piece_at b.cells from ≡ Some piece → piece.side ≡ b.side → piece.kind ≡ King
    → is_king_of b.side (piece_at b.cells from) ≡ true
king_here b piece from there own kind = ap (is_king_of b.side) there ∙ king_by b.side piece kind own

-- the king of a side that has one is the piece that is a king
king_from : (b : Board) (king : Option Square) (stopping shielding : Mask) (piece : Piece) (from : Square) → AreGuarding b king stopping shielding
    → piece_at b.cells from.number ≡ Some piece → piece.side ≡ b.side → piece.kind ≡ King → IsOnlyKing b.cells b.side from.number
king_from b None stopping shielding piece from g there own kind =
    absurd (both_ways (is_king_of b.side (piece_at b.cells from.number)) (g.none from.number) (king_here b piece from.number there own kind))
king_from b (Some king) stopping shielding piece from g there own kind =
    let k = only_king b king stopping shielding g in
    let e = k.only from.number (king_here b piece from.number there own kind) in
    subst (λ (x : ℕ). IsOnlyKing b.cells b.side x) (sym e) k

pub king_safe : MasksOnBoard → StepsAreNear → SlidesShareLine → (b : Board) (guard : Guard) (piece : Piece) (from : Square) (wanted result : Mask)
    → length b.cells ≡ 81 → IsGuardOf b guard → LeavesFor b from.number piece wanted → piece.kind ≡ King
    → ((t : ℕ) → Holds result t ↔ (Holds wanted t × IsOpenTo b from.number t))
    → (to : ℕ) (promote : Bool) → Holds result to ↔ (Holds wanted to × (¬ IsInCheck (after_board b from.number to promote).cells b.side))
king_safe on_board near lined b guard piece from wanted result long g l kind are to promote =
    let k = king_from b guard.king guard.blocks guard.shields piece from g l.there l.own kind in (
      (λ has.
          let both = (are to).0 has in
          (both.0, king_safe_of b from.number to promote piece (leaves on_board b piece from wanted to long l both.0) kind k both.1)),
      (λ both.
          (are to).1 (both.0, king_none_of near lined b from.number to promote piece (leaves on_board b piece from wanted to long l both.0) kind k both.1)),
    )

keeps_safe : (b : Board) (king : Option Square) (stopping shielding : Mask) (piece : Piece) (from : Square) (to : ℕ) (promote : Bool)
    → AreGuarding b king stopping shielding → Leaves b from.number to piece → piece.kind ≢ King
    → KeepsKing b king from.number to ↔ (¬ IsInCheck (after_board b from.number to promote).cells b.side)
keeps_safe b None stopping shielding piece from to promote g l plain =
    ((λ _. kingless_moved b from.number to promote piece l plain g.none), (λ _. tt))
keeps_safe b (Some king) stopping shielding piece from to promote g l plain =
    let k = only_king b king stopping shielding g in
    ((λ blocks. safe_of b from.number to promote piece king.number l plain k blocks), (λ safe. stopping_of b from.number to promote piece king.number l plain k safe))

pub others_safe : MasksOnBoard → (b : Board) (guard : Guard) (piece : Piece) (from : Square) (wanted result : Mask)
    → length b.cells ≡ 81 → IsGuardOf b guard → LeavesFor b from.number piece wanted → piece.kind ≢ King
    → ((t : ℕ) → Holds result t ↔ (Holds wanted t × KeepsKing b guard.king from.number t))
    → (to : ℕ) (promote : Bool) → Holds result to ↔ (Holds wanted to × (¬ IsInCheck (after_board b from.number to promote).cells b.side))
others_safe on_board b guard piece from wanted result long g l plain are to promote = (
  (λ has.
      let both = (are to).0 has in
      (both.0, (keeps_safe b guard.king guard.blocks guard.shields piece from to promote g (leaves on_board b piece from wanted to long l both.0) plain).0 both.1)),
  (λ both.
      (are to).1 (both.0, (keeps_safe b guard.king guard.blocks guard.shields piece from to promote g (leaves on_board b piece from wanted to long l both.0) plain).1 both.1)),
)

-- the squares where the side's pieces stand are its own

own_held : (b : Board) (side : Side) (cell : Option Piece) → side ≡ b.side → IsSomeAnd cell (λ piece. piece.side ≡ b.side) → is_of_side side cell ≡ true
own_held b side cell e own = let t = some_of cell _ own in ap (is_of_side side) t.1 ∙ (ap (λ (s : Side). same_side t.0.side s) (e ∙ sym t.2) ∙ same_side_itself t.0.side)

held_own : (b : Board) (side : Side) (cell : Option Piece) → side ≡ b.side → is_of_side side cell ≡ true → IsSomeAnd cell (λ piece. piece.side ≡ b.side)
held_own b side None e h = absurd (cc)
held_own b side (Some piece) e h = same_side_is piece.side side h ∙ e

none_held : (p : Bool) → (p ≡ true → ⊥) → p ≡ false
none_held true h = absurd (h refl)
none_held false h = refl

-- where one's own piece stands, and where not

pub not_own_of : (b : Board) (side : Side) (to : ℕ) (occupied : Bool) → side ≡ b.side → occupied ≡ is_of_side side (piece_at b.cells to) → occupied ≡ false → ¬ IsOwn b to
not_own_of b side to occupied e is none own = absurd (both_ways occupied none (is ∙ own_held b side (piece_at b.cells to) e own))

pub not_occupied : (b : Board) (side : Side) (to : ℕ) (occupied : Bool) → side ≡ b.side → occupied ≡ is_of_side side (piece_at b.cells to) → ¬ IsOwn b to → occupied ≡ false
not_occupied b side to occupied e is free = none_held occupied (λ h. free (held_own b side (piece_at b.cells to) e (sym is ∙ h)))

pub occupied_of : (b : Board) (side : Side) (to : ℕ) (occupied : Bool) → side ≡ b.side → occupied ≡ is_of_side side (piece_at b.cells to) → IsOwn b to → occupied ≡ true
occupied_of b side to occupied e is own = is ∙ own_held b side (piece_at b.cells to) e own

own_there : (b : Board) (from : ℕ) (piece : Piece) → piece_at b.cells from ≡ Some piece → piece.side ≡ b.side → IsOwn b from
own_there b from piece there own = some_by (piece_at b.cells from) _ piece there own

-- the squares that a piece reaches, but for those of its own side, are squares to leave for
pub leaves_for : (b : Board) (from : ℕ) (piece : Piece) (reached occupied minus wanted squares : Mask) → piece_at b.cells from ≡ Some piece → piece.side ≡ b.side
    → ((s : ℕ) → holds occupied s ≡ is_of_side piece.side (piece_at b.cells s)) → ((s : ℕ) → holds minus s ≡ (holds reached s && not (holds occupied s)))
    → ((s : ℕ) → holds squares s ≡ (holds minus s && holds wanted s)) → LeavesFor b from piece squares
leaves_for b from piece reached occupied minus wanted squares there own is less both =
    let free : (to : ℕ) → Holds squares to → ¬ IsOwn b to = λ to has.
    not_own_of b piece.side to (holds occupied to) own (is to) (not_taken _ _ _ (less to) (first_of _ _ _ (both to) has)) in
    record {
      there = there;
      own = own;
      apart = λ to has e. free to has (subst (IsOwn b) e (own_there b from piece there own));
      free = free;
    }

pub goes_of : (b : Board) (from : ℕ) (piece : Piece) (reached occupied minus wanted squares safe : Mask) → MasksOnBoard → piece.side ≡ b.side
    → ((s : ℕ) → Holds reached s ↔ ((s < 81) × Reaches b.cells piece from s))
    → ((s : ℕ) → holds occupied s ≡ is_of_side piece.side (piece_at b.cells s)) → ((s : ℕ) → holds minus s ≡ (holds reached s && not (holds occupied s)))
    → ((s : ℕ) → holds squares s ≡ (holds minus s && holds wanted s))
    → ((to : ℕ) (promote : Bool) → Holds safe to ↔ (Holds squares to × (¬ IsInCheck (after_board b from to promote).cells b.side)))
    → (to : ℕ) (promote : Bool) → Holds safe to ↔ (Holds wanted to × MayGo b from to promote piece)
goes_of b from piece reached occupied minus wanted squares safe on_board own reach is less both are to promote = (
  (λ has.
      let s = (are to promote).0 has in
      let m = first_of _ _ _ (both to) s.0 in
      let r = (reach to).0 (first_of _ _ _ (less to) m) in (
        second_of _ _ _ (both to) s.0,
        record {
          on_board = r.0;
          reach = r.1;
          free = not_own_of b piece.side to (holds occupied to) own (is to) (not_taken _ _ _ (less to) m);
          safe = s.1;
        },
      )),
  (λ h.
      let m = remains _ _ _ (less to) ((reach to).1 (h.1.on_board, h.1.reach)) (not_occupied b piece.side to (holds occupied to) own (is to) h.1.free) in
      (are to promote).1 (shared _ _ _ (both to) m h.0, h.1.safe)),
)

-- a piece that reaches none of the squares goes to none
pub goes_none : (b : Board) (from : ℕ) (piece : Piece) (reached occupied minus wanted squares : Mask) → piece.side ≡ b.side
    → ((s : ℕ) → Holds reached s ↔ ((s < 81) × Reaches b.cells piece from s))
    → ((s : ℕ) → holds occupied s ≡ is_of_side piece.side (piece_at b.cells s)) → ((s : ℕ) → holds minus s ≡ (holds reached s && not (holds occupied s)))
    → ((s : ℕ) → holds squares s ≡ (holds minus s && holds wanted s)) → ((s : ℕ) → holds squares s ≡ false)
    → (to : ℕ) (promote : Bool) → Holds squares to ↔ (Holds wanted to × MayGo b from to promote piece)
goes_none b from piece reached occupied minus wanted squares own reach is less both none to promote = (
  (λ has. absurd (both_ways _ (none to) has)),
  (λ h.
      let m = remains _ _ _ (less to) ((reach to).1 (h.1.on_board, h.1.reach)) (not_occupied b piece.side to (holds occupied to) own (is to) h.1.free) in
      absurd (both_ways _ (none to) (shared _ _ _ (both to) m h.0))),
)

-- what may go and be promoted so, or not, is legal
legal_of : LegalBoardMoves → (b : Board) (from to : ℕ) (promote : Bool) (piece : Piece) → piece_at b.cells from ≡ Some piece → piece.side ≡ b.side
    → MayGo b from to promote piece → IsTrue (promotion_fits piece from to promote) → IsLegalBoard b from to promote
legal_of law b from to promote piece there own g fits =
    (law b from to promote).1 (record {
      own = own_there b from piece there own;
      free = g.free;
      fits = some_by (piece_at b.cells from) _ piece there g.reach.fit;
      clear = g.reach.clear;
      promotion = some_by (piece_at b.cells from) _ piece there fits;
      safe = g.safe;
    })

-- and what is legal may go, and be promoted so, or not
go_of : LegalBoardMoves → (b : Board) (from to : ℕ) (promote : Bool) (piece : Piece) → piece_at b.cells from ≡ Some piece → to < 81
    → IsLegalBoard b from to promote → MayGo b from to promote piece × IsTrue (promotion_fits piece from to promote)
go_of law b from to promote piece there low legal =
    let c = (law b from to promote).0 legal in (
      record {
        on_board = low;
        reach = record { fit = subst (λ (o : Option Piece). IsSomeAnd o (λ p. IsTrue (Rattle.bit_boards.specs.Movement.fits p from to))) there c.fits; clear = c.clear };
        free = c.free;
        safe = c.safe;
      },
      subst (λ (o : Option Piece). IsSomeAnd o (λ p. IsTrue (promotion_fits p from to promote))) there c.promotion,
    )

alive_of : (dead low is : Bool) → dead ≡ (low && is) → low ≡ true → dead ≡ false → not is ≡ true
alive_of dead low true e on none = let f : dead ≡ true = shared dead low true e on refl in absurd (cc)
alive_of dead low false e on none = refl

dead_of : (dead low is : Bool) → dead ≡ (low && is) → not is ≡ true → dead ≡ false
dead_of dead true true e h = absurd (cc)
dead_of dead false true e h = e
dead_of dead true false e h = e
dead_of dead false false e h = e

-- unpromoted moves
pub plain_moves : MasksOnBoard → LegalBoardMoves → (b : Board) (from : ℕ) (piece : Piece) (wanted promoted dead left both safe result : Mask)
    → piece_at b.cells from ≡ Some piece → piece.side ≡ b.side
    → ((s : ℕ) → holds dead s ≡ (nat_lt s 81 && is_dead s (Some piece))) → ((s : ℕ) → holds left s ≡ (holds wanted s && not (holds dead s)))
    → ((s : ℕ) → holds both s ≡ (holds wanted s || holds promoted s))
    → ((to : ℕ) (promote : Bool) → Holds safe to ↔ (Holds both to × MayGo b from to promote piece))
    → ((s : ℕ) → holds result s ≡ (holds left s && holds safe s))
    → (to : ℕ) → Holds result to ↔ (Holds wanted to × IsLegalBoard b from to false)
plain_moves on_board law b from piece wanted promoted dead left both safe result there own are_dead is_left is_both are is to = (
  (λ has.
      let p = first_of _ _ _ (is to) has in
      let g = ((are to false).0 (second_of _ _ _ (is to) has)).1 in (
        first_of _ _ _ (is_left to) p,
        legal_of law b from to false piece there own g
            (alive_of _ _ _ (are_dead to) (lt-ltb to 81 g.on_board) (not_taken _ _ _ (is_left to) p)),
      )),
  (λ h.
      let low = on_board wanted to h.0 in
      let g = go_of law b from to false piece there low h.1 in
      let p = remains _ _ _ (is_left to) h.0 (dead_of _ _ _ (are_dead to) g.1) in
      shared _ _ _ (is to) p ((are to false).1 (from_first _ _ _ (is_both to) h.0, g.0))),
)

-- promoted moves
pub promoted_moves : MasksOnBoard → LegalBoardMoves → (b : Board) (from : ℕ) (piece : Piece) (plain wanted promotable left both safe result : Mask)
    → piece_at b.cells from ≡ Some piece → piece.side ≡ b.side
    → ((s : ℕ) → holds promotable s ≡ (nat_lt s 81 && promotion_fits piece from s true)) → ((s : ℕ) → holds left s ≡ (holds wanted s && holds promotable s))
    → ((s : ℕ) → holds both s ≡ (holds plain s || holds wanted s))
    → ((to : ℕ) (promote : Bool) → Holds safe to ↔ (Holds both to × MayGo b from to promote piece))
    → ((s : ℕ) → holds result s ≡ (holds left s && holds safe s))
    → (to : ℕ) → Holds result to ↔ (Holds wanted to × IsLegalBoard b from to true)
promoted_moves on_board law b from piece plain wanted promotable left both safe result there own may is_left is_both are is to = (
  (λ has.
      let p = first_of _ _ _ (is to) has in
      let g = ((are to true).0 (second_of _ _ _ (is to) has)).1 in (
        first_of _ _ _ (is_left to) p,
        legal_of law b from to true piece there own g (second_of _ _ _ (may to) (second_of _ _ _ (is_left to) p)),
      )),
  (λ h.
      let low = on_board wanted to h.0 in
      let g = go_of law b from to true piece there low h.1 in
      let p = shared _ _ _ (is_left to) h.0 (shared _ _ _ (may to) (lt-ltb to 81 low) g.1) in
      shared _ _ _ (is to) p ((are to true).1 (from_second _ _ _ (is_both to) h.0, g.0))),
)

-- from where a piece goes nowhere there is no legal move, promoting or not
pub no_moves : MasksOnBoard → LegalBoardMoves → (b : Board) (from : ℕ) (piece : Piece) (wanted both safe : Mask) → piece_at b.cells from ≡ Some piece
    → ((s : ℕ) → Holds wanted s → Holds both s)
    → ((to : ℕ) (promote : Bool) → Holds safe to ↔ (Holds both to × MayGo b from to promote piece)) → ((s : ℕ) → holds safe s ≡ false)
    → (to : ℕ) (promote : Bool) → Holds safe to ↔ (Holds wanted to × IsLegalBoard b from to promote)
no_moves on_board law b from piece wanted both safe there among are none to promote = (
  (λ has. absurd (both_ways _ (none to) has)),
  (λ h. absurd (both_ways _ (none to) ((are to promote).1 (among to h.0, (go_of law b from to promote piece there (on_board wanted to h.0) h.1).0)))),
)

-- without an own piece there is no legal move
pub no_legal : LegalBoardMoves → (b : Board) (from to : ℕ) (promote : Bool) → ¬ IsOwn b from → ¬ IsLegalBoard b from to promote
no_legal law b from to promote none legal = none ((law b from to promote).0 legal).own

-- a square of the one or the other set is where a piece may move
pub some_move : MasksOnBoard → (b : Board) (from : ℕ) (full plain promoted both : Mask)
    → ((s : ℕ) → Holds plain s ↔ (Holds full s × IsLegalBoard b from s false)) → ((s : ℕ) → Holds promoted s ↔ (Holds full s × IsLegalBoard b from s true))
    → ((s : ℕ) → holds both s ≡ (holds plain s || holds promoted s)) → (s : ℕ) → Holds both s → MovesFrom b from
some_move on_board b from full plain promoted both are_plain are_promoted is s has = elim (either_of _ _ _ (is s) has) [
  | inl p ↦ record { to = s; promote = false; on_board = on_board plain s p; legal = ((are_plain s).0 p).1 }
  | inr p ↦ record { to = s; promote = true; on_board = on_board promoted s p; legal = ((are_promoted s).0 p).1 }
]

moved_in : (b : Board) (from : ℕ) (full plain promoted both : Mask) → ((s : ℕ) → holds full s ≡ nat_lt s 81)
    → ((s : ℕ) → Holds plain s ↔ (Holds full s × IsLegalBoard b from s false)) → ((s : ℕ) → Holds promoted s ↔ (Holds full s × IsLegalBoard b from s true))
    → ((s : ℕ) → holds both s ≡ (holds plain s || holds promoted s)) → (to : ℕ) (promote : Bool) → to < 81 → IsLegalBoard b from to promote → Holds both to
moved_in b from full plain promoted both is_full are_plain are_promoted is to false low legal =
    from_first _ _ _ (is to) ((are_plain to).1 (is_full to ∙ lt-ltb to 81 low, legal))
moved_in b from full plain promoted both is_full are_plain are_promoted is to true low legal =
    from_second _ _ _ (is to) ((are_promoted to).1 (is_full to ∙ lt-ltb to 81 low, legal))

pub move_in : (b : Board) (from : ℕ) (full plain promoted both : Mask) → ((s : ℕ) → holds full s ≡ nat_lt s 81)
    → ((s : ℕ) → Holds plain s ↔ (Holds full s × IsLegalBoard b from s false)) → ((s : ℕ) → Holds promoted s ↔ (Holds full s × IsLegalBoard b from s true))
    → ((s : ℕ) → holds both s ≡ (holds plain s || holds promoted s)) → (m : MovesFrom b from) → Holds both m.to
move_in b from full plain promoted both is_full are_plain are_promoted is m =
    moved_in b from full plain promoted both is_full are_plain are_promoted is m.to m.promote m.on_board m.legal
