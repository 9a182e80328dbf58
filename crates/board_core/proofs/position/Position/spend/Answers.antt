use Rattle.std.proofs.Common.{◌≡◌, ◌+◌, ◌<◌, sym, subst}
use Rattle.bit_boards.specs.declared.piece.Side.TheVariants.{Black, White}
use Rattle.bit_boards.specs.Kind.{same_kind}
use Rattle.board_core.specs.Code.{cells_of}
use Rattle.board_core.specs.Board.{Board, hand_count, hand_of, with_hand, with_less, count_of, one_if}
use Rattle.board_core.proofs.Hands.{count_of-less, held_less, no_king_held}
use Rattle.board_core.proofs.position.Position.spend.Goals as goal

pub returns-in-Black-clause-counts : goal.returns-in-Black-clause-counts
returns-in-Black-clause-counts c = λ k.
    let before : Board = record { cells = cells_of c.self.inside.codes; black = c.self.inside.black; white = c.self.inside.white; side = c.self.inside.side } in
    let some : 0 < hand_count before.black c.args.kind =
    subst (λ (b : Board). 0 < hand_count (hand_of b Black) c.args.kind) (sym c.self.view_is) (rw c.in-Black.is at c.requires) in
    rw c.minus-self-inside.ensures
    (subst (λ (b : Board). count_of (with_hand before Black (with_less before.black c.args.kind)) k + one_if (same_kind c.args.kind k) ≡ count_of b k) c.self.view_is
    (count_of-less before Black c.args.kind k c.self.invariant.0 (no_king_held before.black c.args.kind c.self.invariant.0.black some) some))

pub returns-in-White-clause-counts : goal.returns-in-White-clause-counts
returns-in-White-clause-counts c = λ k.
    let before : Board = record { cells = cells_of c.self.inside.codes; black = c.self.inside.black; white = c.self.inside.white; side = c.self.inside.side } in
    let some : 0 < hand_count before.white c.args.kind =
    subst (λ (b : Board). 0 < hand_count (hand_of b White) c.args.kind) (sym c.self.view_is) (rw c.in-White.is at c.requires) in
    rw c.minus-self-inside-in-White.ensures
    (subst (λ (b : Board). count_of (with_hand before White (with_less before.white c.args.kind)) k + one_if (same_kind c.args.kind k) ≡ count_of b k) c.self.view_is
    (count_of-less before White c.args.kind k c.self.invariant.0 (no_king_held before.white c.args.kind c.self.invariant.0.white some) some))

pub returns-in-Black-clause-one_less : goal.returns-in-Black-clause-one_less
returns-in-Black-clause-one_less c =
    let before : Board = record { cells = cells_of c.self.inside.codes; black = c.self.inside.black; white = c.self.inside.white; side = c.self.inside.side } in
    let some : 0 < hand_count before.black c.args.kind =
    subst (λ (b : Board). 0 < hand_count (hand_of b Black) c.args.kind) (sym c.self.view_is) (rw c.in-Black.is at c.requires) in
    rw (c.in-Black.is, c.minus-self-inside.ensures)
    (subst (λ (b : Board). hand_count (with_less before.black c.args.kind) c.args.kind + 1 ≡ hand_count (hand_of b Black) c.args.kind) c.self.view_is
    (held_less before Black c.args.kind c.self.invariant.0 (no_king_held before.black c.args.kind c.self.invariant.0.black some) some))

pub returns-in-White-clause-one_less : goal.returns-in-White-clause-one_less
returns-in-White-clause-one_less c =
    let before : Board = record { cells = cells_of c.self.inside.codes; black = c.self.inside.black; white = c.self.inside.white; side = c.self.inside.side } in
    let some : 0 < hand_count before.white c.args.kind =
    subst (λ (b : Board). 0 < hand_count (hand_of b White) c.args.kind) (sym c.self.view_is) (rw c.in-White.is at c.requires) in
    rw (c.in-White.is, c.minus-self-inside-in-White.ensures)
    (subst (λ (b : Board). hand_count (with_less before.white c.args.kind) c.args.kind + 1 ≡ hand_count (hand_of b White) c.args.kind) c.self.view_is
    (held_less before White c.args.kind c.self.invariant.0 (no_king_held before.white c.args.kind c.self.invariant.0.white some) some))
