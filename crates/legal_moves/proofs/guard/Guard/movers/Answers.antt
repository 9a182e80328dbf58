use Rattle.std.proofs.Common.{◌≡◌, inl, inr, sym, subst, Option}
use Rattle.std.specs.Prelude.{IsSomeAnd, IsTrue}
use Rattle.std.proofs.lemmas.Bool.{eq-eqb}
use Rattle.bit_boards.specs.declared.piece.Side.{Side}
use Rattle.bit_boards.specs.declared.square.Square.{Square}
use Rattle.bit_boards.specs.Mask.{holds}
use Rattle.bit_boards.specs.Movement.{fits}
use Rattle.board_core.specs.Board.{piece_at}
use Rattle.legal_moves.specs.Legal.{AreGuarding, IsGuarded}
use Rattle.legal_moves.proofs.Masked.{shared, from_first, from_second}
use Rattle.legal_moves.proofs.Stepping.{occupied_of}
use Rattle.legal_moves.proofs.Movers.{moves_or_stops}
use Rattle.legal_moves.proofs.guard.Guard.movers.Goals as goal

pub returns-in-Some-clause-all : goal.returns-in-Some-clause-all
returns-in-Some-clause-all c = λ from to promote low there legal.
    let b = c.args.position.now in
    let guard = c.args.self.now in
    let king = c.in-Some.king in
    let law = c.legal_laws.ensures.board in
    let g : IsGuarded b king guard.blocks guard.shields = subst (λ (k : Option Square). AreGuarding b k guard.blocks guard.shields) c.in-Some.is c.requires in
    let own = occupied_of b c.side.result from (holds c.occupied-own.result from) c.side.ensures (c.occupied-own.ensures from) ((law b from to promote).0 legal).own in
    elim (moves_or_stops law b king guard.blocks guard.shields c.laws.ensures.cells g from to promote low there legal) [
      | inl is ↦ shared _ _ _ (c.and.ensures from) (from_second _ _ _ (c.with.ensures from) (eq-eqb from king.number is)) own
      | inr stops ↦
          let goes = subst (λ (side : Side). IsSomeAnd (piece_at b.cells from) (λ piece. (piece.side ≡ side) × IsTrue (fits piece from to))) (sym c.side-in-Some.ensures) stops.1 in
          shared _ _ _ (c.and.ensures from) (from_first _ _ _ (c.with.ensures from) (c.candidates_for-stopping.ensures from to low stops.0 goes)) own
    ]

pub returns-in_default-clause-all : goal.returns-in_default-clause-all
returns-in_default-clause-all c = λ from to promote low there legal.
    occupied_of c.args.position.now c.side.result from (holds c.occupied-own.result from) c.side.ensures (c.occupied-own.ensures from)
    ((c.legal_laws.ensures.board c.args.position.now from to promote).0 legal).own

pub returns-in_default-2-clause-all : goal.returns-in_default-2-clause-all
returns-in_default-2-clause-all c = λ from to promote low there legal.
    occupied_of c.args.position.now c.side.result from (holds c.occupied-own.result from) c.side.ensures (c.occupied-own.ensures from)
    ((c.legal_laws.ensures.board c.args.position.now from to promote).0 legal).own
