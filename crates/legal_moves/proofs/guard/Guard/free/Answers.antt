use Rattle.std.proofs.Common.{◌≡◌, ◌<◌, ◌&&◌, Some, is_some, ap, sym, ◌∙◌}
use Rattle.std.proofs.lemmas.Bool.{lt-ltb, and_parts, and_from, not-true, not_from_false}
use Rattle.board_laws.proofs.Cells.{empty_of}
use Rattle.bit_boards.specs.declared.piece.Piece.{Piece}
use Rattle.bit_boards.specs.Mask.{holds}
use Rattle.bit_boards.specs.Piece.{plain_piece, is_dead}
use Rattle.board_core.specs.Board.{piece_at}
use Rattle.legal_moves.proofs.Dropping.{drop_safe, drop_stops}
use Rattle.legal_moves.proofs.guard.Guard.free.Goals as goal

pub returns : goal.returns
returns c = λ to.
    let b = c.args.position.now in
    let wanted = c.args.kind in
    let guard = c.args.self.now in
    let cell = piece_at b.cells to in
    let dead : to < 81 → holds c.dead.result to ≡ is_dead to (Some (plain_piece wanted b.side)) = λ low. c.dead.ensures to ∙ (ap (λ x. x && is_dead to (Some c.plain.result)) (lt-ltb to 81 low)
    ∙ ap (λ (p : Piece). is_dead to (Some p)) (c.plain.ensures ∙ ap (plain_piece wanted) c.side.ensures)) in (
      (λ has.
          let one = and_parts _ _ (sym (c.and.ensures to) ∙ has) in
          let two = and_parts _ _ (sym (c.minus-2.ensures to) ∙ one.0) in
          let three = and_parts _ _ (sym (c.minus.ensures to) ∙ two.0) in
          let low = c.mask_laws.ensures.on_board c.args.wanted to three.0 in
          let empty = empty_of cell (sym (c.all_occupied.ensures to) ∙ not-true _ three.1) in (
            three.0,
            record {
              on_board = low;
              empty = empty;
              alive = sym (dead low) ∙ not-true _ two.1;
              safe = drop_safe b wanted to guard.king guard.blocks guard.shields c.requires.guard c.laws.ensures.cells c.requires.king low empty one.1;
            },
          )),
      (λ known.
          let free = known.1 in
          let one = c.minus.ensures to ∙ and_from _ _ known.0 (not_from_false _ (c.all_occupied.ensures to ∙ ap is_some free.empty)) in
          let two = c.minus-2.ensures to ∙ and_from _ _ one (not_from_false _ (dead free.on_board ∙ free.alive)) in
          c.and.ensures to ∙ and_from _ _ two
          (drop_stops b wanted to guard.king guard.blocks guard.shields c.requires.guard c.laws.ensures.cells c.requires.king free.on_board free.empty free.safe)),
    )
