use Rattle.std.proofs.Common.{sym, ◌∙◌}
use Rattle.std.proofs.lemmas.Bool.{not-true, both_ways}
use Rattle.legal_moves.proofs.Masked.{is_some}
use Rattle.legal_moves.proofs.Stepping.{some_move, move_in}
use Rattle.legal_moves.proofs.guard.Guard.has_move_from.Goals as goal

pub returns : goal.returns
returns c = (
  (λ h.
      let s = c.is_empty.ensures.some (not-true c.is_empty.result h) in
      some_move c.mask_laws.ensures.on_board c.args.position.now c.args.from.number c.full.result.plain c.board_moves-found.result.plain c.board_moves-found.result.promoted
      c.or.result c.board_moves-found.ensures.plain
      (λ t. (
        (λ h. let b = (c.board_moves-found.ensures.promoted t).0 h in (c.full.ensures.plain t ∙ (sym (c.full.ensures.promoted t) ∙ b.0), b.1)),
        (λ h. (c.board_moves-found.ensures.promoted t).1 (c.full.ensures.promoted t ∙ (sym (c.full.ensures.plain t) ∙ h.0), h.1)),
      ))
      c.or.ensures s.0 s.1),
  (λ m.
      let has = move_in c.args.position.now c.args.from.number c.full.result.plain c.board_moves-found.result.plain c.board_moves-found.result.promoted
      c.or.result c.full.ensures.plain c.board_moves-found.ensures.plain
      (λ t. (
        (λ h. let b = (c.board_moves-found.ensures.promoted t).0 h in (c.full.ensures.plain t ∙ (sym (c.full.ensures.promoted t) ∙ b.0), b.1)),
        (λ h. (c.board_moves-found.ensures.promoted t).1 (c.full.ensures.promoted t ∙ (sym (c.full.ensures.plain t) ∙ h.0), h.1)),
      ))
      c.or.ensures m in
      is_some c.is_empty.result (λ e. absurd (both_ways _ (c.is_empty.ensures.none.0 e m.to) has))),
)
