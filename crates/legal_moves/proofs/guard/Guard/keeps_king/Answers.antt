use Rattle.legal_moves.proofs.Masked.{shared, first_of, second_of}
use Rattle.legal_moves.proofs.Unshielded.{stops_as_before, stopped_before}
use Rattle.legal_moves.proofs.guard.Guard.keeps_king.Goals as goal

pub returns-then-contains : goal.returns-then-contains
returns-then-contains c = λ to. (
  (λ has. (
    first_of _ _ _ (c.and.ensures to) has,
    ((c.stops_once_left.ensures to).0 (second_of _ _ _ (c.and.ensures to) has)).1,
  )),
  (λ both. shared _ _ _ (c.and.ensures to) both.0
      ((c.stops_once_left.ensures to).1 (c.mask_laws.ensures.on_board c.args.wanted to both.0, both.1))),
)

pub returns : goal.returns
returns c = λ to. (
  (λ has. (
    first_of _ _ _ (c.and-2.ensures to) has,
    stops_as_before c.args.position.now c.args.from.number to c.args.king.number
        (λ shield. let e = (c.requires.guard.shields c.args.from.number).1 shield in absurd (cc))
        ((c.requires.guard.blocks to).0 (second_of _ _ _ (c.and-2.ensures to) has)).1,
  )),
  (λ both. shared _ _ _ (c.and-2.ensures to) both.0
      ((c.requires.guard.blocks to).1 (
        c.mask_laws.ensures.on_board c.args.wanted to both.0,
        stopped_before c.args.position.now c.args.from.number to c.args.king.number both.1,
      ))),
)
