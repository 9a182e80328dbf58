use Rattle.std.proofs.Common.{arith, rules}
use Rattle.std.proofs.lemmas.Grind.{common_steps}
use Rattle.shogi_rules.specs.declared.illegal.Illegal.TheVariants.{Occupied, NotInHand, DeadDrop}
use Rattle.shogi_rules.specs.Rules.{RefusesDrop}
use Rattle.shogi_rules.proofs.Firsts.{drop_sooner, below_eleven}
use Rattle.shogi_rules.proofs.Turns.{quiet_drop}
use Rattle.shogi_rules.proofs.legality.legal_drop.Goals as goal

pub returns-then-in_check-clause-first : goal.returns-then-in_check-clause-first
returns-then-in_check-clause-first c =
    let empty : ¬ RefusesDrop c.args.position.now c.args.kind c.args.to.number Occupied = search rules in
    let some : ¬ RefusesDrop c.args.position.now c.args.kind c.args.to.number NotInHand = grind (arith, common_steps) in
    let alive : ¬ RefusesDrop c.args.position.now c.args.kind c.args.to.number DeadDrop = grind (arith, common_steps) in (
      rw (c.drop_piece-next.ensures.position, c.side-2.ensures) at (c.in_check.ensures.check.0 c.if-in_check.true),
      drop_sooner c.args.position.now c.args.kind c.args.to.number 9 (λ _. empty) (λ _. some) (λ _. alive)
          (λ _. λ p. let t = c.is_second_pawn.ensures.1 p in cc)
          (λ below. absurd (omega arith))
          (λ below. absurd (omega arith)),
    )

pub returns-then-is_stuck-clause-first : goal.returns-then-is_stuck-clause-first
returns-then-is_stuck-clause-first c =
    let empty : ¬ RefusesDrop c.args.position.now c.args.kind c.args.to.number Occupied = search rules in
    let some : ¬ RefusesDrop c.args.position.now c.args.kind c.args.to.number NotInHand = grind (arith, common_steps) in
    let alive : ¬ RefusesDrop c.args.position.now c.args.kind c.args.to.number DeadDrop = grind (arith, common_steps) in
    let stuck = rw c.drop_piece-next.ensures.position at (c.is_stuck.ensures.0 c.if-is_stuck.true) in (
      record { pawn = stuck.pawn; check = stuck.check; no_move = stuck.no_move },
      drop_sooner c.args.position.now c.args.kind c.args.to.number 10 (λ _. empty) (λ _. some) (λ _. alive)
          (λ _. λ p. let t = c.is_second_pawn.ensures.1 p in cc)
          (λ _. λ k. let t = c.in_check.ensures.check.1 (rw (c.drop_piece-next.ensures.position, c.side-2.ensures) k) in cc)
          (λ below. absurd (omega arith)),
    )

pub returns-clause-first : goal.returns-clause-first
returns-clause-first c =
    let empty : ¬ RefusesDrop c.args.position.now c.args.kind c.args.to.number Occupied = search rules in
    let some : ¬ RefusesDrop c.args.position.now c.args.kind c.args.to.number NotInHand = grind (arith, common_steps) in
    let alive : ¬ RefusesDrop c.args.position.now c.args.kind c.args.to.number DeadDrop = grind (arith, common_steps) in
    λ why. drop_sooner c.args.position.now c.args.kind c.args.to.number 11 (λ _. empty) (λ _. some) (λ _. alive)
    (λ _. λ p. let t = c.is_second_pawn.ensures.1 p in cc)
    (λ _. λ k. let t = c.in_check.ensures.check.1 (rw (c.drop_piece-next.ensures.position, c.side-2.ensures) k) in cc)
    (λ _. λ m. let t = c.is_stuck.ensures.1 (rw c.drop_piece-next.ensures.position (record { pawn = m.pawn; check = m.check; no_move = m.no_move })) in cc)
    why (below_eleven why)

pub is_stuck-requires : goal.is_stuck-requires
is_stuck-requires c =
    rw c.drop_piece-next.ensures.position
    (quiet_drop c.args.position.now c.args.kind c.args.to.number
    (λ k. let t = c.in_check.ensures.check.1 (rw (c.drop_piece-next.ensures.position, c.side-2.ensures) k) in cc))
