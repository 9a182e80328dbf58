use Rattle.std.proofs.Common.{◌≡◌, ◌<◌, ◌+◌, ◌*◌, ℕ, arith, refl}
use Rattle.bit_boards.specs.Kind.{place_of}
use Rattle.board_core.specs.Board.{hand_count, hand_of}
use Rattle.list_laws.proofs.MoveLists.{at_order, lists_more, lists_same, lists_past}
use Rattle.shogi_rules.proofs.Listing.{wanted_drop}
use Rattle.shogi_rules.proofs.trial.add_drops.Goals.{then-is_wanted+in_ok-push, else-is_wanted}
use Rattle.shogi_rules.proofs.trial.add_drops.Goals as goal

none_held : (n : ℕ) → ¬ (0 < n) → n ≡ 0
none_held n h = omega arith

pub returns-then-not-has_in_hand : goal.returns-then-not-has_in_hand
returns-then-not-has_in_hand c =
    let none : hand_count (hand_of c.args.position.now c.args.position.now.side) c.args.kind ≡ 0 = none_held _ (λ some. let t = c.has_in_hand.ensures.some.1 some in cc) in
    lists_past _ (13122 + 81 * place_of c.args.kind) 81 _ c.requires.before
    (wanted_drop c.order_laws.ensures.origins c.value_laws.ensures.places c.args.wanted c.args.problem.now.position.side c.args.position.now c.args.kind none)

pub loop-number-preserved : goal.loop-number-preserved
loop-number-preserved c = at_order _ (13122 + 81 * place_of c.args.kind + c.loop-number.number + 1) _ _ (omega arith) (elim c.if-is_wanted.branch [
  | then-is_wanted+in_ok-push w ↦ rw (w.moves-is, w.in_ok-push.ensures.items)
      (lists_more c.order_laws.ensures.apart _ _ _ _ c.loop-number.invariant refl (c.is_wanted.ensures.0 w.if-is_wanted.true))
  | else-is_wanted w ↦ rw w.moves-is
      (lists_same c.order_laws.ensures.apart _ _ _ _ c.loop-number.invariant refl (λ h. let t = c.is_wanted.ensures.1 h in cc))
])
