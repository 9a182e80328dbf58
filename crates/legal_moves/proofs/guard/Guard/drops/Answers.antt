use Rattle.std.proofs.Common.{◌≡◌, ◌≢◌, ◌<◌, ℕ, rules, sym, subst, ◌∙◌}
use Rattle.std.proofs.lemmas.Bool.{and_parts, and_from, both_ways, not-true, not_from_false, false_from_ne_true}
use Rattle.bit_boards.specs.declared.piece.Side.{Side}
use Rattle.bit_boards.specs.Mask.{holds}
use Rattle.bit_boards.specs.declared.piece.Kind.{Kind}
use Rattle.bit_boards.specs.declared.piece.Kind.TheVariants.{Pawn}
use Rattle.board_core.specs.Board.{Board, hand_count, hand_of}
use Rattle.shogi_rules.specs.Rules.{IsPawnMate, HasPawnOnFile}
use Rattle.shogi_rules.specs.Laws.{CanDrop}
use Rattle.legal_moves.specs.Droppable.{IsFreeFor}
use Rattle.legal_moves.proofs.guard.Guard.drops.Goals as goal

can : (b : Board) (wanted : Kind) (to : ℕ) → IsFreeFor b wanted to → 0 < hand_count (hand_of b b.side) wanted
    → ¬ ((wanted ≡ Pawn) × HasPawnOnFile b.cells b.side to) → ¬ IsPawnMate b wanted to → CanDrop b wanted to
can b wanted to free in_hand pawn mate =
    record { empty = free.empty; in_hand = in_hand; alive = free.alive; pawn = pawn; safe = free.safe; no_mate = mate }

free_of : (b : Board) (wanted : Kind) (to : ℕ) → to < 81 → CanDrop b wanted to → IsFreeFor b wanted to
free_of b wanted to low c = record { on_board = low; empty = c.empty; alive = c.alive; safe = c.safe }

pub returns-then-not-has_in_hand : goal.returns-then-not-has_in_hand
returns-then-not-has_in_hand c = λ to. (
  (λ has. absurd (both_ways _ (c.empty.ensures to) has)),
  (λ known.
      let can = (c.legal_laws.ensures.drops c.args.position.now c.args.kind to).0 known.1 in
      let held = c.has_in_hand.ensures.some.1 can.in_hand in
      absurd (both_ways _ c.if-not-has_in_hand.true held)),
)

pub without_mate-requires-clause-squares : goal.without_mate-requires-clause-squares
without_mate-requires-clause-squares c = λ to has.
    let b = c.args.position.now in
    let pawn : c.args.kind ≡ Pawn = search rules in
    let parts = and_parts _ _ (sym (c.minus-alone.ensures to) ∙ has) in
    let known = (c.free-free.ensures to).0 parts.0 in
    let free = subst (λ (k : Kind). IsFreeFor b k to) pawn known.1 in
    record {
      empty = free.empty;
      in_hand = subst (λ (k : Kind). 0 < hand_count (hand_of b b.side) k) pawn (c.has_in_hand.ensures.some.0 c.if-not-has_in_hand.false);
      alive = free.alive;
      pawn = λ p. both_ways _ (not-true _ parts.1)
          ((c.pawn_files.ensures to).1 (free.on_board, subst (λ (s : Side). HasPawnOnFile b.cells s to) (sym c.side.ensures) p.1));
    }

pub returns-then-eq : goal.returns-then-eq
returns-then-eq c = λ to.
    let b = c.args.position.now in
    let wanted = c.args.kind in
    let pawn : c.args.kind ≡ Pawn = search rules in
    let in_hand = c.has_in_hand.ensures.some.0 c.if-not-has_in_hand.false in (
      (λ has.
          let rest = (c.without_mate.ensures to).0 has in
          let parts = and_parts _ _ (sym (c.minus-alone.ensures to) ∙ rest.0) in
          let known = (c.free-free.ensures to).0 parts.0 in (
            known.0,
            (c.legal_laws.ensures.drops b wanted to).1 (can b wanted to known.1 in_hand
                (λ p. both_ways _ (not-true _ parts.1)
                ((c.pawn_files.ensures to).1 (known.1.on_board, subst (λ (s : Side). HasPawnOnFile b.cells s to) (sym c.side.ensures) p.1)))
                (λ mate. rest.1 (subst (λ (k : Kind). IsPawnMate b k to) pawn mate))),
          )),
      (λ known.
          let may = (c.legal_laws.ensures.drops b wanted to).0 known.1 in
          let low = c.mask_laws.ensures.on_board c.args.wanted to known.0 in
          let free = (c.free-free.ensures to).1 (known.0, free_of b wanted to low may) in
          let alone = c.minus-alone.ensures to ∙ and_from _ _ free (not_from_false _ (false_from_ne_true (holds c.pawn_files.result to)
          (λ on. may.pawn (pawn, subst (λ (s : Side). HasPawnOnFile b.cells s to) c.side.ensures ((c.pawn_files.ensures to).0 on).1)))) in
          (c.without_mate.ensures to).1 (alone, (λ mate. may.no_mate (subst (λ (k : Kind). IsPawnMate b k to) (sym pawn) mate)))),
    )

pub returns : goal.returns
returns c = λ to.
    let b = c.args.position.now in
    let wanted = c.args.kind in
    let plain : c.args.kind ≢ Pawn = search rules in
    let in_hand = c.has_in_hand.ensures.some.0 c.if-not-has_in_hand.false in (
      (λ has.
          let known = (c.free-free.ensures to).0 has in (
            known.0,
            (c.legal_laws.ensures.drops b wanted to).1 (can b wanted to known.1 in_hand (λ p. plain p.0) (λ mate. plain mate.pawn)),
          )),
      (λ known.
          let may = (c.legal_laws.ensures.drops b wanted to).0 known.1 in
          (c.free-free.ensures to).1 (known.0, free_of b wanted to (c.mask_laws.ensures.on_board c.args.wanted to known.0) may)),
    )
