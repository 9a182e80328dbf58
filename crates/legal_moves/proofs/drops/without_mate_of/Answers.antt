use Rattle.std.proofs.Common.{◌≡◌, ◌<◌, ◌&&◌, ℕ, nat_lt, length, IsTrue, sym, subst, ap, ◌∙◌}
use Rattle.std.proofs.lemmas.Bool.{lt-ltb, eq-eqb, and_parts, and_from, both_ways, not-true, not_from_false, ne_eqb}
use Rattle.bit_boards.specs.declared.piece.Kind.TheVariants.{Pawn}
use Rattle.bit_boards.specs.declared.piece.Side.{Side}
use Rattle.bit_boards.specs.declared.piece.Piece.{Piece}
use Rattle.bit_boards.specs.declared.mask.Mask.{Mask}
use Rattle.bit_boards.specs.Piece.{plain_piece}
use Rattle.bit_boards.specs.Mask.{holds, Holds}
use Rattle.bit_boards.specs.Movement.{goes_by_step}
use Rattle.board_core.specs.Board.{Board}
use Rattle.shogi_rules.specs.Rules.{IsQuiet, IsPawnMate}
use Rattle.legal_moves.specs.Droppable.{MayDrop, IsEnemyKing}
use Rattle.legal_moves.proofs.Dropping.{check_by_pawn, pawn_once}
use Rattle.legal_moves.proofs.drops.without_mate_of.Goals as goal

-- of the squares, those from which the pawn steps to the king
record AreBeneath (pawn : Piece) (king : ℕ) (around squares those : Mask) : Type 0 where
  pub stepping : (from : ℕ) → holds around from ≡ (nat_lt from 81 && goes_by_step pawn from king)
  pub both : (s : ℕ) → holds those s ≡ (holds around s && holds squares s)

mate_beneath : (b : Board) (pawn : Piece) (to king : ℕ) (stepping squares both : Mask) → pawn ≡ plain_piece Pawn b.side → length b.cells ≡ 81
    → to < 81 → king < 81 → IsQuiet b → IsEnemyKing b king → MayDrop b Pawn to → AreBeneath pawn king stepping squares both
    → Holds squares to → IsPawnMate b Pawn to → Holds both to
mate_beneath b pawn to king stepping squares both e long low high quiet foe may are has mate =
    let step = check_by_pawn b to king long low high may.empty quiet foe mate.check in
    let there = subst (λ (p : Piece). IsTrue (goes_by_step p to king)) (sym e) step in
    are.both to ∙ and_from _ _ (are.stepping to ∙ and_from _ _ (lt-ltb to 81 low) there) has

once : (side : Side) (pawn : Piece) (s t king : ℕ) (stepping squares both : Mask) → pawn ≡ plain_piece Pawn side → AreBeneath pawn king stepping squares both
    → Holds both s → Holds both t → s ≡ t
once side pawn s t king stepping squares both e are h k =
    let one = and_parts _ _ (sym (are.stepping s) ∙ (and_parts _ _ (sym (are.both s) ∙ h)).0) in
    let two = and_parts _ _ (sym (are.stepping t) ∙ (and_parts _ _ (sym (are.both t) ∙ k)).0) in
    pawn_once side s t king (subst (λ (p : Piece). IsTrue (goes_by_step p s king)) e one.1) (subst (λ (p : Piece). IsTrue (goes_by_step p t king)) e two.1)

-- the square that was found is the only one that can mate
only_found : (b : Board) (pawn : Piece) (to king found : ℕ) (stepping squares both : Mask) → pawn ≡ plain_piece Pawn b.side → length b.cells ≡ 81
    → to < 81 → king < 81 → IsQuiet b → IsEnemyKing b king → MayDrop b Pawn to → AreBeneath pawn king stepping squares both
    → Holds both found → Holds squares to → IsPawnMate b Pawn to → to ≡ found
only_found b pawn to king found stepping squares both e long low high quiet foe may are there has mate =
    once b.side pawn to found king stepping squares both e are
    (mate_beneath b pawn to king stepping squares both e long low high quiet foe may are has mate) there

pub returns-then-mates : goal.returns-then-mates
returns-then-mates c = λ to.
    let b = c.args.position.now in
    let found = c.in-Some.to.number in
    let pawn = c.plain-pawn.ensures ∙ ap (plain_piece Pawn) c.side.ensures in (
      (λ has.
          let parts = and_parts _ _ (sym (c.without.ensures to) ∙ has) in (
            parts.0,
            (λ mate.
                let e = only_found b c.plain-pawn.result to c.args.king.number found c.steps_to.result c.args.squares c.and.result pawn
                c.laws.ensures.cells (c.mask_laws.ensures.on_board c.args.squares to parts.0) c.args.king.on_board c.requires.quiet c.requires.king
                (c.requires.squares to parts.0) (record { stepping = c.steps_to.ensures; both = c.and.ensures }) c.in-Some.ensures.found parts.0 mate in
                both_ways _ (not-true _ parts.1) (eq-eqb to found e)),
          )),
      (λ known. c.without.ensures to ∙ and_from _ _ known.0 (not_from_false _ (ne_eqb to found
          (λ e. known.1 (subst (λ (s : ℕ). IsPawnMate b Pawn s) (sym e) (c.mates.ensures.0 c.if-mates.true)))))),
    )

pub returns-else-mates : goal.returns-else-mates
returns-else-mates c = λ to.
    let b = c.args.position.now in
    let found = c.in-Some.to.number in
    let pawn = c.plain-pawn.ensures ∙ ap (plain_piece Pawn) c.side.ensures in (
      (λ has. (
        has,
        (λ mate.
            let e = only_found b c.plain-pawn.result to c.args.king.number found c.steps_to.result c.args.squares c.and.result pawn
            c.laws.ensures.cells (c.mask_laws.ensures.on_board c.args.squares to has) c.args.king.on_board c.requires.quiet c.requires.king
            (c.requires.squares to has) (record { stepping = c.steps_to.ensures; both = c.and.ensures }) c.in-Some.ensures.found has mate in
            both_ways _ c.if-mates.false (c.mates.ensures.1 (subst (λ (s : ℕ). IsPawnMate b Pawn s) e mate))),
      )),
      (λ known. known.0),
    )

pub returns-in-None : goal.returns-in-None
returns-in-None c = λ to.
    let b = c.args.position.now in
    let pawn = c.plain-pawn.ensures ∙ ap (plain_piece Pawn) c.side.ensures in (
      (λ has. (
        has,
        (λ mate. both_ways _ (c.in-None.ensures.none to)
            (mate_beneath b c.plain-pawn.result to c.args.king.number c.steps_to.result c.args.squares c.and.result pawn
            c.laws.ensures.cells (c.mask_laws.ensures.on_board c.args.squares to has) c.args.king.on_board c.requires.quiet c.requires.king
            (c.requires.squares to has) (record { stepping = c.steps_to.ensures; both = c.and.ensures }) has mate)),
      )),
      (λ known. known.0),
    )
