use Rattle.std.proofs.Common.{◌≡◌, Option, true, sym, subst, ◌∙◌}
use Rattle.std.proofs.lemmas.Bool.{and_parts, and_from}
use Rattle.bit_boards.specs.declared.piece.Piece.{Piece}
use Rattle.board_core.specs.Sets.{is_of_side}
use Rattle.attack_lines.proofs.Shielded.{StandBetween, side_of, keeps, kept}
use Rattle.attack_lines.proofs.attacking.shield.Goals as goal

pub returns-in-Some : goal.returns-in-Some
returns-in-Some c side mine square =
    let cells = c.args.position.now.cells in
    let from = c.args.from.number in
    let to = c.args.to.number in
    let is = sym c.piece_at.ensures ∙ c.in-Some.is in
    let P : Option Piece → Type 0 = λ cell. is_of_side side cell ≡ true in
    let own = side_of side c.in-Some.piece (subst P is mine) in
    let fit = sym c.fits.ensures ∙ c.if-fits.true in
    let stand : StandBetween cells c.and.result from to = λ s. (
      (λ has. let parts = and_parts _ _ (sym (c.and.ensures s) ∙ has) in ((c.between.ensures s).0 parts.0, sym (c.all_occupied.ensures s) ∙ parts.1)),
      (λ is. c.and.ensures s ∙ and_from _ _ ((c.between.ensures s).1 is.0) (c.all_occupied.ensures s ∙ is.1)),
    ) in
    let one = c.only.ensures square in (
      (λ has. keeps cells side c.in-Some.piece square from to c.and.result is own fit stand (one.0 has)),
      (λ off. one.1 (kept cells side c.in-Some.piece square from to c.and.result is stand off)),
    )
