use Rattle.std.proofs.Common.{◌≡◌, rules, subst, sym}
use Rattle.bit_boards.specs.declared.piece.Side.{Side}
use Rattle.bit_boards.specs.Kind.{other}
use Rattle.board_core.specs.Board.{Board}
use Rattle.shogi_rules.specs.Rules.{IsInCheck, IsLegal}
use Rattle.shogi_rules.proofs.tsume.gives_check.Goals as goal

pub returns : goal.returns
returns c =
    let mover : c.args.position.now.side ≡ c.args.attacker = search rules in
    let legal : IsLegal c.args.position.now c.args.by = search rules in (
      (λ checks. record {
        mover = mover;
        legal = legal;
        check = subst (λ (b : Board). IsInCheck b.cells (other c.args.attacker)) c.apply.ensures.position
            (subst (λ (s : Side). IsInCheck c.apply.result.cells s) c.other.ensures (c.in_check.ensures.check.0 checks));
      }),
      (λ known. c.in_check.ensures.check.1 (subst (λ (s : Side). IsInCheck c.apply.result.cells s) (sym c.other.ensures)
          (subst (λ (b : Board). IsInCheck b.cells (other c.args.attacker)) (sym c.apply.ensures.position) known.check))),
    )
