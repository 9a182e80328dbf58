use Rattle.std.proofs.Common.{sym, subst, refl, List}
use Rattle.board_core.specs.declared.moves.Move.{Move}
use Rattle.cert_text.specs.declared.certificate.Certificate.TheVariants as certificates
use Rattle.cert_text.specs.Reading.{IsTextOf}
use Rattle.play_line.specs.Line.{IsMainLine}
use Rattle.app_texts.specs.Texts.{solution_text}
use Rattle.app_texts.specs.declared.answer.Solution.TheVariants.{Mate}
use Rattle.problem_answers.proofs.Shown.{mate_told}
use Rattle.problem_answers.proofs.solution.mate.Goals as goal

pub returns-clause-shown : goal.returns-clause-shown
returns-clause-shown c =
    let mate = certificates.Mate c.args.certificate in
    let p = c.args.problem.now.position in (
      refl,
      record {
        mate = (c.valid_is_accepted.ensures.readable mate p c.requires.readable c.requires.valid).mate;
        valid = c.requires.valid;
        accepted = λ verdict is. c.valid_is_accepted.ensures.accepted mate p verdict is c.requires.valid;
        readable = c.requires.readable;
        text = subst (λ (moves : List Move). IsTextOf mate (solution_text (Mate c.args.certificate moves))) (sym c.new.ensures)
            (mate_told c.args.certificate p.side p c.in_ok-moves.moves.items c.in_ok-moves.ensures.line c.in_ok-moves.ensures.texts);
        line = subst (λ (moves : List Move). IsMainLine c.args.certificate p.side p moves) (sym c.new.ensures) c.in_ok-moves.ensures.line;
      },
    )
