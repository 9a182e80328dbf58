use Rattle.std.proofs.Common.{arith, rules, inl, inr}
use Rattle.sfen_text.proofs.Filling.{signs_first, signs_promoted}
use Rattle.sfen_text.proofs.squares.sign_of.Goals as goal

pub returns-then-text-eq1-clause-signs : goal.returns-then-text-eq1-clause-signs
returns-then-text-eq1-clause-signs c = λ at. rw c.plain_sign.ensures (signs_first c.args.text.now c.requires (inl (omega arith)) at)

pub returns-then-text-ne43-clause-signs : goal.returns-then-text-ne43-clause-signs
returns-then-text-ne43-clause-signs c = λ at. rw c.plain_sign.ensures (signs_first c.args.text.now c.requires (inr (search rules)) at)

pub returns-clause-signs : goal.returns-clause-signs
returns-clause-signs c = λ at. rw (c.sign_of_piece.ensures, c.promoted_of.ensures) (signs_promoted c.args.text.now (omega arith) (search rules) at)
