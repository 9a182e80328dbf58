use Rattle.sfen_text.specs.Spelling.{hand_text}
use Rattle.sfen_text.proofs.Writing.{dash_for_none, no_dash_for_some}
use Rattle.bit_boards.specs.declared.piece.Side.TheVariants.{Black, White}
use Rattle.std.proofs.Common.{◌++◌, ◌∙◌, arith}
use Rattle.sfen_text.proofs.write.put_hands.Goals as goal

pub returns-in_ok-push : goal.returns-in_ok-push
returns-in_ok-push c =
    let text = hand_text Black c.args.position.now.black ++ hand_text White c.args.position.now.white in
    let e = dash_for_none c.args.out.now.items c.put_both.new.out.items text c.in_ok-put_both.ensures (omega arith) in
    c.in_ok-push.ensures.items ∙ e

pub returns-else-len-before : goal.returns-else-len-before
returns-else-len-before c =
    let text = hand_text Black c.args.position.now.black ++ hand_text White c.args.position.now.white in
    no_dash_for_some c.args.out.now.items c.put_both.new.out.items text c.in_ok-put_both.ensures (λ e. c.if-len-before.false (omega arith))
