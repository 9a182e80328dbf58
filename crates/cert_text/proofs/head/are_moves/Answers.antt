use Rattle.std.proofs.Common.{◌≡◌, ◌++◌, ◌∷◌, [], sym, ◌∙◌, false, true}
use Rattle.std.proofs.Common.{arith}
use Rattle.std.specs.Option.{is_some}
use Rattle.std.proofs.lemmas.Bool.{false≢true, not-true, not-false}
use Rattle.board_core.specs.Text.{HasText}
use Rattle.cert_text.proofs.Cuts.{all_push}
use Rattle.cert_text.proofs.Heads.{moves_cut, moves_last, no_move_read, some_read, read_some, no_space, moves_push, moves_end}
use Rattle.cert_text.proofs.head.are_moves.Goals as goal

pub returns-in_default : goal.returns-in_default
returns-in_default c = ((λ t. absurd (false≢true t)), λ moves. absurd (no_space c.args.text.now c.in_default.ensures.none moves))

pub returns-then-is_none : goal.returns-then-is_none
returns-then-is_none c = (
  (λ t. absurd (false≢true t)),
  λ moves.
      let gone : is_some c.read_move.result ≡ false = grind (arith, not-true, not-false, c.is_none.ensures, c.if-is_none.true) in
      absurd (no_move_read c.in-Some-cut.word.now c.read_move.result gone c.read_move.ensures.exact
      (moves_cut c.loop-word.rest.now c.in-Some-cut.word.now c.in-Some-cut.more.now c.in-Some-cut.ensures.parts c.in-Some-cut.ensures.front (c.loop-word.invariant.only moves)).0),
)

pub loop-word-preserved : goal.loop-word-preserved
loop-word-preserved c =
    let there : is_some c.read_move.result ≡ true = grind (arith, not-true, not-false, c.is_none.ensures, c.if-is_none.false) in
    let one = some_read c.in-Some-cut.word.now c.read_move.result there c.read_move.ensures.exact in record {
      done = c.loop-word.invariant.done ++ one.move ∷ [];
      have_text = all_push HasText c.loop-word.invariant.done one.move c.loop-word.invariant.have_text one.has_text;
      so_far = moves_push c.args.text.now c.loop-word.rest.now c.in-Some-cut.word.now c.in-Some-cut.more.now c.loop-word.invariant.done one.move c.loop-word.invariant.so_far c.in-Some-cut.ensures.parts one.text;
      only = λ moves. (moves_cut c.loop-word.rest.now c.in-Some-cut.word.now c.in-Some-cut.more.now c.in-Some-cut.ensures.parts c.in-Some-cut.ensures.front (c.loop-word.invariant.only moves)).1;
    }

pub returns : goal.returns
returns c = (
  (λ t. moves_end c.args.text.now c.loop-word.rest.now c.loop-word.invariant.done c.loop-word.invariant.so_far c.loop-word.invariant.have_text
      (some_read c.loop-word.rest.now c.read_move-2.result (sym c.is_some.ensures ∙ t) c.read_move-2.ensures.exact)),
  (λ moves. c.is_some.ensures ∙ read_some c.loop-word.rest.now c.read_move-2.result (moves_last c.loop-word.rest.now c.in_default-cut.ensures.none (c.loop-word.invariant.only moves)) c.read_move-2.ensures.exact),
)
