use Rattle.std.proofs.Common.{◌≡◌, ◌++◌, ◌+◌, drop}
use Rattle.std.specs.Prelude.{None}
use Rattle.shogi_rules.specs.Rules.{IsQuiet}
use Rattle.kif_moves.specs.Playing.{AreInTurn, after_all}
use Rattle.kif_record.specs.Moves.{moves_text}
use Rattle.kif_record.proofs.record.put_moves.Given as goal

abbrev pub invariant-loop-by : goal.invariant-loop-by
invariant-loop-by l = record {
  number : l.number ≡ l.by-index + 1;
  quiet : IsQuiet l.position;
  turn : AreInTurn l.problem.position.side l.position (drop l.by-index l.moves);
  behind : after_all l.position (drop l.by-index l.moves) ≡ after_all l.problem.position l.moves;
  text : l.out.items ++ moves_text l.number l.last l.position (drop l.by-index l.moves) ≡ l.fn.out.items ++ moves_text 1 None l.problem.position l.moves;
}
