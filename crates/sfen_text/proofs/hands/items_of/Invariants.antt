use Rattle.std.proofs.Common.{◌≡◌, ◌+◌, None, drop}
use Rattle.sfen_text.specs.Hands.{hands_with, items, empty_hand, IsCountSoFar}
use Rattle.sfen_text.proofs.hands.items_of.Given as goal

abbrev pub invariant-loop-byte : goal.invariant-loop-byte
invariant-loop-byte l = record {
  count : IsCountSoFar l.holding.count;
  place : l.here ≡ l.at + l.byte-index;
  same : hands_with l.holding.black l.holding.white (items l.holding.start l.holding.count l.here (drop l.byte-index l.text)) ≡ hands_with empty_hand empty_hand (items l.at None l.at l.text);
}
