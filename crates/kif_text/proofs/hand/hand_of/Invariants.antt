use Rattle.std.proofs.Common.{◌≡◌, ◌++◌, List, ℕ, length}
use denote.Text.{Utf8}
use denote.Shadow.{shadow}
use Rattle.std.specs.Str.{chars}
use Rattle.kif_text.specs.Words.{words, HasWordFault, hand_with}
use Rattle.kif_text.specs.First.{HasNone}
use Rattle.kif_text.proofs.hand.hand_of.Given as goal

abbrev pub invariant-loop-rest : goal.invariant-loop-rest
invariant-loop-rest l = shadow (Utf8 l.rest) × ((before : List (List ℕ)) × (words (chars l.fn.text) ≡ before ++ words (chars l.rest)) × HasNone (HasWordFault l.line) before × (l.hand ≡ hand_with before))

abbrev pub decreases-loop-rest : goal.decreases-loop-rest
decreases-loop-rest l = length l.rest
