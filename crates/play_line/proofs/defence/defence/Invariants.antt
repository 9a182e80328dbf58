use Rattle.play_line.proofs.Defending.{AreJudged}
use Rattle.play_line.proofs.defence.defence.Given as goal

abbrev pub invariant-loop-evasion : goal.invariant-loop-evasion
invariant-loop-evasion l = AreJudged l.certificate l.attacker l.checked l.evasion-items l.evasion-index l.longest
