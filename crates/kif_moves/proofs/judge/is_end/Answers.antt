use Rattle.std.proofs.Common.{refl, sym, ◌∙◌}
use Rattle.kif_moves.proofs.judge.is_end.Goals as goal

pub returns-then-begins : goal.returns-then-begins
unfolding lib.Utf8.encode
returns-then-begins c = rw (sym c.begins.ensures ∙ c.if-begins.true) refl

pub returns-then-begins-2 : goal.returns-then-begins-2
unfolding lib.Utf8.encode
returns-then-begins-2 c = rw (sym c.begins.ensures ∙ c.if-begins.false, sym c.begins-2.ensures ∙ c.if-begins-2.true) refl

pub returns : goal.returns
unfolding lib.Utf8.encode
returns c = rw (sym c.begins.ensures ∙ c.if-begins.false, sym c.begins-2.ensures ∙ c.if-begins-2.false) c.has_ending.ensures
