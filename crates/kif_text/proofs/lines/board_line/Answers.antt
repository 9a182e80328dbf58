use Rattle.std.proofs.Common.{◌∙◌, sym, refl}
use Rattle.kif_text.proofs.lines.board_line.Goals as goal

pub returns-then-begins_either : goal.returns-then-begins_either
unfolding lib.Utf8.encode
returns-then-begins_either c =
    rw (c.in_default.ensures, sym c.begins_either.ensures ∙ c.if-begins_either.true) refl

pub returns-then-begins_either-2 : goal.returns-then-begins_either-2
unfolding lib.Utf8.encode
returns-then-begins_either-2 c =
    rw (c.in_default.ensures, sym c.begins_either.ensures ∙ c.if-begins_either.false, sym c.begins_either-2.ensures ∙ c.if-begins_either-2.true) refl

pub returns : goal.returns
unfolding lib.Utf8.encode
returns c =
    rw (c.in_default.ensures, sym c.begins_either.ensures ∙ c.if-begins_either.false, sym c.begins_either-2.ensures ∙ c.if-begins_either-2.false) refl
