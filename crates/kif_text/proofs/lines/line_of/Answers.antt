use Rattle.std.proofs.Common.{◌∙◌, sym, refl, ap}
use Rattle.bit_boards.specs.declared.piece.Side.TheVariants.{Black, White}
use Rattle.kif_text.specs.Lines.{in_hand}
use Rattle.kif_text.proofs.lines.line_of.Goals as goal

pub returns-then-begins_either-2 : goal.returns-then-begins_either-2
unfolding lib.Utf8.encode
returns-then-begins_either-2 c =
    rw (sym c.begins_either.ensures ∙ c.if-begins_either.false, sym c.begins_either-2.ensures ∙ c.if-begins_either-2.true) refl

pub returns-in-Some : goal.returns-in-Some
unfolding lib.Utf8.encode
returns-in-Some c =
    rw (sym c.begins_either.ensures ∙ c.if-begins_either.false, sym c.begins_either-2.ensures ∙ c.if-begins_either-2.false, c.in-Some.ensures.0) (ap (λ text. in_hand Black text) c.in-Some.ensures.1)

pub returns-in-Some-behind : goal.returns-in-Some-behind
unfolding lib.Utf8.encode
returns-in-Some-behind c =
    rw (sym c.begins_either.ensures ∙ c.if-begins_either.false, sym c.begins_either-2.ensures ∙ c.if-begins_either-2.false, c.in_default.ensures, c.in-Some-behind.ensures.0) (ap (λ text. in_hand White text) c.in-Some-behind.ensures.1)

pub returns : goal.returns
unfolding lib.Utf8.encode
returns c =
    rw (sym c.begins_either.ensures ∙ c.if-begins_either.false, sym c.begins_either-2.ensures ∙ c.if-begins_either-2.false, c.in_default.ensures, c.in_default-behind.ensures) c.board_line.ensures
