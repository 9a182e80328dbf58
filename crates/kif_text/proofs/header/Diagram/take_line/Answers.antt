use Rattle.std.proofs.Common.{refl, sym, ap, ◌∙◌}
use Rattle.std.specs.Str.{chars}
use Rattle.kif_text.specs.Lines.{in_hand}
use Rattle.kif_text.proofs.Said.{other_more, turn_more, black_more, white_more, row_more}
use Rattle.kif_text.proofs.header.Diagram.take_line.Goals as goal

pub returns-in-Other : goal.returns-in-Other
returns-in-Other c = λ list was at. other_more list c.args.line.now c.args.self.now c.in-Other.ensures was

pub returns-in-Turn : goal.returns-in-Turn
returns-in-Turn c = λ list was at. turn_more list c.args.line.now c.in-Turn.side c.args.self.now c.in-Turn.ensures was

pub returns-in_ok-self-in-InHand-Black-default : goal.returns-in_ok-self-in-InHand-Black-default
returns-in_ok-self-in-InHand-Black-default c = λ list was at.
    black_more list c.args.line.now c.in-InHand-Black-default.text.now c.args.number c.in_ok-self-in-InHand-Black-default.field-0 c.args.self.now _ (ap (λ side. in_hand side c.in-InHand-Black-default.text.now) (sym c.in-InHand-Black-default.field-0-is) ∙ c.in-InHand-Black-default.ensures) at c.in_ok-self-in-InHand-Black-default.ensures was refl refl refl refl refl

pub returns-in_ok-self-in-InHand-White-default : goal.returns-in_ok-self-in-InHand-White-default
returns-in_ok-self-in-InHand-White-default c = λ list was at.
    white_more list c.args.line.now c.in-InHand-White-default.text.now c.args.number c.in_ok-self-in-InHand-White-default.field-0 c.args.self.now _ (ap (λ side. in_hand side c.in-InHand-White-default.text.now) (sym c.in-InHand-White-default.field-0-is) ∙ c.in-InHand-White-default.ensures) at c.in_ok-self-in-InHand-White-default.ensures was refl refl refl refl refl

pub returns-in_ok-take_row-in-Row : goal.returns-in_ok-take_row-in-Row
returns-in_ok-take_row-in-Row c = λ list was at.
    row_more list c.args.line.now (chars c.in-Row.row.now) c.args.self.now c.take_row.new.self c.in-Row.ensures was c.in_ok-take_row-in-Row.ensures
