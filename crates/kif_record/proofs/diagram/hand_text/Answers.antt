use Rattle.std.proofs.Common.{ap, ◌∙◌, ◌∷◌, [], arith}
use Rattle.bit_boards.specs.declared.piece.Kind.TheVariants.{Pawn, Lance, Knight, Silver, Gold, Bishop, Rook}
use Rattle.kif_record.specs.Diagram.{hand_text, or_none, with_kinds}
use Rattle.kif_record.proofs.Writing.{none_for_nothing, some_stays}
use Rattle.kif_record.proofs.diagram.hand_text.Goals as goal

pub returns-then-not-is_empty : goal.returns-then-not-is_empty
unfolding hand_text
returns-then-not-is_empty c = some_stays c.put_kinds.new.out.items _ c.is_empty.result (omega arith) c.is_empty.ensures c.if-not-is_empty.true ∙ ap or_none (c.in_ok-put_kinds.ensures ∙ ap (λ t. with_kinds c.args.hand t (Rook ∷ Bishop ∷ Gold ∷ Silver ∷ Knight ∷ Lance ∷ Pawn ∷ [])) c.new-text.ensures.items)

pub returns : goal.returns
unfolding hand_text lib.Utf8.encode
returns c = c.in_ok-put_text.ensures ∙ none_for_nothing c.put_kinds.new.out.items _ c.is_empty.result (omega arith) c.is_empty.ensures c.if-not-is_empty.false ∙ ap or_none (c.in_ok-put_kinds.ensures ∙ ap (λ t. with_kinds c.args.hand t (Rook ∷ Bishop ∷ Gold ∷ Silver ∷ Knight ∷ Lance ∷ Pawn ∷ [])) c.new-text.ensures.items)
