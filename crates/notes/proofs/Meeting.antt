-- A rule met by parts is met by what they are equal to.
use Rattle.std.proofs.Common.{◌≡◌, ℕ, List, sym, subst}
use Rattle.bit_boards.specs.declared.piece.Side.{Side}
use Rattle.board_core.specs.declared.keys.Key.{Key}
use Rattle.board_core.specs.Board.{Board}
use Rattle.notes.specs.declared.rule.Rule.{Rule}
use Rattle.notes.specs.Derivation.{Derivation, step_over}
use Rattle.notes.specs.Valid.{meets}

pub met_as : (rule : Rule) (side same_side : Side) (b : Board) (tag same_tag : List Key) (height : ℕ) (notes same_notes : List Derivation)
    → same_side ≡ side → same_tag ≡ tag → same_notes ≡ notes → meets rule (step_over rule side b tag height) notes
    → meets rule (step_over rule same_side b same_tag height) same_notes
met_as rule side same_side b tag same_tag height notes same_notes sides tags lists met =
    subst (λ (x : Side × List Key × List Derivation). meets rule (step_over rule x.0 b x.1 height) x.2) (λ i. (sym sides i, sym tags i, sym lists i)) met
