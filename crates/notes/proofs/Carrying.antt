-- What a carried note, and the note that it carries, have in common.
use Rattle.std.proofs.Common.{◌≡◌, ◌<◌, List, [], ◌∷◌, arith, refl, sym, ap, subst}
use Rattle.std.specs.Prelude.{Option}
use Rattle.bit_boards.specs.declared.piece.Piece.{Piece}
use Rattle.bit_boards.specs.declared.piece.Side.{Side}
use Rattle.bit_boards.specs.Kind.{other}
use Rattle.board_core.specs.Board.{Board, kings_of}
use Rattle.shogi_rules.specs.Rules.{IsInCheck}
use Rattle.notes.specs.declared.rule.Rule.{Rule}
use Rattle.notes.specs.declared.rule.Rule.TheVariants.{Carry}
use Rattle.notes.specs.declared.rule.Conclusion.{Conclusion}
use Rattle.notes.specs.declared.rule.Conclusion.TheVariants.{Mate, Escape}
use Rattle.notes.specs.Derivation.{Derivation, derived, none_under, one_under, listed, rule_of, conclusion_of, source_by, source_of, under_of, steps_of}
use Rattle.notes.specs.Valid.{CarriesTo, IsInPlay, IsValid, MayBeCarried, meets}

-- 1. The positions

same_cells : (conclusion : Conclusion) (attacker : Side) (from to : Board) → CarriesTo conclusion attacker from to → from.cells ≡ to.cells
same_cells Mate attacker from to d = sym d.cells
same_cells Escape attacker from to d = d.cells

same_turn : (conclusion : Conclusion) (attacker : Side) (from to : Board) → CarriesTo conclusion attacker from to → from.side ≡ to.side
same_turn Mate attacker from to d = sym d.turn
same_turn Escape attacker from to d = d.turn

play_as : (attacker : Side) (from to : Board) → from.cells ≡ to.cells → from.side ≡ to.side → IsInPlay attacker from → IsInPlay attacker to
play_as attacker from to cells side play = record {
  has_king = subst (λ (its : List (Option Piece)). 0 < kings_of (record from { cells = its }) (other attacker)) cells play.has_king;
  quiet = subst (λ (turn : Side). ¬ IsInCheck to.cells (other turn)) side
      (subst (λ (its : List (Option Piece)). ¬ IsInCheck its (other from.side)) cells play.quiet);
}

-- where a note may be carried to, the position is as play has it
pub carried_play : (attacker : Side) (b : Board) (note : Derivation) → IsValid note → MayBeCarried attacker b note → IsInPlay attacker b
carried_play attacker b (derived s notes) valid may =
    play_as attacker s.position b (same_cells (conclusion_of (derived s notes)) attacker s.position b may.holds)
    (same_turn (conclusion_of (derived s notes)) attacker s.position b may.holds)
    (subst (λ (side : Side). IsInPlay side s.position) may.same_attacker valid.1.play)

-- 2. The note under a carried one

pub record IsCarried (note first : Derivation) : Type 0 where
  pub alone : under_of note ≡ first ∷ []
  pub valid : IsValid first
  pub source : source_of note ≡ source_of first
  pub fewer : steps_of first < steps_of note

no_note : (one : Derivation) → [] ≡ one ∷ [] → ⊥
no_note one e = cc

none_behind : (first one : Derivation) (rest : List Derivation) → first ∷ rest ≡ one ∷ [] → first ∷ rest ≡ first ∷ []
none_behind first one rest e = cc

pub carried_first : (note : Derivation) (conclusion : Conclusion) → IsValid note → rule_of note ≡ Carry conclusion
    → (first : Derivation) × IsCarried note first
carried_first (derived s none_under) conclusion valid carry =
    let met : meets (Carry conclusion) s [] = subst (λ (rule : Rule). meets rule s []) carry valid.1.rule in
    absurd (no_note met.0.note met.0.alone)
carried_first (derived s (one_under first rest)) conclusion valid carry =
    let met : meets (Carry conclusion) s (first ∷ listed rest) = subst (λ (rule : Rule). meets rule s (first ∷ listed rest)) carry valid.1.rule in (
      first,
      record {
        alone = none_behind first met.0.note (listed rest) met.0.alone;
        valid = valid.0.0;
        source = ap (λ (rule : Rule). source_by rule (derived s (one_under first rest)) (source_of first)) carry;
        fewer = omega arith;
      },
    )

-- where none is carried the source is the note itself
own_by : (rule : Rule) (own source : Derivation) → ((conclusion : Conclusion) → rule ≡ Carry conclusion → ⊥) → source_by rule own source ≡ own
own_by (Carry conclusion) own source none = absurd (none conclusion refl)
own_by rule own source none = refl

pub own_source : (note : Derivation) → ((conclusion : Conclusion) → rule_of note ≡ Carry conclusion → ⊥) → source_of note ≡ note
own_source (derived s none_under) own = refl
own_source (derived s (one_under first rest)) own = own_by s.rule (derived s (one_under first rest)) (source_of first) own
