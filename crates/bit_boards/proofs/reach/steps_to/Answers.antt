use Rattle.std.proofs.Common.{◌≡◌, ℕ, ◌<◌, ◌&&◌, nat_lt, refl, ap, ◌∙◌, inl, inr}
use Rattle.std.proofs.lemmas.Bool.{cases_lt, le-ltb}
use Rattle.bit_boards.specs.declared.piece.Side.{Side}
use Rattle.bit_boards.specs.declared.piece.Piece.{Piece}
use Rattle.bit_boards.specs.Kind.{other}
use Rattle.bit_boards.specs.Movement.{goes_by_step}
use Rattle.bit_boards.proofs.Stepping.{stepping, backward}
use Rattle.bit_boards.proofs.reach.steps_to.Goals as goal

other_way : (piece : Piece) (side : Side) (s to : ℕ) → to < 81 → side ≡ other piece.side
    → (nat_lt s 81 && stepping side piece.kind piece.promoted to s) ≡ (nat_lt s 81 && goes_by_step piece s to)
other_way piece side s to h e =
    ap (λ x. nat_lt s 81 && stepping x piece.kind piece.promoted to s) e ∙ (elim (cases_lt s 81) [
      | inl lt ↦ ap (λ x. nat_lt s 81 && x) (backward piece.side piece.kind piece.promoted s to lt h)
      | inr ge ↦ rw (le-ltb s 81 ge) refl
    ])

pub returns : goal.returns
returns c s = c.steps_for.ensures s ∙ other_way c.args.piece c.other.result s c.args.to.number c.args.to.on_board c.other.ensures
