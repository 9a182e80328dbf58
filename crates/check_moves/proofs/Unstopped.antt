-- The squares that are left once those are taken out on which all who attack are stopped.
use Rattle.std.proofs.Common.{◌≡◌, ◌<◌, ◌↔◌, ◌&&◌, not, nat_lt, ap, inl, inr, ℕ, true, false, sym, ◌∙◌}
use Rattle.std.proofs.lemmas.Bool.{cases_Bool, lt-ltb, and_parts, and_from}
use Rattle.bit_boards.specs.declared.mask.Mask.{Mask}
use Rattle.bit_boards.specs.Mask.{holds, Holds, MasksOnBoard}
use Rattle.board_core.specs.Board.{Board}
use Rattle.shogi_rules.specs.Rules.{IsOwn}
use Rattle.attack_lines.specs.Lines.{AttacksWithout, StopsAll}
use Rattle.attack_laws.specs.Unveiled.{IsUnveiled}
use Rattle.attack_laws.proofs.Stopped.{unstopped}

-- all squares but those that stop all such attackers are those that unveil one
pub unveils_are : MasksOnBoard → (b : Board) (behind blocks full made : Mask) (lifted to end : ℕ) → to < 81 → ¬ IsOwn b to
    → ((s : ℕ) → Holds behind s ↔ ((s < 81) × AttacksWithout b.cells b.side lifted s end))
    → Holds blocks to ↔ ((to < 81) × StopsAll behind end to)
    → holds full to ≡ nat_lt to 81 → holds made to ≡ (holds full to && not (holds blocks to))
    → Holds made to ↔ IsUnveiled b.cells b.side lifted to end
unveils_are on_board b behind blocks full made lifted to end low free are stop all but =
    let means = unstopped on_board b behind lifted to end free are in
    let inside : holds full to ≡ true = all ∙ lt-ltb to 81 low in (
      λ has. means.0 (λ every. absurd (
          let stopped : holds blocks to ≡ true = stop.1 (low, every) in
          let free : not (holds blocks to) ≡ true = let t = and_parts (holds full to) (not (holds blocks to)) (sym but ∙ has) in t.1 in
          let clash : true ≡ false = sym free ∙ ap not stopped in
          cc)),
      λ u. but ∙ elim (cases_Bool (holds blocks to)) [
        | inl every ↦ absurd (means.1 u (let t = stop.0 every in t.1))
        | inr some ↦ and_from _ _ inside (ap not some)
      ],
    )
