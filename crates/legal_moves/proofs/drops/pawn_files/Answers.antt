use Rattle.std.proofs.Common.{◌≡◌, ◌/◌, ℕ, arith, sym, subst, ◌∙◌, inl, inr, eq-eqb}
use Rattle.std.proofs.lemmas.Bool.{cases_eq, ltb-true, lt-ltb, eqb-true, and_parts, and_from, or_left, or_right, or_cases}
use Rattle.board_laws.proofs.Truth.{gone_before}
use Rattle.bit_boards.specs.Mask.{holds}
use Rattle.bit_boards.specs.Square.{file_of}
use Rattle.legal_moves.proofs.drops.pawn_files.Goals as goal

on_file : (s t : ℕ) → file_of s ≡ file_of t → t / 9 ≡ s / 9
on_file s t e = omega arith

of_file : (s t : ℕ) → t / 9 ≡ s / 9 → file_of s ≡ file_of t
of_file s t e = omega arith

pub loop-pawn-preserved : goal.loop-pawn-preserved
loop-pawn-preserved c =
    let known = c.loop-pawn.invariant in
    let rest = c.in-Some.ensures.rest in
    let at = c.in-Some.pawn.number in (
      (λ f has. known.0 f (and_parts _ _ (sym (rest f) ∙ has)).0),
      (λ s has. elim (or_cases _ _ (sym (c.or-files.ensures s) ∙ has)) [
        | inl before ↦ known.1 s before
        | inr now ↦
            let parts = and_parts _ _ (sym (c.file-in-Some.ensures s) ∙ now) in (
              ltb-true _ _ parts.0,
              record {
                square = at;
                on_board = c.in-Some.pawn.on_board;
                same_file = on_file s at (eqb-true _ _ parts.1 ∙ c.file.ensures.file);
                pawn = known.0 at c.in-Some.ensures.found;
              },
            )
      ]),
      (λ s f low pawn gone same. c.or-files.ensures s ∙ (elim (cases_eq f at) [
        | inl e ↦ or_right _ _ (c.file-in-Some.ensures s ∙ and_from _ _ (lt-ltb s 81 low)
            (eq-eqb _ _ (of_file s at (subst (λ (x : ℕ). x / 9 ≡ s / 9) e same) ∙ sym c.file.ensures.file)))
        | inr other ↦ or_left _ _ (known.2 s f low pawn (gone_before (holds c.loop-pawn.left f) _ f at (rest f) gone other) same)
      ])),
    )
