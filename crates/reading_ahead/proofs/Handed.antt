-- What is handed on of a piece.
use Rattle.std.proofs.Common.{◌≡◌, ℕ, ◌+◌, ◌≤◌, List, ◌++◌, length, take, drop, sym, ◌∙◌, ap, length-take-le, take-append-drop}
use Rattle.std.proofs.lemmas.List.{take_at, drop-drop}

-- Bytes that were copied to the front of a place are those that were taken.
pub copied : (bytes new old : List ℕ) (at n : ℕ) → n ≤ length (drop at bytes) → new ≡ take n (drop at bytes) → drop at bytes ≡ take n (new ++ old) ++ drop (at + n) bytes
copied bytes new old at n fits copy =
    let from : List ℕ = drop at bytes in
    let front : take n (new ++ old) ≡ take n from = ap (λ l. take n (l ++ old)) copy ∙ take_at (take n from) old n (length-take-le n from fits) in
    let rest : drop n from ≡ drop (at + n) bytes = drop-drop n at bytes in
    sym (ap (λ l. l ++ drop (at + n) bytes) front ∙ ap (λ l. take n from ++ l) (sym rest) ∙ take-append-drop n from)
