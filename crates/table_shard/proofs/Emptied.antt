-- The counts beside the rows of a shard whose entries are taken out.
use Rattle.std.proofs.Common.{◌≡◌, ◌<◌, ℕ, List, [], length, get_or, set, replicate, inl, inr, sym, subst, ap, ◌∙◌}
use Rattle.std.proofs.lemmas.Bool.{cases_eq}
use Rattle.std.proofs.lemmas.List.{length-set, get_or-set_same, get_or-set_other, ext_get_or, length-replicate, get_or-replicate}
use Rattle.table_shard.specs.Entry.{EntryView}
use Rattle.table_shard.specs.Emptied.{AreUncounted}

-- a row is freed, and its counts are set to zero
pub uncounted_freed : (rows : List (List EntryView)) (pins : List (List ℕ)) (place : ℕ) → place < length rows → AreUncounted rows pins
    → AreUncounted (set rows place []) (set pins place (replicate 8 0))
uncounted_freed rows pins place there are = record {
  as_many = length-set pins place (replicate 8 0) ∙ (are.as_many ∙ sym (length-set rows place []));
  free = λ other within h. elim (cases_eq other place) [
    | inl same ↦ subst (λ (n : ℕ). get_or (set pins place (replicate 8 0)) n [] ≡ replicate 8 0) (sym same)
        (get_or-set_same pins place (replicate 8 0) [] (subst (λ (n : ℕ). place < n) (sym are.as_many) there))
    | inr not ↦ get_or-set_other pins place other (replicate 8 0) [] not
        ∙ are.free other (subst (λ (n : ℕ). other < n) (length-set rows place []) within) (sym (get_or-set_other rows place other [] [] not) ∙ h)
  ];
}

-- where all rows are free, all counts are zero
pub all_uncounted : (rows : List (List EntryView)) (pins : List (List ℕ)) (n : ℕ) → rows ≡ replicate n [] → AreUncounted rows pins → pins ≡ replicate n (replicate 8 0)
all_uncounted rows pins n free are = ext_get_or [] pins (replicate n (replicate 8 0))
    (are.as_many ∙ (ap length free ∙ (length-replicate n [] ∙ sym (length-replicate n (replicate 8 0)))))
    (λ place there.
    let long : length rows ≡ n = ap length free ∙ length-replicate n [] in
    let within : place < length rows = subst (λ (m : ℕ). place < m) are.as_many there in
    let below : place < n = subst (λ (m : ℕ). place < m) long within in
    let empty : get_or rows place [] ≡ [] = ap (λ (rs : List (List EntryView)). get_or rs place []) free ∙ get_or-replicate n place [] [] below in
    are.free place within empty ∙ sym (get_or-replicate n place (replicate 8 0) [] below))
