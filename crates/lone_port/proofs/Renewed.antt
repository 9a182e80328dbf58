-- Beginning anew.
use Rattle.std.proofs.Common.{◌≡◌, ◌<◌, ℕ, zero, suc, List, [], length, get_or, replicate, sym, subst, ap, ◌∙◌, arith}
use Rattle.std.proofs.lemmas.List.{ext_get_or, length-replicate, get_or-replicate}
use Rattle.std.proofs.lemmas.List.Elements.{All-get_or}
use Rattle.table_shard.specs.Emptied.{AreUncounted}
use Rattle.lone_port.specs.Lone.{LonePortView, IsLone}

none_at : (counts : List ℕ) → length counts ≡ 8 → ((slot : ℕ) → 0 < get_or counts slot 0 → slot < 0) → counts ≡ replicate 8 0
none_at counts eight none = ext_get_or 0 counts (replicate 8 0) (eight ∙ sym (length-replicate {A = ℕ} 8 0)) (λ slot there.
    let zero_there : get_or counts slot 0 ≡ 0 = least (get_or counts slot 0) (λ some. let n = none slot some in absurd (omega (arith, n))) in
    zero_there ∙ sym (get_or-replicate 8 slot 0 0 (subst (λ (n : ℕ). slot < n) eight there)))
  where
    least : (n : ℕ) → (0 < n → ⊥) → n ≡ 0
    least zero h = omega arith
    least (suc n) h = absurd (h (omega arith))

-- A row without entries has no visits below its slots.
pub uncounted_of : (port : LonePortView) → IsLone port → AreUncounted port.rows port.pins
uncounted_of port is = record {
  as_many = is.as_many;
  free = λ place there empty. none_at (get_or port.pins place [])
      (All-get_or (λ (c : List ℕ). length c ≡ 8) port.pins place [] (subst (λ (n : ℕ). place < n) (sym is.as_many) there) is.eight)
      (λ slot some. subst (λ n. slot < n) (ap length empty) (is.there place slot some));
}
