-- What a map has after one key was written.
use Rattle.std.proofs.Common.{◌≡◌, subst, cond, true, false, Bool}
use Rattle.std.specs.Prelude.{Some}
use Rattle.std.specs.declared.cmp.Ordering.{Ordering}
use Rattle.std.specs.BTreeMap.{get, is_at, BTreeMap, Updates}

-- at the key, the value
pub written : {K V : Type 0} (cmp : K → K → Ordering) (old new : BTreeMap K V) (key : K) (value : V) → Updates cmp old new key (Some value)
    → (k : K) → is_at (cmp key) k ≡ true → get cmp new k ≡ Some value
written cmp old new key value updates k h =
    subst (λ (t : Bool). get cmp new k ≡ cond t (Some value) (get cmp old k)) h (updates.0 k)

-- elsewhere, what was there
pub unwritten : {K V : Type 0} (cmp : K → K → Ordering) (old new : BTreeMap K V) (key : K) (value : V) → Updates cmp old new key (Some value)
    → (k : K) → is_at (cmp key) k ≡ false → get cmp new k ≡ get cmp old k
unwritten cmp old new key value updates k h =
    subst (λ (t : Bool). get cmp new k ≡ cond t (Some value) (get cmp old k)) h (updates.0 k)
