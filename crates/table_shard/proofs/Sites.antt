-- Where a row lies in a shard of a table.
use Rattle.std.proofs.Common.{◌≡◌, ◌<◌, ◌+◌, ◌*◌, ◌/◌, ◌%◌, ◌^◌, ℕ, List, [], ◌∷◌, arith, sym, ap, ap₂, ◌∙◌}
use Rattle.std.specs.Prelude.{fold}
use Rattle.std.proofs.Math.Nat.{mod-add-div, add-mul-mod_self_right, mod-lt, mod-eq_of_lt}
use Rattle.board_core.specs.declared.keys.Key.{Key}
use Rattle.hand_dominance.specs.ByKey.{board_words}
use Rattle.table_shard.specs.Spot.{hashed, hash_of, mark_of, place_of, spot_of}
use Rattle.table_shard.specs.declared.hash.Spot.{Spot}
use Rattle.table_shard.specs.declared.hash.TheConstants.{MULTIPLIER, MODULUS}

-- what is left of all rows, of a shard's own, is what is left of these
pub shifted : (hash shards own : ℕ) → hash % own ≡ hash % (shards * own) % own
shifted hash shards own =
    let rows = shards * own in
    let whole = hash / rows in
    let parts : hash % rows + rows * whole ≡ hash = mod-add-div hash rows in
    let same : rows * whole ≡ (shards * whole) * own = grind arith in
    ap (λ (n : ℕ). n % own) (sym parts ∙ ap (λ (n : ℕ). hash % rows + n) same) ∙ add-mul-mod_self_right (hash % rows) (shards * whole) own

-- hashes are low
low_from : (words : List ℕ) (hash : ℕ) → hash < MODULUS → fold hashed hash words < MODULUS
low_from [] hash low = low
low_from (word ∷ words) hash low = low_from words (hashed hash word) (mod-lt ((hash + word) * MULTIPLIER) (omega arith))

pub hash_low : (words : List ℕ) → hash_of words < MODULUS
hash_low words = low_from (board_words words) 0 (omega arith)

abbrev pub spot_with : ℕ → ℕ → Spot
spot_with its_place its_mark = record { place = its_place; mark = its_mark }

-- the place and the mark that are reckoned from a key's hash are the key's
pub spot_by : (hash rows place mark : ℕ) (key : Key) → hash ≡ hash_of key.0 → place ≡ hash % rows → mark ≡ hash / 2 ^ 32 % 2 ^ 32
    → spot_with place mark ≡ spot_of key rows
spot_by hash rows place mark key is at by =
    let low = hash_low key.0 in
    let here : place ≡ place_of key rows = at ∙ ap (λ h. h % rows) is in
    let half : hash_of key.0 / 2 ^ 32 % 2 ^ 32 ≡ mark_of key = mod-eq_of_lt (omega (arith, low)) in
    ap₂ spot_with here (by ∙ (ap (λ (h : ℕ). h / 2 ^ 32 % 2 ^ 32) is ∙ half))
