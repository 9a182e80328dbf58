-- How many squares a set has, and sets by what they hold.
use Rattle.std.proofs.Common.{Bool, ◌≡◌, ℕ, ◌+◌, ◌<◌, ◌≤◌, ◌==◌, ◌^◌, ◌&&◌, not, sym, ap, ◌∙◌}
use Rattle.std.specs.Prelude.{count_ones}
use mathlib.Core.HLevel.{is_prop→PathP}
use Rattle.std.proofs.Math.Bridge.{le_prop}
use Rattle.std.proofs.lemmas.Bool.{lt-ltb}
use Rattle.bit_boards.specs.declared.mask.Mask.{Mask}
use Rattle.bit_boards.specs.Mask.{holds, Holds, count}
use Rattle.bit_boards.proofs.Bits.{set, same_sets, set_within}
use Rattle.bit_boards.proofs.Masked.{bits_where, bits_where-at, bits_where-lt, ones_where, count_small, count_falls}

own_bits : (bits : ℕ) → bits < 2 ^ 81 → bits ≡ bits_where (set bits)
own_bits bits small = same_sets bits (bits_where (set bits)) small (bits_where-lt (set bits))
    (λ i within. sym (bits_where-at (set bits) i ∙ ap (λ b. b && set bits i) (lt-ltb i 81 within)))

pub count-ones : (mask : Mask) → count_ones mask.bits ≡ count mask
unfolding count holds
count-ones mask = ap count_ones (own_bits mask.bits mask.on_board) ∙ ones_where (set mask.bits)

pub count-le : (mask : Mask) → count mask ≤ 81
unfolding count holds
count-le mask = count_small (holds mask)

pub count-less : (old new : Mask) (k : ℕ) → k < 81 → Holds old k → ((s : ℕ) → holds new s ≡ (holds old s && not (s == k)))
    → count old ≡ count new + 1
unfolding count
count-less old new k within has rest = count_falls (holds old) (holds new) k within has rest

pub on_board : (mask : Mask) (square : ℕ) → Holds mask square → square < 81
unfolding holds
on_board mask square has = set_within mask.bits square mask.on_board has

pub same_mask : (a b : Mask) → a.bits ≡ b.bits → a ≡ b
same_mask a b h = λ i. record { bits = h i; on_board = is_prop→PathP (λ j. h j < 2 ^ 81) (λ j. le_prop) a.on_board b.on_board i }

pub apart : (a b : Mask) → ((square : ℕ) → square < 81 → holds a square ≡ holds b square) → a ≡ b
unfolding holds
apart a b h = same_mask a b (same_sets a.bits b.bits a.on_board b.on_board h)

-- the set of the squares that pass a test
pub mask_where : (ℕ → Bool) → Mask
mask_where test = record { bits = bits_where test; on_board = bits_where-lt test }

-- a set whose squares are those that pass a test
pub mask_back : (mask : Mask) (test : ℕ → Bool) → ((s : ℕ) → holds mask s ≡ test s) → mask_where test ≡ mask
unfolding holds mask_where
mask_back mask test h = apart (mask_where test) mask (λ s within. bits_where-at test s ∙ (ap (λ b. b && test s) (lt-ltb s 81 within) ∙ sym (h s)))
