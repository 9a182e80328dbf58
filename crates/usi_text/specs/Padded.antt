-- Four or five bytes, kept in five.
use Rattle.std.specs.Prelude.{◌≡◌, ℕ, zero, Bool, true, false, List, [], ◌∷◌, ◌++◌, length, take, nat_lt, if◌then◌else◌, refl}

-- Five bytes, the last one 0 where it isn't in use.
abbrev pub IsPadded : List ℕ → Bool → Type 0
IsPadded (a ∷ b ∷ c ∷ d ∷ e ∷ []) true = Unit {0}
IsPadded (a ∷ b ∷ c ∷ d ∷ zero ∷ []) false = Unit {0}
IsPadded bytes long = ⊥

-- The bytes in use: all, or the first four.
abbrev pub in_use : List ℕ → Bool → List ℕ
in_use bytes true = bytes
in_use bytes false = take 4 bytes

-- The five bytes of which these are in use.
abbrev pub padded_bytes : List ℕ → List ℕ
padded_bytes xs = if nat_lt 4 (length xs) then xs else xs ++ 0 ∷ []

-- Padding gives the five bytes back.
pub padded_again : (bytes : List ℕ) (long : Bool) → IsPadded bytes long → padded_bytes (in_use bytes long) ≡ bytes
padded_again (a ∷ b ∷ c ∷ d ∷ e ∷ []) true h = refl
padded_again (a ∷ b ∷ c ∷ d ∷ zero ∷ []) false h = refl
padded_again bytes long h = absurd h

-- The count of the bytes in use says whether it is five.
pub long_again : (bytes : List ℕ) (long : Bool) → IsPadded bytes long → nat_lt 4 (length (in_use bytes long)) ≡ long
long_again (a ∷ b ∷ c ∷ d ∷ e ∷ []) true h = refl
long_again (a ∷ b ∷ c ∷ d ∷ zero ∷ []) false h = refl
long_again bytes long h = absurd h
