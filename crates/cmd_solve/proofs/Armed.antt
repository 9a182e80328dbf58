-- Stops that were armed.
use Rattle.std.proofs.Common.{◌≡◌, ℕ, List, [], ◌∷◌, Option, refl, ap, map}
use Rattle.search_gate.specs.Stop.{Signal, armed_with}

-- What the stops tell once each is armed.
pub told_armed : {A : Type 0} (deadline : Option ℕ) (signal : A → Signal) (stops : List A)
    → map (λ stop. armed_with (signal stop) deadline) stops ≡ map (λ s. armed_with s deadline) (map signal stops)
told_armed deadline signal [] = refl
told_armed deadline signal (stop ∷ stops) = ap (λ rest. armed_with (signal stop) deadline ∷ rest) (told_armed deadline signal stops)
