-- What is found where something was listed, or was too much.
use Rattle.std.proofs.Common.{◌≡◌, ◌⊎◌, inl, inr, ℕ, refl, subst, sym}
use Rattle.std.specs.Prelude.{Result, Ok, Err, IfOk}
use Rattle.board_core.specs.Board.{Board}
use Rattle.search_gate.specs.Stop.{Signal}
use Rattle.search_limits.specs.declared.cause.Cause.TheVariants.{Entries}
use Rattle.cert_text.specs.declared.limits.TheConstants.{MOST_ENTRIES}
use Rattle.shortest_lists.specs.declared.ends.ListEnd.{ListEnd}
use Rattle.shortest_lists.specs.declared.ends.ListEnd.TheVariants.{TooMany}
use Rattle.shortest_mate.specs.declared.finding.Finding.{Finding}
use Rattle.shortest_mate.specs.declared.finding.Finding.TheVariants.{Unknown}
use Rattle.shortest_mate.specs.Finding.{HasTooMany, HeedsStop, IsTrueOf}

-- this is what was listed, or too much was
abbrev pub IsOf : Result Finding ListEnd → Finding → Type 0
IsOf listed finding = (listed ≡ Ok finding) ⊎ ((finding ≡ Unknown (Entries MOST_ENTRIES)) × (listed ≡ Err TooMany))

-- what is true with any numbers
abbrev pub IsTrueAnyway : Board → ℕ → Finding → Type 0
IsTrueAnyway p limit finding = (expansions made : ℕ) → IsTrueOf p limit expansions made finding

-- what is heeded wherever a stop stayed quiet
abbrev pub IsQuietAnyway : Finding → Type 0
IsQuietAnyway finding = (before after_it : Signal) → after_it.raised ≡ before.raised → HeedsStop before after_it finding

pub told : (p : Board) (limit most made : ℕ) (listed : Result Finding ListEnd) (finding : Finding) → IfOk listed (IsTrueAnyway p limit)
    → (listed ≡ Err TooMany → HasTooMany p limit) → IsOf listed finding → IsTrueOf p limit most made finding
told p limit most made listed finding all many (inl e) =
    subst (λ (r : Result Finding ListEnd). IfOk r (IsTrueAnyway p limit)) e all most made
told p limit most made listed finding all many (inr (e, f)) = subst (λ (x : Finding). IsTrueOf p limit most made x) (sym e) (refl, many f)

pub told_quiet : (before after_it : Signal) (listed : Result Finding ListEnd) (finding : Finding) → IfOk listed IsQuietAnyway
    → after_it.raised ≡ before.raised → IsOf listed finding → HeedsStop before after_it finding
told_quiet before after_it listed finding all same (inl e) =
    subst (λ (r : Result Finding ListEnd). IfOk r IsQuietAnyway) e all before after_it same
told_quiet before after_it listed finding all same (inr (e, f)) = subst (λ (x : Finding). HeedsStop before after_it x) (sym e) same
