-- What of the desk is offered to the crates above.
use Rattle.std.specs.Prelude.{Option, Some, None, IsSome}
use Rattle.std.proofs.Common.{refl}
use Rattle.notes.specs.Derivation.{Derivation}
use Rattle.unit_desk.specs.Desk.{first_posted}
-- may cross threads
pub use Rattle.unit_desk.proofs.Sent.{desk_send}

-- once a note is posted there is one
pub first_is : (posted : Option Derivation) (note : Derivation) → IsSome (first_posted posted note)
first_is None note = refl
first_is (Some first) note = refl
