use Rattle.std.proofs.Common.{◌≡◌, Bool, true, false, [], get_or, refl, ap, ◌∙◌}
use Rattle.std.specs.Int.{from_bool}
use Rattle.bit_boards.specs.declared.piece.Kind.{Kind}
use Rattle.bit_boards.specs.declared.piece.Kind.TheVariants.{Pawn, Lance, Knight, Silver, Gold, Bishop, Rook, King}
use Rattle.bit_boards.specs.declared.gait.Gait.TheVariants.{Still}
use Rattle.bit_boards.specs.declared.gait.TheConstants.{GAITS}
use Rattle.bit_boards.specs.Gait.{gait_of}
use Rattle.bit_boards.specs.Kind.{place_of}
use Rattle.bit_boards.proofs.gait.Gait.of.Goals as goal

listed : (k : Kind) (p : Bool) → get_or (get_or GAITS (from_bool p) []) (place_of k) Still ≡ gait_of k p
listed Pawn false = refl
listed Pawn true = refl
listed Lance false = refl
listed Lance true = refl
listed Knight false = refl
listed Knight true = refl
listed Silver false = refl
listed Silver true = refl
listed Gold false = refl
listed Gold true = refl
listed Bishop false = refl
listed Bishop true = refl
listed Rook false = refl
listed Rook true = refl
listed King false = refl
listed King true = refl

pub returns : goal.returns
returns c = ap (λ n. get_or (get_or GAITS (from_bool c.args.promoted) []) n Still) c.place.ensures ∙ listed c.args.kind c.args.promoted
