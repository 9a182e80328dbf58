-- The notes of an entry after another came.
use Rattle.std.proofs.Common.{◌≡◌, ◌-◌, ◌++◌, List, [], ◌∷◌, length, drop, Bool, true, false, sym, subst}
use Rattle.std.specs.Prelude.{All, if◌then◌else◌}
use Rattle.std.proofs.lemmas.List.Elements.{All-push, All-drop}
use Rattle.board_core.specs.declared.keys.Key.{Key}
use Rattle.notes.specs.Derivation.{Derivation}
use Rattle.table_shard.specs.Entry.{IsFactAbout, has_closed}

about_cases : (key : Key) (closed : Bool) (old : List Derivation) (note : Derivation) → All (IsFactAbout key) old → IsFactAbout key note
    → All (IsFactAbout key) (if closed then old else drop (length old - 3) old ++ note ∷ [])
about_cases key true old note all one = all
about_cases key false old note all one = All-push (IsFactAbout key) (drop (length old - 3) old) note (All-drop (IsFactAbout key) (length old - 3) old all) one

pub about_noted : (key : Key) (old new : List Derivation) (note : Derivation) → All (IsFactAbout key) old → IsFactAbout key note
    → new ≡ (if has_closed old then old else drop (length old - 3) old ++ note ∷ []) → All (IsFactAbout key) new
about_noted key old new note all one e = subst (All (IsFactAbout key)) (sym e) (about_cases key (has_closed old) old note all one)
