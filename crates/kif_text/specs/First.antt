-- The first fault in a list whose elements can have faults.
use Rattle.std.specs.Prelude.{◌≡◌, List, ◌∷◌, ◌++◌}

-- No element of the list has a fault. Whether one has it may depend on the elements in front of it.
abbrev pub HasNone : {A F : Type 0} → (List A → A → F → Type 0) → List A → Type 0
HasNone {A} {F} Has list = (before : List A) (here : A) (behind : List A) (fault : F) → list ≡ before ++ here ∷ behind → Has before here fault → ⊥

-- An element of the list has the fault, and none in front of it has any.
pub record HasFirst {A F : Type 0} (Has : List A → A → F → Type 0) (list : List A) (fault : F) : Type 0 where
  pub before : List A
  pub here : A
  pub behind : List A
  pub parts : list ≡ before ++ here ∷ behind
  pub there : Has before here fault
  pub none : HasNone Has before
