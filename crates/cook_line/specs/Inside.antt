-- What the private functions of this crate say of one another; no public clause cites these.
use Rattle.std.specs.Prelude.{ℕ, List, [], Option, Some, None}
use denote.Ref.{Bor}
use Rattle.cook_line.specs.Moves.{parts_of}

-- The parts of what is left of a text, none where nothing is.
abbrev pub parts_in : Option (Bor (List ℕ)) → List (List ℕ)
parts_in None = []
parts_in (Some text) = parts_of text.now
