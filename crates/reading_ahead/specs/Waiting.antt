-- What waits to be fetched.
use Rattle.std.specs.Prelude.{ℕ, List, Option}
use Rattle.reading_ahead.specs.declared.held.Held.{Held}
use Rattle.reading_ahead.specs.declared.held.End.{End}

-- The bytes that wait, the first to be handed on first.
abbrev pub waiting : Held → List ℕ
waiting held = held.bytes.items

-- How many may wait at most.
abbrev pub most_of : Held → ℕ
most_of held = held.most

-- Why reading ended, if it did.
abbrev pub end_of : Held → Option End
end_of held = held.end
