-- What a queue tells of itself.
use Rattle.std.specs.Prelude.{ℕ, Bool, List, drop, is_some}
use Rattle.reading_ahead.specs.declared.queue.Queue.{Queue}

-- How many reads failed, up to 2 ^ 64 - 1.
abbrev pub queue_faults : {W : Type 0} → Queue W → ℕ
queue_faults queue = queue.faults

-- The bytes that were fetched and not yet handed on, the first to be handed on first.
abbrev pub fetched : {W : Type 0} → Queue W → List ℕ
fetched queue = drop queue.at queue.front.items

-- Whether a read of the queue failed yet, so that the reader's reason is told.
abbrev pub has_reason : {W : Type 0} → Queue W → Bool
has_reason queue = is_some queue.reason
