-- What the first search came to.
use Rattle.std.specs.Prelude.{◌≡◌}
use Rattle.board_core.specs.Board.{Board}
use Rattle.search_gate.specs.Stop.{Signal, one_more}
use Rattle.hand_dominance.specs.declared.version.Version.TheVariants.{One}
use Rattle.cert_text.specs.Kinds.{version_of}
use Rattle.cert_check.specs.Valid.{IsValid}
use Rattle.shortest_mate.specs.declared.first.First.{First}
use Rattle.shortest_mate.specs.declared.first.First.TheVariants.{Answered, Unanswered, Stopped}

-- A certificate that answers the problem is valid for it, and of version 1.
abbrev pub IsFirst : Board → First → Type 0
IsFirst problem (Answered certificate) = IsValid certificate problem × (version_of certificate ≡ One)
IsFirst problem Unanswered = Unit {0}
IsFirst problem Stopped = Unit {0}

-- A stop is heeded: where it signalled, which it did once, the search was stopped.
abbrev pub HeedsFirst : Signal → Signal → First → Type 0
HeedsFirst before after Stopped = (after.raised ≡ one_more before.raised) × (after.last ≡ after.polls)
HeedsFirst before after Unanswered = after.raised ≡ before.raised
HeedsFirst before after (Answered certificate) = after.raised ≡ before.raised
