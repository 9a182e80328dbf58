-- What a port does with the shard of a key.
use Rattle.std.specs.Prelude.{◌≡◌, List, Option, Some, None, Result, Ok, Err, IfOk, IsSomeAnd}
use Rattle.bit_boards.specs.declared.piece.Side.{Side}
use Rattle.board_core.specs.declared.keys.Key.{Key}
use Rattle.notes.specs.declared.words.Seen.{Seen}
use Rattle.table_shard.specs.Row.{LooksBy}
use Rattle.table_shard.specs.Shard.{row_of}
use Rattle.table_shard.specs.declared.hash.Site.{Site}
use Rattle.visit_log.specs.Round.{MayShow}
use Rattle.shared_table.specs.Calls.{IsSiteOf}
use Rattle.shared_table.specs.Rows.{ShardRows}
use Rattle.shared_table.specs.Seat.{RowSeatView, IsSameSeat, at_row, Loads}

-- The site is the key's, by the seat's words.
abbrev pub IsAt : Site → Key → RowSeatView → Type 0
IsAt site key seat = IsSiteOf site key seat.seat.counts.words

-- What a look at the site shows, or that there was no memory for it.
abbrev pub ShowsAt : {E : Type 0} → Option Side → Site → Key → List Key → RowSeatView → ShardRows → RowSeatView → Result Seen E → Type 0
ShowsAt to site key path before rows after (Ok seen) = LooksBy Loads to (row_of rows key) key path (at_row before site.word) seen after
ShowsAt to site key path before rows after (Err error) = at_row before site.word ≡ after

-- So for an attacker, for whom alone notes are shown, by a seat that loads and does nothing else.
abbrev pub LooksAt : {E : Type 0} → Side → Option Side → Site → Key → List Key → RowSeatView → ShardRows → RowSeatView → Result Seen E → Type 0
LooksAt attacker to site key path before rows after result =
    ShowsAt to site key path before rows after result × IsSameSeat (at_row before site.word) after × IfOk result (MayShow attacker key path)

-- There is nothing.
abbrev pub IsMissing : {A : Type 0} → Option A → Type 0
IsMissing None = Unit {0}
IsMissing (Some x) = ⊥

-- What is there isn't missing.
pub not_both : {A : Type 0} (P : A → Type 0) (found : Option A) → IsSomeAnd found P → IsMissing found → ⊥
not_both P None there missing = there
not_both P (Some x) there missing = missing
