-- The notes of a shard stay for its attacker.
use Rattle.std.proofs.Common.{◌≡◌, ◌<◌, ℕ, List, [], length, sym, subst, inl, inr}
use Rattle.std.specs.Prelude.{All, Option, Result, Ok, Err, IfOk, IfSome, MatchResult}
use Rattle.std.proofs.lemmas.List.Elements.{All-get_or, All-set}
use Rattle.bit_boards.specs.declared.piece.Side.{Side}
use Rattle.board_core.specs.declared.keys.Key.{Key}
use Rattle.pn_numbers.specs.declared.numbers.Numbers.{Numbers}
use Rattle.notes.specs.declared.words.Kept.{Kept}
use Rattle.notes.specs.declared.words.Seen.{Seen}
use Rattle.notes.specs.declared.words.Update.{Update}
use Rattle.table_shard.specs.Entry.{EntryView, AreFor}
use Rattle.table_shard.specs.Row.{IsRow, LooksBy, left}
use Rattle.table_shard.specs.Shard.{row_of, with_row, EntersInBy, IsLeftAt}
use Rattle.table_shard.specs.Spot.{place_of}
use Rattle.table_shard.proofs.Offered.{place_within}
use Rattle.visit_log.specs.Round.{MayShow}
use Rattle.visit_log.specs.Sound.{IsSoundUpdate}
use Rattle.lone_port.proofs.Offered.{enters_for, left_for, looks_may}

-- the notes of a key's row
of_row : (attacker : Side) (rows : List (List EntryView)) (key : Key) → 0 < length rows → All (All (AreFor attacker)) rows → All (AreFor attacker) (row_of rows key)
of_row attacker rows key some all = All-get_or (All (AreFor attacker)) rows (place_of key (length rows)) [] (place_within key (length rows) some) all

-- after another row in the key's place
put_for : (attacker : Side) (rows : List (List EntryView)) (key : Key) (row : List EntryView) → All (AreFor attacker) row → All (All (AreFor attacker)) rows
    → All (All (AreFor attacker)) (with_row rows key row)
put_for attacker rows key row one all = All-set (All (AreFor attacker)) rows (place_of key (length rows)) row one all

-- What a look shows may be shown.
pub look_may : {P E : Type 0} (attacker : Side) (told : P → ℕ → ℕ → P → Type 0) (to : Option Side) (rows : List (List EntryView)) (key : Key) (path : List Key) (before after : P)
    (r : Result Seen E) → IfSome to (λ side. side ≡ attacker) → 0 < length rows → All IsRow rows → All (All (AreFor attacker)) rows
    → MatchResult r (λ seen. LooksBy told to (row_of rows key) key path before seen after) (λ error. before ≡ after) → IfOk r (MayShow attacker key path)
look_may attacker told to rows key path before after (Ok seen) his some kept all by =
    looks_may attacker to (row_of rows key) by.counts key path seen his (All-get_or IsRow rows (place_of key (length rows)) [] (place_within key (length rows) some) kept)
    (of_row attacker rows key some all) by.looks
look_may attacker told to rows key path before after (Err error) his some kept all by = tt

-- After a position was entered.
pub enter_for : {P : Type 0} (attacker : Side) (told : P → ℕ → ℕ → P → Type 0) (rows : List (List EntryView)) (key : Key) (numbers : Numbers) (before : P) (kept : Kept)
    (later : List (List EntryView)) (after : P) → 0 < length rows → EntersInBy told rows key numbers before kept later after
    → All (All (AreFor attacker)) rows → All (All (AreFor attacker)) later
enter_for attacker told rows key numbers before kept later after some by all =
    subst (All (All (AreFor attacker))) (sym by.enters.others)
    (put_for attacker rows key by.enters.row
    (enters_for attacker (row_of rows key) by.counts key numbers kept by.enters.row by.enters.enters (of_row attacker rows key some all)) all)

-- After a position was left.
pub leave_for : (attacker : Side) (rows : List (List EntryView)) (slot : ℕ) (key : Key) (update : Update) (later : List (List EntryView)) → 0 < length rows
    → IsSoundUpdate attacker key update → IsLeftAt rows slot key update later → All (All (AreFor attacker)) rows → All (All (AreFor attacker)) later
leave_for attacker rows slot key update later some sound (inl (holds, is)) all =
    subst (All (All (AreFor attacker))) (sym is)
    (put_for attacker rows key (left (row_of rows key) slot update) (left_for attacker key update (row_of rows key) slot sound (of_row attacker rows key some all)) all)
leave_for attacker rows slot key update later some sound (inr (not, is)) all = subst (All (All (AreFor attacker))) (sym is) all
