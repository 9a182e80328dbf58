-- Counts that nobody else changes: what is asked of them one by one is what stands there.
use Rattle.std.proofs.Common.{◌≡◌, ◌<◌, ◌+◌, ℕ, zero, suc, List, [], ◌∷◌, length, get_or, inl, inr, sym, subst, ap, ap₂, ◌∙◌, arith}
use Rattle.std.specs.Prelude.{Option, Some, None, IsSomeAnd, slice_get}
use Rattle.std.proofs.lemmas.List.{ext_get_or}
use Rattle.bit_boards.specs.declared.piece.Side.{Side}
use Rattle.board_core.specs.declared.keys.Key.{Key}
use Rattle.pn_numbers.specs.declared.numbers.Numbers.{Numbers}
use Rattle.notes.specs.declared.words.Kept.{Kept}
use Rattle.notes.specs.declared.words.Kept.TheVariants.{Slot, Unkept}
use Rattle.notes.specs.declared.words.Seen.{Seen}
use Rattle.notes.specs.declared.words.Seen.TheVariants.{New, Open, Solved, Lent}
use Rattle.table_shard.specs.Entry.{EntryView, Shows}
use Rattle.table_shard.specs.Pins.{TellsCount}
use Rattle.table_shard.specs.Row.{HoldsAt, IsRow, Looks, LooksBy, Enters, AsksToEnter, HasPlace, TellsCounts}
use Rattle.table_shard.specs.Shard.{row_of, EntersIn, EntersInBy}
use Rattle.table_shard.proofs.Rows.{lacks_at}

-- Whoever is asked tells the counts that stand, and stays as it is.
abbrev pub TellsStanding : {P : Type 0} → (P → List ℕ) → (P → ℕ → ℕ → P → Type 0) → Type 0
TellsStanding {P} counts_of told = (before after : P) (slot count : ℕ) → told before slot count after → TellsCount (counts_of before) slot count × (before ≡ after)

-- each that was told stands at its slot
standing : {P : Type 0} (counts_of : P → List ℕ) (told : P → ℕ → ℕ → P → Type 0) → TellsStanding counts_of told → (slot : ℕ) (before after : P) (counts : List ℕ)
    → TellsCounts told slot before counts after → (place : ℕ) → place < length counts → get_or counts place 0 ≡ get_or (counts_of before) (slot + place) 0
standing counts_of told how slot before after [] tells place low = absurd (omega (arith, low))
standing counts_of told how slot before after (count ∷ counts) (between, one, rest) zero low =
    (how before between slot count one).0 ∙ ap (λ (n : ℕ). get_or (counts_of before) n 0) (omega arith)
standing counts_of told how slot before after (count ∷ counts) (between, one, rest) (suc place) low =
    standing counts_of told how (slot + 1) between after counts rest place (omega (arith, low))
    ∙ ap₂ (λ p (n : ℕ). get_or (counts_of p) n 0) (sym (how before between slot count one).1) (omega arith)

-- all eight that were told are those that stand
all_standing : {P : Type 0} (counts_of : P → List ℕ) (told : P → ℕ → ℕ → P → Type 0) → TellsStanding counts_of told → (before after : P) (counts : List ℕ)
    → length (counts_of before) ≡ 8 → length counts ≡ 8 → TellsCounts told 0 before counts after → counts ≡ counts_of before
all_standing counts_of told how before after counts long long_too tells =
    ext_get_or 0 counts (counts_of before) (long_too ∙ sym long) (λ place low.
    let at : 0 + place ≡ place = omega arith in
    standing counts_of told how 0 before after counts tells place low ∙ ap (λ (n : ℕ). get_or (counts_of before) n 0) at)

-- where nothing is given up, no count matters
whichever : (row : List EntryView) (counts others : List ℕ) (key : Key) (numbers : Numbers) (kept : Kept) (later : List EntryView) → HasPlace row key
    → Enters row counts key numbers kept later → Enters row others key numbers kept later
whichever row counts others key numbers (Slot slot) later place (inl own) = inl own
whichever row counts others key numbers (Slot slot) later place (inr (none, inl free)) = inr (none, inl free)
whichever row counts others key numbers (Slot slot) later (inl (at, holds)) (inr (none, inr given)) = absurd (lacks_at row key at none holds)
whichever row counts others key numbers (Slot slot) later (inr room) (inr (none, inr (full, given, is))) = absurd (omega (arith, room, full))
whichever row counts others key numbers Unkept later (inl (at, holds)) (none, full, above, is) = absurd (lacks_at row key at none holds)
whichever row counts others key numbers Unkept later (inr room) (none, full, above, is) = absurd (omega (arith, room, full))

enters_by_asked : {P : Type 0} (counts_of : P → List ℕ) (told : P → ℕ → ℕ → P → Type 0) → TellsStanding counts_of told → (row : List EntryView) (key : Key) (numbers : Numbers)
    (before after : P) (kept : Kept) (later : List EntryView) (counts : List ℕ) → length (counts_of before) ≡ 8 → AsksToEnter told row key before counts after
    → Enters row counts key numbers kept later → Enters row (counts_of before) key numbers kept later
enters_by_asked counts_of told how row key numbers before after kept later counts long (inl (place, same)) enters =
    whichever row counts (counts_of before) key numbers kept later place enters
enters_by_asked counts_of told how row key numbers before after kept later counts long (inr (none, full, long_too, tells)) enters =
    subst (λ (c : List ℕ). Enters row c key numbers kept later) (all_standing counts_of told how before after counts long long_too tells) enters

-- Entering by counts that stand is entering by them.
pub enters_standing : {P : Type 0} (counts_of : P → List ℕ) (told : P → ℕ → ℕ → P → Type 0) → TellsStanding counts_of told → (rows : List (List EntryView)) (key : Key) (numbers : Numbers)
    (before after : P) (kept : Kept) (later : List (List EntryView)) → length (counts_of before) ≡ 8 → EntersInBy told rows key numbers before kept later after
    → EntersIn rows (counts_of before) key numbers kept later
enters_standing counts_of told how rows key numbers before after kept later long by = record {
  row = by.enters.row;
  enters = enters_by_asked counts_of told how (row_of rows key) key numbers before after kept by.enters.row by.counts long by.asks by.enters.enters;
  others = by.enters.others;
}

-- what holds of an entry that is there
some_map : {A : Type 0} (P Q : A → Type 0) (found : Option A) → ((x : A) → P x → Q x) → IsSomeAnd found P → IsSomeAnd found Q
some_map P Q None f h = absurd h
some_map P Q (Some x) f h = f x h

-- Looking by counts that stand is looking by them.
pub looks_standing : {P : Type 0} (counts_of : P → List ℕ) (told : P → ℕ → ℕ → P → Type 0) → TellsStanding counts_of told → (to : Option Side) (row : List EntryView) (key : Key)
    (path : List Key) (before after : P) (seen : Seen) → IsRow row → LooksBy told to row key path before seen after → Looks to row (counts_of before) key path seen
looks_standing counts_of told how to row key path before after New is by = by.looks
looks_standing counts_of told how to row key path before after (Solved note) is by = by.looks
looks_standing counts_of told how to row key path before after (Lent note) is by = by.looks
looks_standing counts_of told how to row key path before after (Open numbers below) is by =
    let looks = by.looks.0 in
    let asks = by.asks in
    let slot = looks.0 in
    let holds : HoldsAt row slot key = some_map (λ (e : EntryView). (e.key ≡ key) × Shows e path (get_or by.counts slot 0) (Open numbers below)) (λ (e : EntryView). e.key ≡ key) (slice_get row slot)
    (λ e h. h.0) looks.1 in
    let same : asks.0 ≡ slot = is.apart asks.0 slot key asks.1 holds in
    let stands : below ≡ get_or (counts_of before) slot 0 = (how before after asks.0 below asks.2).0 ∙ ap (λ (s : ℕ). get_or (counts_of before) s 0) same in
    let shows = some_map (λ (e : EntryView). (e.key ≡ key) × Shows e path (get_or by.counts slot 0) (Open numbers below))
    (λ (e : EntryView). (e.key ≡ key) × Shows e path (get_or (counts_of before) slot 0) (Open numbers below)) (slice_get row slot)
    (λ e h. (h.0, (h.1.0, h.1.1, stands))) looks.1 in
    ((slot, shows), by.looks.1)
