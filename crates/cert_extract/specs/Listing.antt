-- Serves the walks of a tree, which no public clause names: how what is listed grows.
use Rattle.std.specs.Prelude.{◌≡◌, ◌<◌, ◌≤◌, ◌++◌, ◌⊎◌, ℕ, List, [], ◌∷◌, Bool, true, false, Contains, length}
use Rattle.board_core.specs.Board.{Board}
use Rattle.mate_facts.specs.declared.entry.MateEntry.{MateEntry}
use Rattle.mate_facts.specs.Entries.{AreApart, positions_of}
use Rattle.cert_extract.specs.declared.ends.ExtractEnd.{ExtractEnd}
use Rattle.cert_extract.specs.declared.ends.ExtractEnd.TheVariants.{TooMany, NoMemory}

-- As many positions are listed as asked for, and this one isn't among them.
pub record IsFull (most : ℕ) (positions : List Board) (b : Board) : Type 0 where
  pub full : most ≡ length positions
  pub new : ¬ Contains positions b
  pub apart : AreApart (positions ++ b ∷ [])

-- Why a position isn't listed behind others.
abbrev pub IsEndAt : ℕ → List Board → Board → ExtractEnd → Type 0
IsEndAt most positions b TooMany = IsFull most positions b
IsEndAt most positions b NoMemory = Unit {0}

-- 1. MATES.

-- The position is listed, with no greater rank than this.
pub record StandsBelow (entries : List MateEntry) (position : Board) (rank : ℕ) : Type 0 where
  pub entry : MateEntry
  pub listed : Contains entries entry
  pub same : entry.at ≡ position
  pub low : entry.rank.number ≤ rank

-- Each position is listed with a greater rank, if at all.
abbrev pub IsLowerThanListed : List MateEntry → Board → ℕ → Type 0
IsLowerThanListed entries position rank = (entry : MateEntry) → Contains entries entry → entry.at ≡ position → rank < entry.rank.number

-- What is listed with a rank stays listed, with no greater one.
abbrev pub StayListed : List MateEntry → List MateEntry → Type 0
StayListed old new = (position : Board) (rank : ℕ) → StandsBelow old position rank → StandsBelow new position rank

-- The entry is listed now, beside the others or in place of one of greater rank.
pub record HasListed (old : List MateEntry) (entry : MateEntry) (new : List MateEntry) : Type 0 where
  pub lower : IsLowerThanListed old entry.at entry.rank.number
  pub stay : StayListed old new
  pub of : (other : MateEntry) → Contains new other → Contains old other ⊎ (entry ≡ other)
  pub there : Contains new entry

-- The entry was listed, or nothing had to change.
abbrev pub HasListedIf : Bool → List MateEntry → MateEntry → List MateEntry → Type 0
HasListedIf true old entry new = HasListed old entry new
HasListedIf false old entry new = StandsBelow old entry.at entry.rank.number × (new ≡ old)

-- A leaf of this rank about the position lists the entry: it is of lower rank, or the leaf's own.
pub record IsWanted (set : List MateEntry) (position : Board) (rank : ℕ) (entry : MateEntry) : Type 0 where
  pub inside : Contains set entry
  pub low : (entry.rank.number < rank) ⊎ ((entry.rank.number ≡ rank) × (entry.at ≡ position))

-- Some of what a leaf lists is listed.
pub record AreOfLeaf (set : List MateEntry) (position : Board) (rank : ℕ) (old new : List MateEntry) : Type 0 where
  pub stay : StayListed old new
  pub of : (other : MateEntry) → Contains new other → Contains old other ⊎ IsWanted set position rank other

-- All that a leaf lists is listed.
pub record HasListedLeaf (set : List MateEntry) (position : Board) (rank : ℕ) (old new : List MateEntry) : Type 0 where
  pub lower : IsLowerThanListed old position rank
  pub grown : AreOfLeaf set position rank old new
  pub all : (entry : MateEntry) → IsWanted set position rank entry → StandsBelow new entry.at entry.rank.number

-- All that a leaf lists is listed, or its position stood there with no greater rank, and nothing
-- changes.
abbrev pub HasMetLeaf : List MateEntry → Board → ℕ → List MateEntry → List MateEntry → Type 0
HasMetLeaf set position rank old new = HasListedLeaf set position rank old new ⊎ (StandsBelow old position rank × (new ≡ old))

-- Where a leaf lists one too many: some of it is listed, and the next one's position isn't.
pub record IsFullInLeaf (most : ℕ) (set : List MateEntry) (position : Board) (rank : ℕ) (old : List MateEntry) : Type 0 where
  pub lower : IsLowerThanListed old position rank
  pub new : List MateEntry
  pub grown : AreOfLeaf set position rank old new
  pub entry : MateEntry
  pub wanted : IsWanted set position rank entry
  pub full : IsFull most (positions_of new) entry.at

-- Why not all that a leaf lists is listed.
abbrev pub IsEndInLeaf : ℕ → List MateEntry → Board → ℕ → List MateEntry → ExtractEnd → Type 0
IsEndInLeaf most set position rank old TooMany = IsFullInLeaf most set position rank old
IsEndInLeaf most set position rank old NoMemory = Unit {0}

-- 2. ESCAPES.

-- The position is listed behind the others, or was listed.
abbrev pub HasPutIf : Bool → List Board → Board → List Board → Type 0
HasPutIf true old b new = (¬ Contains old b) × (new ≡ old ++ b ∷ [])
HasPutIf false old b new = Contains old b × (new ≡ old)

-- Some of these positions are listed.
pub record AreOfSet (set old new : List Board) : Type 0 where
  pub stay : (b : Board) → Contains old b → Contains new b
  pub of : (b : Board) → Contains new b → Contains old b ⊎ Contains set b

-- All these positions are listed.
pub record HasPutAll (set old new : List Board) : Type 0 where
  pub grown : AreOfSet set old new
  pub all : (b : Board) → Contains set b → Contains new b

-- Where these positions are one too many: some are listed, and the next one isn't.
pub record IsFullInSet (most : ℕ) (set old : List Board) : Type 0 where
  pub new : List Board
  pub grown : AreOfSet set old new
  pub b : Board
  pub inside : Contains set b
  pub full : IsFull most new b

-- Why not all these positions are listed.
abbrev pub IsEndInSet : ℕ → List Board → List Board → ExtractEnd → Type 0
IsEndInSet most set old TooMany = IsFullInSet most set old
IsEndInSet most set old NoMemory = Unit {0}
