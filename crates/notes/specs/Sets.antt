-- Positions that are known together: the entries of a mate, each of which is borne out by them all,
-- and the positions of an escape that are closed. What an accepted certificate lists is such a set.
use Rattle.std.specs.Prelude.{◌≡◌, ℕ, List, Contains, filter, map, nat_lt}
use Rattle.bit_boards.specs.declared.piece.Side.{Side}
use Rattle.board_core.specs.Board.{Board}
use Rattle.shogi_rules.specs.Tsume.{IsProblem}
use Rattle.mate_facts.specs.declared.entry.MateEntry.{MateEntry}
use Rattle.mate_facts.specs.Entries.{IsListedWith}
use Rattle.hand_dominance.specs.declared.version.Version.{Version}
use Rattle.hand_dominance.specs.BorneOut.{AreBorneOut, AreClosed, AreKept}
use Rattle.notes.specs.Derivation.{Derivation, Ranked, mate_leaf, escape_leaf}

-- A problem in which the attacker is to move.
pub record IsProblemOf (attacker : Side) (b : Board) : Type 0 where
  pub is_problem : IsProblem b
  pub turn : b.side ≡ attacker

-- The entries of a mate, in this version: each is about a problem in which the attacker is to move,
-- and each is borne out by all of them.
pub record AreMates (version : Version) (attacker : Side) (entries : List MateEntry) : Type 0 where
  pub problems : (entry : MateEntry) → Contains entries entry → IsProblemOf attacker entry.at
  pub borne_out : AreBorneOut version entries attacker

-- The positions of an escape, in this version: each is a problem in which the attacker is to move
-- (and keeps what every position keeps), and they are closed.
pub record AreEscapes (version : Version) (attacker : Side) (positions : List Board) : Type 0 where
  pub problems : (b : Board) → Contains positions b → IsProblemOf attacker b
  pub kept : AreKept positions
  pub closed : AreClosed version positions attacker

-- The positions of a mate's entries, with their ranks.
abbrev pub ranked : List MateEntry → List Ranked
ranked entries = map (λ entry. record { rank = entry.rank.number; at = entry.at }) entries

-- The positions of an escape, without a rank.
abbrev pub unranked : List Board → List Ranked
unranked positions = map (λ b. record { rank = 0; at = b }) positions

-- The position is listed with this rank among the entries of a mate, which are these.
pub record IsAmongMates (version : Version) (attacker : Side) (rank : ℕ) (b : Board) (beside : List Ranked) : Type 0 where
  pub entries : List MateEntry
  pub are : AreMates version attacker entries
  pub listed : IsListedWith entries rank b
  pub these : beside ≡ ranked entries

-- The position is one of an escape, whose positions are these.
pub record IsAmongEscapes (version : Version) (attacker : Side) (b : Board) (beside : List Ranked) : Type 0 where
  pub positions : List Board
  pub are : AreEscapes version attacker positions
  pub listed : Contains positions b
  pub these : beside ≡ unranked positions

-- The entries that a leaf can be about: those whose rank isn't above 2,048, half the greatest
-- height of a note.
abbrev pub low_entries : List MateEntry → List MateEntry
low_entries entries = filter (λ entry. nat_lt entry.rank.number 2049) entries

-- The leaves of some entries of a mate, which stand among these.
abbrev pub mate_leaves_among : Version → Side → List Ranked → List MateEntry → List Derivation
mate_leaves_among version attacker beside entries =
    map (λ entry. mate_leaf version attacker beside entry.at entry.rank.number) (low_entries entries)

-- The leaves of a mate's entries.
abbrev pub mate_leaves_of : Version → Side → List MateEntry → List Derivation
mate_leaves_of version attacker entries = mate_leaves_among version attacker (ranked entries) entries

-- The leaves of an escape's positions.
abbrev pub escape_leaves_of : Version → Side → List Board → List Derivation
escape_leaves_of version attacker positions = map (escape_leaf version attacker (unranked positions)) positions
