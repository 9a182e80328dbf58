-- For the functions of the crate alone: what is listed while a mate is read from facts.
use Rattle.std.specs.Prelude.{◌≡◌, ◌<◌, ◌≤◌, ℕ, List, Some, Contains, length}
use Rattle.board_core.specs.declared.moves.Move.{Move}
use Rattle.board_core.specs.Board.{Board}
use Rattle.board_core.specs.Kept.{IsKept}
use Rattle.board_core.specs.Text.{HasText}
use Rattle.shogi_rules.specs.Rules.{after}
use Rattle.shogi_rules.specs.Tsume.{IsEvasion}
use Rattle.mate_def.specs.Mate.{after_both}
use Rattle.mate_facts.specs.declared.entry.MateEntry.{MateEntry}
use Rattle.mate_facts.specs.Entries.{IsListedWith, positions_of}
use Rattle.position_places.specs.Places.{ArePlacesOf}
use Rattle.cert_text.specs.Certificate.{IsEntry}
use Rattle.shortest_facts.specs.declared.fact.TheConstants.{NEVER}
use Rattle.shortest_facts.specs.Facts.{Known, Mates}
use Rattle.shortest_lists.specs.Reached.{IsReached, IsMateStep}
use Rattle.shortest_lists.specs.declared.mate.MateWalk.{MateWalk}

-- What is known of a listed entry: its position may be listed, and is reached; its rank and its
-- check are those of the position's fact, which shows a mate.
pub record IsMateListed (k : Known) (p : Board) (entry : MateEntry) : Type 0 where
  pub is_entry : IsEntry p entry.at
  pub kept : IsKept entry.at
  pub low : (k.at entry.at).most < NEVER
  pub rank : entry.rank.number ≡ (k.at entry.at).most
  pub by : (k.at entry.at).by ≡ Some entry.by
  pub mates : Mates k entry.at entry.by
  pub reached : IsReached (IsMateStep k) p entry.at

-- What is known while the entries of a mate are listed.
pub record IsMateWalk (k : Known) (p : Board) (most : ℕ) (walk : MateWalk) : Type 0 where
  pub placed : ArePlacesOf walk.places (positions_of walk.entries.items)
  pub few : length walk.entries.items ≤ most
  pub listed : (entry : MateEntry) → Contains walk.entries.items entry → IsMateListed k p entry

-- The entry's check has a text, and each evasion to it leads to a listed position.
pub record IsFollowed (k : Known) (entries : List MateEntry) (entry : MateEntry) : Type 0 where
  pub text : HasText entry.by
  pub evasions : (evasion : Move) → IsEvasion k.attacker (after entry.at entry.by) evasion
      → Contains (positions_of entries) (after_both entry.at entry.by evasion)

-- The position is listed, with the most moves of its fact as the rank.
abbrev pub HasRankIn : Known → List MateEntry → Board → Type 0
HasRankIn k entries position = IsListedWith entries (k.at position).most position
