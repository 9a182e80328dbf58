-- Entries that a certificate can be made of, before they are put in order.
use Rattle.std.specs.Prelude.{◌↔◌, List, Contains}
use Rattle.mate_facts.specs.declared.entry.MateEntry.{MateEntry}
use Rattle.board_core.specs.Board.{Board}
use Rattle.board_core.specs.Kept.{IsKept}
use Rattle.board_core.specs.Text.{HasText}
use Rattle.cert_text.specs.Certificate.{IsEntry}
use Rattle.mate_facts.specs.Entries.{AreApart, positions_of}
use Rattle.hand_dominance.specs.declared.version.Version.{Version}
use Rattle.hand_dominance.specs.BorneOut.{AreClosed, CoversListed, IsBorneOut, IsCovered}

-- The entries of a mate, in this version: the problem covers a listed position, each is borne out,
-- none is listed twice, and each keeps what a certificate's entry keeps.
pub record AreMateEntries (version : Version) (p : Board) (entries : List MateEntry) : Type 0 where
  pub listed : CoversListed version entries p.side p
  pub borne_out : (entry : MateEntry) → Contains entries entry → IsBorneOut version entries p.side entry
  pub problems : (entry : MateEntry) → Contains entries entry → IsEntry p entry.at
  pub kept : (entry : MateEntry) → Contains entries entry → IsKept entry.at
  pub texts : (entry : MateEntry) → Contains entries entry → HasText entry.by
  pub apart : AreApart (positions_of entries)

-- The entries of an escape, in this version: one covers the problem, they are closed, none is
-- listed twice, and each keeps what a certificate's entry keeps.
pub record AreEscapeEntries (version : Version) (p : Board) (positions : List Board) : Type 0 where
  pub listed : IsCovered version positions p.side p
  pub closed : AreClosed version positions p.side
  pub problems : (b : Board) → Contains positions b → IsEntry p b
  pub kept : (b : Board) → Contains positions b → IsKept b
  pub apart : AreApart positions

-- The two lists have the same items, in whatever order.
abbrev pub HaveSame : {X : Type 0} → List X → List X → Type 0
HaveSame {X} xs ys = (x : X) → Contains xs x ↔ Contains ys x
