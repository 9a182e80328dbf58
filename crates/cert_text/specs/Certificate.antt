-- What a certificate is, before anybody has checked it.
use Rattle.std.specs.Prelude.{◌≡◌, ℕ, List, [], ◌∷◌, map, Contains}
use Rattle.std.specs.Ordering.{nat_cmp}
use Rattle.std.specs.Cmp.Lexicographic.{slice_cmp}
use Rattle.std.specs.declared.cmp.Ordering.TheVariants.{Less}
use Rattle.mate_facts.specs.declared.entry.MateEntry.{MateEntry}
use Rattle.hand_dominance.specs.declared.version.Version.{Version}
use Rattle.board_core.specs.Board.{Board}
use Rattle.board_core.specs.Kept.{IsKept}
use Rattle.shogi_rules.specs.Tsume.{IsProblem}
use Rattle.board_core.specs.Text.{HasText}
use Rattle.sfen_text.specs.Spelling.{sfen_of}
use Rattle.cert_text.specs.Entries.{mate_entry_text, escape_entry_text}

-- A certificate: its version, which says for which positions its entries stand, the problem that it
-- is about, and its entries.
pub record CertificateView (Entry : Type 0) : Type 0 where
  pub version : Version
  pub problem : Board
  pub entries : List Entry

-- A mate's certificate: its entries are positions, each with a rank and a move.
abbrev pub Mating : Type 0
Mating = CertificateView MateEntry

-- An escape's certificate: its entries are positions.
abbrev pub Escaping : Type 0
Escaping = CertificateView Board

-- The one position comes before the other by the bytes of their SFEN texts.
abbrev pub IsBefore : Board → Board → Type 0
IsBefore a b = slice_cmp nat_cmp (sfen_of a) (sfen_of b) ≡ Less

-- Each position of the list comes before the next.
abbrev pub IsRising : List Board → Type 0
IsRising [] = Unit {0}
IsRising (a ∷ []) = Unit {0}
IsRising (a ∷ b ∷ rest) = IsBefore a b × IsRising (b ∷ rest)

-- A kind of entries: which may be listed in a certificate about a problem, the text of each, and
-- its position.
pub record Form (Entry : Type 0) : Type 1 where
  pub Lists : Entry → Type 0
  pub text_of : Entry → List ℕ
  pub at : Entry → Board

-- A position may be listed in a certificate about the problem: it is a problem of the same side to
-- move.
pub record IsEntry (problem position : Board) : Type 0 where
  pub is_problem : IsProblem position
  pub side : position.side ≡ problem.side

-- A mate's entry may be listed in a certificate about the problem: its move has a text, and its
-- position may be listed.
pub record IsMateEntry (problem : Board) (entry : MateEntry) : Type 0 where
  pub has_text : HasText entry.by
  pub is_entry : IsEntry problem entry.at

-- The entries of a mate.
abbrev pub mate_form : Board → Form MateEntry
mate_form problem = record { Lists = IsMateEntry problem; text_of = mate_entry_text; at = λ entry. entry.at }

-- The entries of an escape.
abbrev pub escape_form : Board → Form Board
escape_form problem = record { Lists = IsEntry problem; text_of = escape_entry_text; at = λ position. position }

-- An entry may stand in a text: it may be listed, and its position keeps what every position does.
pub record MayBeListed {Entry : Type 0} (form : Form Entry) (entry : Entry) : Type 0 where
  pub kept : IsKept (form.at entry)
  pub listed : form.Lists entry

-- What a certificate keeps: its problem is one, its entries rise by the bytes of their positions'
-- SFEN texts, and each may be listed.
pub record IsListing {Entry : Type 0} (form : Form Entry) (c : CertificateView Entry) : Type 0 where
  pub is_problem : IsProblem c.problem
  pub rising : IsRising (map form.at c.entries)
  pub listed : (entry : Entry) → Contains c.entries entry → form.Lists entry

-- What a mate's certificate keeps.
abbrev pub IsMating : Mating → Type 0
IsMating c = IsListing (mate_form c.problem) c

-- What an escape's certificate keeps.
abbrev pub IsEscaping : Escaping → Type 0
IsEscaping c = IsListing (escape_form c.problem) c
