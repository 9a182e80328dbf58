-- When a certificate is valid for a position, and what it then shows.
use Rattle.std.specs.Prelude.{◌≡◌, Contains}
use Rattle.mate_facts.specs.declared.entry.MateEntry.{MateEntry}
use Rattle.board_core.specs.Board.{Board}
use Rattle.mate_def.specs.Mate.{RankAtMost, IsMate, Escapes}
use Rattle.hand_dominance.specs.declared.version.Version.TheVariants.{One}
use Rattle.hand_dominance.specs.BorneOut.{CoversListed, IsCovered, IsBorneOut, AreClosed}
use Rattle.cert_text.specs.declared.certificate.Certificate.{Certificate}
use Rattle.cert_text.specs.declared.certificate.Certificate.TheVariants.{Mate, Escape}
use Rattle.cert_text.specs.Certificate.{Mating, Escaping}

-- A mate's certificate is valid for a position: it is about the position, which covers a listed
-- one, and each of its entries is borne out.
pub record ValidMate (c : Mating) (p : Board) : Type 0 where
  pub problem : c.problem ≡ p
  pub listed : CoversListed c.version c.entries p.side p
  pub entries : (entry : MateEntry) → Contains c.entries entry → IsBorneOut c.version c.entries p.side entry

-- An escape's certificate is valid for a position: it is about the position, which a listed one
-- covers, and the listed positions are closed.
pub record ValidEscape (c : Escaping) (p : Board) : Type 0 where
  pub problem : c.problem ≡ p
  pub listed : IsCovered c.version c.entries p.side p
  pub closed : AreClosed c.version c.entries p.side

-- A certificate of either kind is valid for a position.
abbrev pub IsValid : Certificate → Board → Type 0
IsValid (Mate c) p = ValidMate c p
IsValid (Escape c) p = ValidEscape c p

-- A position is a mate, and each listed one is a mate within its rank.
pub record ShowsMate (c : Mating) (p : Board) : Type 0 where
  pub mate : IsMate p.side p
  pub ranks : (entry : MateEntry) → Contains c.entries entry → RankAtMost p.side entry.rank.number entry.at

-- A position is no mate; and in version 1 the defender escapes from it.
pub record ShowsEscape (c : Escaping) (p : Board) : Type 0 where
  pub escape : c.version ≡ One → Escapes p.side p
  pub no_mate : ¬ IsMate p.side p

-- What a valid certificate shows: that its position is a mate, and each listed one a mate within
-- its rank; or that its position is none.
abbrev pub Shows : Certificate → Board → Type 0
Shows (Mate c) p = ShowsMate c p
Shows (Escape c) p = ShowsEscape c p
