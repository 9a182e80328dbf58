-- What is printed of what was found out.
use Rattle.std.specs.Prelude.{ℕ, List, ◌∷◌, ◌++◌, codes}
use Rattle.std.specs.Fmt.{decimal}
use Rattle.usi_text.specs.MoveText.{move_text}
use Rattle.usi_text.specs.Lines.{mate_text, nomate_text, timeout_text}
use Rattle.cert_text.specs.declared.certificate.Certificate.TheVariants as certificates
use Rattle.cert_text.specs.Entries.{line}
use Rattle.cert_text.specs.Text.{claim_word, certificate_text}
use Rattle.cert_check.specs.declared.verdict.Why.{Why}
use Rattle.cert_check.specs.declared.verdict.Why.TheVariants.{RootMissing, NotACheck, EvasionOutside, RankNotLower, CheckUnanswered}
use Rattle.search_limits.specs.declared.cause.Cause.{Cause}
use Rattle.search_limits.specs.declared.cause.Cause.TheVariants.{Expansions, Room, Height, Stopped, Entries}
use Rattle.app_texts.specs.declared.answer.Solution.{Solution}
use Rattle.app_texts.specs.declared.answer.Solution.TheVariants.{Mate, NoMate, Unknown}
use Rattle.app_texts.specs.declared.answer.Judgement.{Judgement}
use Rattle.app_texts.specs.declared.answer.Judgement.TheVariants.{Accepted, Refused}
use Rattle.usi_text.specs.Lines.{AllHaveText}

-- A reason against a certificate: a word, and the move that it names, if it names one.
abbrev pub why_text : Why → List ℕ
why_text RootMissing = codes "root"
why_text (NotACheck move) = codes "move " ++ move_text move
why_text (EvasionOutside evasion) = codes "outside " ++ move_text evasion
why_text (RankNotLower evasion) = codes "rank " ++ move_text evasion
why_text (CheckUnanswered check) = codes "unanswered " ++ move_text check

-- What was used up, that it was stopped, or that its certificate would have more entries than this.
abbrev pub cause_text : Cause → List ℕ
cause_text (Expansions visits) = codes "expansions " ++ decimal visits
cause_text (Room notes) = codes "room " ++ decimal notes
cause_text (Height height) = codes "height " ++ decimal height
cause_text (Stopped worker) = codes "stopped"
cause_text (Entries most) = codes "entries " ++ decimal most

-- The text of an answer to `solve`. For a mate and for none the line of the USI protocol, for a
-- mate with its moves, and the certificate; for neither the line of the USI protocol, and why.
abbrev pub solution_text : Solution → List ℕ
solution_text (Mate c moves) = line (mate_text moves) ++ certificate_text (certificates.Mate c)
solution_text (NoMate c) = line nomate_text ++ certificate_text (certificates.Escape c)
solution_text (Unknown cause crew) = line timeout_text ++ line (codes "unknown " ++ cause_text cause)

-- The text of an answer to `check`. For an accepted certificate what it claims and the number of
-- its entries, for a refused one the entry and the reason.
abbrev pub judgement_text : Judgement → List ℕ
judgement_text (Accepted claim entries) = line (codes "accepted " ++ claim_word claim ++ 32 ∷ decimal entries)
judgement_text (Refused entry why) = line (codes "refused " ++ decimal entry ++ 32 ∷ why_text why)

-- Every move of a solution's line has a text.
abbrev pub HasLine : Solution → Type 0
HasLine (Mate c moves) = AllHaveText moves
HasLine (NoMate c) = Unit {0}
HasLine (Unknown cause crew) = Unit {0}
