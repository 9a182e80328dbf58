-- The certificate's text, as it is written: of both versions, which differ in the first line alone.
use Rattle.std.specs.Prelude.{ℕ, List, ◌∷◌, ◌++◌, codes, length}
use Rattle.std.specs.List.{flat_map}
use Rattle.std.specs.Fmt.{decimal}
use Rattle.hand_dominance.specs.declared.version.Version.{Version}
use Rattle.hand_dominance.specs.declared.version.Version.TheVariants.{One, Two}
use Rattle.board_core.specs.Board.{Board}
use Rattle.cert_text.specs.Entries.{line, problem_line}
use Rattle.cert_text.specs.Certificate.{CertificateView, Form, mate_form, escape_form}
use Rattle.cert_text.specs.declared.certificate.Certificate.{Certificate}
use Rattle.cert_text.specs.declared.certificate.Certificate.TheVariants as certificates
use Rattle.cert_text.specs.declared.head.Claim.{Claim}
use Rattle.cert_text.specs.declared.head.Claim.TheVariants.{Mate, Escape}
use Rattle.cert_text.specs.declared.head.Title.{Title}

-- The word of a claim.
abbrev pub claim_word : Claim → List ℕ
claim_word Mate = codes "mate"
claim_word Escape = codes "escape"

-- What stands at the front of the first line, by the version.
abbrev pub version_front : Version → List ℕ
version_front One = codes "certificate 1 "
version_front Two = codes "certificate 2 "

-- What stands behind it: the claim and the number of entries.
abbrev pub claim_text : Claim → ℕ → List ℕ
claim_text claim count = claim_word claim ++ 32 ∷ decimal count

-- The text of the first line: the version, the claim and the number of entries.
abbrev pub title_text : Title → ℕ → List ℕ
title_text title count = version_front title.version ++ claim_text title.claim count

-- The two lines at the head: the first line, and the problem.
abbrev pub head_text : Title → ℕ → Board → List ℕ
head_text title count problem = line (title_text title count) ++ problem_line problem

-- The texts of the entries, one behind the other.
abbrev pub entries_text : {Entry : Type 0} → Form Entry → List Entry → List ℕ
entries_text form entries = flat_map form.text_of entries

-- The line `end`.
abbrev pub end_line : List ℕ
end_line = line (codes "end")

-- What the first line says of a certificate with this claim.
abbrev pub title_of : {Entry : Type 0} → Claim → CertificateView Entry → Title
title_of claim c = record { version = c.version; claim = claim }

-- The text of a certificate with such entries: the head, a line for each entry, and the line `end`.
abbrev pub listing_text : {Entry : Type 0} → Claim → Form Entry → CertificateView Entry → List ℕ
listing_text claim form c = head_text (title_of claim c) (length c.entries) c.problem ++ entries_text form c.entries ++ end_line

-- The text of a certificate.
abbrev pub certificate_text : Certificate → List ℕ
certificate_text (certificates.Mate c) = listing_text Mate (mate_form c.problem) c
certificate_text (certificates.Escape c) = listing_text Escape (escape_form c.problem) c
