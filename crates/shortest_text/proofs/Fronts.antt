-- A mate's front line and a certificate behind it.
use Rattle.std.proofs.Common.{inl, inr, ◌≡◌, ◌<◌, ◌+◌, ℕ, List, [], ◌∷◌, ◌++◌, get_or, length, refl, sym, ap, subst, ◌∙◌, arith, Ok, Err}
use Rattle.std.specs.Prelude.{codes}
use Rattle.std.specs.List.{flat_map}
use Rattle.std.proofs.lemmas.List.{append_cancel_left}
use Rattle.bit_boards.specs.declared.piece.Kind.{Kind}
use Rattle.bit_boards.specs.declared.piece.Kind.TheVariants.{Pawn, Lance, Knight, Silver, Gold, Bishop, Rook, King}
use Rattle.bit_boards.specs.Text.{kind_letter}
use Rattle.bit_boards.specs.Square.{file_of}
use Rattle.board_core.specs.declared.moves.Move.{Move}
use Rattle.board_core.specs.declared.moves.Move.TheVariants as moves
use Rattle.usi_text.specs.MoveText.{move_text}
use Rattle.usi_text.specs.Lines.{spaced_move}
use Rattle.sfen_text.specs.Spelling.{sfen_of}
use Rattle.cert_text.specs.Entries.{line}
use Rattle.cert_text.specs.Certificate.{Mating, Escaping}
use Rattle.cert_text.specs.Text.{claim_text, certificate_text}
use Rattle.cert_text.specs.declared.certificate.Certificate.TheVariants as certificates
use Rattle.cert_text.specs.declared.fault.CertFault.{CertFault}
use Rattle.cert_text.specs.declared.fault.CertFault.TheVariants.{BadHead, BadLine, NotRising, WrongCount, NoEnd}
use Rattle.cert_text.specs.declared.fault.CertEnd.{CertEnd}
use Rattle.cert_text.specs.declared.fault.CertEnd.TheVariants.{Fault, NoMemory}
use Rattle.cert_text.specs.declared.head.Claim.{Claim}
use Rattle.cert_text.specs.declared.head.Claim.TheVariants.{Mate, Escape}
use Rattle.cert_text.specs.Reading.{Lacks, IsFrontLine, IsFrontOrNone, IsReadable, IsTextOf, HasLaterFault, HasFirstFault, headed_text, IsCertificateOutcome}
use Rattle.cert_text.proofs.Offered.{line_cut}
use Rattle.shortest_text.specs.Reading.{IsOfOne}
use Rattle.shortest_text.specs.Scan.{BeginsAsMate, IsMateFault, IsMateOutcome}
use Rattle.shortest_text.proofs.Parts.{front_lacks}
use Rattle.shortest_text.proofs.Ends.{version_one, certificate_second, version_second}

letter_below : (k : Kind) → kind_letter k < 100
letter_below Pawn = omega arith
letter_below Lance = omega arith
letter_below Knight = omega arith
letter_below Silver = omega arith
letter_below Gold = omega arith
letter_below Bishop = omega arith
letter_below Rook = omega arith
letter_below King = omega arith

-- no move's text begins as `nomate` does
move_first : (m : Move) (rest more : List ℕ) → move_text m ++ rest ≡ 110 ∷ more → ⊥
move_first (moves.Board from to p) rest more e = let h : 48 + file_of from.number ≡ 110 = ap (λ (t : List ℕ). get_or t 0 0) e in omega (arith, from.on_board)
move_first (moves.Drop k to) rest more e = let h : kind_letter k ≡ 110 = ap (λ (t : List ℕ). get_or t 0 0) e in omega (arith, letter_below k)

moves_apart : (ms : List Move) → flat_map spaced_move ms ≡ 32 ∷ codes "nomate" → ⊥
moves_apart [] e = let bad = ap length e in omega arith
moves_apart (m ∷ ms) e = let same : move_text m ++ flat_map spaced_move ms ≡ codes "nomate" = cc in move_first m (flat_map spaced_move ms) (codes "omate") same

pub front_begins : (front : List ℕ) → IsFrontLine Mate front → BeginsAsMate front
front_begins front is = record {
  rest = flat_map spaced_move is.0;
  text = is.3;
  no_escape = λ e. moves_apart is.0 (append_cancel_left (codes "checkmate") (flat_map spaced_move is.0) (32 ∷ codes "nomate") (sym is.3 ∙ e));
}

-- What stands behind such a line is what a certificate's text, or its head, is in front of. It
-- isn't an escape's.
pub record IsBehind (claim : Claim) (front text whole : List ℕ) : Type 0 where
  pub is_mate : claim ≡ Mate
  pub is_front : IsFrontLine Mate front
  pub text_is : text ≡ whole

second_of : (front text : List ℕ) → BeginsAsMate front → get_or (line front ++ text) 1 0 ≡ 104
second_of front text begins = ap (λ (t : List ℕ). get_or (line t ++ text) 1 0) begins.text

pub is_behind : (claim : Claim) (front text over whole : List ℕ) → Lacks 10 front → BeginsAsMate front → IsFrontOrNone claim over → get_or whole 1 0 ≡ 101
    → line front ++ text ≡ over ++ whole → IsBehind claim front text whole
is_behind claim front text over whole lack begins (inl none) second e =
    let same = sym (second_of front text begins) ∙ (ap (λ (t : List ℕ). get_or t 1 0) (e ∙ ap (λ (t : List ℕ). t ++ whole) none) ∙ second) in
    absurd (omega (arith, same))
is_behind Mate front text over whole lack begins (inr at) second e =
    let parts = line_cut front at.0 text whole lack (front_lacks Mate at.0 at.1) (e ∙ ap (λ (t : List ℕ). t ++ whole) at.2) in
    record { is_mate = refl; is_front = subst (IsFrontLine Mate) (sym parts.0) at.1; text_is = parts.1 }
is_behind Escape front text over whole lack begins (inr at) second e =
    let parts = line_cut front at.0 text whole lack (front_lacks Escape at.0 at.1) (e ∙ ap (λ (t : List ℕ). t ++ whole) at.2) in
    absurd (begins.no_escape (parts.0 ∙ at.1))

-- ---- what is read of them

-- what was written is the line and what stands behind it
pub whole_text : (none first second third whole front text : List ℕ) → none ≡ [] → first ≡ none ++ front → second ≡ first ++ 10 ∷ [] → third ≡ second ++ text → whole ≡ third
    → whole ≡ line front ++ text
whole_text none first second third whole front text a b c d e =
    e ∙ (d ∙ ap (λ (t : List ℕ). t ++ text) (c ∙ ap (λ (t : List ℕ). t ++ 10 ∷ []) (b ∙ ap (λ (t : List ℕ). t ++ front) a)))

pub mate_read : (front text : List ℕ) (c : Mating) → Lacks 10 front → BeginsAsMate front → IsOfOne text → IsReadable (certificates.Mate c)
    → IsTextOf (certificates.Mate c) (line front ++ text) → IsMateOutcome front text (Ok c)
mate_read front text c lack begins of_one readable at =
    let behind = is_behind Mate front text at.0 (certificate_text (certificates.Mate c)) lack begins at.1 (certificate_second (certificates.Mate c)) at.2 in
    (behind.is_front, (readable, behind.text_is, version_one c text behind.text_is of_one))

pub no_escape_read : (front text : List ℕ) (c : Escaping) → Lacks 10 front → BeginsAsMate front → IsTextOf (certificates.Escape c) (line front ++ text) → ⊥
no_escape_read front text c lack begins at =
    let behind = is_behind Escape front text at.0 (certificate_text (certificates.Escape c)) lack begins at.1 (certificate_second (certificates.Escape c)) at.2 in
    claims_apart behind.is_mate
  where
    is_escape : Claim → ℕ
    is_escape Mate = 0
    is_escape Escape = 1

    claims_apart : Escape ≡ Mate → ⊥
    claims_apart e = let bad = ap is_escape e in omega arith

later_front : (front text : List ℕ) (fault : CertFault) → Lacks 10 front → BeginsAsMate front → HasLaterFault (line front ++ text) fault → IsFrontLine Mate front
later_front front text fault lack begins later =
    let head = later.begins.head in
    let whole = headed_text later.title later.count (sfen_of later.problem) later.rest in
    (is_behind later.title.claim front text head.front whole lack begins head.is_front
    (version_second later.title.version (claim_text later.title.claim later.count) (10 ∷ (codes "problem " ++ (sfen_of later.problem ++ 10 ∷ later.rest)))) head.text).is_front

pub mate_fault : (front text : List ℕ) (fault : CertFault) → Lacks 10 front → BeginsAsMate front → IsOfOne text → HasFirstFault (line front ++ text) fault → IsMateFault front text fault
mate_fault front text BadHead lack begins of_one h = λ _ _. h
mate_fault front text (BadLine number) lack begins of_one h = (later_front front text (BadLine number) lack begins h, of_one, h)
mate_fault front text (NotRising number) lack begins of_one h = (later_front front text (NotRising number) lack begins h, of_one, h)
mate_fault front text WrongCount lack begins of_one h = (later_front front text WrongCount lack begins h, of_one, h)
mate_fault front text NoEnd lack begins of_one h = (later_front front text NoEnd lack begins h, of_one, h)

pub mate_err : (front text : List ℕ) (end : CertEnd) → Lacks 10 front → BeginsAsMate front → IsOfOne text → IsCertificateOutcome (line front ++ text) (Err end) → IsMateOutcome front text (Err end)
mate_err front text (Fault fault) lack begins of_one h = mate_fault front text fault lack begins of_one h
mate_err front text NoMemory lack begins of_one h = tt
