-- A text says one thing at most, and then it has no fault; and it has one first fault at most.
use Rattle.std.proofs.Common.{inl, inr, ◌⊎◌, ◌≡◌, ℕ, List, [], ◌++◌, get_or, refl, sym, ap, subst, ◌∙◌, arith}
use Rattle.std.specs.Prelude.{codes, Result, Ok, Err}
use Rattle.board_core.specs.Board.{Board}
use Rattle.mate_facts.specs.declared.rank.Rank.{Rank}
use Rattle.sfen_text.specs.Laws.{PositionTextsApart, TextsAreLines}
use Rattle.cert_text.specs.Entries.{line, problem_line}
use Rattle.cert_text.specs.Certificate.{CertificateView, Mating, mate_form}
use Rattle.cert_text.specs.Text.{certificate_text}
use Rattle.cert_text.specs.Laws.{CertTextsApart, OneCertificateFault, CertTextsAreFaultless}
use Rattle.cert_text.specs.declared.certificate.Certificate.TheVariants as certificates
use Rattle.cert_text.specs.declared.fault.CertFault.{CertFault}
use Rattle.cert_text.specs.declared.fault.CertFault.TheVariants.{BadHead, BadLine, NotRising, WrongCount, NoEnd}
use Rattle.cert_text.specs.declared.head.Claim.TheVariants.{Mate}
use Rattle.cert_text.specs.Reading.{Lacks, IsFrontLine, IsReadableOf}
use Rattle.cert_text.specs.Reading as certs
use Rattle.cert_text.specs.UpToEnd.{IsUpToEnd}
use Rattle.cert_text.proofs.Offered.{line_cut, same_cut, ends_at_end}
use Rattle.bound_text.specs.declared.entry.BoundEntry.{BoundEntry}
use Rattle.bound_text.specs.declared.fault.BadBound.{BadBound}
use Rattle.bound_text.specs.Text.{bound_text}
use Rattle.bound_text.specs.Laws.{BoundTextsApart, OneBoundFault, BoundTextsAreFaultless}
use Rattle.bound_text.specs.Reading as bounds
use Rattle.shortest_text.specs.declared.text.ShortestText.{ShortestText}
use Rattle.shortest_text.specs.declared.text.ShortestText.TheVariants.{Found, NoneWithin}
use Rattle.shortest_text.specs.declared.fault.ShortestFault.{ShortestFault}
use Rattle.shortest_text.specs.declared.fault.ShortestFault.TheVariants.{Certificate, Bound}
use Rattle.shortest_text.specs.declared.fault.ShortestEnd.{ShortestEnd}
use Rattle.shortest_text.specs.declared.fault.ShortestEnd.TheVariants.{Fault, NoMemory}
use Rattle.shortest_text.specs.Text.{shortest_line, none_line, found_text}
use Rattle.shortest_text.specs.Reading.{BeginsFound, BeginsNone, HasBadHead, HasBadCertificate, HasFound, IsLeft, HasBadBound, HasFirstFault, IsReadable, IsTextOf, IsShortestOutcome, IsReadAs, IsFaultAs}
use Rattle.shortest_text.proofs.Parts.{front_lacks, one_number, one_problem, shortest_lacks, none_lacks}
use Rattle.shortest_text.proofs.Ends.{one_version}

-- The laws of texts that the lemmas below rest on.
pub record Laws : Type 0 where
  pub apart : PositionTextsApart
  pub lines : TextsAreLines
  pub certificates : CertTextsApart
  pub certificate_fault : OneCertificateFault
  pub certificate_faultless : CertTextsAreFaultless
  pub bounds : BoundTextsApart
  pub bound_fault : OneBoundFault
  pub bound_faultless : BoundTextsAreFaultless

-- ---- how a text begins

-- The parts of a text that begins as that of a shortest mate.
pub record AreParts (front : List ℕ) (rank : Rank) (certificate bound : List ℕ) (as_front : List ℕ) (as_rank : Rank) (as_certificate as_bound : List ℕ) : Type 0 where
  pub fronts : front ≡ as_front
  pub ranks : rank ≡ as_rank
  pub certificates : certificate ≡ as_certificate
  pub bounds : bound ≡ as_bound

pub found_parts : (front : List ℕ) (rank : Rank) (certificate bound : List ℕ) (as_front : List ℕ) (as_rank : Rank) (as_certificate as_bound bytes : List ℕ)
    → BeginsFound front rank certificate bound bytes → Lacks 10 as_front → IsUpToEnd as_certificate as_bound → bytes ≡ found_text as_front as_rank as_certificate as_bound
    → AreParts front rank certificate bound as_front as_rank as_certificate as_bound
found_parts front rank certificate bound as_front as_rank as_certificate as_bound bytes h lack up e =
    let first = line_cut front as_front (shortest_line rank ++ (certificate ++ bound)) (shortest_line as_rank ++ (as_certificate ++ as_bound)) (front_lacks Mate front h.is_front) lack
    (sym h.text ∙ e) in
    let second = one_number (codes "shortest ") rank as_rank (certificate ++ bound) (as_certificate ++ as_bound) shortest_lacks first.1 in
    let third = same_cut certificate bound as_certificate as_bound h.up_to_end up second.1 in
    record { fronts = first.0; ranks = second.0; certificates = third.0; bounds = third.1 }

pub one_found : (front : List ℕ) (rank : Rank) (certificate bound : List ℕ) (as_front : List ℕ) (as_rank : Rank) (as_certificate as_bound bytes : List ℕ)
    → BeginsFound front rank certificate bound bytes → BeginsFound as_front as_rank as_certificate as_bound bytes
    → AreParts front rank certificate bound as_front as_rank as_certificate as_bound
one_found front rank certificate bound as_front as_rank as_certificate as_bound bytes h k =
    found_parts front rank certificate bound as_front as_rank as_certificate as_bound bytes h (front_lacks Mate as_front k.is_front) k.up_to_end k.text

-- No text begins as both.
pub found_first : (front : List ℕ) (rank : Rank) (certificate bound bytes : List ℕ) → BeginsFound front rank certificate bound bytes → get_or bytes 0 0 ≡ 99
found_first front rank certificate bound bytes h =
    ap (λ (t : List ℕ). get_or t 0 0) (h.text ∙ ap (λ (f : List ℕ). found_text f rank certificate bound) h.is_front.3)

pub none_first : (limit : Rank) (more bytes : List ℕ) → bytes ≡ none_line limit ++ more → get_or bytes 0 0 ≡ 110
none_first limit more bytes e = ap (λ (t : List ℕ). get_or t 0 0) e

pub found_or_none : (front : List ℕ) (rank : Rank) (certificate bound : List ℕ) (limit : Rank) (more bytes : List ℕ) → BeginsFound front rank certificate bound bytes
    → bytes ≡ none_line limit ++ more → ⊥
found_or_none front rank certificate bound limit more bytes h e =
    let one = found_first front rank certificate bound bytes h in
    let other = none_first limit more bytes e in
    omega (arith, one, other)

module _ (laws : Laws) where
  one_none : (limit as_limit : Rank) (p q : Board) (bound as_bound bytes : List ℕ) → BeginsNone limit p bound bytes → BeginsNone as_limit q as_bound bytes
      → (limit ≡ as_limit) × (p ≡ q) × (bound ≡ as_bound)
  one_none limit as_limit p q bound as_bound bytes h k =
      let first = one_number (codes "none within ") limit as_limit (problem_line p ++ bound) (problem_line q ++ as_bound) none_lacks (sym h.text ∙ k.text) in
      let second = one_problem laws.apart laws.lines p q bound as_bound h.kept k.kept first.1 in
      (first.0, second.0, second.1)

  -- What is right up to the bound begins so, and its certificate has no fault.
  found_begins : (rank : Rank) (c : Mating) (bound bytes : List ℕ) → (h : HasFound rank c bound bytes) → BeginsFound h.front rank (certificate_text (certificates.Mate c)) bound bytes
  found_begins rank c bound bytes h = record { is_front = h.is_front; up_to_end = ends_at_end laws.lines (certificates.Mate c) bound h.readable; text = h.text }

  no_fault : (front : List ℕ) (c : Mating) (fault : CertFault) → IsFrontLine Mate front → IsReadableOf (mate_form c.problem) c
      → certs.HasFirstFault (line front ++ certificate_text (certificates.Mate c)) fault → ⊥
  no_fault front c fault is readable h =
      laws.certificate_faultless (certificates.Mate c) (line front ++ certificate_text (certificates.Mate c)) fault readable (line front, (inr (front, is, refl)), refl) h

  -- Certificates with one text are the same.
  one_certificate : (c d : Mating) → IsReadableOf (mate_form c.problem) c → IsReadableOf (mate_form d.problem) d
      → certificate_text (certificates.Mate c) ≡ certificate_text (certificates.Mate d) → c ≡ d
  one_certificate c d r s e =
      let same = laws.certificates (certificates.Mate c) (certificates.Mate d) (certificate_text (certificates.Mate c)) r s ([], (inl refl), refl) ([], (inl refl), e) in
      cc

  one_left : (p q : Board) (s r bytes : List ℕ) → IsLeft p s bytes → IsLeft q r bytes → (p ≡ q) × (s ≡ r)
  one_left p q s r bytes (inl h) (inl k) =
      let parts = one_found h.3.front h.0 (certificate_text (certificates.Mate h.1)) s k.3.front k.0 (certificate_text (certificates.Mate k.1)) r bytes
      (found_begins h.0 h.1 s bytes h.3) (found_begins k.0 k.1 r bytes k.3) in
      let same = one_certificate h.1 k.1 h.3.readable k.3.readable parts.certificates in
      (sym h.2 ∙ (ap (λ (c : Mating). c.problem) same ∙ k.2), parts.bounds)
  one_left p q s r bytes (inl h) (inr k) =
      absurd (found_or_none h.3.front h.0 (certificate_text (certificates.Mate h.1)) s k.0 (problem_line q ++ r) bytes (found_begins h.0 h.1 s bytes h.3) k.1.text)
  one_left p q s r bytes (inr h) (inl k) =
      absurd (found_or_none k.3.front k.0 (certificate_text (certificates.Mate k.1)) r h.0 (problem_line p ++ s) bytes (found_begins k.0 k.1 r bytes k.3) h.1.text)
  one_left p q s r bytes (inr h) (inr k) = let parts = one_none h.0 k.0 p q s r bytes h.1 k.1 in (parts.1, parts.2)

  -- ---- one first fault

  left_good_head : (p : Board) (s bytes : List ℕ) → IsLeft p s bytes → HasBadHead bytes → ⊥
  left_good_head p s bytes (inl h) bad =
      no_fault h.3.front h.1 BadHead h.3.is_front h.3.readable
      (bad.bad_head h.3.front h.0 (certificate_text (certificates.Mate h.1)) s (found_begins h.0 h.1 s bytes h.3) (one_version h.1 h.3.version))
  left_good_head p s bytes (inr h) bad = bad.not_none h.0 p s h.1

  left_good_certificate : (p : Board) (s bytes : List ℕ) (fault : CertFault) → IsLeft p s bytes → HasBadCertificate bytes fault → ⊥
  left_good_certificate p s bytes fault (inl h) bad =
      let parts = one_found bad.front bad.rank bad.certificate bad.bound h.3.front h.0 (certificate_text (certificates.Mate h.1)) s bytes bad.begins (found_begins h.0 h.1 s bytes h.3) in
      no_fault h.3.front h.1 fault h.3.is_front h.3.readable
      (subst (λ (f : List ℕ). certs.HasFirstFault (line f ++ certificate_text (certificates.Mate h.1)) fault) parts.fronts
      (subst (λ (c : List ℕ). certs.HasFirstFault (line bad.front ++ c) fault) parts.certificates bad.has_fault))
  left_good_certificate p s bytes fault (inr h) bad = found_or_none bad.front bad.rank bad.certificate bad.bound h.0 (problem_line p ++ s) bytes bad.begins h.1.text

  head_certificate : (bytes : List ℕ) (fault : CertFault) → HasBadHead bytes → HasBadCertificate bytes fault → BadHead ≡ fault
  head_certificate bytes fault bad later =
      laws.certificate_fault (line later.front ++ later.certificate) BadHead fault (bad.bad_head later.front later.rank later.certificate later.bound later.begins later.of_one) later.has_fault

  two_certificates : (bytes : List ℕ) (one other : CertFault) → HasBadCertificate bytes one → HasBadCertificate bytes other → one ≡ other
  two_certificates bytes one other h k =
      let parts = one_found h.front h.rank h.certificate h.bound k.front k.rank k.certificate k.bound bytes h.begins k.begins in
      laws.certificate_fault (line k.front ++ k.certificate) one other
      (subst (λ (f : List ℕ). certs.HasFirstFault (line f ++ k.certificate) one) parts.fronts
      (subst (λ (c : List ℕ). certs.HasFirstFault (line h.front ++ c) one) parts.certificates h.has_fault)) k.has_fault

  two_bounds : (bytes : List ℕ) (one other : BadBound) → HasBadBound bytes one → HasBadBound bytes other → one ≡ other
  two_bounds bytes one other h k =
      let parts = one_left h.problem k.problem h.bound k.bound bytes h.left k.left in
      let same = laws.bound_fault k.problem k.bound one.line other.line
      (subst (λ (p : Board). bounds.HasFirstFault p k.bound one.line) parts.0 (subst (λ (b : List ℕ). bounds.HasFirstFault h.problem b one.line) parts.1 h.has_fault)) k.has_fault in
      λ i. record { line = same i }

  -- A fault of the certificate is a bad head, or comes behind one that is right.
  abbrev IsEither : List ℕ → CertFault → Type 0
  IsEither bytes fault = ((fault ≡ BadHead) × HasBadHead bytes) ⊎ HasBadCertificate bytes fault

  either : (bytes : List ℕ) (fault : CertFault) → HasFirstFault bytes (Certificate fault) → IsEither bytes fault
  either bytes BadHead h = inl (refl, h)
  either bytes (BadLine number) h = inr h
  either bytes (NotRising number) h = inr h
  either bytes WrongCount h = inr h
  either bytes NoEnd h = inr h

  one_either : (bytes : List ℕ) (one other : CertFault) → IsEither bytes one → IsEither bytes other → one ≡ other
  one_either bytes one other (inl h) (inl k) = h.0 ∙ sym k.0
  one_either bytes one other (inl h) (inr k) = h.0 ∙ head_certificate bytes other h.1 k
  one_either bytes one other (inr h) (inl k) = sym (k.0 ∙ head_certificate bytes one k.1 h)
  one_either bytes one other (inr h) (inr k) = two_certificates bytes one other h k

  left_good : (p : Board) (s bytes : List ℕ) (fault : CertFault) → IsLeft p s bytes → IsEither bytes fault → ⊥
  left_good p s bytes fault left (inl h) = left_good_head p s bytes left h.1
  left_good p s bytes fault left (inr h) = left_good_certificate p s bytes fault left h

  pub first_same : (bytes : List ℕ) (one other : ShortestFault) → HasFirstFault bytes one → HasFirstFault bytes other → one ≡ other
  first_same bytes (Certificate one) (Certificate other) h k = ap Certificate (one_either bytes one other (either bytes one h) (either bytes other k))
  first_same bytes (Certificate one) (Bound other) h k = absurd (left_good k.problem k.bound bytes one k.left (either bytes one h))
  first_same bytes (Bound one) (Certificate other) h k = absurd (left_good h.problem h.bound bytes other h.left (either bytes other k))
  first_same bytes (Bound one) (Bound other) h k = ap Bound (two_bounds bytes one other h k)

  -- ---- what is read has no fault

  bound_good : (p : Board) (b : CertificateView BoundEntry) (bytes : List ℕ) (fault : BadBound) → bounds.IsReadable p b → IsLeft p (bound_text b) bytes → HasBadBound bytes fault → ⊥
  bound_good p b bytes fault readable left bad =
      let parts = one_left bad.problem p bad.bound (bound_text b) bytes bad.left left in
      laws.bound_faultless p b fault.line readable
      (subst (λ (q : Board). bounds.HasFirstFault q (bound_text b) fault.line) parts.0
      (subst (λ (t : List ℕ). bounds.HasFirstFault bad.problem t fault.line) parts.1 bad.has_fault))

  none_faulty : (p : Board) (b : CertificateView BoundEntry) (bytes : List ℕ) (fault : ShortestFault) → bounds.IsReadable p b → IsLeft p (bound_text b) bytes
      → HasFirstFault bytes fault → ⊥
  none_faulty p b bytes (Certificate fault) readable left h = left_good p (bound_text b) bytes fault left (either bytes fault h)
  none_faulty p b bytes (Bound fault) readable left h = bound_good p b bytes fault readable left h

  found_left : (rank : Rank) (c : Mating) (b : CertificateView BoundEntry) (bytes : List ℕ) → IsReadable (Found rank c b) → IsTextOf (Found rank c b) bytes
      → HasFound rank c (bound_text b) bytes
  found_left rank c b bytes r e = record { version = r.2; readable = r.0; front = e.0; is_front = e.1; text = e.2 }

  none_left : (limit : Rank) (b : CertificateView BoundEntry) (bytes : List ℕ) → IsReadable (NoneWithin limit b) → IsTextOf (NoneWithin limit b) bytes
      → BeginsNone limit b.problem (bound_text b) bytes
  none_left limit b bytes r e = record { kept = r.0; is_problem = r.1; text = e }

  pub faultless : (t : ShortestText) (bytes : List ℕ) (fault : ShortestFault) → IsReadable t → IsTextOf t bytes → ¬ HasFirstFault bytes fault
  faultless (Found rank c b) bytes fault r e h = none_faulty c.problem b bytes fault r.1 (inl (rank, c, refl, found_left rank c b bytes r e)) h
  faultless (NoneWithin limit b) bytes fault r e h = none_faulty b.problem b bytes fault r.2 (inr (limit, none_left limit b bytes r e)) h

  -- ---- one reading

  same_bound : (p q : Board) (a b : CertificateView BoundEntry) → p ≡ q → bounds.IsReadable p a → bounds.IsReadable q b → bound_text a ≡ bound_text b → a ≡ b
  same_bound p q a b e r s t = laws.bounds q a b (subst (λ (o : Board). bounds.IsReadable o a) e r) s t

  pub texts_apart : (a b : ShortestText) (bytes : List ℕ) → IsReadable a → IsReadable b → IsTextOf a bytes → IsTextOf b bytes → a ≡ b
  unfolding found_left
  texts_apart (Found rank c a) (Found other d b) bytes r s e f =
      let parts = one_found e.0 rank (certificate_text (certificates.Mate c)) (bound_text a) f.0 other (certificate_text (certificates.Mate d)) (bound_text b) bytes
      (found_begins rank c (bound_text a) bytes (found_left rank c a bytes r e)) (found_begins other d (bound_text b) bytes (found_left other d b bytes s f)) in
      let ranks = parts.ranks in
      let same = one_certificate c d r.0 s.0 parts.certificates in
      let bound = same_bound c.problem d.problem a b (ap (λ (x : Mating). x.problem) same) r.1 s.1 parts.bounds in
      λ i. Found (ranks i) (same i) (bound i)
  texts_apart (Found rank c a) (NoneWithin limit b) bytes r s e f =
      absurd (found_or_none e.0 rank (certificate_text (certificates.Mate c)) (bound_text a) limit (problem_line b.problem ++ bound_text b) bytes
      (found_begins rank c (bound_text a) bytes (found_left rank c a bytes r e)) f)
  texts_apart (NoneWithin limit b) (Found rank c a) bytes r s e f =
      absurd (found_or_none f.0 rank (certificate_text (certificates.Mate c)) (bound_text a) limit (problem_line b.problem ++ bound_text b) bytes
      (found_begins rank c (bound_text a) bytes (found_left rank c a bytes s f)) e)
  texts_apart (NoneWithin limit a) (NoneWithin other b) bytes r s e f =
      let parts = one_none limit other a.problem b.problem (bound_text a) (bound_text b) bytes (none_left limit a bytes r e) (none_left other b bytes s f) in
      let limits = parts.0 in
      let bound = same_bound a.problem b.problem a b parts.1 r.2 s.2 parts.2 in
      λ i. NoneWithin (limits i) (bound i)

  pub read_again : (t : ShortestText) (bytes : List ℕ) (outcome : Result ShortestText ShortestEnd) → IsReadable t → IsTextOf t bytes → IsShortestOutcome bytes outcome → IsReadAs t outcome
  read_again t bytes (Ok found) r e h = texts_apart found t bytes h.0 r h.1 e
  read_again t bytes (Err (Fault fault)) r e h = faultless t bytes fault r e h
  read_again t bytes (Err NoMemory) r e h = tt

  pub read_fault : (fault : ShortestFault) (bytes : List ℕ) (outcome : Result ShortestText ShortestEnd) → HasFirstFault bytes fault → IsShortestOutcome bytes outcome → IsFaultAs fault outcome
  read_fault fault bytes (Ok t) first h = faultless t bytes fault h.0 h.1 first
  read_fault fault bytes (Err (Fault found)) first h = first_same bytes found fault h first
  read_fault fault bytes (Err NoMemory) first h = tt
