-- A text is that of one library at most, and then it has no fault.
use Rattle.std.proofs.Common.{inl, inr, ◌⊎◌, ◌≡◌, ◌<◌, ◌+◌, ℕ, zero, suc, List, [], ◌∷◌, ◌++◌, length, refl, sym, ap, subst, ◌∙◌, append_assoc, arith}
use Rattle.std.specs.List.{AllByRecursion}
use Rattle.sfen_text.specs.Laws.{TextsAreLines}
use Rattle.cert_text.specs.Text.{certificate_text}
use Rattle.cert_text.specs.UpToEnd.{IsUpToEnd}
use Rattle.cert_text.specs.Laws.{CertTextsApart, OneCertificateFault, CertTextsAreFaultless}
use Rattle.cert_text.specs.Reading as certs
use Rattle.cert_text.specs.declared.certificate.Certificate.{Certificate}
use Rattle.cert_text.specs.declared.fault.CertFault.{CertFault}
use Rattle.cert_text.proofs.Offered.{same_cut, ends_at_end}
use Rattle.library_text.specs.declared.fault.LibraryFault.{LibraryFault}
use Rattle.library_text.specs.Text.{certificates_text, last_line}
use Rattle.library_text.specs.Reading.{HasRead, IsReadable, IsTextOf, HasBareFault, HasFaultNext, HasNoHead, HasBadCertificate, HasNoEnd, HasFirstFault}
use Rattle.library_text.proofs.Lines.{one_beginning, bare_text}

-- The laws of texts that the lemmas below rest on.
pub record Laws : Type 0 where
  pub lines : TextsAreLines
  pub texts : CertTextsApart
  pub one_fault : OneCertificateFault
  pub faultless : CertTextsAreFaultless

fault_same : (one other : LibraryFault) → one.number ≡ other.number → one.fault ≡ other.fault → one ≡ other
fault_same one other n f = λ i. record { number = n i; fault = f i }

either_order : (m n : ℕ) → (m ≡ n) ⊎ ((m < n) ⊎ (n < m))
either_order zero zero = inl refl
either_order zero (suc n) = inr (inl (omega arith))
either_order (suc m) zero = inr (inr (omega arith))
either_order (suc m) (suc n) = elim (either_order m n) [
  | inl same ↦ inl (ap suc same)
  | inr apart ↦ elim apart [ inl less ↦ inr (inl (omega (arith, less))) | inr more ↦ inr (inr (omega (arith, more))) ]
]

-- A certificate that can be read comes next.
record HasNext (text : List ℕ) : Type 0 where
  next : Certificate
  readable : certs.IsReadable next
  rest : List ℕ
  text_is : text ≡ certificate_text next ++ rest

module _ (laws : Laws) where
  -- 1. CERTIFICATES ONE BEHIND THE OTHER.

  -- the text of a certificate at the front of a text is what goes up to the first line `end`
  cut_off : (c : Certificate) (s own behind : List ℕ) → certs.IsReadable c → IsUpToEnd own behind → certificate_text c ++ s ≡ own ++ behind → (certificate_text c ≡ own) × (s ≡ behind)
  cut_off c s own behind readable up e = same_cut (certificate_text c) s own behind (ends_at_end laws.lines c s readable) up e

  one_next : (c d : Certificate) (s r : List ℕ) → certs.IsReadable c → certs.IsReadable d → certificate_text c ++ s ≡ certificate_text d ++ r → (c ≡ d) × (s ≡ r)
  one_next c d s r f g e =
      let parts = cut_off c s (certificate_text d) r f (ends_at_end laws.lines d r g) e in
      (laws.texts c d (certificate_text c) f g ([], inl refl, refl) ([], inl refl, parts.0), parts.1)

  -- so many are read in one way
  same_read : (xs ys : List Certificate) (s r : List ℕ) → AllByRecursion certs.IsReadable xs → AllByRecursion certs.IsReadable ys → length xs ≡ length ys
      → certificates_text xs ++ s ≡ certificates_text ys ++ r → (xs ≡ ys) × (s ≡ r)
  same_read [] [] s r p q n e = (refl, e)
  same_read [] (y ∷ ys) s r p q n e = absurd (omega (arith, n))
  same_read (x ∷ xs) [] s r p q n e = absurd (omega (arith, n))
  same_read (x ∷ xs) (y ∷ ys) s r p q n e =
      let one = one_next x y (certificates_text xs ++ s) (certificates_text ys ++ r) p.0 q.0
      (sym (append_assoc (certificate_text x) (certificates_text xs) s) ∙ (e ∙ append_assoc (certificate_text y) (certificates_text ys) r)) in
      let more = same_read xs ys s r p.1 q.1 (omega (arith, n)) one.1 in
      (ap (λ (c : Certificate). c ∷ xs) one.0 ∙ ap (λ (cs : List Certificate). y ∷ cs) more.0, more.1)

  -- behind fewer a further one comes
  next_of_fewer : (xs ys : List Certificate) (s r : List ℕ) → AllByRecursion certs.IsReadable xs → AllByRecursion certs.IsReadable ys → length xs < length ys
      → certificates_text xs ++ s ≡ certificates_text ys ++ r → HasNext s
  next_of_fewer xs [] s r p q n e = absurd (omega (arith, n))
  next_of_fewer [] (y ∷ ys) s r p q n e =
      record { next = y; readable = q.0; rest = certificates_text ys ++ r; text_is = e ∙ append_assoc (certificate_text y) (certificates_text ys) r }
  next_of_fewer (x ∷ xs) (y ∷ ys) s r p q n e =
      let one = one_next x y (certificates_text xs ++ s) (certificates_text ys ++ r) p.0 q.0
      (sym (append_assoc (certificate_text x) (certificates_text xs) s) ∙ (e ∙ append_assoc (certificate_text y) (certificates_text ys) r)) in
      next_of_fewer xs ys s r p.1 q.1 (omega (arith, n)) one.1

  -- 2. FAULTS OF ONE CERTIFICATE.

  no_bare_fault : (c : Certificate) (fault : CertFault) → certs.IsReadable c → HasBareFault (certificate_text c) fault → ⊥
  no_bare_fault c fault readable (inl h) = laws.faultless c (certificate_text c) fault readable ([], inl refl, refl) h.1
  no_bare_fault c fault readable (inr h) = h.0 (bare_text c)

  one_bare_fault : (text : List ℕ) (one other : CertFault) → HasBareFault text one → HasBareFault text other → one ≡ other
  one_bare_fault text one other (inl h) (inl k) = laws.one_fault text one other h.1 k.1
  one_bare_fault text one other (inl h) (inr k) = absurd (k.0 h.0)
  one_bare_fault text one other (inr h) (inl k) = absurd (h.0 k.0)
  one_bare_fault text one other (inr h) (inr k) = h.1 ∙ sym k.1

  one_fault_next : (text : List ℕ) (one other : CertFault) → HasFaultNext text one → HasFaultNext text other → one ≡ other
  one_fault_next text one other h k =
      let parts = same_cut h.own h.behind k.own k.behind h.up_to_end k.up_to_end (sym h.parts ∙ k.parts) in
      one_bare_fault k.own one other (subst (λ (t : List ℕ). HasBareFault t one) parts.0 h.has_fault) k.has_fault

  good_next : (text : List ℕ) (fault : CertFault) → HasNext text → HasFaultNext text fault → ⊥
  good_next text fault h k =
      let parts = cut_off h.next h.rest k.own k.behind h.readable k.up_to_end (sym h.text_is ∙ k.parts) in
      no_bare_fault h.next fault h.readable (subst (λ (t : List ℕ). HasBareFault t fault) (sym parts.0) k.has_fault)

  -- 3. FAULTS OF A LIBRARY.

  both_read : (m n : ℕ) (xs ys : List Certificate) (s r bytes : List ℕ) → HasRead m xs s bytes → HasRead n ys r bytes → (m ≡ n) × (certificates_text xs ++ s ≡ certificates_text ys ++ r)
  both_read m n xs ys s r bytes h k = one_beginning m n (certificates_text xs ++ s) (certificates_text ys ++ r) bytes h.begins k.begins

  no_head_read : (bytes : List ℕ) (fault : LibraryFault) (n : ℕ) (ys : List Certificate) (r : List ℕ) → HasNoHead bytes fault → HasRead n ys r bytes → ⊥
  no_head_read bytes fault n ys r h k = h.none n (certificates_text ys ++ r) k.begins

  -- a bad certificate doesn't come before so many good ones as the first line tells
  bad_among : (bytes : List ℕ) (fault : LibraryFault) (ys : List Certificate) (r : List ℕ) → HasBadCertificate bytes fault → HasRead (length ys) ys r bytes → ⊥
  bad_among bytes fault ys r h k =
      let both = both_read h.count (length ys) h.before ys h.rest r bytes h.read k in
      good_next h.rest fault.fault (next_of_fewer h.before ys h.rest r h.read.readable k.readable (subst (λ (n : ℕ). length h.before < n) both.0 h.due) both.1) h.has_fault

  two_bad : (bytes : List ℕ) (one other : LibraryFault) → HasBadCertificate bytes one → HasBadCertificate bytes other → one ≡ other
  two_bad bytes one other h k =
      let both = both_read h.count k.count h.before k.before h.rest k.rest bytes h.read k.read in
      elim (either_order (length h.before) (length k.before)) [
        | inl same ↦
            let parts = same_read h.before k.before h.rest k.rest h.read.readable k.read.readable same both.1 in
            fault_same one other (h.number ∙ (ap (λ (n : ℕ). n + 1) same ∙ sym k.number))
            (one_fault_next k.rest one.fault other.fault (subst (λ (t : List ℕ). HasFaultNext t one.fault) parts.1 h.has_fault) k.has_fault)
        | inr apart ↦ elim apart [
          | inl less ↦ absurd (good_next h.rest one.fault (next_of_fewer h.before k.before h.rest k.rest h.read.readable k.read.readable less both.1) h.has_fault)
          | inr more ↦ absurd (good_next k.rest other.fault (next_of_fewer k.before h.before k.rest h.rest k.read.readable h.read.readable more (sym both.1)) k.has_fault)
        ]
      ]

  two_ends : (bytes : List ℕ) (one other : LibraryFault) → HasNoEnd bytes one → HasNoEnd bytes other → one ≡ other
  two_ends bytes one other h k =
      let both = both_read (length h.certificates) (length k.certificates) h.certificates k.certificates h.rest k.rest bytes h.read k.read in
      fault_same one other (h.number ∙ (ap (λ (n : ℕ). n + 1) both.0 ∙ sym k.number)) (h.no_end ∙ sym k.no_end)

  pub first_same : (bytes : List ℕ) (one other : LibraryFault) → HasFirstFault bytes one → HasFirstFault bytes other → one ≡ other
  first_same bytes one other (inl h) (inl k) = fault_same one other (h.number ∙ sym k.number) (h.bad_head ∙ sym k.bad_head)
  first_same bytes one other (inl h) (inr (inl k)) = absurd (no_head_read bytes one k.count k.before k.rest h k.read)
  first_same bytes one other (inl h) (inr (inr k)) = absurd (no_head_read bytes one (length k.certificates) k.certificates k.rest h k.read)
  first_same bytes one other (inr (inl h)) (inl k) = absurd (no_head_read bytes other h.count h.before h.rest k h.read)
  first_same bytes one other (inr (inl h)) (inr (inl k)) = two_bad bytes one other h k
  first_same bytes one other (inr (inl h)) (inr (inr k)) = absurd (bad_among bytes one k.certificates k.rest h k.read)
  first_same bytes one other (inr (inr h)) (inl k) = absurd (no_head_read bytes other (length h.certificates) h.certificates h.rest k h.read)
  first_same bytes one other (inr (inr h)) (inr (inl k)) = absurd (bad_among bytes other h.certificates h.rest k h.read)
  first_same bytes one other (inr (inr h)) (inr (inr k)) = two_ends bytes one other h k

  -- 4. WHAT IS READ.

  all_read : (certificates : List Certificate) (bytes : List ℕ) → IsReadable certificates → IsTextOf certificates bytes → HasRead (length certificates) certificates last_line bytes
  all_read certificates bytes readable text = record { begins = record { few = readable.few; text = text }; readable = readable.each }

  pub faultless : (certificates : List Certificate) (bytes : List ℕ) (fault : LibraryFault) → IsReadable certificates → IsTextOf certificates bytes → ¬ HasFirstFault bytes fault
  faultless certificates bytes fault readable text (inl h) = no_head_read bytes fault (length certificates) certificates last_line h (all_read certificates bytes readable text)
  faultless certificates bytes fault readable text (inr (inl h)) = bad_among bytes fault certificates last_line h (all_read certificates bytes readable text)
  faultless certificates bytes fault readable text (inr (inr h)) =
      let all = all_read certificates bytes readable text in
      let both = both_read (length h.certificates) (length certificates) h.certificates certificates h.rest last_line bytes h.read all in
      h.other (same_read h.certificates certificates h.rest last_line h.read.readable all.readable both.0 both.1).1

  pub texts_apart : (a b : List Certificate) (bytes : List ℕ) → IsReadable a → IsReadable b → IsTextOf a bytes → IsTextOf b bytes → a ≡ b
  texts_apart a b bytes r s e f =
      let both = both_read (length a) (length b) a b last_line last_line bytes (all_read a bytes r e) (all_read b bytes s f) in
      (same_read a b last_line last_line r.each s.each both.0 both.1).0
