-- The outcome to a library's text, from what was read of its parts.
use Rattle.std.proofs.Common.{inl, inr, ◌≡◌, ◌≢◌, ◌<◌, ◌+◌, ℕ, List, [], ◌∷◌, ◌++◌, length, refl, sym, ap, subst, ◌∙◌, append_assoc}
use Rattle.std.specs.Prelude.{Result, Ok, Err, Option, Some, None, IfNone, IfOk, IfErr}
use Rattle.std.proofs.lemmas.List.{flat_map_more}
use Rattle.cert_text.specs.Text.{certificate_text}
use Rattle.cert_text.specs.UpToEnd.{IsUpToEnd}
use Rattle.cert_text.specs.Reading as certs
use Rattle.cert_text.specs.declared.certificate.Certificate.{Certificate}
use Rattle.cert_text.specs.declared.fault.CertFault.TheVariants.{BadHead, NoEnd}
use Rattle.cert_text.specs.declared.fault.CertEnd.{CertEnd}
use Rattle.cert_text.specs.declared.fault.CertEnd.TheVariants as cert_ends
use Rattle.cert_text.proofs.Offered.{all_push}
use Rattle.library_text.specs.declared.fault.LibraryFault.{LibraryFault}
use Rattle.library_text.specs.declared.fault.LibraryEnd.{LibraryEnd}
use Rattle.library_text.specs.declared.fault.LibraryEnd.TheVariants.{Fault, NoMemory}
use Rattle.library_text.specs.Laws.{OneLibraryFault}
use Rattle.library_text.specs.Ends.{end_of_certificate}
use Rattle.library_text.specs.Text.{first_line, certificates_text, last_line}
use Rattle.library_text.specs.Reading.{BeginsWith, HasRead, IsBare, HasFirstFault, IsEndOf, IsFaultAs}
use Rattle.library_text.specs.Scan.{IsBareOutcome}
use Rattle.library_text.proofs.Lines.{bare_is}

-- 1. ONE CERTIFICATE.

pub bare_outcome : (text : List ℕ) (r : Result Certificate CertEnd) → IsBare text → certs.IsCertificateOutcome text r → IsBareOutcome text r
bare_outcome text (Ok c) bare h = (h.0, bare_is text c bare h.1)
bare_outcome text (Err (cert_ends.Fault fault)) bare h = inl (bare, h)
bare_outcome text (Err cert_ends.NoMemory) bare h = tt

-- 2. SOME CERTIFICATES.

pub read_nothing : (count : ℕ) (rest bytes : List ℕ) → BeginsWith count rest bytes → HasRead count [] rest bytes
read_nothing count rest bytes begins = record { begins = begins; readable = tt }

pub read_more : (count : ℕ) (before : List Certificate) (rest own more bytes : List ℕ) (c : Certificate) → HasRead count before rest bytes → rest ≡ own ++ more
    → certs.IsReadable c → own ≡ certificate_text c → HasRead count (before ++ c ∷ []) more bytes
read_more count before rest own more bytes c h parts readable is = record {
  begins = record {
    few = h.begins.few;
    text = h.begins.text ∙ ap (λ (t : List ℕ). first_line count ++ t)
        (ap (λ (t : List ℕ). certificates_text before ++ t) (parts ∙ ap (λ (t : List ℕ). t ++ more) is)
        ∙ (sym (append_assoc (certificates_text before) (certificate_text c) more) ∙ ap (λ (t : List ℕ). t ++ more) (flat_map_more certificate_text [] before c)));
  };
  readable = all_push certs.IsReadable before c h.readable readable;
}

-- 3. WHERE THE READING ENDS.

pub no_head : (bytes : List ℕ) → ((count : ℕ) (rest : List ℕ) → BeginsWith count rest bytes → ⊥) → HasFirstFault bytes (record { number = 0; fault = BadHead })
no_head bytes none = inl (record { number = refl; bad_head = refl; none = none })

pub bad_certificate : (count : ℕ) (before : List Certificate) (rest own more bytes : List ℕ) (number : ℕ) (end : CertEnd) → HasRead count before rest bytes → length before < count
    → number ≡ length before + 1 → rest ≡ own ++ more → IsUpToEnd own more → IsBareOutcome own (Err end) → IsEndOf bytes (end_of_certificate number end)
bad_certificate count before rest own more bytes number (cert_ends.Fault fault) h due is parts up faulty =
    inr (inl (record {
      count = count;
      before = before;
      rest = rest;
      read = h;
      due = due;
      number = is;
      has_fault = record { own = own; behind = more; up_to_end = up; parts = parts; has_fault = faulty };
    }))
bad_certificate count before rest own more bytes number cert_ends.NoMemory h due is parts up faulty = tt

pub no_end : (count : ℕ) (certificates : List Certificate) (rest bytes : List ℕ) (number : ℕ) → HasRead count certificates rest bytes → length certificates ≡ count
    → number ≡ count + 1 → rest ≢ last_line → HasFirstFault bytes (record { number = number; fault = NoEnd })
no_end count certificates rest bytes number h all is other =
    inr (inr (record {
      certificates = certificates;
      rest = rest;
      read = subst (λ (n : ℕ). HasRead n certificates rest bytes) (sym all) h;
      number = is ∙ ap (λ (n : ℕ). n + 1) (sym all);
      no_end = refl;
      other = other;
    }))

pub whole : (count : ℕ) (certificates : List Certificate) (rest bytes : List ℕ) → HasRead count certificates rest bytes → length certificates ≡ count → rest ≡ last_line
    → bytes ≡ first_line (length certificates) ++ (certificates_text certificates ++ last_line)
whole count certificates rest bytes h all last =
    h.begins.text ∙ (ap (λ (n : ℕ). first_line n ++ (certificates_text certificates ++ rest)) (sym all)
    ∙ ap (λ (t : List ℕ). first_line (length certificates) ++ (certificates_text certificates ++ t)) last)

-- 4. WHAT IS SO OF AN OUTCOME.

pub ok_from : {A E : Type 0} (r : Result A E) (P R Q : A → Type 0) → ((x : A) → P x → R x → Q x) → IfOk r P → IfOk r R → IfOk r Q
ok_from (Ok x) P R Q f p q = f x p q
ok_from (Err e) P R Q f p q = tt

pub err_from : {A E : Type 0} (r : Result A E) (P Q : E → Type 0) → ((e : E) → P e → Q e) → IfErr r P → IfErr r Q
err_from (Ok x) P Q f p = tt
err_from (Err e) P Q f p = f e p

pub none_from : {A : Type 0} (r : Option A) (P Q : Type 0) → (P → Q) → IfNone r P → IfNone r Q
none_from None P Q f p = f p
none_from (Some x) P Q f p = tt

-- the reading ends with the one fault of the text
pub end_fault : OneLibraryFault → (bytes : List ℕ) (end : LibraryEnd) → IsEndOf bytes end → (fault : LibraryFault) → HasFirstFault bytes fault → IsFaultAs fault end
end_fault one bytes (Fault found) h fault first = one bytes found fault h first
end_fault one bytes NoMemory h fault first = tt
