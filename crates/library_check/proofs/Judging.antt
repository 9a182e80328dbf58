-- Certificates are judged one after the other.
use Rattle.std.proofs.Common.{◌≡◌, ◌<◌, ◌≤◌, ◌+◌, ◌↔◌, ℕ, List, Option, Some, None, length, get_or, Contains, refl, subst}
use Rattle.std.specs.Prelude.{Result, Ok, Err, slice_get, IfOk}
use Rattle.std.proofs.lemmas.Option.{slice_get_read}
use Rattle.list_laws.proofs.Standing.{contained, more, of_all}
use Rattle.board_core.specs.Board.{Board}
use Rattle.cert_text.specs.declared.certificate.Certificate.{Certificate}
use Rattle.cert_text.specs.Kinds.{problem_of}
use Rattle.cert_check.specs.Valid.{IsValid}
use Rattle.cert_check.specs.Reasons.{IsVerdict}
use Rattle.cert_check.specs.declared.verdict.Verdict.{Verdict}
use Rattle.cert_check.specs.declared.verdict.Verdict.TheVariants as verdicts
use Rattle.library_check.specs.declared.refused.Refused.{Refused}
use Rattle.library_check.specs.Judged.{IsJudged, IsFound}
use Rattle.library_check.specs.Refused.{AreValid, IsFirstRefused}

-- the certificate is valid for its own problem, and shows what it says
abbrev pub IsGood : Certificate → Type 0
IsGood c = IsJudged 0 c None

-- each of the first so many is
abbrev pub AreGood : List Certificate → ℕ → Type 0
AreGood certificates place = (k : ℕ) (c : Certificate) → k < place → slice_get certificates k ≡ Some c → IsGood c

stands : (certificates : List Certificate) (place : ℕ) (c : Certificate) → place < length certificates → c ≡ get_or certificates place c
    → slice_get certificates place ≡ Some c
stands certificates place c inside is = slice_get_read certificates (length certificates) place c refl inside is

-- one further is good
pub one_more : (certificates : List Certificate) (place number : ℕ) (c : Certificate) (found : Option Refused) → place < length certificates
    → c ≡ get_or certificates place c → IsJudged number c found → found ≡ None → AreGood certificates place → AreGood certificates (place + 1)
one_more certificates place number c None inside is judged none below = more IsGood certificates place c (stands certificates place c inside is) judged below
one_more certificates place number c (Some refused) inside is judged none below = absurd (cc)

-- and where all were, each is
pub all_good : (certificates : List Certificate) (place : ℕ) → length certificates ≤ place → AreGood certificates place → (c : Certificate)
    → Contains certificates c → IsGood c
all_good certificates place all below = of_all IsGood certificates certificates place refl all below

-- one further is refused
pub first_bad : (certificates : List Certificate) (place : ℕ) (c : Certificate) (found : Option Refused) (refused : Refused) → place < length certificates
    → c ≡ get_or certificates place c → IsJudged (place + 1) c found → found ≡ Some refused → AreGood certificates place → IsFirstRefused certificates refused
first_bad certificates place c None refused inside is judged some below = absurd (cc)
first_bad certificates place c (Some other) refused inside is judged some below = same other refused (cc) judged
  where
    same : (other refused : Refused) → other ≡ refused → IsJudged (place + 1) c (Some other) → IsFirstRefused certificates refused
    same other refused e h = subst (IsFirstRefused certificates) e (record {
      place = place;
      number = h.0;
      certificate = c;
      stands = stands certificates place c inside is;
      reason = h.1;
      sooner = λ k d low at. (below k d low at).0;
    })

-- none is refused exactly where all are valid, since a valid one has no reason against it
pub none_where_valid : ((c : Certificate) (p : Board) (verdict : Verdict) → IsVerdict c p verdict → IsValid c p → verdict ≡ verdicts.Accepted)
    → (certificates : List Certificate) (found : Option Refused) → IsFound certificates found → (found ≡ None) ↔ AreValid certificates
none_where_valid accepted certificates None h = ((λ e c there. (h c there).0), (λ valid. refl))
none_where_valid accepted certificates (Some refused) h = (
  (λ e. absurd (cc)),
  (λ valid.
      let there = contained certificates h.place h.certificate h.stands in
      let bad = accepted h.certificate (problem_of h.certificate) (verdicts.Refused refused.entry refused.why) h.reason (valid h.certificate there) in
      absurd (cc)),
)

pub ok_on : {A E : Type 0} (r : Result A E) (P Q : A → Type 0) → ((x : A) → P x → Q x) → IfOk r P → IfOk r Q
ok_on (Ok x) P Q f p = f x p
ok_on (Err e) P Q f p = tt
