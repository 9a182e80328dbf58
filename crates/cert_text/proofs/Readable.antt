-- What is written can be read.
use Rattle.std.proofs.Common.{List, [], ◌∷◌, length}
use Rattle.std.specs.Prelude.{Contains}
use Rattle.std.specs.List.{AllByRecursion}
use Rattle.std.proofs.lemmas.List.Elements.{Contains-append_left, Contains-append_right, Contains-push}
use Rattle.board_core.specs.Kept.{IsKept}
use Rattle.cert_text.specs.Certificate.{CertificateView, Form, MayBeListed, IsListing}
use Rattle.cert_text.specs.Reading.{IsReadCount, IsReadableOf}

-- Listed entries whose positions are kept fit.
pub all_fit : {A : Type 0} (form : Form A) (whole xs : List A) → ((x : A) → Contains xs x → Contains whole x) → ((x : A) → Contains whole x → form.Lists x)
    → AllByRecursion (λ x. IsKept (form.at x)) xs → AllByRecursion (MayBeListed form) xs
all_fit form whole [] inside listed kept = tt
all_fit form whole (x ∷ xs) inside listed kept = (
  record { kept = kept.0; listed = listed x (inside x (Contains-append_left (x ∷ []) xs x (Contains-push [] x))) },
  all_fit form whole xs (λ y at. inside y (Contains-append_right (x ∷ []) xs y at)) listed kept.1,
)

pub readable : {A : Type 0} (form : Form A) (c : CertificateView A) → IsListing form c → IsKept c.problem → AllByRecursion (λ x. IsKept (form.at x)) c.entries → IsReadCount (length c.entries) → IsReadableOf form c
readable form c listing kept all count = record {
  kept = kept;
  is_problem = listing.is_problem;
  count = count;
  good = record { fit = all_fit form c.entries c.entries (λ x at. at) listing.listed all; rising = listing.rising };
}
