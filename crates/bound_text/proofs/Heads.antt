-- A text begins with one first line at most.
use Rattle.std.proofs.Common.{◌≡◌, ℕ, List, [], ◌∷◌, ◌++◌, refl, sym, ap, ◌∙◌, append_assoc, arith}
use Rattle.std.specs.Prelude.{codes}
use Rattle.std.proofs.lemmas.List.{append_cancel_left}
use Rattle.cert_text.specs.Reading.{Lacks}
use Rattle.cert_text.proofs.Offered.{cut_same, lacks_both, lacks_by, digits_lack, line_cut}
use Rattle.bound_text.specs.Reading.{IsNumber, IsHead}

first_lacks : (digits : List ℕ) → IsNumber digits → Lacks 10 (codes "bound 1 " ++ digits)
first_lacks digits is = lacks_both 10 (codes "bound 1 ") digits (lacks_by 10 (codes "bound 1 ") refl) (digits_lack 10 digits (omega arith) is.numeral.1)

pub one_head : (d e r s bytes : List ℕ) → IsHead d r bytes → IsHead e s bytes → (d ≡ e) × (r ≡ s)
one_head d e r s bytes h k =
    let parts = line_cut (codes "bound 1 " ++ d) (codes "bound 1 " ++ e) r s (first_lacks d h.is_number) (first_lacks e k.is_number) (sym h.text ∙ k.text) in
    (append_cancel_left (codes "bound 1 ") d e parts.0, parts.1)

-- the first line of a text that begins with a head
pub head_cut : (text first more digits rest : List ℕ) → text ≡ first ++ 10 ∷ more → Lacks 10 first → IsHead digits rest text
    → (first ≡ codes "bound 1 " ++ digits) × (more ≡ rest)
head_cut text first more digits rest p lack h =
    cut_same 10 first more (codes "bound 1 " ++ digits) rest lack (first_lacks digits h.is_number)
    (sym p ∙ (h.text ∙ append_assoc (codes "bound 1 " ++ digits) (10 ∷ []) rest))

pub head_found : (text first more digits : List ℕ) → text ≡ first ++ 10 ∷ more → first ≡ codes "bound 1 " ++ digits → IsNumber digits → IsHead digits more text
head_found text first more digits p e is = record {
  is_number = is;
  text = p ∙ (ap (λ (t : List ℕ). t ++ 10 ∷ more) e ∙ sym (append_assoc (codes "bound 1 " ++ digits) (10 ∷ []) more));
}
