-- What stands at the front of a text: some bytes, or a first line.
use Rattle.std.proofs.Common.{◌≡◌, ℕ, List, [], ◌∷◌, ◌++◌, refl, sym, ap, ◌∙◌, append_assoc}
use Rattle.std.specs.Prelude.{Option, Some, None, IfSome, IfNone, true}
use Rattle.std.specs.Option.{is_some}
use Rattle.cert_text.specs.Entries.{line}
use Rattle.cert_text.specs.Reading.{Lacks}
use Rattle.cert_text.proofs.Again.{line_cut}

-- what is found has what is said of it
pub found_rest : {A : Type 0} (r : Option A) (P : A → Type 0) → is_some r ≡ true → IfSome r P → (x : A) × P x
found_rest None P e h = absurd cc
found_rest (Some x) P e h = (x, h)

-- where a text has a front, it is found
pub rest_found : {A : Type 0} (r : Option A) (text front rest : List ℕ) → text ≡ front ++ rest → IfNone r ((rest : List ℕ) → text ≡ front ++ rest → ⊥) → is_some r ≡ true
rest_found None text front rest e none = absurd (none rest e)
rest_found (Some x) text front rest e none = refl

-- what stands before a line feed is the first line
pub first_line_is : (text first more words rest : List ℕ) → text ≡ first ++ 10 ∷ more → Lacks 10 first → Lacks 10 words → text ≡ line words ++ rest → (first ≡ words) × (more ≡ rest)
first_line_is text first more words rest p lack also e =
    line_cut first words more rest lack also (append_assoc first (10 ∷ []) more ∙ (sym p ∙ e))

pub as_line : (text first more words : List ℕ) → text ≡ first ++ 10 ∷ more → first ≡ words → text ≡ line words ++ more
as_line text first more words p e = p ∙ (ap (λ (t : List ℕ). t ++ 10 ∷ more) e ∙ sym (append_assoc words (10 ∷ []) more))
