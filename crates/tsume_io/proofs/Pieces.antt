-- What one read or write after another takes and keeps.
use Rattle.std.proofs.Common.{◌≡◌, ℕ, ◌+◌, ◌-◌, ◌<◌, ◌≤◌, List, [], ◌++◌, length, take, drop, Option, None, Some, refl, sym, ◌∙◌, ap, arith, subst, append_assoc, append-nil, length-append, length-drop, length-take-le, take-append-drop}
use Rattle.std.proofs.Math.Seq.{take-add}
use Rattle.std.proofs.lemmas.List.{take_at, take-append-le, take_all, drop-drop}
use Rattle.tsume_io.specs.Source.{Took, TookAll, HasMoreThan, IsAtEnd}
use Rattle.tsume_io.specs.Sink.{GrewBy}

pub Took-nil : (a : Option (List ℕ)) → Took a a []
Took-nil None = tt
Took-nil (Some xs) = refl

pub Took-append : (a b c : Option (List ℕ)) (first second : List ℕ) → Took a b first → Took b c second → Took a c (first ++ second)
Took-append None None None first second p q = tt
Took-append None None (Some z) first second p q = absurd q
Took-append None (Some y) c first second p q = absurd p
Took-append (Some x) None c first second p q = absurd p
Took-append (Some x) (Some y) None first second p q = absurd q
Took-append (Some x) (Some y) (Some z) first second p q = p ∙ ap (λ l. first ++ l) q ∙ sym (append_assoc first second z)

-- at the end all that was left is taken
pub TookAll-end : (a b : Option (List ℕ)) (taken : List ℕ) → Took a b taken → IsAtEnd b → TookAll a b taken
TookAll-end None None taken p end = tt
TookAll-end None (Some y) taken p end = absurd p
TookAll-end (Some x) None taken p end = absurd p
TookAll-end (Some x) (Some y) taken p end = (sym (append-nil taken) ∙ ap (λ l. taken ++ l) (sym end) ∙ sym p, end)

-- more than a limit was left where more was taken
pub HasMoreThan-taken : (limit : ℕ) (a b : Option (List ℕ)) (taken : List ℕ) → Took a b taken → limit < length taken → HasMoreThan limit a
HasMoreThan-taken limit None b taken p more = tt
HasMoreThan-taken limit (Some x) None taken p more = absurd p
HasMoreThan-taken limit (Some x) (Some y) taken p more = omega (arith, ap length p, length-append taken y)

-- a read into the front of a piece
pub take-front : (n m : ℕ) (front piece : List ℕ) → n ≤ length front → take n (front ++ drop m piece) ≡ take n front
take-front n m front piece fits = take-append-le n front (drop m piece) fits

pub GrewBy-nil : (a : Option (List ℕ)) → GrewBy a a []
GrewBy-nil None = tt
GrewBy-nil (Some xs) = sym (append-nil xs)

pub GrewBy-append : (a b c : Option (List ℕ)) (first second : List ℕ) → GrewBy a b first → GrewBy b c second → GrewBy a c (first ++ second)
GrewBy-append None None None first second p q = tt
GrewBy-append None None (Some z) first second p q = absurd q
GrewBy-append None (Some y) c first second p q = absurd p
GrewBy-append (Some x) None c first second p q = absurd p
GrewBy-append (Some x) (Some y) None first second p q = absurd q
GrewBy-append (Some x) (Some y) (Some z) first second p q = q ∙ ap (λ l. l ++ second) p ∙ append_assoc x first second

-- a write of the next bytes
pub GrewBy-next : (a b c : Option (List ℕ)) (xs : List ℕ) (m n : ℕ) → GrewBy a b (take m xs) → GrewBy b c (take n (take (length xs - m) (drop m xs))) → GrewBy a c (take (m + n) xs)
GrewBy-next a b c xs m n first next =
    let rest : take (length xs - m) (drop m xs) ≡ drop m xs = take_all _ _ (omega (arith, length-drop m xs)) in
    let both : GrewBy a c (take m xs ++ take n (drop m xs)) = GrewBy-append a b c _ _ first (subst (λ l. GrewBy b c (take n l)) rest next) in
    subst (GrewBy a c) (sym (take-add m n xs)) both

-- Bytes that were copied to the front of a piece are those that were taken.
pub copied : (bytes from new old : List ℕ) (at n : ℕ) → from ≡ drop at bytes → n ≤ length from → new ≡ take n from ++ old → drop at bytes ≡ take n new ++ drop (at + n) bytes
copied bytes from new old at n is fits copy =
    let front : take n new ≡ take n from = ap (take n) copy ∙ take_at (take n from) old n (length-take-le n from fits) in
    let rest : drop n from ≡ drop (at + n) bytes = ap (drop n) is ∙ drop-drop n at bytes in
    sym is ∙ sym (take-append-drop n from) ∙ (λ i. sym front i ++ rest i)
