-- The first fault in a list: there is one at most, and one more element adds its own.
use Rattle.std.proofs.Common.{◌≡◌, ◌⊎◌, List, [], ◌∷◌, ◌++◌, refl, sym, subst, inl, inr, ◌∙◌}
use Rattle.kif_text.specs.First.{HasNone, HasFirst}

-- Two places in one list are the same, or one comes before the other.
pub splits : {A : Type 0} (b : List A) (h : A) (r c : List A) (k : A) (s : List A) → b ++ h ∷ r ≡ c ++ k ∷ s
    → ((b ≡ c) × (h ≡ k)) ⊎ (((mid : List A) × (c ≡ b ++ h ∷ mid) × (r ≡ mid ++ k ∷ s)) ⊎ ((mid : List A) × (b ≡ c ++ k ∷ mid) × (s ≡ mid ++ h ∷ r)))
splits [] h r [] k s e = inl (refl, cc)
splits [] h r (y ∷ c) k s e = inr (inl (c, cc, cc))
splits (x ∷ b) h r [] k s e = inr (inr (b, cc, cc))
splits (x ∷ b) h r (y ∷ c) k s e =
    let tails : b ++ h ∷ r ≡ c ++ k ∷ s = cc in
    elim (splits b h r c k s tails) [
      | inl m ↦ (let m0 = m.0 in inl (cc, m.1))
      | inr (inl m) ↦ (let m1 = m.1 in inr (inl (m.0, cc, m.2)))
      | inr (inr m) ↦ (let m1 = m.1 in inr (inr (m.0, cc, m.2)))
    ]

nothing_there : {A : Type 0} (b : List A) (h : A) (r : List A) → [] ≡ b ++ h ∷ r → ⊥
nothing_there [] h r e = cc
nothing_there (x ∷ b) h r e = cc

pub none_in_nothing : {A F : Type 0} (Has : List A → A → F → Type 0) → HasNone Has []
none_in_nothing Has = λ before here behind fault e is. nothing_there before here behind e

pub none_in_more : {A F : Type 0} (Has : List A → A → F → Type 0) (xs : List A) (x : A) → HasNone Has xs → ((fault : F) → Has xs x fault → ⊥) → HasNone Has (xs ++ x ∷ [])
none_in_more {A} {F} Has xs x none not = λ before here behind fault e is.
    elim (splits xs x [] before here behind e) [
      | inl m ↦ not fault (subst (λ (h : A). Has xs h fault) (sym m.1) (subst (λ (b : List A). Has b here fault) (sym m.0) is))
      | inr (inl m) ↦ nothing_there m.0 here behind m.2
      | inr (inr m) ↦ none before here m.0 fault m.1 is
    ]

pub none_or_first : {A F : Type 0} (Has : List A → A → F → Type 0) (xs : List A) (fault : F) → HasNone Has xs → HasFirst Has xs fault → ⊥
none_or_first Has xs fault none first = none first.before first.here first.behind fault first.parts first.there

pub one_first : {A F : Type 0} (Has : List A → A → F → Type 0) → ((before : List A) (here : A) (f g : F) → Has before here f → Has before here g → f ≡ g)
    → (xs : List A) (f g : F) → HasFirst Has xs f → HasFirst Has xs g → f ≡ g
one_first {A} {F} Has one xs f g a b =
    elim (splits a.before a.here a.behind b.before b.here b.behind (sym a.parts ∙ b.parts)) [
      | inl m ↦ one b.before b.here f g (subst (λ (h : A). Has b.before h f) m.1 (subst (λ (l : List A). Has l a.here f) m.0 a.there)) b.there
      | inr (inl m) ↦ absurd (b.none a.before a.here m.0 f m.1 a.there)
      | inr (inr m) ↦ absurd (a.none b.before b.here m.0 g m.1 b.there)
    ]
