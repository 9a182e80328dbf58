-- Serves the model of a note, which no public clause names: how the logic stores a derivation, as a
-- tree of pairs, where it is told how a step is stored.
use Rattle.std.specs.Prelude.{◌≡◌, ℕ}
use Rattle.std.proofs.Common.{ap, arith, sym, refl}
use base.Stored.{Gv, gnil, gnum, gcons, Coded}
use Rattle.notes.specs.Derivation.{Step, Derivation, Derivations, derived, none_under, one_under}

-- The first of a pair; nothing of what is none.
abbrev first_part : Gv → Gv
first_part gnil = gnil
first_part (gnum n) = gnil
first_part (gcons a b) = a

-- The second of a pair; nothing of what is none.
abbrev second_part : Gv → Gv
second_part gnil = gnil
second_part (gnum n) = gnil
second_part (gcons a b) = b

-- 0 for nothing, 1 for a number, 2 for a pair, so that no two of these are alike.
abbrev weight : Gv → ℕ
weight gnil = 0
weight (gnum n) = 1
weight (gcons a b) = 2

apart : (a b : Gv) → weight a ≡ 0 → weight b ≡ 2 → a ≡ b → ⊥
apart a b empty pair e = let same : weight a ≡ weight b = ap weight e in omega (arith, same, empty, pair)

module _ (step : Coded Step) where
  abbrev mutual
    pub code_of : Derivation → Gv
    code_of (derived s notes) = gcons (step.code s) (codes_of notes)

    pub codes_of : Derivations → Gv
    codes_of none_under = gnil
    codes_of (one_under note notes) = gcons (code_of note) (codes_of notes)

  mutual
    pub same_coded : (x y : Derivation) → code_of x ≡ code_of y → x ≡ y
    same_coded (derived s notes) (derived r others) e =
        let one : s ≡ r = step.inj s r (ap first_part e) in
        let two : notes ≡ others = all_coded notes others (ap second_part e) in
        λ i. derived (one i) (two i)

    pub all_coded : (x y : Derivations) → codes_of x ≡ codes_of y → x ≡ y
    all_coded none_under none_under e = λ i. none_under
    all_coded none_under (one_under note notes) e = absurd (apart gnil (gcons (code_of note) (codes_of notes)) refl refl e)
    all_coded (one_under note notes) none_under e = absurd (apart gnil (gcons (code_of note) (codes_of notes)) refl refl (sym e))
    all_coded (one_under note notes) (one_under other others) e =
        let one : note ≡ other = same_coded note other (ap first_part e) in
        let two : notes ≡ others = all_coded notes others (ap second_part e) in
        λ i. one_under (one i) (two i)

  abbrev pub coded_derivation : Coded Derivation
  coded_derivation = record { code = code_of; inj = same_coded }
