-- How a stack of notes grows: by those two steps under a note, the last first.
use Rattle.std.proofs.Common.{◌≡◌, ◌<◌, ◌++◌, arith, refl, List, [], ◌∷◌, map, reverse, ap, sym, ◌∙◌, append_assoc}
use Rattle.std.specs.List.{flat_map}
use Rattle.std.proofs.lemmas.List.{map_push}
use Rattle.notes.specs.Derivation.{Derivation, source_of, under_of}
use Rattle.cert_extract.specs.Tree.{next_under, two_under}
use Rattle.cert_extract.proofs.Trees.{reverse-cons, flat-reverse, flat-push, weight, weight-append, some_steps}
use Rattle.cert_extract.proofs.Sources.{lighter}

map_reverse : {X Y : Type 0} (f : X → Y) (xs : List X) → map f (reverse xs) ≡ reverse (map f xs)
map_reverse f [] = refl
map_reverse {X} {Y} f (x ∷ xs) =
    ap (map f) (reverse-cons x xs)
    ∙ (map_push f (reverse xs) x ∙ (ap (λ (ys : List Y). ys ++ f x ∷ []) (map_reverse f xs) ∙ sym (reverse-cons (f x) (map f xs))))

module _ {A : Type 0} (v : A → Derivation) where
  pub one_pushed : (new pending ys : List A) (zs : List Derivation) (x y : A) → new ≡ pending ++ y ∷ [] → v y ≡ source_of (v x)
      → map v pending ≡ zs ++ map source_of (map v ys) → map v new ≡ zs ++ map source_of (map v (ys ++ x ∷ []))
  one_pushed new pending ys zs x y e source before =
      ap (map v) e
      ∙ (map_push v pending y
      ∙ (ap (λ (n : Derivation). map v pending ++ n ∷ []) source
      ∙ (ap (λ (ns : List Derivation). ns ++ source_of (v x) ∷ []) before
      ∙ (append_assoc zs (map source_of (map v ys)) (source_of (v x) ∷ [])
      ∙ ap (λ (ns : List Derivation). zs ++ ns) (sym (ap (map source_of) (map_push v ys x) ∙ map_push source_of (map v ys) (v x)))))))

  pub all_pushed : (pending middle inner ys : List A) (zs : List Derivation) (d : A) → map v pending ≡ map v middle ++ map source_of (map v inner)
      → map v inner ≡ reverse (under_of (source_of (v d))) → map v middle ≡ zs ++ flat_map (λ n. reverse (next_under n)) (map v ys)
      → map v pending ≡ zs ++ flat_map (λ n. reverse (next_under n)) (map v (ys ++ d ∷ []))
  all_pushed pending middle inner ys zs d e whole before =
      let g : Derivation → List Derivation = λ n. reverse (next_under n) in
      e
      ∙ (ap (λ (ns : List Derivation). map v middle ++ map source_of ns) whole
      ∙ (ap (λ (ns : List Derivation). map v middle ++ ns) (map_reverse source_of (under_of (source_of (v d))))
      ∙ (ap (λ (ns : List Derivation). ns ++ g (v d)) before
      ∙ (append_assoc zs (flat_map g (map v ys)) (g (v d))
      ∙ ap (λ (ns : List Derivation). zs ++ ns) (sym (flat-push g (map v ys) (v d)) ∙ ap (flat_map g) (sym (map_push v ys d)))))))

  pub next_pushed : (pending ys : List A) (zs : List Derivation) (note : Derivation) → map v pending ≡ zs ++ flat_map (λ n. reverse (next_under n)) (map v ys)
      → map v ys ≡ reverse (under_of note) → map v pending ≡ zs ++ reverse (two_under note)
  next_pushed pending ys zs note before whole =
      let g : Derivation → List Derivation = λ n. reverse (next_under n) in
      before ∙ ap (λ (ns : List Derivation). zs ++ ns) (ap (flat_map g) whole ∙ flat-reverse next_under (under_of note))

  -- the weight falls where the last note gives way to those two steps under it, or just leaves
  pub lighter_walked : (pending rest new : List A) (next : A) → pending ≡ rest ++ next ∷ [] → map v new ≡ map v rest ++ reverse (two_under (v next))
      → weight (map v new) < weight (map v pending)
  lighter_walked pending rest new next popped pushed =
      let before = ap weight (ap (map v) popped ∙ map_push v rest next) in
      let behind = ap weight pushed in
      omega (arith, before, behind, lighter (map v rest) (v next))

  pub lighter_met : (pending rest : List A) (next : A) → pending ≡ rest ++ next ∷ [] → weight (map v rest) < weight (map v pending)
  lighter_met pending rest next popped =
      let before = ap weight (ap (map v) popped ∙ map_push v rest next) in
      omega (arith, before, weight-append (map v rest) (v next ∷ []), some_steps (v next))
