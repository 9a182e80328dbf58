-- What is known of a move of a position.
use Rattle.std.proofs.Common.{◌≡◌, ◌⊎◌, ◌<◌, ◌≤◌, ◌+◌, ◌++◌, inl, inr, ◌∙◌, ℕ, List, [], ◌∷◌, length, map, take, get_or, Contains, arith, sym, ap, subst, refl, ⊎_elim}
use Rattle.std.proofs.lemmas.List.{take_more, take_all}
use Rattle.std.proofs.lemmas.List.Elements.{Contains-push_cases}
use Rattle.bit_boards.specs.declared.piece.Side.{Side}
use Rattle.board_core.specs.declared.moves.Move.{Move}
use Rattle.board_core.specs.Board.{Board}
use Rattle.board_core.specs.Kept.{IsKept}
use Rattle.board_core.specs.Order.{Lists}
use Rattle.shogi_rules.specs.Rules.{after}
use Rattle.shogi_rules.specs.Tsume.{IsCheck, IsEvasion}
use Rattle.shogi_rules.proofs.Offered.{kept_after}
use Rattle.shogi_rules.proofs.ToMove.{after_check}
use Rattle.shortest_facts.specs.declared.fact.Fact.{Fact}
use Rattle.shortest_facts.specs.Facts.{Known, AreBorneOut, HasNoCheck}
use Rattle.shortest_search.specs.declared.child.Child.{Child}
use Rattle.shortest_search.specs.Children.{IsKnownCheck, IsKnownEvasion, AreAll}

pub check_known : (k : Known) (b next : Board) (by : Move) (fact : Fact) (child : Child) (attacker : Side) → AreBorneOut k → IsKept b → k.attacker ≡ attacker
    → IsCheck attacker b by → next ≡ after b by → fact ≡ k.at next → child.by ≡ by → (1 < child.least → child.least ≤ fact.least)
    → (child.most ≡ fact.most) ⊎ ((evasion : Move) → ¬ IsEvasion attacker next evasion) → IsKnownCheck k b child
check_known k b next by fact child attacker all kept same is e f g least most =
    whole (subst (λ (m : Move). IsCheck k.attacker b m) (sym g) (subst (λ (s : Side). IsCheck s b by) (sym same) is))
  where
    whole : IsCheck k.attacker b child.by → IsKnownCheck k b child
    whole is_check =
        let moved : next ≡ after b child.by = e ∙ ap (after b) (sym g) in
        let at : fact ≡ k.at (after b child.by) = f ∙ ap k.at moved in
        let there = kept_after b child.by kept is_check.legal in
        let stands = all.defender (after b child.by) there (after_check k.attacker b child.by is_check) in
        record {
          is_check = is_check;
          most = λ finite evasion a.
              ⊎_elim (λ (h : child.most ≡ fact.most).
              let few = stands.mated (let n = ap (λ (x : Fact). x.most) at in omega arith) evasion a in
              let n = ap (λ (x : Fact). x.most) at in
              omega arith)
              (λ (none : (evasion : Move) → ¬ IsEvasion attacker next evasion).
              absurd (none evasion (subst (λ (x : Board). IsEvasion attacker x evasion) (sym moved) (subst (λ (s : Side). IsEvasion s (after b child.by) evasion) same a)))) most;
          least = λ more. let h = least more in let n = ap (λ (x : Fact). x.least) at in omega arith;
        }

pub evasion_known : (k : Known) (b next : Board) (by : Move) (fact : Fact) (child : Child) (attacker : Side) → k.attacker ≡ attacker
    → IsEvasion attacker b by → next ≡ after b by → fact ≡ k.at next → child.by ≡ by → child.most ≡ fact.most
    → (child.least ≡ fact.least) ⊎ HasNoCheck attacker next → IsKnownEvasion k b child
evasion_known k b next by fact child attacker same is e f g most least =
    let moved : next ≡ after b child.by = e ∙ ap (after b) (sym g) in
    let at : fact ≡ k.at (after b child.by) = f ∙ ap k.at moved in
    record {
      is_evasion = subst (λ (m : Move). IsEvasion k.attacker b m) (sym g) (subst (λ (s : Side). IsEvasion s b by) (sym same) is);
      most = (let n = ap (λ (x : Fact). x.most) at in omega arith);
      least = ⊎_elim (λ (h : child.least ≡ fact.least). let n = ap (λ (x : Fact). x.least) at in inr (omega arith))
          (λ (none : HasNoCheck attacker next).
          inl (subst (λ (s : Side). HasNoCheck s (after b child.by)) (sym same) (subst (λ (x : Board). HasNoCheck attacker x) moved none))) least;
    }

-- 2. ALL OF THEM.

-- As many of a list's moves as were gone through have children.
pub record AreSome (P : Child → Type 0) (moves : List Move) (n : ℕ) (children : List Child) : Type 0 where
  pub each : (child : Child) → Contains children child → P child
  pub by : map (λ child. child.by) children ≡ take n moves

map_push : (children : List Child) (child : Child) → map (λ (c : Child). c.by) (children ++ child ∷ []) ≡ map (λ (c : Child). c.by) children ++ child.by ∷ []
map_push [] child = refl
map_push (c ∷ children) child = ap (λ (moves : List Move). c.by ∷ moves) (map_push children child)

pub one_more : (P : Child → Type 0) (moves : List Move) (n : ℕ) (children longer : List Child) (child : Child) (m : Move) → n < length moves
    → m ≡ get_or moves n m → child.by ≡ m → P child → longer ≡ children ++ child ∷ [] → AreSome P moves n children → AreSome P moves (n + 1) longer
one_more P moves n children longer child m inside at by has e some =
    subst (AreSome P moves (n + 1)) (sym e) (record {
      each = λ c there. ⊎_elim (λ (before : Contains children c). some.each c before) (λ (same : child ≡ c). subst P same has) (Contains-push_cases children child c there);
      by = map_push children child ∙ (ap (λ (ms : List Move). ms ++ child.by ∷ []) some.by ∙ (ap (λ (x : Move). take n moves ++ x ∷ []) (by ∙ at) ∙ sym (take_more moves n m inside)));
    })

pub all_gone : (P : Child → Type 0) (W : Move → Type 0) (moves : List Move) (n : ℕ) (children : List Child) → length moves ≤ n → AreSome P moves n children
    → Lists W moves → AreAll P W children
all_gone P W moves n children long some lists = record {
  each = some.each;
  all = λ move is. subst (λ (ms : List Move). Contains ms move) (sym (some.by ∙ take_all n moves long)) (lists.complete move is);
}
