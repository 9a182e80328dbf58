-- All facts rest on what they have to, after one of them got better.
use Rattle.std.proofs.Common.{◌≡◌, ◌⊎◌, ◌+◌, ◌<◌, ◌≤◌, inl, inr, ◌∙◌, ℕ, sym, ap, subst, ⊎_elim, arith}
use Rattle.std.specs.Prelude.{Some, None, Option, IsSomeAnd}
use Rattle.bit_boards.specs.declared.piece.Side.{Side}
use Rattle.bit_boards.specs.declared.piece.Side.TheVariants.{Black, White}
use Rattle.bit_boards.specs.Kind.{other}
use Rattle.board_core.specs.declared.moves.Move.{Move}
use Rattle.board_core.specs.Board.{Board}
use Rattle.board_core.specs.Kept.{IsKept}
use Rattle.shogi_rules.specs.Rules.{after}
use Rattle.shogi_rules.specs.Tsume.{IsCheck, IsEvasion}
use Rattle.shogi_rules.proofs.Offered.{kept_after}
use Rattle.mate_def.specs.Mate.{HasEvasionTo, after_both}
use Rattle.shortest_facts.specs.declared.fact.Fact.{Fact}
use Rattle.shortest_facts.specs.Facts.{Known, AreBorneOut, StandsForAttacker, StandsForDefender, Mates, HoldsOut, HasNoCheck, IsBetter, IsChanged}

-- Whose facts are told by a board of the same attacker.
no_side : (s : Side) → s ≡ other s → ⊥
no_side Black e = absurd (cc)
no_side White e = absurd (cc)

module _ (k l : Known) (better : IsBetter k l) where
  -- What a fact rests on only gets better, so it stands as long as it is the same.
  pub mates_at : (b : Board) → IsKept b → (l.at b).most ≡ (k.at b).most → (o : Option Move) → IsSomeAnd o (Mates k b) → IsSomeAnd o (Mates l b)
  mates_at b kept same (Some check) m = record {
    is_check = subst (λ (s : Side). IsCheck s b check) (sym better.same) m.is_check;
    faster = λ evasion is.
        let legal = m.is_check.legal in
        let is_evasion = subst (λ (s : Side). IsEvasion s (after b check) evasion) better.same is in
        let there = kept_after (after b check) evasion (kept_after b check kept legal) is_evasion.legal in
        let less = m.faster evasion is_evasion in
        let falls = better.most (after_both b check evasion) there in
        omega arith;
  }
  mates_at b kept same None m = absurd m

  pub holds_at : (b : Board) → IsKept b → (l.at b).least ≡ (k.at b).least → (o : Option Move) → IsSomeAnd o (HoldsOut k b) → IsSomeAnd o (HoldsOut l b)
  holds_at b kept same (Some evasion) h = record {
    is_evasion = subst (λ (s : Side). IsEvasion s b evasion) (sym better.same) h.is_evasion;
    long = ⊎_elim (λ (none : HasNoCheck k.attacker (after b evasion)). inl (subst (λ (s : Side). HasNoCheck s (after b evasion)) (sym better.same) none))
        (λ (long : (k.at b).least ≤ (k.at (after b evasion)).least).
        let rises = better.least (after b evasion) (kept_after b evasion kept h.is_evasion.legal) in
        inr (omega arith)) h.long;
  }
  holds_at b kept same None h = absurd h

  -- Each check has an evasion as before.
  pub evaded : (b : Board) → ((check : Move) → IsCheck k.attacker b check → HasEvasionTo k.attacker (λ next. Unit {0}) b check)
      → (check : Move) → IsCheck l.attacker b check → HasEvasionTo l.attacker (λ next. Unit {0}) b check
  evaded b had check is =
      let e = had check (subst (λ (s : Side). IsCheck s b check) better.same is) in
      record { evasion = e.evasion; is_evasion = subst (λ (s : Side). IsEvasion s (after b check) e.evasion) (sym better.same) e.is_evasion; leads = e.leads }

  pub longer : (b : Board) → IsKept b → (least : ℕ) → ((check : Move) → IsCheck k.attacker b check → least ≤ (k.at (after b check)).least + 1)
      → (check : Move) → IsCheck l.attacker b check → least ≤ (l.at (after b check)).least + 1
  longer b kept least had check is =
      let before = subst (λ (s : Side). IsCheck s b check) better.same is in
      let long = had check before in
      let rises = better.least (after b check) (kept_after b check kept before.legal) in
      omega arith

  still_attacker : (b : Board) → IsKept b → l.at b ≡ k.at b → StandsForAttacker k b → StandsForAttacker l b
  still_attacker b kept e s =
      let least : (l.at b).least ≡ (k.at b).least = ap (λ (f : Fact). f.least) e in
      let most : (l.at b).most ≡ (k.at b).most = ap (λ (f : Fact). f.most) e in
      record {
        some_least = (let h = s.some_least in omega arith);
        some_most = (let h = s.some_most in omega arith);
        mate = λ some.
            subst (λ (o : Option Move). IsSomeAnd o (Mates l b)) (sym (ap (λ (f : Fact). f.by) e)) (mates_at b kept most (k.at b).by (s.mate (omega arith)));
        evaded = λ more. evaded b (s.evaded (omega arith));
        longer = λ more. longer b kept (l.at b).least (λ check is. let h = s.longer (omega arith) check is in omega arith);
      }

  still_defender : (b : Board) → IsKept b → l.at b ≡ k.at b → StandsForDefender k b → StandsForDefender l b
  still_defender b kept e s =
      let least : (l.at b).least ≡ (k.at b).least = ap (λ (f : Fact). f.least) e in
      let most : (l.at b).most ≡ (k.at b).most = ap (λ (f : Fact). f.most) e in
      record {
        mated = λ some evasion is.
            let before = subst (λ (s : Side). IsEvasion s b evasion) better.same is in
            let few = s.mated (omega arith) evasion before in
            let falls = better.most (after b evasion) (kept_after b evasion kept before.legal) in
            omega arith;
        holds_out = λ more.
            subst (λ (o : Option Move). IsSomeAnd o (HoldsOut l b)) (sym (ap (λ (f : Fact). f.by) e)) (holds_at b kept least (k.at b).by (s.holds_out (omega arith)));
      }

-- A change to a better fact makes what is known better.
pub better_by : (k l : Known) (b : Board) (fact : Fact) → IsChanged k l b fact → (k.at b).least ≤ fact.least → fact.most ≤ (k.at b).most → IsBetter k l
better_by k l b fact c least most = record {
  same = c.same;
  least = λ q kept.
      ⊎_elim (λ (e : q ≡ b). subst (λ (q : Board). (k.at q).least ≤ (l.at q).least) (sym e) (let h = ap (λ (f : Fact). f.least) c.there in omega arith))
      (λ (e : l.at q ≡ k.at q). let h = ap (λ (f : Fact). f.least) e in omega arith) (c.elsewhere q kept);
  most = λ q kept.
      ⊎_elim (λ (e : q ≡ b). subst (λ (q : Board). (l.at q).most ≤ (k.at q).most) (sym e) (let h = ap (λ (f : Fact). f.most) c.there in omega arith))
      (λ (e : l.at q ≡ k.at q). let h = ap (λ (f : Fact). f.most) e in omega arith) (c.elsewhere q kept);
}

-- All stand where the changed one does.
pub at_attacker : (k l : Known) (b : Board) (fact : Fact) → IsChanged k l b fact → IsBetter k l → AreBorneOut k → b.side ≡ k.attacker
    → StandsForAttacker l b → AreBorneOut l
at_attacker k l b fact c better all turn here = record {
  attacker = λ q kept side.
      ⊎_elim (λ (e : q ≡ b). subst (StandsForAttacker l) (sym e) here)
      (λ (e : l.at q ≡ k.at q). still_attacker k l better q kept e (all.attacker q kept (side ∙ better.same))) (c.elsewhere q kept);
  defender = λ q kept side.
      ⊎_elim (λ (e : q ≡ b). absurd (no_side k.attacker (sym turn ∙ (sym (ap (λ (x : Board). x.side) e) ∙ (side ∙ ap other better.same)))))
      (λ (e : l.at q ≡ k.at q). still_defender k l better q kept e (all.defender q kept (side ∙ ap other better.same))) (c.elsewhere q kept);
}

pub at_defender : (k l : Known) (b : Board) (fact : Fact) → IsChanged k l b fact → IsBetter k l → AreBorneOut k → b.side ≡ other k.attacker
    → StandsForDefender l b → AreBorneOut l
at_defender k l b fact c better all turn here = record {
  attacker = λ q kept side.
      ⊎_elim (λ (e : q ≡ b). absurd (no_side k.attacker (sym (side ∙ better.same) ∙ (ap (λ (x : Board). x.side) e ∙ turn))))
      (λ (e : l.at q ≡ k.at q). still_attacker k l better q kept e (all.attacker q kept (side ∙ better.same))) (c.elsewhere q kept);
  defender = λ q kept side.
      ⊎_elim (λ (e : q ≡ b). subst (StandsForDefender l) (sym e) here)
      (λ (e : l.at q ≡ k.at q). still_defender k l better q kept e (all.defender q kept (side ∙ ap other better.same))) (c.elsewhere q kept);
}

-- Where nothing changed, all stand as they did.
pub unchanged : (k l : Known) → IsBetter k l → ((b : Board) → l.at b ≡ k.at b) → AreBorneOut k → AreBorneOut l
unchanged k l better same all = record {
  attacker = λ q kept side. still_attacker k l better q kept (same q) (all.attacker q kept (side ∙ better.same));
  defender = λ q kept side. still_defender k l better q kept (same q) (all.defender q kept (side ∙ ap other better.same));
}

-- 2. WHAT THE CALLS SHOW.

-- A fact was improved, or nothing changed.
abbrev pub IsImproved : Known → Known → Board → Fact → Type 0
IsImproved k l b fact = IsChanged k l b fact ⊎ ((q : Board) → l.at q ≡ k.at q)

pub after_mates : (k l : Known) (b : Board) (check : Move) (most : ℕ) (fact : Fact) → IsKept b → AreBorneOut k → IsBetter k l → 1 ≤ most → IsCheck k.attacker b check
    → ((evasion : Move) → IsEvasion k.attacker (after b check) evasion → (k.at (after_both b check evasion)).most < most)
    → fact.least ≡ (k.at b).least → fact.most ≡ most → fact.by ≡ Some check → IsImproved k l b fact → AreBorneOut l
after_mates k l b check most fact kept all better some is faster same_least is_most is_by (inr same) = unchanged k l better same all
after_mates k l b check most fact kept all better some is faster same_least is_most is_by (inl c) =
    let was = all.attacker b kept is.mover in
    let least : (l.at b).least ≡ (k.at b).least = ap (λ (f : Fact). f.least) c.there ∙ same_least in
    let now : (l.at b).most ≡ most = ap (λ (f : Fact). f.most) c.there ∙ is_most in
    at_attacker k l b fact c better all is.mover (record {
      some_least = (let h = was.some_least in omega arith);
      some_most = (omega arith);
      mate = λ finite.
          subst (λ (o : Option Move). IsSomeAnd o (Mates l b)) (sym (ap (λ (f : Fact). f.by) c.there ∙ is_by)) (record {
            is_check = subst (λ (s : Side). IsCheck s b check) (sym better.same) is;
            faster = λ evasion after_it.
                let before = subst (λ (s : Side). IsEvasion s (after b check) evasion) better.same after_it in
                let less = faster evasion before in
                let falls = better.most (after_both b check evasion) (kept_after (after b check) evasion (kept_after b check kept is.legal) before.legal) in
                omega arith;
          });
      evaded = λ more. evaded k l better b (was.evaded (omega arith));
      longer = λ more. longer k l better b kept (l.at b).least (λ other_check a. let h = was.longer (omega arith) other_check a in omega arith);
    })

pub after_takes : (k l : Known) (b : Board) (least : ℕ) (fact : Fact) → IsKept b → AreBorneOut k → IsBetter k l → b.side ≡ k.attacker
    → (1 < least → (check : Move) → IsCheck k.attacker b check → HasEvasionTo k.attacker (λ next. Unit {0}) b check)
    → (2 < least → (check : Move) → IsCheck k.attacker b check → least ≤ (k.at (after b check)).least + 1)
    → (k.at b).least ≤ least → fact.least ≡ least → fact.most ≡ (k.at b).most → fact.by ≡ (k.at b).by → IsImproved k l b fact → AreBorneOut l
after_takes k l b least fact kept all better turn evade long rises is_least same_most same_by (inr same) = unchanged k l better same all
after_takes k l b least fact kept all better turn evade long rises is_least same_most same_by (inl c) =
    let was = all.attacker b kept turn in
    let now : (l.at b).least ≡ least = ap (λ (f : Fact). f.least) c.there ∙ is_least in
    let most : (l.at b).most ≡ (k.at b).most = ap (λ (f : Fact). f.most) c.there ∙ same_most in
    at_attacker k l b fact c better all turn (record {
      some_least = (let h = was.some_least in omega arith);
      some_most = (let h = was.some_most in omega arith);
      mate = λ finite.
          subst (λ (o : Option Move). IsSomeAnd o (Mates l b)) (sym (ap (λ (f : Fact). f.by) c.there ∙ same_by))
          (mates_at k l better b kept most (k.at b).by (was.mate (omega arith)));
      evaded = λ more. evaded k l better b (evade (omega arith));
      longer = λ more. longer k l better b kept (l.at b).least (λ check a. let h = long (omega arith) check a in omega arith);
    })

pub after_mated : (k l : Known) (b : Board) (most : ℕ) (fact : Fact) → IsKept b → AreBorneOut k → IsBetter k l → b.side ≡ other k.attacker
    → ((evasion : Move) → IsEvasion k.attacker b evasion → (k.at (after b evasion)).most ≤ most)
    → fact.least ≡ (k.at b).least → fact.most ≡ most → fact.by ≡ (k.at b).by → IsImproved k l b fact → AreBorneOut l
after_mated k l b most fact kept all better turn few same_least is_most same_by (inr same) = unchanged k l better same all
after_mated k l b most fact kept all better turn few same_least is_most same_by (inl c) =
    let was = all.defender b kept turn in
    let least : (l.at b).least ≡ (k.at b).least = ap (λ (f : Fact). f.least) c.there ∙ same_least in
    let now : (l.at b).most ≡ most = ap (λ (f : Fact). f.most) c.there ∙ is_most in
    at_defender k l b fact c better all turn (record {
      mated = λ finite evasion a.
          let before = subst (λ (s : Side). IsEvasion s b evasion) better.same a in
          let h = few evasion before in
          let falls = better.most (after b evasion) (kept_after b evasion kept before.legal) in
          omega arith;
      holds_out = λ more.
          subst (λ (o : Option Move). IsSomeAnd o (HoldsOut l b)) (sym (ap (λ (f : Fact). f.by) c.there ∙ same_by))
          (holds_at k l better b kept least (k.at b).by (was.holds_out (omega arith)));
    })

pub after_holds_out : (k l : Known) (b : Board) (evasion : Move) (least : ℕ) (fact : Fact) → IsKept b → AreBorneOut k → IsBetter k l → IsEvasion k.attacker b evasion
    → HasNoCheck k.attacker (after b evasion) ⊎ (least ≤ (k.at (after b evasion)).least)
    → fact.least ≡ least → fact.most ≡ (k.at b).most → fact.by ≡ Some evasion → IsImproved k l b fact → AreBorneOut l
after_holds_out k l b evasion least fact kept all better is long is_least same_most is_by (inr same) = unchanged k l better same all
after_holds_out k l b evasion least fact kept all better is long is_least same_most is_by (inl c) =
    let was = all.defender b kept is.mover in
    let now : (l.at b).least ≡ least = ap (λ (f : Fact). f.least) c.there ∙ is_least in
    let most : (l.at b).most ≡ (k.at b).most = ap (λ (f : Fact). f.most) c.there ∙ same_most in
    at_defender k l b fact c better all is.mover (record {
      mated = λ finite step a.
          let before = subst (λ (s : Side). IsEvasion s b step) better.same a in
          let h = was.mated (omega arith) step before in
          let falls = better.most (after b step) (kept_after b step kept before.legal) in
          omega arith;
      holds_out = λ more.
          subst (λ (o : Option Move). IsSomeAnd o (HoldsOut l b)) (sym (ap (λ (f : Fact). f.by) c.there ∙ is_by)) (record {
            is_evasion = subst (λ (s : Side). IsEvasion s b evasion) (sym better.same) is;
            long = ⊎_elim (λ (none : HasNoCheck k.attacker (after b evasion)). inl (subst (λ (s : Side). HasNoCheck s (after b evasion)) (sym better.same) none))
                (λ (h : least ≤ (k.at (after b evasion)).least).
                let rises = better.least (after b evasion) (kept_after b evasion kept is.legal) in
                inr (omega arith)) long;
          });
    })
