-- The bound of an escape.
use Rattle.std.proofs.Common.{◌≡◌, ◌<◌, ◌≤◌, ◌+◌, ◌-◌, ◌^◌, ◌++◌, ◌∙◌, ℕ, List, [], ◌∷◌, length, map, take, get_or, Contains, arith, sym, ap, subst, refl, ⊎_elim}
use Rattle.std.proofs.lemmas.List.{take_more, take_all, map-id}
use Rattle.std.proofs.lemmas.List.Elements.{Contains-push_cases}
use Rattle.board_core.specs.Board.{Board}
use Rattle.board_core.specs.Kept.{IsKept}
use Rattle.list_laws.proofs.Standing.{contained, at_place, from_map, contains_map}
use Rattle.shogi_rules.specs.Tsume.{IsProblem}
use Rattle.mate_facts.specs.declared.rank.Rank.{Rank}
use Rattle.hand_dominance.specs.declared.version.Version.{Version}
use Rattle.hand_dominance.specs.declared.version.Version.TheVariants.{One}
use Rattle.hand_dominance.specs.BorneOut.{Covers, IsCovered}
use Rattle.cert_text.specs.Certificate.{CertificateView, Escaping, IsListing, IsRising, IsEntry, MayBeListed, escape_form}
use Rattle.cert_order.proofs.Picked.{all_listed}
use Rattle.bound_text.specs.declared.entry.BoundEntry.{BoundEntry}
use Rattle.bound_text.specs.Bound.{bound_form}
use Rattle.bound_check.specs.Valid.{IsValidBound, IsListedFrom, ShowsBound}
use Rattle.cert_check.specs.Valid.{ValidEscape}
use Rattle.shortest_mate.specs.Finding.{IsNoneWithin}

-- As many positions as were gone through are listed, each with the limit.
pub record AreListed (limit : Rank) (positions : List Board) (n : ℕ) (entries : List BoundEntry) : Type 0 where
  pub at : map (λ entry. entry.at) entries ≡ take n positions
  pub bound : (entry : BoundEntry) → Contains entries entry → entry.bound ≡ limit
  pub kept : (entry : BoundEntry) → Contains entries entry → IsKept entry.at

map_push : (entries : List BoundEntry) (entry : BoundEntry) → map (λ (e : BoundEntry). e.at) (entries ++ entry ∷ []) ≡ map (λ (e : BoundEntry). e.at) entries ++ entry.at ∷ []
map_push [] entry = refl
map_push (e ∷ entries) entry = ap (λ (bs : List Board). e.at ∷ bs) (map_push entries entry)

pub one_more : (limit : Rank) (positions : List Board) (n : ℕ) (entries longer : List BoundEntry) (b : Board) → n < length positions → b ≡ get_or positions n b
    → IsKept b → longer ≡ entries ++ record { bound = limit; at = b } ∷ [] → AreListed limit positions n entries → AreListed limit positions (n + 1) longer
one_more limit positions n entries longer b inside is kept e listed =
    let entry : BoundEntry = record { bound = limit; at = b } in
    subst (AreListed limit positions (n + 1)) (sym e) (record {
      at = map_push entries entry ∙ (ap (λ (bs : List Board). bs ++ b ∷ []) listed.at ∙ (ap (λ (x : Board). take n positions ++ x ∷ []) is ∙ sym (take_more positions n b inside)));
      bound = λ x there. ⊎_elim (λ (before : Contains entries x). listed.bound x before)
          (λ (same : entry ≡ x). subst (λ (y : BoundEntry). y.bound ≡ limit) same refl) (Contains-push_cases entries entry x there);
      kept = λ x there. ⊎_elim (λ (before : Contains entries x). listed.kept x before)
          (λ (same : entry ≡ x). subst (λ (y : BoundEntry). IsKept y.at) same kept) (Contains-push_cases entries entry x there);
    })

module _ (limit : Rank) (p : Board) (c : Escaping) (items : List Board) (n : ℕ) (entries : List BoundEntry) (same : items ≡ c.entries) (long : length items ≤ n)
    (listed : AreListed limit items n entries) (valid : ValidEscape c p) (one : c.version ≡ One) (keeps : IsListing (escape_form c.problem) c) (accepted : IsProblem p) (kept : IsKept p) where
  all_at : map (λ (entry : BoundEntry). entry.at) entries ≡ c.entries
  all_at = listed.at ∙ (take_all n items long ∙ same)

  entry_of : (b : Board) → Contains c.entries b → (entry : BoundEntry) × Contains entries entry × (entry.at ≡ b)
  entry_of b there =
      let c2 = subst (λ (bs : List Board). Contains bs b) (sym all_at) there in
      let found = from_map (λ (entry : BoundEntry). entry.at) entries c2.0 b (at_place (map (λ (entry : BoundEntry). entry.at) entries) b c2) in
      (found.0, contained entries c2.0 found.0 found.1, found.2)

  position_of : (entry : BoundEntry) → Contains entries entry → Contains c.entries entry.at
  position_of entry there =
      subst (λ (bs : List Board). Contains bs entry.at) all_at (contains_map (λ (e : BoundEntry). e.at) entries entry there)

  may_stand : (entry : BoundEntry) → Contains entries entry → IsEntry p entry.at
  may_stand entry there = subst (λ (x : Board). IsEntry x entry.at) valid.problem (keeps.listed entry.at (position_of entry there))

  rises : IsRising (map (λ (entry : BoundEntry). entry.at) entries)
  rises = subst IsRising (sym all_at) (subst IsRising (map-id c.entries) keeps.rising)

  pub listing : IsListing (bound_form p) (record { version = One; problem = p; entries = entries })
  listing = record { is_problem = accepted; rising = rises; listed = may_stand }

  listed_from : (b : Board) (least : ℕ) → Contains c.entries b → least ≤ limit.number → IsListedFrom entries least b
  listed_from b least there few =
      let e = entry_of b there in
      record { entry = e.0; listed = e.1; same = e.2; enough = (let n = ap (λ (r : Rank). r.number) (listed.bound e.0 e.1) in omega (arith, n, few)) }

  -- in version 1 what is covered is listed
  inside : (b : Board) → IsCovered c.version c.entries p.side b → Contains c.entries b
  inside b covered =
      let same : covered.listed ≡ b = subst (λ (v : Version). Covers v p.side covered.listed b) one covered.covers in
      subst (λ (q : Board). Contains c.entries q) same covered.inside

  bounded : IsValidBound entries p limit.number
  bounded = record {
    root = λ some. listed_from p limit.number (inside p valid.listed) (omega arith);
    held = λ entry there check is.
        let a = valid.closed.held entry.at (position_of entry there) check is in
        record {
          evasion = a.evasion;
          is_evasion = a.is_evasion;
          leads = λ more.
              listed_from _ (entry.bound.number - 1) (inside _ a.leads)
              (let n = ap (λ (r : Rank). r.number) (listed.bound entry there) in omega (arith, n));
        };
  }

  pub none_within : (b : CertificateView BoundEntry) → b ≡ record { version = One; problem = p; entries = entries } → length entries < 2 ^ 64
      → ((es : List BoundEntry) (q : Board) (within : ℕ) → IsValidBound es q within → ShowsBound es q within) → IsNoneWithin p limit.number b
  none_within b is few shows =
      subst (IsNoneWithin p limit.number) (sym is) (record {
        about = refl;
        bound = bounded;
        none = (shows entries p limit.number bounded).no_mate;
        bound_readable = record {
          same = refl;
          version = refl;
          good = record {
            fit = all_listed (MayBeListed (bound_form p)) entries (λ entry there. record { kept = listed.kept entry there; listed = may_stand entry there });
            rising = rises;
          };
          few = few;
        };
      })
