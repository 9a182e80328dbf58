-- The verdict, from what was found out about each entry.
use Rattle.std.proofs.Common.{◌≡◌, ◌<◌, ◌≤◌, inl, inr, ◌↔◌, ℕ, zero, suc, List, get_or, length, Contains, arith, ap, sym, refl, ◌∙◌, subst, Bool, true, false}
use Rattle.std.specs.Prelude.{Some, None, Option, IsTrue, slice_get, IsSomeAnd, Result, IfOk}
use Rattle.std.proofs.Math.ListN.{length-map}
use Rattle.std.proofs.lemmas.Option.{slice_get_read, slice_get_within, get_or_from_slice_get}
use Rattle.std.proofs.lemmas.Result.{IfOk-weaker}
use Rattle.bit_boards.specs.declared.piece.Side.{Side}
use Rattle.mate_facts.specs.declared.entry.MateEntry.{MateEntry}
use Rattle.board_core.specs.Board.{Board}
use Rattle.shogi_rules.specs.Rules.{IsQuiet}
use Rattle.hand_dominance.specs.declared.version.Version.{Version}
use Rattle.hand_dominance.specs.BorneOut.{CoversListed, IsBorneOut, IsCovered, IsHeld}
use Rattle.cert_text.specs.declared.certificate.Certificate.{Certificate}
use Rattle.cert_text.specs.declared.certificate.Certificate.TheVariants.{Mate, Escape}
use Rattle.cert_text.specs.Certificate.{Mating, Escaping, IsMating, IsEscaping}
use Rattle.cert_text.specs.Kinds.{version_of, problem_of, positions_in, IsKeptBy}
use Rattle.mate_facts.specs.Entries.{positions_of}
use Rattle.cert_check.specs.Valid.{IsValid}
use Rattle.cert_check.specs.Reasons.{MateReason, EscapeReason, StandsFor, RootReason, EntryReason, EntryHolds, HasReason, IsFirstReason, IsSooner, IsVerdict, reason_order}
use Rattle.cert_check.specs.Hearing.{IsFoundIn, IsRootTold}
use Rattle.cert_check.specs.declared.hearing.Objection.{Objection}
use Rattle.cert_check.specs.declared.verdict.Why.{Why}
use Rattle.cert_check.specs.declared.verdict.Why.TheVariants.{RootMissing, NotACheck, EvasionOutside, RankNotLower, CheckUnanswered}
use Rattle.cert_check.specs.declared.verdict.Verdict.{Verdict}
use Rattle.cert_check.specs.declared.verdict.Verdict.TheVariants.{Accepted, Refused}

-- 1. From an entry to its place.

pub judged_at : {X : Type 0} (xs : List X) (place : ℕ) (x : X) (H : X → Type 0) (R : X → Why → Type 0) (o : Option Why)
    → place < length xs → x ≡ get_or xs place x → IsFirstReason (H x) (R x) o
    → IsFirstReason (IsSomeAnd (slice_get xs place) H) (λ why. IsSomeAnd (slice_get xs place) (λ y. R y why)) o
judged_at {X} xs place x H R o h is j =
    subst (λ (s : Option X). IsFirstReason (IsSomeAnd s H) (λ why. IsSomeAnd s (λ y. R y why)) o)
    (sym (slice_get_read xs (length xs) place x refl h is)) j

abbrev position_of : MateEntry → Board
position_of entry = entry.at

mate_place : (c : Certificate) (m : Mating) (entries : List MateEntry) (place : ℕ) → c ≡ Mate m → entries ≡ m.entries
    → place < length (positions_in c) → place < length entries
mate_place c m entries place e f h =
    let g : place < length (positions_of m.entries) = subst (λ (d : Certificate). place < length (positions_in d)) e h in
    let n = length-map m.entries position_of in
    subst (λ (es : List MateEntry). place < length es) (sym f) (omega arith)

pub mate_judged : {E : Type 0} (c : Certificate) (m : Mating) (attacker : Side) (version : Version) (entries : List MateEntry) (place : ℕ) (entry : MateEntry)
    (r : Result (Option Why) E) → c ≡ Mate m → version ≡ version_of c → entries ≡ m.entries → place < length (positions_in c) → entry ≡ get_or entries place entry
    → IfOk r (λ reason. IsFirstReason (IsBorneOut version entries attacker entry) (MateReason version entries attacker entry) reason)
    → IfOk r (λ reason. IsFirstReason (EntryHolds c attacker place) (EntryReason c attacker place) reason)
mate_judged {E} c m attacker version entries place entry r e v f h is j =
    subst (λ (d : Certificate). IfOk r (λ reason. IsFirstReason (EntryHolds d attacker place) (EntryReason d attacker place) reason)) (sym e)
    (subst (λ (es : List MateEntry). place < length es → entry ≡ get_or es place entry
    → IfOk r (λ reason. IsFirstReason (IsBorneOut m.version es attacker entry) (MateReason m.version es attacker entry) reason)
    → IfOk r (λ reason. IsFirstReason (EntryHolds (Mate m) attacker place) (EntryReason (Mate m) attacker place) reason)) (sym f)
    (λ h2 is2 j2. IfOk-weaker r _ _
    (λ o. judged_at m.entries place entry (IsBorneOut m.version m.entries attacker) (MateReason m.version m.entries attacker) o h2 is2) j2)
    (mate_place c m entries place e f h) is
    (subst (λ (w : Version). IfOk r (λ reason. IsFirstReason (IsBorneOut w entries attacker entry) (MateReason w entries attacker entry) reason))
    (v ∙ ap version_of e) j))

pub mate_quiet : (c : Certificate) (m : Mating) (entries : List MateEntry) (place : ℕ) (entry : MateEntry) → c ≡ Mate m → entries ≡ m.entries
    → place < length (positions_in c) → entry ≡ get_or entries place entry → IsMating m → IsQuiet entry.at
mate_quiet c m entries place entry e f h is kept =
    let there = subst (λ (es : List MateEntry). Contains es entry) f (place, mate_place c m entries place e f h, sym is) in
    (kept.listed entry there).is_entry.is_problem.quiet

escape_place : (c : Certificate) (m : Escaping) (entries : List Board) (place : ℕ) → c ≡ Escape m → entries ≡ m.entries
    → place < length (positions_in c) → place < length entries
escape_place c m entries place e f h =
    let g : place < length m.entries = subst (λ (d : Certificate). place < length (positions_in d)) e h in
    subst (λ (es : List Board). place < length es) (sym f) g

pub escape_judged : {E : Type 0} (c : Certificate) (m : Escaping) (attacker : Side) (version : Version) (entries : List Board) (place : ℕ) (b : Board)
    (r : Result (Option Why) E) → c ≡ Escape m → version ≡ version_of c → entries ≡ m.entries → place < length (positions_in c) → b ≡ get_or entries place b
    → IfOk r (λ reason. IsFirstReason (IsHeld version entries attacker b) (EscapeReason version entries attacker b) reason)
    → IfOk r (λ reason. IsFirstReason (EntryHolds c attacker place) (EntryReason c attacker place) reason)
escape_judged {E} c m attacker version entries place b r e v f h is j =
    subst (λ (d : Certificate). IfOk r (λ reason. IsFirstReason (EntryHolds d attacker place) (EntryReason d attacker place) reason)) (sym e)
    (subst (λ (es : List Board). place < length es → b ≡ get_or es place b
    → IfOk r (λ reason. IsFirstReason (IsHeld m.version es attacker b) (EscapeReason m.version es attacker b) reason)
    → IfOk r (λ reason. IsFirstReason (EntryHolds (Escape m) attacker place) (EntryReason (Escape m) attacker place) reason)) (sym f)
    (λ h2 is2 j2. IfOk-weaker r _ _
    (λ o. judged_at m.entries place b (IsHeld m.version m.entries attacker) (EscapeReason m.version m.entries attacker) o h2 is2) j2)
    (escape_place c m entries place e f h) is
    (subst (λ (w : Version). IfOk r (λ reason. IsFirstReason (IsHeld w entries attacker b) (EscapeReason w entries attacker b) reason))
    (v ∙ ap version_of e) j))

pub escape_quiet : (c : Certificate) (m : Escaping) (entries : List Board) (place : ℕ) (b : Board) → c ≡ Escape m → entries ≡ m.entries
    → place < length (positions_in c) → b ≡ get_or entries place b → IsEscaping m → IsQuiet b
escape_quiet c m entries place b e f h is kept =
    let there = subst (λ (es : List Board). Contains es b) f (place, escape_place c m entries place e f h, sym is) in
    (kept.listed b there).is_problem.quiet

-- 2. What holds has no reason against it.

borne_out_stands : (version : Version) (entries : List MateEntry) (attacker : Side) (entry : MateEntry) (why : Why) → IsBorneOut version entries attacker entry
    → MateReason version entries attacker entry why → ⊥
borne_out_stands version entries attacker entry RootMissing b r = r
borne_out_stands version entries attacker entry (NotACheck m) b r = r.1 b.check
borne_out_stands version entries attacker entry (EvasionOutside a) b r =
    let l = b.evasions a r.0 in r.1 (record { entry = l.entry; listed = l.listed; covers = l.covers })
borne_out_stands version entries attacker entry (RankNotLower a) b r = r.1.not_lower (b.evasions a r.0)
borne_out_stands version entries attacker entry (CheckUnanswered m) b r = r

held_stands : (version : Version) (positions : List Board) (attacker : Side) (b : Board) (why : Why) → IsHeld version positions attacker b
    → EscapeReason version positions attacker b why → ⊥
held_stands version positions attacker b RootMissing h r = r
held_stands version positions attacker b (NotACheck m) h r = r
held_stands version positions attacker b (EvasionOutside m) h r = r
held_stands version positions attacker b (RankNotLower m) h r = r
held_stands version positions attacker b (CheckUnanswered m) h r = r.1 (h m r.0)

some_both : {X : Type 0} (o : Option X) (P Q : X → Type 0) → ((x : X) → P x → Q x → ⊥) → IsSomeAnd o P → IsSomeAnd o Q → ⊥
some_both None P Q apart p q = p
some_both (Some x) P Q apart p q = apart x p q

pub holds_stands : (c : Certificate) (attacker : Side) (place : ℕ) (why : Why) → EntryHolds c attacker place → EntryReason c attacker place why → ⊥
holds_stands (Mate c) attacker place why h r =
    some_both (slice_get c.entries place) _ _ (λ entry. borne_out_stands c.version c.entries attacker entry why) h r
holds_stands (Escape c) attacker place why h r =
    some_both (slice_get c.entries place) _ _ (λ b. held_stands c.version c.entries attacker b why) h r

-- 3. The first refusal.

root_stands : (c : Certificate) (p : Board) (why : Why) → problem_of c ≡ p → StandsFor c p → RootReason c p why → ⊥
root_stands c p RootMissing about listed (inl r) = r about
root_stands c p RootMissing about listed (inr r) = r listed
root_stands c p (NotACheck m) about listed r = r
root_stands c p (EvasionOutside m) about listed r = r
root_stands c p (RankNotLower m) about listed r = r
root_stands c p (CheckUnanswered m) about listed r = r

none_sooner : (c : Certificate) (p : Board) (place : ℕ) (why : Why) → problem_of c ≡ p → StandsFor c p
    → ((k : ℕ) → k < place → EntryHolds c p.side k)
    → ((sooner : Why) → reason_order sooner < reason_order why → EntryReason c p.side place sooner → ⊥)
    → (entry : ℕ) (sooner : Why) → IsSooner entry sooner (suc place) why → HasReason c p entry sooner → ⊥
none_sooner c p place why about listed below here zero sooner s r = root_stands c p sooner about listed r
none_sooner c p place why about listed below here (suc k) sooner (inl lt) r = holds_stands c p.side k sooner (below k (omega arith)) r
none_sooner c p place why about listed below here (suc k) sooner (inr s) r =
    let e = s.0 in
    let same : k ≡ place = omega arith in
    here sooner s.1 (subst (λ (n : ℕ). EntryReason c p.side n sooner) same r)

pub refused_at : (c : Certificate) (p : Board) (place number : ℕ) (why : Why) → number ≡ suc place
    → (problem_of c ≡ p) × StandsFor c p
    → ((k : ℕ) → k < place → EntryHolds c p.side k)
    → IsFirstReason (EntryHolds c p.side place) (EntryReason c p.side place) (Some why)
    → IsVerdict c p (Refused number why)
refused_at c p place number why e root below first =
    subst (λ (n : ℕ). IsVerdict c p (Refused n why)) (sym e)
    (record { reason = first.0; first = none_sooner c p place why root.0 root.1 below first.1 })

none_before_root : (c : Certificate) (p : Board) (entry : ℕ) (sooner : Why) → IsSooner entry sooner 0 RootMissing → HasReason c p entry sooner → ⊥
none_before_root c p entry sooner (inl lt) r = absurd (omega arith)
none_before_root c p entry sooner (inr s) r = let w = s.1 in absurd (omega arith)

pub refused_root : (c : Certificate) (p : Board) → RootReason c p RootMissing → IsVerdict c p (Refused 0 RootMissing)
refused_root c p r = record { reason = r; first = none_before_root c p }

-- what is told of the certificate as a whole
pub root_told : (c : Certificate) (p : Board) (stands : Bool) → problem_of c ≡ p → IsTrue stands ↔ StandsFor c p → IsRootTold c p stands
root_told c p true about s = (about, s.0 refl)
root_told c p false about s = inr (λ it. absurd (let e = s.1 it in cc))

pub not_about : (c : Certificate) (p : Board) → ¬ (problem_of c ≡ p) → IsRootTold c p false
not_about c p other = inl other

pub told : (c : Certificate) (p : Board) (root : Bool) → IsRootTold c p root → root ≡ true → (problem_of c ≡ p) × StandsFor c p
told c p true root e = root
told c p false root e = absurd (cc)

pub untold : (c : Certificate) (p : Board) (root : Bool) → IsRootTold c p root → root ≡ false → RootReason c p RootMissing
untold c p true root e = absurd (cc)
untold c p false root e = root

-- whether a listed one stands for the position
pub mate_stands : (c : Certificate) (m : Mating) (version : Version) (entries : List MateEntry) (p : Board) (found : Bool) → c ≡ Mate m → version ≡ version_of c
    → entries ≡ m.entries → IsTrue found ↔ CoversListed version entries p.side p → IsTrue found ↔ StandsFor c p
mate_stands c m version entries p found e v f is =
    subst (λ (d : Certificate). IsTrue found ↔ StandsFor d p) (sym e)
    (subst (λ (es : List MateEntry). IsTrue found ↔ CoversListed m.version es p.side p) f
    (subst (λ (w : Version). IsTrue found ↔ CoversListed w entries p.side p) (v ∙ ap version_of e) is))

pub escape_stands : (c : Certificate) (m : Escaping) (version : Version) (entries : List Board) (p : Board) (found : Bool) → c ≡ Escape m → version ≡ version_of c
    → entries ≡ m.entries → IsTrue found ↔ IsCovered version entries p.side p → IsTrue found ↔ StandsFor c p
escape_stands c m version entries p found e v f is =
    subst (λ (d : Certificate). IsTrue found ↔ StandsFor d p) (sym e)
    (subst (λ (es : List Board). IsTrue found ↔ IsCovered m.version es p.side p) f
    (subst (λ (w : Version). IsTrue found ↔ IsCovered w entries p.side p) (v ∙ ap version_of e) is))

-- 4. Accepted.

at_entry : {X : Type 0} (xs : List X) (H : X → Type 0) (x : X) (place : ℕ) → place < length xs → get_or xs place x ≡ x
    → IsSomeAnd (slice_get xs place) H → H x
at_entry {X} xs H x place h e held =
    subst (λ (s : Option X). IsSomeAnd s H) (slice_get_read xs (length xs) place x refl h (sym e)) held

-- a listed position of an escape's certificate is its problem's side's to move
escape_turn : (c : Escaping) (p b : Board) → IsEscaping c → c.problem ≡ p → Contains c.entries b → b.side ≡ p.side
escape_turn c p b kept about there = (kept.listed b there).side ∙ ap (λ (x : Board). x.side) about

pub accepted : (c : Certificate) (p : Board) (n : ℕ) → IsKeptBy c → (problem_of c ≡ p) × StandsFor c p → length (positions_in c) ≤ n
    → ((k : ℕ) → k < n → EntryHolds c p.side k) → IsVerdict c p Accepted
accepted (Mate c) p n kept root h below = record {
  problem = root.0;
  listed = root.1;
  entries = λ entry there.
      let w = there.1 in
      let e = length-map c.entries position_of in
      at_entry c.entries (IsBorneOut c.version c.entries p.side) entry there.0 there.1 there.2 (below there.0 (omega arith));
}
accepted (Escape c) p n kept root h below = record {
  problem = root.0;
  listed = root.1;
  closed = record {
    turn = λ b there. escape_turn c p b kept root.0 there;
    held = λ b there.
        let w = there.1 in
        at_entry c.entries (IsHeld c.version c.entries p.side) b there.0 there.1 there.2 (below there.0 (omega arith));
  };
}

-- nothing is found among all entries
pub none_found : (c : Certificate) (p : Board) → IsKeptBy c → (problem_of c ≡ p) × StandsFor c p
    → IsFoundIn c p.side 0 (length (positions_in c)) None → IsVerdict c p Accepted
none_found c p kept root none = accepted c p (length (positions_in c)) kept root (omega arith) (λ k low. none k (omega arith) low)

-- an objection is found
pub one_found : (c : Certificate) (p : Board) (number : ℕ) (found : Objection) → number ≡ suc found.place
    → (problem_of c ≡ p) × StandsFor c p
    → IsFoundIn c p.side 0 (length (positions_in c)) (Some found) → IsVerdict c p (Refused number found.why)
one_found c p number found e root first =
    refused_at c p found.place number found.why e root (λ k low. first.sooner k (omega arith) low) first.first

-- 5. A valid certificate has no reason against it.

valid_root : (c : Certificate) (p : Board) → IsValid c p → (problem_of c ≡ p) × StandsFor c p
valid_root (Mate c) p v = (v.problem, v.listed)
valid_root (Escape c) p v = (v.problem, v.listed)

some_there : {X : Type 0} (xs : List X) (place : ℕ) (P Q : X → Type 0) → ((x : X) → Contains xs x → P x → Q x)
    → (o : Option X) → slice_get xs place ≡ o → IsSomeAnd o P → IsSomeAnd o Q
some_there xs place P Q turn None e p = p
some_there xs place P Q turn (Some x) e p = turn x (place, slice_get_within xs place x e, get_or_from_slice_get xs place x x e) p

valid_entry : (c : Certificate) (p : Board) (place : ℕ) (why : Why) → IsValid c p → EntryReason c p.side place why → ⊥
valid_entry (Mate c) p place why v r =
    some_both (slice_get c.entries place) _ (λ entry. IsBorneOut c.version c.entries p.side entry)
    (λ entry q b. borne_out_stands c.version c.entries p.side entry why b q) r
    (some_there c.entries place (λ entry. MateReason c.version c.entries p.side entry why) (λ entry. IsBorneOut c.version c.entries p.side entry)
    (λ entry there q. v.entries entry there) (slice_get c.entries place) refl r)
valid_entry (Escape c) p place why v r =
    some_both (slice_get c.entries place) _ (λ b. IsHeld c.version c.entries p.side b)
    (λ b q h. held_stands c.version c.entries p.side b why h q) r
    (some_there c.entries place (λ b. EscapeReason c.version c.entries p.side b why) (λ b. IsHeld c.version c.entries p.side b)
    (λ b there q. v.closed.held b there) (slice_get c.entries place) refl r)

pub valid_stands : (c : Certificate) (p : Board) (entry : ℕ) (why : Why) → IsValid c p → HasReason c p entry why → ⊥
valid_stands c p zero why v r = let root = valid_root c p v in root_stands c p why root.0 root.1 r
valid_stands c p (suc place) why v r = valid_entry c p place why v r

pub accepted_iff : (c : Certificate) (p : Board) (v : Verdict) → IsVerdict c p v → (v ≡ Accepted) ↔ IsValid c p
accepted_iff c p Accepted h = ((λ e. h), (λ w. refl))
accepted_iff c p (Refused entry why) h = ((λ e. absurd (cc)), (λ w. absurd (valid_stands c p entry why w h.reason)))
