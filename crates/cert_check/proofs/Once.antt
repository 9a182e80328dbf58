-- A certificate has one verdict for a problem.
use Rattle.std.proofs.Common.{◌≡◌, ◌<◌, ◌⊎◌, inl, inr, ℕ, zero, suc, List, arith, ap, sym, refl, ◌∙◌, subst, ⊎_elim}
use Rattle.std.specs.Prelude.{Some, None, Option, slice_get, IsSomeAnd}
use Rattle.std.proofs.lemmas.Bool.{cases_order}
use Rattle.bit_boards.specs.declared.piece.Side.{Side}
use Rattle.board_core.specs.declared.moves.Move.{Move}
use Rattle.board_core.specs.Board.{Board}
use Rattle.board_core.specs.Order.{OrdersApart}
use Rattle.mate_facts.specs.declared.entry.MateEntry.{MateEntry}
use Rattle.mate_def.specs.Mate.{after_both}
use Rattle.hand_dominance.specs.declared.version.Version.{Version}
use Rattle.hand_dominance.specs.BorneOut.{CoversListed}
use Rattle.cert_text.specs.declared.certificate.Certificate.{Certificate}
use Rattle.cert_text.specs.declared.certificate.Certificate.TheVariants.{Mate, Escape}
use Rattle.cert_check.specs.Reasons.{MateReason, EscapeReason, RootReason, EntryReason, HasReason, IsFirstAgainst, IsVerdict, reason_order}
use Rattle.cert_check.specs.declared.verdict.Why.{Why}
use Rattle.cert_check.specs.declared.verdict.Why.TheVariants.{RootMissing, NotACheck, EvasionOutside, RankNotLower, CheckUnanswered}
use Rattle.cert_check.specs.declared.verdict.Verdict.{Verdict}
use Rattle.cert_check.specs.declared.verdict.Verdict.TheVariants.{Accepted, Refused}
use Rattle.cert_check.proofs.Verdicts.{valid_stands}

-- 1. Two reasons against one entry that stand at one place in the order are one.

-- after one evasion no listed position is covered, or one is
one_evasion : (version : Version) (entries : List MateEntry) (attacker : Side) (entry : MateEntry) (a b : Move) → a ≡ b
    → ¬ CoversListed version entries attacker (after_both entry.at entry.by a) → CoversListed version entries attacker (after_both entry.at entry.by b) → ⊥
one_evasion version entries attacker entry a b e outside inside =
    outside (subst (λ (m : Move). CoversListed version entries attacker (after_both entry.at entry.by m)) (sym e) inside)

mate_once : OrdersApart → (version : Version) (entries : List MateEntry) (attacker : Side) (entry : MateEntry) (x y : Why) → MateReason version entries attacker entry x
    → MateReason version entries attacker entry y → reason_order x ≡ reason_order y → x ≡ y
mate_once apart version entries attacker entry RootMissing y r s e = absurd r
mate_once apart version entries attacker entry (CheckUnanswered m) y r s e = absurd r
mate_once apart version entries attacker entry (NotACheck m) RootMissing r s e = absurd s
mate_once apart version entries attacker entry (NotACheck m) (CheckUnanswered n) r s e = absurd s
mate_once apart version entries attacker entry (NotACheck m) (NotACheck n) r s e = ap NotACheck (r.0 ∙ sym s.0)
mate_once apart version entries attacker entry (NotACheck m) (EvasionOutside n) r s e = absurd (omega (arith, e))
mate_once apart version entries attacker entry (NotACheck m) (RankNotLower n) r s e = absurd (omega (arith, e))
mate_once apart version entries attacker entry (EvasionOutside m) RootMissing r s e = absurd s
mate_once apart version entries attacker entry (EvasionOutside m) (CheckUnanswered n) r s e = absurd s
mate_once apart version entries attacker entry (EvasionOutside m) (NotACheck n) r s e = absurd (omega (arith, e))
mate_once apart version entries attacker entry (EvasionOutside m) (EvasionOutside n) r s e = ap EvasionOutside (apart m n (omega (arith, e)))
mate_once apart version entries attacker entry (EvasionOutside m) (RankNotLower n) r s e =
    absurd (one_evasion version entries attacker entry m n (apart m n (omega (arith, e))) r.1 s.1.listed)
mate_once apart version entries attacker entry (RankNotLower m) RootMissing r s e = absurd s
mate_once apart version entries attacker entry (RankNotLower m) (CheckUnanswered n) r s e = absurd s
mate_once apart version entries attacker entry (RankNotLower m) (NotACheck n) r s e = absurd (omega (arith, e))
mate_once apart version entries attacker entry (RankNotLower m) (EvasionOutside n) r s e =
    absurd (one_evasion version entries attacker entry n m (sym (apart m n (omega (arith, e)))) s.1 r.1.listed)
mate_once apart version entries attacker entry (RankNotLower m) (RankNotLower n) r s e = ap RankNotLower (apart m n (omega (arith, e)))

-- a reason against an escape's entry names a check
escape_once : OrdersApart → (version : Version) (positions : List Board) (attacker : Side) (b : Board) (x y : Why) → EscapeReason version positions attacker b x
    → EscapeReason version positions attacker b y → reason_order x ≡ reason_order y → x ≡ y
escape_once apart version positions attacker b RootMissing y r s e = absurd r
escape_once apart version positions attacker b (NotACheck m) y r s e = absurd r
escape_once apart version positions attacker b (EvasionOutside m) y r s e = absurd r
escape_once apart version positions attacker b (RankNotLower m) y r s e = absurd r
escape_once apart version positions attacker b (CheckUnanswered m) RootMissing r s e = absurd s
escape_once apart version positions attacker b (CheckUnanswered m) (NotACheck n) r s e = absurd s
escape_once apart version positions attacker b (CheckUnanswered m) (EvasionOutside n) r s e = absurd s
escape_once apart version positions attacker b (CheckUnanswered m) (RankNotLower n) r s e = absurd s
escape_once apart version positions attacker b (CheckUnanswered m) (CheckUnanswered n) r s e = ap CheckUnanswered (apart m n (omega (arith, e)))

both_at : {X G : Type 0} (o : Option X) (P Q : X → Type 0) → ((x : X) → P x → Q x → G) → IsSomeAnd o P → IsSomeAnd o Q → G
both_at None P Q from p q = absurd p
both_at (Some x) P Q from p q = from x p q

entry_once : OrdersApart → (c : Certificate) (attacker : Side) (place : ℕ) (x y : Why) → EntryReason c attacker place x → EntryReason c attacker place y
    → reason_order x ≡ reason_order y → x ≡ y
entry_once apart (Mate c) attacker place x y r s e =
    both_at (slice_get c.entries place) (λ entry. MateReason c.version c.entries attacker entry x) (λ entry. MateReason c.version c.entries attacker entry y)
    (λ entry p q. mate_once apart c.version c.entries attacker entry x y p q e) r s
entry_once apart (Escape c) attacker place x y r s e =
    both_at (slice_get c.entries place) (λ b. EscapeReason c.version c.entries attacker b x) (λ b. EscapeReason c.version c.entries attacker b y)
    (λ b p q. escape_once apart c.version c.entries attacker b x y p q e) r s

root_is : (c : Certificate) (p : Board) (x : Why) → RootReason c p x → x ≡ RootMissing
root_is c p RootMissing r = refl
root_is c p (NotACheck m) r = absurd r
root_is c p (EvasionOutside m) r = absurd r
root_is c p (RankNotLower m) r = absurd r
root_is c p (CheckUnanswered m) r = absurd r

reason_once : OrdersApart → (c : Certificate) (p : Board) (number : ℕ) (x y : Why) → HasReason c p number x → HasReason c p number y
    → reason_order x ≡ reason_order y → x ≡ y
reason_once apart c p zero x y r s e = root_is c p x r ∙ sym (root_is c p y s)
reason_once apart c p (suc place) x y r s e = entry_once apart c p.side place x y r s e

-- 2. Two verdicts are one.

same_refusal : OrdersApart → (c : Certificate) (p : Board) (n : ℕ) (x y : Why) → IsFirstAgainst c p n x → IsFirstAgainst c p n y → Refused n x ≡ Refused n y
same_refusal apart c p n x y f g =
    ⊎_elim (λ (same : reason_order x ≡ reason_order y). ap (Refused n) (reason_once apart c p n x y f.reason g.reason same))
    (λ (other : (reason_order x < reason_order y) ⊎ (reason_order y < reason_order x)).
    ⊎_elim (λ (sooner : reason_order x < reason_order y). absurd (g.first n x (inr (refl, sooner)) f.reason))
    (λ (later : reason_order y < reason_order x). absurd (f.first n y (inr (refl, later)) g.reason)) other)
    (cases_order (reason_order x) (reason_order y))

refused_once : OrdersApart → (c : Certificate) (p : Board) (m n : ℕ) (x y : Why) → IsFirstAgainst c p m x → IsFirstAgainst c p n y → Refused m x ≡ Refused n y
refused_once apart c p m n x y f g =
    ⊎_elim (λ (same : m ≡ n). ap (λ (k : ℕ). Refused k x) same ∙ same_refusal apart c p n x y (subst (λ (k : ℕ). IsFirstAgainst c p k x) same f) g)
    (λ (other : (m < n) ⊎ (n < m)).
    ⊎_elim (λ (sooner : m < n). absurd (g.first m x (inl sooner) f.reason))
    (λ (later : n < m). absurd (f.first n y (inl later) g.reason)) other)
    (cases_order m n)

pub verdict_once : OrdersApart → (c : Certificate) (p : Board) (one other : Verdict) → IsVerdict c p one → IsVerdict c p other → one ≡ other
verdict_once apart c p Accepted Accepted f g = refl
verdict_once apart c p Accepted (Refused n y) f g = absurd (valid_stands c p n y f g.reason)
verdict_once apart c p (Refused m x) Accepted f g = absurd (valid_stands c p m x g f.reason)
verdict_once apart c p (Refused m x) (Refused n y) f g = refused_once apart c p m n x y f g
