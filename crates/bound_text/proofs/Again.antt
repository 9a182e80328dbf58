-- A text is that of one bound at most, and then it has no fault; and it has one first fault at
-- most.
use Rattle.std.proofs.Common.{inl, inr, ◌⊎◌, ◌≡◌, ◌<◌, ◌≤◌, ℕ, zero, suc, List, [], ◌∷◌, ◌++◌, length, refl, sym, ap, subst, ◌∙◌, append_assoc, arith}
use Rattle.std.specs.Prelude.{Result, Ok, Err}
use Rattle.std.specs.List.{AllByRecursion}
use Rattle.std.specs.Fmt.{decimal}
use Rattle.std.proofs.lemmas.List.{append_cancel_left, append-nil, length-append}
use Rattle.board_core.specs.Board.{Board}
use Rattle.cert_text.specs.Certificate.{CertificateView, MayBeListed, IsRising}
use Rattle.cert_text.specs.Text.{entries_text, end_line}
use Rattle.cert_text.proofs.Offered.{one_entry, rising_next}
use Rattle.bound_text.specs.declared.entry.BoundEntry.{BoundEntry}
use Rattle.bound_text.specs.declared.fault.BoundEnd.{BoundEnd}
use Rattle.bound_text.specs.declared.fault.BoundEnd.TheVariants.{Fault, NoMemory}
use Rattle.bound_text.specs.Bound.{bound_form, bound_entry_text, bounded_in}
use Rattle.bound_text.specs.Text.{first_line, bound_text}
use Rattle.bound_text.specs.Reading.{number_of, Begins, LacksEntry, LacksEnd, HasMore, HasFirstFault, IsReadable, IsBoundOutcome, IsReadAs, IsFaultAs}
use Rattle.bound_text.proofs.Entries.{Laws, bound_told}
use Rattle.bound_text.proofs.Numbers.{decimal_number, number_of-decimal}
use Rattle.bound_text.proofs.Heads.{one_head}

module _ (laws : Laws) (problem : Board) where
  -- Of two readings of one text the one that doesn't go as far is the front of the other.
  front_of : (xs ys : List BoundEntry) (s r : List ℕ) → AllByRecursion (MayBeListed (bound_form problem)) xs → AllByRecursion (MayBeListed (bound_form problem)) ys
      → length xs ≤ length ys → entries_text (bound_form problem) xs ++ s ≡ entries_text (bound_form problem) ys ++ r
      → (zs : List BoundEntry) × (ys ≡ xs ++ zs) × (s ≡ entries_text (bound_form problem) zs ++ r)
  front_of [] ys s r p q h e = (ys, refl, e)
  front_of (x ∷ xs) [] s r p q h e = absurd (omega arith)
  front_of (x ∷ xs) (y ∷ ys) s r p q h e =
      let one = one_entry (bound_form problem) (bound_told laws problem) x y (entries_text (bound_form problem) xs ++ s) (entries_text (bound_form problem) ys ++ r) p.0 q.0
      (sym (append_assoc (bound_entry_text x) (entries_text (bound_form problem) xs) s) ∙ (e ∙ append_assoc (bound_entry_text y) (entries_text (bound_form problem) ys) r)) in
      let more = front_of xs ys s r p.1 q.1 (omega arith) one.1 in
      let heads : x ≡ y = one.0 in
      let tails : ys ≡ xs ++ more.0 = more.1 in
      (more.0, cc, more.2)

  -- So many entries in two readings are the same entries, and the same rest.
  same_begun : (d e : List ℕ) (xs ys : List BoundEntry) (s r bytes : List ℕ) → Begins problem d xs s bytes → Begins problem e ys r bytes → length xs ≡ length ys
      → (xs ≡ ys) × (s ≡ r)
  same_begun d e xs ys s r bytes h k n =
      let heads = one_head d e (entries_text (bound_form problem) xs ++ s) (entries_text (bound_form problem) ys ++ r) bytes h.head k.head in
      let front = front_of xs ys s r h.good.fit k.good.fit (omega arith) heads.1 in
      none_left xs ys s r front.0 n front.1 front.2
    where
      none_left : (xs ys : List BoundEntry) (s r : List ℕ) (zs : List BoundEntry) → length xs ≡ length ys → ys ≡ xs ++ zs
          → s ≡ entries_text (bound_form problem) zs ++ r → (xs ≡ ys) × (s ≡ r)
      none_left xs ys s r [] n e f = (sym (e ∙ append-nil xs), f)
      none_left xs ys s r (z ∷ zs) n e f = let m = ap length e in absurd (omega (arith, length-append xs (z ∷ zs)))

  -- Where no entry follows, no reading of the text goes further.
  no_further : (d e : List ℕ) (xs ys : List BoundEntry) (s r bytes : List ℕ) → Begins problem d xs s bytes → Begins problem e ys r bytes
      → ((next : BoundEntry) (more : List ℕ) → MayBeListed (bound_form problem) next → s ≡ bound_entry_text next ++ more → ¬ IsRising (bounded_in (xs ++ next ∷ [])))
      → ¬ (length xs < length ys)
  no_further d e xs ys s r bytes h k none less =
      let heads = one_head d e (entries_text (bound_form problem) xs ++ s) (entries_text (bound_form problem) ys ++ r) bytes h.head k.head in
      let front = front_of xs ys s r h.good.fit k.good.fit (omega arith) heads.1 in
      one_left xs ys s r front.0 less front.1 front.2 k.good.fit k.good.rising none
    where
      last_fits : (xs : List BoundEntry) (z : BoundEntry) (zs : List BoundEntry) → AllByRecursion (MayBeListed (bound_form problem)) (xs ++ z ∷ zs)
          → MayBeListed (bound_form problem) z
      last_fits [] z zs all = all.0
      last_fits (x ∷ xs) z zs all = last_fits xs z zs all.1

      one_left : (xs ys : List BoundEntry) (s r : List ℕ) (zs : List BoundEntry) → length xs < length ys → ys ≡ xs ++ zs
          → s ≡ entries_text (bound_form problem) zs ++ r → AllByRecursion (MayBeListed (bound_form problem)) ys → IsRising (bounded_in ys)
          → ((next : BoundEntry) (more : List ℕ) → MayBeListed (bound_form problem) next → s ≡ bound_entry_text next ++ more → ¬ IsRising (bounded_in (xs ++ next ∷ []))) → ⊥
      one_left xs ys s r [] less e f fit rising none = let m = ap length e in omega (arith, length-append xs [])
      one_left xs ys s r (z ∷ zs) less e f fit rising none =
          none z (entries_text (bound_form problem) zs ++ r) (last_fits xs z zs (subst (AllByRecursion (MayBeListed (bound_form problem))) e fit))
          (f ∙ append_assoc (bound_entry_text z) (entries_text (bound_form problem) zs) r)
          (rising_next (bound_form problem) (bound_told laws problem) xs z zs (subst (λ (es : List BoundEntry). IsRising (bounded_in es)) e rising))

  same_number : (d e : List ℕ) (xs ys : List BoundEntry) (s r bytes : List ℕ) → Begins problem d xs s bytes → Begins problem e ys r bytes → number_of d ≡ number_of e
  same_number d e xs ys s r bytes h k = ap number_of (one_head d e (entries_text (bound_form problem) xs ++ s) (entries_text (bound_form problem) ys ++ r) bytes h.head k.head).0

  -- 1. One first fault.

  entry_entry : (bytes : List ℕ) (m n : ℕ) → LacksEntry problem m bytes → LacksEntry problem n bytes → m ≡ n
  entry_entry bytes m n h k =
      let left = no_further h.digits k.digits h.entries k.entries h.rest k.rest bytes h.begins k.begins h.no_next in
      let right = no_further k.digits h.digits k.entries h.entries k.rest h.rest bytes k.begins h.begins k.no_next in
      let p = h.number_is in
      let q = k.number_is in
      omega (arith, left, right)

  entry_end : (bytes : List ℕ) (m n : ℕ) → LacksEntry problem m bytes → LacksEnd problem n bytes → ⊥
  entry_end bytes m n h k =
      let number = same_number h.digits k.digits h.entries k.entries h.rest k.rest bytes h.begins k.begins in
      let fewer = h.fewer in
      let all = k.all in
      no_further h.digits k.digits h.entries k.entries h.rest k.rest bytes h.begins k.begins h.no_next (omega arith)

  entry_more : (bytes : List ℕ) (m n : ℕ) → LacksEntry problem m bytes → HasMore problem n bytes → ⊥
  entry_more bytes m n h k =
      let number = same_number h.digits k.digits h.entries k.entries h.rest (end_line ++ k.more) bytes h.begins k.begins in
      let fewer = h.fewer in
      let all = k.all in
      no_further h.digits k.digits h.entries k.entries h.rest (end_line ++ k.more) bytes h.begins k.begins h.no_next (omega arith)

  end_end : (bytes : List ℕ) (m n : ℕ) → LacksEnd problem m bytes → LacksEnd problem n bytes → m ≡ n
  end_end bytes m n h k =
      let number = same_number h.digits k.digits h.entries k.entries h.rest k.rest bytes h.begins k.begins in
      let all = h.all in
      let every = k.all in
      let p = h.number_is in
      let q = k.number_is in
      omega arith

  end_more : (bytes : List ℕ) (m n : ℕ) → LacksEnd problem m bytes → HasMore problem n bytes → ⊥
  end_more bytes m n h k =
      let number = same_number h.digits k.digits h.entries k.entries h.rest (end_line ++ k.more) bytes h.begins k.begins in
      let all = h.all in
      let every = k.all in
      h.no_end k.more (same_begun h.digits k.digits h.entries k.entries h.rest (end_line ++ k.more) bytes h.begins k.begins (omega arith)).1

  more_more : (bytes : List ℕ) (m n : ℕ) → HasMore problem m bytes → HasMore problem n bytes → m ≡ n
  more_more bytes m n h k =
      let number = same_number h.digits k.digits h.entries k.entries (end_line ++ h.more) (end_line ++ k.more) bytes h.begins k.begins in
      let all = h.all in
      let every = k.all in
      let p = h.number_is in
      let q = k.number_is in
      omega arith

  abbrev LaterFault : List ℕ → ℕ → Type 0
  LaterFault bytes n = LacksEntry problem n bytes ⊎ LacksEnd problem n bytes ⊎ HasMore problem n bytes

  no_head_later : (bytes : List ℕ) (n : ℕ) → HasFirstFault problem bytes zero → LaterFault bytes n → ⊥
  no_head_later bytes n none (inl k) = none k.digits (entries_text (bound_form problem) k.entries ++ k.rest) k.begins.head
  no_head_later bytes n none (inr (inl k)) = none k.digits (entries_text (bound_form problem) k.entries ++ k.rest) k.begins.head
  no_head_later bytes n none (inr (inr k)) = none k.digits (entries_text (bound_form problem) k.entries ++ (end_line ++ k.more)) k.begins.head

  later_same : (bytes : List ℕ) (m n : ℕ) → LaterFault bytes m → LaterFault bytes n → m ≡ n
  later_same bytes m n (inl h) (inl k) = entry_entry bytes m n h k
  later_same bytes m n (inl h) (inr (inl k)) = absurd (entry_end bytes m n h k)
  later_same bytes m n (inl h) (inr (inr k)) = absurd (entry_more bytes m n h k)
  later_same bytes m n (inr (inl h)) (inl k) = absurd (entry_end bytes n m k h)
  later_same bytes m n (inr (inl h)) (inr (inl k)) = end_end bytes m n h k
  later_same bytes m n (inr (inl h)) (inr (inr k)) = absurd (end_more bytes m n h k)
  later_same bytes m n (inr (inr h)) (inl k) = absurd (entry_more bytes n m k h)
  later_same bytes m n (inr (inr h)) (inr (inl k)) = absurd (end_more bytes n m k h)
  later_same bytes m n (inr (inr h)) (inr (inr k)) = more_more bytes m n h k

  pub first_same : (bytes : List ℕ) (m n : ℕ) → HasFirstFault problem bytes m → HasFirstFault problem bytes n → m ≡ n
  first_same bytes zero zero h k = refl
  first_same bytes zero (suc n) h k = absurd (no_head_later bytes (suc n) h k)
  first_same bytes (suc m) zero h k = absurd (no_head_later bytes (suc m) k h)
  first_same bytes (suc m) (suc n) h k = later_same bytes (suc m) (suc n) h k

  -- 2. The text of a bound.

  whole : (b : CertificateView BoundEntry) → IsReadable problem b → Begins problem (decimal (length b.entries)) b.entries end_line (bound_text b)
  whole b r = record {
    head = record {
      is_number = decimal_number (length b.entries) r.few;
      text = ap (λ (p : Board). first_line (decimal (length b.entries)) ++ (entries_text (bound_form p) b.entries ++ end_line)) r.same;
    };
    good = r.good;
    few = let e = number_of-decimal (length b.entries) r.few in omega arith;
  }

  later_none : (b : CertificateView BoundEntry) (n : ℕ) → IsReadable problem b → LaterFault (bound_text b) n → ⊥
  later_none b n r (inl k) =
      let all = number_of-decimal (length b.entries) r.few in
      let number = same_number k.digits (decimal (length b.entries)) k.entries b.entries k.rest end_line (bound_text b) k.begins (whole b r) in
      let fewer = k.fewer in
      no_further k.digits (decimal (length b.entries)) k.entries b.entries k.rest end_line (bound_text b) k.begins (whole b r) k.no_next (omega arith)
  later_none b n r (inr (inl k)) =
      let all = number_of-decimal (length b.entries) r.few in
      let number = same_number k.digits (decimal (length b.entries)) k.entries b.entries k.rest end_line (bound_text b) k.begins (whole b r) in
      let every = k.all in
      k.no_end [] ((same_begun k.digits (decimal (length b.entries)) k.entries b.entries k.rest end_line (bound_text b) k.begins (whole b r) (omega arith)).1
      ∙ sym (append-nil end_line))
  later_none b n r (inr (inr k)) =
      let all = number_of-decimal (length b.entries) r.few in
      let number = same_number k.digits (decimal (length b.entries)) k.entries b.entries (end_line ++ k.more) end_line (bound_text b) k.begins (whole b r) in
      let every = k.all in
      k.some (append_cancel_left end_line k.more []
      ((same_begun k.digits (decimal (length b.entries)) k.entries b.entries (end_line ++ k.more) end_line (bound_text b) k.begins (whole b r) (omega arith)).1
      ∙ sym (append-nil end_line)))

  pub faultless : (b : CertificateView BoundEntry) (n : ℕ) → IsReadable problem b → ¬ HasFirstFault problem (bound_text b) n
  faultless b zero r none = none (decimal (length b.entries)) (entries_text (bound_form problem) b.entries ++ end_line) (whole b r).head
  faultless b (suc n) r h = later_none b (suc n) r h

  bound_same : (a b : CertificateView BoundEntry) → a.version ≡ b.version → a.problem ≡ b.problem → a.entries ≡ b.entries → a ≡ b
  bound_same a b v p e = λ i. record { version = v i; problem = p i; entries = e i }

  pub texts_apart : (a b : CertificateView BoundEntry) → IsReadable problem a → IsReadable problem b → bound_text a ≡ bound_text b → a ≡ b
  texts_apart a b r k e =
      let other = subst (λ (t : List ℕ). Begins problem (decimal (length b.entries)) b.entries end_line t) (sym e) (whole b k) in
      let number = same_number (decimal (length a.entries)) (decimal (length b.entries)) a.entries b.entries end_line end_line (bound_text a) (whole a r) other in
      let mine = number_of-decimal (length a.entries) r.few in
      let theirs = number_of-decimal (length b.entries) k.few in
      bound_same a b (r.version ∙ sym k.version) (r.same ∙ sym k.same)
      (same_begun (decimal (length a.entries)) (decimal (length b.entries)) a.entries b.entries end_line end_line (bound_text a) (whole a r) other (omega arith)).0

  -- 3. Reading again.

  pub read_again : (b : CertificateView BoundEntry) (bytes : List ℕ) (outcome : Result (CertificateView BoundEntry) BoundEnd) → IsReadable problem b → bytes ≡ bound_text b
      → IsBoundOutcome problem bytes outcome → IsReadAs b outcome
  read_again b bytes (Ok found) r e h = texts_apart found b h.0 r (sym h.1 ∙ e)
  read_again b bytes (Err (Fault fault)) r e h = faultless b fault.line r (subst (λ (t : List ℕ). HasFirstFault problem t fault.line) e h)
  read_again b bytes (Err NoMemory) r e h = tt

  pub read_fault : (bytes : List ℕ) (n : ℕ) (outcome : Result (CertificateView BoundEntry) BoundEnd) → HasFirstFault problem bytes n → IsBoundOutcome problem bytes outcome
      → IsFaultAs n outcome
  read_fault bytes n (Ok found) first h = faultless found n h.0 (subst (λ (t : List ℕ). HasFirstFault problem t n) h.1 first)
  read_fault bytes n (Err (Fault fault)) first h = first_same bytes fault.line n h first
  read_fault bytes n (Err NoMemory) first h = tt
