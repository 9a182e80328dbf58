-- A text is that of one certificate at most, and then it has no fault.
use Rattle.std.proofs.Common.{◌+◌, ◌⊎◌, inl, inr, ◌≡◌, ◌≢◌, ◌≤◌, false, ℕ, List, [], ◌∷◌, ◌++◌, length, map, Result, Ok, Err, refl, sym, ap, subst, ◌∙◌, append_assoc, arith}
use Rattle.std.specs.Prelude.{codes}
use Rattle.std.specs.List.{AllByRecursion}
use Rattle.std.specs.Fmt.{decimal}
use Rattle.std.proofs.lemmas.Fmt.{decimal_injective}
use Rattle.std.proofs.lemmas.List.{append_cancel_left, append-nil}
use Rattle.mate_facts.specs.declared.entry.MateEntry.{MateEntry}
use mathlib.Core.HLevel.{is_prop→PathP}
use Rattle.std.proofs.Math.Bridge.{le_prop}
use Rattle.mate_facts.specs.declared.rank.Rank.{Rank}
use Rattle.mate_facts.specs.declared.rank.TheConstants.{MOST_RANK}
use Rattle.board_core.specs.Board.{Board}
use Rattle.usi_text.specs.MoveText.{move_text, MoveTextsApart as MovesApart}
use Rattle.sfen_text.specs.Spelling.{sfen_of, board_text, side_letter, hands_text}
use Rattle.sfen_text.specs.Laws.{PositionTextsApart, TextsAreLines}
use Rattle.cert_text.specs.Entries.{line, mate_entry_text, escape_entry_text}
use Rattle.cert_text.specs.Certificate.{CertificateView, Mating, Escaping, IsRising, Form, MayBeListed, mate_form, escape_form}
use Rattle.cert_text.specs.Text.{title_of, entries_text, end_line}
use Rattle.cert_text.specs.declared.fault.CertFault.{CertFault}
use Rattle.cert_text.specs.declared.fault.CertFault.TheVariants as faults
use Rattle.cert_text.specs.declared.fault.CertEnd.{CertEnd}
use Rattle.cert_text.specs.declared.fault.CertEnd.TheVariants as ends
use Rattle.cert_text.specs.declared.certificate.Certificate.{Certificate}
use Rattle.cert_text.specs.declared.certificate.Certificate.TheVariants as certificates
use Rattle.cert_text.specs.declared.head.Claim.{Claim}
use Rattle.cert_text.specs.declared.head.Claim.TheVariants.{Mate, Escape}
use Rattle.cert_text.specs.declared.head.Title.{Title}
use Rattle.cert_text.specs.Reading.{Lacks, AreGood, Ends, HasLineFault, HasFaultBehind, HasLaterFault, HasFirstFault, IsFaultAs, IsHead, IsReadableOf, IsReadable, IsTextOf, IsCertificateOutcome, IsReadAs}
use Rattle.cert_text.proofs.Cuts.{lacks_both, not_lacks, cut_same, has, lacks_by, decimal_lacks, move_lacks, sfen_lacks}
use Rattle.cert_text.proofs.Entries.{entry_fields, line_same, rank_small}
use Rattle.cert_text.proofs.Heads.{one_head}
use Rattle.cert_text.proofs.Bodies.{listing_text_of, IsListingText}

-- The laws of texts that the lemmas below rest on.
pub record Laws : Type 0 where
  pub apart : PositionTextsApart
  pub lines : TextsAreLines
  pub moves : MovesApart

-- ---- what an entry's text is

-- A text that is a line, and not the line `end`.
pub record IsEntryLine (text : List ℕ) : Type 0 where
  pub inside : List ℕ
  pub is_line : text ≡ line inside
  pub lacks : Lacks 10 inside
  pub no_end : inside ≢ codes "end"

-- Entries that fit are lines other than `end`, and no two have one text.
pub record AreTold {Entry : Type 0} (form : Form Entry) : Type 0 where
  pub lines : (entry : Entry) → MayBeListed form entry → IsEntryLine (form.text_of entry)
  pub apart : (one two : Entry) → MayBeListed form one → MayBeListed form two → form.text_of one ≡ form.text_of two → one ≡ two

end_lacks : (d : ℕ) → has d (codes "end") ≡ false → Lacks d (codes "end")
end_lacks d e = lacks_by d (codes "end") e

-- A space stands in a text of three parts, and none in `end`.
pub spaced_no_end : (xs ys : List ℕ) → xs ++ 32 ∷ ys ≡ codes "end" → ⊥
spaced_no_end xs ys e = not_lacks 32 xs ys (subst (Lacks 32) (sym e) (end_lacks 32 refl))

sfen_spaced : (b : Board) → sfen_of b ≡ codes "end" → ⊥
unfolding sfen_of
sfen_spaced b e = spaced_no_end (board_text b.cells) (side_letter b.side ∷ 32 ∷ hands_text b.black b.white) e

rank_same : (a b : Rank) → a.number ≡ b.number → a ≡ b
rank_same a b h = λ i. record {
  number = h i;
  some = is_prop→PathP (λ j. 1 ≤ h j) (λ j. le_prop) a.some b.some i;
  within = is_prop→PathP (λ j. h j ≤ MOST_RANK) (λ j. le_prop) a.within b.within i;
}

pub rank_apart : (a b : Rank) → decimal a.number ≡ decimal b.number → a ≡ b
rank_apart a b e = rank_same a b (decimal_injective a.number b.number (rank_small a) (rank_small b) e)

mate_same : (one two : MateEntry) → one.rank ≡ two.rank → one.by ≡ two.by → one.at ≡ two.at → one ≡ two
mate_same one two r m p = λ i. record { rank = r i; by = m i; at = p i }

pub mate_line_of : TextsAreLines → (problem : Board) (entry : MateEntry) → MayBeListed (mate_form problem) entry → IsEntryLine (mate_entry_text entry)
mate_line_of lines problem entry fits = record {
  inside = decimal entry.rank.number ++ 32 ∷ move_text entry.by ++ 32 ∷ sfen_of entry.at;
  is_line = refl;
  lacks = lacks_both 10 (decimal entry.rank.number ++ 32 ∷ move_text entry.by) (32 ∷ sfen_of entry.at)
      (lacks_both 10 (decimal entry.rank.number) (32 ∷ move_text entry.by) (decimal_lacks 10 entry.rank.number (omega arith) (rank_small entry.rank)) ((λ (e : 32 ≡ 10). omega arith), move_lacks 10 entry.by (omega arith)))
      ((λ (e : 32 ≡ 10). omega arith), sfen_lacks lines entry.at fits.kept);
  no_end = λ e. spaced_no_end (decimal entry.rank.number ++ 32 ∷ move_text entry.by) (sfen_of entry.at) e;
}

pub escape_line_of : TextsAreLines → (problem p : Board) → MayBeListed (escape_form problem) p → IsEntryLine (escape_entry_text p)
escape_line_of lines problem p fits = record { inside = sfen_of p; is_line = refl; lacks = sfen_lacks lines p fits.kept; no_end = sfen_spaced p }

module _ (laws : Laws) where
  mate_apart : (problem : Board) (one two : MateEntry) → MayBeListed (mate_form problem) one → MayBeListed (mate_form problem) two → mate_entry_text one ≡ mate_entry_text two → one ≡ two
  mate_apart problem one two f g e =
      let text = decimal one.rank.number ++ 32 ∷ move_text one.by ++ 32 ∷ sfen_of one.at in
      let mine = entry_fields one text refl in
      let other = entry_fields two text (sym e) in
      let first = cut_same 32 (decimal one.rank.number) (move_text one.by ++ 32 ∷ sfen_of one.at) (decimal two.rank.number) (move_text two.by ++ 32 ∷ sfen_of two.at)
      (decimal_lacks 32 one.rank.number (omega arith) (rank_small one.rank)) (decimal_lacks 32 two.rank.number (omega arith) (rank_small two.rank)) (sym mine ∙ other) in
      let second = cut_same 32 (move_text one.by) (sfen_of one.at) (move_text two.by) (sfen_of two.at) (move_lacks 32 one.by (omega arith)) (move_lacks 32 two.by (omega arith)) first.1 in
      mate_same one two (rank_apart one.rank two.rank first.0) (laws.moves one.by two.by second.0) (laws.apart one.at two.at f.kept g.kept second.1)

  mate_told : (problem : Board) → AreTold (mate_form problem)
  mate_told problem = record { lines = mate_line_of laws.lines problem; apart = mate_apart problem }

  escape_told : (problem : Board) → AreTold (escape_form problem)
  escape_told problem = record {
    lines = escape_line_of laws.lines problem;
    apart = λ p q f g e. laws.apart p q f.kept g.kept (line_same (sfen_of p) (sfen_of q) e);
  }

-- ---- entries one behind the other

pub line_cut : (xs ys s r : List ℕ) → Lacks 10 xs → Lacks 10 ys → line xs ++ s ≡ line ys ++ r → (xs ≡ ys) × (s ≡ r)
line_cut xs ys s r p q e = cut_same 10 xs s ys r p q (sym (append_assoc xs (10 ∷ []) s) ∙ (e ∙ append_assoc ys (10 ∷ []) r))

module _ {Entry : Type 0} (form : Form Entry) (told : AreTold form) where
  -- An entry at the front of a text is the only one.
  pub one_entry : (a b : Entry) (s r : List ℕ) → MayBeListed form a → MayBeListed form b → form.text_of a ++ s ≡ form.text_of b ++ r → (a ≡ b) × (s ≡ r)
  one_entry a b s r f g e =
      let mine = told.lines a f in
      let other = told.lines b g in
      let parts = line_cut mine.inside other.inside s r mine.lacks other.lacks
      (ap (λ (t : List ℕ). t ++ s) (sym mine.is_line) ∙ (e ∙ ap (λ (t : List ℕ). t ++ r) other.is_line)) in
      (told.apart a b f g (mine.is_line ∙ (ap line parts.0 ∙ sym other.is_line)), parts.1)

  -- No entry stands where the line `end` does.
  pub no_entry_at_end : (a : Entry) (behind rest : List ℕ) → MayBeListed form a → end_line ++ behind ≡ form.text_of a ++ rest → ⊥
  no_entry_at_end a behind rest f e =
      let mine = told.lines a f in
      let parts = line_cut (codes "end") mine.inside behind rest (end_lacks 10 refl) mine.lacks (e ∙ ap (λ (t : List ℕ). t ++ rest) mine.is_line) in
      mine.no_end (sym parts.0)

  pub rising_next : (front : List Entry) (next : Entry) (rest : List Entry) → IsRising (map form.at (front ++ next ∷ rest)) → IsRising (map form.at (front ++ next ∷ []))
  rising_next [] next rest h = tt
  rising_next (a ∷ []) next rest h = (h.0, tt)
  rising_next (a ∷ b ∷ front) next rest h = (h.0, rising_next (b ∷ front) next rest h.1)

  -- No further entry that rises stands in the text.
  abbrev pub Stops : List Entry → List ℕ → Type 0
  Stops entries text = (next : Entry) (rest : List ℕ) → MayBeListed form next → text ≡ form.text_of next ++ rest → IsRising (map form.at (entries ++ next ∷ [])) → ⊥

  end_stops : (entries : List Entry) (text behind : List ℕ) → text ≡ end_line ++ behind → Stops entries text
  end_stops entries text behind p next rest f e rising = no_entry_at_end next behind rest f (sym p ∙ e)

  pub lacks_stops : (entries : List Entry) (text : List ℕ) → Lacks 10 text → Stops entries text
  lacks_stops entries text lack next rest f e rising =
      let mine = told.lines next f in
      not_lacks 10 mine.inside rest (subst (Lacks 10) (e ∙ (ap (λ (t : List ℕ). t ++ rest) mine.is_line ∙ append_assoc mine.inside (10 ∷ []) rest)) lack)

  pub bad_stops : (entries : List Entry) (bad more : List ℕ) → Lacks 10 bad → ((entry : Entry) → MayBeListed form entry → form.text_of entry ≡ line bad → ⊥) → Stops entries (line bad ++ more)
  bad_stops entries bad more lack none next rest f e rising =
      let mine = told.lines next f in
      let parts = line_cut bad mine.inside more rest lack mine.lacks (e ∙ ap (λ (t : List ℕ). t ++ rest) mine.is_line) in
      none next f (mine.is_line ∙ ap line (sym parts.0))

  pub fall_stops : (entries : List Entry) (entry : Entry) (more : List ℕ) → MayBeListed form entry → (IsRising (map form.at (entries ++ entry ∷ [])) → ⊥) → Stops entries (form.text_of entry ++ more)
  fall_stops entries entry more fits falls next rest f e rising =
      let one = one_entry entry next more rest fits f e in
      falls (subst (λ (x : Entry). IsRising (map form.at (entries ++ x ∷ []))) (sym one.0) rising)

  -- Two readings of one text are one.
  same_entries : (front xs ys : List Entry) (s r : List ℕ) → AllByRecursion (MayBeListed form) xs → AllByRecursion (MayBeListed form) ys → IsRising (map form.at (front ++ xs)) → IsRising (map form.at (front ++ ys))
      → entries_text form xs ++ s ≡ entries_text form ys ++ r → Stops (front ++ xs) s → Stops (front ++ ys) r → (xs ≡ ys) × (s ≡ r)
  same_entries front [] [] s r p q rx ry e ss sr = (refl, e)
  same_entries front [] (y ∷ ys) s r p q rx ry e ss sr =
      absurd (ss y (entries_text form ys ++ r) q.0 (e ∙ append_assoc (form.text_of y) (entries_text form ys) r)
      (subst (λ (es : List Entry). IsRising (map form.at (es ++ y ∷ []))) (sym (append-nil front)) (rising_next front y ys ry)))
  same_entries front (x ∷ xs) [] s r p q rx ry e ss sr =
      absurd (sr x (entries_text form xs ++ s) p.0 (sym e ∙ append_assoc (form.text_of x) (entries_text form xs) s)
      (subst (λ (es : List Entry). IsRising (map form.at (es ++ x ∷ []))) (sym (append-nil front)) (rising_next front x xs rx)))
  same_entries front (x ∷ xs) (y ∷ ys) s r p q rx ry e ss sr =
      let one = one_entry x y (entries_text form xs ++ s) (entries_text form ys ++ r) p.0 q.0 (sym (append_assoc (form.text_of x) (entries_text form xs) s) ∙ (e ∙ append_assoc (form.text_of y) (entries_text form ys) r)) in
      let left : front ++ x ∷ xs ≡ (front ++ x ∷ []) ++ xs = sym (append_assoc front (x ∷ []) xs) in
      let right : front ++ y ∷ ys ≡ (front ++ x ∷ []) ++ ys = ap (λ (z : Entry). front ++ z ∷ ys) (sym one.0) ∙ sym (append_assoc front (x ∷ []) ys) in
      let more = same_entries (front ++ x ∷ []) xs ys s r p.1 q.1 (subst (λ (es : List Entry). IsRising (map form.at es)) left rx) (subst (λ (es : List Entry). IsRising (map form.at es)) right ry)
      one.1 (subst (λ (es : List Entry). Stops es s) left ss) (subst (λ (es : List Entry). Stops es r) right sr) in
      let heads : x ≡ y = one.0 in
      let tails : xs ≡ ys = more.0 in
      (cc, more.1)

  -- Entries up to the line `end`, and another reading.
  against : (entries others : List Entry) (bytes s : List ℕ) → Ends form entries bytes → AreGood form others → bytes ≡ entries_text form others ++ s → Stops others s → (entries ≡ others) × (end_line ≡ s)
  against entries others bytes s ends good e stops =
      same_entries [] entries others end_line s ends.good.fit good.fit ends.good.rising good.rising (sym ends.text ∙ e) (end_stops entries end_line [] refl) stops

  one_ends : (entries others : List Entry) (bytes : List ℕ) → Ends form entries bytes → Ends form others bytes → entries ≡ others
  one_ends entries others bytes h k = (against entries others bytes end_line h k.good k.text (end_stops others end_line [] refl)).0

  no_fault : (entries : List Entry) (count : ℕ) (bytes : List ℕ) (fault : CertFault) → Ends form entries bytes → length entries ≡ count → HasLineFault form count bytes fault → ⊥
  no_fault entries count bytes faults.BadHead h n k = k
  no_fault entries count bytes (faults.BadLine number) h n k =
      let same = against entries k.entries bytes (line k.bad ++ k.rest) h k.good k.text (bad_stops k.entries k.bad k.rest k.is_line k.no_entry) in
      k.no_end (sym (line_cut (codes "end") k.bad [] k.rest (end_lacks 10 refl) k.is_line same.1).0)
  no_fault entries count bytes (faults.NotRising number) h n k =
      let same = against entries k.entries bytes (form.text_of k.next ++ k.rest) h k.good k.text (fall_stops k.entries k.next k.rest k.fits k.falls) in
      no_entry_at_end k.next [] k.rest k.fits same.1
  no_fault entries count bytes faults.NoEnd h n k = elim k.open_end [
    | inl lack ↦ (let same = against entries k.entries bytes k.rest h k.good k.text (lacks_stops k.entries k.rest lack) in
        not_lacks 10 (codes "end") [] (subst (Lacks 10) (sym same.1) lack))
    | inr more ↦ (let same = against entries k.entries bytes k.rest h k.good k.text (end_stops k.entries k.rest more.0 more.2) in
        let none : [] ≡ more.0 = append_cancel_left end_line [] more.0 (same.1 ∙ more.2) in
        more.1 (sym none))
  ]
  no_fault entries count bytes faults.WrongCount h n k = k.2 (ap length (sym (one_ends entries k.0 bytes h k.1)) ∙ n)

  -- What stands where the good entries end, by the fault.
  abbrev AtStop : List Entry → List ℕ → CertFault → Type 0
  AtStop entries text faults.BadHead = ⊥
  AtStop entries text (faults.BadLine number) = (number ≡ length entries + 1) × (bad : List ℕ) × (more : List ℕ) × Lacks 10 bad × (bad ≢ codes "end") × ((entry : Entry) → MayBeListed form entry → form.text_of entry ≡ line bad → ⊥) × (text ≡ line bad ++ more)
  AtStop entries text (faults.NotRising number) = (number ≡ length entries + 1) × (next : Entry) × (more : List ℕ) × MayBeListed form next × (text ≡ form.text_of next ++ more)
  AtStop entries text faults.NoEnd = Lacks 10 text ⊎ ((behind : List ℕ) × (behind ≢ []) × (text ≡ end_line ++ behind))
  AtStop entries text faults.WrongCount = text ≡ end_line

  -- Good entries, and behind them what no entry can follow.
  record Stopped (bytes : List ℕ) (fault : CertFault) : Type 0 where
    entries : List Entry
    good : AreGood form entries
    rest : List ℕ
    text : bytes ≡ entries_text form entries ++ rest
    stops : Stops entries rest
    at : AtStop entries rest fault

  stopped : (count : ℕ) (bytes : List ℕ) (fault : CertFault) → HasLineFault form count bytes fault → Stopped bytes fault
  stopped count bytes faults.BadHead k = absurd k
  stopped count bytes (faults.BadLine number) k = record {
    entries = k.entries;
    good = k.good;
    rest = line k.bad ++ k.rest;
    text = k.text;
    stops = bad_stops k.entries k.bad k.rest k.is_line k.no_entry;
    at = (k.number_is, k.bad, k.rest, k.is_line, k.no_end, k.no_entry, refl);
  }
  stopped count bytes (faults.NotRising number) k = record {
    entries = k.entries;
    good = k.good;
    rest = form.text_of k.next ++ k.rest;
    text = k.text;
    stops = fall_stops k.entries k.next k.rest k.fits k.falls;
    at = (k.number_is, k.next, k.rest, k.fits, refl);
  }
  stopped count bytes faults.NoEnd k = record {
    entries = k.entries;
    good = k.good;
    rest = k.rest;
    text = k.text;
    stops = elim k.open_end [ inl lack ↦ lacks_stops k.entries k.rest lack | inr more ↦ end_stops k.entries k.rest more.0 more.2 ];
    at = k.open_end;
  }
  stopped count bytes faults.WrongCount k = record {
    entries = k.0;
    good = k.1.good;
    rest = end_line;
    text = k.1.text;
    stops = end_stops k.0 end_line [] refl;
    at = refl;
  }

  line_not_open : (text bad more : List ℕ) → Lacks 10 bad → bad ≢ codes "end" → text ≡ line bad ++ more → Lacks 10 text ⊎ ((behind : List ℕ) × (behind ≢ []) × (text ≡ end_line ++ behind)) → ⊥
  line_not_open text bad more lack no_end e (inl none) = not_lacks 10 bad more (subst (Lacks 10) (e ∙ append_assoc bad (10 ∷ []) more) none)
  line_not_open text bad more lack no_end e (inr some) = no_end (line_cut bad (codes "end") more some.0 lack (end_lacks 10 refl) (sym e ∙ some.2)).0

  entry_not_open : (text more : List ℕ) (next : Entry) → MayBeListed form next → text ≡ form.text_of next ++ more → Lacks 10 text ⊎ ((behind : List ℕ) × (behind ≢ []) × (text ≡ end_line ++ behind)) → ⊥
  entry_not_open text more next fits e (inl none) = lacks_stops [] text none next more fits e tt
  entry_not_open text more next fits e (inr some) = no_entry_at_end next some.0 more fits (sym some.2 ∙ e)

  end_not_open : (text : List ℕ) → text ≡ end_line → Lacks 10 text ⊎ ((behind : List ℕ) × (behind ≢ []) × (text ≡ end_line ++ behind)) → ⊥
  end_not_open text e (inl none) = not_lacks 10 (codes "end") [] (subst (Lacks 10) e none)
  end_not_open text e (inr some) = let none : [] ≡ some.0 = append_cancel_left end_line [] some.0 (sym e ∙ some.2) in some.1 (sym none)

  same_stop : (entries : List Entry) (text : List ℕ) (one two : CertFault) → AtStop entries text one → AtStop entries text two → one ≡ two
  same_stop entries text faults.BadHead two p q = absurd p
  same_stop entries text (faults.BadLine m) faults.BadHead p q = absurd q
  same_stop entries text (faults.NotRising m) faults.BadHead p q = absurd q
  same_stop entries text faults.NoEnd faults.BadHead p q = absurd q
  same_stop entries text faults.WrongCount faults.BadHead p q = absurd q
  same_stop entries text (faults.BadLine m) (faults.BadLine n) p q = ap (λ (k : ℕ). faults.BadLine k) (p.0 ∙ sym q.0)
  same_stop entries text (faults.BadLine m) (faults.NotRising n) p q = absurd (bad_stops [] p.1 p.2 p.3 p.5 q.1 q.2 q.3 (sym p.6 ∙ q.4) tt)
  same_stop entries text (faults.BadLine m) faults.NoEnd p q = absurd (line_not_open text p.1 p.2 p.3 p.4 p.6 q)
  same_stop entries text (faults.BadLine m) faults.WrongCount p q = absurd (p.4 (line_cut p.1 (codes "end") p.2 [] p.3 (end_lacks 10 refl) (sym p.6 ∙ q)).0)
  same_stop entries text (faults.NotRising m) (faults.NotRising n) p q = ap (λ (k : ℕ). faults.NotRising k) (p.0 ∙ sym q.0)
  same_stop entries text (faults.NotRising m) (faults.BadLine n) p q = absurd (bad_stops [] q.1 q.2 q.3 q.5 p.1 p.2 p.3 (sym q.6 ∙ p.4) tt)
  same_stop entries text (faults.NotRising m) faults.NoEnd p q = absurd (entry_not_open text p.2 p.1 p.3 p.4 q)
  same_stop entries text (faults.NotRising m) faults.WrongCount p q = absurd (no_entry_at_end p.1 [] p.2 p.3 (sym q ∙ p.4))
  same_stop entries text faults.NoEnd faults.NoEnd p q = refl
  same_stop entries text faults.NoEnd (faults.BadLine n) p q = absurd (line_not_open text q.1 q.2 q.3 q.4 q.6 p)
  same_stop entries text faults.NoEnd (faults.NotRising n) p q = absurd (entry_not_open text q.2 q.1 q.3 q.4 p)
  same_stop entries text faults.NoEnd faults.WrongCount p q = absurd (end_not_open text q p)
  same_stop entries text faults.WrongCount faults.WrongCount p q = refl
  same_stop entries text faults.WrongCount (faults.BadLine n) p q = absurd (q.4 (line_cut q.1 (codes "end") q.2 [] q.3 (end_lacks 10 refl) (sym q.6 ∙ p)).0)
  same_stop entries text faults.WrongCount (faults.NotRising n) p q = absurd (no_entry_at_end q.1 [] q.2 q.3 (sym p ∙ q.4))
  same_stop entries text faults.WrongCount faults.NoEnd p q = absurd (end_not_open text p q)

  one_fault : (count : ℕ) (bytes : List ℕ) (one two : CertFault) → HasLineFault form count bytes one → HasLineFault form count bytes two → one ≡ two
  one_fault count bytes one two h k =
      let a = stopped count bytes one h in
      let b = stopped count bytes two k in
      let same = same_entries [] b.entries a.entries b.rest a.rest b.good.fit a.good.fit b.good.rising a.good.rising (sym b.text ∙ a.text) b.stops a.stops in
      same_stop a.entries a.rest one two a.at (subst (λ (es : List Entry). AtStop es a.rest two) same.0 (subst (λ (t : List ℕ). AtStop b.entries t two) same.1 b.at))

-- ---- certificates

moved : (a b : Title) (m n : ℕ) (p q : Board) (x y : List ℕ) (fault : CertFault) → a ≡ b → m ≡ n → p ≡ q → x ≡ y → HasFaultBehind a.claim m p x fault → HasFaultBehind b.claim n q y fault
moved a b m n p q x y fault ea em ep ex h =
    subst (λ (t : List ℕ). HasFaultBehind b.claim n q t fault) ex
    (subst (λ (o : Board). HasFaultBehind b.claim n o x fault) ep
    (subst (λ (k : ℕ). HasFaultBehind b.claim k p x fault) em
    (subst (λ (title : Title). HasFaultBehind title.claim m p x fault) ea h)))

listings_same : {Entry : Type 0} (c d : CertificateView Entry) → d.version ≡ c.version → d.problem ≡ c.problem → d.entries ≡ c.entries → d ≡ c
listings_same c d v p e = λ i. record { version = v i; problem = p i; entries = e i }

later_of : (bytes : List ℕ) (fault : CertFault) → HasFirstFault bytes fault → (fault ≡ faults.BadHead) ⊎ HasLaterFault bytes fault
later_of bytes faults.BadHead h = inl refl
later_of bytes (faults.BadLine n) h = inr h
later_of bytes (faults.NotRising n) h = inr h
later_of bytes faults.WrongCount h = inr h
later_of bytes faults.NoEnd h = inr h

no_head_later : (bytes : List ℕ) (one two : CertFault) → HasFirstFault bytes one → one ≡ faults.BadHead → HasLaterFault bytes two → ⊥
no_head_later bytes one two h e k = (subst (HasFirstFault bytes) e h) k.title k.count k.problem k.rest k.begins

module _ (laws : Laws) where
  -- The head of a certificate's text.
  listing_head : {Entry : Type 0} (claim : Claim) (form : Form Entry) (c : CertificateView Entry) (bytes : List ℕ) → IsReadableOf form c → IsListingText claim form c bytes
      → IsHead (title_of claim c) (length c.entries) (sfen_of c.problem) (entries_text form c.entries ++ end_line) bytes
  listing_head claim form c bytes r t = record { is_count = r.count; is_line = sfen_lacks laws.lines c.problem r.kept; front = t.0; is_front = t.1; text = t.2 ∙ ap (λ (u : List ℕ). t.0 ++ u) (listing_text_of claim form c) }

  listing_no_fault : {Entry : Type 0} (claim : Claim) (form : Form Entry) → AreTold form → (c : CertificateView Entry) (bytes : List ℕ) (fault : CertFault)
      → ((rest : List ℕ) → HasFaultBehind claim (length c.entries) c.problem rest fault → HasLineFault form (length c.entries) rest fault)
      → IsReadableOf form c → IsListingText claim form c bytes → HasLaterFault bytes fault → ⊥
  listing_no_fault claim form told c bytes fault behind r t k =
      let rest = entries_text form c.entries ++ end_line in
      let one = one_head k.title (title_of claim c) k.count (length c.entries) (sfen_of k.problem) (sfen_of c.problem) k.rest rest bytes k.begins.head (listing_head claim form c bytes r t) in
      no_fault form told c.entries (length c.entries) rest fault (record { good = r.good; text = refl }) refl
      (behind rest (moved k.title (title_of claim c) k.count (length c.entries) k.problem c.problem k.rest rest fault one.0 one.1 (laws.apart k.problem c.problem k.begins.kept r.kept one.2) one.3 k.later))

  one_listing : {Entry : Type 0} (claim : Claim) (form : Board → Form Entry) → ((problem : Board) → AreTold (form problem)) → (c d : CertificateView Entry) (bytes : List ℕ)
      → IsReadableOf (form c.problem) c → IsListingText claim (form c.problem) c bytes → IsReadableOf (form d.problem) d → IsListingText claim (form d.problem) d bytes → d ≡ c
  one_listing claim form told c d bytes r t k u =
      let one = one_head (title_of claim d) (title_of claim c) (length d.entries) (length c.entries) (sfen_of d.problem) (sfen_of c.problem) (entries_text (form d.problem) d.entries ++ end_line) (entries_text (form c.problem) c.entries ++ end_line) bytes
      (listing_head claim (form d.problem) d bytes k u) (listing_head claim (form c.problem) c bytes r t) in
      let problems : d.problem ≡ c.problem = laws.apart d.problem c.problem k.kept r.kept one.2 in
      let ends : Ends (form c.problem) d.entries (entries_text (form c.problem) c.entries ++ end_line)
      = subst (λ (p : Board). Ends (form p) d.entries (entries_text (form c.problem) c.entries ++ end_line)) problems (record { good = k.good; text = sym one.3 }) in
      listings_same c d (ap (λ (title : Title). title.version) one.0) problems (one_ends (form c.problem) (told c.problem) d.entries c.entries (entries_text (form c.problem) c.entries ++ end_line)
      ends (record { good = r.good; text = refl }))

  one_mate : (c d : Mating) (bytes : List ℕ) → IsReadable (certificates.Mate c) → IsTextOf (certificates.Mate c) bytes → IsReadable (certificates.Mate d) → IsTextOf (certificates.Mate d) bytes → d ≡ c
  one_mate c d bytes = one_listing Mate mate_form (mate_told laws) c d bytes

  one_escape : (c d : Escaping) (bytes : List ℕ) → IsReadable (certificates.Escape c) → IsTextOf (certificates.Escape c) bytes → IsReadable (certificates.Escape d) → IsTextOf (certificates.Escape d) bytes → d ≡ c
  one_escape c d bytes = one_listing Escape escape_form (escape_told laws) c d bytes

  claims_apart : (c : Mating) (d : Escaping) (bytes : List ℕ) → IsReadable (certificates.Mate c) → IsTextOf (certificates.Mate c) bytes → IsReadable (certificates.Escape d) → IsTextOf (certificates.Escape d) bytes → ⊥
  claims_apart c d bytes r t k u =
      let one = one_head (title_of Mate c) (title_of Escape d) (length c.entries) (length d.entries) (sfen_of c.problem) (sfen_of d.problem) (entries_text (mate_form c.problem) c.entries ++ end_line) (entries_text (escape_form d.problem) d.entries ++ end_line) bytes
      (listing_head Mate (mate_form c.problem) c bytes r t) (listing_head Escape (escape_form d.problem) d bytes k u) in
      let bad : ◌≡◌ {A = Claim} Mate Escape = ap (λ (title : Title). title.claim) one.0 in
      cc

  -- No two certificates that can be read have one text.
  pub texts_apart : (a b : Certificate) (bytes : List ℕ) → IsReadable a → IsReadable b → IsTextOf a bytes → IsTextOf b bytes → a ≡ b
  texts_apart (certificates.Mate c) (certificates.Mate d) bytes r k t u = ap (λ (m : Mating). certificates.Mate m) (one_mate d c bytes k u r t)
  texts_apart (certificates.Escape c) (certificates.Escape d) bytes r k t u = ap (λ (m : Escaping). certificates.Escape m) (one_escape d c bytes k u r t)
  texts_apart (certificates.Mate c) (certificates.Escape d) bytes r k t u = absurd (claims_apart c d bytes r t k u)
  texts_apart (certificates.Escape c) (certificates.Mate d) bytes r k t u = absurd (claims_apart d c bytes k u r t)

  -- A certificate's text has no fault.
  pub no_first_fault : (c : Certificate) (bytes : List ℕ) (fault : CertFault) → IsReadable c → IsTextOf c bytes → HasFirstFault bytes fault → ⊥
  no_first_fault (certificates.Mate c) bytes fault r t h = elim (later_of bytes fault h) [
    | inl head ↦ (subst (HasFirstFault bytes) head h) (title_of Mate c) (length c.entries) c.problem (entries_text (mate_form c.problem) c.entries ++ end_line)
        (record { head = listing_head Mate (mate_form c.problem) c bytes r t; kept = r.kept; is_problem = r.is_problem })
    | inr later ↦ listing_no_fault Mate (mate_form c.problem) (mate_told laws c.problem) c bytes fault (λ rest f. f) r t later
  ]
  no_first_fault (certificates.Escape c) bytes fault r t h = elim (later_of bytes fault h) [
    | inl head ↦ (subst (HasFirstFault bytes) head h) (title_of Escape c) (length c.entries) c.problem (entries_text (escape_form c.problem) c.entries ++ end_line)
        (record { head = listing_head Escape (escape_form c.problem) c bytes r t; kept = r.kept; is_problem = r.is_problem })
    | inr later ↦ listing_no_fault Escape (escape_form c.problem) (escape_told laws c.problem) c bytes fault (λ rest f. f) r t later
  ]

  -- A certificate that can be read is read, where the text is its.
  pub read_again : (c : Certificate) (bytes : List ℕ) (outcome : Result Certificate CertEnd) → IsReadable c → IsTextOf c bytes → IsCertificateOutcome bytes outcome → IsReadAs c outcome
  read_again c bytes (Ok d) r t h = texts_apart d c bytes h.0 r h.1 t
  read_again c bytes (Err (ends.Fault fault)) r t h = no_first_fault c bytes fault r t h
  read_again c bytes (Err ends.NoMemory) r t h = tt

  -- ---- faults

  behind_same : (claim : Claim) (count : ℕ) (problem : Board) (rest : List ℕ) (one two : CertFault) → HasFaultBehind claim count problem rest one → HasFaultBehind claim count problem rest two → one ≡ two
  behind_same Mate count problem rest one two h k = one_fault (mate_form problem) (mate_told laws problem) count rest one two h k
  behind_same Escape count problem rest one two h k = one_fault (escape_form problem) (escape_told laws problem) count rest one two h k

  later_same : (bytes : List ℕ) (one two : CertFault) → HasLaterFault bytes one → HasLaterFault bytes two → one ≡ two
  later_same bytes one two h k =
      let heads = one_head k.title h.title k.count h.count (sfen_of k.problem) (sfen_of h.problem) k.rest h.rest bytes k.begins.head h.begins.head in
      behind_same h.title.claim h.count h.problem h.rest one two h.later
      (moved k.title h.title k.count h.count k.problem h.problem k.rest h.rest two heads.0 heads.1 (laws.apart k.problem h.problem k.begins.kept h.begins.kept heads.2) heads.3 k.later)

  -- A text has one first fault at most.
  pub first_same : (bytes : List ℕ) (one two : CertFault) → HasFirstFault bytes one → HasFirstFault bytes two → one ≡ two
  first_same bytes one two h k = elim (later_of bytes one h) [
    | inl head ↦ elim (later_of bytes two k) [ inl other ↦ head ∙ sym other | inr later ↦ absurd (no_head_later bytes one two h head later) ]
    | inr mine ↦ elim (later_of bytes two k) [ inl other ↦ absurd (no_head_later bytes two one k other mine) | inr later ↦ later_same bytes one two mine later ]
  ]

  -- A fault that is a text's first one is the outcome to it.
  pub read_fault : (fault : CertFault) (bytes : List ℕ) (outcome : Result Certificate CertEnd) → HasFirstFault bytes fault → IsCertificateOutcome bytes outcome → IsFaultAs fault outcome
  read_fault fault bytes (Ok c) first h = no_first_fault c bytes fault h.0 h.1 first
  read_fault fault bytes (Err (ends.Fault found)) first h = first_same bytes found fault h first
  read_fault fault bytes (Err ends.NoMemory) first h = tt
