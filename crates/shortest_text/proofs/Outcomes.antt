-- The outcome to a text, from what was read of its parts.
use Rattle.std.proofs.Common.{inl, inr, ◌≡◌, ◌≢◌, ℕ, List, [], ◌∷◌, ◌++◌, refl, sym, ap, subst, ◌∙◌, append_assoc}
use Rattle.std.specs.Prelude.{codes, Result, Ok, Err}
use Rattle.std.specs.Result.{IsErr, IsErrAnd}
use Rattle.std.specs.Fmt.{decimal}
use Rattle.board_core.specs.Board.{Board}
use Rattle.board_core.specs.Kept.{IsKept}
use Rattle.shogi_rules.specs.Tsume.{IsProblem}
use Rattle.mate_facts.specs.declared.rank.Rank.{Rank}
use Rattle.cert_text.specs.Entries.{line, problem_line}
use Rattle.cert_text.specs.Certificate.{CertificateView, Mating}
use Rattle.cert_text.specs.Text.{certificate_text}
use Rattle.cert_text.specs.declared.certificate.Certificate.TheVariants as certificates
use Rattle.cert_text.specs.declared.fault.CertFault.{CertFault}
use Rattle.cert_text.specs.declared.fault.CertFault.TheVariants.{BadHead, BadLine, NotRising, WrongCount, NoEnd}
use Rattle.cert_text.specs.declared.fault.CertEnd.{CertEnd}
use Rattle.cert_text.specs.declared.fault.CertEnd.TheVariants as cert_ends
use Rattle.cert_text.specs.declared.head.Claim.TheVariants.{Mate}
use Rattle.cert_text.specs.Reading.{Lacks, IsFrontLine, IsReadableOf}
use Rattle.cert_text.specs.Reading as certs
use Rattle.cert_text.proofs.Offered.{line_cut, not_lacks, first_line_is}
use Rattle.bound_text.specs.declared.entry.BoundEntry.{BoundEntry}
use Rattle.bound_text.specs.declared.fault.BoundEnd.{BoundEnd}
use Rattle.bound_text.specs.declared.fault.BoundEnd.TheVariants as bound_ends
use Rattle.bound_text.specs.Reading as bounds
use Rattle.bound_text.specs.Reading.{IsBoundOutcome}
use Rattle.shortest_text.specs.declared.text.ShortestText.{ShortestText}
use Rattle.shortest_text.specs.declared.text.ShortestText.TheVariants.{Found, NoneWithin}
use Rattle.shortest_text.specs.declared.fault.ShortestEnd.{ShortestEnd}
use Rattle.shortest_text.specs.Ends.{end_of_certificate, end_of_bound}
use Rattle.shortest_text.specs.Text.{shortest_line, none_line, found_text}
use Rattle.cert_text.specs.UpToEnd.{IsUpToEnd}
use Rattle.shortest_text.specs.Reading.{BeginsNone, IsOfOne, HasBadHead, HasBadCertificate, HasFound, IsShortestOutcome}
use Rattle.shortest_text.specs.Scan.{IsMateOutcome}
use Rattle.shortest_text.proofs.Parts.{front_lacks, number_lacks, one_number, none_lacks}
use Rattle.shortest_text.proofs.Again.{found_parts, found_or_none}

-- what is passed on as it came is the same outcome
pub err_read : (bytes : List ℕ) (outcome : Result ShortestText ShortestEnd) (end : ShortestEnd) → IsErr outcome → IsErrAnd outcome (λ found. found ≡ end)
    → IsShortestOutcome bytes (Err end) → IsShortestOutcome bytes outcome
err_read bytes (Ok b) end is same h = absurd (cc)
err_read bytes (Err found) end is same h = subst (λ (e : ShortestEnd). IsShortestOutcome bytes (Err e)) (sym same) h

-- ---- a shortest mate

module _ (front : List ℕ) (rank : Rank) (own rest text : List ℕ) (lack : Lacks 10 front) (no_limit : (limit : Rank) → line front ≢ none_line limit)
    (parts : text ≡ own ++ rest) (up : IsUpToEnd own rest) where
  abbrev whole : List ℕ
  whole = line front ++ (shortest_line rank ++ text)

  whole_is : whole ≡ found_text front rank own rest
  whole_is = ap (λ (t : List ℕ). line front ++ (shortest_line rank ++ t)) parts

  not_none : (limit : Rank) (problem : Board) (bound : List ℕ) → ¬ BeginsNone limit problem bound whole
  not_none limit problem bound k =
      let cut = line_cut front (codes "none within " ++ decimal limit.number) (shortest_line rank ++ text) (problem_line problem ++ bound) lack
      (number_lacks (codes "none within ") limit none_lacks) k.text in
      no_limit limit (ap line cut.0)

  bad_head : (IsFrontLine Mate front → IsOfOne own → certs.HasFirstFault (line front ++ own) BadHead) → HasBadHead whole
  bad_head h = record {
    not_none = not_none;
    bad_head = λ as_front as_rank certificate bound begins of_one.
        let same = found_parts as_front as_rank certificate bound front rank own rest whole begins lack up whole_is in
        subst (λ (f : List ℕ). certs.HasFirstFault (line f ++ certificate) BadHead) (sym same.fronts)
        (subst (λ (c : List ℕ). certs.HasFirstFault (line front ++ c) BadHead) (sym same.certificates)
        (h (subst (IsFrontLine Mate) same.fronts begins.is_front) (subst IsOfOne same.certificates of_one)));
  }

  bad_certificate : (fault : CertFault) → IsFrontLine Mate front → IsOfOne own → certs.HasFirstFault (line front ++ own) fault → HasBadCertificate whole fault
  bad_certificate fault is of_one h = record {
    front = front;
    rank = rank;
    certificate = own;
    bound = rest;
    begins = record { is_front = is; up_to_end = up; text = whole_is };
    of_one = of_one;
    has_fault = h;
  }

  pub certificate_ends : (end : CertEnd) → IsMateOutcome front own (Err end) → IsShortestOutcome whole (Err (end_of_certificate end))
  certificate_ends (cert_ends.Fault BadHead) h = bad_head h
  certificate_ends (cert_ends.Fault (BadLine number)) h = bad_certificate (BadLine number) h.0 h.1 h.2
  certificate_ends (cert_ends.Fault (NotRising number)) h = bad_certificate (NotRising number) h.0 h.1 h.2
  certificate_ends (cert_ends.Fault WrongCount) h = bad_certificate WrongCount h.0 h.1 h.2
  certificate_ends (cert_ends.Fault NoEnd) h = bad_certificate NoEnd h.0 h.1 h.2
  certificate_ends cert_ends.NoMemory h = tt

  has_found : (c : Mating) → IsMateOutcome front own (Ok c) → HasFound rank c rest whole
  has_found c h = record {
    version = h.1.2;
    readable = h.1.0;
    front = front;
    is_front = h.0;
    text = whole_is ∙ ap (λ (t : List ℕ). found_text front rank t rest) h.1.1;
  }

  pub bound_ends_found : (c : Mating) (p : Board) (end : BoundEnd) → IsMateOutcome front own (Ok c) → p ≡ c.problem → IsBoundOutcome p rest (Err end)
      → IsShortestOutcome whole (Err (end_of_bound end))
  bound_ends_found c p (bound_ends.Fault fault) h same k = record { problem = p; bound = rest; left = inl (rank, c, sym same, has_found c h); has_fault = k }
  bound_ends_found c p bound_ends.NoMemory h same k = tt

  pub found_read : (c : Mating) (p : Board) (b : CertificateView BoundEntry) → IsMateOutcome front own (Ok c) → p ≡ c.problem → IsBoundOutcome p rest (Ok b)
      → IsShortestOutcome whole (Ok (Found rank c b))
  unfolding has_found
  found_read c p b h same k = (
    (h.1.0, subst (λ (q : Board). bounds.IsReadable q b) same k.0, h.1.2),
    (front, h.0, (has_found c h).text ∙ ap (λ (t : List ℕ). found_text front rank (certificate_text (certificates.Mate c)) t) k.1),
  )

-- ---- no mate within a limit

module _ (limit : Rank) (text : List ℕ) where
  pub no_problem : ((p : Board) (rest : List ℕ) → IsKept p → IsProblem p → text ≡ problem_line p ++ rest → ⊥) → HasBadHead (none_line limit ++ text)
  no_problem none = record {
    not_none = λ as_limit p bound k.
        none p bound k.kept k.is_problem (one_number (codes "none within ") limit as_limit text (problem_line p ++ bound) none_lacks k.text).1;
    bad_head = λ front rank certificate bound begins _. absurd (found_or_none front rank certificate bound limit text (none_line limit ++ text) begins refl);
  }

  module _ (p : Board) (rest : List ℕ) (kept : IsKept p) (is : IsProblem p) (at : text ≡ problem_line p ++ rest) where
    none_begins : BeginsNone limit p rest (none_line limit ++ text)
    none_begins = record { kept = kept; is_problem = is; text = ap (λ (t : List ℕ). none_line limit ++ t) at }

    pub bound_ends_none : (end : BoundEnd) → IsBoundOutcome p rest (Err end) → IsShortestOutcome (none_line limit ++ text) (Err (end_of_bound end))
    bound_ends_none (bound_ends.Fault fault) k = record { problem = p; bound = rest; left = inr (limit, none_begins); has_fault = k }
    bound_ends_none bound_ends.NoMemory k = tt

    pub none_read : (b : CertificateView BoundEntry) → IsBoundOutcome p rest (Ok b) → IsShortestOutcome (none_line limit ++ text) (Ok (NoneWithin limit b))
    none_read b k = (
      (subst IsKept (sym k.0.same) kept, subst IsProblem (sym k.0.same) is, subst (λ (q : Board). bounds.IsReadable q b) (sym k.0.same) k.0),
      ap (λ (t : List ℕ). none_line limit ++ t) (at ∙ (ap (λ (q : Board). problem_line q ++ rest) (sym k.0.same) ∙ ap (λ (t : List ℕ). problem_line b.problem ++ t) k.1)),
    )

-- ---- neither

-- No limit is told in the first line.
abbrev pub HasNoLimit : List ℕ → Type 0
HasNoLimit bytes = (limit : Rank) (rest : List ℕ) → bytes ≡ none_line limit ++ rest → ⊥

pub lone_line : (bytes : List ℕ) → HasNoLimit bytes → Lacks 10 bytes → HasBadHead bytes
lone_line bytes none lack = record {
  not_none = λ limit p bound k. none limit (problem_line p ++ bound) k.text;
  bad_head = λ front rank certificate bound k _.
      absurd (not_lacks 10 front (shortest_line rank ++ (certificate ++ bound))
      (subst (Lacks 10) (k.text ∙ append_assoc front (10 ∷ []) (shortest_line rank ++ (certificate ++ bound))) lack));
}

pub no_rank : (bytes front rest : List ℕ) → HasNoLimit bytes → bytes ≡ front ++ 10 ∷ rest → Lacks 10 front
    → ((rank : Rank) (more : List ℕ) → rest ≡ shortest_line rank ++ more → ⊥) → HasBadHead bytes
no_rank bytes front rest none p lack no_number = record {
  not_none = λ limit q bound k. none limit (problem_line q ++ bound) k.text;
  bad_head = λ as_front rank certificate bound k _.
      absurd (no_number rank (certificate ++ bound)
      (first_line_is bytes front rest as_front (shortest_line rank ++ (certificate ++ bound)) p lack (front_lacks Mate as_front k.is_front) k.text).1);
}

-- The front line tells no limit.
pub front_no_limit : (bytes front rest : List ℕ) → HasNoLimit bytes → bytes ≡ front ++ 10 ∷ rest → (limit : Rank) → line front ≢ none_line limit
front_no_limit bytes front rest none p limit e =
    none limit rest (p ∙ (sym (append_assoc front (10 ∷ []) rest) ∙ ap (λ (t : List ℕ). t ++ rest) e))

pub whole_line : (bytes front rest : List ℕ) (rank : Rank) (more : List ℕ) → bytes ≡ front ++ 10 ∷ rest → rest ≡ shortest_line rank ++ more
    → line front ++ (shortest_line rank ++ more) ≡ bytes
whole_line bytes front rest rank more p q =
    append_assoc front (10 ∷ []) (shortest_line rank ++ more) ∙ sym (p ∙ ap (λ (t : List ℕ). front ++ 10 ∷ t) q)
