-- A text is cut in one way at its first line `end`, and that is where a certificate's ends.
use Rattle.std.proofs.Common.{inl, inr, ◌⊎◌, ◌≡◌, ◌≢◌, ◌-◌, ℕ, List, [], ◌∷◌, ◌++◌, length, take, get_or, refl, sym, ap, subst, ◌∙◌, append_assoc, arith}
use Rattle.std.specs.Prelude.{codes}
use Rattle.std.specs.List.{AllByRecursion, flat_map}
use Rattle.std.specs.Fmt.{decimal}
use Rattle.std.proofs.lemmas.List.{append-nil, flat_map_more, length-append}
use Rattle.std.proofs.Math.Seq.{take-append_seam}
use Rattle.hand_dominance.specs.declared.version.Version.{Version}
use Rattle.hand_dominance.specs.declared.version.Version.TheVariants.{One, Two}
use Rattle.board_core.specs.Board.{Board}
use Rattle.board_core.specs.Kept.{IsKept}
use Rattle.sfen_text.specs.Spelling.{sfen_of}
use Rattle.sfen_text.specs.Laws.{TextsAreLines}
use Rattle.cert_text.specs.Entries.{line}
use Rattle.cert_text.specs.Certificate.{CertificateView, Form, MayBeListed, mate_form, escape_form}
use Rattle.cert_text.specs.Text.{claim_word, version_front, claim_text, title_text, title_of, entries_text, end_line, listing_text, certificate_text}
use Rattle.cert_text.specs.declared.certificate.Certificate.{Certificate}
use Rattle.cert_text.specs.declared.certificate.Certificate.TheVariants as certificates
use Rattle.cert_text.specs.declared.head.Claim.{Claim}
use Rattle.cert_text.specs.declared.head.Claim.TheVariants.{Mate, Escape}
use Rattle.cert_text.specs.declared.head.Title.{Title}
use Rattle.cert_text.specs.Reading.{Lacks, IsReadCount, IsReadableOf, IsReadable}
use Rattle.cert_text.specs.UpToEnd.{IsOther, IsUpToEnd}
use Rattle.cert_text.proofs.Cuts.{all_push, lacks_both, lacks_by, not_lacks, decimal_lacks, sfen_lacks}
use Rattle.cert_text.proofs.Again.{IsEntryLine, line_cut, mate_line_of, escape_line_of}

-- What comes behind the lines before the first line `end`: that line, or no further line and
-- nothing behind it.
abbrev IsTail : List ℕ → List ℕ → Type 0
IsTail tail rest = (tail ≡ end_line) ⊎ (Lacks 10 tail × (rest ≡ []))

record HasTail (others : List (List ℕ)) (text rest : List ℕ) : Type 0 where
  pub tail : List ℕ
  pub is_tail : IsTail tail rest
  pub text_is : text ≡ flat_map line others ++ tail

tail_of : (text rest : List ℕ) → (up : IsUpToEnd text rest) → HasTail up.others text rest
tail_of text rest up = elim up.ends [
  | inl at ↦ record { tail = end_line; is_tail = inl refl; text_is = at }
  | inr at ↦ record { tail = at.0; is_tail = inr (at.1, at.3); text_is = at.2 }
]

end_lacks : Lacks 10 (codes "end")
end_lacks = lacks_by 10 (codes "end") refl

-- a text without a line feed doesn't begin with a line
no_line : (text words more : List ℕ) → Lacks 10 text → text ≡ line words ++ more → ⊥
no_line text words more lack e = not_lacks 10 words more (subst (Lacks 10) (e ∙ append_assoc words (10 ∷ []) more) lack)

lacks_nil : (text rest : List ℕ) → Lacks 10 text → rest ≡ [] → Lacks 10 (text ++ rest)
lacks_nil text rest lack e = subst (Lacks 10) (sym (ap (λ (r : List ℕ). text ++ r) e ∙ append-nil text)) lack

-- where one text ends no other line goes on
tail_no_line : (tail rest words more : List ℕ) → IsTail tail rest → IsOther words → tail ++ rest ≡ line words ++ more → ⊥
tail_no_line tail rest words more (inl at) other e =
    let parts = line_cut (codes "end") words rest more end_lacks other.0 (ap (λ (t : List ℕ). t ++ rest) (sym at) ∙ e) in
    other.1 (sym parts.0)
tail_no_line tail rest words more (inr at) other e = no_line (tail ++ rest) words more (lacks_nil tail rest at.0 at.1) e

one_tail : (tail rest other left : List ℕ) → IsTail tail rest → IsTail other left → tail ++ rest ≡ other ++ left → (tail ≡ other) × (rest ≡ left)
one_tail tail rest other left (inl at) (inl by) e =
    let parts = line_cut (codes "end") (codes "end") rest left end_lacks end_lacks (ap (λ (t : List ℕ). t ++ rest) (sym at) ∙ (e ∙ ap (λ (t : List ℕ). t ++ left) by)) in
    (at ∙ sym by, parts.1)
one_tail tail rest other left (inl at) (inr by) e =
    absurd (no_line (other ++ left) (codes "end") rest (lacks_nil other left by.0 by.1) (sym e ∙ ap (λ (t : List ℕ). t ++ rest) at))
one_tail tail rest other left (inr at) (inl by) e =
    absurd (no_line (tail ++ rest) (codes "end") left (lacks_nil tail rest at.0 at.1) (e ∙ ap (λ (t : List ℕ). t ++ left) by))
one_tail tail rest other left (inr at) (inr by) e = (
  sym (ap (λ (r : List ℕ). tail ++ r) at.1 ∙ append-nil tail) ∙ (e ∙ (ap (λ (r : List ℕ). other ++ r) by.1 ∙ append-nil other)),
  at.1 ∙ sym by.1,
)

regroup : (words lines tail rest : List ℕ) → ((line words ++ lines) ++ tail) ++ rest ≡ line words ++ ((lines ++ tail) ++ rest)
regroup words lines tail rest = ap (λ (t : List ℕ). t ++ rest) (append_assoc (line words) lines tail) ∙ append_assoc (line words) (lines ++ tail) rest

one_cut : (os ps : List (List ℕ)) (tail rest other left : List ℕ) → AllByRecursion IsOther os → AllByRecursion IsOther ps → IsTail tail rest → IsTail other left
    → (flat_map line os ++ tail) ++ rest ≡ (flat_map line ps ++ other) ++ left → (flat_map line os ++ tail ≡ flat_map line ps ++ other) × (rest ≡ left)
one_cut [] [] tail rest other left p q t u e = one_tail tail rest other left t u e
one_cut [] (w ∷ ws) tail rest other left p q t u e =
    absurd (tail_no_line tail rest w ((flat_map line ws ++ other) ++ left) t q.0 (e ∙ regroup w (flat_map line ws) other left))
one_cut (v ∷ vs) [] tail rest other left p q t u e =
    absurd (tail_no_line other left v ((flat_map line vs ++ tail) ++ rest) u p.0 (sym e ∙ regroup v (flat_map line vs) tail rest))
one_cut (v ∷ vs) (w ∷ ws) tail rest other left p q t u e =
    let parts = line_cut v w ((flat_map line vs ++ tail) ++ rest) ((flat_map line ws ++ other) ++ left) p.0.0 q.0.0
    (sym (regroup v (flat_map line vs) tail rest) ∙ (e ∙ regroup w (flat_map line ws) other left)) in
    let more = one_cut vs ws tail rest other left p.1 q.1 t u parts.1 in (
      append_assoc (line v) (flat_map line vs) tail ∙ (ap (λ (x : List ℕ). line x ++ (flat_map line vs ++ tail)) parts.0
          ∙ (ap (λ (x : List ℕ). line w ++ x) more.0 ∙ sym (append_assoc (line w) (flat_map line ws) other))),
      more.1,
    )

pub same_cut : (text rest other left : List ℕ) → IsUpToEnd text rest → IsUpToEnd other left → text ++ rest ≡ other ++ left → (text ≡ other) × (rest ≡ left)
same_cut text rest other left h k e =
    let one = tail_of text rest h in
    let two = tail_of other left k in
    let parts = one_cut h.others k.others one.tail rest two.tail left h.none_is_end k.none_is_end one.is_tail two.is_tail
    (ap (λ (t : List ℕ). t ++ rest) (sym one.text_is) ∙ (e ∙ ap (λ (t : List ℕ). t ++ left) two.text_is)) in
    (one.text_is ∙ (parts.0 ∙ sym two.text_is), parts.1)

-- ---- reading lines up to the first line `end`

-- Lines other than `end` were read, and the rest is still to be read.
pub record HasPassed (text rest : List ℕ) : Type 0 where
  pub others : List (List ℕ)
  pub none_is_end : AllByRecursion IsOther others
  pub so_far : text ≡ flat_map line others ++ rest

pub passed_none : (text : List ℕ) → HasPassed text text
passed_none text = record { others = []; none_is_end = tt; so_far = refl }

pub passed_more : (text rest words more : List ℕ) → HasPassed text rest → rest ≡ words ++ 10 ∷ more → Lacks 10 words → words ≢ codes "end" → HasPassed text more
passed_more text rest words more passed p lack not = record {
  others = passed.others ++ words ∷ [];
  none_is_end = all_push IsOther passed.others words passed.none_is_end (lack, not);
  so_far = passed.so_far ∙ (ap (λ (t : List ℕ). flat_map line passed.others ++ t) (p ∙ sym (append_assoc words (10 ∷ []) more))
      ∙ (sym (append_assoc (flat_map line passed.others) (line words) more) ∙ ap (λ (t : List ℕ). t ++ more) (flat_map_more line [] passed.others words)));
}

-- no further line comes
pub passed_all : (text rest : List ℕ) → HasPassed text rest → Lacks 10 rest → IsUpToEnd text []
passed_all text rest passed lack = record {
  others = passed.others;
  none_is_end = passed.none_is_end;
  ends = inr (rest, lack, passed.so_far, refl);
}

-- the line `end` comes
pub passed_end : (text rest words more : List ℕ) → HasPassed text rest → rest ≡ words ++ 10 ∷ more → words ≡ codes "end"
    → (own : List ℕ) × (text ≡ own ++ more) × IsUpToEnd own more
passed_end text rest words more passed p is = (
  flat_map line passed.others ++ end_line,
  passed.so_far ∙ (ap (λ (t : List ℕ). flat_map line passed.others ++ t) (p ∙ ap (λ (t : List ℕ). t ++ 10 ∷ more) is) ∙ sym (append_assoc (flat_map line passed.others) end_line more)),
  record { others = passed.others; none_is_end = passed.none_is_end; ends = inl refl },
)

-- what stands before is as long as the text without what comes behind
pub front_taken : (text own more : List ℕ) → text ≡ own ++ more → take (length text - length more) text ≡ own
front_taken text own more p =
    let whole = ap length p in
    let same : length text - length more ≡ length own = omega (arith, length-append own more) in
    ap (λ (k : ℕ). take k text) same ∙ (ap (λ (t : List ℕ). take (length own) t) p ∙ take-append_seam own more)

-- ---- a certificate's text

version_lacks : (version : Version) → Lacks 10 (version_front version)
version_lacks One = lacks_by 10 (version_front One) refl
version_lacks Two = lacks_by 10 (version_front Two) refl

claim_lacks : (claim : Claim) → Lacks 10 (claim_word claim)
claim_lacks Mate = lacks_by 10 (codes "mate") refl
claim_lacks Escape = lacks_by 10 (codes "escape") refl

version_other : (version : Version) (more : List ℕ) → version_front version ++ more ≢ codes "end"
version_other One more e = let bad : ◌≡◌ {A = ℕ} 99 101 = ap (λ (t : List ℕ). get_or t 0 0) e in omega (arith, bad)
version_other Two more e = let bad : ◌≡◌ {A = ℕ} 99 101 = ap (λ (t : List ℕ). get_or t 0 0) e in omega (arith, bad)

title_other : (title : Title) (count : ℕ) → IsReadCount count → IsOther (title_text title count)
title_other title count is = (
  lacks_both 10 (version_front title.version) (claim_text title.claim count) (version_lacks title.version)
      (lacks_both 10 (claim_word title.claim) (32 ∷ decimal count) (claim_lacks title.claim)
      ((λ (e : 32 ≡ 10). omega arith), decimal_lacks 10 count (omega arith) (omega (arith, is.1)))),
  version_other title.version (claim_text title.claim count),
)

problem_other : TextsAreLines → (p : Board) → IsKept p → IsOther (codes "problem " ++ sfen_of p)
problem_other lines p kept = (
  lacks_both 10 (codes "problem ") (sfen_of p) (lacks_by 10 (codes "problem ") refl) (sfen_lacks lines p kept),
  (λ e. let bad : ◌≡◌ {A = ℕ} 112 101 = ap (λ (t : List ℕ). get_or t 0 0) e in omega (arith, bad)),
)

-- The texts of entries are lines other than `end`.
record AreOthers (text : List ℕ) : Type 0 where
  others : List (List ℕ)
  none_is_end : AllByRecursion IsOther others
  text_is : text ≡ flat_map line others

entries_others : {Entry : Type 0} (form : Form Entry) → ((entry : Entry) → MayBeListed form entry → IsEntryLine (form.text_of entry)) → (entries : List Entry)
    → AllByRecursion (MayBeListed form) entries → AreOthers (entries_text form entries)
entries_others form told [] all = record { others = []; none_is_end = tt; text_is = refl }
entries_others form told (entry ∷ entries) all =
    let own = told entry all.0 in
    let more = entries_others form told entries all.1 in
    record {
      others = own.inside ∷ more.others;
      none_is_end = ((own.lacks, own.no_end), more.none_is_end);
      text_is = ap (λ (t : List ℕ). t ++ entries_text form entries) own.is_line ∙ ap (λ (t : List ℕ). line own.inside ++ t) more.text_is;
    }

three_parts : (a b t e s : List ℕ) → t ≡ s → ((a ++ b) ++ t) ++ e ≡ (a ++ (b ++ s)) ++ e
three_parts a b t e s same = ap (λ (x : List ℕ). x ++ e) (append_assoc a b t ∙ ap (λ (x : List ℕ). a ++ (b ++ x)) same)

listing_ends : {Entry : Type 0} (claim : Claim) (form : Form Entry) → TextsAreLines → ((entry : Entry) → MayBeListed form entry → IsEntryLine (form.text_of entry))
    → (c : CertificateView Entry) (behind : List ℕ) → IsReadableOf form c → IsUpToEnd (listing_text claim form c) behind
listing_ends claim form lines told c behind readable =
    let title = title_text (title_of claim c) (length c.entries) in
    let problem = codes "problem " ++ sfen_of c.problem in
    let more = entries_others form told c.entries readable.good.fit in
    record {
      others = title ∷ problem ∷ more.others;
      none_is_end = (title_other (title_of claim c) (length c.entries) readable.count, (problem_other lines c.problem readable.kept, more.none_is_end));
      ends = inl (three_parts (line title) (line problem) (entries_text form c.entries) end_line (flat_map line more.others) more.text_is);
    }

-- The text of a certificate that can be read goes up to its first line `end`.
pub ends_at_end : TextsAreLines → (c : Certificate) (behind : List ℕ) → IsReadable c → IsUpToEnd (certificate_text c) behind
ends_at_end lines (certificates.Mate c) behind readable = listing_ends Mate (mate_form c.problem) lines (mate_line_of lines c.problem) c behind readable
ends_at_end lines (certificates.Escape c) behind readable = listing_ends Escape (escape_form c.problem) lines (escape_line_of lines c.problem) c behind readable
