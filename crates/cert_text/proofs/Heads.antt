-- A text begins with one head at most.
use Rattle.std.proofs.Common.{inl, inr, ◌≡◌, ◌⊎◌, ◌≤◌, ℕ, List, [], ◌∷◌, ◌++◌, refl, sym, ap, subst, ◌∙◌, append_assoc, arith}
use Rattle.std.specs.Prelude.{codes, Option, Some, None, true, false}
use Rattle.std.specs.Option.{is_some}
use Rattle.std.proofs.lemmas.List.{flat_map_more, length-append}
use Rattle.std.specs.List.{flat_map}
use Rattle.std.specs.Fmt.{decimal}
use Rattle.std.proofs.lemmas.Fmt.{decimal_injective}
use Rattle.hand_dominance.specs.declared.version.Version.{Version}
use Rattle.hand_dominance.specs.declared.version.Version.TheVariants.{One, Two}
use Rattle.board_core.specs.declared.moves.Move.{Move}
use Rattle.board_core.specs.Text.{HasText}
use Rattle.usi_text.specs.MoveText.{move_text, IsRead}
use Rattle.usi_text.specs.Lines.{spaced_move, mate_text, nomate_text, AllHaveText}
use Rattle.cert_text.specs.declared.limits.TheConstants.{MOST_ENTRIES}
use Rattle.cert_text.specs.Entries.{line}
use Rattle.cert_text.specs.Text.{version_front, claim_text, title_text}
use Rattle.cert_text.specs.declared.head.Claim.{Claim}
use Rattle.cert_text.specs.declared.head.Claim.TheVariants.{Mate, Escape}
use Rattle.cert_text.specs.declared.head.Title.{Title}
use Rattle.cert_text.specs.Reading.{Lacks, IsFrontLine, IsReadCount, headed_text, IsHead}
use Rattle.cert_text.specs.Scan.{AreMoves}
use Rattle.cert_text.proofs.Cuts.{all_push, lacks_both, not_lacks, cut_same, lacks_by, decimal_lacks, move_lacks, move_first}

-- ---- first lines

version_lacks : (version : Version) → Lacks 10 (version_front version)
version_lacks One = lacks_by 10 (version_front One) refl
version_lacks Two = lacks_by 10 (version_front Two) refl

claim_lacks : (claim : Claim) (count : ℕ) → IsReadCount count → Lacks 10 (claim_text claim count)
claim_lacks Mate count n = lacks_both 10 (codes "mate ") (decimal count) (lacks_by 10 (codes "mate ") refl) (decimal_lacks 10 count (omega arith) (omega (arith, n.1)))
claim_lacks Escape count n = lacks_both 10 (codes "escape ") (decimal count) (lacks_by 10 (codes "escape ") refl) (decimal_lacks 10 count (omega arith) (omega (arith, n.1)))

pub title_lacks : (title : Title) (count : ℕ) → IsReadCount count → Lacks 10 (title_text title count)
title_lacks title count n = lacks_both 10 (version_front title.version) (claim_text title.claim count) (version_lacks title.version) (claim_lacks title.claim count n)

-- The version in front of a text, and what stands behind it, are determined.
pub one_version : (v w : Version) (s t : List ℕ) → version_front v ++ s ≡ version_front w ++ t → (v ≡ w) × (s ≡ t)
one_version One One s t e = let same : s ≡ t = cc in (refl, same)
one_version Two Two s t e = let same : s ≡ t = cc in (refl, same)
one_version One Two s t e = let bad : ◌≡◌ {A = ℕ} 49 50 = cc in absurd (omega (arith, bad))
one_version Two One s t e = let bad : ◌≡◌ {A = ℕ} 50 49 = cc in absurd (omega (arith, bad))

one_claim : (a b : Claim) (m n : ℕ) → IsReadCount m → IsReadCount n → claim_text a m ≡ claim_text b n → (a ≡ b) × (m ≡ n)
one_claim Mate Mate m n p q e = let same : decimal m ≡ decimal n = cc in (refl, decimal_injective m n (omega (arith, p.1)) (omega (arith, q.1)) same)
one_claim Escape Escape m n p q e = let same : decimal m ≡ decimal n = cc in (refl, decimal_injective m n (omega (arith, p.1)) (omega (arith, q.1)) same)
one_claim Mate Escape m n p q e = let bad : ◌≡◌ {A = ℕ} 109 101 = cc in absurd (omega (arith, bad))
one_claim Escape Mate m n p q e = let bad : ◌≡◌ {A = ℕ} 101 109 = cc in absurd (omega (arith, bad))

title_same : (a b : Title) → a.version ≡ b.version → a.claim ≡ b.claim → a ≡ b
title_same a b v c = λ i. record { version = v i; claim = c i }

pub one_title : (a b : Title) (m n : ℕ) → IsReadCount m → IsReadCount n → title_text a m ≡ title_text b n → (a ≡ b) × (m ≡ n)
one_title a b m n p q e =
    let versions = one_version a.version b.version (claim_text a.claim m) (claim_text b.claim n) e in
    let claims = one_claim a.claim b.claim m n p q versions.1 in
    (title_same a b versions.0 claims.0, claims.1)

pub no_mate_claim : (text digits : List ℕ) → text ≡ codes "mate " ++ digits → ((n : ℕ) → 1 ≤ n → n ≤ MOST_ENTRIES → digits ≡ decimal n → ⊥) → (claim : Claim) (count : ℕ) → IsReadCount count → text ≡ claim_text claim count → ⊥
no_mate_claim text digits p none Mate count n e = let same : digits ≡ decimal count = cc in none count n.0 n.1 same
no_mate_claim text digits p none Escape count n e = let bad : ◌≡◌ {A = ℕ} 109 101 = cc in omega (arith, bad)

pub no_claim : (text : List ℕ) → ((rest : List ℕ) → text ≡ codes "mate " ++ rest → ⊥) → ((rest : List ℕ) → text ≡ codes "escape " ++ rest → ⊥) → (claim : Claim) (count : ℕ) → IsReadCount count → text ≡ claim_text claim count → ⊥
no_claim text m e Mate count n h = m (decimal count) h
no_claim text m e Escape count n h = e (decimal count) h

pub no_escape_claim : (text digits : List ℕ) → text ≡ codes "escape " ++ digits → ((n : ℕ) → 1 ≤ n → n ≤ MOST_ENTRIES → digits ≡ decimal n → ⊥) → (claim : Claim) (count : ℕ) → IsReadCount count → text ≡ claim_text claim count → ⊥
no_escape_claim text digits p none Escape count n e = let same : digits ≡ decimal count = cc in none count n.0 n.1 same
no_escape_claim text digits p none Mate count n e = let bad : ◌≡◌ {A = ℕ} 101 109 = cc in omega (arith, bad)

pub no_version : (text : List ℕ) → ((rest : List ℕ) → text ≡ codes "certificate 1 " ++ rest → ⊥) → ((rest : List ℕ) → text ≡ codes "certificate 2 " ++ rest → ⊥) → (version : Version) (rest : List ℕ) → text ≡ version_front version ++ rest → ⊥
no_version text o t One rest e = o rest e
no_version text o t Two rest e = t rest e

-- The claim behind a version that was found.
pub title_rest : (text rest : List ℕ) (version : Version) (title : Title) (count : ℕ) → text ≡ version_front version ++ rest → text ≡ title_text title count → rest ≡ claim_text title.claim count
title_rest text rest version title count p e = (one_version version title.version rest (claim_text title.claim count) (sym p ∙ e)).1

-- The first line of a head, and what stands behind it.
pub headed_cut : (text first more : List ℕ) (title : Title) (count : ℕ) (sfen rest : List ℕ) → text ≡ first ++ 10 ∷ more → Lacks 10 first → IsReadCount count → text ≡ headed_text title count sfen rest
    → (first ≡ title_text title count) × (more ≡ codes "problem " ++ (sfen ++ 10 ∷ rest))
headed_cut text first more title count sfen rest p lack n e =
    cut_same 10 first more (title_text title count) (codes "problem " ++ (sfen ++ 10 ∷ rest)) lack (title_lacks title count n) (sym p ∙ e)

pub problem_lacks : (sfen : List ℕ) → Lacks 10 sfen → Lacks 10 (codes "problem " ++ sfen)
problem_lacks sfen lack = lacks_both 10 (codes "problem ") sfen (lacks_by 10 (codes "problem ") refl) lack

-- The problem's line.
pub problem_cut : (more second behind sfen rest : List ℕ) → more ≡ second ++ 10 ∷ behind → Lacks 10 second → Lacks 10 sfen → more ≡ codes "problem " ++ (sfen ++ 10 ∷ rest)
    → (second ≡ codes "problem " ++ sfen) × (behind ≡ rest)
problem_cut more second behind sfen rest p lack is_line e =
    cut_same 10 second behind (codes "problem " ++ sfen) rest lack (problem_lacks sfen is_line) (sym p ∙ e)

-- Without a front line a text begins with one head at most.
pub one_bare : (a b : Title) (m n : ℕ) (s t x y : List ℕ) → IsReadCount m → IsReadCount n → Lacks 10 s → Lacks 10 t → headed_text a m s x ≡ headed_text b n t y → (a ≡ b) × (m ≡ n) × (s ≡ t) × (x ≡ y)
one_bare a b m n s t x y p q sl tl e =
    let first = headed_cut (headed_text a m s x) (title_text a m) (codes "problem " ++ (s ++ 10 ∷ x)) b n t y refl (title_lacks a m p) q e in
    let second = problem_cut (codes "problem " ++ (s ++ 10 ∷ x)) (codes "problem " ++ s) x t y refl (problem_lacks s sl) tl first.1 in
    let titles = one_title a b m n p q first.0 in
    let line : codes "problem " ++ s ≡ codes "problem " ++ t = second.0 in
    let same : s ≡ t = cc in
    (titles.0, titles.1, same, second.1)

-- ---- front lines

moves_lack : (ms : List Move) → Lacks 10 (flat_map spaced_move ms)
moves_lack [] = tt
moves_lack (m ∷ ms) = ((λ (e : 32 ≡ 10). omega arith), lacks_both 10 (move_text m) (flat_map spaced_move ms) (move_lacks 10 m (omega arith)) (moves_lack ms))

pub front_lacks : (claim : Claim) (text : List ℕ) → IsFrontLine claim text → Lacks 10 text
front_lacks Escape text h = subst (Lacks 10) (sym h) (lacks_by 10 nomate_text refl)
front_lacks Mate text h = subst (Lacks 10) (sym h.3) (lacks_both 10 (codes "checkmate") (flat_map spaced_move h.0) (lacks_by 10 (codes "checkmate") refl) (moves_lack h.0))

-- No front line is a first line.
pub front_apart : (claim : Claim) (other : Title) (count : ℕ) (text : List ℕ) → IsFrontLine claim text → text ≡ title_text other count → ⊥
front_apart claim other count text h e = by_version other.version (claim_text other.claim count) claim h e
  where
    by_version : (version : Version) (rest : List ℕ) (claim : Claim) → IsFrontLine claim text → text ≡ version_front version ++ rest → ⊥
    by_version One rest Escape h e = let t : nomate_text ≡ version_front One ++ rest = sym h ∙ e in let bad : ◌≡◌ {A = ℕ} 104 101 = cc in omega (arith, bad)
    by_version Two rest Escape h e = let t : nomate_text ≡ version_front Two ++ rest = sym h ∙ e in let bad : ◌≡◌ {A = ℕ} 104 101 = cc in omega (arith, bad)
    by_version One rest Mate h e = let t : mate_text h.0 ≡ version_front One ++ rest = sym h.3 ∙ e in let bad : ◌≡◌ {A = ℕ} 104 101 = cc in omega (arith, bad)
    by_version Two rest Mate h e = let t : mate_text h.0 ≡ version_front Two ++ rest = sym h.3 ∙ e in let bad : ◌≡◌ {A = ℕ} 104 101 = cc in omega (arith, bad)

nomate_apart : (ms : List Move) → nomate_text ≡ mate_text ms → ⊥
nomate_apart [] e = let bad : 32 ∷ codes "nomate" ≡ [] = cc in cc
nomate_apart (m ∷ ms) e = let bad : move_text m ++ flat_map spaced_move ms ≡ codes "nomate" = cc in move_first m (flat_map spaced_move ms) (codes "omate") bad

pub one_front : (a b : Claim) (text : List ℕ) → IsFrontLine a text → IsFrontLine b text → a ≡ b
one_front Mate Mate text p q = refl
one_front Escape Escape text p q = refl
one_front Mate Escape text p q = absurd (nomate_apart p.0 (sym q ∙ p.3))
one_front Escape Mate text p q = absurd (nomate_apart q.0 (sym p ∙ q.3))

-- What is behind the front word, seen from there.
pub moves_front : (text rest : List ℕ) → text ≡ codes "checkmate" ++ rest → AreMoves rest → IsFrontLine Mate text
moves_front text rest e h = (h.0, h.1, h.2, e ∙ ap (λ (t : List ℕ). codes "checkmate" ++ t) h.3)

pub front_moves : (text rest : List ℕ) → text ≡ codes "checkmate" ++ rest → IsFrontLine Mate text → AreMoves rest
front_moves text rest e h = let t : codes "checkmate" ++ rest ≡ mate_text h.0 = sym e ∙ h.3 in let same : rest ≡ flat_map spaced_move h.0 = cc in (h.0, h.1, h.2, same)

-- ---- moves, a space before each

pub record OneMove (word : List ℕ) : Type 0 where
  pub move : Move
  pub has_text : HasText move
  pub text : word ≡ move_text move

pub moves_cut : (rest word more : List ℕ) → rest ≡ word ++ 32 ∷ more → Lacks 32 word → AreMoves (32 ∷ rest) → OneMove word × AreMoves (32 ∷ more)
moves_cut rest word more e lack ([], lt, all, t) = absurd (omega arith)
moves_cut rest word more e lack (m ∷ [], lt, all, t) =
    let same : rest ≡ move_text m ++ [] = cc in
    absurd (not_lacks 32 word more (subst (Lacks 32) (sym same ∙ e) (lacks_both 32 (move_text m) [] (move_lacks 32 m (omega arith)) tt)))
moves_cut rest word more e lack (m ∷ n ∷ ms, lt, all, t) =
    let same : rest ≡ move_text m ++ 32 ∷ (move_text n ++ flat_map spaced_move ms) = cc in
    let parts = cut_same 32 word more (move_text m) (move_text n ++ flat_map spaced_move ms) lack (move_lacks 32 m (omega arith)) (sym e ∙ same) in
    (record { move = m; has_text = all.0; text = parts.0 }, (n ∷ ms, omega arith, all.1, ap (λ (u : List ℕ). 32 ∷ u) parts.1))

pub moves_last : (rest : List ℕ) → Lacks 32 rest → AreMoves (32 ∷ rest) → OneMove rest
moves_last rest lack ([], lt, all, t) = absurd (omega arith)
moves_last rest lack (m ∷ [], lt, all, t) =
    let same : rest ≡ move_text m ++ [] = cc in
    record { move = m; has_text = all.0; text = same ∙ append_nil (move_text m) } where
      append_nil : (xs : List ℕ) → xs ++ [] ≡ xs
      append_nil [] = refl
      append_nil (x ∷ xs) = ap (λ (ys : List ℕ). x ∷ ys) (append_nil xs)
moves_last rest lack (m ∷ n ∷ ms, lt, all, t) =
    let same : rest ≡ move_text m ++ 32 ∷ (move_text n ++ flat_map spaced_move ms) = cc in
    absurd (not_lacks 32 (move_text m) (move_text n ++ flat_map spaced_move ms) (subst (Lacks 32) same lack))

pub no_move_read : (word : List ℕ) (r : Option Move) → is_some r ≡ false → IsRead word r → OneMove word → ⊥
no_move_read word None e h one = h one.move one.has_text one.text
no_move_read word (Some m) e h one = absurd cc

pub some_read : (word : List ℕ) (r : Option Move) → is_some r ≡ true → IsRead word r → OneMove word
some_read word None e h = absurd cc
some_read word (Some m) e h = record { move = m; has_text = h.0; text = h.1 }

pub read_some : (word : List ℕ) (r : Option Move) → OneMove word → IsRead word r → is_some r ≡ true
read_some word None one h = absurd (h one.move one.has_text one.text)
read_some word (Some m) one h = refl

pub no_space : (text : List ℕ) → ((rest : List ℕ) → text ≡ 32 ∷ rest → ⊥) → AreMoves text → ⊥
no_space text none ([], lt, all, t) = omega arith
no_space text none (m ∷ ms, lt, all, t) = none (move_text m ++ flat_map spaced_move ms) t

pub moves_push : (text rest word more : List ℕ) (done : List Move) (m : Move) → text ≡ flat_map spaced_move done ++ 32 ∷ rest → rest ≡ word ++ 32 ∷ more → word ≡ move_text m
    → text ≡ flat_map spaced_move (done ++ m ∷ []) ++ 32 ∷ more
moves_push text rest word more done m p q e =
    p ∙ (ap (λ (r : List ℕ). flat_map spaced_move done ++ 32 ∷ r) (q ∙ ap (λ (w : List ℕ). w ++ 32 ∷ more) e)
    ∙ (sym (append_assoc (flat_map spaced_move done) (32 ∷ move_text m) (32 ∷ more)) ∙ ap (λ (t : List ℕ). t ++ 32 ∷ more) (flat_map_more spaced_move [] done m)))

pub moves_end : (text rest : List ℕ) (done : List Move) → text ≡ flat_map spaced_move done ++ 32 ∷ rest → AllHaveText done → OneMove rest → AreMoves text
moves_end text rest done p all one = (
  done ++ one.move ∷ [],
  omega (arith, length-append done (one.move ∷ [])),
  all_push HasText done one.move all one.has_text,
  p ∙ (ap (λ (r : List ℕ). flat_map spaced_move done ++ 32 ∷ r) one.text ∙ flat_map_more spaced_move [] done one.move),
)

-- ---- heads behind a front line or none

regroup : (xs ys : List ℕ) → (xs ++ 10 ∷ []) ++ ys ≡ xs ++ 10 ∷ ys
regroup xs ys = append_assoc xs (10 ∷ []) ys

-- A head behind the first line of a text: the line is its first one, or a front line.
pub head_cut : (title : Title) (count : ℕ) (sfen rest bytes first more : List ℕ) → bytes ≡ first ++ 10 ∷ more → Lacks 10 first → IsHead title count sfen rest bytes
    → ((bytes ≡ headed_text title count sfen rest) × (first ≡ title_text title count)) ⊎ (IsFrontLine title.claim first × (more ≡ headed_text title count sfen rest))
head_cut title count sfen rest bytes first more p lack h = elim h.is_front [
  | inl none ↦ (let t : bytes ≡ headed_text title count sfen rest = h.text ∙ ap (λ (f : List ℕ). f ++ headed_text title count sfen rest) none in
      inl (t, (headed_cut bytes first more title count sfen rest p lack h.is_count t).0))
  | inr some ↦ (let t : bytes ≡ some.0 ++ 10 ∷ headed_text title count sfen rest = h.text ∙ (ap (λ (f : List ℕ). f ++ headed_text title count sfen rest) some.2 ∙ regroup some.0 (headed_text title count sfen rest)) in
      let parts = cut_same 10 first more some.0 (headed_text title count sfen rest) lack (front_lacks title.claim some.0 some.1) (sym p ∙ t) in
      inr (subst (IsFrontLine title.claim) (sym parts.0) some.1, parts.1))
]

pub no_line : (title : Title) (count : ℕ) (sfen rest bytes : List ℕ) → Lacks 10 bytes → IsHead title count sfen rest bytes → ⊥
no_line title count sfen rest bytes lack h = elim h.is_front [
  | inl none ↦ (let t : bytes ≡ headed_text title count sfen rest = h.text ∙ ap (λ (f : List ℕ). f ++ headed_text title count sfen rest) none in
      not_lacks 10 (title_text title count) (codes "problem " ++ (sfen ++ 10 ∷ rest)) (subst (Lacks 10) t lack))
  | inr some ↦ (let t : bytes ≡ some.0 ++ 10 ∷ headed_text title count sfen rest = h.text ∙ (ap (λ (f : List ℕ). f ++ headed_text title count sfen rest) some.2 ∙ regroup some.0 (headed_text title count sfen rest)) in
      not_lacks 10 some.0 (headed_text title count sfen rest) (subst (Lacks 10) t lack))
]

pub bare_head : (title : Title) (count : ℕ) (sfen rest bytes : List ℕ) → IsReadCount count → Lacks 10 sfen → bytes ≡ headed_text title count sfen rest → IsHead title count sfen rest bytes
bare_head title count sfen rest bytes n lack e = record { is_count = n; is_line = lack; front = []; is_front = inl refl; text = e }

pub fronted_head : (title : Title) (count : ℕ) (sfen rest bytes first more : List ℕ) → bytes ≡ first ++ 10 ∷ more → IsFrontLine title.claim first → IsReadCount count → Lacks 10 sfen → more ≡ headed_text title count sfen rest → IsHead title count sfen rest bytes
fronted_head title count sfen rest bytes first more p front n lack e = record {
  is_count = n;
  is_line = lack;
  front = line first;
  is_front = inr (first, front, refl);
  text = p ∙ (ap (λ (t : List ℕ). first ++ 10 ∷ t) e ∙ sym (regroup first (headed_text title count sfen rest)));
}

-- A text begins with one head at most.
pub one_head : (a b : Title) (m n : ℕ) (s t x y bytes : List ℕ) → IsHead a m s x bytes → IsHead b n t y bytes → (a ≡ b) × (m ≡ n) × (s ≡ t) × (x ≡ y)
one_head a b m n s t x y bytes h k = elim h.is_front [
  | inl none ↦ (
      let u : bytes ≡ headed_text a m s x = h.text ∙ ap (λ (f : List ℕ). f ++ headed_text a m s x) none in
      elim (head_cut b n t y bytes (title_text a m) (codes "problem " ++ (s ++ 10 ∷ x)) u (title_lacks a m h.is_count) k) [
        | inl other ↦ one_bare a b m n s t x y h.is_count k.is_count h.is_line k.is_line (sym u ∙ other.0)
        | inr other ↦ absurd (front_apart b.claim a m (title_text a m) other.0 refl)
      ])
  | inr some ↦ (
      let u : bytes ≡ some.0 ++ 10 ∷ headed_text a m s x = h.text ∙ (ap (λ (f : List ℕ). f ++ headed_text a m s x) some.2 ∙ regroup some.0 (headed_text a m s x)) in
      elim (head_cut b n t y bytes some.0 (headed_text a m s x) u (front_lacks a.claim some.0 some.1) k) [
        | inl other ↦ absurd (front_apart a.claim b n some.0 some.1 other.1)
        | inr other ↦ one_bare a b m n s t x y h.is_count k.is_count h.is_line k.is_line other.1
      ])
]
