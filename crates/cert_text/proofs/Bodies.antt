-- What was read behind a head, and what is read next.
use Rattle.std.proofs.Common.{inl, inr, ◌≡◌, ◌≢◌, ◌<◌, ◌+◌, ℕ, List, [], ◌∷◌, ◌++◌, length, map, take, get_or, Ok, Err, refl, sym, ap, subst, ◌∙◌, append_assoc}
use Rattle.std.specs.Prelude.{codes, ◌↔◌, Result}
use Rattle.std.specs.Result.{IsErr, IsErrAnd}
use Rattle.std.specs.List.{AllByRecursion}
use Rattle.std.specs.Ordering.{nat_cmp}
use Rattle.std.specs.Cmp.Lexicographic.{slice_cmp}
use Rattle.std.specs.declared.cmp.Ordering.TheVariants.{Less}
use Rattle.std.proofs.lemmas.List.{flat_map_more, append-nil, take_more}
use Rattle.board_core.specs.Board.{Board}
use Rattle.board_core.specs.Kept.{IsKept}
use Rattle.shogi_rules.specs.Tsume.{IsProblem}
use Rattle.sfen_text.specs.Spelling.{sfen_of}
use Rattle.sfen_text.specs.Laws.{TextsHaveBytes}
use Rattle.cert_text.specs.Entries.{line}
use Rattle.cert_text.specs.Certificate.{CertificateView, IsBefore, IsRising, Form, MayBeListed}
use Rattle.cert_text.specs.Text.{title_text, title_of, entries_text, end_line, listing_text}
use Rattle.cert_text.specs.declared.certificate.Certificate.{Certificate}
use Rattle.cert_text.specs.declared.fault.CertFault.{CertFault}
use Rattle.cert_text.specs.declared.fault.CertFault.TheVariants as faults
use Rattle.cert_text.specs.declared.fault.CertEnd.{CertEnd}
use Rattle.cert_text.specs.declared.head.Claim.{Claim}
use Rattle.cert_text.specs.declared.head.Title.{Title}
use Rattle.cert_text.specs.Reading.{IsReadCount, IsFrontOrNone, IsHead, Lacks, headed_text, Ends, HasLineFault, HasFaultBehind, BeginsWith, IsReadableOf, IsCertificateOutcome, HasFirstFault}
use Rattle.cert_text.specs.Scan.{HasRead}
use Rattle.cert_text.specs.Lines.{StopsAt, AreRead, IsStopAtEnd, fault_of, AreAll}
use Rattle.cert_text.specs.declared.lines.LinesStop.{LinesStop}
use Rattle.cert_text.specs.declared.lines.LinesStop.TheVariants as stop
use Rattle.cert_text.proofs.Cuts.{empty_before, all_push}

-- ---- rising lists

pub rising_more : (xs : List Board) (x y : Board) → IsRising (xs ++ x ∷ []) → IsBefore x y → IsRising ((xs ++ x ∷ []) ++ y ∷ [])
rising_more [] x y rising before = (before, tt)
rising_more (a ∷ []) x y rising before = (rising.0, (before, tt))
rising_more (a ∷ b ∷ xs) x y rising before = (rising.0, rising_more (b ∷ xs) x y rising.1 before)

pub rising_last : (xs : List Board) (x y : Board) → IsRising ((xs ++ x ∷ []) ++ y ∷ []) → IsBefore x y
rising_last [] x y rising = rising.0
rising_last (a ∷ []) x y rising = rising.1.0
rising_last (a ∷ b ∷ xs) x y rising = rising_last (b ∷ xs) x y rising.1

map_push : {A B : Type 0} (f : A → B) (xs : List A) (x : A) → map f (xs ++ x ∷ []) ≡ map f xs ++ f x ∷ []
map_push f [] x = refl
map_push f (y ∷ xs) x = ap (λ ys. f y ∷ ys) (map_push f xs x)

-- ---- reading on

follows_push : {A : Type 0} (form : Form A) (entries : List A) (entry next : A) → IsRising (map form.at (entries ++ entry ∷ []))
    → (slice_cmp nat_cmp (sfen_of (form.at entry)) (sfen_of (form.at next)) ≡ Less) ↔ IsRising (map form.at ((entries ++ entry ∷ []) ++ next ∷ []))
follows_push form entries entry next rising =
    let one = map_push form.at entries entry in
    let two = map_push form.at (entries ++ entry ∷ []) next ∙ ap (λ (ps : List Board). ps ++ form.at next ∷ []) one in (
      (λ before. subst IsRising (sym two) (rising_more (map form.at entries) (form.at entry) (form.at next) (subst IsRising one rising) before)),
      (λ more. rising_last (map form.at entries) (form.at entry) (form.at next) (subst IsRising two more)),
    )

pub read_none : {A : Type 0} (form : Form A) (text : List ℕ) → TextsHaveBytes → HasRead form text [] text []
read_none form text bytes = record {
  good = record { fit = tt; rising = tt };
  so_far = refl;
  follows = λ next. ((λ _. tt), (λ _. empty_before bytes (form.at next)));
}

-- The rest begins with an entry's text.
entry_first : (rest text more entry : List ℕ) → rest ≡ text ++ 10 ∷ more → entry ≡ line text → rest ≡ entry ++ more
entry_first rest text more entry p e = p ∙ (sym (append_assoc text (10 ∷ []) more) ∙ ap (λ (t : List ℕ). t ++ more) (sym e))

texts_push : {A : Type 0} (form : Form A) (entries : List A) (entry : A) → entries_text form (entries ++ entry ∷ []) ≡ entries_text form entries ++ form.text_of entry
texts_push form entries entry = sym (flat_map_more form.text_of [] entries entry)

pub read_more : {A : Type 0} (form : Form A) (bytes : List ℕ) (entries : List A) (rest last text more : List ℕ) (entry : A) → HasRead form bytes entries rest last
    → rest ≡ text ++ 10 ∷ more → MayBeListed form entry → form.text_of entry ≡ line text → slice_cmp nat_cmp last (sfen_of (form.at entry)) ≡ Less
    → HasRead form bytes (entries ++ entry ∷ []) more (sfen_of (form.at entry))
read_more form bytes entries rest last text more entry read p fits e before =
    let rising = (read.follows entry).0 before in record {
      good = record { fit = all_push (MayBeListed form) entries entry read.good.fit fits; rising = rising };
      so_far = read.so_far ∙ (ap (λ (t : List ℕ). entries_text form entries ++ t) (entry_first rest text more (form.text_of entry) p e)
          ∙ (sym (append_assoc (entries_text form entries) (form.text_of entry) more) ∙ ap (λ (t : List ℕ). t ++ more) (sym (texts_push form entries entry))));
      follows = λ next. follows_push form entries entry next rising;
    }

-- The same, where the entry was put behind the others and its SFEN text stood in the line.
pub read_on : {A : Type 0} (form : Form A) (bytes : List ℕ) (entries pushed : List A) (rest last text more sfen : List ℕ) (entry : A) → HasRead form bytes entries rest last
    → rest ≡ text ++ 10 ∷ more → MayBeListed form entry → form.text_of entry ≡ line text → sfen ≡ sfen_of (form.at entry) → slice_cmp nat_cmp last sfen ≡ Less
    → pushed ≡ entries ++ entry ∷ [] → HasRead form bytes pushed more sfen
read_on form bytes entries pushed rest last text more sfen entry read p fits e same before is =
    let next = read_more form bytes entries rest last text more entry read p fits e (subst (λ (s : List ℕ). slice_cmp nat_cmp last s ≡ Less) same before) in
    subst (λ es. HasRead form bytes es more sfen) (sym is) (subst (λ (s : List ℕ). HasRead form bytes (entries ++ entry ∷ []) more s) (sym same) next)

-- ---- writing on

take_push : {A : Type 0} (xs : List A) (k : ℕ) (x : A) → k < length xs → x ≡ get_or xs k x → take (k + 1) xs ≡ take k xs ++ x ∷ []
take_push xs k x lt is = take_more xs k x lt ∙ ap (λ y. take k xs ++ y ∷ []) (sym is)

pub written_more : {A : Type 0} (form : Form A) (before head old new : List ℕ) (entries : List A) (k : ℕ) (x : A) → k < length entries → x ≡ get_or entries k x
    → old ≡ before ++ (head ++ entries_text form (take k entries)) → new ≡ old ++ form.text_of x → new ≡ before ++ (head ++ entries_text form (take (k + 1) entries))
written_more form before head old new entries k x lt is p q =
    let texts = entries_text form (take k entries) in
    let more : texts ++ form.text_of x ≡ entries_text form (take (k + 1) entries) = sym (texts_push form (take k entries) x) ∙ ap (entries_text form) (sym (take_push entries k x lt is)) in
    q ∙ (ap (λ (t : List ℕ). t ++ form.text_of x) p ∙ (append_assoc before (head ++ texts) (form.text_of x)
    ∙ ap (λ (t : List ℕ). before ++ t) (append_assoc head texts (form.text_of x) ∙ ap (λ (t : List ℕ). head ++ t) more)))

pub all_take_more : {A : Type 0} (P : A → Type 0) (entries : List A) (k : ℕ) (x : A) → k < length entries → x ≡ get_or entries k x → AllByRecursion P (take k entries) → P x
    → AllByRecursion P (take (k + 1) entries)
all_take_more P entries k x lt is all p = subst (AllByRecursion P) (sym (take_push entries k x lt is)) (all_push P (take k entries) x all p)

-- ---- where the reading stops

pub stops_bad : {A : Type 0} (form : Form A) (bytes : List ℕ) (entries : List A) (rest last text more : List ℕ) → HasRead form bytes entries rest last
    → rest ≡ text ++ 10 ∷ more → Lacks 10 text → text ≢ codes "end" → ((entry : A) → MayBeListed form entry → form.text_of entry ≡ line text → ⊥)
    → AreRead form bytes entries last stop.BadLine
stops_bad form bytes entries rest last text more read p lack no_end none = record {
  rest = rest;
  read = read;
  stops = record { bad = text; is_line = lack; no_end = no_end; no_entry = none; more = more; text = entry_first rest text more (line text) p refl };
}

pub stops_falling : {A : Type 0} (form : Form A) (bytes : List ℕ) (entries : List A) (rest last text more : List ℕ) (entry : A) → HasRead form bytes entries rest last
    → rest ≡ text ++ 10 ∷ more → MayBeListed form entry → form.text_of entry ≡ line text → (slice_cmp nat_cmp last (sfen_of (form.at entry)) ≡ Less → ⊥)
    → AreRead form bytes entries last stop.NotRising
stops_falling form bytes entries rest last text more entry read p fits e not_before = record {
  rest = rest;
  read = read;
  stops = record {
    next = entry;
    fits = fits;
    falls = λ rising. not_before ((read.follows entry).1 rising);
    more = more;
    text = entry_first rest text more (form.text_of entry) p e;
  };
}

pub stops_open : {A : Type 0} (form : Form A) (bytes : List ℕ) (entries : List A) (rest last : List ℕ) → HasRead form bytes entries rest last → Lacks 10 rest → AreRead form bytes entries last stop.NoLine
stops_open form bytes entries rest last read lack = record { rest = rest; read = read; stops = lack }

at_end : (rest text more : List ℕ) → rest ≡ text ++ 10 ∷ more → text ≡ codes "end" → rest ≡ end_line ++ more
at_end rest text more p e = p ∙ ap (λ (t : List ℕ). t ++ 10 ∷ more) e

pub stops_end : {A : Type 0} (form : Form A) (bytes : List ℕ) (entries : List A) (rest last text more : List ℕ) (why : LinesStop) → HasRead form bytes entries rest last
    → rest ≡ text ++ 10 ∷ more → text ≡ codes "end" → IsStopAtEnd more why → AreRead form bytes entries last why
stops_end form bytes entries rest last text more stop.End read p e h = record {
  rest = rest;
  read = read;
  stops = at_end rest text more p e ∙ (ap (λ (t : List ℕ). end_line ++ t) h ∙ append-nil end_line);
}
stops_end form bytes entries rest last text more stop.Behind read p e h = record { rest = rest; read = read; stops = (more, h, at_end rest text more p e) }
stops_end form bytes entries rest last text more stop.NoLine read p e h = absurd h
stops_end form bytes entries rest last text more stop.BadLine read p e h = absurd h
stops_end form bytes entries rest last text more stop.NotRising read p e h = absurd h

-- ---- the faults

-- What stands behind the entries, by what the rest is.
rest_is : (bytes entries rest other : List ℕ) → bytes ≡ entries ++ rest → rest ≡ other → bytes ≡ entries ++ other
rest_is bytes entries rest other p e = p ∙ ap (λ (t : List ℕ). entries ++ t) e

pub all_read : {A : Type 0} (form : Form A) (bytes : List ℕ) (entries : List A) (last : List ℕ) (why : LinesStop) → AreRead form bytes entries last why → why ≡ stop.End → Ends form entries bytes
all_read form bytes entries last why are is =
    let at : StopsAt form entries are.rest stop.End = subst (StopsAt form entries are.rest) is are.stops in
    record { good = are.read.good; text = rest_is bytes (entries_text form entries) are.rest end_line are.read.so_far at }

pub not_all_read : {A : Type 0} (form : Form A) (bytes : List ℕ) (entries : List A) (last : List ℕ) (why : LinesStop) (count : ℕ) → AreRead form bytes entries last why
    → (AreAll entries why count → ⊥) → HasLineFault form count bytes (fault_of why (length entries + 1))
not_all_read form bytes entries last stop.NoLine count are not = record { entries = entries; good = are.read.good; rest = are.rest; open_end = inl are.stops; text = are.read.so_far }
not_all_read form bytes entries last stop.Behind count are not = record { entries = entries; good = are.read.good; rest = are.rest; open_end = inr are.stops; text = are.read.so_far }
not_all_read form bytes entries last stop.End count are not = (entries, all_read form bytes entries last stop.End are refl, (λ n. not (refl, n)))
not_all_read form bytes entries last stop.BadLine count are not = record {
  entries = entries;
  good = are.read.good;
  number_is = refl;
  bad = are.stops.bad;
  is_line = are.stops.is_line;
  no_end = are.stops.no_end;
  no_entry = are.stops.no_entry;
  rest = are.stops.more;
  text = rest_is bytes (entries_text form entries) are.rest (line are.stops.bad ++ are.stops.more) are.read.so_far are.stops.text;
}
not_all_read form bytes entries last stop.NotRising count are not = record {
  entries = entries;
  good = are.read.good;
  number_is = refl;
  next = are.stops.next;
  fits = are.stops.fits;
  falls = are.stops.falls;
  rest = are.stops.more;
  text = rest_is bytes (entries_text form entries) are.rest (form.text_of are.stops.next ++ are.stops.more) are.read.so_far are.stops.text;
}

-- ---- certificates

regroup : (a p b t e : List ℕ) → (((a ++ 10 ∷ []) ++ ((p ++ b) ++ 10 ∷ [])) ++ t) ++ e ≡ a ++ 10 ∷ (p ++ (b ++ 10 ∷ (t ++ e)))
regroup a p b t e = simp append_assoc

-- The text of a head, of entries and of the end is the certificate's.
pub listing_text_of : {A : Type 0} (claim : Claim) (form : Form A) (c : CertificateView A) → listing_text claim form c ≡ headed_text (title_of claim c) (length c.entries) (sfen_of c.problem) (entries_text form c.entries ++ end_line)
listing_text_of claim form c = regroup (title_text (title_of claim c) (length c.entries)) (codes "problem ") (sfen_of c.problem) (entries_text form c.entries) end_line

-- The text is the certificate's, perhaps behind the one front line.
abbrev pub IsListingText : {A : Type 0} → Claim → Form A → CertificateView A → List ℕ → Type 0
IsListingText claim form c bytes = (front : List ℕ) × IsFrontOrNone claim front × (bytes ≡ front ++ listing_text claim form c)

pub listing_read : {A : Type 0} (claim : Claim) (form : Form A) (bytes sfen rest : List ℕ) (count : ℕ) (c : CertificateView A) → IsHead (title_of claim c) count sfen rest bytes → sfen ≡ sfen_of c.problem → IsKept c.problem → IsProblem c.problem
    → Ends form c.entries rest → length c.entries ≡ count → IsReadableOf form c × IsListingText claim form c bytes
listing_read claim form bytes sfen rest count c head s kept is_problem ends n =
    let title = title_of claim c in
    let same : headed_text title count sfen rest ≡ headed_text title (length c.entries) (sfen_of c.problem) (entries_text form c.entries ++ end_line) =
    ap (λ (k : ℕ). headed_text title k sfen rest) (sym n) ∙ (ap (λ (t : List ℕ). headed_text title (length c.entries) t rest) s ∙ ap (λ (t : List ℕ). headed_text title (length c.entries) (sfen_of c.problem) t) ends.text) in (
      record { kept = kept; is_problem = is_problem; count = subst IsReadCount (sym n) head.is_count; good = ends.good },
      (head.front, head.is_front, head.text ∙ ap (λ (t : List ℕ). head.front ++ t) (same ∙ sym (listing_text_of claim form c))),
    )

-- The fault of the lines behind a head is the text's.
pub fault_read : {A : Type 0} (title : Title) (form : Form A) (count : ℕ) (problem : Board) (rest bytes : List ℕ) (fault : CertFault)
    → ((fault : CertFault) → HasLineFault form count rest fault → HasFaultBehind title.claim count problem rest fault)
    → BeginsWith title count problem rest bytes → HasLineFault form count rest fault → HasFirstFault bytes fault
fault_read title form count problem rest bytes faults.BadHead f begins h = absurd h
fault_read title form count problem rest bytes (faults.BadLine n) f begins h =
    record { title = title; count = count; problem = problem; rest = rest; begins = begins; later = f (faults.BadLine n) h }
fault_read title form count problem rest bytes (faults.NotRising n) f begins h =
    record { title = title; count = count; problem = problem; rest = rest; begins = begins; later = f (faults.NotRising n) h }
fault_read title form count problem rest bytes faults.WrongCount f begins h =
    record { title = title; count = count; problem = problem; rest = rest; begins = begins; later = f faults.WrongCount h }
fault_read title form count problem rest bytes faults.NoEnd f begins h =
    record { title = title; count = count; problem = problem; rest = rest; begins = begins; later = f faults.NoEnd h }

-- The title with the claim that it has.
abbrev pub claimed : Title → Claim → Title
claimed title claim = record { version = title.version; claim = claim }

-- The text begins so with the title's own claim, by what that is.
pub begins_claimed : (title : Title) (claim : Claim) (count : ℕ) (problem : Board) (rest bytes : List ℕ) → title.claim ≡ claim → BeginsWith title count problem rest bytes → BeginsWith (claimed title claim) count problem rest bytes
begins_claimed title claim count problem rest bytes is begins = subst (λ (c : Claim). BeginsWith (claimed title c) count problem rest bytes) is begins

-- The same of all that was read, where it isn't what the head names.
pub not_all_found : {A : Type 0} (title : Title) (form : Form A) (count : ℕ) (problem : Board) (rest bytes : List ℕ) (entries : List A) (last : List ℕ) (why : LinesStop) (fault : CertFault)
    → ((fault : CertFault) → HasLineFault form count rest fault → HasFaultBehind title.claim count problem rest fault)
    → BeginsWith title count problem rest bytes → AreRead form rest entries last why → (AreAll entries why count → ⊥) → fault ≡ fault_of why (length entries + 1) → HasFirstFault bytes fault
not_all_found title form count problem rest bytes entries last why fault f begins are not is =
    fault_read title form count problem rest bytes fault f begins
    (subst (HasLineFault form count rest) (sym is) (not_all_read form rest entries last why count are not))

-- The certificate of all that was read, where it is what the head names.
pub all_found : {A : Type 0} (title : Title) (form : Form A) (count : ℕ) (problem : Board) (rest bytes : List ℕ) (entries found : List A) (last : List ℕ) (why : LinesStop)
    → BeginsWith title count problem rest bytes → AreRead form rest entries last why → found ≡ entries → AreAll found why count
    → IsReadableOf form (record { version = title.version; problem = problem; entries = found }) × IsListingText title.claim form (record { version = title.version; problem = problem; entries = found }) bytes
all_found title form count problem rest bytes entries found last why begins are same all =
    listing_read title.claim form bytes (sfen_of problem) rest count (record { version = title.version; problem = problem; entries = found }) begins.head refl begins.kept begins.is_problem
    (subst (λ es. Ends form es rest) (sym same) (all_read form rest entries last why are all.0)) all.1

-- What is passed on as it came is the same outcome.
pub err_read : (bytes : List ℕ) (outcome : Result Certificate CertEnd) (end : CertEnd) → IsErr outcome → IsErrAnd outcome (λ found. found ≡ end) → IsCertificateOutcome bytes (Err end)
    → IsCertificateOutcome bytes outcome
err_read bytes (Ok c) end is same h = absurd (cc)
err_read bytes (Err found) end is same h = subst (λ (e : CertEnd). IsCertificateOutcome bytes (Err e)) (sym same) h
