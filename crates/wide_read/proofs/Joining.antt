-- What is read of a text, from what is read of its two halves.
use Rattle.std.proofs.Common.{◌≡◌, ◌≢◌, ℕ, List, [], ◌∷◌, ◌++◌, map, refl, sym, ap, subst, ◌∙◌, append_assoc}
use Rattle.std.proofs.lemmas.List.{append-nil}
use Rattle.std.specs.Ordering.{nat_cmp}
use Rattle.std.specs.Cmp.Lexicographic.{slice_cmp}
use Rattle.std.specs.declared.cmp.Ordering.TheVariants.{Less}
use Rattle.sfen_text.specs.Spelling.{sfen_of}
use Rattle.sfen_text.specs.Laws.{TextsHaveBytes}
use Rattle.cert_text.proofs.Offered.{read_none}
use Rattle.cert_text.specs.Entries.{line}
use Rattle.cert_text.specs.Certificate.{IsRising, Form, MayBeListed}
use Rattle.cert_text.specs.Text.{entries_text, end_line}
use Rattle.cert_text.specs.Scan.{HasRead, Follows}
use Rattle.cert_text.specs.Lines.{AreLines, AreRead, StopsAt, HasFallingNext}
use Rattle.cert_text.specs.declared.lines.LinesStop.{LinesStop}
use Rattle.cert_text.specs.declared.lines.LinesStop.TheVariants as stop
use Rattle.wide_read.specs.Stretches.{IsSeam, last_behind, stop_before_more}
use Rattle.wide_read.proofs.Lists.{rising_glued, rising_behind, map_both, all_both, texts_both, none_left, some_before}

module _ {Entry : Type 0} (form : Form Entry) where
  -- Entries that rise, behind others up to the first of them.
  both_rise : (xs : List Entry) (y : Entry) (ys : List Entry) → IsRising (map form.at (xs ++ y ∷ [])) → IsRising (map form.at (y ∷ ys)) → IsRising (map form.at (xs ++ y ∷ ys))
  both_rise xs y ys h k =
      subst IsRising (sym (map_both form.at xs (y ∷ ys)))
      (rising_glued (map form.at xs) (form.at y) (map form.at ys) (subst IsRising (map_both form.at xs (y ∷ [])) h) k)

  rise_behind : (xs ys : List Entry) → IsRising (map form.at (xs ++ ys)) → IsRising (map form.at ys)
  rise_behind xs ys h = rising_behind (map form.at xs) (map form.at ys) (subst IsRising (map_both form.at xs ys) h)

  follows_both : (xs : List Entry) (y : Entry) (ys : List Entry) (last : List ℕ) → IsRising (map form.at (xs ++ y ∷ [])) → Follows form (y ∷ ys) last → Follows form (xs ++ y ∷ ys) last
  follows_both xs y ys last h follows = λ next.
      let same = append_assoc xs (y ∷ ys) (next ∷ []) in (
        (λ before. subst (λ (es : List Entry). IsRising (map form.at es)) (sym same) (both_rise xs y (ys ++ next ∷ []) h ((follows next).0 before))),
        (λ rising. (follows next).1 (rise_behind xs (y ∷ ys ++ next ∷ []) (subst (λ (es : List Entry). IsRising (map form.at es)) same rising))),
      )

  -- What was read of the front, where more comes behind it.
  read_before : (before text : List ℕ) (xs : List Entry) (rest last : List ℕ) → HasRead form before xs rest last → HasRead form (before ++ text) xs (rest ++ text) last
  read_before before text xs rest last read = record {
    good = read.good;
    so_far = ap (λ (t : List ℕ). t ++ text) read.so_far ∙ append_assoc (entries_text form xs) rest text;
    follows = read.follows;
  }

  -- All of the front was read.
  read_all : (before text : List ℕ) (xs : List Entry) (last : List ℕ) → AreRead form before xs last stop.NoLine → AreLines before → HasRead form (before ++ text) xs text last
  read_all before text xs last are lines =
      let none = none_left before (entries_text form xs) are.rest lines are.read.so_far are.stops in
      read_before before text xs [] last (subst (λ (rest : List ℕ). HasRead form before xs rest last) none are.read)

  -- A reading of a text behind other entries.
  read_both : (bytes text : List ℕ) (xs : List Entry) (y : Entry) (ys : List Entry) (rest last before_last : List ℕ) → HasRead form bytes xs text before_last → HasRead form text (y ∷ ys) rest last
      → slice_cmp nat_cmp before_last (sfen_of (form.at y)) ≡ Less → HasRead form bytes (xs ++ y ∷ ys) rest last
  read_both bytes text xs y ys rest last before_last front more seam =
      let h = (front.follows y).0 seam in record {
        good = record {
          fit = all_both (MayBeListed form) xs (y ∷ ys) front.good.fit more.good.fit;
          rising = both_rise xs y ys h more.good.rising;
        };
        so_far = front.so_far ∙ (ap (λ (t : List ℕ). entries_text form xs ++ t) more.so_far ∙ (sym (append_assoc (entries_text form xs) (entries_text form (y ∷ ys)) rest)
            ∙ ap (λ (t : List ℕ). t ++ rest) (sym (texts_both form xs (y ∷ ys)))));
        follows = follows_both xs y ys last h more.follows;
      }

  -- Where the reading stops, behind other entries.
  stops_both : (xs ys : List Entry) (rest : List ℕ) (why : LinesStop) → StopsAt form ys rest why → StopsAt form (xs ++ ys) rest why
  stops_both xs ys rest stop.NoLine h = h
  stops_both xs ys rest stop.End h = h
  stops_both xs ys rest stop.Behind h = h
  stops_both xs ys rest stop.BadLine h = h
  stops_both xs ys rest stop.NotRising h = record {
    next = h.next;
    fits = h.fits;
    falls = λ rising. h.falls (rise_behind xs (ys ++ h.next ∷ []) (subst (λ (es : List Entry). IsRising (map form.at es)) (append_assoc xs ys (h.next ∷ [])) rising));
    more = h.more;
    text = h.text;
  }

  -- The front, and behind it a text whose entries rise behind those of the front.
  pub more_read : (before text : List ℕ) (xs ys : List Entry) (last next : List ℕ) (first why : LinesStop) → first ≡ stop.NoLine → AreRead form before xs last first → AreLines before
      → AreRead form text ys next why → IsSeam form last ys → AreRead form (before ++ text) (xs ++ ys) (last_behind ys last next) why
  more_read before text xs [] last next first why is are lines more seam =
      let front = read_all before text xs last (subst (AreRead form before xs last) is are) lines in
      let same : text ≡ more.rest = more.read.so_far in record {
        rest = more.rest;
        read = subst (λ (es : List Entry). HasRead form (before ++ text) es more.rest last) (sym (append-nil xs)) (subst (λ (rest : List ℕ). HasRead form (before ++ text) xs rest last) same front);
        stops = stops_both xs [] more.rest why more.stops;
      }
  more_read before text xs (y ∷ ys) last next first why is are lines more seam = record {
    rest = more.rest;
    read = read_both (before ++ text) text xs y ys more.rest next last (read_all before text xs last (subst (AreRead form before xs last) is are) lines) more.read seam;
    stops = stops_both xs (y ∷ ys) more.rest why more.stops;
  }

  -- The same, as it is put together.
  pub more_put : (before text : List ℕ) (xs ys pushed seen : List Entry) (last next new : List ℕ) (first why : LinesStop) → first ≡ stop.NoLine → AreRead form before xs last first → AreLines before
      → AreRead form text ys next why → IsSeam form last ys → pushed ≡ xs ++ ys → seen ≡ ys → new ≡ last_behind seen last next → AreRead form (before ++ text) pushed new why
  more_put before text xs ys pushed seen last next new first why is are lines more seam push see last_is =
      subst (λ (es : List Entry). AreRead form (before ++ text) es new why) (sym push)
      (subst (λ (l : List ℕ). AreRead form (before ++ text) (xs ++ ys) l why) (sym (last_is ∙ ap (λ (es : List Entry). last_behind es last next) see))
      (more_read before text xs ys last next first why is are lines more seam))

  -- The front, and behind it a text whose first entry doesn't rise behind those of the front.
  pub no_rise : (before text : List ℕ) (xs ys : List Entry) (last next : List ℕ) (first why : LinesStop) → first ≡ stop.NoLine → AreRead form before xs last first → AreLines before
      → AreRead form text ys next why → (IsSeam form last ys → ⊥) → AreRead form (before ++ text) xs last stop.NotRising
  no_rise before text xs [] last next first why is are lines more not = absurd (not tt)
  no_rise before text xs (y ∷ ys) last next first why is are lines more not =
      let front = read_all before text xs last (subst (AreRead form before xs last) is are) lines in
      let falling : HasFallingNext form xs text = record {
        next = y;
        fits = more.read.good.fit.0;
        falls = λ rising. not ((front.follows y).1 rising);
        more = entries_text form ys ++ more.rest;
        text = more.read.so_far ∙ append_assoc (form.text_of y) (entries_text form ys) more.rest;
      } in record { rest = text; read = front; stops = falling }

  -- Where the reading stopped in the front, and more comes behind it.
  stops_before : (xs : List Entry) (rest text : List ℕ) (why : LinesStop) → (why ≡ stop.NoLine → ⊥) → text ≢ [] → StopsAt form xs rest why → StopsAt form xs (rest ++ text) (stop_before_more why)
  stops_before xs rest text stop.NoLine not some h = absurd (not refl)
  stops_before xs rest text stop.End not some h = (text, some, ap (λ (t : List ℕ). t ++ text) h)
  stops_before xs rest text stop.Behind not some h = (h.0 ++ text, some_before h.0 text h.1, ap (λ (t : List ℕ). t ++ text) h.2 ∙ append_assoc end_line h.0 text)
  stops_before xs rest text stop.BadLine not some h = record {
    bad = h.bad;
    is_line = h.is_line;
    no_end = h.no_end;
    no_entry = h.no_entry;
    more = h.more ++ text;
    text = ap (λ (t : List ℕ). t ++ text) h.text ∙ append_assoc (line h.bad) h.more text;
  }
  stops_before xs rest text stop.NotRising not some h = record {
    next = h.next;
    fits = h.fits;
    falls = h.falls;
    more = h.more ++ text;
    text = ap (λ (t : List ℕ). t ++ text) h.text ∙ append_assoc (form.text_of h.next) h.more text;
  }

  pub stopped_before : (before text : List ℕ) (xs : List Entry) (last : List ℕ) (why : LinesStop) → (why ≡ stop.NoLine → ⊥) → text ≢ [] → AreRead form before xs last why
      → AreRead form (before ++ text) xs last (stop_before_more why)
  stopped_before before text xs last why not some are = record {
    rest = are.rest ++ text;
    read = read_before before text xs are.rest last are.read;
    stops = stops_before xs are.rest text why not some are.stops;
  }

  -- Nothing was read yet of no text.
  pub none_read : TextsHaveBytes → (xs : List Entry) → xs ≡ [] → AreRead form [] xs [] stop.NoLine
  none_read bytes xs none =
      subst (λ (es : List Entry). AreRead form [] es [] stop.NoLine) (sym none) (record { rest = []; read = read_none form [] bytes; stops = tt })
