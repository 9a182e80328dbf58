-- How far a command has come that tells its answer part by part.
use Rattle.std.proofs.Common.{◌≡◌, ◌+◌, ◌++◌, [], ◌∷◌, ◌⊎◌, inl, inr, ℕ, List, Option, length, take, arith, refl, sym, ap, subst, ◌∙◌}
use Rattle.std.proofs.lemmas.List.{append-nil, append_assoc, length-append}
use Rattle.std.proofs.Math.Seq.{take-append-add}
use Rattle.tsume_io.specs.Faults.{Rose}
use Rattle.tsume_io.specs.Sink.{GrewBy, GrewByPrefix}
use Rattle.tsume_io.proofs.Offered.{GrewBy-nil, GrewBy-append}
use Rattle.one_run.specs.declared.ended.Ended.{Ended}
use Rattle.one_run.specs.declared.ended.Ended.TheVariants.{Answered, CutShort, Failed}
use Rattle.one_run.specs.declared.ended.Fault.{Fault}
use Rattle.one_run.specs.declared.ended.Fault.TheVariants.{Text, TooLong, Read, NoMemory}
use Rattle.one_run.specs.declared.written.Written.{Written}
use Rattle.one_run.specs.declared.written.Written.TheVariants as written
use Rattle.one_run.specs.Outside.{Shown, IsUntouched, NeverFailed}
use Rattle.one_run.specs.Run.{IsAnswered, IsCounted, IsEnded, IsFailed, IsReadWhole, IsRun, IsWellPosed, WantsMemory}
use Rattle.one_run.specs.Serial.{Serial, AreTrue, parts_text, AreTold, AreSoFar, AreFirstTold, IsPartTold, IsSerialEnd, IsSerialRun, IsWrittenBefore, meaning_of}
use Rattle.one_run.specs.Stops.{Signals}
use Rattle.one_run.proofs.Endings.{took_it, wanted_more}
use Rattle.one_run.specs.Written.{HasWritten, ended_by}

-- What a sink shows, by what it told and counted before and after.
abbrev pub between : Option (List ℕ) → ℕ → Option (List ℕ) → ℕ → Shown
between told faults told_after faults_after = record { told = told; told_after = told_after; faults = faults; faults_after = faults_after }

grew_part : (a b c : Option (List ℕ)) (x y : List ℕ) → GrewBy a b x → GrewByPrefix b c y → GrewByPrefix a c (x ++ y)
grew_part a b c x y one two = (
  length x + two.0,
  (let l = length-append x y in let k = two.1 in omega (arith, l, k)),
  subst (GrewBy a c) (sym (take-append-add x y two.0)) (GrewBy-append a b c x (take two.0 y) one two.2),
)

true_more : {S P A F : Type 0} (command : Serial S P A F) (subjects : List S) (parts : List P) (subject : S) (part : P)
    → AreTrue command subjects parts → command.IsTrue subject part → AreTrue command (subjects ++ subject ∷ []) (parts ++ part ∷ [])
true_more command [] [] subject part are is = (is, tt)
true_more command [] (p ∷ parts) subject part are is = absurd are
true_more command (s ∷ subjects) [] subject part are is = absurd are
true_more command (s ∷ subjects) (p ∷ parts) subject part are is = (are.0, true_more command subjects parts subject part are.1 is)

text_more : {S P A F : Type 0} (command : Serial S P A F) (subjects : List S) (parts : List P) (subject : S) (part : P) → AreTrue command subjects parts
    → parts_text command (subjects ++ subject ∷ []) (parts ++ part ∷ []) ≡ parts_text command subjects parts ++ command.part_text subject part
text_more command [] [] subject part are = append-nil (command.part_text subject part)
text_more command [] (p ∷ parts) subject part are = absurd are
text_more command (s ∷ subjects) [] subject part are = absurd are
text_more command (s ∷ subjects) (p ∷ parts) subject part are =
    ap (λ (t : List ℕ). command.part_text s p ++ t) (text_more command subjects parts subject part are.1)
    ∙ sym (append_assoc (command.part_text s p) (parts_text command subjects parts) (command.part_text subject part))

told_more : {S P A F : Type 0} (command : Serial S P A F) (subjects : List S) (subject : S) (before text : List ℕ) (answer after : A)
    → AreTold command subjects before answer → IsPartTold command subject answer after text → AreTold command (subjects ++ subject ∷ []) (before ++ text) after
told_more command subjects subject before text answer after are is = record {
  parts = are.parts ++ is.part ∷ [];
  true_of = true_more command subjects are.parts subject is.part are.true_of is.true_of;
  is_text = rw (are.is_text, is.is_text) (sym (text_more command subjects are.parts subject is.part are.true_of));
  sums = is.summed are.parts are.sums;
}

-- Nothing is told yet.
pub so_far_none : {S P A F : Type 0} (command : Serial S P A F) (all : List S) (told : Option (List ℕ)) (faults : ℕ) (answer : A)
    → command.IsSum [] answer → AreSoFar command all all (between told faults told faults) answer
so_far_none command all told faults answer none = record {
  done = [];
  parted = refl;
  text = [];
  told = record { parts = []; true_of = tt; is_text = refl; sums = none };
  grew = GrewBy-nil told;
  kept = refl;
}

-- One more part is told.
pub so_far_more : {S P A F : Type 0} (command : Serial S P A F) (all others left : List S) (subject : S) (told now after : Option (List ℕ)) (f g h : ℕ)
    (answer more : A) (text : List ℕ) → AreSoFar command all others (between told f now g) answer → others ≡ subject ∷ left
    → IsPartTold command subject answer more text → GrewBy now after text → h ≡ g → AreSoFar command all left (between told f after h) more
so_far_more command all others left subject told now after f g h answer more text are is told_one grew same = record {
  done = are.done ++ subject ∷ [];
  parted = are.parted ∙ (ap (λ l. are.done ++ l) is ∙ sym (append_assoc are.done (subject ∷ []) left));
  text = are.text ++ text;
  told = told_more command are.done subject are.text text answer more are.told told_one;
  grew = GrewBy-append told now after are.text text are.grew grew;
  kept = same ∙ are.kept;
}

-- The first parts were told.
abbrev first_told : {S P A F : Type 0} (command : Serial S P A F) (input : List ℕ) (source : Shown) (others : List S) (sink : Shown) (answer : A)
    → IsReadWhole command.limit source input → (are : AreSoFar command (command.subjects_of input) others sink answer) → AreFirstTold command source are.text answer
first_told command input source others sink answer read are =
    record { input = input; read = read; done = are.done; others = others; parted = are.parted; told = are.told }

-- Memory was wanted.
pub so_far_wanted : {S P A F : Type 0} (command : Serial S P A F) (input : List ℕ) (source : Shown) (others : List S) (sink : Shown) (answer : A)
    → IsReadWhole command.limit source input → AreSoFar command (command.subjects_of input) others sink answer → IsSerialEnd command source sink (Failed NoMemory [])
so_far_wanted command input source others sink answer read are = (
  wanted_more command.limit source input read,
  inr (record {
    text = are.text;
    answer = answer;
    first = first_told command input source others sink answer read are;
    grew = are.grew;
    kept = are.kept;
  }),
)

-- The sink failed at a part.
pub so_far_cut : {S P A F : Type 0} (command : Serial S P A F) (input : List ℕ) (source : Shown) (others left : List S) (subject : S)
    (told now after : Option (List ℕ)) (f g h : ℕ) (answer more : A) (text : List ℕ) → IsReadWhole command.limit source input
    → AreSoFar command (command.subjects_of input) others (between told f now g) answer → others ≡ subject ∷ left
    → IsPartTold command subject answer more text → GrewByPrefix now after text → Rose g h → IsSerialEnd command source (between told f after h) (CutShort more)
so_far_cut command input source others left subject told now after f g h answer more text read are is told_one grew rose = record {
  text = are.text ++ text;
  first = record {
    input = input;
    read = read;
    done = are.done ++ subject ∷ [];
    others = left;
    parted = are.parted ∙ (ap (λ l. are.done ++ l) is ∙ sym (append_assoc are.done (subject ∷ []) left));
    told = told_more command are.done subject are.text text answer more are.told told_one;
  };
  grew = inl (grew_part told now after are.text text are.grew grew);
  rose = subst (λ (n : ℕ). Rose n h) are.kept rose;
}

-- All parts are told, and the answer was written behind them, or a part of it, or memory was
-- wanted.
pub so_far_whole : {S P A F : Type 0} (command : Serial S P A F) (input : List ℕ) (source : Shown) (others : List S) (told now after : Option (List ℕ)) (f g h : ℕ)
    (answer : A) (written : Written A) → IsReadWhole command.limit source input → AreSoFar command (command.subjects_of input) others (between told f now g) answer
    → others ≡ [] → HasWritten (command.text_of answer) (between now g after h) answer written → IsSerialEnd command source (between told f after h) (ended_by written)
so_far_whole {S} {P} {A} {F} command input source others told now after f g h answer (written.Whole w) read are none is =
    subst (λ (a : A). IsSerialEnd command source (between told f after h) (Answered a)) (sym is.0) (record {
      input = input;
      read = read;
      text = are.text;
      told = subst (λ (l : List S). AreTold command l are.text answer) (sym (are.parted ∙ (ap (λ (l : List S). are.done ++ l) none ∙ append-nil are.done))) are.told;
      grew = GrewBy-append told now after are.text (command.text_of answer) are.grew is.1;
    })
so_far_whole {S} {P} {A} {F} command input source others told now after f g h answer (written.InPart w) read are none is =
    subst (λ (a : A). IsSerialEnd command source (between told f after h) (CutShort a)) (sym is.0) (record {
      text = are.text;
      first = first_told command input source others (between told f now g) answer read are;
      grew = inr (none, grew_part told now after are.text (command.text_of answer) are.grew is.1);
      rose = subst (λ (n : ℕ). Rose n h) are.kept is.2;
    })
so_far_whole command input source others told now after f g h answer written.NoMemory read are none is = (
  wanted_more command.limit source input read,
  inr (record {
    text = are.text;
    answer = answer;
    first = first_told command input source others (between told f now g) answer read are;
    grew = subst (λ (o : Option (List ℕ)). GrewBy told o are.text) (sym is.told) are.grew;
    kept = is.faults ∙ are.kept;
  }),
)

-- A run whose text couldn't be read is one of the command.
before_failed : {S P A F : Type 0} (command : Serial S P A F) (source sink : Shown) (fault : Fault F) → IsUntouched sink → IsWrittenBefore command source sink fault
before_failed command source sink (Text fault) unwritten = unwritten
before_failed command source sink TooLong unwritten = unwritten
before_failed command source sink Read unwritten = unwritten
before_failed command source sink NoMemory unwritten = inl unwritten

pub unread_run : {S P A F : Type 0} (command : Serial S P A F) (stops : Signals) (source sink : Shown) (ended : Ended A F) → IsRun (meaning_of command) stops source sink ended
    → IsFailed ended → IsUntouched sink → IsSerialRun command source sink ended
unread_run {S} {P} {A} {F} command stops source sink ended run failed unwritten = record {
  does = subst (λ (e : Ended A F). IsSerialEnd command source sink e) (sym failed.2)
      ((subst (λ (e : Ended A F). IsEnded (meaning_of command) stops source sink e) failed.2 run.does).0, before_failed command source sink failed.0 unwritten);
  counted = run.counted;
  complete = run.complete;
}

-- One whose text could is one too.
ended_so : {S P A F : Type 0} (command : Serial S P A F) (source sink : Shown) (ended : Ended A F) → IsSerialEnd command source sink ended
    → IsWellPosed (meaning_of command) source.told → ¬ Rose source.faults source.faults_after → ¬ Rose sink.faults sink.faults_after
    → IsAnswered ended ⊎ WantsMemory ended
ended_so command source sink (Answered answer) is posed sound kept = inl (answer, refl)
ended_so command source sink (CutShort answer) is posed sound kept = absurd (kept is.rose)
ended_so command source sink (Failed (Text fault) input) is posed sound kept =
    let same = took_it source.told source.told_after input posed.input posed.told is.0.0.took in
    absurd (posed.faultless fault (subst (λ (i : List ℕ). command.IsFault i fault) same is.0.1))
ended_so command source sink (Failed TooLong input) is posed sound kept =
    let more = rw posed.told at is.0.0 in let short = posed.short in absurd (omega arith)
ended_so command source sink (Failed Read input) is posed sound kept = absurd (sound is.0.0)
ended_so command source sink (Failed NoMemory input) is posed sound kept = inr (input, refl)

pub serial_run : {S P A F : Type 0} (command : Serial S P A F) (source sink : Shown) (ended : Ended A F) → IsSerialEnd command source sink ended
    → IsCounted source sink ended → IsSerialRun command source sink ended
serial_run command source sink ended is counted = record { does = is; counted = counted; complete = ended_so command source sink ended is }

-- Where the answer was written behind the parts, the faults are counted so.
pub so_far_counted : {A : Type 0} (F : Type 0) (source : Shown) (told now after : Option (List ℕ)) (f g h : ℕ) (text : List ℕ) (answer : A) (written : Written A)
    → NeverFailed source → g ≡ f → HasWritten text (between now g after h) answer written → IsCounted {F = F} source (between told f after h) (ended_by written)
so_far_counted F source told now after f g h text answer (written.Whole w) sound kept is = (sound, is.2 ∙ kept)
so_far_counted F source told now after f g h text answer (written.InPart w) sound kept is = sound
so_far_counted F source told now after f g h text answer written.NoMemory sound kept is = (sound, is.faults ∙ kept)
