-- A walk of clap's that finds no fault doesn't stop at the command `help`.
use Rattle.std.proofs.Common.{◌≡◌, ◌&&◌, not, ℕ, Bool, true, false, List, [], ◌∷◌, Option, Some, None, refl, is_some, codes}
use Rattle.std.specs.Prelude.{if◌then◌else◌, fold}
use Rattle.std.specs.Str.{bytes_eq}
use Rattle.clap.specs.declared.error.kind.ErrorKind.{ErrorKind}
use Rattle.clap.specs.Faults.{other_fault, step_fault, turn_fault, walk_fault, word_fault}
use Rattle.clap.specs.Kinds.{Kinds, or_else}
use Rattle.clap.specs.Lexer.{long_of, short_of}
use Rattle.clap.specs.Simple.{Shape}
use Rattle.clap.specs.Walk.{Held, Names, Outcome, Rule, Step, Text, Waiting, Walk, after_flag, after_step, arg_by_index, long_or_other, plain_word, short_or_plain, subcommand_met, subcommand_or_other, to_positional, walked, walked_from, word_met}
use Rattle.clap.specs.Walk.Outcome.{done, waits, plain, refused}
use Rattle.clap.specs.Walk.Waiting.{idle, option, positional}
use Rattle.clap.specs.Walk.Step.{next, trailing, subcommand, value}
use Rattle.tsume_words.proofs.Rows.{or_else_nil}

-- the walk didn't stop at `help`
abbrev pub IsNotHelp : Option (Text × List Text) → Type 0
IsNotHelp None = Unit {0}
IsNotHelp (Some p) = bytes_eq p.0 (codes "help") ≡ false

abbrev EntersNoHelp : Step → Type 0
EntersNoHelp (next waiting) = Unit {0}
EntersNoHelp (trailing position) = Unit {0}
EntersNoHelp (subcommand name) = bytes_eq name (codes "help") ≡ false
EntersNoHelp value = Unit {0}

plain_enters : (c : List Rule) (waiting : Waiting) (word : Text) (h : Held) → EntersNoHelp (plain_word c waiting word h).1
plain_enters c idle word h = tt
plain_enters c positional word h = tt
plain_enters c (option id) word h = tt

after_enters : (c : List Rule) (waiting : Waiting) (word : Text) (h : Held) (o : Outcome) → EntersNoHelp (after_flag c waiting word h o).1
after_enters c waiting word h done = tt
after_enters c waiting word h (waits id) = tt
after_enters c waiting word h plain = plain_enters c waiting word h
after_enters c waiting word h refused = plain_enters c waiting word h

other_enters : (c : List Rule) (waiting : Waiting) (word : Text) (p : Option (Text × Option Text)) (h : Held) → EntersNoHelp (long_or_other c waiting word p h).1
other_enters c waiting word (Some p) h = after_enters c waiting word _ _
other_enters c waiting word None h = go (short_of word)
  where
    go : (o : Option Text) → EntersNoHelp (short_or_plain c waiting word o h).1
    go None = plain_enters c waiting word h
    go (Some flags) = after_enters c waiting word _ _

no_fault : (is_help off : Bool) (k : ErrorKind) (ks : Kinds) → off ≡ false → (if is_help && not off then k ∷ ks else []) ≡ [] → is_help ≡ false
no_fault false off k ks on e = refl
no_fault true false k ks on e = absurd cc
no_fault true true k ks on e = absurd cc

word_enters : (s : Shape) (names : Names) (is_trailing : Bool) (waiting : Waiting) (position : ℕ) (word : Text) (h : Held)
    → s.disable_help_subcommand ≡ false → word_fault s names is_trailing waiting word h ≡ []
    → EntersNoHelp (word_met s.rules names is_trailing waiting position word h).1
word_enters s names true waiting position word h helped e = tt
word_enters s names false waiting position word h helped e = go (subcommand_met names waiting word) e
  where
    dashes : (b : Bool) → EntersNoHelp (if b then (h, trailing position) else long_or_other s.rules waiting word (long_of word) h).1
    dashes true = tt
    dashes false = other_enters s.rules waiting word (long_of word) h

    go : (o : Option Text) → other_fault s o word h ≡ [] → EntersNoHelp (subcommand_or_other s.rules o waiting position word h).1
    go (Some name) e = no_fault (bytes_eq name (codes "help")) s.disable_help_subcommand _ _ helped e
    go None e = dashes (bytes_eq word (45 ∷ 45 ∷ []))

step_stays : (s : Shape) (word : Text) (w : Walk) (h : Held) (step : Step) → IsNotHelp w.stopped → EntersNoHelp step
    → IsNotHelp (after_step s.rules word w h step).stopped
step_stays s word w h (next waiting) stays enters = stays
step_stays s word w h (trailing position) stays enters = stays
step_stays s word w h (subcommand name) stays enters = enters
step_stays s word w h value stays enters = go (arg_by_index s.rules w.position)
  where
    go : (o : Option Rule) → IsNotHelp (to_positional s.rules o word w h).stopped
    go None = stays
    go (Some a) = tt

turn_stays : (s : Shape) (names : Names) (w : Walk) (word : Text) → s.disable_help_subcommand ≡ false → turn_fault s names w word ≡ []
    → IsNotHelp w.stopped → IsNotHelp (walked s.rules names w word).stopped
unfolding walked
turn_stays s names w word helped e stays = go w.stopped e stays
  where
    go : (p : Option (Text × List Text)) → (if is_some p then [] else or_else (word_fault s names w.is_trailing w.waiting word w.held)
        (step_fault s w.position (word_met s.rules names w.is_trailing w.waiting w.position word w.held).0 (word_met s.rules names w.is_trailing w.waiting w.position word w.held).1)) ≡ []
        → IsNotHelp p → IsNotHelp (walked_from s.rules names p w word).stopped
    go (Some p) e is = is
    go None e is =
        let parts = or_else_nil (word_fault s names w.is_trailing w.waiting word w.held) _ e in
        step_stays s word w _ _ stays (word_enters s names w.is_trailing w.waiting w.position word w.held helped parts.0)

pub walk_not_help : (s : Shape) (names : Names) (w : Walk) (words : List Text) → s.disable_help_subcommand ≡ false → walk_fault s names w words ≡ []
    → IsNotHelp w.stopped → IsNotHelp (fold (walked s.rules names) w words).stopped
unfolding walk_fault
walk_not_help s names w [] helped e stays = stays
walk_not_help s names w (word ∷ rest) helped e stays =
    let parts = or_else_nil (turn_fault s names w word) _ e in
    walk_not_help s names (walked s.rules names w word) rest helped parts.1 (turn_stays s names w word helped parts.0 stays)
