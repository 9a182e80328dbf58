-- What clap gives where it takes the words: for each option what its line says, and for a program
-- what it gives for one of its commands.
use Rattle.std.proofs.Common.{◌≡◌, ◌∙◌, ◌&&◌, ◌||◌, not, inl, inr, ◌⊎◌, ℕ, Bool, true, false, List, [], ◌∷◌, Option, Some, None, refl, sym, ap, subst, is_some, codes}
use Rattle.std.specs.Prelude.{IsSomeAnd, find, IfSome, option_map, if◌then◌else◌}
use Rattle.std.specs.Option.{option_map_or}
use Rattle.std.specs.List.{list_any}
use Rattle.std.specs.Str.{bytes_eq}
use Rattle.std.proofs.lemmas.Slice.Eq.{bytes_eq-Decides}
use Rattle.clap.specs.Facts.{explicit_source}
use Rattle.clap.specs.Faults.{built_fault, check_fault, defaults_fault, entered_fault, level_fault, settle_fault, walk_fault}
use Rattle.clap.specs.Takes.{is_given}
use Rattle.clap.specs.Facts.{parser_of_value}
use Rattle.clap.specs.Values.{IsUnsignedIn, read_as, reading_of}
use Rattle.clap.specs.ValueTests.{accepts}
use Rattle.clap.proofs.ValueTestLemmas.{accepts-Accepts}
use Rattle.clap.specs.declared.builder.value_parser.ValueParser.TheVariants as vp
use Rattle.clap.specs.Kinds.{check_kinds}
use Rattle.clap.specs.Simple.{App, Shape, argument_words, built, entered, label_of, names_of, rows_at, subcommand_of}
use Rattle.clap.specs.Walk.{Row, Rule, Text, answers_to, finished, is_empty, nothing_held, one_of, reading_by, rows_after, settled, walk, walk_from}
use Rattle.tsume_words.proofs.NoHelp.{IsNotHelp, walk_not_help}
use Rattle.tsume_words.proofs.Rows.{Each, each_found, HasRowIfDefault, IsFirst, RowIsRight, keeps_values, level_each, one_value, value_if_any, or_else_nil, rows_made}
use Rattle.tsume_words.specs.Given.{HasFlag, HasNumber, HasNumberIfAny}
use Rattle.tsume_words.specs.Meaning.{IsTakenByClap, all_words}

-- what holds of the subcommand that is entered without a fault
pub record IsEntered (s : Shape) (p : Text × List Row) (stop : Option (Text × List Text)) (word : Text) (words : List Text) : Type 0 where
  pub stopped : stop ≡ Some (word, words)
  pub name : p.0 ≡ s.name
  pub rows : p.1 ≡ rows_after s.rules [] words
  pub faultless : level_fault s [] nothing_held words false [] ≡ []

-- an entered subcommand is one of those, and found no fault
entered_is : (a : App) (stop : Option (Text × List Text)) (p : Text × List Row) → entered_fault a stop ≡ [] → entered a stop ≡ Some p
    → (s : Shape) × (word : Text) × (words : List Text) × (find (λ s. answers_to word (label_of s)) a.subs ≡ Some s) × IsEntered s p stop word words
entered_is a None p e found = absurd cc
entered_is a (Some q) p e found = go (find (λ s. answers_to q.0 (label_of s)) a.subs) refl e found
  where
    parts : (x y : Text × List Row) → Some x ≡ Some y → y ≡ x
    parts x y e = cc

    go : (o : Option Shape) → find (λ s. answers_to q.0 (label_of s)) a.subs ≡ o
        → option_map_or (λ s. level_fault s [] nothing_held q.1 false []) o [] ≡ []
        → option_map (λ s. rows_at s q.1) o ≡ Some p
        → (s : Shape) × (word : Text) × (words : List Text) × (find (λ s. answers_to word (label_of s)) a.subs ≡ Some s) × IsEntered s p (Some q) word words
    go None is e found = absurd cc
    go (Some s) is e found =
        let same = parts (rows_at s q.1) p found in
        (s, q.0, q.1, is, record { stopped = refl; name = ap (λ r. r.0) same; rows = ap (λ r. r.1) same; faultless = e })

no_want : (help want missing : Bool) → want ≡ true → check_kinds help want missing ≡ [] → ⊥
no_want true want missing is e = cc
no_want false true missing is e = cc
no_want false false missing is e = cc

-- a command that wants a subcommand and finds no fault has one
wanted : (s : Shape) (rows : List Row) (has : Bool) → s.subcommand_required ≡ true → check_fault s rows has ≡ [] → has ≡ true
wanted s rows true want e = refl
wanted s rows false want e = absurd (no_want (s.arg_required_else_help && not (list_any (λ r. explicit_source r.source) rows)) s.subcommand_required
    (not (s.subcommand_negates_reqs && false) && list_any (λ a. a.required && not (is_given a.id rows)) s.rules) want e)

-- each argument that keeps its values gives one that its parser accepts, if it gives one; and it
-- does where it has a default
pub record GivesValue (rows : List Row) (a : Rule) : Type 0 where
  pub value : keeps_values a ≡ true → is_empty a.defaults ≡ false
      → (v : Text) × (one_of a.id rows ≡ Some (read_as (reading_by a) v)) × (accepts a.ignore_case (parser_of_value a.parser) v ≡ true)
  pub any : keeps_values a ≡ true
      → (one_of a.id rows ≡ None) ⊎ ((v : Text) × (one_of a.id rows ≡ Some (read_as (reading_by a) v)) × (accepts a.ignore_case (parser_of_value a.parser) v ≡ true))

values_given : (c : List Rule) (rows : List Row) (xs : List Rule) → Each (RowIsRight c) rows → Each (IsFirst c) xs → Each (HasRowIfDefault rows) xs
    → Each (GivesValue rows) xs
values_given c rows [] each firsts made = tt
values_given c rows (a ∷ rest) each firsts made = (
  record {
    value = λ kept some. one_value c rows a each firsts.0 kept (made.0 some);
    any = λ kept. value_if_any c rows a each firsts.0 kept;
  },
  values_given c rows rest each firsts.1 made.1,
)

pub level_gives : (s : Shape) (words : List Text) → Each (IsFirst s.rules) s.rules → level_fault s [] nothing_held words false [] ≡ []
    → Each (GivesValue (rows_after s.rules [] words)) s.rules
level_gives s words firsts e = values_given s.rules (rows_after s.rules [] words) s.rules (level_each s words firsts e) firsts (rows_made s.rules words)

pub number_given : (a : Rule) (low high : ℕ) (rows : List Row) → GivesValue rows a → a.parser ≡ Some (vp.Unsigned low high)
    → keeps_values a ≡ true → is_empty a.defaults ≡ false → HasNumber a.id low high rows
number_given a low high rows gives parser kept some =
    let got = gives.value kept some in
    let as_parsed : accepts a.ignore_case (vp.Unsigned low high) got.0 ≡ true = ap (λ p. accepts a.ignore_case (parser_of_value p) got.0) (sym parser) ∙ got.2 in
    let is : one_of a.id rows ≡ Some got.0 = got.1 ∙ ap (λ p. Some (read_as (reading_of (parser_of_value p)) got.0)) parser in
    subst (λ (o : Option Text). IsSomeAnd o (IsUnsignedIn low high)) (sym is) (accepts-Accepts a.ignore_case (vp.Unsigned low high) got.0 as_parsed)

pub number_if_any : (a : Rule) (low high : ℕ) (rows : List Row) → GivesValue rows a → a.parser ≡ Some (vp.Unsigned low high)
    → keeps_values a ≡ true → HasNumberIfAny a.id low high rows
number_if_any a low high rows gives parser kept = go (gives.any kept)
  where
    go : (one_of a.id rows ≡ None) ⊎ ((v : Text) × (one_of a.id rows ≡ Some (read_as (reading_by a) v)) × (accepts a.ignore_case (parser_of_value a.parser) v ≡ true))
        → HasNumberIfAny a.id low high rows
    go (inl none) = subst (λ (o : Option Text). IfSome o (IsUnsignedIn low high)) (sym none) tt
    go (inr got) =
        let as_parsed : accepts a.ignore_case (vp.Unsigned low high) got.0 ≡ true = ap (λ p. accepts a.ignore_case (parser_of_value p) got.0) (sym parser) ∙ got.2 in
        let is : one_of a.id rows ≡ Some got.0 = got.1 ∙ ap (λ p. Some (read_as (reading_of (parser_of_value p)) got.0)) parser in
        subst (λ (o : Option Text). IfSome o (IsUnsignedIn low high)) (sym is) (accepts-Accepts a.ignore_case (vp.Unsigned low high) got.0 as_parsed)

pub flag_given : (a : Rule) (rows : List Row) → GivesValue rows a → a.parser ≡ Some vp.Bool
    → keeps_values a ≡ true → is_empty a.defaults ≡ false → HasFlag a.id rows
flag_given a rows gives parser kept some =
    let got = gives.value kept some in
    let as_parsed : accepts a.ignore_case vp.Bool got.0 ≡ true = ap (λ p. accepts a.ignore_case (parser_of_value p) got.0) (sym parser) ∙ got.2 in
    let is : one_of a.id rows ≡ Some got.0 = got.1 ∙ ap (λ p. Some (read_as (reading_of (parser_of_value p)) got.0)) parser in
    go got.0 (bytes_eq got.0 (codes "true")) refl (bytes_eq got.0 (codes "false")) refl is as_parsed
  where
    go : (v : Text) (t : Bool) → bytes_eq v (codes "true") ≡ t → (f : Bool) → bytes_eq v (codes "false") ≡ f → one_of a.id rows ≡ Some v
        → (t || f) ≡ true → HasFlag a.id rows
    go v true is_t f is_f is e = inl (is ∙ ap Some ((bytes_eq-Decides v (codes "true")).0 is_t))
    go v false is_t true is_f is e = inr (is ∙ ap Some ((bytes_eq-Decides v (codes "false")).0 is_f))
    go v false is_t false is_f is e = absurd cc

-- a subcommand that a word names, and that isn't `help`, gives so much where it finds no fault
abbrev pub GivesIfNamed : (Text × List Row → Type 0) → Shape → Type 0
GivesIfNamed Given s = (word : Text) → answers_to word (label_of s) ≡ true → bytes_eq word (codes "help") ≡ false
    → (words : List Text) → level_fault s [] nothing_held words false [] ≡ [] → Given (s.name, rows_after s.rules [] words)

-- the subcommand `help` is named by that word alone
pub help_alone : (word : Text) → answers_to word (codes "help", []) ≡ true → bytes_eq word (codes "help") ≡ false → ⊥
help_alone word answers other = go (bytes_eq (codes "help") word) refl answers
  where
    go : (b : Bool) → bytes_eq (codes "help") word ≡ b → (b || false) ≡ true → ⊥
    go false is e = absurd cc
    go true is e =
        let same = (bytes_eq-Decides (codes "help") word).0 is in
        let yes : bytes_eq word (codes "help") ≡ true = (bytes_eq-Decides word (codes "help")).1 (sym same) in
        absurd cc

-- what a search finds passes its test
found_passes : {X : Type 0} (test : X → Bool) (xs : List X) (x : X) → find test xs ≡ Some x → test x ≡ true
found_passes test [] x e = absurd cc
found_passes test (y ∷ ys) x e = go (test y) refl (found_passes test ys x) e
  where
    go : (b : Bool) → test y ≡ b → (find test ys ≡ Some x → test x ≡ true) → (if b then Some y else find test ys) ≡ Some x → test x ≡ true
    go true is more e =
        let same : y ≡ x = cc in
        subst (λ z. test z ≡ true) same is
    go false is more e = more e

-- a command that wants a subcommand and finds no fault gives what one of its subcommands gives
faultless : (Given : Text × List Row → Type 0) (a : App) (words : List Text) → a.top.subcommand_required ≡ true → a.top.disable_help_subcommand ≡ false → Each (GivesIfNamed Given) a.subs → built_fault a nothing_held words ≡ []
    → (p : Text × List Row) × (entered a (walk a.top.rules (names_of a) nothing_held words).stopped ≡ Some p) × Given p
faultless Given a words want helped each e =
    let end = (walk a.top.rules (names_of a) nothing_held words).held in
    let stop = (walk a.top.rules (names_of a) nothing_held words).stopped in
    let past_walk = or_else_nil (walk_fault a.top (names_of a) (walk_from nothing_held) words) _ e in
    let past_sub = or_else_nil (entered_fault a stop) _ past_walk.1 in
    let past_settle = or_else_nil (settle_fault a.top.rules a.top.args_override_self end) _ past_sub.1 in
    let past_defaults = or_else_nil (defaults_fault (settled a.top.rules end).rows a.top.rules) _ past_settle.1 in
    let not_help = walk_not_help a.top (names_of a) (walk_from nothing_held) words helped past_walk.0 tt in
    go stop not_help past_sub.0 (entered a stop) refl (wanted a.top (finished a.top.rules end) (is_some (entered a stop)) want past_defaults.1)
  where
    pair : (name : Text) (rows : List Row) (p : Text × List Row) → p.0 ≡ name → p.1 ≡ rows → (name, rows) ≡ p
    pair name rows p e f = λ i. (sym e i, sym f i)

    other : (stop : Option (Text × List Text)) (word : Text) (words : List Text) → stop ≡ Some (word, words) → IsNotHelp stop → bytes_eq word (codes "help") ≡ false
    other None word words is not_help = absurd cc
    other (Some p) word words is not_help = let same : p.0 ≡ word = cc in subst (λ w. bytes_eq w (codes "help") ≡ false) same not_help

    go : (stop : Option (Text × List Text)) → IsNotHelp stop → entered_fault a stop ≡ [] → (o : Option (Text × List Row)) → entered a stop ≡ o → is_some o ≡ true
        → (p : Text × List Row) × (entered a stop ≡ Some p) × Given p
    go stop not_help e None is some = absurd cc
    go stop not_help e (Some p) is some =
        let got = entered_is a stop p e is in
        let gives : GivesIfNamed Given got.0 = each_found (GivesIfNamed Given) (λ s. answers_to got.1 (label_of s)) a.subs got.0 each got.3 in
        let answers = found_passes (λ s. answers_to got.1 (label_of s)) a.subs got.0 got.3 in
        let given = gives got.1 answers (other stop got.1 got.2 got.4.stopped not_help) got.2 got.4.faultless in
        (p, is, subst Given (pair _ _ p got.4.name got.4.rows) given)

-- where clap takes the words it gives so much for one of the commands
pub taken_gives : (Given : Text × List Row → Type 0) (line : App) (words : List Text) → (built line).top.subcommand_required ≡ true
    → (built line).top.disable_help_subcommand ≡ false → Each (GivesIfNamed Given) (built line).subs → IsTakenByClap line words
    → (p : Text × List Row) × (subcommand_of line (all_words words) ≡ Some p) × Given p
taken_gives Given line words wants helps each taken = faultless Given (built line) (argument_words line (all_words words)) wants helps each taken
