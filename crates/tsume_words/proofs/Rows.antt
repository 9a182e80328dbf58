-- What a walk of clap's that finds no fault leaves: each value passed the parser of its argument,
-- and each argument with a default has a row.
use Rattle.std.proofs.Common.{◌≡◌, ◌∙◌, ◌<◌, ◌+◌, ◌&&◌, ◌||◌, ◌⊎◌, inl, inr, not, ℕ, Bool, true, false, zero, suc, List, [], ◌∷◌, ◌++◌, Option, Some, None, refl, sym, ap, subst, arith, length, length-append, min, is_some, drop}
use Rattle.std.proofs.lemmas.Option.{same_Some}
use Rattle.std.specs.Prelude.{IsSomeAnd, option_and_then, option_map, nat_lt, if◌then◌else◌, find, fold, slice_get, encode_utf8}
use Rattle.std.specs.Option.{option_map_or}
use Rattle.std.specs.Str.{bytes_eq, chars}
use Rattle.std.proofs.lemmas.Slice.Eq.{bytes_eq-Decides}
use Rattle.std.proofs.lemmas.Bool.{or_right}
use Rattle.clap.specs.declared.builder.action.ArgAction.{ArgAction}
use Rattle.clap.specs.declared.builder.action.ArgAction.TheVariants.{Set, Append, SetTrue, SetFalse, Count}
use Rattle.clap.specs.declared.builder.value_parser.ValueParser.{ValueParser}
use Rattle.clap.specs.declared.parser.matches.ValueSource.{ValueSource}
use Rattle.clap.specs.declared.parser.matches.ValueSource.TheVariants.{DefaultValue, CommandLine}
use Rattle.clap.specs.declared.builder.value_parser.Reading.{Reading}
use Rattle.clap.specs.Lexer.{long_of, short_of}
use Rattle.clap.specs.Facts.{unwrap_or_range, parser_of_value}
use Rattle.clap.specs.Kinds.{Kinds, or_else, range_kinds, values_kinds, value_kinds, request_kinds}
use Rattle.clap.specs.Faults.{action_fault, count_fault, bundle_fault, bundle_step_fault, default_fault, defaults_fault, flag_word_fault, flags_fault, given_default_fault, level_fault, long_fault, option_fault, positional_fault, react_fault, repeat_fault, settle_fault, short_fault, step_fault, stray_fault, turn_fault, use_fault, values_fault, walk_fault, word_fault, other_fault}
use Rattle.clap.specs.Walk.{Held, Names, Outcome, Row, Rule, Step, Text, Waiting, Walk, action_of, after_flag, after_step, arg_by_id, arg_by_index, arg_by_long, arg_by_short, at_row, attached_value, bundle_met, bundle_step, count_of, counted, default_rows, has_row, is_empty, is_pending, long_met, long_or_other, more_values, most_values, stronger, nothing_held, one_of, option_met, flag_met, plain_word, option_word, reacted, reading_by, row_text, rows_after, settled, settled_rows, short_met, short_or_plain, subcommand_met, subcommand_or_other, takes_several, takes_values, to_positional, used, used_as, used_by_id, values_or_missing, walk, walk_from, walked, walked_from, with_count, with_default, with_values, without, word_met, new_count}
use Rattle.clap.specs.Walk.Outcome.{done, waits, plain, refused}
use Rattle.clap.specs.Walk.Waiting.{idle, option, positional}
use Rattle.clap.specs.Walk.Step.{next, trailing, subcommand, value}
use Rattle.clap.specs.Simple.{Shape}
use Rattle.clap.specs.declared.error.kind.ErrorKind.TheVariants as kind
use Rattle.clap.proofs.SimpleLemmas.{is_nil}
use Rattle.clap.proofs.ValueTestLemmas.{accepts-Accepts}
use Rattle.clap.specs.Values.{IsUnsignedIn, read_as, reading_of, refused_kind}
use Rattle.clap.specs.ValueTests.{accepts}
use Rattle.clap.specs.declared.builder.value_parser.ValueParser.TheVariants as vp

-- each element of a list
abbrev pub Each : {X : Type 0} → (X → Type 0) → List X → Type 0
Each P [] = Unit {0}
Each P (x ∷ xs) = P x × Each P xs

each_append : {X : Type 0} (P : X → Type 0) (xs ys : List X) → Each P xs → Each P ys → Each P (xs ++ ys)
each_append P [] ys h k = k
each_append P (x ∷ xs) ys h k = (h.0, each_append P xs ys h.1 k)

pub each_found : {X : Type 0} (P : X → Type 0) (test : X → Bool) (xs : List X) (x : X) → Each P xs → find test xs ≡ Some x → P x
each_found P test [] x h e = cc
each_found P test (y ∷ ys) x h e = go (test y) (each_found P test ys x h.1) e
  where
    go : (b : Bool) → (find test ys ≡ Some x → P x) → (if b then Some y else find test ys) ≡ Some x → P x
    go true more e =
        let same : y ≡ x = cc in
        subst P same h.0
    go false more e = more e

-- no kinds come only of no kinds
pub or_else_nil : (a b : Kinds) → or_else a b ≡ [] → (a ≡ []) × (b ≡ [])
or_else_nil [] b e = (refl, e)
or_else_nil (k ∷ ks) b e = absurd cc

-- which actions keep the values that are given
abbrev keeps : ArgAction → Bool
keeps Set = true
keeps SetTrue = true
keeps _ = false

abbrev has_value : Rule → Bool
has_value a = nat_lt 0 (unwrap_or_range a.range).start_inclusive || not (is_empty a.missing)

-- the argument keeps its values, and has one at each use
abbrev pub keeps_values : Rule → Bool
keeps_values a = keeps (action_of a) && has_value a

-- a row is right for an argument
pub record IsRight (a : Rule) (r : Row) : Type 0 where
  pub passed : values_fault a r.values ≡ []
  pub filled : 0 < length r.values
  pub reading : r.reading ≡ reading_by a

-- a row is right for the argument of its id
abbrev pub RowIsRight : List Rule → Row → Type 0
RowIsRight c r = (a : Rule) → arg_by_id c r.id ≡ Some a → keeps_values a ≡ true → IsRight a r

values_append : (i : Bool) (p : ValueParser) (xs ys : List Text) → values_kinds i p xs ≡ [] → values_kinds i p ys ≡ [] → values_kinds i p (xs ++ ys) ≡ []
values_append i p [] ys e f = f
values_append i p (x ∷ xs) ys e f =
    let s = or_else_nil (value_kinds i p x) (values_kinds i p xs) e in
    ap (λ k. or_else k (values_kinds i p (xs ++ ys))) s.0 ∙ values_append i p xs ys s.1 f

at_row_each : (P : Row → Type 0) (id : Text) (change : Row → List Row) (missing rows : List Row) → Each P rows
    → ((r : Row) → P r → bytes_eq r.id id ≡ true → Each P (change r)) → Each P missing → Each P (at_row id change missing rows)
at_row_each P id change missing [] h k m = m
at_row_each P id change missing (r ∷ rs) h k m = go (bytes_eq r.id id) refl (at_row_each P id change missing rs h.1 k m)
  where
    go : (b : Bool) → bytes_eq r.id id ≡ b → Each P (at_row id change missing rs)
        → Each P (if b then change r ++ rs else r ∷ at_row id change missing rs)
    go true e more = each_append P (change r) rs (k r h.0 e) h.1
    go false e more = (h.0, more)

-- an argument of the command is the one that its id finds
abbrev pub IsFirst : List Rule → Rule → Type 0
IsFirst c a = arg_by_id c a.id ≡ Some a

same_id : (x y : Text) → bytes_eq x y ≡ true → x ≡ y
same_id x y e = (bytes_eq-Decides x y).0 e

same_rule : (c : List Rule) (a b : Rule) (id : Text) → IsFirst c a → id ≡ a.id → arg_by_id c id ≡ Some b → a ≡ b
same_rule c a b id first is found = same_Some a b (sym first ∙ (ap (arg_by_id c) (sym is) ∙ found))

use_values : (c : List Rule) (a : Rule) (s : ValueSource) (vs : List Text) (rows : List Row) → IsFirst c a
    → (keeps_values a ≡ true → values_fault a vs ≡ []) → (keeps_values a ≡ true → 0 < length vs)
    → Each (RowIsRight c) rows → Each (RowIsRight c) (with_values a.id (reading_by a) s vs rows)
use_values c a s vs rows first pass fill h =
    at_row_each (RowIsRight c) a.id (more_values s vs) _ rows h
    (λ r right is. ((λ b found kept. more b r (right b found kept) (same_rule c a b r.id first (same_id _ _ is) found) kept), tt))
    ((λ b found kept. new b (same_rule c a b a.id first refl found) kept), tt)
  where
    more : (b : Rule) (r : Row) → IsRight b r → a ≡ b → keeps_values b ≡ true → IsRight b (record r { values = r.values ++ vs; source = Some (stronger r.source s) })
    more b r right same kept =
        let pass_b : values_fault b vs ≡ [] = subst (λ (x : Rule). keeps_values x ≡ true → values_fault x vs ≡ []) same pass kept in
        record {
          passed = values_append b.ignore_case (parser_of_value b.parser) r.values vs right.passed pass_b;
          filled = let f = right.filled in omega (arith, length-append r.values vs);
          reading = right.reading;
        }

    new : (b : Rule) → a ≡ b → keeps_values b ≡ true → IsRight b (record { id = a.id; values = vs; count = None; source = Some s; reading = reading_by a })
    new b same kept = record {
      passed = subst (λ (x : Rule). keeps_values x ≡ true → values_fault x vs ≡ []) same pass kept;
      filled = subst (λ (x : Rule). keeps_values x ≡ true → 0 < length vs) same fill kept;
      reading = ap reading_by same;
    }

-- a row of an argument that keeps no values
no_values : (c : List Rule) (a : Rule) (r : Row) → IsFirst c a → r.id ≡ a.id → keeps_values a ≡ false → RowIsRight c r
no_values c a r first is none b found kept =
    let same = same_rule c a b r.id first is found in
    let both : false ≡ true = sym none ∙ (ap keeps_values same ∙ kept) in
    absurd cc

use_count : (c : List Rule) (a : Rule) (s : ValueSource) (n : ℕ) (rows : List Row) → IsFirst c a → keeps_values a ≡ false
    → Each (RowIsRight c) rows → Each (RowIsRight c) (with_count a.id (reading_by a) s n rows)
use_count c a s n rows first none h = at_row_each (RowIsRight c) a.id (new_count s n) _ rows h
    (λ r right is. (no_values c a _ first (same_id _ _ is) none, tt))
    (no_values c a _ first refl none, tt)

without_each : (P : Row → Type 0) (id : Text) (rows : List Row) → Each P rows → Each P (without id rows)
without_each P id rows h = at_row_each P id (λ _. []) [] rows h (λ r right is. tt) tt

-- a use that finds no fault has a value, of its own or in place of one
use_filled : (a : Rule) (values : List Text) → range_kinds (unwrap_or_range a.range).start_inclusive (most_values a) (length values) ≡ []
    → keeps_values a ≡ true → 0 < length (values_or_missing a values)
use_filled a (v ∷ vs) e kept = omega arith
use_filled a [] e kept = go (keeps (action_of a)) (nat_lt 0 (unwrap_or_range a.range).start_inclusive) _ e kept
  where
    from_list : (xs : List Text) → not (is_empty xs) ≡ true → 0 < length xs
    from_list [] e = absurd cc
    from_list (x ∷ xs) e = omega arith

    go : (k b : Bool) (others : Kinds) → (if b && true then kind.InvalidValue ∷ [] else others) ≡ []
        → (k && (b || not (is_empty a.missing))) ≡ true → 0 < length a.missing
    go k true others e kept = absurd cc
    go true false others e kept = from_list a.missing kept
    go false false others e kept = absurd cc

-- a use that finds no fault leaves the rows right
used_each : (c : List Rule) (again : Bool) (a : Rule) (values : List Text) (rows : List Row) → IsFirst c a
    → use_fault again a values rows ≡ [] → Each (RowIsRight c) rows → Each (RowIsRight c) (used a values rows)
used_each c again a values rows first e h =
    let parts = or_else_nil _ _ e in
    go (action_of a) refl (values_or_missing a values) parts.1 (use_filled a values parts.0)
  where
    not_kept : (x : ArgAction) → action_of a ≡ x → keeps x ≡ false → keeps_values a ≡ false
    not_kept x is none = ap (λ (y : ArgAction). keeps y && has_value a) is ∙ ap (λ k. k && has_value a) none

    count : action_of a ≡ Count → (vs : List Text) → count_fault a vs rows ≡ [] → (keeps_values a ≡ true → 0 < length vs)
        → Each (RowIsRight c) (counted a.id (reading_by a) vs rows)
    count is [] f fill = use_count c a CommandLine (min (count_of a.id rows + 1) 255) (without a.id rows) first (not_kept Count is refl) (without_each (RowIsRight c) a.id rows h)
    count is (v ∷ vs) f fill = use_values c a CommandLine (v ∷ vs) (without a.id rows) first (λ _. f) fill (without_each (RowIsRight c) a.id rows h)

    go : (x : ArgAction) → action_of a ≡ x → (vs : List Text) → action_fault x again a vs rows ≡ [] → (keeps_values a ≡ true → 0 < length vs)
        → Each (RowIsRight c) (used_as x a.id (reading_by a) vs rows)
    go Set is vs f fill = use_values c a CommandLine vs (without a.id rows) first (λ _. (or_else_nil (repeat_fault again a.id rows) _ f).1) fill (without_each (RowIsRight c) a.id rows h)
    go SetTrue is vs f fill = use_values c a CommandLine vs (without a.id rows) first (λ _. (or_else_nil (repeat_fault again a.id rows) _ f).1) fill (without_each (RowIsRight c) a.id rows h)
    go SetFalse is vs f fill = use_values c a CommandLine vs (without a.id rows) first (λ _. (or_else_nil (repeat_fault again a.id rows) _ f).1) fill (without_each (RowIsRight c) a.id rows h)
    go Append is vs f fill = use_values c a CommandLine vs rows first (λ _. f) fill h
    go Count is vs f fill = count is vs f fill
    go other is vs f fill = h

-- each argument that a search finds is the first of its id
abbrev pub AllFirst : List Rule → Type 0
AllFirst c = (test : Rule → Bool) (a : Rule) → find test c ≡ Some a → IsFirst c a

settled_rows_each : (c : List Rule) (again : Bool) (p : Option (Text × List Text)) (rows : List Row) → AllFirst c
    → option_map_or (λ p. option_map_or (λ a. use_fault again a p.1 rows) (arg_by_id c p.0) []) p [] ≡ []
    → Each (RowIsRight c) rows → Each (RowIsRight c) (settled_rows c p rows)
settled_rows_each c again None rows firsts e h = h
settled_rows_each c again (Some p) rows firsts e h = go (arg_by_id c p.0) refl e
  where
    go : (o : Option Rule) → arg_by_id c p.0 ≡ o → option_map_or (λ a. use_fault again a p.1 rows) o [] ≡ []
        → Each (RowIsRight c) (used_by_id o p.1 rows)
    go None is e = h
    go (Some a) is e = used_each c again a p.1 rows (firsts _ a is) e h

settled_each : (c : List Rule) (again : Bool) (h : Held) → AllFirst c → settle_fault c again h ≡ [] → Each (RowIsRight c) h.rows
    → Each (RowIsRight c) (settled c h).rows
settled_each c again h firsts e right = settled_rows_each c again h.pending h.rows firsts e right

react_each : (c : List Rule) (again : Bool) (a : Rule) (values : List Text) (h : Held) → AllFirst c → IsFirst c a
    → react_fault c again a values h ≡ [] → Each (RowIsRight c) h.rows → Each (RowIsRight c) (reacted c a values h).rows
react_each c again a values h firsts first e right =
    let parts = or_else_nil (settle_fault c again h) _ e in
    used_each c again a values (settled c h).rows first parts.1 (settled_each c again h firsts parts.0 right)

option_each : (c : List Rule) (again : Bool) (a : Rule) (v : Option Text) (h : Held) → AllFirst c → IsFirst c a
    → option_fault c again a v h ≡ [] → Each (RowIsRight c) h.rows → Each (RowIsRight c) (option_met c a v h).0.rows
option_each c again a (Some v) h firsts first e right = react_each c again a (v ∷ []) h firsts first e right
option_each c again a None h firsts first e right = settled_each c again h firsts e right

long_each : (c : List Rule) (again : Bool) (o : Option Rule) (v : Option Text) (h : Held) → AllFirst c
    → ((a : Rule) → o ≡ Some a → IsFirst c a)
    → long_fault c again o v h ≡ [] → Each (RowIsRight c) h.rows → Each (RowIsRight c) (long_met c o v h).0.rows
long_each c again None v h firsts first e right = right
long_each c again (Some a) v h firsts first e right = go (takes_values a) v e
  where
    go : (b : Bool) (v : Option Text) → (if b then option_fault c again a v h else (if is_some v then kind.TooManyValues ∷ [] else react_fault c again a [] h)) ≡ []
        → Each (RowIsRight c) (if b then option_met c a v h else flag_met c a v h).0.rows
    go true v e = option_each c again a v h firsts (first a refl) e right
    go false (Some v) e = right
    go false None e = react_each c again a [] h firsts (first a refl) e right

-- the flags of a bundle
bundle_each : (c : List Rule) (again : Bool) (k : ℕ) (flags : Text) (skip : ℕ) (so_far : Outcome) (h : Held) → AllFirst c
    → flags_fault c again k flags skip h ≡ [] → Each (RowIsRight c) h.rows → Each (RowIsRight c) (bundle_met c k flags skip so_far h).0.rows
unfolding bundle_met flags_fault
bundle_each c again zero flags skip so_far h firsts e right = right
bundle_each c again (suc k) flags skip so_far h firsts e right =
    step (slice_get (chars flags) 0) skip (λ flags skip so_far h. bundle_each c again k flags skip so_far h firsts) e
  where
    Rest : Type 0
    Rest = (flags : Text) (skip : ℕ) (so_far : Outcome) (h : Held) → flags_fault c again k flags skip h ≡ []
        → Each (RowIsRight c) h.rows → Each (RowIsRight c) (bundle_met c k flags skip so_far h).0.rows

    short : (o : Option Rule) (rest : Text) → ((a : Rule) → o ≡ Some a → IsFirst c a) → Rest
        → short_fault c again o rest h (flags_fault c again k rest 0) ≡ []
        → Each (RowIsRight c) (short_met c o rest h (bundle_met c k rest 0 done)).0.rows
    short None rest first more e = right
    short (Some a) rest first more e = by_kind (takes_values a) e
      where
        by_kind : (b : Bool) → (if b then option_fault c again a (attached_value rest) h
            else or_else (react_fault c again a [] h) (flags_fault c again k rest 0 (reacted c a [] h))) ≡ []
            → Each (RowIsRight c) (if b then option_met c a (attached_value rest) h else bundle_met c k rest 0 done (reacted c a [] h)).0.rows
        by_kind true e = option_each c again a (attached_value rest) h firsts (first a refl) e right
        by_kind false e =
            let parts = or_else_nil (react_fault c again a [] h) _ e in
            more rest 0 done (reacted c a [] h) parts.1 (react_each c again a [] h firsts (first a refl) parts.0 right)

    step : (x : Option ℕ) (skip : ℕ) → Rest → bundle_step_fault c again x flags skip h (flags_fault c again k) ≡ []
        → Each (RowIsRight c) (bundle_step c x flags skip so_far h (bundle_met c k)).0.rows
    step None skip more e = right
    step (Some x) zero more e = short (arg_by_short c x) (drop (length (encode_utf8 x)) flags) (firsts _) more e
    step (Some x) (suc skip) more e = more (drop (length (encode_utf8 x)) flags) skip so_far h e right

-- a word that is no flag changes no row
plain_rows : (c : List Rule) (waiting : Waiting) (word : Text) (h : Held) → (plain_word c waiting word h).0.rows ≡ h.rows
plain_rows c idle word h = refl
plain_rows c positional word h = refl
plain_rows c (option id) word h = go (arg_by_id c id)
  where
    go : (o : Option Rule) → (option_word o id word h).0.rows ≡ h.rows
    go None = refl
    go (Some a) = refl

after_rows : (c : List Rule) (waiting : Waiting) (word : Text) (h : Held) (o : Outcome) → (after_flag c waiting word h o).0.rows ≡ h.rows
after_rows c waiting word h done = refl
after_rows c waiting word h (waits id) = refl
after_rows c waiting word h plain = plain_rows c waiting word h
after_rows c waiting word h refused = plain_rows c waiting word h

other_each : (c : List Rule) (again : Bool) (waiting : Waiting) (word : Text) (p : Option (Text × Option Text)) (h : Held) → AllFirst c
    → flag_word_fault c again p word h ≡ [] → Each (RowIsRight c) h.rows → Each (RowIsRight c) (long_or_other c waiting word p h).0.rows
other_each c again waiting word (Some p) h firsts e right =
    subst (Each (RowIsRight c)) (sym (after_rows c waiting word _ _)) (long_each c again (arg_by_long c p.0) p.1 h firsts (firsts _) e right)
other_each c again waiting word None h firsts e right = go (short_of word) e
  where
    go : (o : Option Text) → option_map_or (λ flags. bundle_fault c again flags h) o [] ≡ []
        → Each (RowIsRight c) (short_or_plain c waiting word o h).0.rows
    go None e = subst (Each (RowIsRight c)) (sym (plain_rows c waiting word h)) right
    go (Some flags) e = subst (Each (RowIsRight c)) (sym (after_rows c waiting word _ _))
        (bundle_each c again (length flags) flags h.skip plain (record h { skip = 0 }) firsts e right)

word_each : (s : Shape) (names : Names) (is_trailing : Bool) (waiting : Waiting) (position : ℕ) (word : Text) (h : Held) → AllFirst s.rules
    → word_fault s names is_trailing waiting word h ≡ [] → Each (RowIsRight s.rules) h.rows
    → Each (RowIsRight s.rules) (word_met s.rules names is_trailing waiting position word h).0.rows
word_each s names true waiting position word h firsts e right = right
word_each s names false waiting position word h firsts e right = go (subcommand_met names waiting word) e
  where
    dashes : (b : Bool) → (if b then [] else flag_word_fault s.rules s.args_override_self (long_of word) word h) ≡ []
        → Each (RowIsRight s.rules) (if b then (h, trailing position) else long_or_other s.rules waiting word (long_of word) h).0.rows
    dashes true e = right
    dashes false e = other_each s.rules s.args_override_self waiting word (long_of word) h firsts e right

    go : (o : Option Text) → other_fault s o word h ≡ [] → Each (RowIsRight s.rules) (subcommand_or_other s.rules o waiting position word h).0.rows
    go (Some name) e = right
    go None e = dashes (bytes_eq word (45 ∷ 45 ∷ [])) e

step_each : (s : Shape) (word : Text) (w : Walk) (h : Held) (step : Step) → AllFirst s.rules
    → step_fault s w.position h step ≡ [] → Each (RowIsRight s.rules) h.rows → Each (RowIsRight s.rules) (after_step s.rules word w h step).held.rows
step_each s word w h (next waiting) firsts e right = right
step_each s word w h (trailing position) firsts e right = right
step_each s word w h (subcommand name) firsts e right = right
step_each s word w h value firsts e right = go (arg_by_index s.rules w.position) e
  where
    held : (b : Bool) (a : Rule) → (if b then [] else settle_fault s.rules s.args_override_self h) ≡ []
        → Each (RowIsRight s.rules) (if b then h else settled s.rules h).rows
    held true a e = right
    held false a e = settled_each s.rules s.args_override_self h firsts e right

    go : (o : Option Rule) → option_map_or (λ a. positional_fault s.rules s.args_override_self a h) o (stray_fault s) ≡ []
        → Each (RowIsRight s.rules) (to_positional s.rules o word w h).held.rows
    go None e = right
    go (Some a) e = held (is_pending a h.pending && takes_several a) a e

turn_each : (s : Shape) (names : Names) (w : Walk) (word : Text) → AllFirst s.rules → turn_fault s names w word ≡ []
    → Each (RowIsRight s.rules) w.held.rows → Each (RowIsRight s.rules) (walked s.rules names w word).held.rows
unfolding walked
turn_each s names w word firsts e right = go w.stopped e
  where
    met : Held × Step
    met = word_met s.rules names w.is_trailing w.waiting w.position word w.held

    go : (p : Option (Text × List Text)) → (if is_some p then [] else or_else (word_fault s names w.is_trailing w.waiting word w.held)
        (step_fault s w.position (word_met s.rules names w.is_trailing w.waiting w.position word w.held).0 (word_met s.rules names w.is_trailing w.waiting w.position word w.held).1)) ≡ []
        → Each (RowIsRight s.rules) (walked_from s.rules names p w word).held.rows
    go (Some p) e = right
    go None e =
        let parts = or_else_nil (word_fault s names w.is_trailing w.waiting word w.held) _ e in
        step_each s word w _ _ firsts parts.1 (word_each s names w.is_trailing w.waiting w.position word w.held firsts parts.0 right)

walk_each : (s : Shape) (names : Names) (w : Walk) (words : List Text) → AllFirst s.rules → walk_fault s names w words ≡ []
    → Each (RowIsRight s.rules) w.held.rows → Each (RowIsRight s.rules) (fold (walked s.rules names) w words).held.rows
unfolding walk_fault
walk_each s names w [] firsts e right = right
walk_each s names w (word ∷ rest) firsts e right =
    let parts = or_else_nil (turn_fault s names w word) _ e in
    walk_each s names (walked s.rules names w word) rest firsts parts.1 (turn_each s names w word firsts parts.0 right)

-- ---- the defaults

not_nil : {X : Type 0} (x : X) (xs : List X) → is_empty (x ∷ xs) ≡ false
not_nil x xs = go (is_empty (x ∷ xs)) refl
  where
    go : (b : Bool) → is_empty (x ∷ xs) ≡ b → b ≡ false
    go true e = let bad = is_nil (x ∷ xs) e in absurd cc
    go false e = refl

default_each : (c : List Rule) (rows : List Row) (a : Rule) → IsFirst c a → default_fault rows a ≡ [] → Each (RowIsRight c) rows
    → Each (RowIsRight c) (with_default rows a)
default_each c rows a first e right = go (has_row a.id rows) e
  where
    values : (ds : List Text) → (if is_empty ds then [] else given_default_fault a ds) ≡ []
        → Each (RowIsRight c) (default_rows a.id (reading_by a) ds rows)
    values [] e = right
    values (v ∷ vs) e =
        let given : given_default_fault a (v ∷ vs) ≡ [] = rw (not_nil v vs) at e in
        let parts = or_else_nil (request_kinds (action_of a)) _ given in
        use_values c a DefaultValue (v ∷ vs) rows first (λ _. parts.1) (λ _. omega arith) right

    go : (b : Bool) → (if b || is_empty a.defaults then [] else given_default_fault a a.defaults) ≡ []
        → Each (RowIsRight c) (if b then rows else default_rows a.id (reading_by a) a.defaults rows)
    go true e = right
    go false e = values a.defaults e

defaults_each : (c xs : List Rule) (rows : List Row) → Each (IsFirst c) xs → defaults_fault rows xs ≡ [] → Each (RowIsRight c) rows
    → Each (RowIsRight c) (fold with_default rows xs)
unfolding defaults_fault
defaults_each c [] rows firsts e right = right
defaults_each c (a ∷ rest) rows firsts e right =
    let parts = or_else_nil (default_fault rows a) _ e in
    defaults_each c rest (with_default rows a) firsts.1 parts.1 (default_each c rows a firsts.0 parts.0 right)

-- the rows of a subcommand that finds no fault are right
pub level_each : (s : Shape) (words : List Text) → Each (IsFirst s.rules) s.rules → level_fault s [] nothing_held words false [] ≡ []
    → Each (RowIsRight s.rules) (rows_after s.rules [] words)
level_each s words each e =
    let firsts : AllFirst s.rules = λ test a found. each_found (IsFirst s.rules) test s.rules a each found in
    let walk_part = or_else_nil (walk_fault s [] (walk_from nothing_held) words) _ e in
    let settle_part = or_else_nil (settle_fault s.rules s.args_override_self (walk s.rules [] nothing_held words).held) _ walk_part.1 in
    let default_part = or_else_nil (defaults_fault (settled s.rules (walk s.rules [] nothing_held words).held).rows s.rules) _ settle_part.1 in
    defaults_each s.rules s.rules _ each default_part.0
    (settled_each s.rules s.args_override_self (walk s.rules [] nothing_held words).held firsts settle_part.0
    (walk_each s [] (walk_from nothing_held) words firsts walk_part.0 tt))

-- ---- what the rows have

true_or : (b x y : Bool) → (x ≡ true → y ≡ true) → (b || x) ≡ true → (b || y) ≡ true
true_or true x y more e = refl
true_or false x y more e = more e

has_row_kept : (id other : Text) (s : ValueSource) (vs : List Text) (missing rows : List Row) → has_row id rows ≡ true
    → has_row id (at_row other (more_values s vs) missing rows) ≡ true
has_row_kept id other s vs missing [] e = absurd cc
has_row_kept id other s vs missing (r ∷ rs) e = go (bytes_eq r.id other) (has_row_kept id other s vs missing rs)
  where
    go : (o : Bool) → (has_row id rs ≡ true → has_row id (at_row other (more_values s vs) missing rs) ≡ true)
        → has_row id (if o then more_values s vs r ++ rs else r ∷ at_row other (more_values s vs) missing rs) ≡ true
    go true more = e
    go false more = true_or (bytes_eq r.id id) _ _ more e

has_row_made : (id : Text) (how : Reading) (s : ValueSource) (vs : List Text) (rows : List Row) → has_row id (with_values id how s vs rows) ≡ true
has_row_made id how s vs [] = ap (λ b. b || false) ((bytes_eq-Decides id id).1 refl)
has_row_made id how s vs (r ∷ rs) = go (bytes_eq r.id id) refl (has_row_made id how s vs rs)
  where
    missing : List Row
    missing = record { id = id; values = vs; count = None; source = Some s; reading = how } ∷ []

    go : (o : Bool) → bytes_eq r.id id ≡ o → has_row id (at_row id (more_values s vs) (record { id = id; values = vs; count = None; source = Some s; reading = how } ∷ []) rs) ≡ true
        → has_row id (if o then more_values s vs r ++ rs else r ∷ at_row id (more_values s vs) (record { id = id; values = vs; count = None; source = Some s; reading = how } ∷ []) rs) ≡ true
    go true is more = ap (λ b. b || has_row id rs) is
    go false is more = or_right (bytes_eq r.id id) _ more

has_row_default : (id : Text) (rows : List Row) (a : Rule) → has_row id rows ≡ true → has_row id (with_default rows a) ≡ true
has_row_default id rows a e = go (has_row a.id rows) a.defaults
  where
    go : (b : Bool) (ds : List Text) → has_row id (if b then rows else default_rows a.id (reading_by a) ds rows) ≡ true
    go true ds = e
    go false [] = e
    go false (v ∷ vs) = has_row_kept id a.id DefaultValue (v ∷ vs) _ rows e

has_row_fold : (id : Text) (xs : List Rule) (rows : List Row) → has_row id rows ≡ true → has_row id (fold with_default rows xs) ≡ true
has_row_fold id [] rows e = e
has_row_fold id (a ∷ rest) rows e = has_row_fold id rest (with_default rows a) (has_row_default id rows a e)

made_default : (rows : List Row) (a : Rule) → is_empty a.defaults ≡ false → has_row a.id (with_default rows a) ≡ true
made_default rows a some = go (has_row a.id rows) refl a.defaults some
  where
    go : (b : Bool) → has_row a.id rows ≡ b → (ds : List Text) → is_empty ds ≡ false
        → has_row a.id (if b then rows else default_rows a.id (reading_by a) ds rows) ≡ true
    go true is ds some = is
    go false is [] some = absurd cc
    go false is (v ∷ vs) some = has_row_made a.id (reading_by a) DefaultValue (v ∷ vs) rows

-- each argument with a default has a row
abbrev pub HasRowIfDefault : List Row → Rule → Type 0
HasRowIfDefault rows a = is_empty a.defaults ≡ false → has_row a.id rows ≡ true

made_fold : (xs : List Rule) (rows : List Row) → Each (HasRowIfDefault (fold with_default rows xs)) xs
made_fold [] rows = tt
made_fold (a ∷ rest) rows = (
  λ some. has_row_fold a.id rest (with_default rows a) (made_default rows a some),
  made_fold rest (with_default rows a),
)

pub rows_made : (c : List Rule) (words : List Text) → Each (HasRowIfDefault (rows_after c [] words)) c
rows_made c words = made_fold c (settled c (walk c [] nothing_held words).held).rows

-- a row that is there is found
found_row : (id : Text) (rows : List Row) → has_row id rows ≡ true
    → (r : Row) × (find (λ r. bytes_eq r.id id) rows ≡ Some r) × (r.id ≡ id)
found_row id [] e = absurd cc
found_row id (r ∷ rs) e = go (bytes_eq r.id id) refl (found_row id rs) e
  where
    go : (b : Bool) → bytes_eq r.id id ≡ b
        → (has_row id rs ≡ true → (q : Row) × (find (λ q. bytes_eq q.id id) rs ≡ Some q) × (q.id ≡ id))
        → (b || has_row id rs) ≡ true
        → (q : Row) × ((if b then Some r else find (λ q. bytes_eq q.id id) rs) ≡ Some q) × (q.id ≡ id)
    go true is more e = (r, refl, same_id r.id id is)
    go false is more e = more e

accepted : (i : Bool) (p : ValueParser) (v : Text) (vs : List Text) → values_kinds i p (v ∷ vs) ≡ [] → accepts i p v ≡ true
accepted i p v vs e = go (accepts i p v) (or_else_nil (value_kinds i p v) _ e).0
  where
    go : (b : Bool) → (if b then [] else refused_kind p ∷ []) ≡ [] → b ≡ true
    go true e = refl
    go false e = absurd cc

-- what a getter reads of an argument with a default: a text that its parser accepts
pub one_value : (c : List Rule) (rows : List Row) (a : Rule) → Each (RowIsRight c) rows → IsFirst c a → keeps_values a ≡ true
    → has_row a.id rows ≡ true
    → (v : Text) × (one_of a.id rows ≡ Some (read_as (reading_by a) v)) × (accepts a.ignore_case (parser_of_value a.parser) v ≡ true)
one_value c rows a each first kept has =
    let got = found_row a.id rows has in
    let right_for : RowIsRight c got.0 = each_found (RowIsRight c) (λ r. bytes_eq r.id a.id) rows got.0 each got.1 in
    let right = right_for a (ap (arg_by_id c) got.2 ∙ first) kept in
    let text = first_text got.0.values right.filled right.passed in
    (text.0, ap (option_and_then row_text) got.1 ∙ (ap (option_map (read_as got.0.reading)) text.1 ∙ ap (λ how. Some (read_as how text.0)) right.reading), text.2)
  where
    first_text : (vs : List Text) → 0 < length vs → values_fault a vs ≡ []
        → (v : Text) × (slice_get vs 0 ≡ Some v) × (accepts a.ignore_case (parser_of_value a.parser) v ≡ true)
    first_text [] lt e = absurd (omega arith)
    first_text (v ∷ vs) lt e = (v, refl, accepted a.ignore_case (parser_of_value a.parser) v vs e)

-- the same of an argument that may have no row
no_row : (id : Text) (rows : List Row) → has_row id rows ≡ false → find (λ r. bytes_eq r.id id) rows ≡ None
no_row id [] e = refl
no_row id (r ∷ rs) e = go (bytes_eq r.id id) (no_row id rs) e
  where
    go : (b : Bool) → (has_row id rs ≡ false → find (λ q. bytes_eq q.id id) rs ≡ None) → (b || has_row id rs) ≡ false
        → (if b then Some r else find (λ q. bytes_eq q.id id) rs) ≡ None
    go true more e = absurd cc
    go false more e = more e

pub value_if_any : (c : List Rule) (rows : List Row) (a : Rule) → Each (RowIsRight c) rows → IsFirst c a → keeps_values a ≡ true
    → (one_of a.id rows ≡ None) ⊎ ((v : Text) × (one_of a.id rows ≡ Some (read_as (reading_by a) v)) × (accepts a.ignore_case (parser_of_value a.parser) v ≡ true))
value_if_any c rows a each first kept = go (has_row a.id rows) refl
  where
    go : (b : Bool) → has_row a.id rows ≡ b
        → (one_of a.id rows ≡ None) ⊎ ((v : Text) × (one_of a.id rows ≡ Some (read_as (reading_by a) v)) × (accepts a.ignore_case (parser_of_value a.parser) v ≡ true))
    go true is = inr (one_value c rows a each first kept is)
    go false is = inl (ap (option_and_then row_text) (no_row a.id rows is))

-- and the number that it writes lies in the range
pub one_number : (c : List Rule) (rows : List Row) (a : Rule) (low high : ℕ) → Each (RowIsRight c) rows → IsFirst c a → keeps_values a ≡ true
    → has_row a.id rows ≡ true → a.parser ≡ Some (vp.Unsigned low high)
    → IsSomeAnd (one_of a.id rows) (IsUnsignedIn low high)
one_number c rows a low high each first kept has parser =
    let got = one_value c rows a each first kept has in
    let as_parsed : accepts a.ignore_case (vp.Unsigned low high) got.0 ≡ true = ap (λ p. accepts a.ignore_case (parser_of_value p) got.0) (sym parser) ∙ got.2 in
    let is : one_of a.id rows ≡ Some got.0 = got.1 ∙ ap (λ p. Some (read_as (reading_of (parser_of_value p)) got.0)) parser in
    let holds : IsUnsignedIn low high got.0 = accepts-Accepts a.ignore_case (vp.Unsigned low high) got.0 as_parsed in
    subst (λ (o : Option Text). IsSomeAnd o (IsUnsignedIn low high)) (sym is) holds
