use Rattle.std.proofs.Common.{◌≡◌, ◌<◌, ◌++◌, ◌∷◌, [], List, ℕ, length, refl, sym, ap, ◌∙◌, arith, rules, append_assoc}
use Rattle.std.proofs.lemmas.Bool.Decides.{nat_tests}
use Rattle.std.proofs.lemmas.List.{append-nil}
use Rattle.std.specs.Prelude.{codes}
use Rattle.std.specs.Str.{chars, encode_utf8_all}
use Rattle.kif_text.specs.Words.{words, HasWordFault, HasHandFault, hand_with}
use Rattle.kif_text.proofs.First.{none_in_nothing, none_in_more, none_or_first}
use Rattle.kif_text.proofs.Hands.{nothing_named, none_named}
use Rattle.kif_text.proofs.Texts.{text_is, text_is_not, word_next, word_skipped, no_words}
use Rattle.kif_text.proofs.hand.hand_of.Goals as goal

pub returns-then-eq : goal.returns-then-eq
unfolding lib.Utf8.encode
returns-then-eq c =
    let none : c.args.text.now ≡ encode_utf8_all (codes "なし") = text_is c.args.text.now _ _ c.eq.ensures c.if-eq.true in
    (λ fault there. there.0 none, c.empty-hand.ensures ∙ none_named c.args.text.now none)

pub loop-rest-init : goal.loop-rest-init
loop-rest-init c = (c.utf8.text, ([], refl, none_in_nothing (HasWordFault c.args.line), c.empty-hand.ensures ∙ nothing_named))

pub returns-in_err-hand : goal.returns-in_err-hand
unfolding lib.Utf8.encode
returns-in_err-hand c =
    let k = c.loop-rest.invariant.1 in
    let some : 0 < length c.cut_word.result.0.now = grind (arith, nat_tests) in
    let there : HasHandFault c.args.line c.args.text.now c.in_err-hand.field-0.0 = (
      text_is_not c.args.text.now _ _ c.eq.ensures c.if-eq.false,
      record {
        before = k.0;
        here = chars c.cut_word.result.0.now;
        behind = words (chars c.cut_word.result.1.now);
        parts = k.1 ∙ ap (λ (l : List (List ℕ)). k.0 ++ l) (word_next c.loop-rest.rest.now c.cut_word.result.0.now c.cut_word.result.1.now c.cut_word.ensures.word some c.cut_word.ensures.words);
        there = c.in_err-hand.ensures k.0 k.3;
        none = k.2;
      },
    ) in
    search (rules, there)

pub loop-rest-preserved-in_ok-hand : goal.loop-rest-preserved-in_ok-hand
loop-rest-preserved-in_ok-hand c =
    let k = c.loop-rest.invariant.1 in
    let some : 0 < length c.cut_word.result.0.now = grind (arith, nat_tests) in
    let read = c.in_ok-hand.ensures k.0 k.3 in (
      c.cut_word.ensures.rest,
      (
        k.0 ++ chars c.cut_word.result.0.now ∷ [],
        k.1 ∙ ap (λ (l : List (List ℕ)). k.0 ++ l) (word_next c.loop-rest.rest.now c.cut_word.result.0.now c.cut_word.result.1.now c.cut_word.ensures.word some c.cut_word.ensures.words) ∙ sym (append_assoc k.0 (chars c.cut_word.result.0.now ∷ []) (words (chars c.cut_word.result.1.now))),
        none_in_more (HasWordFault c.args.line) k.0 (chars c.cut_word.result.0.now) k.2 read.0,
        read.1,
      ),
    )

pub loop-rest-preserved : goal.loop-rest-preserved
loop-rest-preserved c =
    let k = c.loop-rest.invariant.1 in
    let none : length c.cut_word.result.0.now ≡ 0 = grind (arith, nat_tests) in
    (c.cut_word.ensures.rest, (k.0, k.1 ∙ ap (λ (l : List (List ℕ)). k.0 ++ l) (word_skipped c.loop-rest.rest.now c.cut_word.result.0.now c.cut_word.result.1.now none c.cut_word.ensures.words), k.2, k.3))

pub returns : goal.returns
returns c =
    let k = c.loop-rest.invariant.1 in
    let none : length c.loop-rest.rest.now ≡ 0 = grind (arith, nat_tests) in
    let all : words (chars c.args.text.now) ≡ k.0 = k.1 ∙ ap (λ (l : List (List ℕ)). k.0 ++ l) (no_words c.loop-rest.rest.now none) ∙ append-nil k.0 in
    (λ fault there. none_or_first (HasWordFault c.args.line) k.0 fault k.2 (let h = there.1 in record { before = h.before; here = h.here; behind = h.behind; parts = sym all ∙ h.parts; there = h.there; none = h.none }), k.3 ∙ ap hand_with (sym all))
