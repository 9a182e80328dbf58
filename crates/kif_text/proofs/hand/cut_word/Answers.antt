use Rattle.std.proofs.Common.{refl, arith}
use Rattle.kif_text.specs.Characters.{is_blank}
use Rattle.kif_text.proofs.Texts.{words_cut, words_whole, blank_taken}
use Rattle.kif_text.proofs.hand.cut_word.Goals as goal

pub returns-in-Some-clause-words : goal.returns-in-Some-clause-words
returns-in-Some-clause-words c =
    let h = c.in-Some.ensures.cases in
    (words_cut c.args.text.now c.in-Some.cut.0.now c.in-Some.cut.1.now h.0 h.1 c.utf8.text (h.2 is_blank (λ _. refl)) h.3 h.4).0

pub returns-in-Some-clause-word : goal.returns-in-Some-clause-word
returns-in-Some-clause-word c =
    let h = c.in-Some.ensures.cases in
    (words_cut c.args.text.now c.in-Some.cut.0.now c.in-Some.cut.1.now h.0 h.1 c.utf8.text (h.2 is_blank (λ _. refl)) h.3 h.4).1

pub returns-in-Some-clause-rest : goal.returns-in-Some-clause-rest
returns-in-Some-clause-rest c =
    let h = c.in-Some.ensures.cases in
    (words_cut c.args.text.now c.in-Some.cut.0.now c.in-Some.cut.1.now h.0 h.1 c.utf8.text (h.2 is_blank (λ _. refl)) h.3 h.4).2

pub returns-in-Some-clause-shorter : goal.returns-in-Some-clause-shorter
returns-in-Some-clause-shorter c =
    let h = c.in-Some.ensures.cases in
    omega (arith, blank_taken c.args.text.now h.0 h.1 (h.2 is_blank (λ _. refl)), h.7)

pub returns-in-None-clause-words : goal.returns-in-None-clause-words
returns-in-None-clause-words c = words_whole c.args.text.now c.utf8.text (c.in-None.ensures.cases is_blank (λ _. refl))
