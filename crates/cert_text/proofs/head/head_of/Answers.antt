use Rattle.std.proofs.Common.{◌≡◌, ap, subst, sym, ◌∙◌, inl, inr}
use Rattle.std.proofs.lemmas.Bool.{true≢false}
use Rattle.cert_text.specs.declared.head.Claim.{Claim}
use Rattle.cert_text.specs.declared.head.Title.{Title}
use Rattle.cert_text.specs.Reading.{IsFrontLine}
use Rattle.cert_text.proofs.Cuts.{if_none}
use Rattle.cert_text.proofs.Heads.{no_line, head_cut, front_apart, one_front, one_bare, fronted_head}
use Rattle.cert_text.proofs.head.head_of.Goals as goal

pub returns-in_default-clause-none : goal.returns-in_default-clause-none
returns-in_default-clause-none c = λ title count sfen rest. no_line title count sfen rest c.args.text.now c.in_default.ensures.none

pub returns-in_default-claim_of_front-clause-none : goal.returns-in_default-claim_of_front-clause-none
returns-in_default-claim_of_front-clause-none c = if_none c.bare_head_of.result _ _ (λ bare. λ title count sfen rest h.
    elim (head_cut title count sfen rest c.args.text.now c.in-Some.first.now c.in-Some.more.now c.in-Some.ensures.parts c.in-Some.ensures.front h) [
      | inl at ↦ bare title count sfen rest h.is_count h.is_line at.0
      | inr at ↦ c.in_default-claim_of_front.ensures.none title.claim at.0
    ]) c.bare_head_of.ensures.none

pub returns-in_default-bare_head_of-clause-none : goal.returns-in_default-bare_head_of-clause-none
returns-in_default-bare_head_of-clause-none c = λ title count sfen rest h.
    elim (head_cut title count sfen rest c.args.text.now c.in-Some.first.now c.in-Some.more.now c.in-Some.ensures.parts c.in-Some.ensures.front h) [
      | inl at ↦ front_apart c.in-Some-claim_of_front.claim title count c.in-Some.first.now c.in-Some-claim_of_front.ensures.found at.1
      | inr at ↦ c.in_default-bare_head_of.ensures.none title count sfen rest h.is_count h.is_line at.1
    ]

pub returns-then-not-is_same-clause-none : goal.returns-then-not-is_same-clause-none
returns-then-not-is_same-clause-none c = λ title count sfen rest h.
    elim (head_cut title count sfen rest c.args.text.now c.in-Some.first.now c.in-Some.more.now c.in-Some.ensures.parts c.in-Some.ensures.front h) [
      | inl at ↦ front_apart c.in-Some-claim_of_front.claim title count c.in-Some.first.now c.in-Some-claim_of_front.ensures.found at.1
      | inr at ↦ (
          let one = one_bare title c.in-Some-bare_head_of.head.title count c.in-Some-bare_head_of.head.count sfen c.in-Some-bare_head_of.head.sfen.now rest c.in-Some-bare_head_of.head.rest.now
          h.is_count c.in-Some-bare_head_of.ensures.count h.is_line c.in-Some-bare_head_of.ensures.sfen (sym at.1 ∙ c.in-Some-bare_head_of.ensures.text) in
          let front = one_front title.claim c.in-Some-claim_of_front.claim c.in-Some.first.now at.0 c.in-Some-claim_of_front.ensures.found in
          true≢false (sym (c.is_same.ensures.1 (sym (ap (λ (t : Title). t.claim) one.0) ∙ front)) ∙ c.if-not-is_same.true))
    ]

pub returns-clause-found : goal.returns-clause-found
returns-clause-found c =
    let same : c.in-Some-bare_head_of.head.title.claim ≡ c.in-Some-claim_of_front.claim = c.is_same.ensures.0 c.if-not-is_same.false in
    let front = subst (λ (claim : Claim). IsFrontLine claim c.in-Some.first.now) (sym same) c.in-Some-claim_of_front.ensures.found in
    fronted_head c.in-Some-bare_head_of.head.title c.in-Some-bare_head_of.head.count c.in-Some-bare_head_of.head.sfen.now c.in-Some-bare_head_of.head.rest.now
    c.args.text.now c.in-Some.first.now c.in-Some.more.now c.in-Some.ensures.parts front c.in-Some-bare_head_of.ensures.count c.in-Some-bare_head_of.ensures.sfen c.in-Some-bare_head_of.ensures.text
