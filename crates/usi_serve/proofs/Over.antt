-- What was done over several lines.
use Rattle.std.proofs.Common.{List, [], ◌∷◌, ◌++◌, ℕ, refl, sym, ◌∙◌, ap, append_assoc, append-nil, subst}
use Rattle.search_gate.specs.Stop.{Signal}
use Rattle.usi_session.specs.Sessions.{ActView}
use Rattle.usi_serve.specs.Served.{IsDone, AreDone}
use Rattle.usi_serve.specs.declared.reply.Reply.{Reply}

-- one act more was done
pub act_more : (acts : List ActView) (act : ActView) (a b c : List Signal) (text said : List ℕ) (replies own : List Reply)
    → AreDone acts a text replies b → IsDone act (record { before = b; after = c }) said own
    → AreDone (acts ++ act ∷ []) a (text ++ said) (replies ++ own) c
act_more [] act a b c text said replies own (no_text, no_replies, same) done = (
  said,
  [],
  own,
  [],
  c,
  ap (λ l. l ++ said) no_text ∙ sym (append-nil said),
  ap (λ l. l ++ own) no_replies ∙ sym (append-nil own),
  subst (λ (s : List Signal). IsDone act (record { before = s; after = c }) said own) same done,
  (refl, refl, refl),
)
act_more (first ∷ acts) act a b c text said replies own (its, others, ones, rest, between, is_text, is_replies, one, more) done = (
  its,
  others ++ said,
  ones,
  rest ++ own,
  between,
  ap (λ l. l ++ said) is_text ∙ append_assoc its others said,
  ap (λ l. l ++ own) is_replies ∙ append_assoc ones rest own,
  one,
  act_more acts act between b c others said rest own more done,
)
