use Rattle.std.proofs.Common.{◌∙◌, sym, refl}
use Rattle.std.proofs.lemmas.Option.{same_Some}
use Rattle.std.specs.Str.Parse.{ExplainsUnsignedError, HasUnsignedDigitsIfOk, ParsesUnsigned}
use Rattle.clap.specs.Words.{found_of}
use Rattle.clap.proofs.WalkLemmas.{one_text-rows}
use Rattle.tsume_words.proofs.Texts.{number_read}
use Rattle.tsume_words.proofs.given.number.Goals as goal

pub unwrap-requires : goal.unwrap-requires
unwrap-requires c =
    let is = number_read (λ bs r. ParsesUnsigned 64 10 bs r × ExplainsUnsignedError 10 bs r × HasUnsignedDigitsIfOk bs r) _ c.get_one.result
    (λ t e. c.get_one.ensures.value t (one_text-rows (found_of c.args.given.now) c.args.name.now ∙ e)) (λ u x g. g.0) c.requires in
    rw is refl

pub returns : goal.returns
returns c =
    let is = number_read (λ bs r. ParsesUnsigned 64 10 bs r × ExplainsUnsignedError 10 bs r × HasUnsignedDigitsIfOk bs r) _ c.get_one.result
    (λ t e. c.get_one.ensures.value t (one_text-rows (found_of c.args.given.now) c.args.name.now ∙ e)) (λ u x g. g.0) c.requires in
    same_Some _ _ (sym c.unwrap.ensures ∙ is)
