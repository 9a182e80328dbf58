use Rattle.std.proofs.Common.{◌∙◌}
use Rattle.std.specs.Str.Parse.{ExplainsUnsignedError, HasUnsignedDigitsIfOk, ParsesUnsigned}
use Rattle.clap.specs.Words.{found_of}
use Rattle.clap.proofs.WalkLemmas.{one_text-rows}
use Rattle.tsume_words.proofs.Texts.{number_read_if}
use Rattle.tsume_words.proofs.given.number_if_given.Goals as goal

pub returns : goal.returns
returns c =
    let same = one_text-rows (found_of c.args.given.now) c.args.name.now in
    number_read_if (λ bs r. ParsesUnsigned 64 10 bs r × ExplainsUnsignedError 10 bs r × HasUnsignedDigitsIfOk bs r) _ c.get_one.result
    (λ e. c.get_one.ensures.none (same ∙ e)) (λ t e. c.get_one.ensures.value t (same ∙ e)) (λ u x g. g.0) c.requires
