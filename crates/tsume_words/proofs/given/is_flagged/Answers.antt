use Rattle.std.proofs.Common.{◌∙◌}
use Rattle.clap.specs.Words.{found_of, rows_of, one_of}
use Rattle.clap.proofs.WalkLemmas.{one_text-rows}
use Rattle.tsume_words.proofs.Texts.{flag_read}
use Rattle.tsume_words.proofs.given.is_flagged.Goals as goal

pub returns : goal.returns
returns c =
    let same = one_text-rows (found_of c.args.given.now) c.args.name.now in
    flag_read (one_of c.args.name.now (rows_of (found_of c.args.given.now))) c.get_flag.result (λ e. c.get_flag.ensures.value (same ∙ e)) (λ e. c.get_flag.ensures.other (same ∙ e)) c.requires
