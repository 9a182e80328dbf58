use Rattle.std.proofs.Common.{◌≡◌, map, take}
use Rattle.std.specs.Prelude.{string_bytes}
use Rattle.tsume_words.specs.Meaning.{all_words}
use Rattle.tsume_words.proofs.reading.with_program.Given as goal

abbrev pub invariant-loop-word : goal.invariant-loop-word
invariant-loop-word l = map (λ text. text.now) l.texts.items ≡ all_words (map string_bytes (take l.word-index l.words))
