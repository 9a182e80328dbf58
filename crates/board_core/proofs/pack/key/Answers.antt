use Rattle.std.proofs.Common.{◌≡◌, [], ◌∷◌, length, ap, ◌∙◌}
use Rattle.board_core.specs.Code.{cells_of}
use Rattle.board_core.specs.Key.{packed_cells, key_of, key_word}
use Rattle.board_core.proofs.Packing.{last_word}
use Rattle.board_core.proofs.KeyExact.{key_exact}
use Rattle.board_core.proofs.pack.key.Goals as goal

words : (c : goal.After-hands_and_side)
    → c.word.result ∷ c.word-2.result ∷ c.word-3.result ∷ c.word-4.result ∷ c.word-5.result ∷ c.word-6.result ∷ c.word-7.result ∷ c.hands_and_side.result ∷ []
    ≡ key_of c.args.position.now
unfolding key_of key_word
words c =
    let last : c.word-7.result ≡ key_word (cells_of c.codes-codes.result.now) 6 = c.word-7.ensures ∙ ap packed_cells (last_word (cells_of c.codes-codes.result.now) (ap length c.codes-codes.ensures.cells ∙ c.codes-codes.ensures.kept.cells)) in
    cc

pub returns-clause-words : goal.returns-clause-words
returns-clause-words c = words c

pub returns-clause-injective : goal.returns-clause-injective
returns-clause-injective c = λ b kept e. key_exact b c.args.position.now kept c.codes-codes.ensures.kept (e ∙ words c)
