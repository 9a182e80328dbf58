-- How a refusal of the words prints.
use Rattle.std.specs.Prelude.{ℕ, List, codes, string_bytes}
use Rattle.std.specs.Str.{trim_end}
use Rattle.search_limits.specs.declared.faults.Size.TheVariants.{Rows, Shards}
use Rattle.tsume_words.specs.declared.faults.WordFault.{WordFault}
use Rattle.tsume_words.specs.declared.faults.WordFault.TheVariants.{Clap, NotPowerOfTwo, MoreShardsThanRows, Clash}
use Rattle.tsume_words.specs.declared.faults.Clash.TheVariants.{LibraryWithKif, CollectionWithBound, CollectionWithProblem}

-- What is wrong with the words, in words: the text that clap made, without white space at its end,
-- or which test failed.
abbrev pub word_fault_text : WordFault → List ℕ
word_fault_text (Clap text) = trim_end (string_bytes text)
word_fault_text (NotPowerOfTwo Rows) = codes "rows is no power of two"
word_fault_text (NotPowerOfTwo Shards) = codes "shards is no power of two"
word_fault_text MoreShardsThanRows = codes "more shards than rows"
word_fault_text (Clash LibraryWithKif) = codes "library with kif"
word_fault_text (Clash CollectionWithBound) = codes "collection with bound"
word_fault_text (Clash CollectionWithProblem) = codes "collection with problem"
