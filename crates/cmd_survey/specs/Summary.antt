-- What a survey prints.
use Rattle.std.specs.Prelude.{Bool, true, false, ℕ, List, ◌∷◌, ◌++◌, codes, count_by, length}
use Rattle.std.specs.Fmt.{decimal}
use Rattle.cert_text.specs.Entries.{line}
use Rattle.search_pool.specs.declared.tally.Tally.{Tally}
use Rattle.search_pool.specs.declared.tally.Tally.TheVariants.{Mate, NoMate, Unknown}
use Rattle.cmd_survey.specs.declared.summary.Summary.{Summary}

-- The problem is a mate.
abbrev pub is_mate : Tally → Bool
is_mate Mate = true
is_mate NoMate = false
is_mate (Unknown cause) = false

-- The problem has no mate.
abbrev pub is_no_mate : Tally → Bool
is_no_mate Mate = false
is_no_mate NoMate = true
is_no_mate (Unknown cause) = false

-- Neither was found.
abbrev pub is_unknown : Tally → Bool
is_unknown Mate = false
is_unknown NoMate = false
is_unknown (Unknown cause) = true

-- The text of a survey: the number of its first problem and how many there were; how many of them
-- are mates, how many have none, and of how many neither was found.
abbrev pub summary_text : Summary → List ℕ
summary_text s = line (codes "survey " ++ decimal s.seed ++ 32 ∷ decimal (length s.tallies))
    ++ line (codes "mate " ++ decimal (count_by is_mate s.tallies))
    ++ line (codes "nomate " ++ decimal (count_by is_no_mate s.tallies))
    ++ line (codes "unknown " ++ decimal (count_by is_unknown s.tallies))
