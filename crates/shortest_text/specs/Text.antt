-- The two texts about the shortest mate, as they are written.
use Rattle.std.specs.Prelude.{ℕ, List, ◌++◌, codes}
use Rattle.std.specs.Fmt.{decimal}
use Rattle.board_core.specs.Board.{Board}
use Rattle.mate_facts.specs.declared.rank.Rank.{Rank}
use Rattle.cert_text.specs.Entries.{line, problem_line}

-- The line with these words and a number.
abbrev pub numbered_line : List ℕ → Rank → List ℕ
numbered_line words rank = line (words ++ decimal rank.number)

-- The line that tells the number of moves of the shortest mate.
abbrev pub shortest_line : Rank → List ℕ
shortest_line rank = numbered_line (codes "shortest ") rank

-- The line that tells within how many moves there is no mate.
abbrev pub none_line : Rank → List ℕ
none_line limit = numbered_line (codes "none within ") limit

-- The text of a shortest mate: the front line, the number of moves, the text of the certificate and
-- that of the bound.
abbrev pub found_text : List ℕ → Rank → List ℕ → List ℕ → List ℕ
found_text front rank certificate bound = line front ++ (shortest_line rank ++ (certificate ++ bound))

-- The text of no mate within a limit: the limit, the problem, and the text of the bound.
abbrev pub none_text : Rank → Board → List ℕ → List ℕ
none_text limit problem bound = none_line limit ++ (problem_line problem ++ bound)
