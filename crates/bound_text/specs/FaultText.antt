-- How the fault of a bound's text prints.
use Rattle.std.specs.Prelude.{ℕ, List, ◌++◌, codes}
use Rattle.std.specs.Fmt.{decimal}
use Rattle.bound_text.specs.declared.fault.BadBound.{BadBound}

-- What is wrong with a bound's text: the words, and the number of the line.
abbrev pub bad_bound_text : BadBound → List ℕ
bad_bound_text fault = codes "bad bound " ++ decimal fault.line
