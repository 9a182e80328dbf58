-- What the facts that are kept by keys say of every position.
use Rattle.std.specs.Prelude.{Bool, nat_eq, Option, unwrap_or}
use Rattle.std.specs.Cmp.Lexicographic.{pointwise}
use Rattle.std.specs.HashMap as table
use Rattle.bit_boards.specs.declared.piece.Side.{Side}
use Rattle.board_core.specs.declared.keys.Key.{Key}
use Rattle.board_core.specs.Key.{key_of}
use Rattle.shortest_facts.specs.declared.fact.Fact.{Fact}
use Rattle.shortest_facts.specs.declared.facts.Facts.{Facts}
use Rattle.shortest_facts.specs.Facts.{Known, nothing_at}

-- Two keys have the same words.
abbrev pub same_words : Key → Key → Bool
same_words one other = pointwise nat_eq one.0 other.0

-- What is known, by what is found by the key of each position.
abbrev pub known_in : Side → (Key → Option Fact) → Known
known_in attacker found = record { attacker = attacker; at = λ b. unwrap_or (found (record { 0 = key_of b })) (nothing_at attacker b) }

-- What is known, by all facts.
abbrev pub known_of : Facts → Known
known_of facts = known_in facts.attacker (table.get same_words facts.by_key)
