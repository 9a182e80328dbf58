use Rattle.std.proofs.Common.{◌∙◌}
use Rattle.std.specs.HashMap as table
use Rattle.position_places.specs.Places.{same_words}
use Rattle.position_places.proofs.Finding.{found, found_within}
use Rattle.position_places.proofs.places.Places.find_key.Goals as goal

pub returns-clause-place : goal.returns-clause-place
returns-clause-place c = λ positions position places kept words.
    found (table.get same_words c.args.self.now.by_key) _ c.args.key.now position c.copied.result positions words kept
    (c.copied.ensures ∙ c.get.ensures.value) places

pub returns-clause-within : goal.returns-clause-within
returns-clause-within c =
    found_within (table.get same_words c.args.self.now.by_key) _ c.args.key.now c.copied.result (c.copied.ensures ∙ c.get.ensures.value)
