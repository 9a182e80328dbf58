-- A line that begins with `position` says what was read behind it.
use Rattle.std.proofs.Common.{◌≡◌, ℕ, List, ◌∷◌, ap, ◌∙◌, subst}
use Rattle.std.specs.Prelude.{codes}
use Rattle.usi_session.specs.Reading.{command_seen, IsPlaceRead}
use Rattle.usi_session.specs.Fields.{fields_of, behind_field}
use Rattle.usi_session.proofs.Commanded.{command-from_place}
use Rattle.usi_session.proofs.reading.command_of.Goals as goal

pub returns-in-Position : goal.returns-in-Position
returns-in-Position c =
    let place : c.in-Some.rest.now ≡ behind_field c.args.line.now = c.in-Some.ensures.behind in
    command-from_place c.args.line.now (command_seen c.place_of.result)
    (c.in-Some.ensures.fields ∙ ap (λ (f : List ℕ). f ∷ fields_of c.in-Some.rest.now) c.in-Position.ensures ∙ ap (λ (l : List ℕ). codes "position" ∷ fields_of l) place)
    (subst (λ (l : List ℕ). IsPlaceRead l (command_seen c.place_of.result)) place c.place_of.ensures)
