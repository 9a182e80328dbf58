-- The command that clap found, by its name.
use Rattle.std.proofs.Common.{◌≡◌, ◌⊎◌, ap₂, inl, inr, List, Option, Some, None, codes, subst}
use Rattle.std.specs.Prelude.{IsSomeAnd, option_map}
use Rattle.std.proofs.lemmas.Option.{same_Some}
use Rattle.clap.specs.Words.{Row, Text}
use Rattle.cmd_collection.specs.Words.{IsForCollection}
use Rattle.cmd_solve.specs.Words.{IsForSearch}
use Rattle.program_words.specs.Commands.{commands}

-- what was found is the name and the rows that are told of it
pub found_is : {S : Type 0} (s : Option S) (f : S → Text × List Row) (name : Text) (rows : List Row) → option_map (λ b. (f b).0) s ≡ Some name
    → option_map (λ p. p.1) (option_map f s) ≡ Some rows → option_map f s ≡ Some (name, rows)
found_is None f name rows named told = absurd (cc)
found_is (Some b) f name rows named told =
    ap₂ (λ (n : Text) (rs : List Row). Some (n, rs)) (same_Some (f b).0 name named) (same_Some (f b).1 rows told)

-- `cook` is given what it wants
pub cook_given : (o : Option (Text × List Row)) (rows : List Row) → IsSomeAnd o commands.IsGiven → o ≡ Some (codes "cook", rows) → IsForSearch rows
cook_given o rows given is = elim (subst (λ (q : Option (Text × List Row)). IsSomeAnd q commands.IsGiven) is given) [
  | inl solve ↦ let no = solve.0 in absurd (cc)
  | inr more ↦ elim more [
    | inl shortest ↦ let no = shortest.0 in absurd (cc)
    | inr more ↦ elim more [
      | inl cook ↦ cook.1
      | inr more ↦ elim more [
        | inl check ↦ let no = check.0 in absurd (cc)
        | inr more ↦ elim more [
          | inl survey ↦ let no = survey.0 in absurd (cc)
          | inr more ↦ elim more [
            | inl collection ↦ let no = collection.0 in absurd (cc)
            | inr more ↦ elim more [
              | inl solution ↦ let no = solution.0 in absurd (cc)
              | inr more ↦ elim more [
                | inl record_command ↦ let no = record_command.0 in absurd (cc)
                | inr more ↦ elim more [
                  | inl upgrade ↦ let no = upgrade.0 in absurd (cc)
                  | inr more ↦ elim more [
                    | inl session ↦ let no = session.0 in absurd (cc)
                    | inr more ↦ absurd more
                  ]
                ]
              ]
            ]
          ]
        ]
      ]
    ]
  ]
]

-- it isn't the first of these
behind : {First Others : Type 0} → First ⊎ Others → (First → ⊥) → Others
behind (inl first) isnt = absurd (isnt first)
behind (inr others) isnt = others

-- `collection` is given what it wants
pub collection_given : (o : Option (Text × List Row)) (rows : List Row) → IsSomeAnd o commands.IsGiven → o ≡ Some (codes "collection", rows)
    → IsForCollection rows
collection_given o rows given is =
    let all = subst (λ (q : Option (Text × List Row)). IsSomeAnd q commands.IsGiven) is given in
    let no_solve = behind all (λ it. let no = it.0 in absurd (cc)) in
    let no_shortest = behind no_solve (λ it. let no = it.0 in absurd (cc)) in
    let no_cook = behind no_shortest (λ it. let no = it.0 in absurd (cc)) in
    let no_check = behind no_cook (λ it. let no = it.0 in absurd (cc)) in
    elim (behind no_check (λ it. let no = it.0 in absurd (cc))) [
      | inl collection ↦ collection.1
      | inr more ↦
          let no_solution = behind more (λ it. let no = it.0 in absurd (cc)) in
          let no_record = behind no_solution (λ it. let no = it.0 in absurd (cc)) in
          let no_upgrade = behind no_record (λ it. let no = it.0 in absurd (cc)) in
          absurd (behind no_upgrade (λ it. let no = it.0 in absurd (cc)))
    ]
