-- From a note to its source, from which its tree is walked, and back.
use Rattle.std.proofs.Common.{◌≡◌, inl, inr, ℕ, List, [], ◌∷◌, Contains, arith, refl, sym, ◌∙◌, subst}
use Rattle.std.specs.Prelude.{Result, Ok, Err, IsErr, IfErr}
use Rattle.std.specs.Result.{IsErrAnd}
use Rattle.board_core.specs.Board.{Board}
use Rattle.board_core.specs.declared.keys.Key.{Key}
use Rattle.mate_facts.specs.declared.entry.MateEntry.{MateEntry}
use Rattle.hand_dominance.specs.declared.version.Version.{Version}
use Rattle.notes.specs.declared.rule.Conclusion.{Conclusion}
use Rattle.notes.specs.Derivation.{Derivation, attacker_of, position_of, tag_of, conclusion_of, source_of, version_in}
use Rattle.notes.specs.Valid.{IsValid}
use Rattle.notes.proofs.Offered.{own_source}
use Rattle.cert_extract.specs.Serving.{Serves}
use Rattle.cert_extract.specs.Tree.{IsIn}
use Rattle.cert_extract.specs.Walk.{IsWalk}
use Rattle.cert_extract.specs.Extracted.{IsMateFrom, IsEscapeFrom, HasMoreThan, IsEndFor}
use Rattle.cert_extract.specs.declared.ends.ExtractEnd.{ExtractEnd}
use Rattle.cert_extract.specs.declared.ends.ExtractEnd.TheVariants.{TooMany, NoMemory}
use Rattle.cert_extract.proofs.Trees.{in_itself, in_tree}
use Rattle.cert_extract.proofs.Sources.{source_in, source_known, says_serves}

no_keys : (keys : List Key) → ((key : Key) → Contains keys key → ⊥) → keys ≡ []
no_keys [] none = refl
no_keys (key ∷ keys) none = absurd (none key (0, omega arith, refl))

module _ (note first : Derivation) (is : first ≡ source_of note) (valid : IsValid note) where
  -- it serves for the problem in the version that the tree has
  pub first_serves : (version : Version) (conclusion : Conclusion) (p : Board) → version ≡ version_in note → position_of note ≡ p → attacker_of note ≡ p.side
      → conclusion_of note ≡ conclusion → Serves version conclusion p.side p first
  first_serves version conclusion p fits about attacks concludes =
      subst (Serves version conclusion p.side p) (sym is)
      (says_serves version conclusion p.side p note valid (λ one. sym fits ∙ one) (record { concludes = concludes; same_attacker = attacks; about = about }))

  -- and depends on no repetition where the note doesn't
  pub first_closed : tag_of note ≡ [] → tag_of first ≡ []
  first_closed closed =
      no_keys (tag_of first) (λ key held.
      let gone = subst (λ (keys : List Key). Contains keys key) closed
      ((source_known note valid).tags key (subst (λ (n : Derivation). Contains (tag_of n) key) is held)) in
      let inside = gone.1 in
      omega (arith, inside))

  in_note : (n : Derivation) → IsIn first n → IsIn note n
  in_note n h = in_tree note (source_of note) n (source_in note note (in_itself note)) (subst (λ (top : Derivation). IsIn top n) is h)

  same_conclusion : conclusion_of first ≡ conclusion_of note
  same_conclusion = subst (λ (n : Derivation). conclusion_of n ≡ conclusion_of note) (sym is) (source_known note valid).concludes

  same_source : source_of note ≡ source_of first
  same_source =
      subst (λ (n : Derivation). source_of note ≡ source_of n) (sym is) (sym (own_source (source_of note) (source_known note valid).own))

  -- what comes from its tree comes from the note's
  pub mate_from : (entry : MateEntry) → IsMateFrom first entry → IsMateFrom note entry
  mate_from entry h = record { note = h.note; within = in_note h.note h.within; says = h.says }

  pub escape_from : (b : Board) → IsEscapeFrom first b → IsEscapeFrom note b
  escape_from b h = record { note = h.note; within = in_note h.note h.within; own = h.own; tells = h.tells; concludes = h.concludes }

  walk_from : (walked : List Derivation) → IsWalk first walked → IsWalk note walked
  walk_from walked walk before rest n e =
      let may = walk before rest n e in
      record {
        stands = elim may.stands [
          | inl top ↦ inl (top.0, same_source ∙ top.1)
          | inr under ↦ inr under
        ];
        lower = may.lower;
      }

  -- and a walk of its tree is one of the note's
  pub more_from : (most : ℕ) (p : Board) → HasMoreThan most p first → HasMoreThan most p note
  more_from most p h = record {
    walked = h.walked;
    walk = walk_from h.walked h.walk;
    positions = h.positions;
    told = h.told;
    own = h.own;
    apart = h.apart;
    more = h.more;
    from = λ b c.
        let met = h.from b c in
        record { note = met.note; within = in_note met.note met.within; tells = met.tells; concludes = met.concludes ∙ same_conclusion; turn = met.turn };
  }

  end_from : (most : ℕ) (p : Board) (end : ExtractEnd) → IsEndFor most p first end → IsEndFor most p note end
  end_from most p TooMany h = more_from most p h
  end_from most p NoMemory h = h

  -- what ends the walk of its tree ends the call
  pub ended_from : {X : Type 0} (most : ℕ) (p : Board) (result : Result X ExtractEnd) (end : ExtractEnd) → IsErr result → IsErrAnd result (λ found. found ≡ end)
      → IsEndFor most p first end → IfErr result (IsEndFor most p note)
  ended_from most p (Ok value) end is same h = tt
  ended_from most p (Err found) end is same h = end_from most p found (subst (IsEndFor most p first) (sym same) h)
