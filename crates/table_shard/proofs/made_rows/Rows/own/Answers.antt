use Rattle.std.proofs.Common.{◌≡◌, ◌<◌, ◌∷◌, ◌++◌, ℕ, List, [], length, get_or, set, sym, subst, ap, ◌∙◌, arith}
use Rattle.std.proofs.lemmas.List.{length-set, get_or_default}
use Rattle.table_shard.specs.Entry.{EntryView}
use Rattle.table_shard.specs.Made.{AreMade, rows_at}
use Rattle.table_shard.proofs.Made.{length_rows, made_new, rows_new}
use Rattle.table_shard.proofs.made_rows.Rows.own.Goals as goal

pub returns-clause-kept : goal.returns-clause-kept
returns-clause-kept c =
    let numbers = c.args.self.now.numbers.items in
    let made = c.args.self.now.made.items in
    let places = c.args.self.now.places.items in
    let place = c.args.place in
    let kept = c.requires.kept in
    let there : place < length numbers = subst (λ (n : ℕ). place < n) (length_rows numbers made) c.requires.there in
    let none : c.index-known.result.now ≡ 0 = (let f = c.if-known-ne0.false in omega (arith, f)) in
    let blank : get_or numbers place 0 ≡ 0 = sym (c.index-known.ensures ∙ get_or_default numbers place c.index-known.result.now 0 there) ∙ none in
    let number : c.len-number.result ≡ length made = (let e = c.len-number.ensures in let o = c.args.self.now.made.ok in omega (arith, e, o)) in
    let rows_are : c.push_reserved.new.self.items ≡ made ++ [] ∷ [] = c.push_reserved.ensures.items ∙ ap (λ (r : List EntryView). made ++ r ∷ []) c.empty.ensures in
    let are : AreMade (set numbers place (length made)) (made ++ [] ∷ []) (places ++ place ∷ []) = made_new numbers made places place kept.made there blank in
    let named : AreMade (set numbers place (length made)) (made ++ [] ∷ []) c.push_reserved-2.new.self.items =
    subst (AreMade (set numbers place (length made)) (made ++ [] ∷ [])) (sym c.push_reserved-2.ensures.items) are in
    let long = length-set numbers place c.len-number.result in
    record {
      made = subst (λ (n : ℕ). AreMade (set numbers place n) c.push_reserved.new.self.items c.push_reserved-2.new.self.items) (sym number)
          (subst (λ (ms : List (List EntryView)). AreMade (set numbers place (length made)) ms c.push_reserved-2.new.self.items) (sym rows_are) named);
      for_rows = let cap = c.push_reserved.ensures.capacity in let room = kept.for_rows in omega (arith, long, cap, room);
      for_places = let cap = c.push_reserved-2.ensures.capacity in let room = kept.for_places in omega (arith, long, cap, room);
    }

pub returns-clause-same : goal.returns-clause-same
returns-clause-same c =
    let numbers = c.args.self.now.numbers.items in
    let made = c.args.self.now.made.items in
    let place = c.args.place in
    let there : place < length numbers = subst (λ (n : ℕ). place < n) (length_rows numbers made) c.requires.there in
    let none : c.index-known.result.now ≡ 0 = (let f = c.if-known-ne0.false in omega (arith, f)) in
    let blank : get_or numbers place 0 ≡ 0 = sym (c.index-known.ensures ∙ get_or_default numbers place c.index-known.result.now 0 there) ∙ none in
    let number : c.len-number.result ≡ length made = (let e = c.len-number.ensures in let o = c.args.self.now.made.ok in omega (arith, e, o)) in
    let rows_are : c.push_reserved.new.self.items ≡ made ++ [] ∷ [] = c.push_reserved.ensures.items ∙ ap (λ (r : List EntryView). made ++ r ∷ []) c.empty.ensures in
    ap (λ (n : ℕ). rows_at (set numbers place n) c.push_reserved.new.self.items) number
    ∙ (ap (rows_at (set numbers place (length made))) rows_are
    ∙ rows_new numbers made c.args.self.now.places.items place c.requires.kept.made there blank)
