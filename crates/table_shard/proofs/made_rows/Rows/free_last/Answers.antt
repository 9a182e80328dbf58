use Rattle.std.proofs.Common.{◌≡◌, ◌<◌, ◌-◌, ◌∷◌, ◌++◌, ℕ, List, [], length, get_or, set, replicate, sym, subst, ap, ◌∙◌, arith}
use Rattle.std.specs.Prelude.{IfNone, Option, option_to_list}
use Rattle.std.proofs.lemmas.List.{length-set}
use Rattle.table_shard.specs.Entry.{EntryView}
use Rattle.table_shard.specs.Made.{AreMade, rows_at}
use Rattle.table_shard.proofs.Made.{length_rows, last_there, made_last, none_made, rows_last}
use Rattle.table_shard.proofs.made_rows.Rows.free_last.Goals as goal

pub returns-in_err-place-clause-none : goal.returns-in_err-place-clause-none
returns-in_err-place-clause-none c =
    let numbers = c.args.self.now.numbers.items in
    let made = c.args.self.now.made.items in
    let none : length c.args.self.now.places.items ≡ 0 = (let e = c.in_err-place.ensures.cases in let o = c.args.self.now.places.ok in omega (arith, e, o)) in
    let free : rows_at numbers made ≡ replicate (length (rows_at numbers made)) [] =
    none_made numbers made c.args.self.now.places.items c.requires.kept.made none
    ∙ ap (λ (n : ℕ). replicate {A = List EntryView} n []) (sym (length_rows numbers made)) in
    subst (λ (r : Option ℕ). IfNone r (rows_at numbers made ≡ replicate (length (rows_at numbers made)) [])) (sym c.from_residual.ensures) free

pub returns-clause-kept : goal.returns-clause-kept
returns-clause-kept c =
    let numbers = c.args.self.now.numbers.items in
    let made = c.args.self.now.made.items in
    let place = c.in_ok-place.place in
    let kept = c.requires.kept in
    let last = get_or made (c.args.self.now.made.len - 1) [] in
    let some : 0 < c.args.self.now.made.len = (let m = kept.made.as_many in let o = c.args.self.now.made.ok in omega (arith, m, o)) in
    let rows_are : made ≡ c.pop-2.new.self.items ++ last ∷ [] =
    c.pop-2.ensures.items ∙ ap (λ (o : Option (List EntryView)). c.pop-2.new.self.items ++ option_to_list o) (c.pop-2.ensures.value [] some) in
    let are : AreMade numbers (c.pop-2.new.self.items ++ last ∷ []) (c.pop.new.self.items ++ place ∷ []) =
    subst (λ (ms : List (List EntryView)). AreMade numbers ms (c.pop.new.self.items ++ place ∷ [])) rows_are
    (subst (AreMade numbers made) c.in_ok-place.ensures.items kept.made) in
    let long = length-set numbers place 0 in
    record {
      made = made_last numbers c.pop-2.new.self.items c.pop.new.self.items place last are;
      for_rows = let cap = c.pop-2.ensures.capacity in let room = kept.for_rows in omega (arith, long, cap, room);
      for_places = let cap = c.pop.ensures.capacity in let room = kept.for_places in omega (arith, long, cap, room);
    }

pub returns-clause-there : goal.returns-clause-there
returns-clause-there c =
    let numbers = c.args.self.now.numbers.items in
    let made = c.args.self.now.made.items in
    subst (λ (n : ℕ). c.in_ok-place.place < n) (sym (length_rows numbers made))
    (last_there numbers made c.pop.new.self.items c.in_ok-place.place (subst (AreMade numbers made) c.in_ok-place.ensures.items c.requires.kept.made))

pub returns-clause-freed : goal.returns-clause-freed
returns-clause-freed c =
    let numbers = c.args.self.now.numbers.items in
    let made = c.args.self.now.made.items in
    let place = c.in_ok-place.place in
    let kept = c.requires.kept in
    let last = get_or made (c.args.self.now.made.len - 1) [] in
    let some : 0 < c.args.self.now.made.len = (let m = kept.made.as_many in let o = c.args.self.now.made.ok in omega (arith, m, o)) in
    let rows_are : made ≡ c.pop-2.new.self.items ++ last ∷ [] =
    c.pop-2.ensures.items ∙ ap (λ (o : Option (List EntryView)). c.pop-2.new.self.items ++ option_to_list o) (c.pop-2.ensures.value [] some) in
    let are : AreMade numbers (c.pop-2.new.self.items ++ last ∷ []) (c.pop.new.self.items ++ place ∷ []) =
    subst (λ (ms : List (List EntryView)). AreMade numbers ms (c.pop.new.self.items ++ place ∷ [])) rows_are
    (subst (AreMade numbers made) c.in_ok-place.ensures.items kept.made) in
    rows_last numbers c.pop-2.new.self.items c.pop.new.self.items place last are
    ∙ ap (λ (ms : List (List EntryView)). set (rows_at numbers ms) place []) (sym rows_are)
