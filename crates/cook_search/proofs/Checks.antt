-- The checks of a problem, one after the other.
use Rattle.std.proofs.Common.{◌≡◌, ◌≤◌, ◌+◌, ◌∙◌, ◌++◌, inl, inr, ℕ, List, [], ◌∷◌, length, take, arith, ap, refl, sym, subst}
use Rattle.std.specs.Prelude.{slice_get, Some}
use Rattle.std.proofs.lemmas.List.Elements.{Contains-append_left, Contains-append_right, Contains-push_cases}
use Rattle.std.proofs.lemmas.List.{map-append, take_all}
use Rattle.board_core.specs.declared.moves.Move.{Move}
use Rattle.board_core.specs.Board.{Board}
use Rattle.board_core.specs.Order.{Lists}
use Rattle.shogi_rules.specs.Tsume.{IsCheck}
use Rattle.search_gate.specs.Stop.{Signal}
use Rattle.search_limits.specs.Sizes.{SettingsView}
use Rattle.visit_log.specs.Run.{WorkerView}
use Rattle.cook_report.specs.declared.report.Line.{Line}
use Rattle.cook_report.specs.Report.{check_of}
use Rattle.cook_report.specs.Valid.{IsLineOf}
use Rattle.cook_report.specs.Shown.{IsKeptLine}
use Rattle.cook_search.specs.Found.{IsLineFound, IsReportFound, IsToldBy}
use Rattle.cook_search.specs.Inside.{AreTold}
use Rattle.cook_search.proofs.Searches.{brought_behind, made_behind, told_by_more}
use Rattle.cook_search.proofs.Walking.{take_more}

pub told_none : (p : Board) (s : SettingsView) (told : List Signal) (checks : List Move) → AreTold p s told told checks 0 [] []
told_none p s told checks = record {
  searches = [];
  made = refl;
  brought = refl;
  of_checks = refl;
  true_of = λ line there. absurd (omega (arith, there.1));
  kept = λ line there. absurd (omega (arith, there.1));
  told_by = λ line there. absurd (omega (arith, there.1));
}

-- one line more
pub told_more : (p : Board) (s : SettingsView) (told now then : List Signal) (checks : List Move) (count : ℕ) (lines : List Line) (crews_now crews_then : List (List WorkerView))
    (check : Move) (line : Line) → slice_get checks count ≡ Some check → AreTold p s told now checks count lines crews_now
    → IsLineFound p s now then crews_now crews_then check line → AreTold p s told then checks (count + 1) (lines ++ line ∷ []) crews_then
told_more p s told now then checks count lines crews_now crews_then check line at so_far found =
    let xs = so_far.searches in
    let ys = found.searches in record {
      searches = xs ++ ys;
      made = made_behind p s told now then xs ys so_far.made found.made;
      brought = brought_behind [] crews_now crews_then xs ys so_far.brought found.brought;
      of_checks = map-append check_of lines (line ∷ []) ∙ ap (λ (ms : List Move). ms ++ check_of line ∷ []) so_far.of_checks
          ∙ ap (λ (m : Move). take count checks ++ m ∷ []) found.of_check ∙ sym (take_more checks count check at);
      true_of = λ it there. elim (Contains-push_cases lines line it there) [
        | inl old ↦ so_far.true_of it old
        | inr new ↦ subst (IsLineOf p) new found.true_of
      ];
      kept = λ it there. elim (Contains-push_cases lines line it there) [
        | inl old ↦ so_far.kept it old
        | inr new ↦ subst IsKeptLine new found.kept
      ];
      told_by = λ it there. elim (Contains-push_cases lines line it there) [
        | inl old ↦ told_by_more p xs (xs ++ ys) it (λ one inside. Contains-append_left xs ys one inside) (so_far.told_by it old)
        | inr new ↦ subst (IsToldBy p (xs ++ ys)) new (told_by_more p ys (xs ++ ys) line (λ one inside. Contains-append_right xs ys one inside) found.told_by)
      ];
    }

-- all lines are a report
pub report_told : (p : Board) (s : SettingsView) (told now : List Signal) (checks : List Move) (count : ℕ) (lines : List Line) (crews : List (List WorkerView))
    → Lists (IsCheck p.side p) checks → length checks ≤ count → AreTold p s told now checks count lines crews → IsReportFound p s told now lines crews
report_told p s told now checks count lines crews lists whole so_far = record {
  searches = so_far.searches;
  made = so_far.made;
  brought = so_far.brought;
  valid = record {
    checks = subst (Lists (IsCheck p.side p)) (sym (so_far.of_checks ∙ take_all count checks whole)) lists;
    each = so_far.true_of;
  };
  kept = so_far.kept;
  told_by = so_far.told_by;
}
