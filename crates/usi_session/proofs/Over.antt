-- Sessions of several lines.
use Rattle.std.proofs.Common.{◌≡◌, ◌≢◌, ◌⊎◌, inl, inr, ℕ, List, [], ◌∷◌, ◌++◌, Option, Some, None, Result, Ok, Err, refl, sym, ap, ◌∙◌, subst}
use Rattle.std.specs.Str.Lines.{strip_carriage_return}
use Rattle.board_core.specs.Board.{Board}
use Rattle.search_limits.specs.Sizes.{SettingsView, IsFromTo}
use Rattle.usi_session.specs.declared.command.TheConstants.{MOST_MILLIS}
use Rattle.usi_session.specs.Commands.{CommandView, Usi, IsReady, SetOption, BadOption, Position, GoMate, OtherGo, Quit, Nothing, IsCommand, AsksForMate}
use Rattle.usi_session.specs.Positions.{Refusal}
use Rattle.usi_session.specs.Sessions.{SessionView, ActView, Says, Solves, Ends, DoesNothing, mate_act, DoesAt, TakesPosition, IsAct, SessionFrom, first_session}
use Rattle.usi_session.specs.Laws.{OneAct, SolvesOwn, SolvesAreOwn, OneSession, OneListOfActs, OneLineMore, NothingBehindEnd}

-- ---- what is solved

mate-own : (before after : SessionView) (asked : Option ℕ) (problem : Board) (settings : SettingsView) (millis : Option ℕ) (its : Option Board) → before.problem ≡ its
    → Solves problem settings millis ≡ mate_act its before.options asked → after ≡ before → ((limit : ℕ) → asked ≡ Some limit → IsFromTo 1 MOST_MILLIS limit)
    → SolvesOwn before problem settings millis after
mate-own before after asked problem settings millis None is act kept within = absurd (cc)
mate-own before after asked problem settings millis (Some its) is act kept within =
    let same : its ≡ problem = cc in
    let limits : millis ≡ asked = cc in
    record {
      own_problem = is ∙ ap Some same;
      own_options = cc;
      within = λ limit e. within limit (sym limits ∙ e);
      kept = kept;
    }

asked-within : (rest : List (List ℕ)) (millis : Option ℕ) → AsksForMate rest millis → (limit : ℕ) → millis ≡ Some limit → IsFromTo 1 MOST_MILLIS limit
asked-within rest None is limit e = absurd (cc)
asked-within rest (Some asked) is limit e = let same : asked ≡ limit = cc in subst (λ (n : ℕ). IsFromTo 1 MOST_MILLIS n) same is.3

takes-none : (before after : SessionView) (outcome : Result Board Refusal) (problem : Board) (settings : SettingsView) (millis : Option ℕ)
    → TakesPosition outcome before (Solves problem settings millis) after → ⊥
takes-none before after (Ok found) problem settings millis takes = let e = takes.0 in absurd (cc)
takes-none before after (Err refusal) problem settings millis takes = let e = takes.0 in absurd (cc)

does-own : (before after : SessionView) (line : List ℕ) (c : CommandView) (problem : Board) (settings : SettingsView) (millis : Option ℕ) → IsCommand line c
    → DoesAt before c (Solves problem settings millis) after → SolvesOwn before problem settings millis after
does-own before after line Usi problem settings millis said does = absurd (let e = does.0 in cc)
does-own before after line IsReady problem settings millis said does = absurd (let e = does.0 in cc)
does-own before after line (SetOption setting number) problem settings millis said (inl does) = absurd (let e = does.1 in cc)
does-own before after line (SetOption setting number) problem settings millis said (inr does) = absurd (let e = does.1.0 in cc)
does-own before after line BadOption problem settings millis said does = absurd (let e = does.0 in cc)
does-own before after line (Position sfen moves) problem settings millis said (outcome, is, does) = absurd (takes-none before after outcome problem settings millis does)
does-own before after line (GoMate asked) problem settings millis said does =
    mate-own before after asked problem settings millis before.problem refl does.0 does.1 (asked-within said.0 asked said.2)
does-own before after line OtherGo problem settings millis said does = absurd (let e = does.0 in cc)
does-own before after line Quit problem settings millis said does = absurd (let e = does.0 in cc)
does-own before after line Nothing problem settings millis said does = absurd (let e = does.0 in cc)

pub solves-own : SolvesAreOwn
solves-own before line problem settings millis after act = does-own before after (strip_carriage_return line) act.command problem settings millis act.said act.done

-- ---- several lines

pub session-one : OneAct → OneSession
session-one one before [] acts others after then first second = (first.0 ∙ sym second.0, first.1 ∙ sym second.1)
session-one one before (line ∷ lines) [] others after then first second = absurd first
session-one one before (line ∷ lines) (act ∷ acts) [] after then first second = absurd second
session-one one before (line ∷ lines) (act ∷ acts) (other ∷ others) after then (next, does, behind) (next_too, too, behind_too) =
    let same = one before line act other next next_too does too in
    ends (session-one one next lines acts others after then) same.0 same.1 behind behind_too where
      ends : (SessionFrom next lines acts after → SessionFrom next lines others then → (acts ≡ others) × (after ≡ then)) → act ≡ other → next ≡ next_too
          → (((act ≡ Ends) × (acts ≡ []) × (after ≡ next)) ⊎ ((act ≢ Ends) × SessionFrom next lines acts after))
          → (((other ≡ Ends) × (others ≡ []) × (then ≡ next_too)) ⊎ ((other ≢ Ends) × SessionFrom next_too lines others then))
          → ((act ∷ acts) ≡ (other ∷ others)) × (after ≡ then)
      ends later e f (inl a) (inl b) = (rw (e, a.1, b.1) refl, a.2 ∙ f ∙ sym b.2)
      ends later e f (inl a) (inr b) = absurd (b.0 (sym e ∙ a.0))
      ends later e f (inr a) (inl b) = absurd (a.0 (e ∙ b.0))
      ends later e f (inr a) (inr b) =
          let same = later a.1 (subst (λ (s : SessionView). SessionFrom s lines others then) (sym f) b.1) in
          (rw (e, same.0) refl, same.1)

pub acts-one : OneSession → OneListOfActs
acts-one one lines acts others (after, first) (then, second) = (one first_session lines acts others after then first second).0

-- A session of one line.
alone : (before after : SessionView) (line : List ℕ) (act : ActView) → IsAct before line act after → SessionFrom before (line ∷ []) (act ∷ []) after
alone before after line (Says text) does = (after, does, inr ((λ e. absurd (cc)), (refl, refl)))
alone before after line (Solves problem settings millis) does = (after, does, inr ((λ e. absurd (cc)), (refl, refl)))
alone before after line Ends does = (after, does, inl (refl, refl, refl))
alone before after line DoesNothing does = (after, does, inr ((λ e. absurd (cc)), (refl, refl)))

pub line-more : OneLineMore
line-more before here after [] line [] act session on does = alone before after line act (subst (λ (s : SessionView). IsAct s line act after) session.1 does)
line-more before here after [] line (a ∷ acts) act session on does = absurd (let e = session.0 in cc)
line-more before here after (l ∷ lines) line [] act session on does = absurd session
line-more before here after (l ∷ lines) line (a ∷ acts) act (next, first, inl ended) on does = absurd (on.0 ended.0)
line-more before here after (l ∷ lines) line (a ∷ acts) act (next, first, inr further) on does =
    (next, first, inr (further.0, line-more next here after lines line acts act further.1 on.1 does))

some-end : (acts : List ActView) → acts ++ Ends ∷ [] ≡ [] → ⊥
some-end [] e = absurd (cc)
some-end (act ∷ acts) e = absurd (cc)

pub nothing-behind : NothingBehindEnd
nothing-behind before after [] more acts session = absurd (some-end acts session.0)
nothing-behind before after (line ∷ lines) more [] (next, does, inl ended) = (next, does, inl ended)
nothing-behind before after (line ∷ lines) more [] (next, does, inr further) = absurd (further.0 refl)
nothing-behind before after (line ∷ lines) more (act ∷ acts) (next, does, inl ended) = absurd (some-end acts ended.1)
nothing-behind before after (line ∷ lines) more (act ∷ acts) (next, does, inr further) = (next, does, inr (further.0, nothing-behind next after lines more acts further.1))
