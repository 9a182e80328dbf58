-- At each line a session does one thing.
use Rattle.std.proofs.Common.{◌≡◌, inl, inr, Result, Ok, Err, sym, ◌∙◌, subst}
use Rattle.std.specs.Str.Lines.{strip_carriage_return}
use Rattle.board_core.specs.Board.{Board}
use Rattle.sfen_text.specs.Laws.{OneReadingOutcome}
use Rattle.usi_text.specs.MoveText.{MoveTextsApart}
use Rattle.usi_session.specs.Options.{OptionsView, with_option}
use Rattle.usi_session.specs.Commands.{CommandView, Usi, IsReady, SetOption, BadOption, Position, GoMate, OtherGo, Quit, Nothing}
use Rattle.usi_session.specs.Positions.{Refusal}
use Rattle.usi_session.specs.Sessions.{SessionView, ActView, Only, TakesOptions, TakesPosition, DoesAt}
use Rattle.usi_session.specs.Laws.{OneAct}
use Rattle.usi_session.proofs.OneCommand.{command-one}
use Rattle.usi_session.proofs.OnePosition.{position-outcome-one}

only-one : (this : ActView) (before : SessionView) (a b : ActView) (s t : SessionView) → Only this before a s → Only this before b t → (a ≡ b) × (s ≡ t)
only-one this before a b s t one two = (one.0 ∙ sym two.0, one.1 ∙ sym two.1)

options-one : (new : OptionsView) (before : SessionView) (a b : ActView) (s t : SessionView) → TakesOptions new before a s → TakesOptions new before b t → (a ≡ b) × (s ≡ t)
options-one new before a b s t (inl one) (inl two) = (one.1 ∙ sym two.1, one.2 ∙ sym two.2)
options-one new before a b s t (inl one) (inr two) = absurd (two.0 one.0)
options-one new before a b s t (inr one) (inl two) = absurd (one.0 two.0)
options-one new before a b s t (inr one) (inr two) = (one.1.0 ∙ sym two.1.0, one.1.1 ∙ sym two.1.1)

takes-one : (outcome : Result Board Refusal) (before : SessionView) (a b : ActView) (s t : SessionView) → TakesPosition outcome before a s → TakesPosition outcome before b t → (a ≡ b) × (s ≡ t)
takes-one (Ok problem) before a b s t one two = (one.0 ∙ sym two.0, one.1 ∙ sym two.1)
takes-one (Err refusal) before a b s t one two = (one.0 ∙ sym two.0, one.1 ∙ sym two.1)

does-one : OneReadingOutcome → MoveTextsApart → (before : SessionView) (c : CommandView) (a b : ActView) (s t : SessionView) → DoesAt before c a s → DoesAt before c b t → (a ≡ b) × (s ≡ t)
does-one reads apart before Usi a b s t one two = only-one _ before a b s t one two
does-one reads apart before IsReady a b s t one two = only-one _ before a b s t one two
does-one reads apart before (SetOption setting number) a b s t one two = options-one (with_option setting number before.options) before a b s t one two
does-one reads apart before BadOption a b s t one two = only-one _ before a b s t one two
does-one reads apart before (Position sfen moves) a b s t (x, is, one) (y, too, two) =
    let same = position-outcome-one reads apart sfen moves x y is too in
    takes-one x before a b s t one (subst (λ (o : Result Board Refusal). TakesPosition o before b t) (sym same) two)
does-one reads apart before (GoMate millis) a b s t one two = only-one _ before a b s t one two
does-one reads apart before OtherGo a b s t one two = only-one _ before a b s t one two
does-one reads apart before Quit a b s t one two = only-one _ before a b s t one two
does-one reads apart before Nothing a b s t one two = only-one _ before a b s t one two

pub act-one : OneReadingOutcome → MoveTextsApart → OneAct
act-one reads apart before line a b s t one two =
    let same = command-one (strip_carriage_return line) one.command two.command one.said two.said in
    does-one reads apart before one.command a b s t one.done (subst (λ (c : CommandView). DoesAt before c b t) (sym same) two.done)
