-- Laws about lines and sessions.
use Rattle.std.specs.Prelude.{◌≡◌, ◌≢◌, ◌++◌, ◌∷◌, [], ℕ, List, Option, Some, codes}
use Rattle.std.specs.List.{AllByRecursion}
use Rattle.board_core.specs.Board.{Board}
use Rattle.search_limits.specs.Sizes.{SettingsView, IsFromTo}
use Rattle.usi_session.specs.declared.command.TheConstants.{MOST_MILLIS}
use Rattle.usi_session.specs.Fields.{fields_of, bare, behind_field}
use Rattle.usi_session.specs.Options.{numbers_by}
use Rattle.usi_session.specs.Sessions.{SessionView, ActView, Solves, Ends, IsAct, SessionFrom, SessionOf}

-- ---- lines

-- A law: a space parts the fields before it from those behind it.
abbrev pub SpacesPartFields : Type 0
SpacesPartFields = (before behind : List ℕ) → fields_of (before ++ 32 ∷ behind) ≡ fields_of before ++ fields_of behind

-- A law: what has a byte and no space is one field.
abbrev pub WordsAreFields : Type 0
WordsAreFields = (word : List ℕ) → word ≢ [] → AllByRecursion (λ byte. byte ≢ 32) word → fields_of word ≡ word ∷ []

-- A law: what stands behind `position sfen ` and begins with no space is what the SFEN of the line
-- is cut from, up to `moves`.
abbrev pub SfenStandsBehind : Type 0
SfenStandsBehind = (byte : ℕ) (bytes : List ℕ) → byte ≢ 32 → bare (behind_field (behind_field (codes "position sfen " ++ byte ∷ bytes))) ≡ byte ∷ bytes

-- ---- acts

-- A law: at each line a session does one thing at most, and keeps one thing then.
abbrev pub OneAct : Type 0
OneAct = (before : SessionView) (line : List ℕ) (act other : ActView) (after then : SessionView)
    → IsAct before line act after → IsAct before line other then → (act ≡ other) × (after ≡ then)

-- At this line a session does something, and keeps something then.
abbrev pub HasAct : SessionView → List ℕ → Type 0
HasAct before line = (act : ActView) × (after : SessionView) × IsAct before line act after

-- What a session has solved is its own: its problem, with its options, within a day where there is
-- a limit; and it keeps them.
pub record SolvesOwn (before : SessionView) (problem : Board) (settings : SettingsView) (millis : Option ℕ) (after : SessionView) : Type 0 where
  pub own_problem : before.problem ≡ Some problem
  pub own_options : settings ≡ numbers_by before.options
  pub within : (limit : ℕ) → millis ≡ Some limit → IsFromTo 1 MOST_MILLIS limit
  pub kept : after ≡ before

-- A law: what a session has solved is its own.
abbrev pub SolvesAreOwn : Type 0
SolvesAreOwn = (before : SessionView) (line : List ℕ) (problem : Board) (settings : SettingsView) (millis : Option ℕ) (after : SessionView)
    → IsAct before line (Solves problem settings millis) after → SolvesOwn before problem settings millis after

-- ---- sessions

-- A law: over lines a session does one list of acts at most, and keeps one thing then.
abbrev pub OneSession : Type 0
OneSession = (before : SessionView) (lines : List (List ℕ)) (acts others : List ActView) (after then : SessionView)
    → SessionFrom before lines acts after → SessionFrom before lines others then → (acts ≡ others) × (after ≡ then)

-- A law: from its beginning a session does over lines one list of acts at most.
abbrev pub OneListOfActs : Type 0
OneListOfActs = (lines : List (List ℕ)) (acts others : List ActView) → SessionOf lines acts → SessionOf lines others → acts ≡ others

-- None of the acts ends the session.
abbrev pub GoesOn : List ActView → Type 0
GoesOn acts = AllByRecursion (λ act. act ≢ Ends) acts

-- A law: a session that goes on does at one more line what it does there.
abbrev pub OneLineMore : Type 0
OneLineMore = (before here after : SessionView) (lines : List (List ℕ)) (line : List ℕ) (acts : List ActView) (act : ActView)
    → SessionFrom before lines acts here → GoesOn acts → IsAct here line act after → SessionFrom before (lines ++ line ∷ []) (acts ++ act ∷ []) after

-- A law: lines behind the one at which a session ends change nothing.
abbrev pub NothingBehindEnd : Type 0
NothingBehindEnd = (before after : SessionView) (lines more : List (List ℕ)) (acts : List ActView)
    → SessionFrom before lines (acts ++ Ends ∷ []) after → SessionFrom before (lines ++ more) (acts ++ Ends ∷ []) after
