-- A line says one thing.
use Rattle.std.proofs.Common.{◌≡◌, ◌≢◌, inl, inr, ℕ, List, [], ◌∷◌, ◌++◌, length, Option, Some, None, refl, sym, ap, ◌∙◌, subst, arith}
use Rattle.std.specs.Prelude.{codes, slice_index}
use Rattle.search_limits.specs.declared.faults.Setting.{Setting}
use Rattle.search_limits.specs.declared.faults.Setting.TheVariants.{Workers, Expansions, Room, Rows, Shards}
use Rattle.usi_session.specs.Fields.{fields_of}
use Rattle.usi_session.specs.Numbers.{Writes}
use Rattle.usi_session.specs.Options.{setting_name}
use Rattle.usi_session.specs.Commands.{CommandView, Usi, IsReady, SetOption, BadOption, Position, GoMate, OtherGo, Quit, Nothing, IsCommand, IsOption, IsProtocolOption, AsksForMate, GiveMoves, IsPositionLine}
use Rattle.usi_session.proofs.Cuts.{up_to-one}

name-one : (s t : Setting) → setting_name s ≡ setting_name t → s ≡ t
name-one Workers Workers e = refl
name-one Expansions Expansions e = refl
name-one Room Room e = refl
name-one Rows Rows e = refl
name-one Shards Shards e = refl
name-one Room Rows e = absurd (let third = ap (λ (l : List ℕ). slice_index l 2) e in omega arith)
name-one Rows Room e = absurd (let third = ap (λ (l : List ℕ). slice_index l 2) e in omega arith)
name-one s t e = absurd (let long = ap length e in omega arith)

no-protocol : (s : Setting) (tail : List ℕ) → setting_name s ≡ codes "USI_" ++ tail → ⊥
no-protocol Workers tail e = let first = ap (λ (l : List ℕ). slice_index l 0) e in omega arith
no-protocol Expansions tail e = let first = ap (λ (l : List ℕ). slice_index l 0) e in omega arith
no-protocol Room tail e = let first = ap (λ (l : List ℕ). slice_index l 0) e in omega arith
no-protocol Rows tail e = let first = ap (λ (l : List ℕ). slice_index l 0) e in omega arith
no-protocol Shards tail e = let first = ap (λ (l : List ℕ). slice_index l 0) e in omega arith

writes-one : (text other : List ℕ) (m n : ℕ) → text ≡ other → Writes text m → Writes other n → m ≡ n
writes-one text other m n e one two = sym one.value ∙ (subst (λ (t : List ℕ). Writes t n) (sym e) two).value

option-one : (rest : List (List ℕ)) (s t : Setting) (m n : ℕ) → IsOption rest s m → IsOption rest t n → SetOption s m ≡ SetOption t n
option-one rest s t m n one other =
    let both = sym one.1 ∙ other.1 in
    let names : setting_name s ≡ setting_name t = cc in
    let texts : one.0 ≡ other.0 = cc in
    let settings : s ≡ t = name-one s t names in
    let numbers : m ≡ n = writes-one one.0 other.0 m n texts one.2 other.2 in
    cc

option-not-protocol : (rest : List (List ℕ)) (s : Setting) (m : ℕ) → IsOption rest s m → IsProtocolOption rest → ⊥
option-not-protocol rest s m one other =
    let both = sym one.1 ∙ other.2 in
    no-protocol s other.0 (cc)

infinite-no : (text : List ℕ) (n : ℕ) → text ≡ codes "infinite" → Writes text n → ⊥
infinite-no text n e writes =
    let own = subst (λ (t : List ℕ). Writes t n) e writes in
    let first = own.numeral.1.0 in
    omega arith

mate-one : (rest : List (List ℕ)) (m n : Option ℕ) → AsksForMate rest m → AsksForMate rest n → m ≡ n
mate-one rest None None one other = refl
mate-one rest None (Some n) one other = absurd (let both = sym one ∙ other.1 in infinite-no other.0 n (cc) other.2)
mate-one rest (Some m) None one other = absurd (let both = sym other ∙ one.1 in infinite-no one.0 m (cc) one.2)
mate-one rest (Some m) (Some n) one other =
    let both = sym one.1 ∙ other.1 in
    let texts : one.0 ≡ other.0 = cc in
    ap Some (writes-one one.0 other.0 m n texts one.2 other.2)

gives-one : (rest m n : List (List ℕ)) → GiveMoves rest m → GiveMoves rest n → m ≡ n
gives-one rest m n (inl one) (inl other) = cc
gives-one rest m n (inl one) (inr other) = absurd (cc)
gives-one rest m n (inr one) (inl other) = absurd (cc)
gives-one rest m n (inr one) (inr other) = cc

second : List (List ℕ) → List ℕ
second [] = []
second (f ∷ []) = []
second (f ∷ g ∷ fs) = g

start-no-sfen : (line : List ℕ) (a b : List (List ℕ)) → fields_of line ≡ codes "position" ∷ codes "startpos" ∷ a → fields_of line ≡ codes "position" ∷ codes "sfen" ∷ b → ⊥
unfolding second
start-no-sfen line a b p q = let long = ap (λ (l : List (List ℕ)). length (second l)) (sym p ∙ q) in omega arith

position-one : (line f g : List ℕ) (m n : List (List ℕ)) → IsPositionLine line f m → IsPositionLine line g n → (f ≡ g) × (m ≡ n)
position-one line f g m n (inl one) (inl other) =
    let both = sym one.1.words ∙ other.1.words in
    let same : other.1.rest ≡ one.1.rest = cc in
    (one.0 ∙ sym other.0, gives-one one.1.rest m n one.1.given (subst (λ (l : List (List ℕ)). GiveMoves l n) same other.1.given))
position-one line f g m n (inl one) (inr other) = absurd (start-no-sfen line one.1.rest other.rest one.1.words other.words)
position-one line f g m n (inr one) (inl other) = absurd (start-no-sfen line other.1.rest one.rest other.1.words one.words)
position-one line f g m n (inr one) (inr other) = up_to-one _ f g m n one.up_to other.up_to

-- ---- the first fields of lines

word : CommandView → List ℕ
word Usi = codes "usi"
word IsReady = codes "isready"
word (SetOption setting number) = codes "setoption"
word BadOption = codes "setoption"
word (Position sfen moves) = codes "position"
word (GoMate millis) = codes "go"
word OtherGo = codes "go"
word Quit = codes "quit"
word Nothing = []

-- A line that says something begins with its word.
begins : (line : List ℕ) (c : CommandView) → c ≢ Nothing → IsCommand line c → (rest : List (List ℕ)) × (fields_of line ≡ word c ∷ rest)
unfolding word
begins line Usi some p = ([], p)
begins line IsReady some p = ([], p)
begins line (SetOption setting number) some p = (p.0, p.1)
begins line BadOption some p = (p.0, p.1)
begins line (Position sfen moves) some p = place p where
  place : IsPositionLine line sfen moves → (rest : List (List ℕ)) × (fields_of line ≡ codes "position" ∷ rest)
  place (inl one) = (codes "startpos" ∷ one.1.rest, one.1.words)
  place (inr one) = (codes "sfen" ∷ one.rest, one.words)
begins line (GoMate millis) some p = (p.0, p.1)
begins line OtherGo some p = (p.0, p.1)
begins line Quit some p = ([], p)
begins line Nothing some p = absurd (some refl)

words-same : (line : List ℕ) (c d : CommandView) → c ≢ Nothing → d ≢ Nothing → IsCommand line c → IsCommand line d → word c ≡ word d
words-same line c d one other p q =
    let first = begins line c one p in
    let second = begins line d other q in
    let both = sym first.1 ∙ second.1 in
    cc

-- What says something isn't nothing.
some-thing : (line : List ℕ) (c : CommandView) → c ≢ Nothing → IsCommand line c → IsCommand line Nothing → ⊥
some-thing line Usi some p q = q.no_usi p
some-thing line IsReady some p q = q.no_isready p
some-thing line (SetOption setting number) some p q = option-not-protocol p.0 setting number p.2 (q.no_option p.0 p.1)
some-thing line BadOption some p q = p.2.no_protocol_option (q.no_option p.0 p.1)
some-thing line (Position sfen moves) some p q = q.no_position sfen moves p
some-thing line (GoMate millis) some p q = q.no_go p.0 p.1
some-thing line OtherGo some p q = q.no_go p.0 p.1
some-thing line Quit some p q = q.no_quit p
some-thing line Nothing some p q = some refl

rests-same : (line first : List ℕ) (a b : List (List ℕ)) → fields_of line ≡ first ∷ a → fields_of line ≡ first ∷ b → b ≡ a
rests-same line first a b p q = let both = sym p ∙ q in cc

pub command-one : (line : List ℕ) (c d : CommandView) → IsCommand line c → IsCommand line d → c ≡ d
unfolding word
command-one line Usi Usi p q = refl
command-one line IsReady IsReady p q = refl
command-one line Quit Quit p q = refl
command-one line BadOption BadOption p q = refl
command-one line OtherGo OtherGo p q = refl
command-one line Nothing Nothing p q = refl
command-one line (SetOption s m) (SetOption t n) p q =
    let same = rests-same line (codes "setoption") p.0 q.0 p.1 q.1 in
    option-one p.0 s t m n p.2 (subst (λ (l : List (List ℕ)). IsOption l t n) same q.2)
command-one line (SetOption s m) BadOption p q =
    let same = rests-same line (codes "setoption") q.0 p.0 q.1 p.1 in
    absurd (q.2.no_option s m (subst (λ (l : List (List ℕ)). IsOption l s m) same p.2))
command-one line BadOption (SetOption t n) p q =
    let same = rests-same line (codes "setoption") p.0 q.0 p.1 q.1 in
    absurd (p.2.no_option t n (subst (λ (l : List (List ℕ)). IsOption l t n) same q.2))
command-one line (Position f m) (Position g n) p q =
    let same = position-one line f g m n p q in
    let sfens = same.0 in
    let moves = same.1 in
    cc
command-one line (GoMate m) (GoMate n) p q =
    let same = rests-same line (codes "go") p.0 q.0 p.1 q.1 in
    ap GoMate (mate-one p.0 m n p.2 (subst (λ (l : List (List ℕ)). AsksForMate l n) same q.2))
command-one line (GoMate m) OtherGo p q =
    let same = rests-same line (codes "go") q.0 p.0 q.1 p.1 in
    absurd (q.2 m (subst (λ (l : List (List ℕ)). AsksForMate l m) same p.2))
command-one line OtherGo (GoMate n) p q =
    let same = rests-same line (codes "go") p.0 q.0 p.1 q.1 in
    absurd (p.2 n (subst (λ (l : List (List ℕ)). AsksForMate l n) same q.2))
command-one line c Nothing p q = absurd (some-thing line c (λ e. absurd (cc)) p q)
command-one line Nothing d p q = absurd (some-thing line d (λ e. absurd (cc)) q p)
command-one line c d p q = absurd (let long = ap length (words-same line c d (λ e. absurd (cc)) (λ e. absurd (cc)) p q) in omega arith)
