-- The line of a move says it, and counts.
use Rattle.std.proofs.Common.{◌≡◌, ◌≢◌, ◌==◌, ◌||◌, ◌&&◌, ◌<◌, ◌≤◌, ◌^◌, ◌++◌, inl, inr, ℕ, suc, Bool, true, false, not, List, [], ◌∷◌, length, Option, Some, None, refl, sym, subst, ap, ◌∙◌, arith, append_assoc, option_map, option_and_then, chars}
use Rattle.std.specs.Prelude.{IsSomeAnd}
use Rattle.std.proofs.lemmas.Bool.{ne_eqb}
use Rattle.bit_boards.specs.declared.piece.Kind.{Kind}
use Rattle.bit_boards.specs.declared.piece.Kind.TheVariants.{King}
use Rattle.bit_boards.specs.declared.piece.Piece.{Piece}
use Rattle.bit_boards.specs.declared.square.Square.{Square}
use Rattle.bit_boards.specs.Kind.{same_kind}
use Rattle.board_laws.proofs.Pieces.{not_the_king}
use Rattle.board_core.specs.declared.moves.Move.{Move}
use Rattle.board_core.specs.declared.moves.Move.TheVariants as moves
use Rattle.board_core.specs.Board.{Board, piece_at}
use Rattle.shogi_rules.specs.Rules.{IsLegal, IsOwn}
use Rattle.shogi_rules.specs.declared.illegal.Illegal.TheVariants.{NotThere}
use Rattle.kif_text.specs.Lines.{begins, utf8}
use Rattle.kif_record.specs.Characters.{kind_text, name_of as name_text}
use Rattle.kif_record.specs.Moves.{goes_to, moved_text, named, numbered, origin_text, place_text, promotion_text}
use Rattle.kif_record.specs.Record.{ending_text}
use Rattle.kif_moves.specs.Characters.{is_space}
use Rattle.kif_moves.specs.Lines.{has_ending, is_end, is_skipped}
use Rattle.kif_moves.specs.Playing.{HasName, Names, Says, goal, named_in}
use Rattle.kif_moves.specs.Words.{IsMoveOf, Spoken, behind_number, dropped, gone, goal_of, is_ending, is_in_hand, name_of, named_to, spoken_of, way_of}
use Rattle.kif_again.proofs.Numbered.{StartsLow, numbered_again}
use Rattle.kif_again.proofs.Words.{name_again, place_again, way_again}
use Rattle.kif_again.proofs.Written.{Written, written-append, written_chars}

-- What stands behind the place of a move is read as how it goes.
record MovedAgain (b : Board) (move : Move) : Type 0 where
  pub characters : List ℕ
  pub written : Written (moved_text b move) characters
  pub name : Piece
  pub spoken : Spoken
  pub reads : named_to (goal move, characters) ≡ Some spoken
  pub is_named : spoken.name ≡ name
  pub has_name : HasName b move name
  pub is_move : IsMoveOf spoken move

piece_there : (b : Board) (from : ℕ) → ¬ (¬ IsOwn b from) → (piece : Piece) × (piece_at b.cells from ≡ Some piece)
piece_there b from own = by_piece (piece_at b.cells from) refl
  where
    by_piece : (cell : Option Piece) → piece_at b.cells from ≡ cell → (piece : Piece) × (piece_at b.cells from ≡ Some piece)
    by_piece None is = absurd (own (λ o. subst (λ (c : Option Piece). IsSomeAnd c (λ piece. piece.side ≡ b.side)) is o))
    by_piece (Some piece) is = (piece, is)

drop_written : Written (utf8 "打") (25171 ∷ [])
unfolding lib.Utf8.encode
drop_written = record { is = refl; scalars = refl; plain = refl }

moved_again : (b : Board) (move : Move) → IsLegal b move → ((kind : Kind) (to : Square) → move ≡ moves.Drop kind to → kind ≢ King) → MovedAgain b move
moved_again b (moves.Board from to promote) legal no_king =
    let piece = piece_there b from.number (legal NotThere) in
    let name = name_again piece.0.kind piece.0.promoted piece.0.promotes in
    let way = way_again name.name promote from.number from.on_board in
    record {
      characters = name.characters ++ way.0;
      written = subst (λ (t : List ℕ). Written t (name.characters ++ way.0))
          (sym (append_assoc (name_text piece.0) (promotion_text promote) (origin_text from.number)) ∙ ap (λ (c : Option Piece). named c ++ promotion_text promote ++ origin_text from.number) (sym piece.1)) (written-append _ _ _ _ name.written way.1);
      name = name.name;
      spoken = record { to = to.number; name = name.name; way = gone from.number promote };
      reads = rw (name.reads way.0, way.2) refl;
      is_named = refl;
      has_name = subst (λ (c : Option Piece). IsSomeAnd c (λ p. (p.kind ≡ name.name.kind) × (p.promoted ≡ name.name.promoted))) (sym piece.1) (sym name.is_kind, sym name.is_promoted);
      is_move = (refl, refl);
    }
moved_again b (moves.Drop piece to) legal no_king =
    let name = name_again piece false (λ e. absurd cc) in
    let in_hand : is_in_hand name.name ≡ true = rw (name.is_promoted, name.is_kind, not_the_king piece (no_king piece to refl)) refl in
    record {
      characters = name.characters ++ 25171 ∷ [];
      written = written-append _ _ _ _ name.written drop_written;
      name = name.name;
      spoken = record { to = to.number; name = name.name; way = dropped };
      reads = rw (name.reads (25171 ∷ []), in_hand) refl;
      is_named = refl;
      has_name = tt;
      is_move = (refl, name.is_kind, refl);
    }

-- The line of a move is characters, says the move, counts, and doesn't end the moves.
pub record LineAgain (b : Board) (last : Option Square) (move : Move) (bytes : List ℕ) : Type 0 where
  pub characters : List ℕ
  pub written : Written bytes characters
  pub says : Says b (option_map (λ (s : Square). s.number) last) bytes move
  pub counts : is_skipped bytes ≡ false
  pub goes_on : is_end bytes ≡ false

-- A line that begins with a number in its place isn't passed over, and doesn't begin with a word
-- that ends the moves.
low_counts : (bytes : List ℕ) → StartsLow bytes → is_skipped bytes ≡ false
unfolding lib.Utf8.encode
low_counts bytes low =
    let hash = low.apart 35 (inl refl) in
    let star = low.apart 42 (inr (inr (inl refl))) in
    let ampersand = low.apart 38 (inr (inl refl)) in
    ap is_skipped low.is ∙ rw (hash, star, ampersand, ne_eqb (suc (length low.others)) 0 (λ e. absurd (omega (arith, e)))) refl

low_goes_on : (bytes : List ℕ) → StartsLow bytes → is_end bytes ≡ has_ending (behind_number (chars bytes))
unfolding lib.Utf8.encode
low_goes_on bytes low =
    let made = low.apart 227 (inr (inr (inr (omega arith)))) in
    let other = low.apart 229 (inr (inr (inr (omega arith)))) in
    let no_made : begins bytes "まで" ≡ false = ap (λ (t : List ℕ). begins t "まで") low.is ∙ rw made refl in
    let no_other : begins bytes "変化：" ≡ false = ap (λ (t : List ℕ). begins t "変化：") low.is ∙ rw other refl in
    rw (no_made, no_other) refl

pub goal_is : (move : Move) → (goes_to move).number ≡ goal move
goal_is (moves.Board from to promote) = refl
goal_is (moves.Drop piece to) = refl

-- The line of a move, without its line feed.
abbrev pub line_of : ℕ → Option Square → Board → Move → List ℕ
line_of number last b move = numbered number ++ place_text last (goes_to move) ++ moved_text b move

pub line_again : (b : Board) (last : Option Square) (number : ℕ) (move : Move) → number < 2 ^ 64 → IsLegal b move
    → ((kind : Kind) (to : Square) → move ≡ moves.Drop kind to → kind ≢ King) → LineAgain b last move (line_of number last b move)
line_again b last number move small legal no_king =
    let n = numbered_again number small in
    let p = place_again last (goes_to move) in
    let m = moved_again b move legal no_king in
    let lastn : Option ℕ = option_map (λ (s : Square). s.number) last in
    let bytes : List ℕ = line_of number last b move in
    let place : List ℕ = p.first ∷ p.others in
    let written : Written bytes ((n.characters ++ place) ++ m.characters) = written-append _ _ _ _ (written-append _ _ _ _ n.written p.written) m.written in
    let low : StartsLow bytes = subst StartsLow (sym (append_assoc (numbered number) (place_text last (goes_to move)) (moved_text b move))) (n.low (place_text last (goes_to move) ++ moved_text b move)) in
    let behind : behind_number (chars bytes) ≡ Some (place ++ m.characters) =
    ap behind_number (written_chars bytes _ written ∙ append_assoc n.characters place m.characters) ∙ n.left p.first (p.others ++ m.characters) p.not_space in
    let spoken : spoken_of lastn (place ++ m.characters) ≡ Some m.spoken =
    ap (λ (g : Option (ℕ × List ℕ)). option_and_then named_to g) (p.reads m.characters) ∙ ap (λ (t : ℕ). named_to (t, m.characters)) (goal_is move) ∙ m.reads in
    record {
      characters = (n.characters ++ place) ++ m.characters;
      written = written;
      says = (m.name, record { spoken = m.spoken; is_spoken = ap (λ (w : Option (List ℕ)). option_and_then (spoken_of lastn) w) behind ∙ spoken; is_named = m.is_named; is_move = m.is_move }, m.has_name);
      counts = low_counts bytes low;
      goes_on = low_goes_on bytes low ∙ ap has_ending behind ∙ p.no_end m.characters;
    }

-- The last line, with the word that ends the moves.
pub record EndAgain (bytes : List ℕ) : Type 0 where
  pub characters : List ℕ
  pub written : Written bytes characters
  pub counts : is_skipped bytes ≡ false
  pub ends : is_end bytes ≡ true

word_again : (mated : Bool) → (c : ℕ) × (rest : List ℕ) × Written (ending_text mated) (c ∷ rest) × (is_space c ≡ false) × (is_ending (c ∷ rest) ≡ true)
unfolding lib.Utf8.encode
word_again true = (35440, 12415 ∷ [], record { is = refl; scalars = refl; plain = refl }, refl, refl)
word_again false = (20013, 26029 ∷ [], record { is = refl; scalars = refl; plain = refl }, refl, refl)

pub end_again : (number : ℕ) (mated : Bool) → number < 2 ^ 64 → EndAgain (numbered number ++ ending_text mated)
end_again number mated small =
    let n = numbered_again number small in
    let w = word_again mated in
    let bytes : List ℕ = numbered number ++ ending_text mated in
    let written : Written bytes (n.characters ++ w.0 ∷ w.1) = written-append _ _ _ _ n.written w.2 in
    let low : StartsLow bytes = n.low (ending_text mated) in
    let behind : behind_number (chars bytes) ≡ Some (w.0 ∷ w.1) = ap behind_number (written_chars bytes _ written) ∙ n.left w.0 w.1 w.3 in
    record {
      characters = n.characters ++ w.0 ∷ w.1;
      written = written;
      counts = low_counts bytes low;
      ends = low_goes_on bytes low ∙ ap has_ending behind ∙ w.4;
    }
