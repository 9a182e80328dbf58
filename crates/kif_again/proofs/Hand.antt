-- The text of a hand names it, and has no fault.
use Rattle.std.proofs.Common.{◌≡◌, ◌≢◌, ◌≤◌, ◌+◌, ◌++◌, ℕ, List, [], ◌∷◌, length, Some, refl, sym, subst, ap, ◌∙◌, arith, chars}
use Rattle.bit_boards.specs.declared.piece.Kind.{Kind}
use Rattle.bit_boards.specs.declared.piece.Kind.TheVariants.{Pawn, Lance, Knight, Silver, Gold, Bishop, Rook, King}
use Rattle.board_core.specs.Board.{hand_count}
use Rattle.kif_text.specs.declared.fault.KifFault.{KifFault}
use Rattle.kif_text.specs.First.{HasFirst, HasNone}
use Rattle.kif_text.specs.Lines.{utf8}
use Rattle.kif_text.specs.Words.{HasHandFault, HasWordFault, count_for, hand_of, hand_with, words}
use Rattle.kif_text.proofs.Offered.{none_named, none_or_first, nothing_named}
use Rattle.kif_record.specs.Diagram.{hand_text, or_none, with_kinds}
use Rattle.kif_again.proofs.Hands.{Items, counted, items_more, no_characters, no_items, no_words}
use Rattle.kif_again.proofs.Written.{Written, written_chars}

-- The kinds of a hand, the last one written first.
abbrev all_kinds : List Kind
all_kinds = Pawn ∷ Lance ∷ Knight ∷ Silver ∷ Gold ∷ Bishop ∷ Rook ∷ []

abbrev pub NoneIsMany : List ℕ → Type 0
NoneIsMany hand = (kind : Kind) → kind ≢ King → hand_count hand kind ≤ 18

items_of : (hand : List ℕ) → NoneIsMany hand → Items hand all_kinds (with_kinds hand [] (Rook ∷ Bishop ∷ Gold ∷ Silver ∷ Knight ∷ Lance ∷ Pawn ∷ []))
items_of hand few =
    let rook = items_more hand [] Rook _ [] refl (few Rook (λ e. absurd cc)) (λ e. absurd cc) refl (no_items hand) in
    let bishop = items_more hand _ Bishop _ _ refl (few Bishop (λ e. absurd cc)) (λ e. absurd cc) refl rook in
    let gold = items_more hand _ Gold _ _ refl (few Gold (λ e. absurd cc)) (λ e. absurd cc) refl bishop in
    let silver = items_more hand _ Silver _ _ refl (few Silver (λ e. absurd cc)) (λ e. absurd cc) refl gold in
    let knight = items_more hand _ Knight _ _ refl (few Knight (λ e. absurd cc)) (λ e. absurd cc) refl silver in
    let lance = items_more hand _ Lance _ _ refl (few Lance (λ e. absurd cc)) (λ e. absurd cc) refl knight in
    items_more hand _ Pawn _ _ refl (few Pawn (λ e. absurd cc)) (λ e. absurd cc) refl lance

seven : (hand : List ℕ) (list : List (List ℕ)) → length hand ≡ 7 → ((kind : Kind) → count_for kind list ≡ counted kind hand all_kinds) → hand_with list ≡ hand
seven (a ∷ b ∷ c ∷ d ∷ e ∷ f ∷ g ∷ []) list long counts =
    let pawn : count_for Pawn list ≡ a = counts Pawn ∙ omega arith in
    let lance : count_for Lance list ≡ b = counts Lance ∙ omega arith in
    let knight : count_for Knight list ≡ c = counts Knight ∙ omega arith in
    let silver : count_for Silver list ≡ d = counts Silver ∙ omega arith in
    let gold : count_for Gold list ≡ e = counts Gold ∙ omega arith in
    let bishop : count_for Bishop list ≡ f = counts Bishop ∙ omega arith in
    let rook : count_for Rook list ≡ g = counts Rook ∙ omega arith in
    rw (pawn, lance, knight, silver, gold, bishop, rook) refl
seven [] list long counts = absurd (omega (arith, long))
seven (a ∷ []) list long counts = absurd (omega (arith, long))
seven (a ∷ b ∷ []) list long counts = absurd (omega (arith, long))
seven (a ∷ b ∷ c ∷ []) list long counts = absurd (omega (arith, long))
seven (a ∷ b ∷ c ∷ d ∷ []) list long counts = absurd (omega (arith, long))
seven (a ∷ b ∷ c ∷ d ∷ e ∷ []) list long counts = absurd (omega (arith, long))
seven (a ∷ b ∷ c ∷ d ∷ e ∷ f ∷ []) list long counts = absurd (omega (arith, long))
seven (a ∷ b ∷ c ∷ d ∷ e ∷ f ∷ g ∷ h ∷ rest) list long counts = absurd (omega (arith, long))

-- A text of a hand is characters, names it, and has no fault in any line.
pub record HandAgain (text hand : List ℕ) : Type 0 where
  pub characters : List ℕ
  pub written : Written text characters
  pub is_hand : hand_of (Some text) ≡ hand
  pub none : (line : ℕ) (fault : KifFault) → HasHandFault line text fault → ⊥

told : (hand text : List ℕ) → length hand ≡ 7 → Items hand all_kinds text → HandAgain (or_none text) hand
unfolding lib.Utf8.encode
told hand [] long items =
    let none : items.list ≡ [] = sym items.is_words ∙ ap words (no_characters items.characters items.written) ∙ no_words in
    let empty : hand_with [] ≡ hand = subst (λ (list : List (List ℕ)). hand_with list ≡ hand) none (seven hand items.list long items.counts) in
    record {
      characters = 12394 ∷ 12375 ∷ [];
      written = record { is = refl; scalars = refl; plain = refl };
      is_hand = sym (none_named (utf8 "なし") refl) ∙ nothing_named ∙ empty;
      none = λ line fault is. absurd (is.0 refl);
    }
told hand (byte ∷ text) long items =
    let same : words (chars (byte ∷ text)) ≡ items.list = ap words (written_chars (byte ∷ text) items.characters items.written) ∙ items.is_words in
    record {
      characters = items.characters;
      written = items.written;
      is_hand = ap hand_with same ∙ seven hand items.list long items.counts;
      none = λ line fault is. none_or_first (HasWordFault line) items.list fault (items.none line) (subst (λ (list : List (List ℕ)). HasFirst (HasWordFault line) list fault) same is.1);
    }

pub hand_again : (hand : List ℕ) → length hand ≡ 7 → NoneIsMany hand → HandAgain (hand_text hand) hand
unfolding hand_text
hand_again hand long few = told hand _ long (items_of hand few)
