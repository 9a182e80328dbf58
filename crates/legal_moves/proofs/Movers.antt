-- Whoever moves while his king is attacked is that king, or comes to where the attack is stopped.
use Rattle.std.proofs.Common.{◌≡◌, ◌≢◌, ◌<◌, ◌⊎◌, inl, inr, ℕ, Option, Bool, length, ap, subst, ◌∙◌, IsTrue}
use Rattle.std.specs.Prelude.{IsSomeAnd}
use Rattle.std.proofs.lemmas.Bool.{both_ways, cases_Bool}
use Rattle.bit_boards.specs.declared.piece.Kind.TheVariants.{King}
use Rattle.bit_boards.specs.declared.piece.Piece.{Piece}
use Rattle.bit_boards.specs.declared.square.Square.{Square}
use Rattle.bit_boards.specs.declared.mask.Mask.{Mask}
use Rattle.bit_boards.specs.Mask.{Holds}
use Rattle.bit_boards.specs.Movement.{fits}
use Rattle.board_core.specs.Board.{Board, piece_at, is_king_of}
use Rattle.shogi_rules.specs.Rules.{IsOwn}
use Rattle.shogi_rules.specs.Laws.{LegalBoardMoves}
use Rattle.attack_laws.proofs.Arrived.{some_of, some_by}
use Rattle.legal_moves.specs.Legal.{IsLegalBoard, IsGuarded}
use Rattle.legal_moves.proofs.Sheltered.{Leaves, king_by, stopping_of}
use Rattle.legal_moves.proofs.Stepping.{only_king}
use Rattle.legal_moves.proofs.Unshielded.{stopped_before}

-- a piece of the side to move, which would go there on an empty board
abbrev pub Goes : Board → ℕ → ℕ → Type 0
Goes b from to = IsSomeAnd (piece_at b.cells from) (λ piece. (piece.side ≡ b.side) × IsTrue (fits piece from to))

pub moves_or_stops : LegalBoardMoves → (b : Board) (king : Square) (stopping shielding : Mask) → length b.cells ≡ 81 → IsGuarded b king stopping shielding
    → (from to : ℕ) (promote : Bool) → from < 81 → to < 81 → IsLegalBoard b from to promote
    → (from ≡ king.number) ⊎ (Holds stopping to × Goes b from to)
moves_or_stops law b king stopping shielding long g from to promote low there legal =
    let c = (law b from to promote).0 legal in
    let t = some_of (piece_at b.cells from) _ c.own in
    let fit : IsTrue (fits t.0 from to) = subst (λ (o : Option Piece). IsSomeAnd o (λ p. IsTrue (fits p from to))) t.1 c.fits in
    elim (cases_Bool (is_king_of b.side (piece_at b.cells from))) [
      | inl is ↦ inl (g.only from is)
      | inr none ↦
          let plain : t.0.kind ≢ King = λ kind. both_ways _ none (ap (is_king_of b.side) t.1 ∙ king_by b.side t.0 kind t.2) in
          let leaves : Leaves b from to t.0 = record {
            long = long;
            start = low;
            on_board = there;
            apart = λ e. c.free (subst (IsOwn b) e c.own);
            there = t.1;
            own = t.2;
            free = c.free;
          } in
          let stops = stopping_of b from to promote t.0 king.number leaves plain (only_king b king stopping shielding g) c.safe in
          inr ((g.blocks to).1 (there, stopped_before b from to king.number stops), some_by (piece_at b.cells from) _ t.0 t.1 (t.2, fit))
    ]
