-- A bound of entries that are put in the order of their texts.
use Rattle.std.proofs.Common.{◌≡◌, ◌<◌, ◌≤◌, ◌^◌, ◌∙◌, ℕ, List, length, take, Contains, arith, refl, subst, ap}
use Rattle.std.proofs.lemmas.List.{take_all, length-map}
use Rattle.bit_boards.specs.declared.piece.Side.{Side}
use Rattle.board_core.specs.Board.{Board}
use Rattle.shogi_rules.specs.Tsume.{IsProblem}
use Rattle.hand_dominance.specs.declared.version.Version.TheVariants.{One}
use Rattle.cert_text.specs.Certificate.{IsListing, MayBeListed}
use Rattle.cert_order.specs.Entries.{HaveSame}
use Rattle.cert_order.specs.Order.{IsTextOrder, ArePicked}
use Rattle.cert_order.proofs.Picked.{of_picked, is_picked, as_many_picked, all_listed, picked_map, rising}
use Rattle.bound_text.specs.Bound.{bounded_in, bound_form}
use Rattle.bound_text.specs.Reading.{IsReadable}
use Rattle.bound_text.specs.declared.entry.BoundEntry.{BoundEntry}
use Rattle.bound_check.specs.Valid.{IsHeld, IsValidBound}
use Rattle.list_laws.proofs.Standing.{contained, at_place, from_map}
use Rattle.shortest_lists.specs.BoundWalk.{AreBoundEntries}

abbrev place_in : BoundEntry → Board
place_in entry = entry.at

-- the positions of all entries
pub all_positions : (entries : List BoundEntry) (n : ℕ) (positions : List Board) → positions ≡ bounded_in (take n entries) → length entries ≤ n
    → positions ≡ bounded_in entries
all_positions entries n positions e h = e ∙ ap bounded_in (take_all n entries h)

pub as_many : (entries : List BoundEntry) → length (bounded_in entries) ≡ length entries
as_many entries = length-map entries place_in

-- what every entry's position has, each listed position has
pub of_entries : (P : Board → Type 0) (entries : List BoundEntry) → ((entry : BoundEntry) → Contains entries entry → P entry.at)
    → (b : Board) → Contains (bounded_in entries) b → P b
of_entries P entries h b c =
    let found = from_map place_in entries c.0 b (at_place (bounded_in entries) b c) in
    subst P found.2 (h found.0 (contained entries c.0 found.0 found.1))

still_held : (attacker : Side) (entries sorted : List BoundEntry) → ((entry : BoundEntry) → Contains entries entry → Contains sorted entry)
    → (entry : BoundEntry) → IsHeld entries attacker entry → IsHeld sorted attacker entry
still_held attacker entries sorted kept entry held = λ check is_check.
    let has = held check is_check in
    record {
      evasion = has.evasion;
      is_evasion = has.is_evasion;
      leads = λ some.
          let from = has.leads some in
          record { entry = from.entry; listed = kept from.entry from.listed; same = from.same; enough = from.enough };
    }

module _ (p : Board) (entries sorted : List BoundEntry) (order : List ℕ) (ordered : IsTextOrder (bounded_in entries) order)
    (picked : ArePicked entries order sorted) where
  all : (place : ℕ) → place < length entries → Contains order place
  all place h = ordered.all place (let n = as_many entries in omega (arith, n, h))

  into : (entry : BoundEntry) → Contains entries entry → Contains sorted entry
  into entry c = is_picked entries order sorted all picked entry c

  from : (entry : BoundEntry) → Contains sorted entry → Contains entries entry
  from entry c = of_picked entries order sorted picked entry c

  pub valid_sorted : (within : ℕ) → IsValidBound entries p within → IsValidBound sorted p within
  valid_sorted within valid = record {
    root = λ some.
        let root = valid.root some in
        record { entry = root.entry; listed = into root.entry root.listed; same = root.same; enough = root.enough };
    held = λ entry c. still_held p.side entries sorted into entry (valid.held entry (from entry c));
  }

  pub same_sorted : HaveSame sorted entries
  same_sorted entry = (from entry, into entry)

  pub count_sorted : length sorted ≡ length entries
  count_sorted = as_many_picked entries order sorted picked ∙ (ordered.count ∙ as_many entries)

  module _ (accepted : IsProblem p) (are : AreBoundEntries p entries) where
    pub listing_sorted : IsListing (bound_form p) (record { version = One; problem = p; entries = sorted })
    listing_sorted = record {
      is_problem = accepted;
      rising = rising (bounded_in entries) order (bounded_in sorted) (picked_map place_in entries order sorted picked) ordered.rises;
      listed = λ entry c. are.problems entry (from entry c);
    }

    pub readable_sorted : length sorted < 2 ^ 64 → IsReadable p (record { version = One; problem = p; entries = sorted })
    readable_sorted few = record {
      same = refl;
      version = refl;
      good = record {
        fit = all_listed (MayBeListed (bound_form p)) sorted
            (λ entry c. record { kept = are.kept entry (from entry c); listed = are.problems entry (from entry c) });
        rising = listing_sorted.rising;
      };
      few = few;
    }
