-- What a valid certificate shows, and what it shows in version 2.
use Rattle.std.proofs.Common.{◌≡◌, ℕ, zero, suc, List, [], ◌∷◌, Contains, subst, refl}
use Rattle.std.specs.Prelude.{Some, slice_get}
use Rattle.std.specs.List.{AllByRecursion}
use Rattle.std.proofs.lemmas.Option.{same_Some}
use Rattle.list_laws.proofs.Standing.{at_place, contains_map, from_map}
use Rattle.bit_boards.specs.declared.piece.Side.{Side}
use Rattle.board_core.specs.Board.{Board}
use Rattle.board_core.specs.Kept.{IsKept}
use Rattle.mate_facts.specs.declared.entry.MateEntry.{MateEntry}
use Rattle.mate_facts.specs.Entries.{positions_of}
use Rattle.hand_dominance.specs.declared.version.Version.{Version}
use Rattle.hand_dominance.specs.declared.version.Version.TheVariants.{One, Two}
use Rattle.hand_dominance.specs.BorneOut.{Covers, CoversStays, BorneOutStays, HeldStays, RanksWhereCovered, NoMateWhereCovered, EscapesWhereListed, AreBorneOut, AreClosed, AreKept, IsBorneOut, IsCovered, IsHeld}
use Rattle.cert_text.specs.declared.certificate.Certificate.{Certificate}
use Rattle.cert_text.specs.declared.certificate.Certificate.TheVariants.{Mate, Escape}
use Rattle.cert_text.specs.Certificate.{Mating, Escaping, Form, MayBeListed, mate_form, escape_form}
use Rattle.cert_text.specs.Kinds.{positions_in}
use Rattle.cert_text.specs.Reading.{IsReadable}
use Rattle.cert_check.specs.Valid.{ValidMate, ValidEscape, IsValid, ShowsMate, ShowsEscape, Shows}
use Rattle.cert_check.specs.Upgraded.{upgraded}

-- 1. What is shown.

mate_shown : CoversStays → RanksWhereCovered → (c : Mating) (p : Board) → AreKept (positions_of c.entries) → IsKept p → ValidMate c p → ShowsMate c p
mate_shown stays ranks c p all kept v =
    let kept_at : (entry : MateEntry) → Contains c.entries entry → IsKept entry.at =
    λ entry there. all entry.at (contains_map (λ (e : MateEntry). e.at) c.entries entry there) in
    let borne : AreBorneOut c.version c.entries p.side = λ entry there. (kept_at entry there, v.entries entry there) in
    record {
      mate = (v.listed.entry.rank.number, ranks c.version p.side c.entries v.listed.entry p borne v.listed.listed kept v.listed.covers);
      ranks = λ entry there. ranks c.version p.side c.entries entry entry.at borne there (kept_at entry there) (stays c.version p.side entry.at entry.at refl);
    }

escape_shown : NoMateWhereCovered → EscapesWhereListed → (c : Escaping) (p : Board) → AreKept c.entries → IsKept p → ValidEscape c p → ShowsEscape c p
escape_shown none escapes c p all kept v = record {
  escape = λ one.
      let l = subst (λ (w : Version). IsCovered w c.entries p.side p) one v.listed in
      escapes p.side c.entries p (subst (λ (w : Version). AreClosed w c.entries p.side) one v.closed) (subst (Contains c.entries) l.covers l.inside);
  no_mate = none c.version p.side c.entries p all v.closed kept v.listed;
}

pub shown : CoversStays → RanksWhereCovered → NoMateWhereCovered → EscapesWhereListed → (c : Certificate) (p : Board) → AreKept (positions_in c) → IsKept p
    → IsValid c p → Shows c p
shown stays ranks none escapes (Mate c) p all kept v = mate_shown stays ranks c p all kept v
shown stays ranks none escapes (Escape c) p all kept v = escape_shown none escapes c p all kept v

-- 2. The positions of a certificate that can be read are kept.

fit_kept : {A : Type 0} (form : Form A) (xs : List A) → AllByRecursion (MayBeListed form) xs → (k : ℕ) (x : A) → slice_get xs k ≡ Some x → IsKept (form.at x)
fit_kept form [] fit k x e = absurd (cc)
fit_kept {A} form (y ∷ xs) fit zero x e = subst (λ (z : A). IsKept (form.at z)) (same_Some y x e) fit.0.kept
fit_kept form (y ∷ xs) fit (suc k) x e = fit_kept form xs fit.1 k x e

pub readable_shown : CoversStays → RanksWhereCovered → NoMateWhereCovered → EscapesWhereListed → (c : Certificate) (p : Board) → IsReadable c → IsValid c p → Shows c p
readable_shown stays ranks none escapes (Mate c) p can v =
    mate_shown stays ranks c p
    (λ b there.
    let f = from_map (λ (e : MateEntry). e.at) c.entries there.0 b (at_place (positions_of c.entries) b there) in
    subst IsKept f.2 (fit_kept (mate_form c.problem) c.entries can.good.fit there.0 f.0 f.1))
    (subst IsKept v.problem can.kept) v
readable_shown stays ranks none escapes (Escape c) p can v =
    escape_shown none escapes c p (λ b there. fit_kept (escape_form c.problem) c.entries can.good.fit there.0 b (at_place c.entries b there))
    (subst IsKept v.problem can.kept) v

-- 3. What is said in one version is so in version 2.

covers_in_two : CoversStays → (version : Version) (attacker : Side) (over under : Board) → Covers version attacker over under → Covers Two attacker over under
covers_in_two stays One attacker over under c = stays Two attacker over under c
covers_in_two stays Two attacker over under c = c

borne_out_in_two : BorneOutStays → (version : Version) (attacker : Side) (entries : List MateEntry) (entry : MateEntry) → IsBorneOut version entries attacker entry
    → IsBorneOut Two entries attacker entry
borne_out_in_two stays One attacker entries entry b = stays Two attacker entries entry b
borne_out_in_two stays Two attacker entries entry b = b

held_in_two : HeldStays → (version : Version) (attacker : Side) (s : List Board) (b : Board) → IsHeld version s attacker b → IsHeld Two s attacker b
held_in_two stays One attacker s b h = stays Two attacker s b h
held_in_two stays Two attacker s b h = h

pub valid_in_two : CoversStays → BorneOutStays → HeldStays → (c : Certificate) (p : Board) → IsValid c p → IsValid (upgraded c) p
valid_in_two covers borne held (Mate c) p v = record {
  problem = v.problem;
  listed = record {
    entry = v.listed.entry;
    listed = v.listed.listed;
    covers = covers_in_two covers c.version p.side p v.listed.entry.at v.listed.covers;
  };
  entries = λ entry there. borne_out_in_two borne c.version p.side c.entries entry (v.entries entry there);
}
valid_in_two covers borne held (Escape c) p v = record {
  problem = v.problem;
  listed = record {
    listed = v.listed.listed;
    inside = v.listed.inside;
    covers = covers_in_two covers c.version p.side v.listed.listed p v.listed.covers;
  };
  closed = record { turn = v.closed.turn; held = λ b there. held_in_two held c.version p.side c.entries b (v.closed.held b there) };
}
