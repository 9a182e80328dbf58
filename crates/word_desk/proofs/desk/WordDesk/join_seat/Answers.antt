use Rattle.std.proofs.Common.{◌≡◌, ◌+◌, ℕ, ◌∙◌, ap, sym, subst, arith, length}
use Rattle.std.specs.Option.{option_or}
use Rattle.atomic_table.specs.Table.{Me}
use Rattle.word_desk.specs.contracts.seat.DeskSeat.{the_view}
use Rattle.word_desk.specs.declared.seat.DeskSeat.TheInside.{Inside}
use Rattle.word_desk.specs.declared.view.View.{View}
use Rattle.word_desk.specs.Rule.{after_join}
use Rattle.word_desk.specs.WordDesk.{WordDeskView, DeskSeatView, IsSeat, seat_of, numbers_to, joined}
use Rattle.word_desk.proofs.Seats.{joined_seat, seat_of-after_join}
use Rattle.word_desk.proofs.Moves.{joins, looks}
use Rattle.word_desk.proofs.desk.WordDesk.join_seat.Goals as goal

pub join_seat-requires : goal.join_seat-requires
join_seat-requires c =
    let shared = c.self.inside.table.shared in
    let seat = c.seat.inside.seat in
    let joined = c.other.inside.seat in
    let here = ap (λ (d : WordDeskView). d.words) c.self.view_is in (
      ap (λ (s : DeskSeatView). s.desk.words) c.seat.view_is ∙ (ap (λ (d : WordDeskView). d.words) c.requires.seats.0 ∙ sym here),
      ap (λ (s : DeskSeatView). s.desk.words) c.other.view_is ∙ (ap (λ (d : WordDeskView). d.words) c.requires.seats.1 ∙ sym here),
      c.other.invariant.1,
      omega (arith, c.self.invariant.0),
      joins seat.id joined.id seat.me.0 joined.me.0 c.seat.invariant.0.part,
    )

pub load-visits-requires : goal.load-visits-requires
load-visits-requires c =
    let shared = c.self.inside.table.shared in
    let here = ap (λ (d : WordDeskView). d.words) c.self.view_is in
    let later = c.join_seat.new.seat in (
      c.join_seat.ensures.0 ∙ (ap (λ (s : DeskSeatView). s.desk.words) c.seat.view_is ∙ (ap (λ (d : WordDeskView). d.words) c.requires.seats.0 ∙ sym here)),
      omega (arith, c.self.invariant.0),
      looks shared.table_id.slots later.id later.me 0,
    )

abbrev desk_of : Inside → WordDeskView
desk_of inside = record { words = inside.seat.table_id; position = inside.position; expansions = inside.expansions; room = inside.room }

-- both seats are of one desk
same_desk : (seat other : Inside) (self seat_now other_now : WordDeskView) → desk_of seat ≡ seat_now → desk_of other ≡ other_now → seat_now ≡ self → other_now ≡ self → desk_of seat ≡ desk_of other
same_desk seat other self seat_now other_now a b e f = a ∙ (e ∙ (sym f ∙ sym b))

pub invariant_of-seat : goal.invariant_of-seat
invariant_of-seat c =
    let inside = c.seat.inside in
    let other = c.other.inside in
    let later = c.load-visits.new.seat in
    let one_desk = same_desk inside other c.args.self.now c.args.seat.now.desk c.args.other.desk
    (ap (λ (s : DeskSeatView). s.desk) c.seat.view_is) (ap (λ (s : DeskSeatView). s.desk) c.other.view_is) c.requires.seats.0 c.requires.seats.1 in
    let me = c.load-visits.ensures.2.0 ∙ c.join_seat.ensures.2 in
    let T : WordDeskView → Type 0 = λ d. IsSeat (seat_of d other.seat.me.0 other.note) in
    let U : WordDeskView → Type 0 = λ d. other.drawn ≡ length (numbers_to d.expansions other.seat.me.0.drawn) in
    let kept = joined_seat (desk_of inside) later.table_id inside.seat.me.0 other.seat.me.0 later.me.0 inside.note other.note inside.drawn other.drawn
    c.seat.invariant.0
    (subst T (sym one_desk) c.other.invariant.0)
    (ap (λ (m : Me ℕ View). m.0) me)
    c.load-visits.ensures.2.1
    c.load-visits.ensures.2.2
    c.seat.invariant.2
    (subst U (sym one_desk) c.other.invariant.2)
    c.seat.invariant.3
    c.other.invariant.3 in
    rw c.keep_first.ensures (
      kept.0,
      ap (λ (m : Me ℕ View). m.1) me ∙ c.seat.invariant.1,
      kept.1,
      kept.2,
    )

pub returns : goal.returns
returns c =
    let inside = c.seat.inside in
    let other = c.other.inside in
    let later = c.load-visits.new.seat in
    let one_desk = same_desk inside other c.args.self.now c.args.seat.now.desk c.args.other.desk
    (ap (λ (s : DeskSeatView). s.desk) c.seat.view_is) (ap (λ (s : DeskSeatView). s.desk) c.other.view_is) c.requires.seats.0 c.requires.seats.1 in
    let me = c.load-visits.ensures.2.0 ∙ c.join_seat.ensures.2 in
    let words = c.load-visits.ensures.0 ∙ c.join_seat.ensures.0 in
    let note = c.keep_first.ensures in
    let other_is = ap (λ d. seat_of d other.seat.me.0 other.note) one_desk ∙ c.other.view_is in
    let first : the_view (record inside { seat = later; drawn = inside.drawn + other.drawn; note = c.keep_first.new.kept })
    ≡ seat_of (desk_of inside) (after_join inside.seat.me.0 other.seat.me.0) (option_or inside.note other.note) =
    λ k. seat_of (record (desk_of inside) { words = words k }) (me k).0 (note k) in
    let seat_is = c.seat.view_is in
    let last : joined (seat_of (desk_of inside) inside.seat.me.0 inside.note) (seat_of (desk_of inside) other.seat.me.0 other.note) ≡ joined c.args.seat.now c.args.other =
    λ k. joined (seat_is k) (other_is k) in
    first ∙ (seat_of-after_join (desk_of inside) inside.seat.me.0 other.seat.me.0 inside.note other.note ∙ last)
