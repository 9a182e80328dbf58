use Rattle.std.proofs.Common.{subst}
use Rattle.std.specs.Prelude.{None}
use Rattle.board_core.specs.Board.{Board}
use Rattle.lone_port.specs.Lone.{worker_at_first}
use Rattle.worker_core.specs.Port.{Suits}
use Rattle.table_port.specs.Port.{book_of}
use Rattle.shared_tests.proofs.two_ports.a_worker_that_comes_late_finds_a_note.Goals as goal

pub worked-requires : goal.worked-requires
worked-requires g c =
    let port = c.port_of-one.result in
    subst (λ (b : Board). Suits (worker_at_first b 1) (book_of (record { cut = port.cut; shards = None; seat = port.seats.row; desk = port.seats.desk_seat })))
    c.in_ok-desk.ensures.position (c.port_of-one.ensures.suits 1)

pub worked-requires-2 : goal.worked-requires-2
worked-requires-2 g c =
    let port = c.port_of-two.result in
    subst (λ (b : Board). Suits (worker_at_first b 2) (book_of (record { cut = port.cut; shards = None; seat = port.seats.row; desk = port.seats.desk_seat })))
    c.in_ok-desk.ensures.position (c.port_of-two.ensures.suits 2)
