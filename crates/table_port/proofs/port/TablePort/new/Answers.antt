use Rattle.std.proofs.Common.{ap}
use Rattle.word_desk.specs.WordDesk.{WordDeskView}
use Rattle.table_port.proofs.Asked.{unused_suits}
use Rattle.table_port.proofs.port.TablePort.new.Goals as goal

pub returns-clause-suits : goal.returns-clause-suits
returns-clause-suits g c unused number =
    unused_suits (record { cut = c.args.cut; shards = g.R.Rows.shards c.args.rows; seat = c.args.seats.row; desk = c.args.seats.desk_seat }) c.args.seats.desk.now.position number
    (ap (λ (d : WordDeskView). d.position) c.requires.seated) unused
