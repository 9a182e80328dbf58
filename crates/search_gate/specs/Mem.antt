-- What a stop in memory tells of itself.
use Rattle.search_gate.specs.Stop.{Signal}
use Rattle.search_gate.specs.declared.stop.MemStop.{MemStop}

-- How often it was polled and signalled, at which poll last, and how it was armed.
abbrev pub signal_of : MemStop → Signal
signal_of stop = record { polls = stop.polls; raised = stop.raised; last = stop.last; armed = stop.armed; arms = stop.arms; early = stop.early }
