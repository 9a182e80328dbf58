-- What a listener heard last.
use Rattle.std.specs.Prelude.{ℕ}
use Rattle.reading_ahead.specs.declared.hearing.Heard.{Heard}
use Rattle.reading_ahead.specs.declared.hearing.Listener.{Listener}

-- What it answered last; nothing before it was asked.
abbrev pub heard_by : Listener → Heard
heard_by listener = listener.heard

-- How often it was asked, up to 2^64 - 1.
abbrev pub asks_of : Listener → ℕ
asks_of listener = listener.asks
