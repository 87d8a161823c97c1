-- What clients read, one after another.
use Rattle.std.specs.Prelude.{ℕ, List, map}
use Rattle.std.specs.List.{flat_map}
use Rattle.thread_runs.specs.declared.reading.Reading.{Reading}
use Rattle.thread_runs.specs.declared.reading.Readings.{Readings}
use Rattle.thread_texts.specs.declared.lines.CountRead.{CountRead}

-- what a client read at one of its lines
abbrev pub read_of : ℕ → Reading → CountRead
read_of who r = record { who = who; line = r.line; slot = r.slot; count = r.count }

-- what all clients read, by client and line
abbrev pub reads_of : List Readings → List CountRead
reads_of clients = flat_map (λ c. map (read_of c.who) c.readings.items) clients
