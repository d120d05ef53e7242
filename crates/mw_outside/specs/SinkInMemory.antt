-- What a sink in memory has taken, and which writes to it fail.
use Rattle.std.specs.Prelude.{ℕ, ◌+◌, ◌<◌, ◌⊎◌, List, length, Contains}
use Rattle.mw_outside.specs.Faults.{next_call}
use Rattle.mw_outside.specs.declared.test_sink.TestSink.{TestSink}

-- the bytes that the sink has taken
abbrev pub bytes_in : TestSink → List ℕ
bytes_in sink = sink.taken.items

-- how many bytes the sink takes in all
abbrev pub room_of : TestSink → ℕ
room_of sink = sink.room

-- how many writes there were
abbrev pub writes_of : TestSink → ℕ
writes_of sink = sink.calls

-- the writes that fail, counted from 1
abbrev pub failing_writes : TestSink → List ℕ
failing_writes sink = sink.fail

-- how many writes have failed
abbrev pub write_faults : TestSink → ℕ
write_faults sink = sink.faults.value

-- a write of so many bytes fails: its number is listed, or there is no room
abbrev pub Refuses : TestSink → ℕ → Type 0
Refuses sink count = Contains (failing_writes sink) (next_call (writes_of sink))
    ⊎ room_of sink < length (bytes_in sink) + count
