-- The streams in memory tell their bytes.
use Rattle.std.specs.Prelude.{ℕ, List, Some, drop}
use Rattle.mg_base.specs.Streams.{SourceMeaning, SinkMeaning}
use Rattle.mg_base.specs.declared.mem_source.MemSource.{MemSource}
use Rattle.mg_base.specs.declared.mem_sink.MemSink.{MemSink}

abbrev pub bytes_left : MemSource → List ℕ
bytes_left s = drop s.at s.bytes.items

-- the numbers of the calls that fail
abbrev pub source_bad : MemSource → List ℕ
source_bad s = s.bad.items

-- the calls so far
abbrev pub source_calls : MemSource → ℕ
source_calls s = s.calls

abbrev pub source_meaning : SourceMeaning MemSource
source_meaning = record { left = λ s. Some (bytes_left s); faults = λ s. s.faults }

abbrev pub bytes_taken : MemSink → List ℕ
bytes_taken k = k.bytes.items

abbrev pub sink_room : MemSink → ℕ
sink_room k = k.room

abbrev pub sink_bad : MemSink → List ℕ
sink_bad k = k.bad.items

abbrev pub sink_calls : MemSink → ℕ
sink_calls k = k.calls

abbrev pub sink_meaning : SinkMeaning MemSink
sink_meaning = record { taken = λ k. Some (bytes_taken k); faults = λ k. k.faults }
