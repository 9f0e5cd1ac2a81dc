-- The real streams and the real file tell nothing of content, and count their faults.
use Rattle.std.specs.Prelude.{None}
use Rattle.mg_base.specs.Streams.{SourceMeaning, SinkMeaning}
use Rattle.mg_base.specs.declared.std_streams.StdSource.{StdSource}
use Rattle.mg_base.specs.declared.std_streams.StdSink.{StdSink}

abbrev pub std_source_meaning : {R : Type 0} → SourceMeaning (StdSource R)
std_source_meaning = record { left = λ s. None; faults = λ s. s.faults }

abbrev pub std_sink_meaning : {R : Type 0} → SinkMeaning (StdSink R)
std_sink_meaning = record { taken = λ k. None; faults = λ k. k.faults }
