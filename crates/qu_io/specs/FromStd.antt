-- What std's readers and writers hold, as a source and as a sink.
use Rattle.std.specs.Prelude.{ℕ, List, Option}
use Rattle.qu_io.specs.declared.std_source.StdSource.{StdSource}
use Rattle.qu_io.specs.declared.std_sink.StdSink.{StdSink}
use Rattle.qu_io.specs.Streams.{StreamView}

abbrev pub reader_of : {R : Type 0} → StdSource R → R
reader_of source = source.reader

abbrev pub read_faults : {R : Type 0} → StdSource R → ℕ
read_faults source = source.faults

-- what is left is what is left in the reader
abbrev pub known_source : {R : Type 0} → (R → Option (List ℕ)) → StdSource R → StreamView
known_source remaining source = record { bytes = remaining source.reader; faults = source.faults }

abbrev pub writer_of : {W : Type 0} → StdSink W → W
writer_of sink = sink.writer

abbrev pub write_faults : {W : Type 0} → StdSink W → ℕ
write_faults sink = sink.faults

-- what was taken is what the writer holds
abbrev pub known_sink : {W : Type 0} → (W → Option (List ℕ)) → StdSink W → StreamView
known_sink contents sink = record { bytes = contents sink.writer; faults = sink.faults }
