-- Meaning. What is seen of the source and the sink over std's readers and writers.
use Rattle.std.specs.Prelude.{ℕ}
use Rattle.edge_io.specs.declared.standard.StdSource.{StdSource}
use Rattle.edge_io.specs.declared.standard.StdSink.{StdSink}

-- the reader that the source reads from
abbrev pub reader_of : {R : Type 0} → StdSource R → R
reader_of source = source.reader

-- how many reads failed
abbrev pub read_faults : {R : Type 0} → StdSource R → ℕ
read_faults source = source.faults

-- the writer that the sink writes to
abbrev pub writer_of : {W : Type 0} → StdSink W → W
writer_of sink = sink.writer

-- how many writes failed
abbrev pub write_faults : {W : Type 0} → StdSink W → ℕ
write_faults sink = sink.faults
