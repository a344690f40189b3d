-- The reader and the writer under a source and a sink, and how often these have failed.
use Rattle.std.specs.Prelude.{ℕ}
use Rattle.kb_io.specs.declared.standard.StdSource.{StdSource}
use Rattle.kb_io.specs.declared.standard.StdSink.{StdSink}

-- the reader under the source
abbrev pub input_of : {R : Type 0} → StdSource R → R
input_of s = s.input

-- how often the source has failed
abbrev pub input_faults : {R : Type 0} → StdSource R → ℕ
input_faults s = s.faults

-- the writer under the sink
abbrev pub output_of : {W : Type 0} → StdSink W → W
output_of s = s.output

-- how often the sink has failed
abbrev pub output_faults : {W : Type 0} → StdSink W → ℕ
output_faults s = s.faults
