-- What is said of the end of a run.
use Rattle.std.specs.Prelude.{◌≡◌, []}
use Rattle.mg_base.specs.Streams.{SinkMeaning}
use Rattle.mg_run_ends.specs.declared.ending.RunEnd.{RunEnd}
use Rattle.mg_run_ends.specs.declared.ending.RunEnd.TheVariants.{Outside}
use Rattle.mg_run_ends.specs.Ends.{IsOutside, last_line}
use Rattle.mg_run_ends.specs.Printing.{IsPrinted}

-- the run ends so; but where there is no memory to tell of its refusal, that ends it
abbrev pub IsTold : RunEnd → RunEnd → Type 0
IsTold (Outside refusal) told = IsOutside refusal told
IsTold end told = told ≡ end

-- The line of an end was put into the sink, if there is one; it is the end that the run has then.
pub record SaysEnd {K : Type 0} (n : SinkMeaning K) (old new : K) (end told : RunEnd) : Type 0 where
  pub is_told : IsTold end told
  pub printed : IsPrinted n old new (last_line told)
  pub silent : last_line end ≡ [] → new ≡ old
