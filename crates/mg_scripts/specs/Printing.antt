-- What a sink takes of what is printed.
use Rattle.std.specs.Prelude.{◌≡◌, ◌⊎◌, ◌≤◌, ◌++◌, ℕ, List, take, Option, None, Some}
use Rattle.mg_base.specs.Disk.{Rose}
use Rattle.mg_base.specs.Streams.{SinkMeaning}
use Rattle.mg_scripts.specs.declared.lines.LinesEnd.{LinesEnd}
use Rattle.mg_scripts.specs.declared.lines.LinesEnd.TheVariants.{Whole, Stopped, NoMemory, SinkFailed}

-- the sink took these bytes, and did not fail
pub record Writes {K : Type 0} (n : SinkMeaning K) (old new : K) (bytes : List ℕ) : Type 0 where
  pub all : (before : List ℕ) → n.taken old ≡ Some before → n.taken new ≡ Some (before ++ bytes)
  pub steady : n.faults new ≡ n.faults old

-- the sink failed, and took the first of these bytes
pub record WritesFirst {K : Type 0} (n : SinkMeaning K) (old new : K) (bytes : List ℕ) : Type 0 where
  pub some : (before : List ℕ) → n.taken old ≡ Some before
      → (count : ℕ) × (n.taken new ≡ Some (before ++ take count bytes))
  pub never_falls : n.faults old ≤ n.faults new
  pub failed : Rose (n.faults old) (n.faults new)

-- what a line came to was printed; or these bytes of it alone, since memory was short; or the sink failed
abbrev pub PrintsLine : {K : Type 0} → SinkMeaning K → K → K → List ℕ → List ℕ → Option LinesEnd → Type 0
PrintsLine n old new bytes least None = Writes n old new bytes
PrintsLine n old new bytes least (Some Whole) = ⊥
PrintsLine n old new bytes least (Some (Stopped refusal)) = ⊥
PrintsLine n old new bytes least (Some NoMemory) = Writes n old new least
PrintsLine n old new bytes least (Some SinkFailed) = WritesFirst n old new bytes ⊎ WritesFirst n old new least

-- memory was short, and these bytes were printed; or the sink failed
abbrev pub PrintsShort : {K : Type 0} → SinkMeaning K → K → K → List ℕ → LinesEnd → Type 0
PrintsShort n old new least Whole = ⊥
PrintsShort n old new least (Stopped refusal) = ⊥
PrintsShort n old new least NoMemory = Writes n old new least
PrintsShort n old new least SinkFailed = WritesFirst n old new least

-- ---- faults of the sink, whatever the history

-- the sink's count stands still at a line behind which the run goes on, and rose where the run ends by the sink
abbrev pub LineSays : {K : Type 0} → SinkMeaning K → K → K → Option LinesEnd → Type 0
LineSays n old new None = n.faults new ≡ n.faults old
LineSays n old new (Some Whole) = ⊥
LineSays n old new (Some (Stopped refusal)) = n.faults old ≤ n.faults new
LineSays n old new (Some NoMemory) = n.faults old ≤ n.faults new
LineSays n old new (Some SinkFailed) = (n.faults old ≤ n.faults new) × Rose (n.faults old) (n.faults new)

-- The sink's count never falls over the lines. It stands still where all were obeyed, and rose where the run ends by
-- the sink.
pub record SinkSays {K : Type 0} (n : SinkMeaning K) (old new : K) (end : LinesEnd) : Type 0 where
  pub never_falls : n.faults old ≤ n.faults new
  pub steady : end ≡ Whole → n.faults new ≡ n.faults old
  pub failed : end ≡ SinkFailed → Rose (n.faults old) (n.faults new)
