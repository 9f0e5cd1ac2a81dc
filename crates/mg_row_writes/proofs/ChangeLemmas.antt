-- A call that fills a batch read alone.
use Rattle.std.proofs.Common.{Result, Err}
use Rattle.mg_heap.specs.Reading.{ReadsData}
use Rattle.mg_space.specs.View.{ReadsAlone}
use Rattle.mg_space.specs.declared.fault.SpaceFault.{SpaceFault}
use Rattle.mg_space.specs.declared.fault.SpaceFault.TheVariants as faults

-- a reading of data alone is one of a call that fills a batch
pub data_alone : (T : Type 0) (fault : SpaceFault) → ReadsData {T = T} (Err fault) → ReadsAlone {T = T} (Err fault)
data_alone T (faults.Full limit) given = absurd given
data_alone T (faults.Damaged it) given = given
data_alone T (faults.Pool it) given = given
