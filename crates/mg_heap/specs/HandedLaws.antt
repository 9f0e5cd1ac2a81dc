-- A law of faults that are handed on, of calls that read data pages; those of every call are in mg_space.
use Rattle.std.specs.Prelude.{◌≡◌, Result, Ok, Err, IsErr, IsErrAnd}
use Rattle.std.proofs.Common.{subst, sym}
use Rattle.mg_space.specs.declared.fault.SpaceFault.{SpaceFault}
use Rattle.mg_space.specs.declared.fault.SpaceFault.TheVariants as faults
use Rattle.mg_heap.specs.Reading.{ReadsData}

reads_as : (A B : Type 0) (fault : SpaceFault) → ReadsData {T = A} (Err fault)
    → ReadsData {T = B} (Err fault)
reads_as A B (faults.Full limit) reads = reads
reads_as A B (faults.Damaged damage) reads = reads
reads_as A B (faults.Pool fault) reads = reads

-- a fault of a reading that is handed on is one of a reading
pub reads_same : {T : Type 0} (A : Type 0) (result : Result T SpaceFault) (fault : SpaceFault)
    → IsErr result → IsErrAnd result (λ given. given ≡ fault) → ReadsData {T = A} (Err fault)
    → ReadsData result
reads_same A (Ok x) fault err is reads = tt
reads_same {T = T} A (Err e) fault err is reads =
    subst (λ (f : SpaceFault). ReadsData {T = T} (Err f)) (sym is) (reads_as A T fault reads)
