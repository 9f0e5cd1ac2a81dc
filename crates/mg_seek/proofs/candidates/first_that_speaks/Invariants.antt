use Rattle.std.proofs.Common.{Option, length}
use Rattle.mg_base.specs.Image.{Image}
use Rattle.mg_base.specs.declared.numbers.RecId.{RecId}
use Rattle.mg_pool.specs.Fault.{MeetsNoFault}
use Rattle.mg_space.specs.View.{KeepsStore, Tells, viewed}
use Rattle.mg_seek.specs.Candidates.{FoundAmong}
use Rattle.mg_seek.specs.TableRecords.{IsAmong}
use Rattle.mg_seek.proofs.candidates.first_that_speaks.Given as goal

abbrev pub invariant-loop-rec : goal.invariant-loop-rec
invariant-loop-rec g l = record {
  keeps : KeepsStore g.D.Disk.meaning l.initial.store l.store;
  faults : MeetsNoFault g.D.Disk.meaning l.initial.store l.store;
  among : (rec : RecId) → IsAmong l.rest rec → IsAmong l.candidates rec;
  further : (image : Image) → Tells g.D.Disk.meaning l.initial.store.disk image → (found : Option RecId)
      → FoundAmong (g.S.States.state_of l.states) l.live (viewed l.initial.store image l.batch) l.table
      l.key l.rest found
      → FoundAmong (g.S.States.state_of l.states) l.live (viewed l.initial.store image l.batch) l.table
      l.key l.candidates found;
}

abbrev pub decreases-loop-rec : goal.decreases-loop-rec
decreases-loop-rec g l = length l.rest
