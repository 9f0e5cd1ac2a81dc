use Rattle.std.proofs.Common.{◌≡◌, length}
use Rattle.mg_base.specs.Image.{Image}
use Rattle.mg_base.specs.declared.numbers.RecId.{RecId}
use Rattle.mg_directory.specs.CandidateLaws.{HasAllOf}
use Rattle.mg_directory.specs.Candidates.{ByKey, under}
use Rattle.mg_pool.specs.Fault.{MeetsNoFault}
use Rattle.mg_pool.specs.Pool.{shown}
use Rattle.mg_space.specs.View.{KeepsStore, Tells}
use Rattle.mg_seek.specs.TableRecords.{IsAmong}
use Rattle.mg_noting.specs.Building.{IsBuilt}
use Rattle.mg_noting.proofs.building.note_records.Given as goal

-- each record that was passed is under its key, in this directory and in each that has more
abbrev pub invariant-loop-rec : goal.invariant-loop-rec
invariant-loop-rec g l = record {
  keeps : KeepsStore g.D.Disk.meaning l.initial.store l.store;
  faults : MeetsNoFault g.D.Disk.meaning l.initial.store l.store;
  table : l.dir.first ≡ l.initial.dir.first;
  more : HasAllOf (under l.initial.dir) (under l.dir);
  among : (rec : RecId) → IsAmong l.rest rec → IsAmong l.records rec;
  further : (image : Image) → Tells g.D.Disk.meaning l.initial.store.disk image → (later : ByKey)
      → HasAllOf (under l.dir) later
      → IsBuilt (g.S.States.state_of l.states) l.live (shown l.initial.store.dirty image) l.table l.rest later
      → IsBuilt (g.S.States.state_of l.states) l.live (shown l.initial.store.dirty image) l.table l.records
      later;
}

abbrev pub decreases-loop-rec : goal.decreases-loop-rec
decreases-loop-rec g l = length l.rest
