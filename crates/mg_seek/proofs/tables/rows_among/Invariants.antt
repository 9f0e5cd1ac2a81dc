use Rattle.std.proofs.Common.{◌≡◌, ◌++◌, List, length}
use Rattle.mg_base.specs.Image.{Image}
use Rattle.mg_base.specs.declared.numbers.RecId.{RecId}
use Rattle.mg_image.specs.Form.{Row}
use Rattle.mg_pool.specs.Fault.{MeetsNoFault}
use Rattle.mg_space.specs.View.{KeepsStore, Tells, viewed}
use Rattle.mg_seek.specs.TableRecords.{IsAmong}
use Rattle.mg_seek.specs.TableRows.{AreSeen}
use Rattle.mg_seek.proofs.tables.rows_among.Given as goal

abbrev pub invariant-loop-rec : goal.invariant-loop-rec
invariant-loop-rec g l = record {
  keeps : KeepsStore g.D.Disk.meaning l.initial.store l.store;
  faults : MeetsNoFault g.D.Disk.meaning l.initial.store l.store;
  among : (rec : RecId) → IsAmong l.rest rec → IsAmong l.records rec;
  further : (image : Image) → Tells g.D.Disk.meaning l.initial.store.disk image → (later : List Row)
      → AreSeen (g.S.States.state_of l.states) l.live l.t (viewed l.initial.store image l.batch) l.table
      l.rest later
      → AreSeen (g.S.States.state_of l.states) l.live l.t (viewed l.initial.store image l.batch) l.table
      l.records (l.rows.items ++ later);
}

abbrev pub decreases-loop-rec : goal.decreases-loop-rec
decreases-loop-rec g l = length l.rest
