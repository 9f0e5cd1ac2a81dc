-- Into which record a write goes, that nobody stands in its way, and that a write which is made was ready.
use Rattle.std.proofs.Common.{◌≡◌, ◌≢◌, ◌==◌, inl, inr, ℕ, Bool, true, false, Option, None, Some, refl, ap, ◌∙◌}
use Rattle.std.specs.Prelude.{if◌then◌else◌}
use Rattle.mg_base.specs.Disk.{Meaning}
use Rattle.mg_base.specs.declared.numbers.RecId.{RecId}
use Rattle.mg_base.specs.declared.numbers.TxNo.{TxNo}
use Rattle.mg_base.specs.declared.transaction.TxState.{TxState}
use Rattle.mg_base.specs.declared.transaction.TxState.TheVariants.{Active, Committed, Dead, Limbo}
use Rattle.mg_model.specs.declared.table.Table.{Table}
use Rattle.mg_records.specs.declared.write.Write.{Write}
use Rattle.mg_chain.specs.Views.{is_dead}
use Rattle.mg_image.specs.Form.{Pages}
use Rattle.mg_row_writes.specs.Befores.{IsBefore, IsBeforeBy, IsBeforeOf}
use Rattle.mg_row_writes.specs.Finding.{IsInWay}
use Rattle.mg_row_writes.specs.declared.before.Before.{Before}
use Rattle.mg_row_writes.specs.declared.before.Way.{Way}
use Rattle.mg_row_writes.specs.declared.before.Way.TheVariants as ways
use Rattle.mg_seek.specs.declared.views.Obstacle.{Obstacle}
use Rattle.mg_seek.specs.declared.walk.Placed.{Placed}
use Rattle.mg_snap.specs.Live.{State}
use Rattle.mg_waits.specs.Waits.{Edges, IsVerdict}
use Rattle.mg_core.specs.declared.parts.Core.{Core}
use Rattle.mg_core.specs.Obstacles.{IsPassed}
use Rattle.mg_core.specs.Writing.{Writes}
use Rattle.mg_model.specs.Machine.{own}
use Rattle.mg_engine_change_laws.specs.rows.Looked.{placed_lives}
use Rattle.mg_engine_change_laws.specs.rows.Refusals.{IsReady}

-- ---- who stands in the way, and where a write goes

-- the record into which a write goes
abbrev pub record_of : Way → Option RecId
record_of ways.Make = None
record_of (ways.Push rec) = Some rec
record_of (ways.PushOverDead rec) = Some rec
record_of (ways.Replace rec) = Some rec

goes_there : (state : ℕ → TxState) (t : ℕ) (table : Table) (rec : RecId) (found : Option Placed) (b : Before)
    → IsBeforeOf state t table rec found b → record_of b.way ≡ Some rec
goes_there state t table rec None b is = ap (λ (x : Before). record_of x.way) is
goes_there state t table rec (Some p) b is = by (p.version.tx.0 == t) is
  where
    other : (dead : Bool) → record_of (if dead then ways.PushOverDead rec else ways.Push rec) ≡ Some rec
    other true = refl
    other false = refl

    by : (own : Bool) → IsBeforeBy own state table rec p.version b → record_of b.way ≡ Some rec
    by true its = ap record_of its.way
    by false its = ap (λ (x : Before). record_of x.way) its ∙ other (is_dead (state p.version.tx.0))

pub goes_to : (state : ℕ → TxState) (live : State) (t : ℕ) (pages : Pages) (table : Table) (rec : Option RecId) (b : Before)
    → IsBefore state live t pages table rec b → record_of b.way ≡ rec
goes_to state live t pages table None b is = ap (λ (x : Before). record_of x.way) is
goes_to state live t pages table (Some rec) b is = goes_there state t table rec is.newest b is.is

pub none_passed : (state : ℕ → TxState) (live : State) (t : ℕ) (pages : Pages) (rec : Option RecId) (waits : Edges)
    (wait : Bool) (x : Option Obstacle) → IsInWay state live t pages rec x → IsPassed waits t wait x
    → IsInWay state live t pages rec None
none_passed state live t pages rec waits wait None is passed = is
none_passed state live t pages None waits wait (Some x) is passed = absurd cc
none_passed state live t pages (Some rec) waits wait (Some x) is passed =
    absurd (never x.state refl wait passed (placed_lives state live t is.newest x is.is))
  where
    never : (y : TxState) → x.state ≡ y → (w : Bool) → IsVerdict waits t x.by.0 y w None → x.state ≢ Dead → ⊥
    never Committed same w verdict lives = absurd cc
    never Limbo same w verdict lives = absurd cc
    never Dead same w verdict lives = lives same
    never Active same false verdict lives = absurd cc
    never Active same true (inl (none, leads)) lives = absurd cc
    never Active same true (inr (none, leads)) lives = absurd cc

-- a write that is made was ready
pub ready_of : {D : Type 0} (m : Meaning D) (old new : Core D) (t : TxNo) (table : Table) (write : Write)
    (written : Writes m old new t table write)
    → IsReady m old written.puts.read t table write written.puts.before written.puts.version
ready_of m old new t table write written = record {
  free = written.free;
  wait = written.wait;
  rec = written.rec;
  is_free = written.is_free;
  has = written.puts.has;
}
