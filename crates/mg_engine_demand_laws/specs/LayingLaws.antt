-- A version that comes into the record of its key goes there by steps of an engine's run.
use Rattle.std.specs.Prelude.{◌≡◌, ℕ, Some}
use Rattle.mg_base.specs.Disk.{Meaning}
use Rattle.mg_base.specs.Image.{Image}
use Rattle.mg_base.specs.declared.numbers.RecId.{RecId}
use Rattle.mg_chain.specs.Writing.{GivesSpot, MakesRecord, Pushes, Replaces, TakesOut}
use Rattle.mg_image.specs.Tables.{Layout}
use Rattle.mg_model.specs.declared.table.Table.{Table}
use Rattle.mg_pool.specs.declared.pool.Pool.{Pool}
use Rattle.mg_batches.specs.Batches.{nothing_yet}
use Rattle.mg_row_writes.specs.Changing.{PushesOver, ReplacesNewest}
use Rattle.mg_row_writes.specs.Bare.{BareNew, BareOverDead}
use Rattle.mg_row_writes.specs.declared.before.Way.TheVariants as ways
use Rattle.mg_space.specs.View.{Tells}
use Rattle.mg_space.specs.declared.links.FireLinks.{FireLinks}
use Rattle.mg_version.specs.declared.cell.Version.{Version}
use Rattle.mg_engine_demand_laws.specs.Laying.{KnowsNew, KnowsOverDead, KnowsPush, KnowsReplace, LaysGo, moved_to}
use Rattle.mg_engine_demand_laws.specs.Runs.{GoesBy, GoesOn, Moment, a_place, a_record, a_replacement, a_taking_out, a_version, goes, puts_batch, stays}
use Rattle.mg_engine_demand_laws.specs.StoreLaws.{own_change}

-- one step
pub one_step : {D : Type 0} (m : Meaning D) (first last : Moment D) → GoesBy m first last → GoesOn m first last
one_step m first last step = goes first last last step (stays last)

module _ (D : Type 0) (m : Meaning D) (at : Moment D) (store : Pool D FireLinks) (j : Image) (later : Layout) (t : ℕ)
    (table : Table) (v : Version) (told : Tells m at.store.disk at.image) (held : m.held store.disk ≡ Some j)
    (its : v.tx.0 ≡ t) where
  push_goes : (rec : RecId) (over : PushesOver m at.store store rec v)
      → KnowsPush m at store later t table rec v over → GoesBy m at (moved_to at store j later)
  push_goes rec over knows = puts_batch at store j later knows.may.reading t table over.batch
      (own_change m at.store store at.image j (λ image batch. Pushes at.store image nothing_yet batch rec v) over told held)
      knows.may.writes (a_version rec v knows.may.stood (over.filled at.image told) its knows.page
      (knows.committed (over.filled at.image told)))

  replace_goes : (rec : RecId) (over : ReplacesNewest m at.store store rec v)
      → KnowsReplace at later t table rec → GoesBy m at (moved_to at store j later)
  replace_goes rec over knows = puts_batch at store j later knows.may.reading t table over.batch
      (own_change m at.store store at.image j (λ image batch. Replaces at.store image nothing_yet batch rec v) over told held)
      knows.may.writes (a_replacement rec v knows.may.stood (over.filled at.image told) its knows.page)

  new_goes : (lays : BareNew m at.store store table.pointer.0 v) → KnowsNew m at store later t table v lays
      → GoesOn m at (moved_to at store j later)
  new_goes lays knows = goes at (moved_to at lays.placed knows.image knows.first) (moved_to at store j later)
      (puts_batch at lays.placed knows.image knows.first knows.place.reading t table lays.takes.batch
      (own_change m at.store lays.placed at.image knows.image
      (λ image batch. GivesSpot at.store image nothing_yet batch table.pointer.0 lays.at) lays.takes told knows.told.held)
      knows.place.writes (a_place lays.at knows.place.stood (lays.takes.filled at.image told)))
      (one_step m (moved_to at lays.placed knows.image knows.first) (moved_to at store j later)
      (puts_batch (moved_to at lays.placed knows.image knows.first) store j later knows.record_.reading t table
      lays.makes.batch (own_change m lays.placed store knows.image j
      (λ image batch. MakesRecord lays.placed image nothing_yet batch table.pointer.0 lays.at v) lays.makes knows.told held)
      knows.record_.writes (a_record lays.at v knows.record_.stood (lays.makes.filled knows.image knows.told) its knows.page
      knows.free)))

module _ (D : Type 0) (m : Meaning D) (at : Moment D) (store : Pool D FireLinks) (j : Image) (later : Layout) (t : ℕ)
    (table : Table) (v : Version) (told : Tells m at.store.disk at.image) (held : m.held store.disk ≡ Some j)
    (its : v.tx.0 ≡ t) where
  over_dead_goes : (rec : RecId) (lays : BareOverDead m at.store store rec v)
      → KnowsOverDead m at store later t table rec v lays → GoesOn m at (moved_to at store j later)
  over_dead_goes rec lays knows = goes at (moved_to at lays.cleared knows.image knows.first) (moved_to at store j later)
      (puts_batch at lays.cleared knows.image knows.first knows.out.reading t table lays.takes.batch
      (own_change m at.store lays.cleared at.image knows.image
      (λ image batch. TakesOut at.store image nothing_yet batch rec) lays.takes told knows.told.held)
      knows.out.writes (a_taking_out rec knows.out.stood (lays.takes.filled at.image told) knows.page
      (knows.uncommitted (lays.takes.filled at.image told))))
      (one_step m (moved_to at lays.cleared knows.image knows.first) (moved_to at store j later)
      (push_goes D m (moved_to at lays.cleared knows.image knows.first) store j later t table v knows.told held its rec
      lays.pushes knows.push))

pub lays_go : (D : Type 0) (m : Meaning D) → LaysGo D m
lays_go D m at store j later t table v ways.Make lays told held its knows =
    new_goes D m at store j later t table v told held its lays knows
lays_go D m at store j later t table v (ways.Push rec) lays told held its knows =
    one_step m at (moved_to at store j later) (push_goes D m at store j later t table v told held its rec lays knows)
lays_go D m at store j later t table v (ways.PushOverDead rec) lays told held its knows =
    over_dead_goes D m at store j later t table v told held its rec lays knows
lays_go D m at store j later t table v (ways.Replace rec) lays told held its knows =
    one_step m at (moved_to at store j later) (replace_goes D m at store j later t table v told held its rec lays knows)
