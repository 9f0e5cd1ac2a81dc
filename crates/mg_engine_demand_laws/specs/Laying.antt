-- A version comes into the record of its key, in a table without indexes: the steps that this is, by its way.
use Rattle.std.specs.Prelude.{◌≡◌, ℕ, false, None, Some}
use Rattle.mg_base.specs.Disk.{Meaning}
use Rattle.mg_base.specs.Image.{Image}
use Rattle.mg_base.specs.declared.numbers.RecId.{RecId}
use Rattle.mg_base.specs.declared.transaction.TxState.TheVariants.{Committed}
use Rattle.mg_chain.specs.Writing.{Pushes, TakesOut}
use Rattle.mg_image.specs.Records.{Reading, cells_of}
use Rattle.mg_image.specs.Tables.{Layout}
use Rattle.mg_model.specs.Answers.{is_committed}
use Rattle.mg_model.specs.declared.table.Table.{Table}
use Rattle.mg_pool.specs.Pool.{shown}
use Rattle.mg_pool.specs.declared.pool.Pool.{Pool}
use Rattle.mg_batches.specs.Batches.{nothing_yet}
use Rattle.mg_row_writes.specs.Changing.{PushesOver}
use Rattle.mg_row_writes.specs.Bare.{BareLays, BareNew, BareOverDead}
use Rattle.mg_row_writes.specs.declared.before.Way.{Way}
use Rattle.mg_row_writes.specs.declared.before.Way.TheVariants as ways
use Rattle.mg_space.specs.View.{Tells}
use Rattle.mg_space.specs.declared.links.FireLinks.{FireLinks}
use Rattle.mg_version.specs.declared.cell.Version.{Version}
use Rattle.mg_engine_demand_laws.specs.Fates.{StoodBefore}
use Rattle.mg_engine_demand_laws.specs.Runs.{GoesOn, Moment}
use Rattle.mg_engine_demand_laws.specs.Wanted.{IsPageOf}
use Rattle.mg_engine_demand_laws.specs.Writes.{WritesInto}

-- A transaction may write into a table at a moment, and the tables of the later layout stood then.
pub record MayStep {D : Type 0} (at : Moment D) (later : Layout) (t : ℕ) (table : Table) : Type 0 where
  pub reading : Reading
  pub writes : WritesInto at.store at.image at.fates at.layout reading t table
  pub stood : StoodBefore at.layout later

-- the same engine, over another store, image and layout
abbrev pub moved_to : {D : Type 0} → Moment D → Pool D FireLinks → Image → Layout → Moment D
moved_to at store image layout = record at { store = store; image = image; layout = layout }

-- A record is made: what is known before its place is taken, and before it gets its first version.
pub record KnowsNew {D : Type 0} (m : Meaning D) (at : Moment D) (store : Pool D FireLinks) (later : Layout) (t : ℕ)
    (table : Table) (v : Version) (lays : BareNew m at.store store table.pointer.0 v) : Type 0 where
  pub first : Layout
  pub image : Image
  pub told : Tells m lays.placed.disk image
  pub place : MayStep at first t table
  pub record_ : MayStep (moved_to at lays.placed image first) later t table
  pub page : IsPageOf first lays.at.page.0 table
  pub free : cells_of (shown lays.placed.dirty image) lays.at ≡ None

-- A version is pushed: the newest one of its record is of a transaction that has committed.
pub record KnowsPush {D : Type 0} (m : Meaning D) (at : Moment D) (store : Pool D FireLinks) (later : Layout) (t : ℕ)
    (table : Table) (rec : RecId) (v : Version) (over : PushesOver m at.store store rec v) : Type 0 where
  pub may : MayStep at later t table
  pub page : IsPageOf at.layout rec.page.0 table
  pub committed : (p : Pushes at.store at.image nothing_yet over.batch rec v)
      → at.fates.state p.newest.tx.0 ≡ Committed

-- A dead transaction's version is taken out first: it has not committed, and the one behind it has.
pub record KnowsOverDead {D : Type 0} (m : Meaning D) (at : Moment D) (store : Pool D FireLinks) (later : Layout)
    (t : ℕ) (table : Table) (rec : RecId) (v : Version) (lays : BareOverDead m at.store store rec v) : Type 0 where
  pub first : Layout
  pub image : Image
  pub told : Tells m lays.cleared.disk image
  pub out : MayStep at first t table
  pub page : IsPageOf at.layout rec.page.0 table
  pub uncommitted : (p : TakesOut at.store at.image nothing_yet lays.takes.batch rec)
      → is_committed (at.fates.state p.newest.tx.0) ≡ false
  pub push : KnowsPush m (moved_to at lays.cleared image first) store later t table rec v lays.pushes

-- A transaction's own version is replaced.
pub record KnowsReplace {D : Type 0} (at : Moment D) (later : Layout) (t : ℕ) (table : Table) (rec : RecId)
    : Type 0 where
  pub may : MayStep at later t table
  pub page : IsPageOf at.layout rec.page.0 table

-- what is known, by the way
abbrev pub KnowsLay : {D : Type 0} (m : Meaning D) (at : Moment D) (store : Pool D FireLinks) (later : Layout) (t : ℕ)
    (table : Table) (v : Version) (way : Way) → BareLays m at.store store table.pointer.0 way v → Type 0
KnowsLay m at store later t table v ways.Make lays = KnowsNew m at store later t table v lays
KnowsLay m at store later t table v (ways.Push rec) lays = KnowsPush m at store later t table rec v lays
KnowsLay m at store later t table v (ways.PushOverDead rec) lays = KnowsOverDead m at store later t table rec v lays
KnowsLay m at store later t table v (ways.Replace rec) lays = KnowsReplace at later t table rec

-- the law: these are steps of an engine's run
abbrev pub LaysGo : (D : Type 0) → Meaning D → Type 0
LaysGo D m = (at : Moment D) (store : Pool D FireLinks) (j : Image) (later : Layout) (t : ℕ) (table : Table)
    (v : Version) (way : Way) (lays : BareLays m at.store store table.pointer.0 way v) → Tells m at.store.disk at.image
    → m.held store.disk ≡ Some j → v.tx.0 ≡ t → KnowsLay m at store later t table v way lays
    → GoesOn m at (moved_to at store j later)
