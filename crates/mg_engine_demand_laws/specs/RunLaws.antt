-- Each step of an engine's calls keeps its invariant, and so do any number of them.
use Rattle.std.specs.Prelude.{ℕ, []}
use Rattle.std.proofs.Common.{inl, sym, subst, ap}
use Rattle.mg_base.specs.Disk.{Meaning}
use Rattle.mg_base.specs.declared.geometry.Geometry.{Geometry}
use Rattle.mg_careful.specs.CarefulWrite.{Cache, DemandSet, listed}
use Rattle.mg_image.specs.Records.{Reading}
use Rattle.mg_image.specs.Tables.{Layout}
use Rattle.mg_model.specs.declared.table.Table.{Table}
use Rattle.mg_pool.specs.Batch.{Changed}
use Rattle.mg_pool.specs.Dirty.{is_marked}
use Rattle.mg_pool.specs.declared.pool.Pool.{Pool}
use Rattle.mg_demand_laws.specs.Roots.{roots_of}
use Rattle.mg_space.specs.declared.links.FireLinks.{FireLinks}
use Rattle.mg_demand_laws.specs.PoolTies.{cache_over}
use Rattle.mg_engine_demand_laws.specs.Bearing.{CrashesLinked, IsBorne}
use Rattle.mg_engine_demand_laws.specs.FateLaws.{telling_keeps}
use Rattle.mg_engine_demand_laws.specs.Fates.{AskingKeeps}
use Rattle.mg_engine_demand_laws.specs.Numbers.{CommitsKeep, DrawsKeep}
use Rattle.mg_engine_demand_laws.specs.Opening.{OpeningBears}
use Rattle.mg_engine_demand_laws.specs.OwnLaws.{replacements_pay, taking_out_pays}
use Rattle.mg_engine_demand_laws.specs.Runs.{Fills, GoesBy, GoesOn, Moment, RunsStayLinked, a_growth, a_place, a_record, a_replacement, a_table, a_taking_out, a_version, asks_commit, commits, draws, goes, only_reads, puts_batch, stays, tells, writes_pages}
use Rattle.mg_engine_demand_laws.specs.StoreLaws.{reads_keep}
use Rattle.mg_engine_demand_laws.specs.Stores.{BatchPays, PageWritesKeep, StoreBears, StoreChangesKeep}
use Rattle.mg_engine_demand_laws.specs.WriteLaws.{firsts_pay, growth_pays, making_pays, places_pay, pushes_pay}
use Rattle.mg_engine_demand_laws.specs.Writes.{Knows}

-- a batch of a transaction pays, whatever it is filled with
fills_pay : (D : Type 0) (at : Moment D) (later : Layout) (r : Reading) (t : ℕ) (table : Table) (wanted : DemandSet)
    (batch : Changed) → Knows at.store at.image at.fates at.layout r t table wanted → Fills at later t table batch
    → BatchPays at.store at.image at.fates at.layout later [] wanted batch
fills_pay D at later r t table wanted batch known (a_place rec stood spot) =
    places_pay D at.store at.image at.fates at.layout later r t table wanted batch rec known stood spot
fills_pay D at later r t table wanted batch known (a_record rec v stood makes its on free) =
    firsts_pay D at.store at.image at.fates at.layout later r t table wanted batch rec v known stood makes its on free
fills_pay D at later r t table wanted batch known (a_version rec v stood pushes its on committed) =
    pushes_pay D at.store at.image at.fates at.layout later r t table wanted batch rec v known stood pushes its on committed
fills_pay D at later r t table wanted batch known (a_replacement rec v stood replaces its on) =
    replacements_pay D at.store at.image at.fates at.layout later r t table wanted batch rec v known stood replaces its on
fills_pay D at later r t table wanted batch known (a_taking_out rec stood takes on uncommitted) =
    taking_out_pays D at.store at.image at.fates at.layout later r t table wanted batch rec known stood takes on uncommitted
fills_pay D at later r t table wanted batch known (a_growth need n stood gives) =
    growth_pays D at.store at.image at.fates at.layout later r t table wanted batch need n known stood gives
fills_pay D at later r t table wanted batch known (a_table catalog name shape begins fills stood) =
    making_pays D at.store at.image at.fates at.layout later r t table catalog wanted name shape batch known begins fills
    stood

-- What the steps rest on.
pub record StepLaws (D : Type 0) (m : Meaning D) : Type 0 where
  pub writes : PageWritesKeep D FireLinks m
  pub changes : StoreChangesKeep D FireLinks m
  pub drawn : DrawsKeep D FireLinks m
  pub committed : CommitsKeep D FireLinks m
  pub asked : AskingKeeps

module _ (D : Type 0) (m : Meaning D) (laws : StepLaws D m) (roots : DemandSet) where
  abbrev Bears : Moment D → Type 0
  Bears at = StoreBears at.store at.image at.fates at.layout roots

  step_keeps : (first last : Moment D) → GoesBy m first last → Bears first → Bears last
  step_keeps first last (only_reads at store keeps) borne =
      reads_keep D FireLinks m at.store store at.image at.fates at.layout roots keeps borne
  step_keeps first last (writes_pages at store j run tells_ held) borne =
      laws.writes at.store store at.image j at.fates at.layout roots run tells_ held borne
  step_keeps first last (puts_batch at store j later r t table batch changed may filled) borne =
      (laws.changes at.store store at.image j batch at.fates at.layout later roots [] changed borne
      (λ wanted all. fills_pay D at later r t table wanted batch (may, all) filled)).borne
  step_keeps first last (draws at old now store j begun r state from sound has) borne =
      laws.drawn old now at.store store at.image j at.fates begun at.layout r roots state from sound has borne
  step_keeps first last (asks_commit at store fates t same cache asks_now) borne =
      subst (λ (g : Geometry). IsBorne g.size (cache_over store at.image) (is_marked store.dirty) fates at.layout roots)
      (sym (ap (λ (s : Pool D FireLinks). s.geometry) same))
      (subst (λ (c : Cache). IsBorne at.store.geometry.size c (is_marked store.dirty) fates at.layout roots) (sym cache)
      (laws.asked at.store.geometry.size (cache_over at.store at.image) (is_marked at.store.dirty) (is_marked store.dirty)
      at.fates fates at.layout roots t borne asks_now))
  step_keeps first last (commits at old now store k j t ended r state it sound done) borne =
      laws.committed old now at.store store at.image k j t at.fates ended at.layout r roots state it sound done borne
  step_keeps first last (tells at fates later less) borne =
      telling_keeps at.store.geometry.size (cache_over at.store at.image) (is_marked at.store.dirty) at.fates fates at.layout
      later roots borne (record {
        committed = less.committed;
        asking = less.asking;
        active = λ t active. inl (less.active t active);
        tables = less.tables;
      })

  pub run_keeps : (first last : Moment D) → GoesOn m first last → Bears first → Bears last
  run_keeps first last (stays at) borne = borne
  run_keeps first last (goes one mid two step more) borne =
      run_keeps mid last more (step_keeps first mid step borne)

pub runs_stay_linked : (D : Type 0) (m : Meaning D) → StepLaws D m → OpeningBears → CrashesLinked → RunsStayLinked D m
runs_stay_linked D m laws opening linked first last r opens run set_ closed =
    linked last.store.geometry.size (cache_over last.store last.image) (is_marked last.store.dirty) last.fates last.layout
    (listed (roots_of first.store.geometry.size first.layout))
    (run_keeps D m laws (listed (roots_of first.store.geometry.size first.layout)) first last run
    (opening first.store.geometry.size (cache_over first.store first.image) (is_marked first.store.dirty) first.fates
    first.layout r opens.opened opens.idle)) set_ closed
