-- An engine that obeys calls goes on by steps; so every image that a crash may leave is linked.
use Rattle.mg_base.specs.Disk.{Meaning}
use Rattle.mg_base.specs.Image.{Image}
use Rattle.mg_core.specs.declared.parts.Core.{Core}
use Rattle.mg_engine_demand_laws.specs.LayingLaws.{one_step}
use Rattle.mg_engine_demand_laws.specs.Runs.{GoesOn, RunsStayLinked, stays}
use Rattle.mg_image.specs.Tables.{Layout}
use Rattle.mg_engine_demand_laws.specs.CallLaws.{asks_go, begins_go, commits_go, pages_go, reads_go, rollbacks_go}
use Rattle.mg_engine_demand_laws.specs.Calls.{RowsGo}
use Rattle.mg_engine_demand_laws.specs.Engines.{EnginesStayLinked, Obeys, ObeysAll, a_commit, a_page, a_read, a_rollback, a_row, a_start, a_table, an_asking, obeys, rests}
use Rattle.mg_engine_demand_laws.specs.Moments.{moment_of}
use Rattle.mg_engine_demand_laws.specs.TableCalls.{TablesGo}
use Rattle.mg_engine_demand_laws.specs.TableLaws.{followed}

module _ (D : Type 0) (m : Meaning D) (rows : RowsGo D m) (tables : TablesGo D m) where
  one_goes : (first last : Core D) (i j : Image) (layout later : Layout) → Obeys m first i layout last j later
      → GoesOn m (moment_of first i layout) (moment_of last j later)
  one_goes first last i j layout later (a_start old new session mode t a b place r state sound is begins held) =
      one_step m (moment_of old a place) (moment_of new b place)
      (begins_go D m old new session mode t a b place r state sound is begins held)
  one_goes first last i j layout later (an_asking old new t a place apart asked) =
      one_step m (moment_of old a place) (moment_of new a place) (asks_go D m old new t a place apart asked)
  one_goes first last i j layout later (a_page old new goal page a b place one told held) =
      one_step m (moment_of old a place) (moment_of new b place) (pages_go D m old new goal page a b place one told held)
  one_goes first last i j layout later (a_commit old new t a k b place r state sound commits may held) =
      one_step m (moment_of old a place) (moment_of new b place)
      (commits_go D m old new t a k b place r state sound commits may held)
  one_goes first last i j layout later (a_rollback old new t a place then_ back stood) =
      one_step m (moment_of old a place) (moment_of new a then_) (rollbacks_go D m old new t a place then_ back stood)
  one_goes first last i j layout later (a_read old new a place keeps list works) =
      one_step m (moment_of old a place) (moment_of new a place) (reads_go D m old new a place keeps list works)
  one_goes first last i j layout later (a_row old new t table write key rec a b place then_ puts bare told held knows) =
      rows old new t table write key rec a b place then_ puts bare told held knows
  one_goes first last i j layout later
      (a_table old new t name shape keys table a b place then_ puts begins held knows) =
      tables old new t name shape keys table a b place then_ puts begins held knows

  all_go : (first last : Core D) (i j : Image) (layout later : Layout) → ObeysAll m first i layout last j later
      → GoesOn m (moment_of first i layout) (moment_of last j later)
  all_go first last i j layout later (rests core a place) = stays (moment_of core a place)
  all_go first last i j layout later (obeys one two three a k b place midway then_ call more) =
      followed m (moment_of one a place) (moment_of two k midway) (moment_of three b then_)
      (one_goes one two a k place midway call) (all_go two three k b midway then_ more)

  pub engines_stay_linked : RunsStayLinked D m → EnginesStayLinked D m
  engines_stay_linked linked first last i j layout later r opens calls set_ closed =
      linked (moment_of first i layout) (moment_of last j later) r opens
      (all_go first last i j layout later calls) set_ closed
