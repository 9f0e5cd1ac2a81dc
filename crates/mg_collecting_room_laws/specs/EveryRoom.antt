-- The collection of every record takes no free page, and is refused for want of pages nowhere.
use Rattle.std.proofs.Common.{◌≡◌, inl, inr, ap, refl, subst, ℕ, None, Some, List, Result, Ok, Err}
use Rattle.mg_base.specs.Disk.{Meaning}
use Rattle.mg_base.specs.declared.numbers.RecId.{RecId}
use Rattle.mg_base.specs.declared.transaction.TxState.{TxState}
use Rattle.mg_core.specs.Cores.{IsCore}
use Rattle.mg_core.specs.declared.parts.Core.{Core}
use Rattle.mg_core_collecting.specs.Every.{CollectsEvery, CollectsTable, FailsCommitted, FailsListed, FailsTable, GoesThrough, IsStray, RefusesAll, CollectsOne, is_collected, is_stray, left_alone, none_yet, one_more, stops_in, system_base, uncollected, unlisted, unlooked}
use Rattle.mg_free_page_laws.specs.CellRefusals.{other_there}
use Rattle.mg_free_page_laws.specs.RowSpending.{BatchLaws, later_short}
use Rattle.mg_free_page_laws.specs.Spending.{IsNotShort, SpendsAtMost, ToldAreHeld}
use Rattle.mg_free_page_laws.specs.SpendingLaws.{both_spend, nothing_spent, read_spends}
use Rattle.mg_heap.specs.Reading.{ReadsData}
use Rattle.mg_model.specs.declared.refusal.Refusal.{Refusal}
use Rattle.mg_model.specs.declared.refusal.Refusal.TheVariants.{DatabaseFull}
use Rattle.mg_model.specs.declared.table.Table.{Table}
use Rattle.mg_no_damage_laws.specs.CoreSpendingLaws.{told_full}
use Rattle.mg_no_damage_laws.specs.FewPages.{RoomStands}
use Rattle.mg_no_damage_laws.specs.FewPagesLaws.{room_kept, room_none, room_of}
use Rattle.mg_pool.specs.Pool.{shown}
use Rattle.mg_pool.specs.declared.pool.Pool.{Pool}
use Rattle.mg_records.specs.Keeping.{refusal_in}
use Rattle.mg_snap.specs.Live.{State as Bases}
use Rattle.mg_space.specs.View.{KeepsStore}
use Rattle.mg_space.specs.declared.fault.SpaceFault.{SpaceFault}
use Rattle.mg_space.specs.declared.fault.SpaceFault.TheVariants as faults
use Rattle.mg_space.specs.declared.links.FireLinks.{FireLinks}
use Rattle.mg_txlist.specs.TxList.{next_said, said}
use Rattle.mg_collecting_room_laws.specs.Room.{read_other, steps_spend, stop_short, stop_spends}

-- every record of the committed tables is collected, or not all are: no free page is taken
abbrev pub EveryTakesNone : (D : Type 0) → Meaning D → Type 0
EveryTakesNone D m = (old new : Core D) (result : Result (Unit {0}) Refusal) → IsCore m old
    → CollectsEvery m old new result → RoomStands m old new (refusal_in result) 0

module _ {D : Type 0} (m : Meaning D) (holds : ToldAreHeld m) (laws : BatchLaws m) (state : ℕ → TxState)
    (live : Bases) where
  -- no page is taken up to a store, and none is wanting there
  abbrev Ends : Pool D FireLinks → Pool D FireLinks → SpaceFault → Type 0
  Ends a b fault = SpendsAtMost m a b 0 × IsNotShort m a 0 fault

  -- where a reading is refused
  read_ends : (a b : Pool D FireLinks) (fault : SpaceFault) → KeepsStore m a b → ReadsData {T = Unit {0}} (Err fault)
      → SpendsAtMost m a b 0 × IsNotShort m a 0 fault
  read_ends a b fault keeps own = (
    read_spends m a b keeps,
    λ lawful i tells. other_there a.geometry (shown a.dirty i) 0 fault (read_other m fault own),
  )

  -- behind what took none
  ends_behind : (a mid b : Pool D FireLinks) (fault : SpaceFault) → SpendsAtMost m a mid 0
      → SpendsAtMost m mid b 0 × IsNotShort m mid 0 fault → SpendsAtMost m a b 0 × IsNotShort m a 0 fault
  ends_behind a mid b fault first next = (
    both_spend m holds a mid b 0 0 first next.0,
    later_short m holds laws a mid 0 0 fault first next.1,
  )

  -- ---- what is collected

  listed_spends : (a b : Pool D FireLinks) (rec : RecId) (made : CollectsOne m state live rec a b)
      → SpendsAtMost m a b 0
  listed_spends a b rec (gone, left_alone none keeps online why) = read_spends m a b keeps
  listed_spends a b rec (gone, is_collected ready keeps online settled it) =
      both_spend m holds a ready b 0 0 (read_spends m a ready keeps)
      (steps_spend m holds laws state live rec ready gone b it.collected.steps)

  each_spends : (a : Pool D FireLinks) (records : List RecId) (b : Pool D FireLinks)
      → GoesThrough (CollectsOne m state live) a records b → SpendsAtMost m a b 0
  each_spends a records b none_yet = nothing_spent m a a refl
  each_spends a records b (one_more done next mid now goes made) =
      both_spend m holds a mid now 0 0 (each_spends a done mid goes) (listed_spends mid now next made)

  table_spends : (a b : Pool D FireLinks) (table : Table) → CollectsTable m state live table a b
      → SpendsAtMost m a b 0
  table_spends a b table made = both_spend m holds a made.ready b 0 0 (read_spends m a made.ready made.keeps)
      (each_spends made.ready made.records b made.goes)

  tables_spend : (a : Pool D FireLinks) (tables : List Table) (b : Pool D FireLinks)
      → GoesThrough (CollectsTable m state live) a tables b → SpendsAtMost m a b 0
  tables_spend a tables b none_yet = nothing_spent m a a refl
  tables_spend a tables b (one_more done next mid now goes made) =
      both_spend m holds a mid now 0 0 (tables_spend a done mid goes) (table_spends mid now next made)

  -- ---- and what is not

  listed_ends : (a b : Pool D FireLinks) (rec : RecId) (fault : SpaceFault) → FailsListed m state live rec a b fault
      → SpendsAtMost m a b 0 × IsNotShort m a 0 fault
  listed_ends a b rec fault (unlooked fails) = read_ends a b fault fails.keeps fails.own
  listed_ends a b rec fault (uncollected ready keeps online settled fails) =
      ends_behind a fails.now b fault (both_spend m holds a ready fails.now 0 0 (read_spends m a ready keeps)
      (steps_spend m holds laws state live rec ready fails.some fails.now fails.steps)) (
        stop_spends m holds laws state live rec fails.now b fault fails.fails,
        stop_short m holds laws state live rec fails.now b fault fails.fails,
      )

  stray_other : (a : Pool D FireLinks) (catalog pointer : ℕ) (fault : SpaceFault) → IsStray catalog pointer fault
      → ReadsData {T = Unit {0}} (Err fault)
  stray_other a catalog pointer (faults.Full limit) stray = absurd stray
  stray_other a catalog pointer (faults.Damaged it) stray = tt
  stray_other a catalog pointer (faults.Pool fault) stray = absurd stray

  table_ends : (a b : Pool D FireLinks) (catalog : ℕ) (table : Table) (fault : SpaceFault)
      → FailsTable m state live catalog table a b fault → SpendsAtMost m a b 0 × IsNotShort m a 0 fault
  table_ends a b catalog table fault (is_stray stray keeps same) =
      read_ends a b fault keeps (stray_other a catalog table.pointer.0 fault stray)
  table_ends a b catalog table fault (unlisted fails) = read_ends a b fault fails.keeps fails.own
  table_ends a b catalog table fault (stops_in stop) = ends_behind a stop.stops.mid b fault
      (both_spend m holds a stop.ready stop.stops.mid 0 0 (read_spends m a stop.ready stop.keeps)
      (each_spends stop.ready stop.stops.done stop.stops.mid stop.stops.goes))
      (listed_ends stop.stops.mid b stop.stops.next fault stop.stops.stops)

  committed_ends : (a b : Pool D FireLinks) (view : Bases) (catalog : Table) (fault : SpaceFault)
      → FailsCommitted m a b state live view catalog fault → SpendsAtMost m a b 0 × IsNotShort m a 0 fault
  committed_ends a b view catalog fault (inl fails) = read_ends a b fault fails.keeps fails.own
  committed_ends a b view catalog fault (inr stop) = ends_behind a stop.stops.mid b fault
      (both_spend m holds a stop.ready stop.stops.mid 0 0 (read_spends m a stop.ready stop.finds.keeps)
      (tables_spend stop.ready stop.stops.done stop.stops.mid stop.stops.goes))
      (table_ends stop.stops.mid b catalog.pointer.0 stop.stops.next fault stop.stops.stops)

-- ---- the law

never_full : {D : Type 0} (old : Core D) (limit : ℕ) (refusal : Refusal) → RefusesAll old refusal
    → Some refusal ≡ Some (DatabaseFull limit) → ⊥
never_full old limit refusal refuses is =
    let same : refusal ≡ DatabaseFull limit = cc in subst (RefusesAll old) same refuses

pub every_takes_none : (D : Type 0) (m : Meaning D) → ToldAreHeld m → BatchLaws m → EveryTakesNone D m
every_takes_none D m holds laws old new (Ok done) core is o h stands told = room_none m holds old new core told None
    (both_spend m holds old.store is.collected.ready new.store 0 0
    (read_spends m old.store is.collected.ready is.collected.finds.keeps)
    (tables_spend m holds laws (said old.list) old.live is.collected.ready is.collected.tables new.store
    is.collected.goes)) tt
every_takes_none D m holds laws old new (Err refusal) core (inl (refuses, same)) o h stands told =
    room_kept m old new (Some refusal) (ap (λ (c : Core D). c.store) same)
    (λ limit is. never_full old limit refusal refuses (ap Some is))
every_takes_none D m holds laws old new (Err refusal) core (inr is) o h stands told =
    let spent = committed_ends m holds laws (said old.list) old.live old.store new.store
    (system_base (next_said old.list)) old.catalog is.fault is.fails in
    room_of m holds old new core told (Some refusal) 0 (record {
      spends = spent.0;
      enough = λ i free limit full. spent.1 core.geometry i free.tells free.regions free.free
          (told_full is.fault refusal limit is.is (named limit full)).0
          (told_full is.fault refusal limit is.is (named limit full)).1;
    })
  where
    named : (limit : ℕ) → Some refusal ≡ Some (DatabaseFull limit) → refusal ≡ DatabaseFull limit
    named limit same = cc
