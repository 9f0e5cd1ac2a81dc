-- A collection takes no free page, and is refused for want of pages nowhere.
use Rattle.std.proofs.Common.{◌≡◌, inl, inr, refl, ap, ℕ, Bool, None, Option, Some, List, Result, Ok, Err}
use Rattle.std.specs.Prelude.{unwrap_or}
use Rattle.mg_base.specs.Disk.{Meaning}
use Rattle.mg_base.specs.Image.{Image}
use Rattle.mg_base.specs.declared.geometry.Geometry.{Geometry}
use Rattle.mg_base.specs.declared.numbers.PageNo.{PageNo}
use Rattle.mg_base.specs.declared.numbers.RecId.{RecId}
use Rattle.mg_base.specs.declared.numbers.TxNo.{TxNo}
use Rattle.mg_base.specs.declared.transaction.TxState.{TxState}
use Rattle.mg_chain.specs.Dropping.{DropsBehind, RefusesDrop, RefusesPutOver, drop_leads, drop_newer, drop_older, lead_frees, lead_memory, lead_puts}
use Rattle.mg_chain.specs.Refusals.{RefusesVersion}
use Rattle.mg_chain.specs.Writing.{FreesAt, PutsAt}
use Rattle.mg_collecting.specs.Steps.{CollectStep, FailsStep, Steps, drops_unneeded, not_dropped, not_read, not_taken_out, one_more, reads_on, starts, takes_dead, takes_erased}
use Rattle.mg_core.specs.Cores.{IsCore}
use Rattle.mg_core.specs.declared.parts.Core.{Core}
use Rattle.mg_core_collecting.specs.Places.{CollectsPlace, CollectsSettled, FailsSettled, collects, no_record, not_collected, not_looked, not_told, nothing_settled}
use Rattle.mg_free_page_laws.specs.BatchStages.{StepTakes}
use Rattle.mg_free_page_laws.specs.CellRefusals.{IsOther, memory_other, other_there}
use Rattle.mg_free_page_laws.specs.FreeLaws.{both_taken, same_taken}
use Rattle.mg_free_page_laws.specs.FreePages.{TakesAtMost}
use Rattle.mg_free_page_laws.specs.KindLaws.{data_off, one_changed}
use Rattle.mg_free_page_laws.specs.RowSpending.{BatchLaws, later_short}
use Rattle.mg_free_page_laws.specs.Spending.{IsNotShort, SpendsAtMost, ToldAreHeld}
use Rattle.mg_free_page_laws.specs.SpendingLaws.{both_spend, failing_short, failing_spends, nothing_spent, own_spends, read_spends}
use Rattle.mg_heap.specs.Reading.{ReadsData, RefusesData}
use Rattle.mg_image.specs.Form.{Pages}
use Rattle.mg_model.specs.declared.refusal.Refusal.{Refusal}
use Rattle.mg_model.specs.declared.refusal.Refusal.TheVariants.{DatabaseFull}
use Rattle.mg_model.specs.declared.table.Table.{Table}
use Rattle.mg_no_damage_laws.specs.CoreSpendingLaws.{refused_by, told_full}
use Rattle.mg_no_damage_laws.specs.FewPages.{RoomStands}
use Rattle.mg_no_damage_laws.specs.FewPagesLaws.{room_kept, room_none, room_of}
use Rattle.mg_pool.specs.Batch.{Changed, content_in}
use Rattle.mg_pool.specs.Pool.{shown}
use Rattle.mg_pool.specs.declared.batch.BatchPage.{BatchPage}
use Rattle.mg_pool.specs.declared.pool.Pool.{Pool}
use Rattle.mg_records.specs.Keeping.{refusal_in}
use Rattle.mg_batches.specs.Batches.{nothing_yet}
use Rattle.mg_snap.specs.Live.{State as Bases}
use Rattle.mg_space.specs.View.{viewed}
use Rattle.mg_space.specs.declared.fault.SpaceFault.{SpaceFault}
use Rattle.mg_space.specs.declared.fault.SpaceFault.TheVariants as faults
use Rattle.mg_space.specs.declared.links.FireLinks.{FireLinks}
use Rattle.mg_txlist.specs.TxList.{said}
use Rattle.mg_version.specs.declared.cell.Link.{Link}
use Rattle.mg_version.specs.declared.cell.Version.{Version}

-- a record is collected at a place, or is not: no free page is taken, where the engine stood for a history
abbrev pub CollectionsTakeNone : (D : Type 0) → Meaning D → Type 0
CollectionsTakeNone D m = (old new : Core D) (t : TxNo) (table : Table) (rec : RecId) (result : Result Bool Refusal)
    → IsCore m old → CollectsPlace m old new t table rec result → RoomStands m old new (refusal_in result) 0

-- ---- a version is dropped

module _ (D : Type 0) (store : Pool D FireLinks) (image : Image) where
  abbrev g : Geometry
  g = store.geometry

  abbrev view : Changed → Pages
  view b = viewed store image b

  ordered : (old new : Changed) → new.pages ≡ old.pages → TakesAtMost g (view old) (view new) 0
  ordered old new same = same_taken g (view old) (view new)
      (λ n. ap (λ (pages : List BatchPage). unwrap_or (content_in pages n) (shown store.dirty image n)) same)

  then_ : (a b c : Changed) → TakesAtMost g (view a) (view b) 0 → TakesAtMost g (view b) (view c) 0
      → TakesAtMost g (view a) (view c) 0
  then_ a b c first second = both_taken g (view a) (view b) (view c) 0 0 first second

  puts : (old new : Changed) (at : RecId) (bytes : List ℕ) → PutsAt store image old new at bytes
      → TakesAtMost g (view old) (view new) 0
  puts old new at bytes it = one_changed g (view old) (view new) at.page.0
      (λ regions. data_off g (view old) at.page regions it.puts.data_page) it.puts.others

  frees : (old new : Changed) (at : RecId) → FreesAt store image old new at → TakesAtMost g (view old) (view new) 0
  frees old new at it = one_changed g (view old) (view new) at.page.0
      (λ regions. data_off g (view old) at.page regions it.frees.data_page) it.frees.others

  drop_takes : (old new : Changed) (newer gone : Link) → DropsBehind store image old new newer gone
      → StepTakes D store image old new 0
  drop_takes old new newer gone it lawful = then_ old it.leads.put new
      (puts old it.leads.put newer.rec it.leads.puts.bytes it.leads.puts.puts)
      (then_ it.leads.put it.leads.freed new (frees it.leads.put it.leads.freed gone.rec it.leads.frees)
      (ordered it.leads.freed new it.leads.ordered.same_pages))

module _ {D : Type 0} (m : Meaning D) where
  version_other : (store : Pool D FireLinks) (pages : List BatchPage) (view : Pages) (holder : ℕ) (l : Link)
      (fault : SpaceFault) → RefusesVersion m store pages view holder l fault → IsOther fault
  version_other store pages view holder l (faults.Full most) never limit is = absurd never
  version_other store pages view holder l (faults.Damaged it) refused limit is = absurd cc
  version_other store pages view holder l (faults.Pool fault) refused limit is = absurd cc

  data_other : (store : Pool D FireLinks) (pages : List BatchPage) (page : PageNo) (b : List ℕ) (fault : SpaceFault)
      → RefusesData m store pages page b fault → IsOther fault
  data_other store pages page b (faults.Full most) never limit is = absurd never
  data_other store pages page b (faults.Damaged it) refused limit is = absurd cc
  data_other store pages page b (faults.Pool fault) refused limit is = absurd cc

  over_other : (store : Pool D FireLinks) (pages : List BatchPage) (view : Pages) (at : RecId) (v : Version)
      (back : Option Link) (fault : SpaceFault) → RefusesPutOver m store pages view at v back fault → IsOther fault
  over_other store pages view at v back (faults.Full most) never limit is = absurd never
  over_other store pages view at v back (faults.Damaged it) refused limit is = absurd cc
  over_other store pages view at v back (faults.Pool fault) refused limit is = absurd cc

  pub read_other : (fault : SpaceFault) → ReadsData {T = Unit {0}} (Err fault) → IsOther fault
  read_other (faults.Full most) never limit is = absurd never
  read_other (faults.Damaged it) reads limit is = absurd cc
  read_other (faults.Pool fault) reads limit is = absurd cc

  drop_other : (old new : Pool D FireLinks) (image : Image) (batch : Changed) (holder : ℕ) (newer : Link)
      (fault : SpaceFault) → RefusesDrop m old new image batch holder newer fault → IsOther fault
  drop_other old new image batch holder newer fault (drop_newer refused) =
      version_other new batch.pages (viewed old image batch) holder newer fault refused
  drop_other old new image batch holder newer fault (drop_older v gone meets back refused) =
      version_other new batch.pages (viewed old image batch) newer.rec.page.0 gone fault refused
  drop_other old new image batch holder newer fault (drop_leads v older gone ready meets back behind keeps
      (lead_memory memory)) = memory_other fault memory
  drop_other old new image batch holder newer fault (drop_leads v older gone ready meets back behind keeps
      (lead_puts refused)) =
      over_other new batch.pages (viewed ready image batch) newer.rec v older.back fault refused
  drop_other old new image batch holder newer fault (drop_leads v older gone ready meets back behind keeps
      (lead_frees put puts_ refused)) =
      data_other new put.pages gone.rec.page (viewed ready image put gone.rec.page.0) fault refused

-- ---- steps

module _ {D : Type 0} (m : Meaning D) (holds : ToldAreHeld m) (laws : BatchLaws m) (state : ℕ → TxState) (live : Bases)
    (rec : RecId) where
  step_spends : (before after : Pool D FireLinks) → CollectStep m state live rec before after
      → SpendsAtMost m before after 0
  step_spends before after (takes_dead own) = own_spends m before after _ 0
      (λ image batch it. laws.out_takes before image nothing_yet batch rec it.takes) own
  step_spends before after (drops_unneeded newer gone own) = own_spends m before after _ 0
      (λ image batch it. drop_takes D before image nothing_yet batch newer gone it.drops) own
  step_spends before after (takes_erased own) = own_spends m before after _ 0
      (λ image batch it. laws.out_takes before image nothing_yet batch rec it.takes) own

  pub steps_spend : (start : Pool D FireLinks) (some : Bool) (now : Pool D FireLinks)
      → Steps m state live rec start some now → SpendsAtMost m start now 0
  steps_spend start b p starts = nothing_spent m start start refl
  steps_spend start b p (reads_on some now after steps keeps online) =
      both_spend m holds start now after 0 0 (steps_spend start some now steps) (read_spends m now after keeps)
  steps_spend start b p (one_more some now after steps step) =
      both_spend m holds start now after 0 0 (steps_spend start some now steps) (step_spends now after step)

  pub stop_spends : (before after : Pool D FireLinks) (fault : SpaceFault) → FailsStep m rec before after fault
      → SpendsAtMost m before after 0
  stop_spends before after fault (not_read fails) = read_spends m before after fails.keeps
  stop_spends before after fault (not_dropped holder newer follows own) =
      failing_spends m holds before after _ _ fault own
  stop_spends before after fault (not_taken_out link leads own) = failing_spends m holds before after _ _ fault own

  pub stop_short : (before after : Pool D FireLinks) (fault : SpaceFault) → FailsStep m rec before after fault
      → IsNotShort m before 0 fault
  stop_short before after fault (not_read fails) = λ lawful i tells.
      other_there before.geometry (shown before.dirty i) 0 fault (read_other m fault fails.own)
  stop_short before after fault (not_dropped holder newer follows own) = failing_short m before after _ _ 0 fault
      (λ image why lawful. other_there before.geometry (viewed before image nothing_yet) 0 fault
      (drop_other m before after image nothing_yet holder.0 newer fault why)) own
  stop_short before after fault (not_taken_out link leads own) = failing_short m before after _ _ 0 fault
      (λ image why. laws.out_there before after image nothing_yet rec fault why) own

  -- ---- a record that has something settled

  settled_spends : (before after : Pool D FireLinks) (table : Table) (gone : Bool)
      → CollectsSettled m before after state live table rec gone → SpendsAtMost m before after 0
  settled_spends before after table gone (no_record none keeps online why) = read_spends m before after keeps
  settled_spends before after table gone (nothing_settled none keeps online why) = read_spends m before after keeps
  settled_spends before after table gone (collects ready keeps online is_record settled it) =
      both_spend m holds before ready after 0 0 (read_spends m before ready keeps)
      (steps_spend ready gone after it.collected.steps)

  failed_spends : (before after : Pool D FireLinks) (table : Table) (fault : SpaceFault)
      → FailsSettled m before after state live table rec fault
      → SpendsAtMost m before after 0 × IsNotShort m before 0 fault
  failed_spends before after table fault (not_told fails) = (
    read_spends m before after fails.keeps,
    λ lawful i tells. other_there before.geometry (shown before.dirty i) 0 fault (read_other m fault fails.own),
  )
  failed_spends before after table fault (not_looked ready keeps online is_record fails) = (
    both_spend m holds before ready after 0 0 (read_spends m before ready keeps)
        (read_spends m ready after fails.keeps),
    λ lawful i tells. other_there before.geometry (shown before.dirty i) 0 fault (read_other m fault fails.own),
  )
  failed_spends before after table fault (not_collected ready keeps online is_record settled fails) =
      let first : SpendsAtMost m before fails.now 0 = both_spend m holds before ready fails.now 0 0
      (read_spends m before ready keeps) (steps_spend ready fails.some fails.now fails.steps) in (
        both_spend m holds before fails.now after 0 0 first (stop_spends fails.now after fault fails.fails),
        later_short m holds laws before fails.now 0 0 fault first (stop_short fails.now after fault fails.fails),
      )

-- ---- the law

pub collections_take_none : (D : Type 0) (m : Meaning D) → ToldAreHeld m → BatchLaws m → CollectionsTakeNone D m
collections_take_none D m holds laws old new t table rec (Ok gone) core is o h stands told =
    room_none m holds old new core told None
    (settled_spends m holds laws (said old.list) old.live rec old.store new.store table gone is.collected) tt
collections_take_none D m holds laws old new t table rec (Err refusal) core (inl (refuses, same)) o h stands told =
    room_kept m old new (Some refusal) (ap (λ (c : Core D). c.store) same)
    (refused_by old.store.offline (said old.list t.0) refusal refuses)
collections_take_none D m holds laws old new t table rec (Err refusal) core (inr is) o h stands told =
    let spent = failed_spends m holds laws (said old.list) old.live rec old.store new.store table is.fault is.fails in
    room_of m holds old new core told (Some refusal) 0 (record {
      spends = spent.0;
      enough = λ i free limit full. spent.1 core.geometry i free.tells free.regions free.free
          (told_full is.fault refusal limit is.is (named limit full)).0
          (told_full is.fault refusal limit is.is (named limit full)).1;
    })
  where
    named : (limit : ℕ) → Some refusal ≡ Some (DatabaseFull limit) → refusal ≡ DatabaseFull limit
    named limit same = cc
