-- A row is written, or is not: at most four pages are taken, and eighteen for each index of its table.
use Rattle.std.proofs.Common.{◌≡◌, ◌∙◌, ◌≤◌, inl, inr, ◌+◌, ◌*◌, ℕ, length, Bool, List, Option, Some, None, Err, is_some, refl, sym, ap, subst, arith}
use Rattle.mg_base.specs.Disk.{Meaning}
use Rattle.mg_base.specs.declared.numbers.RecId.{RecId}
use Rattle.mg_base.specs.declared.numbers.TxNo.{TxNo}
use Rattle.mg_base.specs.declared.transaction.TxState.{TxState}
use Rattle.mg_core.specs.declared.parts.Core.{Core}
use Rattle.mg_core.specs.Cores.{Continues, IsCore, IsRefusedBy}
use Rattle.mg_core.specs.Obstacles.{HindersBy, IsTold, Stops, StopsAtTable, TellsVerdict, hindered, unread}
use Rattle.mg_core.specs.Putting.{CountsOne, FailsKept, FailsPut, key_too_long, no_before, no_lay, no_version, not_kept, not_laid, too_long}
use Rattle.mg_core.specs.Reading.{FailsReading, OnlyReads}
use Rattle.mg_core.specs.Events.{IsRefused}
use Rattle.mg_core.specs.Refusing.{IsRefusal}
use Rattle.mg_core.specs.Writing.{FailsKey, FailsRow, FailsWrite, IsFree, IsWrong, Writes, at_record, at_row, at_table, key_memory, key_null, no_key, not_begun, not_put, only_reads, row_unread, row_wrong}
use Rattle.mg_engine_change_laws.specs.memory.Notes.{HasRead}
use Rattle.mg_engine_change_laws.specs.rows.RefusalLaws.{begun_read, found_read, free_read, passed_read}
use Rattle.mg_heap.specs.Reading.{ReadsData}
use Rattle.mg_image.specs.Form.{Pages}
use Rattle.mg_model.specs.declared.refusal.Refusal.{Refusal}
use Rattle.mg_model.specs.declared.refusal.Refusal.TheVariants as refusals
use Rattle.mg_model.specs.declared.table.Table.{Table}
use Rattle.mg_pool.specs.Pool.{shown}
use Rattle.mg_pool.specs.declared.fault.PoolFault.TheVariants as faults
use Rattle.mg_pool.specs.declared.pool.Pool.{Pool}
use Rattle.mg_records.specs.declared.write.Write.{Write}
use Rattle.mg_records.specs.declared.write.Write.TheVariants as writes
use Rattle.mg_batches.specs.Batches.{not_lawful}
use Rattle.mg_row_writes.specs.declared.before.Before.{Before}
use Rattle.mg_seek.specs.declared.views.Obstacle.{Obstacle}
use Rattle.mg_row_writes.specs.Storing.{written_at}
use Rattle.mg_base.specs.declared.geometry.Geometry.{Geometry}
use Rattle.mg_txlist.specs.TxList.{said}
use Rattle.mg_space.specs.Taking.{IsGeometry}
use Rattle.mg_space.specs.ViewLaws.{CountsNow}
use Rattle.mg_space.specs.declared.fault.SpaceFault.{SpaceFault}
use Rattle.mg_space.specs.declared.fault.SpaceFault.TheVariants as space
use Rattle.mg_space.specs.declared.links.FireLinks.{FireLinks}
use Rattle.mg_value.specs.declared.value.Value.{Value}
use Rattle.mg_version.specs.declared.cell.Version.{Version}
use Rattle.mg_waits.specs.declared.verdict.Verdict.{Verdict}
use Rattle.mg_waits.specs.declared.verdict.Verdict.TheVariants as verdicts
use Rattle.mg_space.specs.FreePages.{HasRegions}
use Rattle.mg_space.specs.FreePages.{HasFree}
use Rattle.mg_free_page_laws.specs.FreeLaws.{fewer}
use Rattle.mg_no_damage_laws.specs.CoreSpending.{IsNoWant, TakesPages}
use Rattle.mg_free_page_laws.specs.RowSpending.{BatchLaws}
use Rattle.mg_free_page_laws.specs.Spending.{SpendsAtMost, ToldAreHeld}
use Rattle.mg_free_page_laws.specs.SpendingLaws.{both_spend, more_spent, nothing_spent, read_spends}
use Rattle.mg_engine_change_laws.specs.rows.WriteWays.{ready_of}
use Rattle.mg_entry_tie_laws.specs.Laws.{InsertionsAreThere, InsertionsTakeEighteen}
use Rattle.mg_no_damage_laws.specs.EntryRoom.{lay_fails_within, lay_takes}
use Rattle.mg_no_damage_laws.specs.EntryTrees.{StandsAtStarts, TreesAtStarts}

-- ---- refusals

-- only a fault for want of pages is told as DATABASE FULL
pub told_full : (fault : SpaceFault) (refusal : Refusal) (limit : ℕ) → IsRefusal fault refusal
    → refusal ≡ refusals.DatabaseFull limit → (most : ℕ) × (fault ≡ space.Full most)
told_full (space.Full most) refusal limit is full = (most, refl)
told_full (space.Damaged it) refusal limit is full = absurd cc
told_full (space.Pool (faults.DiskRead n)) refusal limit is full = absurd cc
told_full (space.Pool (faults.DiskWrite n)) refusal limit is full = absurd cc
told_full (space.Pool (faults.Offline n)) refusal limit is full = absurd cc
told_full (space.Pool (faults.Absent n)) refusal limit is full = absurd cc
told_full (space.Pool faults.Memory) refusal limit is full = absurd cc

pub refused_by : (offline : Option ℕ) (state : TxState) (refusal : Refusal) → IsRefusedBy offline state refusal
    → IsNoWant refusal
refused_by offline state refusal is limit full =
    subst (λ (r : Refusal). IsRefusedBy offline state r) full is

module _ {D : Type 0} (m : Meaning D) where
  -- what takes few pages takes at most more of them
  pub more_taken : (old new : Core D) (refusal : Option Refusal) (few many : ℕ) → few ≤ many
      → TakesPages m old new refusal few → TakesPages m old new refusal many
  more_taken old new refusal few many less it = record {
    spends = more_spent m old.store new.store few many less it.spends;
    enough = λ i shows. it.enough i (record {
      tells = shows.tells;
      regions = shows.regions;
      free = fewer old.store.geometry (shown old.store.dirty i) many few less shows.free;
    });
  }

  -- a reading is never refused so
  pub unread_other : (old new : Core D) (why : Pool D FireLinks → Pages → SpaceFault → Type 0) (refusal : Refusal)
      → FailsReading m old new why refusal → IsNoWant refusal
  unread_other old new why refusal fails limit full =
      let is = told_full fails.fault refusal limit fails.is full in
      subst (λ (f : SpaceFault). ReadsData {T = Unit {0}} (Err f)) is.1 fails.own

  verdict_other : (old new : Core D) (t : ℕ) (by : TxNo) (verdict : Verdict) (refusal : Refusal)
      → TellsVerdict old new t by verdict refusal → IsNoWant refusal
  verdict_other old new t by verdicts.Update refusal tells limit full = let is = tells.0 in absurd cc
  verdict_other old new t by verdicts.Lock refusal tells limit full = let is = tells.0 in absurd cc
  verdict_other old new t by verdicts.Wait refusal (inl notes) limit full = let is = notes.is in absurd cc
  verdict_other old new t by verdicts.Wait refusal (inr tells) limit full = let is = tells.0 in absurd cc
  verdict_other old new t by verdicts.Deadlock refusal tells limit full = let is = tells.0 in absurd cc
  verdict_other old new t by verdicts.Limbo refusal tells limit full = let is = tells.0 in absurd cc

  verdict_store : (old new : Core D) (t : ℕ) (by : TxNo) (verdict : Verdict) (refusal : Refusal)
      → TellsVerdict old new t by verdict refusal → new.store ≡ old.store
  verdict_store old new t by verdicts.Update refusal tells = ap (λ (c : Core D). c.store) tells.1
  verdict_store old new t by verdicts.Lock refusal tells = ap (λ (c : Core D). c.store) tells.1
  verdict_store old new t by verdicts.Wait refusal (inl notes) = ap (λ (c : Core D). c.store) notes.same
  verdict_store old new t by verdicts.Wait refusal (inr tells) = ap (λ (c : Core D). c.store) tells.1
  verdict_store old new t by verdicts.Deadlock refusal tells = ap (λ (c : Core D). c.store) tells.1
  verdict_store old new t by verdicts.Limbo refusal tells = ap (λ (c : Core D). c.store) tells.1

  hinders_other : (old new : Core D) (t : ℕ) (wait : Bool) (found : Option Obstacle) (refusal : Refusal)
      → HindersBy old new t wait found refusal → IsNoWant refusal × (new.store ≡ old.store)
  hinders_other old new t wait None refusal hinders = absurd hinders
  hinders_other old new t wait (Some obstacle) refusal hinders = (
    verdict_other old new t obstacle.by hinders.verdict refusal hinders.told,
    verdict_store old new t obstacle.by hinders.verdict refusal hinders.told,
  )

  -- pages were only read, and the refusal is another one
  pub record ReadsElse (old new : Core D) (refusal : Refusal) : Type 0 where
    pub spends : SpendsAtMost m old.store new.store 0
    pub other : IsNoWant refusal

  pub stays_else : (old new : Core D) (refusal : Refusal) → new.store ≡ old.store → IsNoWant refusal
      → ReadsElse old new refusal
  stays_else old new refusal same other = record { spends = nothing_spent m old.store new.store same; other = other }

  -- a call that is refused before it began
  pub begun_else : (old new : Core D) (t : ℕ) (refusal : Refusal) → IsRefused old new t refusal
      → ReadsElse old new refusal
  begun_else old new t refusal is = stays_else old new refusal (ap (λ (c : Core D). c.store) is.wait.same)
      (refused_by old.store.offline (said old.list t) refusal is.refuses)

  pub unread_else : (old new : Core D) (why : Pool D FireLinks → Pages → SpaceFault → Type 0) (refusal : Refusal)
      → FailsReading m old new why refusal → ReadsElse old new refusal
  unread_else old new why refusal fails = record {
    spends = read_spends m old.store new.store fails.keeps;
    other = unread_other old new why refusal fails;
  }

  told_else : (old new : Core D) (told refusal : Refusal) → IsNoWant told → IsTold old new told refusal
      → ReadsElse old new refusal
  told_else old new told refusal other is = stays_else old new refusal (ap (λ (c : Core D). c.store) is.1)
      (λ limit full. other limit (sym is.0 ∙ full))

  pub memory_other : IsNoWant refusals.Memory
  memory_other limit full = absurd cc

  pub counted_else : (old new : Core D) (refusal : Refusal) → CountsOne old new (space.Damaged not_lawful) refusal
      → ReadsElse old new refusal
  counted_else old new refusal one = stays_else old new refusal (ap (λ (c : Core D). c.store) one.same)
      (λ limit full. let is = one.is in absurd cc)

  module _ (holds : ToldAreHeld m) where
    pub stops_else : (old new : Core D) (t : ℕ) (wait : Bool) (is : Pages → Option Obstacle → Type 0)
        (why : Pool D FireLinks → Pages → SpaceFault → Type 0) (refusal : Refusal)
        → Stops m old new t wait is why refusal → ReadsElse old new refusal
    stops_else old new t wait is why refusal (unread fails) = unread_else old new why refusal fails
    stops_else old new t wait is why refusal (hindered read found reads told hinders) =
        let both = hinders_other read new t wait found refusal hinders in record {
          spends = both_spend m holds old.store read.store new.store 0 0 (read_spends m old.store read.store reads.keeps)
              (nothing_spent m read.store new.store both.1);
          other = both.0;
        }

    table_else : (old new : Core D) (t : TxNo) (wait : Bool) (name : List ℕ) (refusal : Refusal)
        → StopsAtTable m old new t wait name refusal → ReadsElse old new refusal
    table_else old new t wait name refusal (inl told) = told_else old new refusals.Memory refusal memory_other told
    table_else old new t wait name refusal (inr stops) = stops_else old new t.0 wait _ _ refusal stops

    key_else : (old new : Core D) (table : Table) (write : Write) (refusal : Refusal)
        → FailsKey old new table write refusal → ReadsElse old new refusal
    key_else old new table write refusal (key_memory told) =
        told_else old new refusals.Memory refusal memory_other told
    key_else old new table write refusal (key_null null) = counted_else old new refusal null.1

    wrong_other : (write : Write) (there : Bool) (refusal : Refusal) → IsWrong write there refusal → IsNoWant refusal
    wrong_other (writes.Insert row) there refusal wrong limit full = let is = wrong.1 in absurd cc
    wrong_other (writes.Change key row) there refusal wrong limit full = let is = wrong.1 in absurd cc
    wrong_other (writes.Erase key) there refusal wrong limit full = let is = wrong.1 in absurd cc

    row_else : (old new : Core D) (t : TxNo) (table : Table) (key : Value) (write : Write) (refusal : Refusal)
        → FailsRow m old new t table key write refusal → ReadsElse old new refusal
    row_else old new t table key write refusal (row_unread fails) = unread_else old new _ refusal fails
    row_else old new t table key write refusal (row_wrong found reads wrong) = record {
      spends = read_spends m old.store new.store reads.reads.keeps;
      other = wrong_other write (is_some found.row) refusal wrong;
    }

    -- ---- one stage after others that only read

    pub read_first : (old mid new : Core D) (t : ℕ) (refusal : Refusal) → HasRead m old mid t
        → ReadsElse mid new refusal → ReadsElse old new refusal
    read_first old mid new t refusal had it = record {
      spends = both_spend m holds old.store mid.store new.store 0 0 (read_spends m old.store mid.store had.keeps)
          it.spends;
      other = it.other;
    }

    pub else_takes : (old new : Core D) (refusal : Refusal) (most : ℕ) → ReadsElse old new refusal
        → TakesPages m old new (Some refusal) most
    else_takes old new refusal most it = record {
      spends = more_spent m old.store new.store 0 most (omega arith) it.spends;
      enough = λ i shows limit full. it.other limit (cc full);
    }

    -- ---- the version is laid

    module _ (laws : BatchLaws m) (counts_now : CountsNow m) (old : Core D) (core : IsCore m old) (t : TxNo)
        (table : Table) (write : Write) where
      abbrev key : Value
      key = written_at table write

      free_spends : (free read : Core D) (wait : Bool) (rec : Option RecId) → IsFree m old free t table write wait rec
          → OnlyReads m free read → SpendsAtMost m old.store read.store 0
      free_spends free read wait rec is reads = both_spend m holds old.store free.store read.store 0 0
          (read_spends m old.store free.store (free_read m counts_now old core t table write free wait rec is).keeps)
          (read_spends m free.store read.store reads.keeps)

      -- what is taken after pages were only read
      pub after_read : (mid new : Core D) (refusal : Option Refusal) (most : ℕ) → SpendsAtMost m old.store mid.store 0
          → TakesPages m mid new refusal most → TakesPages m old new refusal most
      after_read mid new refusal most read it = record {
        spends = more_spent m old.store new.store (0 + most) most (omega arith)
            (both_spend m holds old.store mid.store new.store 0 most read it.spends);
        enough = λ i shows. let now = holds mid.store.disk (read.tells shows.tells.told) in
            let took = read.takes core.geometry i now.0 shows.tells now.1 in
            it.enough now.0 (record {
              tells = record { told = read.tells shows.tells.told; held = now.1 };
              regions = subst (λ (g : Geometry). HasRegions g (shown mid.store.dirty now.0)) (sym read.geometry)
                  (took.regions shows.regions);
              free = subst (λ (g : Geometry). HasFree g (shown mid.store.dirty now.0) most) (sym read.geometry)
                  (took.left shows.regions most
                  (fewer old.store.geometry (shown old.store.dirty i) most (most + 0) (omega arith) shows.free));
            });
      }

      -- where the trees of the table stand
      module _ (eighteen : InsertionsTakeEighteen) (there : InsertionsAreThere) (starts : TreesAtStarts m old t table write)
        where
          pub write_takes : (new : Core D) → Writes m old new t table write
              → TakesPages m old new None (4 + 18 * length table.indexes)
          write_takes new it = record {
            spends = more_spent m old.store new.store (0 + (4 + 18 * length table.indexes)) (4 + 18 * length table.indexes)
                (omega arith) (both_spend m holds old.store it.puts.read.store new.store 0 (4 + 18 * length table.indexes)
                (free_spends it.free it.puts.read it.wait it.rec it.is_free it.puts.has.reads)
                (lay_takes m holds laws eighteen there table write it.puts.read.store new.store it.puts.before.way
                it.puts.version (starts it.puts.read it.puts.before it.puts.version (ready_of m old new t table write it))
                it.puts.laid.lays));
            enough = λ i shows limit full. absurd cc;
          }

          kept_takes : (read new : Core D) (before : Before) (v : Version) (refusal : Refusal)
              → StandsAtStarts m read.store table before.way → IsGeometry read.store.geometry
              → FailsKept m read new t.0 table write key before v refusal
              → TakesPages m read new (Some refusal) (4 + 18 * length table.indexes)
          kept_takes read new before v refusal stand lawful (too_long never counts) =
              else_takes read new refusal (4 + 18 * length table.indexes) (counted_else read new refusal counts)
          kept_takes read new before v refusal stand lawful (key_too_long never counts) =
              else_takes read new refusal (4 + 18 * length table.indexes) (counted_else read new refusal counts)
          kept_takes read new before v refusal stand lawful (not_kept may told) =
              else_takes read new refusal (4 + 18 * length table.indexes)
              (told_else read new refusals.Memory refusal memory_other told)
          kept_takes read new before v refusal stand lawful (not_laid fails) =
              let within = lay_fails_within m holds laws eighteen there table write read.store new.store before.way v fails.fault
              stand fails.fails in record {
                spends = within.spends;
                enough = λ i shows limit full.
                    let is = told_full fails.fault refusal limit fails.is (cc full) in
                    within.short lawful i shows.tells shows.regions shows.free is.0 is.1;
              }

          put_takes : (free new : Core D) (wait : Bool) (rec : Option RecId) (refusal : Refusal)
              → IsFree m old free t table write wait rec → FailsPut m free new t table write key rec refusal
              → TakesPages m old new (Some refusal) (4 + 18 * length table.indexes)
          put_takes free new wait rec refusal is (no_version told) =
              else_takes old new refusal (4 + 18 * length table.indexes)
              (read_first old free new t.0 refusal (free_read m counts_now old core t table write free wait rec is)
              (told_else free new refusals.Memory refusal memory_other told))
          put_takes free new wait rec refusal is (no_before fails) =
              else_takes old new refusal (4 + 18 * length table.indexes)
              (read_first old free new t.0 refusal (free_read m counts_now old core t table write free wait rec is)
              (unread_else free new _ refusal fails))
          put_takes free new wait rec refusal is (no_lay read before v has fails) =
              let spent = free_spends free read wait rec is has.reads in
              after_read read new (Some refusal) (4 + 18 * length table.indexes) spent (kept_takes read new before v refusal
              (starts read before v (record { free = free; wait = wait; rec = rec; is_free = is; has = has }))
              (subst IsGeometry (sym spent.geometry) core.geometry) fails)

          -- a transaction that goes on knows how many indexes the table has
          pub failed_takes : (most : ℕ) → (Continues old t.0 → 4 + 18 * length table.indexes ≤ most) → (new : Core D)
              (refusal : Refusal) → FailsWrite m old new t table write refusal → TakesPages m old new (Some refusal) most
          failed_takes most less new refusal (not_begun is) =
              else_takes old new refusal most (begun_else old new t.0 refusal is)
          failed_takes most less new refusal (only_reads continues wait may) = else_takes old new refusal most
              (stays_else old new refusal (ap (λ (c : Core D). c.store) wait.same)
              (λ limit full. let is = may.is in absurd cc))
          failed_takes most less new refusal (at_table begun wait has stops) = else_takes old new refusal most
              (read_first old begun new t.0 refusal (begun_read m counts_now old core t table write begun wait has)
              (table_else begun new t wait table.name refusal stops))
          failed_takes most less new refusal (no_key passed wait has fails) = else_takes old new refusal most
              (read_first old passed new t.0 refusal (passed_read m counts_now old core t table write passed wait has)
              (key_else passed new table write refusal fails))
          failed_takes most less new refusal (at_row passed wait has some fails) = else_takes old new refusal most
              (read_first old passed new t.0 refusal (passed_read m counts_now old core t table write passed wait has)
              (row_else passed new t table key write refusal fails))
          failed_takes most less new refusal (at_record found wait rec has stops) = else_takes old new refusal most
              (read_first old found new t.0 refusal (found_read m counts_now old core t table write found wait rec has)
              (stops_else found new t.0 wait _ _ refusal stops))
          failed_takes most less new refusal (not_put free wait rec is fails) =
              more_taken old new (Some refusal) (4 + 18 * length table.indexes) most
              (less is.has_found.has_passed.has_begun.continues) (put_takes free new wait rec refusal is fails)
