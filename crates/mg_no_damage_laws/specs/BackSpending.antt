-- Each key that is taken back takes at most as many pages as a row that is written.
use Rattle.std.proofs.Common.{◌≡◌, ◌⊎◌, ◌≤◌, ◌++◌, ◌+◌, ◌*◌, inl, inr, ap, ℕ, List, [], ◌∷◌, length, Option, Some, None, Err, refl, sym, subst, arith}
use Rattle.mg_base.specs.Disk.{Meaning}
use Rattle.mg_base.specs.declared.numbers.RecId.{RecId}
use Rattle.mg_core.specs.declared.parts.Core.{Core}
use Rattle.mg_model.specs.declared.refusal.Refusal.{Refusal}
use Rattle.mg_model.specs.declared.table.Table.{Table}
use Rattle.mg_pool.specs.declared.pool.Pool.{Pool}
use Rattle.mg_records.specs.declared.write.Write.{Write}
use Rattle.mg_batches.specs.Batches.{nothing_yet}
use Rattle.mg_space.specs.Taking.{IsGeometry}
use Rattle.mg_space.specs.declared.fault.SpaceFault.{SpaceFault}
use Rattle.mg_space.specs.declared.links.FireLinks.{FireLinks}
use Rattle.mg_taking_back.specs.Changes.{FailsChange, TakesChange, change_not_taken, change_of_none, table_back}
use Rattle.mg_taking_back.specs.Keys.{FailsKey, FailsPuttingBack, PutsBack, former, former_key_long, former_long, former_memory, former_not_put, former_unfit, key_not_put, key_unfit, key_unread}
use Rattle.mg_taking_back.specs.Taking.{TakesChanges, takes_none, takes_one}
use Rattle.mg_undo.specs.declared.changes.Change.{Change}
use Rattle.mg_base.specs.declared.geometry.Geometry.{Geometry}
use Rattle.mg_heap.specs.Reading.{ReadsData}
use Rattle.mg_pool.specs.Pool.{shown}
use Rattle.mg_space.specs.FreePages.{HasRegions}
use Rattle.mg_space.specs.FreePages.{HasFree}
use Rattle.mg_free_page_laws.specs.FreeLaws.{fewer}
use Rattle.mg_entry_tie_laws.specs.Laws.{InsertionsAreThere, InsertionsTakeEighteen}
use Rattle.mg_image.specs.Form.{Row}
use Rattle.mg_records.specs.Room.{most_indexes, pages_of_row}
use Rattle.mg_row_writes.specs.declared.before.Way.TheVariants as ways
use Rattle.mg_txlist.specs.TxList.{said}
use Rattle.mg_no_damage_laws.specs.BackTrees.{StandAll, StandsBack, front_stands}
use Rattle.mg_no_damage_laws.specs.EntryCalls.{TreesStandAlong}
use Rattle.mg_no_damage_laws.specs.EntryRoom.{FailsWithin, lay_fails_within, lay_takes}
use Rattle.mg_no_damage_laws.specs.EntryTrees.{StandsAtStarts}
use Rattle.mg_no_damage_laws.specs.CoreSpending.{TakesPages}
use Rattle.mg_no_damage_laws.specs.CoreSpendingLaws.{counted_else, else_takes, told_full}
use Rattle.mg_free_page_laws.specs.RowSpending.{BatchLaws, later_short, more_short, out_spends}
use Rattle.mg_free_page_laws.specs.Spending.{IsNotShort, SpendsAtMost, ToldAreHeld}
use Rattle.mg_free_page_laws.specs.SpendingLaws.{both_spend, failing_short, failing_spends, more_spent, nothing_spent, read_spends}

module _ {D : Type 0} (m : Meaning D) (holds : ToldAreHeld m) (laws : BatchLaws m) (eighteen : InsertionsTakeEighteen)
    (there : InsertionsAreThere) where
  -- ---- what was comes back

  -- before the entries of a row of a table the trees stand
  abbrev Along : Pool D FireLinks → Table → RecId → Type 0
  Along before table rec = (row : Row) → TreesStandAlong m before table.indexes rec row

  -- a version that replaces the newest one
  starts_back : (before : Pool D FireLinks) (table : Table) (rec : RecId) → Along before table rec
      → StandsAtStarts m before table (ways.Replace rec)
  starts_back before table rec along = record {
    at_read = λ r is. at r is;
    at_placed = λ is. absurd (no_make is);
    at_cleared = λ r is. absurd (no_dead r is);
  }
    where
      no_make : ways.Replace rec ≡ ways.Make → ⊥
      no_make is = absurd cc

      no_dead : (r : RecId) → ways.Replace rec ≡ ways.PushOverDead r → ⊥
      no_dead r is = absurd cc

      at : (r : RecId) → (ways.Replace rec ≡ ways.Push r) ⊎ (ways.Replace rec ≡ ways.Replace r) → Along before table r
      at r (inl is) = absurd cc
      at r (inr is) = let same : rec ≡ r = cc in subst (λ (x : RecId). Along before table x) same along

  puts_spend : (before after : Pool D FireLinks) (t : ℕ) (table : Table) (rec : RecId) (write : Option Write)
      → length table.indexes ≤ most_indexes → Along before table rec → PutsBack m before after t table rec write
      → SpendsAtMost m before after pages_of_row
  puts_spend before after t table rec None few along it =
      more_spent m before after 0 pages_of_row (omega arith) (out_spends m holds laws before after rec it)
  puts_spend before after t table rec (Some write) few along it =
      more_spent m before after (4 + 18 * length table.indexes) pages_of_row (omega (arith, few))
      (lay_takes m holds laws eighteen there table write before after (ways.Replace rec) it.version
      (starts_back before table rec along) it.enters)

  -- nothing was changed, and not for want of pages
  nothing_within : (before after : Pool D FireLinks) (fault : SpaceFault) → after ≡ before
      → IsNotShort m before pages_of_row fault → FailsWithin m before after pages_of_row pages_of_row fault
  nothing_within before after fault same other = record {
    spends = more_spent m before after 0 pages_of_row (omega arith) (nothing_spent m before after same);
    short = other;
  }

  failed_puts : (before after : Pool D FireLinks) (t : ℕ) (table : Table) (rec : RecId) (write : Option Write)
      (fault : SpaceFault) → length table.indexes ≤ most_indexes → Along before table rec
      → FailsPuttingBack m before after t table rec write fault
      → FailsWithin m before after pages_of_row pages_of_row fault
  failed_puts before after t table rec None fault few along fails = record {
    spends = more_spent m before after 0 pages_of_row (omega arith) (failing_spends m holds before after _ _ fault fails);
    short = more_short m holds laws before 0 pages_of_row fault (omega arith) (failing_short m before after _ _ 0 fault
        (λ image why. laws.out_there before after image nothing_yet rec fault why) fails);
  }
  failed_puts before after t table rec (Some write) fault few along (former_unfit never is same) =
      nothing_within before after fault same (λ lawful i tells regions has limit full. absurd cc)
  failed_puts before after t table rec (Some write) fault few along (former_memory is same) =
      nothing_within before after fault same (λ lawful i tells regions has limit full. absurd cc)
  failed_puts before after t table rec (Some write) fault few along (former_long v stored never is same) =
      nothing_within before after fault same (λ lawful i tells regions has limit full. absurd cc)
  failed_puts before after t table rec (Some write) fault few along (former_key_long never is same) =
      nothing_within before after fault same (λ lawful i tells regions has limit full. absurd cc)
  failed_puts before after t table rec (Some write) fault few along (former_not_put v stored may short fails) =
      let it = lay_fails_within m holds laws eighteen there table write before after (ways.Replace rec) v fault
      (starts_back before table rec along) fails in record {
        spends = more_spent m before after (4 + 18 * length table.indexes) pages_of_row (omega (arith, few)) it.spends;
        short = more_short m holds laws before (4 + 18 * length table.indexes) pages_of_row fault (omega (arith, few))
            it.short;
      }

  -- ---- a change

  change_spends : (old new : Core D) (t : ℕ) (c : Change) → StandsBack m old t c → TakesChange m old new t c
      → SpendsAtMost m old.store new.store pages_of_row
  change_spends old new t c stand it = more_spent m old.store new.store (0 + pages_of_row) pages_of_row (omega arith)
      (both_spend m holds old.store it.takes.ready new.store 0 pages_of_row
      (read_spends m old.store it.takes.ready it.takes.keeps)
      (puts_spend it.takes.ready new.store t it.table it.takes.rec (former c.key c.was) (stand.few it.table it.found)
      (stand.trees it.table it.found it.takes.rec it.takes.ready it.takes.keeps it.takes.online it.takes.own)
      it.takes.puts))

  failed_key : (old : Core D) (after : Pool D FireLinks) (t : ℕ) (c : Change) (table : Table) (fault : SpaceFault)
      → StandsBack m old t c → table_back old.catalog old.works t c.table ≡ Some table
      → FailsKey m old.store after (said old.list) old.live t table c.key c.was fault
      → FailsWithin m old.store after pages_of_row pages_of_row fault
  failed_key old after t c table fault stand found (key_unfit never is same) =
      nothing_within old.store after fault same (λ lawful i tells regions has limit full. absurd cc)
  failed_key old after t c table fault stand found (key_unread keeps own told why) = record {
    spends = more_spent m old.store after 0 pages_of_row (omega arith) (read_spends m old.store after keeps);
    short = λ lawful i tells regions has limit full.
        subst (λ (f : SpaceFault). ReadsData {T = Unit {0}} (Err f)) full own;
  }
  failed_key old after t c table fault stand found (key_not_put rec ready keeps online own fails) =
      let put = failed_puts ready after t table rec (former c.key c.was) fault (stand.few table found)
      (stand.trees table found rec ready keeps online own) fails in record {
        spends = more_spent m old.store after (0 + pages_of_row) pages_of_row (omega arith)
            (both_spend m holds old.store ready after 0 pages_of_row (read_spends m old.store ready keeps) put.spends);
        short = more_short m holds laws old.store (pages_of_row + 0) pages_of_row fault (omega arith)
            (later_short m holds laws old.store ready 0 pages_of_row fault (read_spends m old.store ready keeps) put.short);
      }

  failed_change : (old new : Core D) (t : ℕ) (c : Change) (refusal : Refusal) → StandsBack m old t c
      → IsGeometry old.store.geometry → FailsChange m old new t c refusal
      → TakesPages m old new (Some refusal) pages_of_row
  failed_change old new t c refusal stand lawful (change_of_none none counts) =
      else_takes m holds old new refusal pages_of_row (counted_else m old new refusal counts)
  failed_change old new t c refusal stand lawful (change_not_taken table fails) =
      let it = failed_key old new.store t c table fails.fault stand fails.found fails.fails in record {
        spends = it.spends;
        enough = λ i shows limit full. let is = told_full fails.fault refusal limit fails.is (cc full) in
            it.short lawful i shows.tells shows.regions shows.free is.0 is.1;
      }

  -- these changes are taken back, each by as many pages as a row takes at most
  pub changes_spend : (t : ℕ) (old new : Core D) (given : List Change) → StandAll m t old given
      → TakesChanges m t old given new → SpendsAtMost m old.store new.store (pages_of_row * length given)
  changes_spend t old new [] stand takes_none = more_spent m old.store old.store 0 (pages_of_row * 0) (omega arith)
      (nothing_spent m old.store old.store refl)
  changes_spend t old new (c ∷ given) stand (takes_one mid _ first more) = more_spent m old.store new.store
      (pages_of_row + pages_of_row * length given) (pages_of_row * length (c ∷ given)) (omega arith)
      (both_spend m holds old.store mid.store new.store pages_of_row (pages_of_row * length given)
      (change_spends old mid t c (stand [] given c old refl takes_none) first)
      (changes_spend t mid new given (λ front later x at parts takes. stand (c ∷ front) later x at
      (ap (λ (xs : List Change). c ∷ xs) parts) (takes_one mid c first takes)) more))

  -- and where the next one is not
  pub stopping_takes : (t : ℕ) (old at new : Core D) (given more : List Change) (c : Change) (refusal : Refusal)
      → IsGeometry old.store.geometry → StandAll m t old (given ++ (c ∷ more)) → TakesChanges m t old given at
      → FailsChange m at new t c refusal → TakesPages m old new (Some refusal) (pages_of_row * (length given + 1))
  stopping_takes t old at new given more c refusal lawful stand takes fails =
      let spent = changes_spend t old at given (front_stands m t old given (c ∷ more) stand) takes in
      let it = failed_change at new t c refusal (stand given more c at refl takes)
      (subst IsGeometry (sym spent.geometry) lawful) fails in record {
        spends = more_spent m old.store new.store (pages_of_row * length given + pages_of_row)
            (pages_of_row * (length given + 1)) (omega arith) (both_spend m holds old.store at.store new.store
            (pages_of_row * length given) pages_of_row spent it.spends);
        enough = λ i shows. let now = holds at.store.disk (spent.tells shows.tells.told) in
            let took = spent.takes lawful i now.0 shows.tells now.1 in
            it.enough now.0 (record {
              tells = record { told = spent.tells shows.tells.told; held = now.1 };
              regions = subst (λ (g : Geometry). HasRegions g (shown at.store.dirty now.0)) (sym spent.geometry)
                  (took.regions shows.regions);
              free = subst (λ (g : Geometry). HasFree g (shown at.store.dirty now.0) pages_of_row) (sym spent.geometry)
                  (took.left shows.regions pages_of_row (fewer old.store.geometry (shown old.store.dirty i)
                  (pages_of_row * (length given + 1)) (pages_of_row + pages_of_row * length given) (omega arith)
                  shows.free));
            });
      }
