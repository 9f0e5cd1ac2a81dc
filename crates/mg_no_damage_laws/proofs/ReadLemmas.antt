-- What is read for a write is read without damage.
use Rattle.std.proofs.Common.{inl, inr, ℕ, Bool, [], Option, None, Some, sym, subst}
use Rattle.std.specs.Prelude.{Err}
use Rattle.mg_base.specs.Disk.{Meaning}
use Rattle.mg_base.specs.Image.{Image}
use Rattle.mg_base.specs.declared.damage.Damaged.{Damaged as Damage}
use Rattle.mg_base.specs.declared.damage.Field.{Field}
use Rattle.mg_base.specs.declared.geometry.Geometry.{Geometry}
use Rattle.mg_base.specs.declared.numbers.PageNo.{PageNo}
use Rattle.mg_core.specs.Noting.{WhyNotMade}
use Rattle.mg_core.specs.Obstacles.{HindersBy, Stops, TellsVerdict, WhyOfRecord, WhyOfTable, hindered, unread}
use Rattle.mg_core.specs.Putting.{WhyNotBefore}
use Rattle.mg_core.specs.Reading.{FailsReading}
use Rattle.mg_core.specs.Refusing.{IsRefusal}
use Rattle.mg_core.specs.Writing.{IsWrong, WhyOfKey, WhyOfKnown, row_unread, row_wrong}
use Rattle.mg_core.specs.declared.parts.Core.{Core}
use Rattle.mg_heap.specs.Reading.{ReadsData}
use Rattle.mg_image.specs.Form.{Pages}
use Rattle.mg_image.specs.RecordRules.{Facts}
use Rattle.mg_image.specs.Records.{Reading}
use Rattle.mg_image.specs.Tables.{Stand}
use Rattle.mg_model.specs.declared.refusal.Refusal.TheVariants.{Damaged}
use Rattle.mg_model.specs.declared.table.Table.{Table}
use Rattle.mg_no_damage_laws.specs.Keys.{KeysAreRead, ObstaclesAreRead, SpeakersAreRead, WaysAreRead}
use Rattle.mg_no_damage_laws.specs.Sees.{AreLawful, StandsOn, no_batch}
use Rattle.mg_no_damage_laws.specs.Tables.{SeesTable, TablesAreRead}
use Rattle.mg_pool.specs.Dirty.{DirtyPages}
use Rattle.mg_pool.specs.Pool.{shown}
use Rattle.mg_pool.specs.declared.fault.PoolFault.TheVariants as faults
use Rattle.mg_pool.specs.declared.pool.Pool.{Pool}
use Rattle.mg_records.specs.declared.write.Write.{Write}
use Rattle.mg_records.specs.declared.write.Write.TheVariants as writes
use Rattle.mg_seek.specs.Speaking.{IsSpeaker, RefusesTableRows}
use Rattle.mg_seek.specs.Versions.{wants}
use Rattle.mg_seek.specs.declared.views.Obstacle.{Obstacle}
use Rattle.mg_seek.specs.declared.whose.Wanted.TheVariants.{Any}
use Rattle.mg_space.specs.View.{KeepsStore, Tells}
use Rattle.mg_space.specs.ViewLaws.{tells_on}
use Rattle.mg_space.specs.declared.fault.SpaceFault.{SpaceFault}
use Rattle.mg_space.specs.declared.fault.SpaceFault.TheVariants as space
use Rattle.mg_space.specs.declared.links.FireLinks.{FireLinks}
use Rattle.mg_txlist.specs.TxList.{said}
use Rattle.mg_waits.specs.declared.verdict.Verdict.{Verdict}
use Rattle.mg_waits.specs.declared.verdict.Verdict.TheVariants as verdicts
use Rattle.mg_no_damage_laws.specs.CoreReads.{BeforesAreRead, KeysAreNoted, RecordsArePassed, RowsAreFound, TablesArePassed}

-- a cache that has only read sees the table as before
sees_on : {D : Type 0} (m : Meaning D) (a b : Pool D FireLinks) (image : Image) (f : Facts) (r : Reading)
    (stand : Stand) (table : Table) → KeepsStore m a b → SeesTable m a image no_batch f r stand table
    → SeesTable m b image no_batch f r stand table
sees_on m a b image f r stand table keeps it = record {
  sees = record {
    tells = tells_on m a b image keeps it.sees.tells;
    lawful = subst (λ (g : Geometry). AreLawful g.size (shown b.dirty image) f r) (sym keeps.geometry)
        (subst (λ (d : DirtyPages). AreLawful a.geometry.size (shown d image) f r) (sym keeps.dirty) it.sees.lawful);
  };
  stands = subst (λ (g : Geometry). StandsOn g.size (shown b.dirty image) f stand table) (sym keeps.geometry)
      (subst (λ (d : DirtyPages). StandsOn a.geometry.size (shown d image) f stand table) (sym keeps.dirty) it.stands);
}

-- a reading that meets no damage is not refused by it
read_whole : {D : Type 0} (m : Meaning D) (old new : Core D)
    (why : Pool D FireLinks → Pages → SpaceFault → Type 0) (image : Image) → Tells m old.store.disk image
    → ((store : Pool D FireLinks) → KeepsStore m old.store store → (it : Damage)
    → why store (shown old.store.dirty image) (space.Damaged it) → ⊥)
    → (page : PageNo) (field : Field) (found wanted : ℕ)
    → FailsReading m old new why (Damaged page field found wanted) → ⊥
read_whole m old new why image tells none page field found wanted fails =
    at fails.fault fails.is fails.own (fails.caused image tells)
  where
    at : (fault : SpaceFault) → IsRefusal fault (Damaged page field found wanted)
        → ReadsData {T = Unit {0}} (Err fault) → why new.store (shown old.store.dirty image) fault → ⊥
    at (space.Full limit) is own cause = own
    at (space.Damaged it) is own cause = none new.store fails.keeps it cause
    at (space.Pool (faults.DiskRead n)) is own cause = absurd cc
    at (space.Pool (faults.DiskWrite n)) is own cause = own
    at (space.Pool (faults.Offline n)) is own cause = absurd cc
    at (space.Pool (faults.Absent n)) is own cause = own
    at (space.Pool faults.Memory) is own cause = absurd cc

-- who is in the way is told as such
in_way : {D : Type 0} (read new : Core D) (t : ℕ) (wait : Bool) (found : Option Obstacle) (page : PageNo)
    (field : Field) (a b : ℕ) → HindersBy read new t wait found (Damaged page field a b) → ⊥
in_way read new t wait None page field a b hinders = hinders
in_way read new t wait (Some obstacle) page field a b hinders = at hinders.verdict hinders.told
  where
    at : (verdict : Verdict) → TellsVerdict read new t obstacle.by verdict (Damaged page field a b) → ⊥
    at verdicts.Update told = let no = told.0 in absurd cc
    at verdicts.Lock told = let no = told.0 in absurd cc
    at verdicts.Wait (inl notes) = let no = notes.is in absurd cc
    at verdicts.Wait (inr told) = let no = told.0 in absurd cc
    at verdicts.Deadlock told = let no = told.0 in absurd cc
    at verdicts.Limbo told = let no = told.0 in absurd cc

stopped : {D : Type 0} (m : Meaning D) (old new : Core D) (t : ℕ) (wait : Bool)
    (is : Pages → Option Obstacle → Type 0) (why : Pool D FireLinks → Pages → SpaceFault → Type 0) (image : Image)
    → Tells m old.store.disk image
    → ((store : Pool D FireLinks) → KeepsStore m old.store store → (it : Damage)
    → why store (shown old.store.dirty image) (space.Damaged it) → ⊥)
    → (page : PageNo) (field : Field) (found wanted : ℕ)
    → Stops m old new t wait is why (Damaged page field found wanted) → ⊥
stopped m old new t wait is why image tells none page field found wanted (unread fails) =
    read_whole m old new why image tells none page field found wanted fails
stopped m old new t wait is why image tells none page field found wanted (hindered read one reads told hinders) =
    in_way read new t wait one page field found wanted hinders

wrong : (write : Write) (there : Bool) (page : PageNo) (field : Field) (a b : ℕ)
    → IsWrong write there (Damaged page field a b) → ⊥
wrong (writes.Insert row) there page field a b is = let no = is.1 in absurd cc
wrong (writes.Change key row) there page field a b is = let no = is.1 in absurd cc
wrong (writes.Erase key) there page field a b is = let no = is.1 in absurd cc

module _ {D : Type 0} (m : Meaning D) where
  -- a cause over what the old cache shows is one over what the new one shows
  as_now : (old store : Pool D FireLinks) (image : Image) (P : Pages → Type 0) → KeepsStore m old store
      → P (shown old.dirty image) → P (shown store.dirty image)
  as_now old store image P keeps holds = subst (λ (d : DirtyPages). P (shown d image)) (sym keeps.dirty) holds

  pub tables_are_passed : ObstaclesAreRead m → TablesArePassed m
  tables_are_passed law old new image shows t wait name page field found wanted (inl told) =
      let no = told.0 in absurd cc
  tables_are_passed law old new image shows t wait name page field found wanted (inr stops) =
      stopped m old new t.0 wait _ (WhyOfTable m old name) image shows.sees.sees.tells
      (λ store keeps it cause. law store image shows.facts shows.reading shows.stand old.catalog
      (sees_on m old.store store image shows.facts shows.reading shows.stand old.catalog keeps shows.sees)
      (said old.list) old.live _ it (as_now old.store store image
      (λ (view : Pages). WhyOfTable m old name store view (space.Damaged it)) keeps cause)) page field found wanted
      stops

  pub rows_are_found : KeysAreRead m → RowsAreFound m
  rows_are_found law old new image table shows t key write known page field found wanted (row_unread fails) =
      read_whole m old new (WhyOfKnown m old t table key) image shows.sees.sees.tells
      (λ store keeps it cause. law store image shows.facts shows.reading shows.stand table
      (sees_on m old.store store image shows.facts shows.reading shows.stand table keeps shows.sees)
      (said old.list) old.live t key it (as_now old.store store image
      (λ (view : Pages). WhyOfKey m old t table key store view (space.Damaged it)) keeps (cause known))) page field found
      wanted fails
  rows_are_found law old new image table shows t key write known page field found wanted (row_wrong seen reads is) =
      wrong write _ page field found wanted is

  pub records_are_passed : WaysAreRead m → RecordsArePassed m
  records_are_passed law old new image table shows t wait key rec speaks page field found wanted stops =
      stopped m old new t.0 wait _ (WhyOfRecord m old rec) image shows.sees.sees.tells
      (λ store keeps it cause. law store image shows.facts shows.reading shows.stand table
      (sees_on m old.store store image shows.facts shows.reading shows.stand table keeps shows.sees)
      (said old.list) old.live key rec (as_now old.store store image
      (λ (view : Pages). IsSpeaker (said old.list) old.live view table key rec) keeps speaks) it
      (as_now old.store store image (λ (view : Pages). WhyOfRecord m old rec store view (space.Damaged it)) keeps
      cause)) page field found wanted stops

  pub befores_are_read : SpeakersAreRead m → BeforesAreRead m
  befores_are_read law old new image table shows key rec speaks page field found wanted fails =
      read_whole m old new (WhyNotBefore m old table rec) image shows.sees.sees.tells
      (λ store keeps it cause. law store image shows.facts shows.reading shows.stand table
      (sees_on m old.store store image shows.facts shows.reading shows.stand table keeps shows.sees)
      (said old.list) old.live key rec (as_now old.store store image
      (λ (view : Pages). IsSpeaker (said old.list) old.live view table key rec) keeps speaks)
      (wants (said old.list) old.live Any) it (as_now old.store store image
      (λ (view : Pages). WhyNotBefore m old table rec store view (space.Damaged it)) keeps cause)) page field found
      wanted fails

  pub keys_are_noted : TablesAreRead m → KeysAreNoted m
  keys_are_noted law old new image table shows page field found wanted fails =
      read_whole m old new (WhyNotMade m old table) image shows.sees.sees.tells
      (λ store keeps it cause. law store image no_batch shows.facts shows.reading shows.stand table
      (sees_on m old.store store image shows.facts shows.reading shows.stand table keeps shows.sees)
      (wants (said old.list) old.live Any) it (as_now old.store store image
      (λ (view : Pages). RefusesTableRows m store [] view (wants (said old.list) old.live Any) table
      (space.Damaged it)) keeps cause.0)) page field found wanted fails
