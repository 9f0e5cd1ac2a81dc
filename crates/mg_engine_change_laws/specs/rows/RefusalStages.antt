-- A write is refused before its version is laid: the event is given with its refusal, stage by stage.
use Rattle.std.proofs.Common.{◌≡◌, ◌⊎◌, inl, inr, Bool, true, Option, None, Some, refl, sym, ap, ◌∙◌, subst}
use Rattle.std.specs.Prelude.{is_some}
use Rattle.mg_base.specs.Disk.{Meaning}
use Rattle.mg_base.specs.Image.{Image}
use Rattle.mg_base.specs.declared.numbers.RecId.{RecId}
use Rattle.mg_base.specs.declared.numbers.TxNo.{TxNo}
use Rattle.mg_model.specs.declared.answer.Answer.TheVariants.{No}
use Rattle.mg_model.specs.declared.opening.Opening.{Opening}
use Rattle.mg_model.specs.declared.refusal.Refusal.{Refusal}
use Rattle.mg_model.specs.declared.refusal.Refusal.TheVariants.{Memory}
use Rattle.mg_model.specs.declared.table.Table.{Table}
use Rattle.mg_model.specs.Answers.{answer_active, told}
use Rattle.mg_model.specs.History.{Entries, entry}
use Rattle.mg_model.specs.Laws.{OpeningsBegin}
use Rattle.mg_model.specs.Legal.{IsLawful, is_outer}
use Rattle.mg_model.specs.Machine.{waited_on}
use Rattle.mg_records.specs.Writing.{event_of}
use Rattle.mg_records.specs.declared.write.Write.{Write}
use Rattle.mg_engine_step_laws.specs.reads.AnswersLaws.{NothingAtKeys, ObstaclesAtKeys, RowsAtKeys, SpeakersAreTold}
use Rattle.mg_engine_step_laws.specs.commits.Idle.{IdleGoesOn}
use Rattle.mg_engine_step_laws.specs.writes.Batches.{ReadsLast}
use Rattle.mg_image.specs.Form.{Pages, packed_form}
use Rattle.mg_lasting_laws.specs.Changing.{QuietHolds}
use Rattle.mg_pool.specs.Pool.{shown}
use Rattle.mg_pool.specs.declared.pool.Pool.{Pool}
use Rattle.mg_batches.specs.Batches.{not_lawful}
use Rattle.mg_row_writes.specs.Storing.{written_at}
use Rattle.mg_row_writes.specs.declared.before.Before.{Before}
use Rattle.mg_seek.specs.declared.views.Obstacle.{Obstacle}
use Rattle.mg_space.specs.View.{Tells}
use Rattle.mg_space.specs.ViewLaws.{CountsNow}
use Rattle.mg_space.specs.declared.fault.SpaceFault.{SpaceFault}
use Rattle.mg_space.specs.declared.fault.SpaceFault.TheVariants as faults
use Rattle.mg_space.specs.declared.links.FireLinks.{FireLinks}
use Rattle.mg_engine_step_laws.specs.standing.Following.{StandsOn}
use Rattle.mg_version.specs.declared.cell.Version.{Version}
use Rattle.mg_waits.specs.Machine.{NobodyWaits, VerdictsAreTheMachines}
use Rattle.mg_works.specs.Works.{given_to}
use Rattle.mg_core.specs.declared.parts.Core.{Core}
use Rattle.mg_core.specs.Cores.{IsCore}
use Rattle.mg_core.specs.Obstacles.{Hinders, HindersBy, IsOfRecord, IsOfTable, IsTold, NotesWait, StopsAtRecord, StopsAtTable, hindered, unread}
use Rattle.mg_core.specs.Putting.{CountsOne, FailsKept, FailsPut, HasBefore, key_too_long, no_before, no_lay, no_version, not_kept, not_laid, too_long}
use Rattle.mg_core.specs.Reading.{FailsReading}
use Rattle.mg_core.specs.Writing.{FailsRow, FailsWrite, HasBegun, HasFound, HasPassed, IsFree, at_record, at_row, at_table, key_memory, key_null, no_key, not_begun, not_put, only_reads, row_unread, row_wrong}
use Rattle.mg_engine_meaning_laws.specs.EventLaws.{refused_gives}
use Rattle.mg_engine_meaning_laws.specs.Meaning.{Places}
use Rattle.mg_engine_meaning_laws.specs.Standings.{StandsFor}
use Rattle.mg_engine_change_laws.specs.memory.Directories.{DirectoriesTell}
use Rattle.mg_engine_change_laws.specs.memory.NoteLaws.{notes_give}
use Rattle.mg_engine_change_laws.specs.memory.Notes.{AreCounts, HasRead}
use Rattle.mg_engine_change_laws.specs.rows.RefusalLaws.{active_event, begun_read, found_read, free_read, none_wrong, only_read, passed_read, passing_event, plain_wrong, record_hindered, row_is_wrong, table_hindered, whose_event}
use Rattle.mg_engine_change_laws.specs.rows.Refusals.{IsNotLaid, RefusesStill}
use Rattle.mg_engine_change_laws.specs.rows.StopLaws.{damage_stops, ended_read, fault_outer, reads_on, told_stops, unread_stops, wait_stops}
use Rattle.mg_engine_change_laws.specs.rows.Stops.{IsPlain, IsStopped}
use Rattle.mg_engine_change_laws.specs.rows.Verdicts.{told_notes, told_plain}

module _ (speakers : SpeakersAreTold) (obstacles : ObstaclesAtKeys) (rows : RowsAtKeys) (nothing : NothingAtKeys)
    (begin : OpeningsBegin) (verdicts : VerdictsAreTheMachines) (nobody : NobodyWaits) (dirs : DirectoriesTell) {D P : Type 0} (m : Meaning D)
    (places : Places P) (counts_now : CountsNow m) (idle_goes : IdleGoesOn D FireLinks m packed_form)
    (on : StandsOn packed_form) (quiet : QuietHolds packed_form) (last : ReadsLast D FireLinks m packed_form)
    (old new : Core D) (core : IsCore m old) (fits : AreCounts old) (t : TxNo) (table : Table) (write : Write)
    (given : given_to old.works t.0 table.name ≡ Some table) (refusal : Refusal) where
  abbrev pub Still : Type 0
  Still = RefusesStill m places old new (event_of t table.name write) refusal t.0

  stopped : IsStopped m places old new t.0 refusal
      → ((o : Opening) (h : Entries) → StandsFor m old o h
      → IsLawful o h (entry (event_of t table.name write) (No refusal)))
      → Still
  stopped stop lawful = record {
    gives = notes_give m places idle_goes on quiet begin last old new t.0 (event_of t table.name write) refusal None
        (Some t.0) stop.notes (whose_event t table.name write) (passing_event t table.name write) lawful stop.may;
    works = ap (λ (c : Core D). c.works) stop.notes.same;
  }

  -- from outside the machine
  outer : is_outer (No refusal) ≡ true → IsStopped m places old new t.0 refusal
      → Still
  outer is stop = stopped stop (λ o h stands. inr is)

  module _ (online : old.store.offline ≡ None) where
    -- memory is wanting, and nothing else has happened
    wants : (mid : Core D) → HasRead m old mid t.0 → IsTold mid new Memory refusal
        → Still
    wants mid read told = outer (ap (λ (r : Refusal). is_outer (No r)) told.0)
        (told_stops m places counts_now old mid new t.0 online fits read refusal told.1
        (subst (λ (r : Refusal). IsPlain r) (sym told.0) tt)
        (ap (λ (r : Refusal). waited_on (No r)) told.0))

    -- pages were not read
    fails : (mid : Core D) → HasRead m old mid t.0 → (why : Pool D FireLinks → Pages → SpaceFault → Type 0)
        → FailsReading m mid new why refusal
        → Still
    fails mid read why failed = outer (fault_outer failed.fault refusal failed.is)
        (unread_stops m places counts_now old mid new t.0 online fits read refusal why failed)

    -- what no lawful caller asks for is told as damage
    counts : (mid : Core D) → HasRead m old mid t.0 → CountsOne mid new (faults.Damaged not_lawful) refusal
        → Still
    counts mid read one = outer (fault_outer (faults.Damaged not_lawful) refusal one.is)
        (damage_stops m places counts_now old mid new t.0 online fits read refusal not_lawful read.keeps.pool
        (read.keeps.offline ∙ online) one)

    -- one is in the way
    hinders_stop : (read : Core D) → HasRead m old read t.0 → (wait : Bool) (x : Obstacle)
        → Hinders read new t.0 wait x refusal → IsStopped m places old new t.0 refusal
    hinders_stop read since wait x hinders = at (told_notes read new t.0 x.by hinders.verdict refusal hinders.told)
      where
        at : (new ≡ read) × (waited_on (No refusal) ≡ None)
            ⊎ NotesWait read new t.0 x.by refusal × (waited_on (No refusal) ≡ Some x.by.0)
            → IsStopped m places old new t.0 refusal
        at (inl (same, none)) = told_stops m places counts_now old read new t.0 online fits since refusal same
            (told_plain read new t.0 x.by hinders.verdict refusal hinders.told) none
        at (inr (notes, some)) = wait_stops m places counts_now old read new t.0 online fits since refusal x.by notes

  -- ---- by the table's row

  at_its_table : (begun : Core D) (wait : Bool) → HasBegun old begun t wait
      → StopsAtTable m begun new t wait table.name refusal
      → Still
  at_its_table begun wait has (inl told) = wants has.continues.0 begun
      (begun_read m counts_now old core t table write begun wait has) told
  at_its_table begun wait has (inr (unread failed)) = fails has.continues.0 begun
      (begun_read m counts_now old core t table write begun wait has) _ failed
  at_its_table begun wait has (inr (hindered read found reads told by)) = at found told by
    where
      since : HasRead m old read t.0
      since = reads_on m counts_now old begun read t.0
          (begun_read m counts_now old core t table write begun wait has) reads

      at : (f : Option Obstacle) → ((image : Image) → Tells m begun.store.disk image
          → IsOfTable begun t table.name (shown begun.store.dirty image) f)
          → HindersBy read new t.0 wait f refusal
          → Still
      at None is by_ = absurd by_
      at (Some x) is by_ = stopped (hinders_stop has.continues.0 read since wait x by_)
          (λ o h stands. table_hindered speakers obstacles rows nothing begin verdicts nobody dirs m places counts_now old
          core t table write given has.continues o h stands begun wait has read x new refusal since is by_)

  -- ---- by the row in the view

  at_its_row : (passed : Core D) (wait : Bool) → HasPassed m old passed t table wait
      → FailsRow m passed new t table (written_at table write) write refusal
      → Still
  at_its_row passed wait has (row_unread failed) = fails has.has_begun.continues.0 passed
      (passed_read m counts_now old core t table write passed wait has) _ failed
  at_its_row passed wait has (row_wrong found reads wrong) = stopped
      (told_stops m places counts_now old new new t.0 has.has_begun.continues.0 fits
      (reads_on m counts_now old passed new t.0 (passed_read m counts_now old core t table write passed wait has)
      reads.reads) refusal refl (plain_wrong write (is_some found.row) refusal wrong)
      (none_wrong write (is_some found.row) refusal wrong))
      (λ o h stands. row_is_wrong speakers obstacles rows nothing begin verdicts nobody dirs m places counts_now old core t
      table write given has.has_begun.continues o h stands passed wait has found refusal reads.told wrong)

  -- ---- by the record

  at_its_record : (found : Core D) (wait : Bool) (rec : Option RecId) → HasFound m old found t table write wait rec
      → StopsAtRecord m found new t wait rec refusal
      → Still
  at_its_record found wait rec has (unread failed) = fails has.has_passed.has_begun.continues.0 found
      (found_read m counts_now old core t table write found wait rec has) _ failed
  at_its_record found wait rec has (hindered read x reads told by) = at x told by
    where
      since : HasRead m old read t.0
      since = reads_on m counts_now old found read t.0
          (found_read m counts_now old core t table write found wait rec has) reads

      at : (f : Option Obstacle) → ((image : Image) → Tells m found.store.disk image
          → IsOfRecord found t rec (shown found.store.dirty image) f)
          → HindersBy read new t.0 wait f refusal
          → Still
      at None is by_ = absurd by_
      at (Some x_) is by_ = stopped (hinders_stop has.has_passed.has_begun.continues.0 read since wait x_ by_)
          (λ o h stands. record_hindered speakers obstacles rows nothing begin verdicts nobody dirs m places counts_now old
          core t table write given has.has_passed.has_begun.continues o h stands found wait rec has read x_ new
          refusal since is by_)

  -- ---- as it is put

  online_free : (free : Core D) (wait : Bool) (rec : Option RecId) → IsFree m old free t table write wait rec
      → old.store.offline ≡ None
  online_free free wait rec has = has.has_found.has_passed.has_begun.continues.0

  kept_or : (free : Core D) (wait : Bool) (rec : Option RecId) (is_free : IsFree m old free t table write wait rec)
      (read : Core D) (before : Before) (v : Version) (has : HasBefore m free read t table write rec before v)
      → FailsKept m read new t.0 table write (written_at table write) before v refusal
      → Still
      ⊎ IsNotLaid m old new t table write refusal
  kept_or free wait rec is_free read before v has (too_long long one) = inl (counts
      (online_free free wait rec is_free) read (reads_on m counts_now old free read t.0
      (free_read m counts_now old core t table write free wait rec is_free) has.reads) one)
  kept_or free wait rec is_free read before v has (key_too_long long one) = inl (counts
      (online_free free wait rec is_free) read (reads_on m counts_now old free read t.0
      (free_read m counts_now old core t table write free wait rec is_free) has.reads) one)
  kept_or free wait rec is_free read before v has (not_kept may told) = inl (wants
      (online_free free wait rec is_free) read (reads_on m counts_now old free read t.0
      (free_read m counts_now old core t table write free wait rec is_free) has.reads) told)
  kept_or free wait rec is_free read before v has (not_laid failed) = inr (record {
    read = read;
    before = before;
    version = v;
    ready = record { free = free; wait = wait; rec = rec; is_free = is_free; has = has };
    fails = failed;
  })

  put_or : (free : Core D) (wait : Bool) (rec : Option RecId) → IsFree m old free t table write wait rec
      → FailsPut m free new t table write (written_at table write) rec refusal
      → Still
      ⊎ IsNotLaid m old new t table write refusal
  put_or free wait rec is_free (no_version told) = inl (wants (online_free free wait rec is_free) free
      (free_read m counts_now old core t table write free wait rec is_free) told)
  put_or free wait rec is_free (no_before failed) = inl (fails (online_free free wait rec is_free) free
      (free_read m counts_now old core t table write free wait rec is_free) _ failed)
  put_or free wait rec is_free (no_lay read before v has failed) =
      kept_or free wait rec is_free read before v has failed

  -- ---- all of them

  pub refusals : FailsWrite m old new t table write refusal
      → Still
      ⊎ IsNotLaid m old new t table write refusal
  refusals (not_begun refused) = inl (record {
    gives = refused_gives m places idle_goes on quiet old new t.0 (event_of t table.name write)
        (λ o h. answer_active (told o h) t.0 (event_of t table.name write)) refusal None (Some t.0)
        (whose_event t table.name write) (λ o h. active_event o h t table.name write) refused;
    works = ap (λ (c : Core D). c.works) refused.wait.same;
  })
  refusals (only_reads continues ends only) = inl (stopped
      (told_stops m places counts_now old new new t.0 continues.0 fits (ended_read m old new t.0 core.pool ends)
      refusal refl (subst (λ (r : Refusal). IsPlain r) (sym only.is) tt)
      (ap (λ (r : Refusal). waited_on (No r)) only.is))
      (λ o h stands. only_read speakers obstacles rows nothing begin verdicts nobody dirs m places counts_now old core t
      table write given continues o h stands new (ended_read m old new t.0 core.pool ends) refusal only.work only.its
      only.reads only.is))
  refusals (at_table begun wait has stops) = inl (at_its_table begun wait has stops)
  refusals (no_key passed wait has (key_memory told)) = inl (wants has.has_begun.continues.0 passed
      (passed_read m counts_now old core t table write passed wait has) told)
  refusals (no_key passed wait has (key_null null)) = inl (counts has.has_begun.continues.0 passed
      (passed_read m counts_now old core t table write passed wait has) null.1)
  refusals (at_row passed wait has some failed) = inl (at_its_row passed wait has failed)
  refusals (at_record found wait rec has stops) = inl (at_its_record found wait rec has stops)
  refusals (not_put free wait rec is_free failed) = put_or free wait rec is_free failed
