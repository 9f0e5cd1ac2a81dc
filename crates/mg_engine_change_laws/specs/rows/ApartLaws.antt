-- Each session has one active transaction at most after a write of a row into a table that is kept first, too.
use Rattle.std.proofs.Common.{◌≡◌, ◌⊎◌, inl, inr, ℕ, Bool, true, false, List, Some, refl, sym, ap, ◌∙◌, subst}
use Rattle.std.specs.Prelude.{is_some}
use Rattle.mg_base.specs.Disk.{Meaning}
use Rattle.mg_base.specs.declared.numbers.TxNo.{TxNo}
use Rattle.mg_model.specs.declared.table.Table.{Table}
use Rattle.mg_records.specs.Writing.{event_of}
use Rattle.mg_records.specs.declared.write.Write.{Write}
use Rattle.mg_row_writes.specs.Storing.{written_at}
use Rattle.mg_space.specs.ViewLaws.{CountsNow}
use Rattle.mg_undo.specs.declared.changes.Was.{Was}
use Rattle.mg_value.specs.declared.value.Value.{Value}
use Rattle.mg_works.specs.Works.{AreApart, MayBeGiven, Working, given_to, unasked, with_change, with_work, with_written, without_change, written_to}
use Rattle.mg_works.specs.WorksLaws.{with_apart}
use Rattle.mg_core.specs.declared.parts.Core.{Core}
use Rattle.mg_core.specs.Cores.{IsCore}
use Rattle.mg_core.specs.Putting.{works_kept}
use Rattle.mg_core.specs.Writing.{Writes}
use Rattle.mg_engine_change_laws.specs.memory.KeptTables.{NotedTablesAreKept, NotedWorksStay, NotesStay}
use Rattle.mg_engine_change_laws.specs.memory.Notes.{AreCounts, HasRead}
use Rattle.mg_engine_change_laws.specs.rows.RefusalLaws.{free_read}
use Rattle.mg_engine_change_laws.specs.rows.Refusals.{IsNotLaid, RefusalsGoOn, RefusesStill}
use Rattle.mg_engine_change_laws.specs.rows.StopLaws.{reads_on}
use Rattle.mg_taking_back.specs.Noting.{noted, noted_fails, noted_if, noted_memory, noted_not, with_noted}
use Rattle.mg_engine_change_laws.specs.rows.NotedLaws.{noted_core, noted_given, table_noted}
use Rattle.mg_engine_change_laws.specs.memory.Retracted.{works_retracted}
use Rattle.mg_engine_change_laws.specs.rows.Steps.{NotLaidGives, NotedFailsApart, NotedWritesApart}

-- ---- what is kept of transactions

noted_apart : (t : ℕ) (table : Table) (works : List Working) → MayBeGiven table → AreApart works
    → AreApart (noted t table works)
noted_apart t table works may apart = at (is_some (written_to works t table.pointer.0))
  where
    at : (b : Bool) → AreApart (noted_if b t table works)
    at true = apart
    at false = with_apart t (with_written table) (λ w. refl) (λ w. refl) (λ w is. record {
      session_below = is.session_below;
      lawful = is.lawful;
      written_lawful = (may, is.written_lawful);
    }) works apart

kept_apart : (t owner : ℕ) (key : Value) (was : Was) (works : List Working) → AreApart works
    → AreApart (works_kept t owner key was works)
kept_apart t owner key was works apart = with_apart t unasked (λ w. refl) (λ w. refl) (λ w is. record {
  session_below = is.session_below;
  lawful = is.lawful;
  written_lawful = is.written_lawful;
}) (with_work t (with_change owner key was) works) (with_apart t (with_change owner key was) (λ w. refl) (λ w. refl)
    (λ w is. record { session_below = is.session_below; lawful = is.lawful; written_lawful = is.written_lawful })
    works apart)

retracted_apart : (t owner : ℕ) (key : Value) (was : Was) (works : List Working) → AreApart works
    → AreApart (works_retracted t owner key was works)
retracted_apart t owner key was works apart = with_apart t without_change (λ w. refl) (λ w. refl) (λ w is. record {
  session_below = is.session_below;
  lawful = is.lawful;
  written_lawful = is.written_lawful;
}) (works_kept t owner key was works) (kept_apart t owner key was works apart)

-- ---- the calls

writes_apart : {D : Type 0} (m : Meaning D) → CountsNow m → (old new : Core D) (t : TxNo) (table : Table)
    (write : Write) → IsCore m old → Writes m old new t table write → AreApart old.works → AreApart new.works
writes_apart {D} m counts_now old new t table write core written apart = subst AreApart (sym works_is)
    (kept_apart t.0 table.pointer.0 (written_at table write) written.puts.before.was old.works apart)
  where
    since : HasRead m old written.puts.read t.0
    since = reads_on m counts_now old written.free written.puts.read t.0 (free_read m counts_now old core t table write
        written.free written.wait written.rec written.is_free) written.puts.has.reads

    works_is : new.works ≡ works_kept t.0 table.pointer.0 (written_at table write) written.puts.before.was old.works
    works_is = ap (λ (c : Core D). c.works) written.puts.laid.same ∙ ap (λ (c : Core D).
        works_kept t.0 table.pointer.0 (written_at table write) written.puts.before.was c.works) since.same

pub noted_writes_apart : {D : Type 0} (m : Meaning D) → CountsNow m → NotedWorksStay → NotesStay D m
    → NotedWritesApart D m
noted_writes_apart m counts_now works_stay notes_stay old new t table write core given may apart written =
    writes_apart m counts_now (with_noted t.0 table old) new t table write
    (noted_core works_stay m notes_stay old t table given core) written (noted_apart t.0 table old.works may apart)

pub noted_fails_apart : {D P : Type 0} (m : Meaning D) → NotedWorksStay → NotedTablesAreKept → NotesStay D m
    → RefusalsGoOn D P m → NotLaidGives D P m → NotedFailsApart D P m
noted_fails_apart {D} m works_stay kept notes_stay refusals not_laid places old new t table write refusal core counted given
    fits may apart (noted_not refused) =
    subst AreApart (sym (ap (λ (c : Core D). c.works) refused.wait.same)) apart
noted_fails_apart {D} m works_stay kept notes_stay refusals not_laid places old new t table write refusal core counted given
    fits may apart (noted_memory continues ends is) =
    subst AreApart (sym (ap (λ (c : Core D). c.works) ends.same)) apart
noted_fails_apart {D} {P} m works_stay kept notes_stay refusals not_laid places old new t table write refusal core counted
    given fits may apart (noted_fails fails) = at (refusals places (with_noted t.0 table old) new t table write
    refusal core_ counted_ given_ fails)
  where
    core_ : IsCore m (with_noted t.0 table old)
    core_ = noted_core works_stay m notes_stay old t table given core

    counted_ : AreCounts (with_noted t.0 table old)
    counted_ = record { damage = counted.damage; shortages = counted.shortages }

    given_ : given_to (noted t.0 table old.works) t.0 table.name ≡ Some table
    given_ = noted_given works_stay m notes_stay old t table given t.0 table.name ∙ given

    apart_ : AreApart (noted t.0 table old.works)
    apart_ = noted_apart t.0 table old.works may apart

    at : RefusesStill m places (with_noted t.0 table old) new (event_of t table.name write) refusal t.0
        ⊎ IsNotLaid m (with_noted t.0 table old) new t table write refusal → AreApart new.works
    at (inl still) = subst AreApart (sym still.works) apart_
    at (inr failed) = subst AreApart
        (sym (not_laid places (with_noted t.0 table old) new t table write refusal core_ counted_ given_
        (table_noted kept old t table given) fits failed).1)
        (retracted_apart t.0 table.pointer.0 (written_at table write) failed.before.was (noted t.0 table old.works)
        apart_)
