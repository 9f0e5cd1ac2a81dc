-- A table is refused before its rows are put: each stage's refusals are the history machine's, or come from outside.
use Rattle.std.proofs.Common.{◌≡◌, ◌⊎◌, inl, inr, ◌+◌, ℕ, Bool, true, false, List, ◌∷◌, Option, None, Some, refl, sym, ap, ◌∙◌, subst, length}
use Rattle.std.specs.Prelude.{if◌then◌else◌, is_some}
use Rattle.mg_base.specs.Disk.{Meaning}
use Rattle.mg_base.specs.Image.{Image}
use Rattle.mg_base.specs.declared.damage.Damaged.{Damaged}
use Rattle.mg_base.specs.declared.numbers.TxNo.{TxNo}
use Rattle.mg_base.specs.declared.transaction.TxState.{TxState}
use Rattle.mg_base.specs.declared.transaction.TxState.TheVariants.{Active}
use Rattle.mg_catalog.specs.RowsSaid.{table_row}
use Rattle.mg_value.specs.declared.shape.Shape.{Shape}
use Rattle.mg_value.specs.declared.value.Value.{Value}
use Rattle.mg_model.specs.declared.answer.Answer.{Answer}
use Rattle.mg_model.specs.declared.answer.Answer.TheVariants.{Fine, No}
use Rattle.mg_model.specs.declared.event.Mode.{Mode}
use Rattle.mg_model.specs.declared.opening.Opening.{Opening}
use Rattle.mg_model.specs.declared.refusal.Refusal.{Refusal}
use Rattle.mg_model.specs.declared.refusal.Refusal.TheVariants.{DuplicateKey, Memory, ReadOnly}
use Rattle.mg_model.specs.declared.table.Table.{Table}
use Rattle.mg_model.specs.Answers.{answer, answer_active, has_row, if_active, obstacle, past, told}
use Rattle.mg_model.specs.Catalog.{catalog_name, key_of, table_key}
use Rattle.mg_model.specs.History.{Entries, entry}
use Rattle.mg_model.specs.Laws.{OpeningsBegin}
use Rattle.mg_model.specs.Legal.{IsLawful, is_outer}
use Rattle.mg_model.specs.Machine.{mode_of, state_of, waited_on}
use Rattle.mg_records.specs.Writing.{new_table}
use Rattle.mg_engine_step_laws.specs.reads.AnswersLaws.{NothingAtKeys, ObstaclesAtKeys, RowsAtKeys, SpeakersAreTold}
use Rattle.mg_engine_step_laws.specs.writes.Batches.{ReadsLast}
use Rattle.mg_engine_step_laws.specs.standing.Following.{StandsOn}
use Rattle.mg_engine_step_laws.specs.commits.Idle.{IdleGoesOn}
use Rattle.mg_engine_step_laws.specs.standing.Known.{IsShown}
use Rattle.mg_image.specs.Form.{Pages, packed_form}
use Rattle.mg_lasting_laws.specs.Changing.{QuietHolds}
use Rattle.mg_pool.specs.Pool.{shown}
use Rattle.mg_pool.specs.declared.pool.Pool.{Pool}
use Rattle.mg_batches.specs.Batches.{not_lawful}
use Rattle.mg_row_writes.specs.Finding.{IsRowAt}
use Rattle.mg_row_writes.specs.declared.finding.RowAt.{RowAt}
use Rattle.mg_seek.specs.declared.views.Obstacle.{Obstacle}
use Rattle.mg_space.specs.View.{Tells}
use Rattle.mg_space.specs.ViewLaws.{CountsNow}
use Rattle.mg_space.specs.declared.fault.SpaceFault.{SpaceFault}
use Rattle.mg_space.specs.declared.fault.SpaceFault.TheVariants as faults
use Rattle.mg_space.specs.declared.links.FireLinks.{FireLinks}
use Rattle.mg_table_making.specs.Creating.{FailsCreation, FailsPut, MayBeMade, no_catalog, no_keys, not_begun, not_free, not_kept, not_made, not_put, only_reads}
use Rattle.mg_table_making.specs.Keys.{AreFreeKeys, FailsColumnKey, FailsColumnKeys, FailsFree, FailsOwnKey, column_spoken, column_taken, column_unread, first_taken, free_more, free_none, keys_made, later_taken, out_of_place, own_hindered, own_seen, own_spoken, own_taken, own_unread}
use Rattle.mg_image_overlay_laws.specs.tables.OneTable.{stands_in}
use Rattle.mg_txlist.specs.TxList.{said}
use Rattle.mg_waits.specs.Machine.{NobodyWaits, VerdictsAreTheMachines}
use Rattle.mg_works.specs.Works.{Working, work_of}
use Rattle.mg_core.specs.declared.parts.Core.{Core}
use Rattle.mg_core.specs.Cores.{Continues, IsCore}
use Rattle.mg_core.specs.Obstacles.{Hinders, HindersBy, IsOfRecord, IsTold, NotesWait, hindered, unread}
use Rattle.mg_core.specs.Putting.{CountsOne}
use Rattle.mg_core.specs.Reading.{FailsReading}
use Rattle.mg_core.specs.Writing.{HasBegun, IsOfKey, MayWrite, ReadsRow}
use Rattle.mg_engine_meaning_laws.specs.EventLaws.{refused_gives}
use Rattle.mg_engine_meaning_laws.specs.Frames.{GivesEvent}
use Rattle.mg_engine_meaning_laws.specs.LawfulLaws.{memory_of}
use Rattle.mg_engine_meaning_laws.specs.Meaning.{Places}
use Rattle.mg_engine_meaning_laws.specs.Standings.{ShowsIt, StandsFor, mode_kept, standing_of}
use Rattle.mg_engine_meaning_laws.specs.StepLaws.{shows_of}
use Rattle.mg_engine_change_laws.specs.rows.Looked.{hindered_answer, row_told}
use Rattle.mg_engine_change_laws.specs.memory.NoteLaws.{notes_give}
use Rattle.mg_engine_change_laws.specs.memory.Notes.{AreCounts, HasRead}
use Rattle.mg_engine_change_laws.specs.rows.StopLaws.{damage_stops, ended_read, fault_outer, reads_on, told_before, told_stops, unread_stops, wait_stops}
use Rattle.mg_engine_change_laws.specs.rows.Stops.{IsPlain, IsStopped}
use Rattle.mg_engine_change_laws.specs.rows.Verdicts.{told_notes, told_plain}
use Rattle.mg_engine_change_laws.specs.tables.MakingRefusals.{CreationsAreRefused, IsNotPut, own_event}

-- ---- one history

-- what is answered to the own row of a new table by one that may write
abbrev own_answer : Opening → Entries → ℕ → List ℕ → Answer
own_answer o h t name = if has_row (told o h) t catalog_name (table_key name) then No DuplicateKey
    else past (told o h) t (obstacle (told o h) t catalog_name (table_key name)) Fine

module _ (speakers : SpeakersAreTold) (obstacles : ObstaclesAtKeys) (rows : RowsAtKeys) (nothing : NothingAtKeys)
    (begin : OpeningsBegin) (verdicts : VerdictsAreTheMachines) (nobody : NobodyWaits) {D : Type 0} (m : Meaning D)
    (old : Core D) (core : IsCore m old) (t : TxNo) (name : List ℕ) (shape : Shape) (continues : Continues old t.0)
    (o : Opening) (h : Entries) (stands : StandsFor m old o h) where
  shows : ShowsIt m old o h (standing_of old stands.numbers stands.tables)
  shows = shows_of m old o h stands continues.0

  is_active : state_of o h t.0 ≡ Active
  is_active = sym ((memory_of m old o h stands).state t.0) ∙ continues.1

  catalog_there : IsShown shows.stands.shows.layout old.catalog
  catalog_there = record {
    its = shows.stands.shows.layout.catalog.table;
    stands = stands_in shows.stands.shows.layout shows.stands.shows.layout.catalog.table (inl refl);
    same = record {
      name = ap (λ (x : Table). x.name) shows.stands.shows.sound.catalog ∙ sym core.catalog.named;
      shape = ap (λ (x : Table). x.shape) shows.stands.shows.sound.catalog ∙ sym core.catalog.shape;
      pointer = ap (λ (x : Table). x.pointer) shows.stands.shows.sound.catalog
          ∙ ap (λ (n : ℕ). record { 0 = n }) (sym shows.catalog);
    };
  }

  mode_is : (now : Core D) → HasRead m old now t.0 → (work : Working) → work_of now.works t.0 ≡ Some work
      → mode_of h t.0 ≡ work.mode
  mode_is now read work its = sym (((memory_of m old o h stands).active t.0 is_active).mode)
      ∙ ap mode_kept (ap (λ (c : Core D). work_of c.works t.0) (sym read.same) ∙ its)

  answered : answer o h (own_event t name shape)
      ≡ (if (mode_of h t.0).read_only then No ReadOnly else own_answer o h t.0 name)
  answered = ap (λ (s : TxState). if_active s (if (mode_of h t.0).read_only then No ReadOnly
      else own_answer o h t.0 name)) is_active

  -- it only reads
  pub only_read : (now : Core D) → HasRead m old now t.0 → (refusal : Refusal) (work : Working)
      → work_of now.works t.0 ≡ Some work → work.mode.read_only ≡ true → refusal ≡ ReadOnly
      → IsLawful o h (entry (own_event t name shape) (No refusal))
  only_read now read refusal work its reads is = inl (ap No is ∙ sym (answered
      ∙ ap (λ (b : Bool). if b then No ReadOnly else own_answer o h t.0 name)
      (ap (λ (x : Mode). x.read_only) (mode_is now read work its) ∙ reads)))

  answered_as : (now : Core D) → HasRead m old now t.0 → (wait : Bool) → MayWrite now.works t.0 wait
      → answer o h (own_event t name shape) ≡ own_answer o h t.0 name
  answered_as now read wait may = answered ∙ ap (λ (b : Bool). if b then No ReadOnly else own_answer o h t.0 name)
      (ap (λ (x : Mode). x.read_only) (mode_is now read may.work may.its) ∙ may.writes)

  waits_as : (now : Core D) → HasRead m old now t.0 → (wait : Bool) → MayWrite now.works t.0 wait
      → (mode_of h t.0).wait ≡ wait
  waits_as now read wait may = ap (λ (x : Mode). x.wait) (mode_is now read may.work may.its) ∙ may.would

  -- ---- what was read of the key

  at_key : (begun : Core D) → HasRead m old begun t.0 → (found : RowAt) (read : Core D)
      → ReadsRow m begun read t begun.catalog (table_key name) found
      → IsRowAt (said old.list) old.live t (shown old.store.dirty shows.image) old.catalog (table_key name) found
  at_key begun since found read reads = told_before m old begun t.0 since
      (λ (c : Core D) (view : Pages). IsOfKey c t c.catalog (table_key name) found view) reads.told shows.image
      (record { told = stands.tells; held = shows.held })

  row_is : (begun : Core D) → HasRead m old begun t.0 → (found : RowAt) (read : Core D)
      → ReadsRow m begun read t begun.catalog (table_key name) found
      → has_row (told o h) t.0 catalog_name (table_key name) ≡ is_some found.row
  row_is begun since found read reads =
      ap (λ (n : List ℕ). has_row (told o h) t.0 n (table_key name)) (sym core.catalog.named)
      ∙ row_told speakers obstacles rows nothing begin m old o h stands shows t is_active old.catalog catalog_there
      (table_key name) found (at_key begun since found read reads)

  -- a row is seen
  pub own_is_seen : (begun : Core D) (wait : Bool) → HasRead m old begun t.0 → MayWrite begun.works t.0 wait
      → (found : RowAt) (read : Core D) → ReadsRow m begun read t begun.catalog (table_key name) found
      → is_some found.row ≡ true → (refusal : Refusal) → refusal ≡ DuplicateKey
      → IsLawful o h (entry (own_event t name shape) (No refusal))
  own_is_seen begun wait since may found read reads seen refusal is = inl (ap No is
      ∙ sym (answered_as begun since wait may ∙ ap (λ (b : Bool). if b then No DuplicateKey
      else past (told o h) t.0 (obstacle (told o h) t.0 catalog_name (table_key name)) Fine)
      (row_is begun since found read reads ∙ seen)))

  -- one is in the way
  pub own_is_hindered : (begun : Core D) (wait : Bool) → HasRead m old begun t.0 → MayWrite begun.works t.0 wait
      → (found : RowAt) (read : Core D) → ReadsRow m begun read t begun.catalog (table_key name) found
      → is_some found.row ≡ false → HasRead m old read t.0 → (x : Obstacle) (looked new : Core D) (refusal : Refusal)
      → ((image : Image) → Tells m read.store.disk image
      → IsOfRecord read t found.rec (shown read.store.dirty image) (Some x))
      → HasRead m old looked t.0 → Hinders looked new t.0 wait x refusal
      → IsLawful o h (entry (own_event t name shape) (No refusal))
  own_is_hindered begun wait since may found read reads unseen since_read x looked new refusal is since_looked hinders =
      at (hindered_answer speakers obstacles rows nothing begin m old o h stands shows t is_active old.catalog
      catalog_there (table_key name) verdicts nobody found.rec x looked new wait refusal since_looked.over
      (waits_as begun since wait may) (at_key begun since found read reads).spoken
      (told_before m old read t.0 since_read
      (λ (c : Core D) (view : Pages). IsOfRecord c t found.rec view (Some x)) is shows.image
      (record { told = stands.tells; held = shows.held })) hinders Fine)
    where
      at : (No refusal ≡ past (told o h) t.0 (obstacle (told o h) t.0 old.catalog.name (table_key name)) Fine)
          ⊎ (refusal ≡ Memory) → IsLawful o h (entry (own_event t name shape) (No refusal))
      at (inr memory) = inr (ap (λ (r : Refusal). is_outer (No r)) memory)
      at (inl same) = inl (same
          ∙ (ap (λ (n : List ℕ). past (told o h) t.0 (obstacle (told o h) t.0 n (table_key name)) Fine)
          core.catalog.named
          ∙ sym (answered_as begun since wait may ∙ ap (λ (b : Bool). if b then No DuplicateKey
          else past (told o h) t.0 (obstacle (told o h) t.0 catalog_name (table_key name)) Fine)
          (row_is begun since found read reads ∙ unseen))))

-- ---- the stages

module _ (speakers : SpeakersAreTold) (obstacles : ObstaclesAtKeys) (rows : RowsAtKeys) (nothing : NothingAtKeys)
    (begin : OpeningsBegin) (verdicts : VerdictsAreTheMachines) (nobody : NobodyWaits) {D P : Type 0} (m : Meaning D)
    (places : Places P) (counts_now : CountsNow m) (idle_goes : IdleGoesOn D FireLinks m packed_form)
    (on : StandsOn packed_form) (quiet : QuietHolds packed_form) (last : ReadsLast D FireLinks m packed_form)
    (old new : Core D) (core : IsCore m old) (fits : AreCounts old) (t : TxNo) (name : List ℕ) (shape : Shape)
    (refusal : Refusal) where
  abbrev Gives : Type 0
  Gives = GivesEvent m places old new (own_event t name shape) (No refusal) (Some refusal) (Some t.0) (Some t.0) None
      None × (new.works ≡ old.works)

  stopped : IsStopped m places old new t.0 refusal
      → ((o : Opening) (h : Entries) → StandsFor m old o h → IsLawful o h (entry (own_event t name shape) (No refusal)))
      → Gives
  stopped stop lawful = (
    notes_give m places idle_goes on quiet begin last old new t.0 (own_event t name shape) refusal (Some t.0) (Some t.0)
        stop.notes refl refl lawful stop.may,
    ap (λ (c : Core D). c.works) stop.notes.same,
  )

  -- from outside the machine
  outer : is_outer (No refusal) ≡ true → IsStopped m places old new t.0 refusal → Gives
  outer is stop = stopped stop (λ o h stands. inr is)

  begun_read : (begun : Core D) (wait : Bool) → HasBegun old begun t wait → HasRead m old begun t.0
  begun_read begun wait has = ended_read m old begun t.0 core.pool has.ended

  key_read : (mid read : Core D) (table : Table) (key : Value) (found : RowAt) → HasRead m old mid t.0
      → ReadsRow m mid read t table key found → HasRead m old read t.0
  key_read mid read table key found since reads = reads_on m counts_now old mid read t.0 since reads.reads

  module _ (online : old.store.offline ≡ None) where
    wants : (mid : Core D) → HasRead m old mid t.0 → IsTold mid new Memory refusal → Gives
    wants mid read told = outer (ap (λ (r : Refusal). is_outer (No r)) told.0)
        (told_stops m places counts_now old mid new t.0 online fits read refusal told.1
        (subst (λ (r : Refusal). IsPlain r) (sym told.0) tt)
        (ap (λ (r : Refusal). waited_on (No r)) told.0))

    fails : (mid : Core D) → HasRead m old mid t.0 → (why : Pool D FireLinks → Pages → SpaceFault → Type 0)
        → FailsReading m mid new why refusal → Gives
    fails mid read why failed = outer (fault_outer failed.fault refusal failed.is)
        (unread_stops m places counts_now old mid new t.0 online fits read refusal why failed)

    counts : (mid : Core D) → HasRead m old mid t.0 → (d : Damaged) → CountsOne mid new (faults.Damaged d) refusal
        → Gives
    counts mid read d one = outer (fault_outer (faults.Damaged d) refusal one.is)
        (damage_stops m places counts_now old mid new t.0 online fits read refusal d read.keeps.pool
        (read.keeps.offline ∙ online) one)

    hinders_stop : (read : Core D) → HasRead m old read t.0 → (wait : Bool) (x : Obstacle)
        → Hinders read new t.0 wait x refusal → IsStopped m places old new t.0 refusal
    hinders_stop read since wait x hinders = at (told_notes read new t.0 x.by hinders.verdict refusal hinders.told)
      where
        at : (new ≡ read) × (waited_on (No refusal) ≡ None)
            ⊎ NotesWait read new t.0 x.by refusal × (waited_on (No refusal) ≡ Some x.by.0)
            → IsStopped m places old new t.0 refusal
        at (inl (same, none)) = told_stops m places counts_now old read new t.0 online fits since refusal same
            (told_plain read new t.0 x.by hinders.verdict refusal hinders.told) none
        at (inr (notes, some)) = wait_stops m places counts_now old read new t.0 online fits since refusal x.by notes

    -- ---- a column's key

    column_refused : (mid : Core D) → HasRead m old mid t.0 → (place count : ℕ) (key : Value)
        → FailsColumnKey m mid new t place count key refusal → Gives
    column_refused mid read place count key (column_unread failed) = fails mid read _ failed
    column_refused mid read place count key (column_spoken looked found reads some tells) =
        counts looked (key_read mid looked mid.catalog key found read reads)
        (out_of_place looked.catalog.pointer.0 place count) tells

    columns_refused : (count place : ℕ) (keys : List Value) (mid : Core D) → HasRead m old mid t.0
        → FailsColumnKeys m t count new refusal place keys mid → Gives
    columns_refused count place keys mid read (first_taken at key later from failed) =
        column_refused mid read place count key failed
    columns_refused count place keys mid read (later_taken at key later from looked free failed) =
        columns_refused count (place + 1) later looked
        (key_read mid looked mid.catalog key free.found read free.reads) failed

    -- ---- the own key

    own_refused : (begun : Core D) (wait : Bool) → HasBegun old begun t wait → (count : ℕ)
        → FailsOwnKey m begun new t wait count (table_key name) refusal → Gives
    own_refused begun wait has count (own_unread failed) = fails begun (begun_read begun wait has) _ failed
    own_refused begun wait has count (own_seen found reads seen is) = stopped
        (told_stops m places counts_now old new new t.0 online fits
        (key_read begun new begun.catalog (table_key name) found (begun_read begun wait has) reads) refusal refl
        (subst (λ (r : Refusal). IsPlain r) (sym is) tt) (ap (λ (r : Refusal). waited_on (No r)) is))
        (λ o h stands. own_is_seen speakers obstacles rows nothing begin verdicts nobody m old core t name shape
        has.continues o h stands begun wait (begun_read begun wait has) has.may found new reads seen refusal is)
    own_refused begun wait has count (own_hindered read found reads unseen (unread failed)) = fails read
        (key_read begun read begun.catalog (table_key name) found (begun_read begun wait has) reads) _ failed
    own_refused begun wait has count (own_hindered read found reads unseen (hindered looked obstacle only told by)) =
        at obstacle told by
      where
        since_read : HasRead m old read t.0
        since_read = key_read begun read begun.catalog (table_key name) found (begun_read begun wait has) reads

        since : HasRead m old looked t.0
        since = reads_on m counts_now old read looked t.0 since_read only

        at : (f : Option Obstacle) → ((image : Image) → Tells m read.store.disk image
            → IsOfRecord read t found.rec (shown read.store.dirty image) f)
            → HindersBy looked new t.0 wait f refusal → Gives
        at None is by_ = absurd by_
        at (Some x) is by_ = stopped (hinders_stop looked since wait x by_)
            (λ o h stands. own_is_hindered speakers obstacles rows nothing begin verdicts nobody m old core t name
            shape has.continues o h stands begun wait (begun_read begun wait has) has.may found read reads unseen
            since_read x looked new refusal is since by_)
    own_refused begun wait has count (own_spoken read passed found reads unseen some passes tells) = counts passed
        (reads_on m counts_now old read passed t.0
        (key_read begun read begun.catalog (table_key name) found (begun_read begun wait has) reads) passes.reads)
        (out_of_place passed.catalog.pointer.0 0 count) tells

    -- ---- all keys

    first_key : Value
    first_key = key_of old.catalog.shape (table_row (new_table name shape))

    own_key : (own : Value) (columns : List Value) → own ∷ columns ≡ keys_made old.catalog.shape name shape
        → own ≡ table_key name
    own_key own columns same =
        let first : own ≡ key_of old.catalog.shape (table_row (new_table name shape)) = cc in
        first ∙ ap (λ (s : Shape). key_of s (table_row (new_table name shape))) core.catalog.shape

    keys_refused : (begun : Core D) (wait : Bool) → HasBegun old begun t wait → (count : ℕ) (keys : List Value)
        → keys ≡ keys_made old.catalog.shape name shape → FailsFree m begun new t wait count refusal keys → Gives
    keys_refused begun wait has count keys same (own_taken own columns failed) = own_refused begun wait has count
        (subst (λ (k : Value). FailsOwnKey m begun new t wait count k refusal) (own_key own columns same) failed)
    keys_refused begun wait has count keys same (column_taken own columns failed) =
        columns_refused count 1 columns failed.read
        (key_read begun failed.read begun.catalog own failed.free.found (begun_read begun wait has) failed.free.reads)
        failed.fails

  -- ---- what came before the rows are put

  free_read : (keys : List Value) (mid free : Core D) → HasRead m old mid t.0 → AreFreeKeys m t keys mid free
      → HasRead m old free t.0
  free_read keys mid free read (free_none same) = read
  free_read keys mid free read (free_more key later from looked to its more) = free_read later looked free
      (key_read mid looked mid.catalog key its.found read its.reads) more

  put_refused : (free : Core D) → MayBeMade m old free t name shape
      → FailsPut m free new t name shape (keys_made old.catalog.shape name shape) refusal
      → Gives ⊎ IsNotPut m old new t name shape refusal
  put_refused free may (no_catalog none one) = inl (counts may.has_begun.continues.0 free
      (free_read (keys_made old.catalog.shape name shape) may.begun free
      (begun_read may.begun may.wait may.has_begun) may.are_free) not_lawful one)
  put_refused free may (not_kept failed) = inr (record { free = free; may = may; fails = inl failed })
  put_refused free may (not_made failed) = inr (record { free = free; may = may; fails = inr failed })

  -- ---- all of them

  pub creations_refused : FailsCreation m old new t name shape refusal
      → Gives ⊎ IsNotPut m old new t name shape refusal
  creations_refused (not_begun refused) = inl (
    refused_gives m places idle_goes on quiet old new t.0 (own_event t name shape)
        (λ o h. answer_active (told o h) t.0 (own_event t name shape)) refusal (Some t.0) (Some t.0) refl (λ o h. refl)
        refused,
    ap (λ (c : Core D). c.works) refused.wait.same,
  )
  creations_refused (only_reads continues ends only) = inl (stopped
      (told_stops m places counts_now old new new t.0 continues.0 fits (ended_read m old new t.0 core.pool ends)
      refusal refl (subst (λ (r : Refusal). IsPlain r) (sym only.is) tt)
      (ap (λ (r : Refusal). waited_on (No r)) only.is))
      (λ o h stands. only_read speakers obstacles rows nothing begin verdicts nobody m old core t name shape continues
      o h stands new (ended_read m old new t.0 core.pool ends) refusal only.work only.its only.reads only.is))
  creations_refused (no_keys begun wait has told) = inl (wants has.continues.0 begun (begun_read begun wait has) told)
  creations_refused (not_free begun wait has failed) = inl (keys_refused has.continues.0 begun wait has
      (length (keys_made old.catalog.shape name shape)) (keys_made old.catalog.shape name shape) refl failed)
  creations_refused (not_put free may failed) = put_refused free may failed

pub creations_are_refused : (D P : Type 0) (m : Meaning D) → SpeakersAreTold → ObstaclesAtKeys → RowsAtKeys
    → NothingAtKeys → OpeningsBegin → VerdictsAreTheMachines → NobodyWaits → CountsNow m
    → IdleGoesOn D FireLinks m packed_form → StandsOn packed_form → QuietHolds packed_form
    → ReadsLast D FireLinks m packed_form → CreationsAreRefused D P m
creations_are_refused D P m speakers obstacles rows nothing begin verdicts nobody counts_now idle_goes on quiet last
    places old new t name shape refusal core fits failed = creations_refused speakers obstacles rows nothing begin
    verdicts nobody m places counts_now idle_goes on quiet last old new core fits t name shape refusal failed
