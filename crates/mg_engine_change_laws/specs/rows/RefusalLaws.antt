-- A write is refused before its version is laid: each stage's refusals are the history machine's, or come from outside.
use Rattle.std.proofs.Common.{◌≡◌, ◌⊎◌, inl, inr, ℕ, Bool, true, false, List, Option, None, Some, refl, sym, ap, ◌∙◌, subst}
use Rattle.std.specs.Prelude.{if◌then◌else◌, is_some}
use Rattle.mg_base.specs.Disk.{Meaning}
use Rattle.mg_base.specs.Image.{Image}
use Rattle.mg_base.specs.declared.numbers.RecId.{RecId}
use Rattle.mg_base.specs.declared.numbers.TxNo.{TxNo}
use Rattle.mg_base.specs.declared.transaction.TxState.TheVariants.{Active}
use Rattle.mg_value.specs.declared.value.Value.{Value}
use Rattle.mg_model.specs.declared.answer.Answer.{Answer}
use Rattle.mg_model.specs.declared.answer.Answer.TheVariants.{Fine, No}
use Rattle.mg_model.specs.declared.event.Mode.{Mode}
use Rattle.mg_model.specs.declared.opening.Opening.{Opening}
use Rattle.mg_model.specs.declared.refusal.Refusal.{Refusal}
use Rattle.mg_model.specs.declared.refusal.Refusal.TheVariants.{DuplicateKey, Memory, NoRow, ReadOnly}
use Rattle.mg_model.specs.declared.table.Table.{Table}
use Rattle.mg_model.specs.Answers.{answer, answer_active, has_row, if_active, obstacle, past, told}
use Rattle.mg_model.specs.Catalog.{catalog_name, table_key}
use Rattle.mg_model.specs.History.{Entries, entry, transaction_of}
use Rattle.mg_model.specs.Laws.{OpeningsBegin}
use Rattle.mg_model.specs.Legal.{IsLawful, is_lasting, is_outer}
use Rattle.mg_model.specs.Machine.{mode_of, state_of, waited_on}
use Rattle.mg_records.specs.Reading.{shape_seen}
use Rattle.mg_records.specs.Writing.{event_of}
use Rattle.mg_records.specs.declared.write.Write.{Write}
use Rattle.mg_records.specs.declared.write.Write.TheVariants as writes
use Rattle.mg_engine_step_laws.specs.standing.Known.{IsShown, seen_is_shown}
use Rattle.mg_engine_step_laws.specs.reads.AnswersLaws.{NothingAtKeys, ObstaclesAtKeys, RowsAtKeys, SpeakersAreTold}
use Rattle.mg_image.specs.Form.{Pages}
use Rattle.mg_pool.specs.Pool.{shown}
use Rattle.mg_row_writes.specs.Finding.{IsInWay, IsObstacleAt, IsRowAt}
use Rattle.mg_row_writes.specs.Storing.{written_at}
use Rattle.mg_row_writes.specs.declared.finding.RowAt.{RowAt}
use Rattle.mg_seek.specs.Speaking.{IsSpeaker}
use Rattle.mg_seek.specs.declared.views.Obstacle.{Obstacle}
use Rattle.mg_space.specs.View.{Tells}
use Rattle.mg_space.specs.ViewLaws.{CountsNow}
use Rattle.mg_image_overlay_laws.specs.tables.OneTable.{stands_in}
use Rattle.mg_txlist.specs.TxList.{said}
use Rattle.mg_waits.specs.Machine.{NobodyWaits, VerdictsAreTheMachines}
use Rattle.mg_waits.specs.Waits.{edges_in}
use Rattle.mg_works.specs.Works.{Working, given_to, work_of}
use Rattle.mg_core.specs.declared.parts.Core.{Core}
use Rattle.mg_core.specs.Cores.{Continues, IsCore}
use Rattle.mg_core.specs.Obstacles.{Hinders, IsOfRecord, IsOfTable}
use Rattle.mg_core.specs.Writing.{Allows, HasBegun, HasFound, HasPassed, IsFree, IsOfKey, IsWrong, MayWrite, KnowsKey}
use Rattle.mg_engine_meaning_laws.specs.LawfulLaws.{memory_of, tables_are_seen}
use Rattle.mg_engine_meaning_laws.specs.Meaning.{Places}
use Rattle.mg_engine_meaning_laws.specs.Standings.{ShowsIt, StandsFor, mode_kept, standing_of}
use Rattle.mg_engine_meaning_laws.specs.StepLaws.{shows_of}
use Rattle.mg_engine_meaning_laws.specs.DirectoryLaws.{knows_key}
use Rattle.mg_engine_change_laws.specs.memory.Directories.{DirectoriesTell}
use Rattle.mg_engine_change_laws.specs.rows.Answered.{answered, row_answer, table_answer}
use Rattle.mg_engine_change_laws.specs.rows.Looked.{hindered_answer, passed_next, row_told}
use Rattle.mg_engine_change_laws.specs.memory.Notes.{HasRead}
use Rattle.mg_engine_change_laws.specs.rows.StopLaws.{ended_read, reads_on, told_before}
use Rattle.mg_engine_change_laws.specs.rows.Stops.{IsPlain}

-- ---- the event of a write

pub whose_event : (t : TxNo) (name : List ℕ) (write : Write) → transaction_of (event_of t name write) ≡ Some t.0
whose_event t name (writes.Insert row) = refl
whose_event t name (writes.Change key row) = refl
whose_event t name (writes.Erase key) = refl

pub passing_event : (t : TxNo) (name : List ℕ) (write : Write) → is_lasting (event_of t name write) ≡ false
passing_event t name (writes.Insert row) = refl
passing_event t name (writes.Change key row) = refl
passing_event t name (writes.Erase key) = refl

pub active_event : (o : Opening) (h : Entries) (t : TxNo) (name : List ℕ) (write : Write)
    → answer o h (event_of t name write)
    ≡ if_active (state_of o h t.0) (answer_active (told o h) t.0 (event_of t name write))
active_event o h t name (writes.Insert row) = refl
active_event o h t name (writes.Change key row) = refl
active_event o h t name (writes.Erase key) = refl

-- where the row in the view does not allow a write, that is the answer
row_refused : (o : Opening) (h : Entries) (t : ℕ) (name : List ℕ) (key : Value) (write : Write) (there : Bool)
    (refusal : Refusal) → has_row (told o h) t name key ≡ there → IsWrong write there refusal
    → No refusal ≡ row_answer (told o h) t name key write
row_refused o h t name key (writes.Insert row) there refusal is wrong = ap No wrong.1
    ∙ sym (ap (λ (b : Bool). if b then No DuplicateKey else past (told o h) t (obstacle (told o h) t name key) Fine)
    (is ∙ wrong.0))
row_refused o h t name key (writes.Change was row) there refusal is wrong = ap No wrong.1
    ∙ sym (ap (λ (b : Bool). if b then past (told o h) t (obstacle (told o h) t name key) Fine else No NoRow)
    (is ∙ wrong.0))
row_refused o h t name key (writes.Erase was) there refusal is wrong = ap No wrong.1
    ∙ sym (ap (λ (b : Bool). if b then past (told o h) t (obstacle (told o h) t name key) Fine else No NoRow)
    (is ∙ wrong.0))

-- where it allows it, who is in the way at the record decides
pub row_allowed : (o : Opening) (h : Entries) (t : ℕ) (name : List ℕ) (key : Value) (write : Write) (there : Bool)
    → has_row (told o h) t name key ≡ there → Allows write there
    → row_answer (told o h) t name key write ≡ past (told o h) t (obstacle (told o h) t name key) Fine
row_allowed o h t name key (writes.Insert row) there is allows =
    ap (λ (b : Bool). if b then No DuplicateKey else past (told o h) t (obstacle (told o h) t name key) Fine)
    (is ∙ allows)
row_allowed o h t name key (writes.Change was row) there is allows =
    ap (λ (b : Bool). if b then past (told o h) t (obstacle (told o h) t name key) Fine else No NoRow) (is ∙ allows)
row_allowed o h t name key (writes.Erase was) there is allows =
    ap (λ (b : Bool). if b then past (told o h) t (obstacle (told o h) t name key) Fine else No NoRow) (is ∙ allows)

pub plain_wrong : (write : Write) (there : Bool) (refusal : Refusal) → IsWrong write there refusal → IsPlain refusal
plain_wrong (writes.Insert row) there refusal wrong = subst IsPlain (sym wrong.1) tt
plain_wrong (writes.Change key row) there refusal wrong = subst IsPlain (sym wrong.1) tt
plain_wrong (writes.Erase key) there refusal wrong = subst IsPlain (sym wrong.1) tt

pub none_wrong : (write : Write) (there : Bool) (refusal : Refusal) → IsWrong write there refusal
    → waited_on (No refusal) ≡ None
none_wrong (writes.Insert row) there refusal wrong = ap (λ (r : Refusal). waited_on (No r)) wrong.1
none_wrong (writes.Change key row) there refusal wrong = ap (λ (r : Refusal). waited_on (No r)) wrong.1
none_wrong (writes.Erase key) there refusal wrong = ap (λ (r : Refusal). waited_on (No r)) wrong.1

-- ---- the stages, since the start

module _ {D : Type 0} (m : Meaning D) (counts_now : CountsNow m) (old : Core D) (core : IsCore m old) (t : TxNo)
    (table : Table) (write : Write) where
  pub begun_read : (begun : Core D) (wait : Bool) → HasBegun old begun t wait → HasRead m old begun t.0
  begun_read begun wait has = ended_read m old begun t.0 core.pool has.ended

  pub passed_read : (passed : Core D) (wait : Bool) → HasPassed m old passed t table wait
      → HasRead m old passed t.0
  passed_read passed wait has = reads_on m counts_now old has.begun passed t.0
      (begun_read has.begun wait has.has_begun) has.passes.reads

  pub found_read : (found : Core D) (wait : Bool) (rec : Option RecId) → HasFound m old found t table write wait rec
      → HasRead m old found t.0
  found_read found wait rec has = reads_on m counts_now old has.passed found t.0
      (passed_read has.passed wait has.has_passed) has.finds.reads.reads

  pub free_read : (free : Core D) (wait : Bool) (rec : Option RecId) → IsFree m old free t table write wait rec
      → HasRead m old free t.0
  free_read free wait rec has = reads_on m counts_now old has.found free t.0
      (found_read has.found wait rec has.has_found) has.passes.reads

-- ---- one history

module _ (speakers : SpeakersAreTold) (obstacles : ObstaclesAtKeys) (rows : RowsAtKeys) (nothing : NothingAtKeys)
    (begin : OpeningsBegin) (verdicts : VerdictsAreTheMachines) (nobody : NobodyWaits) (dirs : DirectoriesTell) {D P : Type 0} (m : Meaning D)
    (places : Places P) (counts_now : CountsNow m) (old : Core D) (core : IsCore m old) (t : TxNo) (table : Table)
    (write : Write) (given : given_to old.works t.0 table.name ≡ Some table) (continues : Continues old t.0)
    (o : Opening) (h : Entries) (stands : StandsFor m old o h) where
  pub shows : ShowsIt m old o h (standing_of old stands.numbers stands.tables)
  shows = shows_of m old o h stands continues.0

  pub is_active : state_of o h t.0 ≡ Active
  is_active = sym ((memory_of m old o h stands).state t.0) ∙ continues.1

  pub is_seen : shape_seen o h t.0 table.name ≡ Some table.shape
  is_seen = (tables_are_seen m places old o h t.0 table.name table stands is_active given).1

  told_tells : Tells m old.store.disk shows.image
  told_tells = record { told = stands.tells; held = shows.held }

  -- the tables that are read
  catalog_there : IsShown shows.stands.shows.layout old.catalog
  catalog_there = record {
    its = shows.stands.shows.layout.catalog.table;
    stands = stands_in shows.stands.shows.layout shows.stands.shows.layout.catalog.table (inl refl);
    same = record {
      name = ap (λ (x : Table). x.name) shows.stands.shows.sound.catalog ∙ sym core.catalog.named;
      shape = ap (λ (x : Table). x.shape) shows.stands.shows.sound.catalog ∙ sym core.catalog.shape;
      pointer = ap (λ (x : Table). x.pointer) shows.stands.shows.sound.catalog
          ∙ ap (λ (n : ℕ). record { 0 = n }) (sym shows.catalog);
    };
  }

  pub table_there : IsShown shows.stands.shows.layout table
  table_there = seen_is_shown shows.stands.shows.layout table
      ((shows.stands.shows.tables t.0 continues.1).seen table.name table (stands.given t.0 table.name table given))

  -- the mode
  mode_is : (now : Core D) → HasRead m old now t.0 → (work : Working) → work_of now.works t.0 ≡ Some work
      → mode_of h t.0 ≡ work.mode
  mode_is now read work its = sym (((memory_of m old o h stands).active t.0 is_active).mode)
      ∙ ap mode_kept (ap (λ (c : Core D). work_of c.works t.0) (sym read.same) ∙ its)

  -- what is answered to one that may write
  answered_as : (now : Core D) → HasRead m old now t.0 → (wait : Bool) → MayWrite now.works t.0 wait
      → answer o h (event_of t table.name write)
      ≡ table_answer (told o h) t.0 table.name (written_at table write) write
  answered_as now read wait may = answered o h t table is_active is_seen write
      ∙ ap (λ (b : Bool). if b then No ReadOnly
      else table_answer (told o h) t.0 table.name (written_at table write) write)
      (ap (λ (x : Mode). x.read_only) (mode_is now read may.work may.its) ∙ may.writes)

  waits_as : (now : Core D) → HasRead m old now t.0 → (wait : Bool) → MayWrite now.works t.0 wait
      → (mode_of h t.0).wait ≡ wait
  waits_as now read wait may = ap (λ (x : Mode). x.wait) (mode_is now read may.work may.its) ∙ may.would

  -- ---- the table's row

  way_of_table : (begun : Core D) → HasRead m old begun t.0 → (found : Option Obstacle)
      → ((image : Image) → Tells m begun.store.disk image
      → IsOfTable begun t table.name (shown begun.store.dirty image) found)
      → IsObstacleAt (said old.list) old.live t.0 (shown old.store.dirty shows.image) old.catalog
      (table_key table.name) found
  way_of_table begun read found is = told_before m old begun t.0 read
      (λ (c : Core D) (view : Pages). IsOfTable c t table.name view found) is shows.image told_tells

  named_as : (next : Answer)
      → past (told o h) t.0 (obstacle (told o h) t.0 old.catalog.name (table_key table.name)) next
      ≡ past (told o h) t.0 (obstacle (told o h) t.0 catalog_name (table_key table.name)) next
  named_as next = ap (λ (n : List ℕ). past (told o h) t.0 (obstacle (told o h) t.0 n (table_key table.name)) next)
      core.catalog.named

  table_passed : (passed : Core D) (wait : Bool) → HasPassed m old passed t table wait → (next : Answer)
      → past (told o h) t.0 (obstacle (told o h) t.0 catalog_name (table_key table.name)) next ≡ next
  table_passed passed wait has next = sym (named_as next)
      ∙ passed_next speakers obstacles rows nothing begin m old o h stands shows t is_active old.catalog
      catalog_there (table_key table.name) way.speaks has.passes.found (edges_in has.begun.waits) wait way.spoken
      way.in_way has.passes.passed next
    where
      way : IsObstacleAt (said old.list) old.live t.0 (shown old.store.dirty shows.image) old.catalog
          (table_key table.name) has.passes.found
      way = way_of_table has.begun (begun_read m counts_now old core t table write has.begun wait has.has_begun)
          has.passes.found has.passes.told

  -- one is in the way of it
  pub table_hindered : (begun : Core D) (wait : Bool) → HasBegun old begun t wait → (read : Core D) (x : Obstacle)
      (new : Core D) (refusal : Refusal) → HasRead m old read t.0
      → ((image : Image) → Tells m begun.store.disk image
      → IsOfTable begun t table.name (shown begun.store.dirty image) (Some x))
      → Hinders read new t.0 wait x refusal → IsLawful o h (entry (event_of t table.name write) (No refusal))
  table_hindered begun wait has read x new refusal since is hinders = at (hindered_answer speakers obstacles rows
      nothing begin m old o h stands shows t is_active old.catalog catalog_there (table_key table.name) verdicts
      nobody way.speaks x read new wait refusal since.over
      (waits_as begun (begun_read m counts_now old core t table write begun wait has) wait has.may)
      way.spoken way.in_way hinders
      (row_answer (told o h) t.0 table.name (written_at table write) write))
    where
      way : IsObstacleAt (said old.list) old.live t.0 (shown old.store.dirty shows.image) old.catalog
          (table_key table.name) (Some x)
      way = way_of_table begun (begun_read m counts_now old core t table write begun wait has) (Some x) is

      at : (No refusal ≡ past (told o h) t.0 (obstacle (told o h) t.0 old.catalog.name (table_key table.name))
          (row_answer (told o h) t.0 table.name (written_at table write) write)) ⊎ (refusal ≡ Memory)
          → IsLawful o h (entry (event_of t table.name write) (No refusal))
      at (inr memory) = inr (ap (λ (r : Refusal). is_outer (No r)) memory)
      at (inl same) = inl (same ∙ (named_as (row_answer (told o h) t.0 table.name (written_at table write) write)
          ∙ sym (answered_as begun (begun_read m counts_now old core t table write begun wait has) wait has.may)))

  -- ---- the row in the view

  row_of_key : (passed : Core D) → HasRead m old passed t.0 → (found : RowAt)
      → ((image : Image) → Tells m passed.store.disk image
      → KnowsKey passed table (written_at table write) (shown passed.store.dirty image)
      → IsOfKey passed t table (written_at table write) found (shown passed.store.dirty image))
      → IsRowAt (said old.list) old.live t (shown old.store.dirty shows.image) table (written_at table write) found
  row_of_key passed read found is = told_before m old passed t.0 read
      (λ (c : Core D) (view : Pages). KnowsKey c table (written_at table write) view
      → IsOfKey c t table (written_at table write) found view) is shows.image told_tells
      (knows_key m old o h stands.numbers stands.tables shows dirs.walked table table_there dirs.speakers
      (written_at table write))

  has_row_is : (passed : Core D) → HasRead m old passed t.0 → (found : RowAt)
      → ((image : Image) → Tells m passed.store.disk image
      → KnowsKey passed table (written_at table write) (shown passed.store.dirty image)
      → IsOfKey passed t table (written_at table write) found (shown passed.store.dirty image))
      → has_row (told o h) t.0 table.name (written_at table write) ≡ is_some found.row
  has_row_is passed read found is = row_told speakers obstacles rows nothing begin m old o h stands shows t is_active
      table table_there (written_at table write) found (row_of_key passed read found is)

  -- past the table's row
  past_table : (passed : Core D) (wait : Bool) → HasPassed m old passed t table wait
      → answer o h (event_of t table.name write)
      ≡ row_answer (told o h) t.0 table.name (written_at table write) write
  past_table passed wait has = answered_as has.begun
      (begun_read m counts_now old core t table write has.begun wait has.has_begun) wait has.has_begun.may
      ∙ table_passed passed wait has (row_answer (told o h) t.0 table.name (written_at table write) write)

  pub row_is_wrong : (passed : Core D) (wait : Bool) → HasPassed m old passed t table wait → (found : RowAt)
      (refusal : Refusal)
      → ((image : Image) → Tells m passed.store.disk image
      → KnowsKey passed table (written_at table write) (shown passed.store.dirty image)
      → IsOfKey passed t table (written_at table write) found (shown passed.store.dirty image))
      → IsWrong write (is_some found.row) refusal
      → IsLawful o h (entry (event_of t table.name write) (No refusal))
  row_is_wrong passed wait has found refusal is wrong = inl (row_refused o h t.0 table.name (written_at table write)
      write (is_some found.row) refusal
      (has_row_is passed (passed_read m counts_now old core t table write passed wait has) found is) wrong
      ∙ sym (past_table passed wait has))

  -- past the row in the view
  pub past_row : (found : Core D) (wait : Bool) (rec : Option RecId) → HasFound m old found t table write wait rec
      → answer o h (event_of t table.name write)
      ≡ past (told o h) t.0 (obstacle (told o h) t.0 table.name (written_at table write)) Fine
  past_row found wait rec has = past_table has.passed wait has.has_passed
      ∙ row_allowed o h t.0 table.name (written_at table write) write (is_some has.finds.found.row)
      (has_row_is has.passed (passed_read m counts_now old core t table write has.passed wait has.has_passed)
      has.finds.found has.finds.reads.told) has.finds.allows

  -- ---- the record

  pub spoken_for : (found : Core D) (wait : Bool) (rec : Option RecId) → HasFound m old found t table write wait rec
      → IsSpeaker (said old.list) old.live (shown old.store.dirty shows.image) table (written_at table write) rec
  spoken_for found wait rec has = subst (λ (r : Option RecId). IsSpeaker (said old.list) old.live
      (shown old.store.dirty shows.image) table (written_at table write) r) (sym has.finds.is)
      (row_of_key has.passed (passed_read m counts_now old core t table write has.passed wait has.has_passed)
      has.finds.found has.finds.reads.told).spoken

  pub way_of_record : (found : Core D) → HasRead m old found t.0 → (rec : Option RecId) (x : Option Obstacle)
      → ((image : Image) → Tells m found.store.disk image
      → IsOfRecord found t rec (shown found.store.dirty image) x)
      → IsInWay (said old.list) old.live t.0 (shown old.store.dirty shows.image) rec x
  way_of_record found read rec x is = told_before m old found t.0 read
      (λ (c : Core D) (view : Pages). IsOfRecord c t rec view x) is shows.image told_tells

  pub record_hindered : (found : Core D) (wait : Bool) (rec : Option RecId)
      → HasFound m old found t table write wait rec → (read : Core D) (x : Obstacle) (new : Core D)
      (refusal : Refusal) → HasRead m old read t.0
      → ((image : Image) → Tells m found.store.disk image
      → IsOfRecord found t rec (shown found.store.dirty image) (Some x))
      → Hinders read new t.0 wait x refusal → IsLawful o h (entry (event_of t table.name write) (No refusal))
  record_hindered found wait rec has read x new refusal since is hinders = at (hindered_answer speakers obstacles rows
      nothing begin m old o h stands shows t is_active table table_there (written_at table write) verdicts nobody rec
      x read new wait refusal since.over
      (waits_as has.has_passed.begun (begun_read m counts_now old core t table write has.has_passed.begun wait
      has.has_passed.has_begun) wait has.has_passed.has_begun.may)
      (spoken_for found wait rec has)
      (way_of_record found (found_read m counts_now old core t table write found wait rec has) rec (Some x) is)
      hinders Fine)
    where
      at : (No refusal ≡ past (told o h) t.0 (obstacle (told o h) t.0 table.name (written_at table write)) Fine)
          ⊎ (refusal ≡ Memory) → IsLawful o h (entry (event_of t table.name write) (No refusal))
      at (inr memory) = inr (ap (λ (r : Refusal). is_outer (No r)) memory)
      at (inl same) = inl (same ∙ sym (past_row found wait rec has))

  -- nobody is in the way there, either: the write is answered so
  pub free_answer : (free : Core D) (wait : Bool) (rec : Option RecId) → IsFree m old free t table write wait rec
      → answer o h (event_of t table.name write) ≡ Fine
  free_answer free wait rec has = past_row has.found wait rec has.has_found
      ∙ passed_next speakers obstacles rows nothing begin m old o h stands shows t is_active table table_there
      (written_at table write) rec has.passes.found (edges_in has.found.waits) wait
      (spoken_for has.found wait rec has.has_found)
      (way_of_record has.found (found_read m counts_now old core t table write has.found wait rec has.has_found) rec
      has.passes.found has.passes.told) has.passes.passed Fine

  -- it only reads
  pub only_read : (now : Core D) → HasRead m old now t.0 → (refusal : Refusal) (work : Working)
      → work_of now.works t.0 ≡ Some work → work.mode.read_only ≡ true → refusal ≡ ReadOnly
      → IsLawful o h (entry (event_of t table.name write) (No refusal))
  only_read now read refusal work its reads is = inl (ap No is ∙ sym (answered o h t table is_active is_seen write
      ∙ ap (λ (b : Bool). if b then No ReadOnly
      else table_answer (told o h) t.0 table.name (written_at table write) write)
      (ap (λ (x : Mode). x.read_only) (mode_is now read work its) ∙ reads)))
