-- The entries of a row were laid, one index after another, by an engine that has read all that the write asks for: it
-- stands for the history, the records are as they were, and the row is found in these indexes.
use Rattle.std.proofs.Common.{◌≡◌, ◌∙◌, ◌++◌, inl, inr, ap, refl, sym, subst, ℕ, List, [], ◌∷◌, None, Some, true}
use Rattle.std.proofs.lemmas.Bool.{false≢true}
use Rattle.std.proofs.lemmas.List.{append_assoc}
use Rattle.mg_base.specs.Disk.{Meaning}
use Rattle.mg_base.specs.declared.numbers.RecId.{RecId}
use Rattle.mg_base.specs.declared.numbers.TxNo.{TxNo}
use Rattle.mg_base.specs.declared.transaction.TxState.TheVariants.{Active}
use Rattle.mg_core.specs.Cores.{IsCore}
use Rattle.mg_core.specs.declared.parts.Core.{Core}
use Rattle.mg_engine_meaning_laws.specs.Meaning.{Places}
use Rattle.mg_engine_meaning_laws.specs.Standings.{asked_in, sessions_in, standing_of}
use Rattle.mg_engine_step_laws.specs.reads.AnswersLaws.{SpeakersAreTold}
use Rattle.mg_engine_step_laws.specs.writes.Knowing.{HasEntries}
use Rattle.mg_engine_step_laws.specs.commits.ListShows.{ListsStay}
use Rattle.mg_engine_step_laws.specs.commits.Unasked.{UnaskingLasts}
use Rattle.mg_entries.specs.Entries.{LaysAll, LaysEntry, no_index, one_more}
use Rattle.mg_entry_overlay_laws.specs.Entered.{KeepsRoots}
use Rattle.mg_entry_step_laws.specs.EntryStays.{EntriesStay}
use Rattle.mg_entry_tie_laws.specs.IndexPlaces.{HasRoot}
use Rattle.mg_image.specs.Form.{Pages, Row, packed_coding, packed_form}
use Rattle.mg_image.specs.Indexes.{Finds, IsFoundIn, index_entry}
use Rattle.mg_image.specs.ReadingLaws.{RowsAreOne}
use Rattle.mg_image.specs.Records.{cells_of}
use Rattle.mg_image.specs.Sound.{facts_by}
use Rattle.mg_image.specs.Tables.{stands_of, table_at}
use Rattle.mg_image_overlay_laws.specs.tables.OneLayout.{StandsOneWay}
use Rattle.mg_lasting_laws.specs.PoolLaws.{HoldsOne}
use Rattle.mg_model.specs.Answers.{answer}
use Rattle.mg_model.specs.History.{Entries}
use Rattle.mg_model.specs.Openings.{everyone}
use Rattle.mg_model.specs.declared.answer.Answer.TheVariants.{Fine}
use Rattle.mg_model.specs.declared.opening.Opening.{Opening}
use Rattle.mg_model.specs.declared.table.Index.{Index}
use Rattle.mg_model.specs.declared.table.Table.{Table}
use Rattle.mg_node.specs.declared.entry.Entry.{Entry}
use Rattle.mg_overlay_laws.specs.Overlays.{left_state}
use Rattle.mg_pool.specs.Pool.{IsPool, shown}
use Rattle.mg_pool.specs.declared.pool.Pool.{Pool}
use Rattle.mg_records.specs.Writing.{FitsShape, event_of}
use Rattle.mg_records.specs.declared.write.Write.{Write}
use Rattle.mg_records.specs.declared.write.Write.TheVariants as writes
use Rattle.mg_row_writes.specs.Laying.{EntersRow}
use Rattle.mg_row_writes.specs.Storing.{IsStored, erases, row_stored}
use Rattle.mg_row_writes.specs.declared.before.Before.{Before}
use Rattle.mg_space.specs.Taking.{IsGeometry}
use Rattle.mg_space.specs.declared.links.FireLinks.{FireLinks}
use Rattle.mg_txlist.specs.TxList.{said}
use Rattle.mg_version.specs.declared.cell.Version.{Version}
use Rattle.mg_waits.specs.Waits.{NowWaits, edges_in}
use Rattle.mg_works.specs.Works.{Working, given_to, work_of}
use Rattle.mg_engine_change_laws.specs.rows.Befores.{BeforesAreTold}
use Rattle.mg_engine_change_laws.specs.rows.Codes.{StoredRowsAreCoded}
use Rattle.mg_engine_change_laws.specs.rows.Enters as enters
use Rattle.mg_engine_change_laws.specs.entries.EntryOverLaws.{StandsOver, entry_over}
use Rattle.mg_engine_change_laws.specs.entries.EntryStages.{StaysEntered}
use Rattle.mg_engine_change_laws.specs.rows.Kept.{MadeWritesFollow}
use Rattle.mg_engine_change_laws.specs.rows.Laid.{HasNoted}
use Rattle.mg_engine_change_laws.specs.rows.Owners.{SeenMayBeWritten}

-- ---- what is found

pub root_in : (first : List Index) (index : Index) (later : List Index) → HasRoot (first ++ index ∷ later) index.root.0
root_in [] index later = inl refl
root_in (x ∷ xs) index later = inr (root_in xs index later)

-- in the first of some indexes that find what they found
pub found_on : (old new : Pages) (first later : List Index) (p : RecId) (row : Row) → KeepsRoots old new (first ++ later)
    → IsFoundIn old first p row → IsFoundIn new first p row
found_on old new [] later p row keeps found = tt
found_on old new (x ∷ xs) later p row keeps found =
    (keeps.0 (index_entry x p row) found.0, found_on old new xs later p row keeps.1 found.1)

-- and in one more
pub found_more : (pages : Pages) (first : List Index) (index : Index) (p : RecId) (row : Row) → IsFoundIn pages first p row
    → Finds pages (index_entry index p row) index.root.0 → IsFoundIn pages (first ++ index ∷ []) p row
found_more pages [] index p row found has = (has, tt)
found_more pages (x ∷ xs) index p row found has = (found.0, found_more pages xs index p row found.1 has)

-- ---- all entries

-- Entries of a row were laid in some indexes since the engine stood so.
pub record AllEntered {D : Type 0} (m : Meaning D) (old : Core D) (a b : Pool D FireLinks) (o : Opening) (h : Entries)
    (t : ℕ) (it : StandsOver m old a o h t) (indexes : List Index) (p : RecId) (row : Row) : Type 0 where
  pub now : StandsOver m old b o h t
  pub pool : IsPool m b
  pub up : b.offline ≡ None
  pub geometry : b.geometry ≡ a.geometry
  pub speaks : now.shows.stands.shows.versions.speaker ≡ it.shows.stands.shows.versions.speaker
  pub reads : now.shows.stands.shows.reading ≡ it.shows.stands.shows.reading
  pub facts : facts_by (left_state everyone (said old.list)) (shown b.dirty now.shows.image) now.shows.stands.shows.layout
      ≡ facts_by (left_state everyone (said old.list)) (shown a.dirty it.shows.image) it.shows.stands.shows.layout
  pub owners : (n : ℕ) → table_at (stands_of now.shows.stands.shows.layout) n
      ≡ table_at (stands_of it.shows.stands.shows.layout) n
  pub cells : (q : RecId) (x : Table) → table_at (stands_of it.shows.stands.shows.layout) q.page.0 ≡ Some x
      → cells_of (shown b.dirty now.shows.image) q ≡ cells_of (shown a.dirty it.shows.image) q
  pub pages : (n : ℕ) (x : Table) → table_at (stands_of it.shows.stands.shows.layout) n ≡ Some x
      → shown b.dirty now.shows.image n ≡ shown a.dirty it.shows.image n
  pub found : IsFoundIn (shown b.dirty now.shows.image) indexes p row

-- The entries of a write's row were laid since the engine stood so: the row is found in the indexes of its table, unless
-- the version deletes.
pub record RowEntered {D : Type 0} (m : Meaning D) (old : Core D) (a b : Pool D FireLinks) (o : Opening) (h : Entries)
    (t : ℕ) (it : StandsOver m old a o h t) (table : Table) (p : RecId) (v : Version) (stored : Row) : Type 0 where
  pub now : StandsOver m old b o h t
  pub pool : IsPool m b
  pub up : b.offline ≡ None
  pub geometry : b.geometry ≡ a.geometry
  pub speaks : now.shows.stands.shows.versions.speaker ≡ it.shows.stands.shows.versions.speaker
  pub reads : now.shows.stands.shows.reading ≡ it.shows.stands.shows.reading
  pub facts : facts_by (left_state everyone (said old.list)) (shown b.dirty now.shows.image) now.shows.stands.shows.layout
      ≡ facts_by (left_state everyone (said old.list)) (shown a.dirty it.shows.image) it.shows.stands.shows.layout
  pub owners : (n : ℕ) → table_at (stands_of now.shows.stands.shows.layout) n
      ≡ table_at (stands_of it.shows.stands.shows.layout) n
  pub cells : (q : RecId) (x : Table) → table_at (stands_of it.shows.stands.shows.layout) q.page.0 ≡ Some x
      → cells_of (shown b.dirty now.shows.image) q ≡ cells_of (shown a.dirty it.shows.image) q
  pub pages : (n : ℕ) (x : Table) → table_at (stands_of it.shows.stands.shows.layout) n ≡ Some x
      → shown b.dirty now.shows.image n ≡ shown a.dirty it.shows.image n
  pub found : HasEntries (shown b.dirty now.shows.image) table p v stored

pub no_more : (xs : List Index) → xs ++ [] ≡ xs
no_more [] = refl
no_more (x ∷ xs) = ap (λ (rest : List Index). x ∷ rest) (no_more xs)

module _ (speakers : SpeakersAreTold) (befores : BeforesAreTold) (follow : MadeWritesFollow)
    (may_write : SeenMayBeWritten) (coded : StoredRowsAreCoded) (lists : ListsStay) (one : RowsAreOne packed_coding)
    (one_way : StandsOneWay packed_form) {D P : Type 0} (m : Meaning D) (places : Places P)
    (unask : UnaskingLasts packed_form D FireLinks m) (holds : HoldsOne D m)
    (stay : EntriesStay packed_form D FireLinks m) (old : Core D) (core : IsCore m old) (t : TxNo)
    (counts : said old.list t.0 ≡ Active) (work : Working) (work_is : work_of old.works t.0 ≡ Some work)
    (table : Table) (given : given_to old.works t.0 table.name ≡ Some table) (noted : HasNoted old.works t.0 table)
    (write : Write) (fits : FitsShape table.shape write)
    (waits : List (ℕ × ℕ)) (over : NowWaits (edges_in old.waits) (edges_in waits) t.0 None) (before : Before)
    (v : Version) (stored : IsStored table t.0 write v) (o : Opening) (h : Entries)
    (answered : answer o h (event_of t table.name write) ≡ Fine) (a : Pool D FireLinks)
    (it : StandsOver m old a o h t.0) (pool : IsPool m a) (up : a.offline ≡ None)
    (from_old : a.geometry ≡ old.store.geometry) where
  -- one entry more
  module _ (b c : Pool D FireLinks) (now : StandsOver m old b o h t.0) (pool_b : IsPool m b)
      (geometry : b.geometry ≡ old.store.geometry) (root : ℕ) (e : Entry) (has : HasRoot table.indexes root)
      (lays : LaysEntry m b c root e) where
    step : StaysEntered m o h (standing_of (record old { store = b }) now.over.stands.numbers now.over.stands.tables)
        old.list b c (shown b.dirty now.shows.image) now.shows.stands.shows.layout
        now.shows.stands.shows.reading now.shows.stands.shows.versions.speaker table.indexes (asked_in old.works) (sessions_in old.works) t.0 root e
    step = enters.entry_laid speakers befores follow may_write coded lists m places unask (record old { store = b })
        pool_b o h now.over.stands now.shows t counts work work_is table given write fits waits over before v
        stored answered noted holds (subst IsGeometry (sym geometry) core.geometry) c one one_way stay root e has lays

    step_told : m.tells c.disk ≡ true
    step_told = enters.entry_told speakers befores follow may_write coded lists m places unask
        (record old { store = b }) pool_b o h now.over.stands now.shows t counts work work_is table given write fits
        waits over before v stored answered noted holds (subst IsGeometry (sym geometry) core.geometry) c one
        one_way stay root e has lays

  -- the entries of these were laid, and then that of one more
  module _ (first later : List Index) (index : Index) (split : table.indexes ≡ first ++ (index ∷ later)) (p : RecId)
      (row : Row) (mid b : Pool D FireLinks) (rest : AllEntered m old a mid o h t.0 it first p row)
      (lays : LaysEntry m mid b index.root.0 (index_entry index p row)) where
    has_root : HasRoot table.indexes index.root.0
    has_root = subst (λ (xs : List Index). HasRoot xs index.root.0) (sym split) (root_in first index later)

    abbrev here : StaysEntered m o h (standing_of (record old { store = mid }) rest.now.over.stands.numbers
        rest.now.over.stands.tables) old.list mid b (shown mid.dirty rest.now.shows.image)
        rest.now.shows.stands.shows.layout rest.now.shows.stands.shows.reading
        rest.now.shows.stands.shows.versions.speaker table.indexes
        (asked_in old.works) (sessions_in old.works) t.0 index.root.0 (index_entry index p row)
    here = step mid b rest.now rest.pool (rest.geometry ∙ from_old) index.root.0 (index_entry index p row) has_root lays

    one_entered : AllEntered m old a b o h t.0 it (first ++ index ∷ []) p row
    one_entered = record {
      now = entry_over m old core mid b o h t.0 rest.now rest.pool (rest.geometry ∙ from_old) table.indexes index.root.0
          (index_entry index p row) here (step_told mid b rest.now rest.pool (rest.geometry ∙ from_old) index.root.0
          (index_entry index p row) has_root lays) lays.changed.online.1
          (lays.changed.geometry ∙ lays.keeps.geometry);
      pool = lays.changed.pool;
      up = lays.changed.online.1;
      geometry = lays.changed.geometry ∙ (lays.keeps.geometry ∙ rest.geometry);
      speaks = here.left.speaks ∙ rest.speaks;
      reads = here.left.reads ∙ rest.reads;
      facts = here.left.facts ∙ rest.facts;
      owners = λ n. here.left.owners n ∙ rest.owners n;
      cells = λ q x of. here.left.cells q x (rest.owners q.page.0 ∙ of) ∙ rest.cells q x of;
      pages = λ n x of. here.left.pages n x (rest.owners n ∙ of) ∙ rest.pages n x of;
      found = found_more (shown b.dirty here.image) first index p row
          (found_on (shown mid.dirty rest.now.shows.image) (shown b.dirty here.image) first (index ∷ later) p row
          (subst (λ (xs : List Index). KeepsRoots (shown mid.dirty rest.now.shows.image) (shown b.dirty here.image) xs)
          split here.left.roots) rest.found) here.left.has;
    }

  pub all_entered : (indexes later : List Index) → table.indexes ≡ indexes ++ later → (p : RecId) (row : Row)
      (b : Pool D FireLinks) → LaysAll m indexes p row a b → AllEntered m old a b o h t.0 it indexes p row
  all_entered indexes later parts p row b (no_index p_ row_ store) = record {
    now = it;
    pool = pool;
    up = up;
    geometry = refl;
    speaks = refl;
    reads = refl;
    facts = refl;
    owners = λ n. refl;
    cells = λ q x of. refl;
    pages = λ n x of. refl;
    found = tt;
  }
  all_entered indexes later parts p row b (one_more first index p_ row_ a_ mid b_ laid lays) = one_entered first later
      index (parts ∙ append_assoc first (index ∷ []) later) p row mid b
      (all_entered first (index ∷ later) (parts ∙ append_assoc first (index ∷ []) later) p row mid laid) lays

  pub row_entered : (rec : RecId) (b : Pool D FireLinks) → EntersRow m a b table rec write
      → RowEntered m old a b o h t.0 it table rec v (row_stored table write)
  row_entered rec b enters = at write refl enters
    where
      of_all : (row : Row) → AllEntered m old a b o h t.0 it table.indexes rec row
          → RowEntered m old a b o h t.0 it table rec v row
      of_all row all = record {
        now = all.now;
        pool = all.pool;
        up = all.up;
        geometry = all.geometry;
        speaks = all.speaks;
        reads = all.reads;
        facts = all.facts;
        owners = all.owners;
        cells = all.cells;
        pages = all.pages;
        found = λ live. all.found;
      }

      none_laid : (w : Write) → write ≡ w → erases w ≡ true
          → RowEntered m old a a o h t.0 it table rec v (row_stored table w)
      none_laid w is erased = record {
        now = it;
        pool = pool;
        up = up;
        geometry = refl;
        speaks = refl;
        reads = refl;
        facts = refl;
        owners = λ n. refl;
        cells = λ q x of. refl;
        pages = λ n x of. refl;
        found = λ live. absurd (false≢true (sym live ∙ (stored.deleted ∙ (ap erases is ∙ erased))));
      }

      at : (w : Write) → write ≡ w → EntersRow m a b table rec w
          → RowEntered m old a b o h t.0 it table rec v (row_stored table w)
      at (writes.Insert row) is laid = of_all row (all_entered table.indexes [] (sym (no_more table.indexes)) rec row b laid)
      at (writes.Change key row) is laid =
          of_all row (all_entered table.indexes [] (sym (no_more table.indexes)) rec row b laid)
      at (writes.Erase key) is same = subst (λ (s : Pool D FireLinks). RowEntered m old a s o h t.0 it table rec v
          (row_stored table (writes.Erase key))) (sym same) (none_laid (writes.Erase key) is refl)
