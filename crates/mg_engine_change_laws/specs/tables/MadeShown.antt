-- A batch with a new table was changed: the pages show the history with an entry for each of its rows, and the cache
-- lasts with it.
use Rattle.std.proofs.Common.{◌≡◌, ◌≢◌, ◌⊎◌, inl, inr, refl, sym, ap, ◌∙◌, subst, ◌^◌, ◌<◌, arith, ℕ, Bool, true, false, List, [], ◌∷◌, Option, Some, map}
use Rattle.std.specs.Prelude.{All}
use Rattle.std.proofs.lemmas.Bool.{ne_eqb}
use Rattle.mg_base.specs.Disk.{Meaning}
use Rattle.mg_base.specs.Image.{Image}
use Rattle.mg_base.specs.declared.numbers.RecId.{RecId}
use Rattle.mg_base.specs.declared.numbers.TxNo.{TxNo}
use Rattle.mg_base.specs.declared.transaction.TxState.{TxState}
use Rattle.mg_base.specs.declared.transaction.TxState.TheVariants.{Active}
use Rattle.mg_value.specs.Names.{IsName}
use Rattle.mg_value.specs.declared.shape.Column.{Column}
use Rattle.mg_value.specs.declared.shape.Shape.{Shape}
use Rattle.mg_value.specs.declared.value.Value.{Value}
use Rattle.mg_catalog.specs.ByKey.{HasKey, HaveOwnKeys}
use Rattle.mg_catalog.specs.RowsSaid.{column_rows, table_row}
use Rattle.mg_header.specs.HeaderPage.{header_in}
use Rattle.mg_model.specs.declared.opening.Opening.{Opening}
use Rattle.mg_model.specs.declared.table.Table.{Table}
use Rattle.mg_model.specs.Catalog.{catalog_name, catalog_shape, key_of as key_in_shape}
use Rattle.mg_model.specs.Changes.{Cells}
use Rattle.mg_model.specs.History.{Entries}
use Rattle.mg_model.specs.Laws.{OpeningsBegin}
use Rattle.mg_model.specs.Legal.{IsLegal, MayBegin}
use Rattle.mg_model.specs.Machine.{next_number, state_of}
use Rattle.mg_model.specs.Openings.{everyone}
use Rattle.mg_records.specs.Writing.{FitsPage, IsNewShape, rows_made}
use Rattle.mg_image.specs.Form.{Pages, Row, packed_coding, packed_form}
use Rattle.mg_image.specs.Inventory.{next_of}
use Rattle.mg_image.specs.ReadingLaws.{RowsAreOne}
use Rattle.mg_image.specs.RecordRules.{Facts, table_in}
use Rattle.mg_image.specs.Records.{Reading, key_of}
use Rattle.mg_image.specs.Sound.{IsSoundBy, facts_by}
use Rattle.mg_image.specs.Tables.{Layout, has}
use Rattle.mg_image_overlay_laws.specs.records.Fronts.{is_dead}
use Rattle.mg_image_overlay_laws.specs.kept.KeptImages.{IsKept}
use Rattle.mg_image_overlay_laws.specs.pages.Kinds.{HasNoSequences}
use Rattle.mg_lasting_laws.specs.Changing.{QuietHolds}
use Rattle.mg_lasting_laws.specs.CrashLaws.{asked_quiet}
use Rattle.mg_lasting_laws.specs.Crashes.{HoldsAcknowledged, LeavesSince, asked as asked_of}
use Rattle.mg_lasting_laws.specs.Lasting.{LastsOn}
use Rattle.mg_overlay_laws.specs.Overlays.{left_state, without}
use Rattle.mg_pool.specs.Batch.{Changed}
use Rattle.mg_pool.specs.Pool.{shown}
use Rattle.mg_pool.specs.declared.pool.Pool.{Pool}
use Rattle.mg_pool_overlay_laws.specs.Needs.{Asked, Sessions}
use Rattle.mg_space.specs.View.{viewed}
use Rattle.mg_space.specs.declared.links.FireLinks.{FireLinks}
use Rattle.mg_tie_laws.specs.Changed.{KeptIn, changed_fresh, fresh}
use Rattle.mg_image_overlay_laws.specs.tables.StandOwners.{OwnersKeepStandsApart}
use Rattle.mg_tie_laws.specs.CatalogRows.{IsRowOf}
use Rattle.mg_tie_laws.specs.Filled.{catalog_of}
use Rattle.mg_table_batch.specs.Filling.{FillsTable, rows_at, table_at}
use Rattle.mg_image_overlay_laws.specs.pages.DataKept.{KeepsBits}
use Rattle.mg_image_overlay_laws.specs.tables.OneLayout.{sound_once}
use Rattle.mg_tie_laws.specs.Made.{LeavesOthersEach, no_entry, one_more}
use Rattle.mg_tie_laws.specs.Ties.{HoldsOfRows, IsOneOf}
use Rattle.mg_engine_change_laws.specs.tables.Joined.{HasOwnPlace, HaveOwnPlaces, IsMade, layout_with, rows_stored}
use Rattle.mg_engine_change_laws.specs.tables.JoinedBatch.{AreItsRows, HasJoined, HasPages, MadeTableKeeps, ReadsBatch, joined_batch, reads_batch, told_made}
use Rattle.mg_engine_change_laws.specs.tables.JoinedNames.{of_catalog, of_other, was_of_catalog, was_other}
use Rattle.mg_engine_change_laws.specs.tables.JoinedSound.{joined_sound}
use Rattle.mg_engine_change_laws.specs.tables.NewTable.{RowsSayTable, SayTable, new_table_fits}
use Rattle.mg_engine_change_laws.specs.tables.Rows.{AreLawful, AreNewRows, AreSilent, AreUnwritten, IsApartFrom, IsNewRow, IsSilentKey, MadeRow, MayMake, RowsFollow, key_at, reading_with, row_entry, row_told, with_rows}
use Rattle.mg_engine_step_laws.specs.writes.BatchLaws.{row_lasts}
use Rattle.mg_engine_step_laws.specs.writes.Batches.{BatchesLast}
use Rattle.mg_engine_step_laws.specs.writes.GoesOnLaws.{pool_is_kept}
use Rattle.mg_engine_step_laws.specs.commits.ListShows.{BehindKeepsTips}
use Rattle.mg_engine_step_laws.specs.writes.Reads.{behind_bits}
use Rattle.mg_engine_step_laws.specs.standing.Standing.{ShowsHistory, Standing, Stands}
use Rattle.mg_engine_step_laws.specs.standing.Versions.{HaveVersions}
use Rattle.mg_engine_step_laws.specs.writes.Writes.{IsSilentAt}
use Rattle.mg_engine_step_laws.specs.writes.Caches.{kept_now, pool_now, row_changed}
use Rattle.mg_engine_step_laws.specs.writes.Knowing.{WasChanged}
use Rattle.mg_engine_meaning_laws.specs.PlainTables.{HasPlainTables}
use Rattle.mg_engine_change_laws.specs.tables.BatchLeaves.{batch_leaves}
use Rattle.mg_engine_change_laws.specs.tables.MadePages.{MadePages}
use Rattle.mg_engine_change_laws.specs.tables.PlainMade.{all_first, plain_made}
use Rattle.mg_engine_change_laws.specs.tables.RowsKnown.{none_free, rows_may}
use Rattle.mg_engine_change_laws.specs.tables.StandMade.{stand_at}
use Rattle.mg_engine_change_laws.specs.tables.StandMadeLaws.{left_pages_are_there}
use Rattle.mg_engine_change_laws.specs.tables.WalksMade.{walks_made}

no_sequence : HasNoSequences packed_form
no_sequence page n is = is

-- ---- the history with the rows

rows_states : (o : Opening) (t : TxNo) (rows : List Cells) (h : Entries) (u : ℕ)
    → state_of o (with_rows t rows h) u ≡ state_of o h u
rows_states o t [] h u = refl
rows_states o t (row ∷ rows) h u = rows_states o t rows (row_entry t row ∷ h) u

rows_next : (o : Opening) (t : TxNo) (rows : List Cells) (h : Entries)
    → next_number o (with_rows t rows h) ≡ next_number o h
rows_next o t [] h = refl
rows_next o t (row ∷ rows) h = rows_next o t rows (row_entry t row ∷ h)

rows_asked : (t : TxNo) (rows : List Cells) (h : Entries) → asked_of h ≡ h
    → asked_of (with_rows t rows h) ≡ with_rows t rows h
rows_asked t [] h none = none
rows_asked t (row ∷ rows) h none = rows_asked t rows (row_entry t row ∷ h)
    (asked_quiet h (row_entry t row) refl ∙ ap (λ (x : Entries). row_entry t row ∷ x) none)

rows_held : QuietHolds packed_form → (size : ℕ) (o : Opening) (t : TxNo) (rows : List Cells) (h : Entries) (c : Image)
    → HoldsAcknowledged packed_form size o h c → HoldsAcknowledged packed_form size o (with_rows t rows h) c
rows_held quiet size o t [] h c holds = holds
rows_held quiet size o t (row ∷ rows) h c holds = rows_held quiet size o t rows (row_entry t row ∷ h) c
    (quiet size o h (row_entry t row) c refl refl holds)

pub rows_legal : (o : Opening) (t : TxNo) (rows : List Cells) (h : Entries) → IsLegal o h → AreLawful o t rows h
    → IsLegal o (with_rows t rows h)
rows_legal o t [] h legal lawful = legal
rows_legal o t (row ∷ rows) h legal lawful = rows_legal o t rows (row_entry t row ∷ h) (lawful.0, legal) lawful.1

rows_leave : (o : Opening) (t : TxNo) (h : Entries) (rows : List Cells) (later : Entries)
    → LeavesOthersEach o t.0 h later → LeavesOthersEach o t.0 h (with_rows t rows later)
rows_leave o t h [] later each = each
rows_leave o t h (row ∷ rows) later each = rows_leave o t h rows (row_entry t row ∷ later)
    (one_more h later (row_entry t row) each (record {
      rows = λ name key. refl;
      others = λ u ne. rw (ne_eqb t.0 u (λ same. ne (sym same))) refl;
    }))

-- ---- each of the rows is new

has_made : (rows : List MadeRow) (row : MadeRow) → HasKey (rows_stored rows) (key_at row)
    → (other : MadeRow) × IsMade rows other × (key_at other ≡ key_at row)
has_made [] row is = absurd is
has_made (first ∷ rows) row (inl same) = (first, inl refl, same)
has_made (first ∷ rows) row (inr more) = let (other, is, same) = has_made rows row more in (other, inr is, same)

key_among : (rows : List MadeRow) (other : MadeRow) (key : Value) → IsMade rows other → key_at other ≡ key
    → HasKey (rows_stored rows) key
key_among [] other key is same = absurd is
key_among (first ∷ rows) other key (inl here_) same = inl (ap key_at here_ ∙ same)
key_among (first ∷ rows) other key (inr more) same = inr (key_among rows other key more same)

apart_from : (row : MadeRow) (rows : List MadeRow) → HasOwnPlace row rows → ((other : MadeRow) → IsMade rows other
    → key_at other ≢ key_at row) → IsApartFrom row rows
apart_from row [] own_ keys = tt
apart_from row (other ∷ rows) own_ keys =
    (own_.0, keys other (inl refl), apart_from row rows own_.1 (λ x is. keys x (inr is)))

module _ (g : Facts) (r : Reading) (t pointer : ℕ) where
  new_rows : (rows : List MadeRow) → HaveOwnPlaces rows → HaveOwnKeys (rows_stored rows)
      → ((row : MadeRow) → IsMade rows row → IsNewRow g r t pointer row) → AreNewRows g r t pointer rows
  new_rows [] own_ keys each = tt
  new_rows (row ∷ rows) own_ keys each = (
    each row (inl refl),
    apart_from row rows own_.0 (λ other is same. keys.0 (key_among rows other (key_at row) is same)),
    new_rows rows own_.1 keys.1 (λ x is. each x (inr is)),
  )

silent_rows : (o : Opening) (h : Entries) (f : Facts) (r : Reading) (speaker : List ℕ → Value → Option RecId)
    (rows : List MadeRow) → ((row : MadeRow) → IsMade rows row → IsSilentKey o h f r speaker (key_at row))
    → AreSilent o h f r speaker rows
silent_rows o h f r speaker [] each = tt
silent_rows o h f r speaker (row ∷ rows) each =
    (each row (inl refl), silent_rows o h f r speaker rows (λ x is. each x (inr is)))

made_one : (made : List MadeRow) (row : MadeRow) → IsMade made row → IsOneOf (rows_stored made) row.first.row
made_one [] row is = is
made_one (first ∷ made) row (inl same) = inl (ap (λ (x : MadeRow). x.first.row) (sym same))
made_one (first ∷ made) row (inr more) = inr (made_one made row more)

-- rows that are there follow
follow_some : RowsFollow → (o : Opening) (h : Entries) (f g : Facts) (r : Reading) (t : TxNo) (pointer : ℕ)
    (rows : List MadeRow) (own_ : Cells) (more : List Cells) → rows_stored rows ≡ own_ ∷ more
    → (have : HaveVersions o h f r) → MayBegin o → IsLegal o h → MayMake o h t
    → ((u : ℕ) → g.state u ≡ f.state u) → is_dead (f.state t.0) ≡ false
    → ((q : RecId) → r q ≢ [] → table_in g q ≡ table_in f q)
    → AreNewRows g r t.0 pointer rows → AreSilent o h f r have.speaker rows
    → AreUnwritten o t rows h × AreLawful o t (map row_told rows) h
    × HaveVersions o (with_rows t (map row_told rows) h) g (reading_with rows r)
follow_some follow o h f g r t pointer [] own_ more stored have begin legal may states dead tables rows silent =
    absurd cc
follow_some follow o h f g r t pointer (row ∷ rows) own_ more stored have begin legal may states dead tables new silent =
    follow o h f g r t pointer row rows have begin legal may states dead tables new silent

-- ---- the pages

module _ (one : RowsAreOne packed_coding) (begins : OpeningsBegin) (behind_keeps : BehindKeepsTips)
    (apart_law : OwnersKeepStandsApart packed_form) (say : RowsSayTable) (follow : RowsFollow) {D : Type 0} (m : Meaning D)
    (keep : MadeTableKeeps packed_form D FireLinks m) (last : BatchesLast D FireLinks m packed_form)
    (quiet : QuietHolds packed_form) (o : Opening) (h : Entries) (s : Standing) (before after : Pool D FireLinks)
    (i j : Image) (batch : Changed) (asked : Asked) (session : Sessions)
    (stands : Stands packed_form before.geometry.size o h s (Some (shown before.dirty i))) (t : TxNo)
    (lasts : LastsOn m packed_form o h before asked session) (was : WasChanged m before after i j batch)
    (active : s.state t.0 ≡ Active) (not_asked : asked t.0 ≡ false) (may_make : MayMake o h t)
    (plain : HasPlainTables before.geometry.size s.state (shown before.dirty i)) (name : List ℕ) (shape : Shape)
    (named : IsName name) (other : name ≢ catalog_name) (new : IsNewShape shape)
    (columns : All (λ (c : Column). IsName c.name) shape.columns) (fits : FitsPage before.geometry.size shape)
    (fills : FillsTable before i (catalog_of (shown before.dirty i)) t.0 name shape fresh batch)
    (silent : (row : Row) → IsOneOf (rows_at name shape 0) row → IsSilentAt packed_form before.geometry.size o h s
    (shown before.dirty i) stands.shows catalog_name (key_in_shape catalog_shape row)) where
  abbrev size : ℕ
  size = before.geometry.size

  abbrev pool : Pages
  pool = shown before.dirty i

  abbrev shows : ShowsHistory packed_form before.geometry.size o h s (shown before.dirty i)
  shows = stands.shows

  abbrev state : ℕ → TxState
  state = left_state everyone s.state

  abbrev pub made_entries : Entries
  made_entries = with_rows t (rows_made name shape) h

  every : KeptIn packed_form before.geometry.size o h s.state asked session before i
  every = kept_now m packed_form o h s before after i j batch asked session stands.memory was lasts

  -- ---- its rows

  -- each key is silent, whatever the table's first page
  silent_row : (row : Row) → IsOneOf (rows_at name shape fills.page) row → IsSilentAt packed_form before.geometry.size o
      h s (shown before.dirty i) stands.shows catalog_name (key_in_shape catalog_shape row)
  silent_row row (inl same) = subst (λ (r : Row). IsSilentAt packed_form before.geometry.size o h s
      (shown before.dirty i) stands.shows catalog_name (key_in_shape catalog_shape r)) (sym same)
      (silent (table_row (table_at name shape 0)) (inl refl))
  silent_row row (inr more) = silent row (inr more)

  key_is : (row : Row) → key_of (catalog_of (shown before.dirty i)) row ≡ key_in_shape catalog_shape row
  key_is [] = refl
  key_is (x ∷ xs) = refl

  cat_named : stands.shows.layout.catalog.table.name ≡ catalog_name
  cat_named = ap (λ (x : Table). x.name) stands.shows.sound.catalog

  page_small : fills.page < 2 ^ 32
  page_small = let a = fills.takes.takes.free.below in omega (arith, a)

  may : HoldsOfRows before.geometry.size (catalog_of (shown before.dirty i)) t.0 (rows_at name shape fills.page)
      (IsRowOf packed_form before.geometry.size t.0 s.state (shown before.dirty i))
  may = rows_may one begins before.geometry.size o h s (shown before.dirty i) stands t active name shape fills.page new
      page_small

  says : SayTable name shape fills.page
  says = say name shape fills.page named other new columns page_small

  its : AreItsRows packed_form before.geometry.size s.state (shown before.dirty i) (rows_at name shape fills.page)
      (table_at name shape fills.page)
  its = record {
    keys = says.keys;
    alone = says.tables;
    fits = new_table_fits before.geometry.size name shape fills.page fits;
    free = λ chosen layout r sound row is p of keyed. none_free one begins before.geometry.size o h s
        (shown before.dirty i) stands t active (key_in_shape catalog_shape row)
        (subst (λ (n : List ℕ). IsSilentAt packed_form before.geometry.size o h s (shown before.dirty i) stands.shows n
        (key_in_shape catalog_shape row)) (sym cat_named) (silent_row row is)) chosen layout r sound p of
        (keyed ∙ (ap (λ (x : Table). key_of x row) sound.catalog ∙ key_is row));
  }

  -- ---- the batch

  read_batch : (chosen : ℕ → Bool) → chosen t.0 ≡ true → ReadsBatch packed_form before.geometry.size
      (left_state (without t.0 chosen) s.state) (shown before.dirty i) (viewed before i batch)
  read_batch chosen on = reads_batch packed_form one no_sequence m before after i j batch asked session o h t s.state name
      shape (stand_at name shape fills.page) was.changes fills active may its every chosen on

  there : (chosen : ℕ → Bool) → chosen t.0 ≡ true → (a c : Layout) (r rc : Reading)
      → IsSoundBy packed_form before.geometry.size (left_state chosen s.state) (shown before.dirty i) a r
      → IsSoundBy packed_form before.geometry.size (left_state (without t.0 chosen) s.state) (viewed before i batch) c rc
      → HasPages packed_form before.geometry.size (shown before.dirty i) (viewed before i batch) a c
      (stand_at name shape fills.page)
  there chosen on a c r rc sound after_ = left_pages_are_there packed_form no_sequence apart_law before.geometry.size
      (left_state chosen s.state) (left_state (without t.0 chosen) s.state) (shown before.dirty i) (viewed before i batch)
      a c r rc name shape fills.page sound after_
      (batch_leaves packed_form one no_sequence behind_keeps m before after i j batch asked session o h t s.state name
      shape was.changes fills active may every (left_state chosen s.state) (left_state (without t.0 chosen) s.state) a r
      sound (read_batch chosen on))

  kept : KeptIn packed_form before.geometry.size o (with_rows t (rows_made name shape) h) s.state asked session after j
  kept = keep before after i j batch asked session o h t s.state name shape (stand_at name shape fills.page) was.changes
      fills active not_asked may its (rows_leave o t h (rows_made name shape) h (no_entry h)) there every

  -- ---- under each choice

  pub kept_at : (chosen : ℕ → Bool) → IsKept packed_form before.geometry.size o h (left_state chosen s.state)
      (shown before.dirty i) (shown before.dirty i)
  kept_at chosen = pool_is_kept packed_form D FireLinks before.geometry.size o h s.state asked session before i chosen
      every

  pub joined_at : (chosen : ℕ → Bool) → chosen t.0 ≡ true
      → (its_kept : IsKept packed_form before.geometry.size o h (left_state chosen s.state) (shown before.dirty i)
      (shown before.dirty i))
      → HasJoined packed_form before.geometry.size (left_state (without t.0 chosen) s.state)
      (left_state chosen s.state) t.0 (shown before.dirty i) (shown after.dirty j) (rows_at name shape fills.page)
      (stand_at name shape fills.page) its_kept.layout its_kept.reading
  joined_at chosen on its_kept = subst (λ (pages : Pages). HasJoined packed_form size
      (left_state (without t.0 chosen) s.state) (left_state chosen s.state) t.0 pool pages (rows_at name shape fills.page)
      (stand_at name shape fills.page) its_kept.layout its_kept.reading)
      (sym (changed_fresh m before after i j batch asked session was.changes).pool)
      (joined_batch packed_form one no_sequence m before after i j batch asked session o h t s.state name shape
      (stand_at name shape fills.page) was.changes fills active may its every chosen on (there chosen on) its_kept)

  -- ---- where all active ones count

  now_ : IsKept packed_form before.geometry.size o h (left_state everyone s.state) (shown before.dirty i)
      (shown before.dirty i)
  now_ = pool_now m packed_form o h s before after i j batch asked session stands.memory was lasts

  same : (now_.layout ≡ stands.shows.layout) × (now_.reading ≡ stands.shows.reading)
  same = sound_once packed_form one no_sequence before.geometry.size (left_state everyone s.state)
      (shown before.dirty i) now_.layout stands.shows.layout now_.reading stands.shows.reading now_.sound
      stands.shows.sound

  pub joined : HasJoined packed_form before.geometry.size (left_state (without t.0 everyone) s.state)
      (left_state everyone s.state) t.0 (shown before.dirty i) (shown after.dirty j) (rows_at name shape fills.page)
      (stand_at name shape fills.page) stands.shows.layout stands.shows.reading
  joined = subst (λ (r : Reading). HasJoined packed_form size (left_state (without t.0 everyone) s.state) state t.0 pool
      (shown after.dirty j) (rows_at name shape fills.page) (stand_at name shape fills.page) stands.shows.layout r)
      same.1 (subst (λ (a : Layout). HasJoined packed_form size (left_state (without t.0 everyone) s.state) state t.0 pool
      (shown after.dirty j) (rows_at name shape fills.page) (stand_at name shape fills.page) a now_.reading) same.0
      (joined_at everyone refl now_))

  abbrev pub layout_now : Layout
  layout_now = layout_with stands.shows.layout joined.batch.layout (stand_at name shape fills.page)

  abbrev pub reading_now : Reading
  reading_now = reading_with joined.made stands.shows.reading

  pub sound_now : IsSoundBy packed_form before.geometry.size (left_state everyone s.state) (shown after.dirty j)
      (layout_with stands.shows.layout joined.batch.layout (stand_at name shape fills.page))
      (reading_with joined.made stands.shows.reading)
  sound_now = joined_sound packed_form before.geometry.size (left_state (without t.0 everyone) s.state)
      (left_state everyone s.state) t.0 (shown before.dirty i) (shown after.dirty j) stands.shows.layout
      joined.batch.layout stands.shows.reading joined.batch.reading joined.made (stand_at name shape fills.page)
      joined.raises stands.shows.sound joined.batch.sound joined.joins

  pub next_same : next_of (shown after.dirty j) ≡ next_of (shown before.dirty i)
  next_same = ap (λ (bytes : List ℕ). (header_in bytes).next.0) joined.batch.header

  bits : KeepsBits before.geometry.size (shown before.dirty i) (shown after.dirty j)
  bits = behind_bits before.geometry.size (shown after.dirty j) (shown before.dirty i) joined.batch.layout
      joined.batch.was joined.batch.behind next_same

  pub told : map row_told joined.made ≡ rows_made name shape
  told = told_made name shape fills.page joined.made joined.stored

  -- ---- the cache

  pub cache : LastsOn m packed_form o (with_rows t (rows_made name shape) h) after asked session
      × LeavesSince m before.disk after.disk (HoldsAcknowledged packed_form before.dirty.size o h)
  cache = row_lasts D FireLinks m packed_form last o h made_entries before after i j batch asked session
      (begins o stands.opening) stands.legal lasts
      (row_changed m packed_form o h s before after i j batch asked session stands.memory was lasts made_entries bits kept)
      (λ u. rows_states o t (rows_made name shape) h u) (rows_next o t (rows_made name shape) h)
      (rows_asked t (rows_made name shape) h lasts.settled)
      (λ c holds. rows_held quiet before.dirty.size o t (rows_made name shape) h c holds)

  -- ---- the records

  abbrev f : Facts
  f = facts_by (left_state everyone s.state) (shown before.dirty i) stands.shows.layout

  abbrev g : Facts
  g = facts_by (left_state everyone s.state) (shown after.dirty j) layout_now

  -- a record with versions is of the table that it was of
  tables_stay : (q : RecId) → stands.shows.reading q ≢ [] → table_in g q ≡ table_in f q
  tables_stay q some = at (has joined.batch.layout.catalog.data_pages q.page.0) refl
    where
      at : (b : Bool) → has joined.batch.layout.catalog.data_pages q.page.0 ≡ b → table_in g q ≡ table_in f q
      at true on = by (joined.joins.fresh q on)
        where
          by : (has stands.shows.layout.catalog.data_pages q.page.0 ≡ true) ⊎ (stands.shows.reading q ≡ [])
              → table_in g q ≡ table_in f q
          by (inr none) = absurd (some none)
          by (inl before_) = of_catalog packed_form size (left_state (without t.0 everyone) s.state) state t.0 pool
              (shown after.dirty j) stands.shows.layout joined.batch.layout stands.shows.reading joined.batch.reading
              joined.made (stand_at name shape fills.page) joined.raises stands.shows.sound joined.batch.sound
              joined.joins q.page.0 on
              ∙ sym (was_of_catalog packed_form size (left_state (without t.0 everyone) s.state) state t.0 pool
              (shown after.dirty j) stands.shows.layout joined.batch.layout stands.shows.reading joined.batch.reading
              joined.made (stand_at name shape fills.page) joined.raises stands.shows.sound joined.batch.sound
              joined.joins q.page.0 before_)
      at false off = of_other packed_form size (left_state (without t.0 everyone) s.state) state t.0 pool
          (shown after.dirty j) stands.shows.layout joined.batch.layout stands.shows.reading joined.batch.reading
          joined.made (stand_at name shape fills.page) joined.raises stands.shows.sound joined.batch.sound
          joined.joins q.page.0 off
          ∙ sym (was_other packed_form size (left_state (without t.0 everyone) s.state) state t.0 pool
          (shown after.dirty j) stands.shows.layout joined.batch.layout stands.shows.reading joined.batch.reading
          joined.made (stand_at name shape fills.page) joined.raises stands.shows.sound joined.batch.sound
          joined.joins q.page.0 off)

  -- the catalog's first page
  abbrev pub first_page : ℕ
  first_page = (catalog_of (shown before.dirty i)).pointer.0

  is_new : (row : MadeRow) → IsMade joined.made row
      → IsNewRow g stands.shows.reading t.0 (catalog_of (shown before.dirty i)).pointer.0 row
  is_new row is = record {
    of_table = of_catalog packed_form size (left_state (without t.0 everyone) s.state) state t.0 pool
        (shown after.dirty j) stands.shows.layout joined.batch.layout stands.shows.reading joined.batch.reading
        joined.made (stand_at name shape fills.page) joined.raises stands.shows.sound joined.batch.sound
        joined.joins row.at.page.0 (joined.joins.rows row is).placed
        ∙ ap (λ (x : Table). Some x) stands.shows.sound.catalog;
    empty = (joined.joins.rows row is).empty;
    its = (joined.joins.rows row is).its;
    stays = (joined.joins.rows row is).stays;
  }

  silent_made : (row : MadeRow) → IsMade joined.made row
      → IsSilentKey o h f stands.shows.reading stands.shows.versions.speaker (key_at row)
  silent_made row is = silent_row row.first.row (subst (λ (rs : List Row). IsOneOf rs row.first.row) joined.stored
      (made_one joined.made row is))

  followed : AreUnwritten o t joined.made h × AreLawful o t (map row_told joined.made) h
      × HaveVersions o (with_rows t (map row_told joined.made) h) g (reading_with joined.made stands.shows.reading)
  followed = follow_some follow o h f g stands.shows.reading t (catalog_of (shown before.dirty i)).pointer.0 joined.made
      (table_row (table_at name shape fills.page)) (column_rows name shape.key 0 shape.columns) joined.stored
      stands.shows.versions (begins o stands.opening) stands.legal may_make (λ u. refl) (rw active refl) tables_stay
      (new_rows g stands.shows.reading t.0 (catalog_of (shown before.dirty i)).pointer.0 joined.made
      joined.joins.places joined.joins.keys is_new)
      (silent_rows o h f stands.shows.reading stands.shows.versions.speaker joined.made silent_made)

  pub unwritten : AreUnwritten o t joined.made h
  unwritten = followed.0

  pub lawful_made : AreLawful o t (map row_told joined.made) h
  lawful_made = followed.1

  pub lawful : AreLawful o t (rows_made name shape) h
  lawful = subst (λ (rows : List Cells). AreLawful o t rows h) told followed.1

  pub versions_now : HaveVersions o (with_rows t (rows_made name shape) h)
      (facts_by (left_state everyone s.state) (shown after.dirty j) (layout_with stands.shows.layout joined.batch.layout
      (stand_at name shape fills.page))) (reading_with joined.made stands.shows.reading)
  versions_now = subst (λ (rows : List Cells). HaveVersions o (with_rows t rows h) g
      (reading_with joined.made stands.shows.reading)) told followed.2

  -- ---- the whole

  pub made_pages : MadePages m o h s before after i j asked session stands t name shape fills.page
  made_pages = record {
    joined = joined;
    sound = sound_now;
    next = next_same;
    tips = behind_keeps before.geometry.size (shown before.dirty i) (shown after.dirty j) joined.batch.was
        joined.batch.layout joined.batch.behind next_same;
    lasts = cache.0;
    leaves = cache.1;
    told = told;
    unwritten = unwritten;
    lawful = lawful;
    versions = versions_now;
    plain = plain_made one before.geometry.size o h s.state t.0 (shown before.dirty i) (shown after.dirty j)
        (rows_at name shape fills.page) name shape fills.page (all_first shape.columns new.first) kept_at
        (λ chosen on. joined_at chosen on (kept_at chosen)) plain;
    walks = walks_made one before.geometry.size s (left_state (without t.0 everyone) s.state) t.0 (shown before.dirty i)
        (shown after.dirty j) (rows_at name shape fills.page) (stand_at name shape fills.page) stands.shows.layout
        stands.shows.reading joined stands.shows.sound sound_now active;
  }
