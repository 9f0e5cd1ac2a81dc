-- A first version by version chains keeps every overlay.
use Rattle.mg_base.specs.Disk.{Meaning}
use Rattle.mg_base.specs.Image.{Image}
use Rattle.mg_base.specs.declared.numbers.RecId.{RecId}
use Rattle.mg_base.specs.declared.transaction.TxState.{TxState}
use Rattle.mg_base.specs.declared.transaction.TxState.TheVariants.{Active, Dead}
use Rattle.mg_careful.specs.Precedence.{Orders}
use Rattle.mg_chain.specs.Writing.{MakesRecord, leading_to, link_to}
use Rattle.mg_tie_laws.specs.FirstPages.{MakesPages, left_within, made_pages}
use Rattle.mg_tie_laws.specs.PushTies.{written}
use Rattle.mg_tie_laws.specs.Rows.{ForEach, table_of_page}
use Rattle.mg_image_overlay_laws.specs.tables.Growing.{IsTableOf, MayBeWritten}
use Rattle.mg_heap.specs.Apart.{need_with_anchor}
use Rattle.mg_tie_laws.specs.Batches.{within_self}
use Rattle.mg_tie_laws.specs.OutTies.{given_beyond, last_beyond}
use Rattle.mg_tie_laws.specs.RoomTies.{end_of, ends_there}
use Rattle.mg_image.specs.Form.{Form, Pages, Row}
use Rattle.mg_image.specs.ReadingLaws.{RowsAreOne}
use Rattle.mg_image.specs.Records.{Reading, cells_of, key_of}
use Rattle.mg_image.specs.Sound.{IsSoundBy, facts_by}
use Rattle.mg_image.specs.Tables.{Has, Layout, stands_of, table_at}
use Rattle.mg_image.specs.declared.entry.Entry.{Entry}
use Rattle.mg_image_overlay_laws.specs.pages.Kinds.{HasNoSequences}
use Rattle.mg_image_overlay_laws.specs.transactions.CommitLaws.{LeavesOthers}
use Rattle.mg_image_overlay_laws.specs.kept.KeptImages.{IsKept, keeping}
use Rattle.mg_model.specs.History.{Entries}
use Rattle.mg_model.specs.declared.opening.Opening.{Opening}
use Rattle.mg_model.specs.declared.table.Table.{Table}
use Rattle.mg_overlay_laws.specs.BatchLaws.{good_of_pool}
use Rattle.mg_overlay_laws.specs.Overlays.{left_state}
use Rattle.mg_image_overlay_laws.specs.tables.FirstFor.{AddThere, add_for_every}
use Rattle.mg_image_overlay_laws.specs.names.NotThere.{HasNoneOf, IsNotThere}
use Rattle.mg_image_overlay_laws.specs.names.Whose.{IsTableFor, alone, alone_is, maker_has, page_beyond}
use Rattle.mg_pool.specs.Batch.{Changed, content_in, lists}
use Rattle.mg_pool.specs.Pool.{shown}
use Rattle.mg_pool.specs.declared.pool.Pool.{Pool}
use Rattle.mg_pool_overlay_laws.specs.Needs.{Asked, Sessions}
use Rattle.mg_image_overlay_laws.specs.records.AddPart.{AddsPages}
use Rattle.mg_image_overlay_laws.specs.records.OwnWrites.{WritesRow}
use Rattle.mg_space.specs.View.{viewed}
use Rattle.mg_tie_laws.specs.Changed.{BatchIsChanged, ChangesFresh, KeptIn, cache_over, changed_fresh, fresh, needs_all, needs_in}
use Rattle.mg_version.specs.declared.cell.Version.{Version}
use Rattle.std.proofs.Common.{Bool, List, None, Option, Some, [], ap, false, inl, inr, length, subst, sym, true, ℕ, ◌-◌, ◌∙◌, ◌∷◌, ◌≡◌, ◌⊎◌}
use Rattle.std.specs.Prelude.{slice_index}
use Rattle.mg_model.specs.History.{Entry as Event}

-- a first version of an active transaction that has not asked for its commit, at a free slot of a page of a
-- table that is there or its own, changed by the cache in a batch of its own: every overlay is kept, for the
-- history with that write
abbrev pub FirstRowKeepsFor : Form → (D L : Type 0) → Meaning D → Type 0
FirstRowKeepsFor form D L m = (before after : Pool D L) (i j : Image) (batch : Changed) (asked : Asked)
    (session : Sessions) (o : Opening) (h : Entries) (event : Event) (by : ℕ) (state : ℕ → TxState)
    (rec : RecId) (v : Version) (row : Row) (table : Table)
    → ChangesFresh m before after i j batch
    → (makes : MakesRecord before i fresh batch table.pointer.0 rec v)
    → state by ≡ Active → v.tx.0 ≡ by → asked by ≡ false
    -- whose table it is; where it stands the place is its, and the version may be written
    → IsTableFor form before.geometry.size by state (shown before.dirty i) table
    → ForEach form before.geometry.size state (shown before.dirty i)
    (λ s layout r. IsTableOf layout table → table_at (stands_of layout) rec.page.0 ≡ Some table)
    → cells_of (shown before.dirty i) rec ≡ None
    → ForEach form before.geometry.size state (shown before.dirty i) (λ s layout r. IsTableOf layout table
    → MayBeWritten form.coding (facts_by s (shown before.dirty i) layout) table (key_of table row)
    (written makes.makes.at v None row))
    -- the history, and the statement
    → LeavesOthers o h event by
    → ((chosen : ℕ → Bool) → chosen by ≡ true → (kept : IsKept form before.geometry.size o h
    (left_state chosen state) (shown before.dirty i) (shown before.dirty i))
    → WritesRow form before.geometry.size o h event (left_state chosen state) (shown before.dirty i)
    (shown before.dirty i) rec table (written makes.makes.at v None row) kept)
    → KeptIn form before.geometry.size o h state asked session before i
    → KeptIn form before.geometry.size o (event ∷ h) state asked session after j

module _ (form : Form) (one : RowsAreOne form.coding) (none : HasNoSequences form) {D L : Type 0}
    (m : Meaning D) (before after : Pool D L) (i j : Image) (batch : Changed) (asked : Asked)
    (session : Sessions) (o : Opening) (h : Entries) (by : ℕ) (state : ℕ → TxState) (rec : RecId)
    (v : Version) (row : Row) (table : Table) (changes : ChangesFresh m before after i j batch)
    (makes : MakesRecord before i fresh batch table.pointer.0 rec v) (active : state by ≡ Active)
    (whose : IsTableFor form before.geometry.size by state (shown before.dirty i) table)
    (placed : ForEach form before.geometry.size state (shown before.dirty i)
    (λ s layout r. IsTableOf layout table → table_at (stands_of layout) rec.page.0 ≡ Some table))
    (blank : cells_of (shown before.dirty i) rec ≡ None)
    (may : ForEach form before.geometry.size state (shown before.dirty i) (λ s layout r. IsTableOf layout table
    → MayBeWritten form.coding (facts_by s (shown before.dirty i) layout) table (key_of table row)
    (written makes.makes.at v None row)))
    (every : KeptIn form before.geometry.size o h state asked session before i) where
  abbrev size : ℕ
  size = before.geometry.size

  abbrev pool : Pages
  pool = shown before.dirty i

  abbrev contents : ℕ → Option (List ℕ)
  contents = content_in batch.pages

  abbrev orders : Orders
  orders = lists batch.orders

  abbrev n : Entry
  n = written makes.makes.at v None row

  pub it : BatchIsChanged before after i j batch asked session
  it = changed_fresh m before after i j batch asked session changes

  -- the image in which the writer counts as in limbo has the table
  start : IsKept form size o h (left_state (alone by) state) pool pool
  start = good_of_pool (keeping form size o h) state (cache_over before i) (needs_in asked session before)
      it.changes.was_clean (λ t p needs. (it.left t p needs).0) every (alone by)

  its : IsTableOf start.layout table
  its = maker_has form size by state pool table active whose (alone by) (alone_is by) start.layout
      start.reading start.sound

  of : table_at (stands_of start.layout) rec.page.0 ≡ Some table
  of = placed (alone by) start.layout start.reading start.sound its

  pub pages : MakesPages form before i fresh batch rec v table contents orders makes
  pages = made_pages form one none before i changes.geometry fresh batch (left_state (alone by) state)
      start.layout start.reading start.sound rec v table of blank makes contents orders
      (within_self batch)

  left : (q : ℕ) → contents q ≡ None → viewed before i makes.makes.put q ≡ (cache_over after j).pool q
  left q none_ = left_within before i contents orders makes.makes.put pages.put_within q none_
      ∙ sym (ap (λ (last : Pages). last q) it.pool
      ∙ left_within before i contents orders batch (within_self batch) q none_)

  at : (chosen : ℕ → Bool) (layout : Layout) (r : Reading)
      → IsSoundBy form size (left_state chosen state) pool layout r
      → IsTableOf layout table ⊎ IsNotThere by (left_state chosen state) pool layout table
      → AddThere form pool table
      (end_of makes.makes.adds.gives.pointers makes.makes.adds.gives.data_pages) n
      (left_state chosen state) layout r
      ⊎ ((left_state chosen state by ≡ Dead)
      × HasNoneOf layout (slice_index makes.makes.adds.gives.pointers
      (length makes.makes.adds.gives.pointers - 1)) (n.at.page.0 ∷ rec.page.0 ∷ []))
  at chosen layout r sound (inl there) = inl (
    ends_there form size (left_state chosen state) pool layout r sound table there
        makes.makes.adds.gives.pointers makes.makes.adds.gives.data_pages makes.makes.adds.gives.table,
    may chosen layout r sound there,
  )
  at chosen layout r sound (inr unmade) = inr (
    unmade.dead,
    record {
      pointer = last_beyond form none before i fresh makes.makes.adds.given table
          (need_with_anchor makes.bytes) makes.makes.at.page changes.geometry makes.makes.adds.gives
          (left_state (alone by) state) start.layout start.reading start.sound its
          (left_state chosen state) layout r sound unmade.out;
      data_pages = λ k is. none_of k is;
    },
  )
    where
      none_of : (k : ℕ) → Has (n.at.page.0 ∷ rec.page.0 ∷ []) k → table_at (stands_of layout) k ≡ None
      none_of k (inl e) = ap (table_at (stands_of layout)) e ∙ given_beyond form none before i fresh
          makes.makes.adds.given table (need_with_anchor makes.bytes) makes.makes.at.page changes.geometry
          makes.makes.adds.gives (left_state (alone by) state) start.layout start.reading start.sound its
          (left_state chosen state) layout r sound unmade.out
      none_of k (inr (inl e)) = ap (table_at (stands_of layout)) e ∙ page_beyond form size
          (left_state (alone by) state) pool start.layout start.reading start.sound table its layout
          unmade.out rec.page.0 of
      none_of k (inr (inr none_)) = absurd none_

  pub first_row : (event : Event) → v.tx.0 ≡ by → asked by ≡ false → LeavesOthers o h event by
      → ((chosen : ℕ → Bool) → chosen by ≡ true
      → (kept : IsKept form size o h (left_state chosen state) pool pool)
      → WritesRow form size o h event (left_state chosen state) pool pool rec table n kept)
      → KeptIn form size o (event ∷ h) state asked session after j
  first_row event is_by not_asked brings knows =
      add_for_every form one none size o h event by state (cache_over before i) (cache_over after j)
      (viewed before i makes.makes.adds.given) (viewed before i makes.makes.put) it.gone contents orders
      (needs_in asked session before) (needs_in asked session after)
      (end_of makes.makes.adds.gives.pointers makes.makes.adds.gives.data_pages) pages.final rec table n
      (link_to makes.makes.at v.tx) it.changes active is_by it.left (needs_all after j asked session by
      not_asked) pages.grows (subst (λ (last : Pages). AddsPages form.in_primary
      (viewed before i makes.makes.adds.given) (viewed before i makes.makes.put) last makes.makes.at rec
      (leading_to v None) (link_to makes.makes.at v.tx)) (sym it.pool) pages.adds) pages.has_cell left
      pages.ordered (λ chosen layout r sound. at chosen layout r sound (whose chosen layout r sound)) brings
      knows every

pub first_row_keeps_for : (form : Form) → RowsAreOne form.coding → HasNoSequences form → (D L : Type 0)
    (m : Meaning D) → FirstRowKeepsFor form D L m
first_row_keeps_for form one none D L m before after i j batch asked session o h event by state rec v row
    table changes makes active is_by not_asked whose placed blank may brings knows every =
    first_row form one none m before after i j batch asked session o h by state rec v row table changes makes
    active whose placed blank may every event is_by not_asked brings knows

-- a first version of an active transaction that has not asked for its commit, at a free slot of a table's
-- page, changed by the cache in a batch of its own: every overlay is kept, for the history with that write
abbrev pub FirstRowKeeps : Form → (D L : Type 0) → Meaning D → Type 0
FirstRowKeeps form D L m = (before after : Pool D L) (i j : Image) (batch : Changed) (asked : Asked)
    (session : Sessions) (o : Opening) (h : Entries) (event : Event) (by : ℕ) (state : ℕ → TxState)
    (rec : RecId) (v : Version) (row : Row) (table : Table)
    → ChangesFresh m before after i j batch
    → (makes : MakesRecord before i fresh batch table.pointer.0 rec v)
    → state by ≡ Active → v.tx.0 ≡ by → asked by ≡ false
    -- the place, and the version
    → ForEach form before.geometry.size state (shown before.dirty i)
    (λ s layout r. table_at (stands_of layout) rec.page.0 ≡ Some table)
    → cells_of (shown before.dirty i) rec ≡ None
    → ForEach form before.geometry.size state (shown before.dirty i) (λ s layout r. MayBeWritten
    form.coding (facts_by s (shown before.dirty i) layout) table (key_of table row)
    (written makes.makes.at v None row))
    -- the history, and the statement
    → LeavesOthers o h event by
    → ((chosen : ℕ → Bool) → chosen by ≡ true → (kept : IsKept form before.geometry.size o h
    (left_state chosen state) (shown before.dirty i) (shown before.dirty i))
    → WritesRow form before.geometry.size o h event (left_state chosen state) (shown before.dirty i)
    (shown before.dirty i) rec table (written makes.makes.at v None row) kept)
    → KeptIn form before.geometry.size o h state asked session before i
    → KeptIn form before.geometry.size o (event ∷ h) state asked session after j

pub first_row_keeps : (form : Form) → RowsAreOne form.coding → HasNoSequences form → (D L : Type 0)
    (m : Meaning D) → FirstRowKeeps form D L m
first_row_keeps form one none D L m before after i j batch asked session o h event by state rec v row table
    changes makes active is_by not_asked placed blank may brings knows every =
    first_row_keeps_for form one none D L m before after i j batch asked session o h event by state rec v row
    table changes makes active is_by not_asked
    (λ chosen layout r sound. inl (table_of_page layout rec.page.0 table (placed chosen layout r sound)))
    (λ chosen layout r sound its. placed chosen layout r sound) blank
    (λ chosen layout r sound its. may chosen layout r sound) brings knows every
