-- An own version that version chains replace in its cell keeps every overlay.
use Rattle.mg_base.specs.Disk.{Meaning}
use Rattle.mg_base.specs.Image.{Image}
use Rattle.mg_base.specs.declared.numbers.RecId.{RecId}
use Rattle.mg_base.specs.declared.transaction.TxState.{TxState}
use Rattle.mg_base.specs.declared.transaction.TxState.TheVariants.{Active, Dead}
use Rattle.mg_chain.specs.Writing.{PutsAt, Replaces, leading_to}
use Rattle.mg_tie_laws.specs.FreeTies.{version_apart}
use Rattle.mg_tie_laws.specs.Newest.{newest_found, newest_placed}
use Rattle.mg_tie_laws.specs.PushTies.{written}
use Rattle.mg_tie_laws.specs.PutTies.{version_may}
use Rattle.mg_tie_laws.specs.Rows.{ForEach, table_of_page}
use Rattle.mg_image_overlay_laws.specs.pages.Entries.{StaysFound, found_beside}
use Rattle.mg_image_overlay_laws.specs.tables.Growing.{IsTableOf, MayBeWritten}
use Rattle.mg_image_overlay_laws.specs.kept.Knowing.{lawful_there}
use Rattle.mg_tie_laws.specs.CellTies.{HasLawfulCells, lawful_cells, sets_cells, sets_page, spelled_is}
use Rattle.mg_image.specs.Form.{Form, Pages, Row}
use Rattle.mg_image.specs.ReadingLaws.{RowsAreOne}
use Rattle.mg_image.specs.Records.{Changes, Reading, cells_of, record_key}
use Rattle.mg_image.specs.Sound.{IsSoundBy, facts_by}
use Rattle.mg_image.specs.Tables.{Layout, stands_of, table_at}
use Rattle.mg_image_overlay_laws.specs.pages.DataPages.{ChangesData}
use Rattle.mg_image_overlay_laws.specs.pages.Kinds.{HasNoSequences}
use Rattle.mg_image_overlay_laws.specs.transactions.CommitLaws.{LeavesOthers}
use Rattle.mg_image_overlay_laws.specs.kept.KeptImages.{IsKept, keeping}
use Rattle.mg_model.specs.History.{Entries}
use Rattle.mg_model.specs.declared.opening.Opening.{Opening}
use Rattle.mg_model.specs.declared.table.Table.{Table}
use Rattle.mg_overlay_laws.specs.BatchLaws.{good_of_pool}
use Rattle.mg_overlay_laws.specs.Overlays.{left_state}
use Rattle.mg_image_overlay_laws.specs.records.OwnVersion.{FindsOwn, RewritesRow}
use Rattle.mg_image_overlay_laws.specs.records.ReplacePart.{ReplacesPage}
use Rattle.mg_image_overlay_laws.specs.names.NotThere.{HasNoData, IsNotThere}
use Rattle.mg_image_overlay_laws.specs.tables.ReplaceFor.{replace_for_every}
use Rattle.mg_image_overlay_laws.specs.names.Whose.{IsTableFor, alone, alone_is, maker_has, page_beyond}
use Rattle.mg_pool.specs.Batch.{Changed, content_in, lists}
use Rattle.mg_pool.specs.Pool.{shown}
use Rattle.mg_pool.specs.declared.pool.Pool.{Pool}
use Rattle.mg_pool_overlay_laws.specs.Needs.{Asked, Sessions}
use Rattle.mg_space.specs.View.{viewed}
use Rattle.mg_tie_laws.specs.Changed.{BatchIsChanged, ChangesFresh, KeptIn, cache_over, changed_fresh, fresh, needs_all, needs_in}
use Rattle.mg_version.specs.declared.cell.Cell.{Cell}
use Rattle.mg_version.specs.declared.cell.Version.{Version}
use Rattle.std.proofs.Common.{Bool, Option, Some, [], ap, false, inl, inr, refl, subst, sym, true, ℕ, ◌∙◌, ◌∷◌, ◌≡◌, ◌⊎◌}
use Rattle.mg_model.specs.History.{Entry as Event}
use Rattle.mg_version.specs.declared.cell.Cell.TheVariants as cells

-- an active transaction that has not asked for its commit replaces its own version in its cell, in a table
-- that is there or its own, changed by the cache in a batch of its own: every overlay is kept, for the
-- history with that write
abbrev pub PlaceRowKeepsFor : Form → (D L : Type 0) → Meaning D → Type 0
PlaceRowKeepsFor form D L m = (before after : Pool D L) (i j : Image) (batch : Changed) (asked : Asked)
    (session : Sessions) (o : Opening) (h : Entries) (event : Event) (by : ℕ) (state : ℕ → TxState)
    (rec : RecId) (v : Version) (row : Row) (table : Table)
    → ChangesFresh m before after i j batch → (replaces : Replaces before i fresh batch rec v)
    → PutsAt before i fresh batch replaces.newest.rec replaces.bytes
    → state by ≡ Active → v.tx.0 ≡ by → asked by ≡ false
    -- whose table it is; where it stands the record is its, and the version may be written
    → IsTableFor form before.geometry.size by state (shown before.dirty i) table
    → ForEach form before.geometry.size state (shown before.dirty i)
    (λ s layout r. IsTableOf layout table → table_at (stands_of layout) rec.page.0 ≡ Some table)
    → ForEach form before.geometry.size state (shown before.dirty i) (λ s layout r. IsTableOf layout table
    → MayBeWritten form.coding (facts_by s (shown before.dirty i) layout) table (record_key table (r rec))
    (written replaces.newest.rec v replaces.was.back row))
    -- the history, and the statement
    → LeavesOthers o h event by
    → ((chosen : ℕ → Bool) → chosen by ≡ true → (kept : IsKept form before.geometry.size o h
    (left_state chosen state) (shown before.dirty i) (shown before.dirty i))
    → RewritesRow form before.geometry.size o h event (left_state chosen state) (shown before.dirty i)
    (shown before.dirty i) rec table (written replaces.newest.rec v replaces.was.back row) kept)
    → KeptIn form before.geometry.size o h state asked session before i
    → KeptIn form before.geometry.size o (event ∷ h) state asked session after j

module _ (form : Form) (one : RowsAreOne form.coding) (none : HasNoSequences form)
    (no_primary : form.in_primary ≡ false) {D L : Type 0} (m : Meaning D) (before after : Pool D L)
    (i j : Image) (batch : Changed) (asked : Asked) (session : Sessions) (o : Opening) (h : Entries) (by : ℕ)
    (state : ℕ → TxState) (rec : RecId) (v : Version) (table : Table)
    (changes : ChangesFresh m before after i j batch) (replaces : Replaces before i fresh batch rec v)
    (puts : PutsAt before i fresh batch replaces.newest.rec replaces.bytes)
    (active : state by ≡ Active)
    (whose : IsTableFor form before.geometry.size by state (shown before.dirty i) table)
    (placed : ForEach form before.geometry.size state (shown before.dirty i)
    (λ s layout r. IsTableOf layout table → table_at (stands_of layout) rec.page.0 ≡ Some table))
    (every : KeptIn form before.geometry.size o h state asked session before i) where
  abbrev size : ℕ
  size = before.geometry.size

  abbrev pool : Pages
  pool = shown before.dirty i

  abbrev x : RecId
  x = replaces.newest.rec

  abbrev w : Version
  w = leading_to v replaces.was.back

  it : BatchIsChanged before after i j batch asked session
  it = changed_fresh m before after i j batch asked session changes

  start : IsKept form size o h (left_state (alone by) state) pool pool
  start = good_of_pool (keeping form size o h) state (cache_over before i) (needs_in asked session before)
      it.changes.was_clean (λ t p needs. (it.left t p needs).0) every (alone by)

  -- the image in which the writer counts as in limbo has the table
  its : IsTableOf start.layout table
  its = maker_has form size by state pool table active whose (alone by) (alone_is by) start.layout
      start.reading start.sound

  x_of : table_at (stands_of start.layout) x.page.0 ≡ Some table
  x_of = newest_placed form size (left_state (alone by) state) pool start.layout start.reading start.sound
      rec table (placed (alone by) start.layout start.reading start.sound its) replaces.newest
      replaces.its.head.slot

  x_cells : HasLawfulCells form.in_primary pool x.page.0
  x_cells = lawful_cells form size (left_state (alone by) state) pool start.layout start.reading start.sound
      x.page.0 table x_of

  page_view : ChangesData form.in_primary pool (viewed before i batch) x.page.0
  page_view = sets_page form.in_primary pool (viewed before i batch) x (Some replaces.bytes)
      puts.puts.puts.sets puts.puts.others x_cells
      (λ other is. version_may form.in_primary replaces.bytes other w replaces.spells is)

  page : ChangesData form.in_primary pool (cache_over after j).pool x.page.0
  page = subst (λ (pages : Pages). ChangesData form.in_primary pool pages x.page.0) (sym it.pool) page_view

  change_view : Changes (cells_of pool) (cells_of (viewed before i batch)) x (Some (cells.Version w))
  change_view = subst (λ (c : Option Cell). Changes (cells_of pool) (cells_of (viewed before i batch)) x c)
      (ap (λ (c : Cell). Some c) (spelled_is replaces.bytes (cells.Version w) replaces.spells))
      (sets_cells form.in_primary pool (viewed before i batch) x (Some replaces.bytes) puts.puts.puts.sets
      puts.puts.others)

  change : Changes (cells_of pool) (cells_of (cache_over after j).pool) x (Some (cells.Version w))
  change = subst (λ (pages : Pages). Changes (cells_of pool) (cells_of pages) x (Some (cells.Version w)))
      (sym it.pool) change_view

  pub replaces_page : (row : Row) → ReplacesPage form.in_primary pool (cache_over after j).pool replaces.was
      (written x v replaces.was.back row)
  replaces_page row = record {
    page = page;
    over = record {
      was = replaces.its.meets.cell;
      change = change;
      tx = sym replaces.own;
      back = refl;
      was_apart = version_apart pool x replaces.was
          (subst (λ (b : Bool). HasLawfulCells b pool x.page.0) no_primary x_cells)
          replaces.its.meets.cell;
      apart = replaces.spells.is_cell.moved;
    };
  }

  finds : (row : Row) → ForEach form size state pool (λ s layout r. IsTableOf layout table
      → MayBeWritten form.coding (facts_by s pool layout) table (record_key table (r rec))
      (written x v replaces.was.back row))
      → (chosen : ℕ → Bool) (layout : Layout) (r : Reading)
      → IsSoundBy form size (left_state chosen state) pool layout r
      → FindsOwn form.coding (facts_by (left_state chosen state) pool layout) r rec table x replaces.was
      (written x v replaces.was.back row)
      ⊎ ((left_state chosen state by ≡ Dead) × HasNoData layout (x.page.0 ∷ []))
  finds row may chosen layout r sound = by_whose (whose chosen layout r sound)
    where
      by_whose : IsTableOf layout table ⊎ IsNotThere by (left_state chosen state) pool layout table
          → FindsOwn form.coding (facts_by (left_state chosen state) pool layout) r rec table x replaces.was
          (written x v replaces.was.back row)
          ⊎ ((left_state chosen state by ≡ Dead) × HasNoData layout (x.page.0 ∷ []))
      by_whose (inl there) = inl (record {
        found = newest_found form size (left_state chosen state) pool layout r sound rec table
            (placed chosen layout r sound there) replaces.newest replaces.its.head.slot replaces.was
            replaces.its.meets.cell;
        lawful = lawful_there form.coding (left_state chosen state) pool pool layout layout table
            (record_key table (r rec)) (written x v replaces.was.back row) refl
            (may chosen layout r sound there)
            (newest_placed form size (left_state chosen state) pool layout r sound rec table
            (placed chosen layout r sound there) replaces.newest replaces.its.head.slot);
      })
      by_whose (inr unmade) = inr (unmade.dead, one_page)
        where
          one_page : HasNoData layout (x.page.0 ∷ [])
          one_page k (inl e) = ap (table_at (stands_of layout)) e ∙ page_beyond form size
              (left_state (alone by) state) pool start.layout start.reading start.sound table its layout
              unmade.out x.page.0 x_of
          one_page k (inr none_) = absurd none_

  -- the row's entries are found still
  rewrites : (event : Event) (row : Row) (s : ℕ → TxState) (kept : IsKept form size o h s pool pool)
      → table_at (stands_of kept.layout) rec.page.0 ≡ Some table
      → RewritesRow form size o h event s pool pool rec table (written x v replaces.was.back row) kept
      → RewritesRow form size o h event s pool (cache_over after j).pool rec table
      (written x v replaces.was.back row) kept
  rewrites event row s kept of knows = record {
    after = knows.after;
    turns = knows.turns;
    after_are = knows.after_are;
    no_catalog = knows.no_catalog;
    found = λ alive. still rec row (knows.found alive);
  }
    where
      still : StaysFound table pool (cache_over after j).pool
      still = found_beside form size s pool (cache_over after j).pool x.page.0 kept.layout kept.reading table
          kept.sound (table_of_page kept.layout rec.page.0 table of) page

  pub place_row : (event : Event) (row : Row) → v.tx.0 ≡ by → asked by ≡ false
      → ForEach form size state pool (λ s layout r. IsTableOf layout table
      → MayBeWritten form.coding (facts_by s pool layout) table (record_key table (r rec))
      (written x v replaces.was.back row))
      → LeavesOthers o h event by
      → ((chosen : ℕ → Bool) → chosen by ≡ true
      → (kept : IsKept form size o h (left_state chosen state) pool pool)
      → RewritesRow form size o h event (left_state chosen state) pool pool rec table
      (written x v replaces.was.back row) kept)
      → KeptIn form size o (event ∷ h) state asked session after j
  place_row event row is_by not_asked may brings knows =
      replace_for_every form one none size o h event by state (cache_over before i) (cache_over after j)
      it.gone (content_in batch.pages) (lists batch.orders) (needs_in asked session before)
      (needs_in asked session after) rec table replaces.was (written x v replaces.was.back row) it.changes
      active is_by it.left (needs_all after j asked session by not_asked) (replaces_page row)
      (finds row may) brings
      (λ chosen is kept. rewrites event row (left_state chosen state) kept
      (placed chosen kept.layout kept.reading kept.sound (maker_has form size by state pool table active whose
      chosen is kept.layout kept.reading kept.sound)) (knows chosen is kept)) every

pub place_row_keeps_for : (form : Form) → RowsAreOne form.coding → HasNoSequences form
    → form.in_primary ≡ false → (D L : Type 0) (m : Meaning D) → PlaceRowKeepsFor form D L m
place_row_keeps_for form one none no_primary D L m before after i j batch asked session o h event by state rec
    v row table changes replaces puts active is_by not_asked whose placed may brings knows every =
    place_row form one none no_primary m before after i j batch asked session o h by state rec v table changes
    replaces puts active whose placed every event row is_by not_asked may brings knows

-- an active transaction that has not asked for its commit replaces its own version in its cell, changed by
-- the cache in a batch of its own: every overlay is kept, for the history with that write
abbrev pub PlaceRowKeeps : Form → (D L : Type 0) → Meaning D → Type 0
PlaceRowKeeps form D L m = (before after : Pool D L) (i j : Image) (batch : Changed) (asked : Asked)
    (session : Sessions) (o : Opening) (h : Entries) (event : Event) (by : ℕ) (state : ℕ → TxState)
    (rec : RecId) (v : Version) (row : Row) (table : Table)
    → ChangesFresh m before after i j batch → (replaces : Replaces before i fresh batch rec v)
    → PutsAt before i fresh batch replaces.newest.rec replaces.bytes
    → state by ≡ Active → v.tx.0 ≡ by → asked by ≡ false
    -- the record, and the version
    → ForEach form before.geometry.size state (shown before.dirty i)
    (λ s layout r. table_at (stands_of layout) rec.page.0 ≡ Some table)
    → ForEach form before.geometry.size state (shown before.dirty i) (λ s layout r. MayBeWritten
    form.coding (facts_by s (shown before.dirty i) layout) table (record_key table (r rec))
    (written replaces.newest.rec v replaces.was.back row))
    -- the history, and the statement
    → LeavesOthers o h event by
    → ((chosen : ℕ → Bool) → chosen by ≡ true → (kept : IsKept form before.geometry.size o h
    (left_state chosen state) (shown before.dirty i) (shown before.dirty i))
    → RewritesRow form before.geometry.size o h event (left_state chosen state) (shown before.dirty i)
    (shown before.dirty i) rec table (written replaces.newest.rec v replaces.was.back row) kept)
    → KeptIn form before.geometry.size o h state asked session before i
    → KeptIn form before.geometry.size o (event ∷ h) state asked session after j

pub place_row_keeps : (form : Form) → RowsAreOne form.coding → HasNoSequences form
    → form.in_primary ≡ false → (D L : Type 0) (m : Meaning D) → PlaceRowKeeps form D L m
place_row_keeps form one none no_primary D L m before after i j batch asked session o h event by state rec v
    row table changes replaces puts active is_by not_asked placed may brings knows every =
    place_row_keeps_for form one none no_primary D L m before after i j batch asked session o h event by state
    rec v row table changes replaces puts active is_by not_asked
    (λ chosen layout r sound. inl (table_of_page layout rec.page.0 table (placed chosen layout r sound)))
    (λ chosen layout r sound its. placed chosen layout r sound)
    (λ chosen layout r sound its. may chosen layout r sound) brings knows every
