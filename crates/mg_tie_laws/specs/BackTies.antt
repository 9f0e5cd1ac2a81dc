-- A version that version chains take back keeps every overlay.
use Rattle.mg_base.specs.Disk.{Meaning}
use Rattle.mg_base.specs.Fields.{byte}
use Rattle.mg_base.specs.Image.{Image}
use Rattle.mg_base.specs.declared.numbers.RecId.{RecId}
use Rattle.mg_base.specs.declared.transaction.TxState.{TxState}
use Rattle.mg_base.specs.declared.transaction.TxState.TheVariants.{Active, Dead}
use Rattle.mg_careful.specs.Precedence.{Orders}
use Rattle.mg_careful.specs.declared.graph.Order.{Order}
use Rattle.mg_chain.specs.Orders.{before_page, out_orders, unchanged_page}
use Rattle.mg_chain.specs.Writing.{SlotIsReached, TakesOut}
use Rattle.mg_tie_laws.specs.FreeTies.{back_cells, back_has, back_page, frees_cells, frees_page, frees_within, version_apart}
use Rattle.mg_tie_laws.specs.Newest.{newest_found, newest_placed}
use Rattle.mg_tie_laws.specs.Rows.{ForEach, ordered_page, reached_entered, table_of_page, walk_four, within_orders}
use Rattle.mg_image_overlay_laws.specs.tables.Growing.{IsTableOf}
use Rattle.mg_heap.specs.Reach.{IsReached}
use Rattle.mg_tie_laws.specs.Batches.{IsWithin, lists_later, lists_sooner, viewed_same, within_self}
use Rattle.mg_tie_laws.specs.CellTies.{HasLawfulCells, cells_still, lawful_cells, owner_told}
use Rattle.mg_image.specs.Form.{Form, Pages}
use Rattle.mg_image.specs.ReadingLaws.{RowsAreOne}
use Rattle.mg_image.specs.Records.{Changes, Reading, cells_of}
use Rattle.mg_image.specs.Sound.{IsSoundBy, facts_by}
use Rattle.mg_image.specs.Tables.{Has, Layout, stands_of, table_at}
use Rattle.mg_image_overlay_laws.specs.pages.DataPages.{ChangesData}
use Rattle.mg_image_overlay_laws.specs.pages.Kinds.{HasNoSequences}
use Rattle.mg_image_overlay_laws.specs.transactions.CommitLaws.{LeavesOthers}
use Rattle.mg_image_overlay_laws.specs.kept.KeptImages.{IsKept, keeping}
use Rattle.mg_image_overlay_laws.specs.pages.Reach.{IsEntered}
use Rattle.mg_model.specs.History.{Entries}
use Rattle.mg_model.specs.declared.opening.Opening.{Opening}
use Rattle.mg_model.specs.declared.table.Table.{Table}
use Rattle.mg_overlay_laws.specs.BatchLaws.{good_of_pool}
use Rattle.mg_overlay_laws.specs.Overlays.{left_state}
use Rattle.mg_image_overlay_laws.specs.records.BackEvery.{TakesBackRow}
use Rattle.mg_image_overlay_laws.specs.records.BackPart.{OrdersTakeOut, TakesOutPages}
use Rattle.mg_image_overlay_laws.specs.records.OwnVersion.{FindsNewest}
use Rattle.mg_image_overlay_laws.specs.records.TakeOut.{back_cell}
use Rattle.mg_image_overlay_laws.specs.tables.BackFor.{take_back_for_every}
use Rattle.mg_image_overlay_laws.specs.names.NotThere.{HasNoData, IsNotThere}
use Rattle.mg_image_overlay_laws.specs.names.Whose.{IsTableFor, alone, alone_is, maker_has, page_beyond}
use Rattle.mg_pool.specs.Batch.{Changed, content_in, lists}
use Rattle.mg_pool.specs.Pool.{shown}
use Rattle.mg_pool.specs.declared.pool.Pool.{Pool}
use Rattle.mg_pool_overlay_laws.specs.Needs.{Asked, Sessions}
use Rattle.mg_space.specs.View.{viewed}
use Rattle.mg_tie_laws.specs.Changed.{BatchIsChanged, ChangesFresh, KeptIn, cache_over, changed_fresh, fresh, needs_all, needs_in}
use Rattle.mg_value.specs.declared.value.Value.{Value}
use Rattle.mg_version.specs.declared.cell.Link.{Link}
use Rattle.std.proofs.Common.{Bool, List, None, Option, Some, [], ap, arith, false, inl, inr, refl, subst, sym, true, ℕ, ◌++◌, ◌∙◌, ◌∷◌, ◌≡◌, ◌≢◌, ◌⊎◌}
use Rattle.mg_model.specs.History.{Entry as Event}
use Rattle.mg_version.specs.declared.cell.Cell.TheVariants as cells

-- an active transaction that has not asked for its commit takes its own version of a record back, in a table
-- that is there or its own, changed by the cache in a batch of its own: every overlay is kept, for the
-- history with that entry
abbrev pub BackRowKeepsFor : Form → (D L : Type 0) → Meaning D → Type 0
BackRowKeepsFor form D L m = (before after : Pool D L) (i j : Image) (batch : Changed) (asked : Asked)
    (session : Sessions) (o : Opening) (h : Entries) (event : Event) (by : ℕ) (state : ℕ → TxState)
    (rec : RecId) (table : Table) (key : Value)
    → ChangesFresh m before after i j batch → (takes : TakesOut before i fresh batch rec)
    → state by ≡ Active → takes.was.tx.0 ≡ by → asked by ≡ false
    -- whose table it is; where it stands the record is its
    → IsTableFor form before.geometry.size by state (shown before.dirty i) table
    → ForEach form before.geometry.size state (shown before.dirty i)
    (λ s layout r. IsTableOf layout table → table_at (stands_of layout) rec.page.0 ≡ Some table)
    -- the history, and the statement
    → LeavesOthers o h event by
    → ((chosen : ℕ → Bool) → chosen by ≡ true → (kept : IsKept form before.geometry.size o h
    (left_state chosen state) (shown before.dirty i) (shown before.dirty i))
    → TakesBackRow form before.geometry.size o h event (left_state chosen state) (shown before.dirty i) rec
    table takes.was.tx.0 key kept)
    → KeptIn form before.geometry.size o h state asked session before i
    → KeptIn form before.geometry.size o (event ∷ h) state asked session after j

module _ (form : Form) (one : RowsAreOne form.coding) (none : HasNoSequences form)
    (no_primary : form.in_primary ≡ false) {D L : Type 0} (m : Meaning D) (before after : Pool D L)
    (i j : Image) (batch : Changed) (asked : Asked) (session : Sessions) (o : Opening) (h : Entries) (by : ℕ)
    (state : ℕ → TxState) (rec : RecId) (table : Table) (changes : ChangesFresh m before after i j batch)
    (takes : TakesOut before i fresh batch rec)
    (active : state by ≡ Active)
    (whose : IsTableFor form before.geometry.size by state (shown before.dirty i) table)
    (placed : ForEach form before.geometry.size state (shown before.dirty i)
    (λ s layout r. IsTableOf layout table → table_at (stands_of layout) rec.page.0 ≡ Some table))
    (every : KeptIn form before.geometry.size o h state asked session before i) where
  abbrev size : ℕ
  size = before.geometry.size

  abbrev pool : Pages
  pool = shown before.dirty i

  abbrev x : RecId
  x = takes.newest.rec

  abbrev turned : Changed
  turned = takes.taken.swings.turned

  abbrev freed : Changed
  freed = takes.taken.freed

  abbrev contents : ℕ → Option (List ℕ)
  contents = content_in batch.pages

  abbrev orders : Orders
  orders = lists batch.orders

  it : BatchIsChanged before after i j batch asked session
  it = changed_fresh m before after i j batch asked session changes

  start : IsKept form size o h (left_state (alone by) state) pool pool
  start = good_of_pool (keeping form size o h) state (cache_over before i) (needs_in asked session before)
      it.changes.was_clean (λ t p needs. (it.left t p needs).0) every (alone by)

  -- the image in which the writer counts as in limbo has the table
  its : IsTableOf start.layout table
  its = maker_has form size by state pool table active whose (alone by) (alone_is by) start.layout
      start.reading start.sound

  of : table_at (stands_of start.layout) rec.page.0 ≡ Some table
  of = placed (alone by) start.layout start.reading start.sound its

  x_of : table_at (stands_of start.layout) x.page.0 ≡ Some table
  x_of = newest_placed form size (left_state (alone by) state) pool start.layout start.reading start.sound rec
      table of takes.newest takes.its.head.slot

  owner_is : takes.owner ≡ table.pointer.0
  owner_is = takes.its.head.owned.is ∙ owner_told form size (left_state (alone by) state) pool start.layout
      start.reading start.sound rec.page.0 table of

  rec_cells : HasLawfulCells form.in_primary pool rec.page.0
  rec_cells = lawful_cells form size (left_state (alone by) state) pool start.layout start.reading start.sound
      rec.page.0 table of

  x_cells : HasLawfulCells form.in_primary pool x.page.0
  x_cells = lawful_cells form size (left_state (alone by) state) pool start.layout start.reading start.sound
      x.page.0 table x_of

  abbrev os : List Order
  os = out_orders freed.pages rec.page.0 takes.was.back takes.taken.slot_pointers x.page.0

  within_freed : IsWithin contents orders freed
  within_freed = within_orders contents orders freed batch os takes.taken.ordered (within_self batch)

  within_turned : IsWithin contents orders turned
  within_turned = frees_within before i contents orders turned freed x takes.taken.swings.frees within_freed

  apart_x : x ≢ rec
  apart_x same =
      let both : Some (cells.Version takes.was) ≡ Some (cells.Anchor takes.newest) =
      sym takes.its.meets.cell ∙ (ap (cells_of pool) same ∙ takes.its.head.slot) in absurd cc

  slot_page : ChangesData form.in_primary pool (viewed before i turned) rec.page.0
  slot_page = back_page form.in_primary before i fresh turned rec takes.newest takes.its.head.slot rec_cells
      takes.was.back takes.taken.swings.turns

  turn : Changes (cells_of pool) (cells_of (viewed before i turned)) rec (back_cell takes.was.back)
  turn = back_cells form.in_primary before i fresh turned rec takes.newest takes.its.head.slot rec_cells
      takes.was.back takes.taken.swings.turns

  x_there : cells_of (viewed before i turned) x ≡ Some (cells.Version takes.was)
  x_there = turn.others x apart_x ∙ takes.its.meets.cell

  final_is : (cache_over after j).pool ≡ viewed before i freed
  final_is = it.pool ∙ viewed_same before i freed batch takes.taken.ordered.same_pages

  pub pages : TakesOutPages form.in_primary pool (viewed before i turned) (cache_over after j).pool rec x
      takes.was takes.newest
  pages = subst (λ (p : Pages). TakesOutPages form.in_primary pool (viewed before i turned) p rec x takes.was
      takes.newest) (sym final_is) (record {
        slot_page = slot_page;
        slot = takes.its.head.slot;
        turn = turn;
        frees = record {
          page = frees_page form.in_primary before i turned freed x takes.taken.swings.frees
              (cells.Version takes.was) x_there
              (cells_still form.in_primary pool (viewed before i turned) rec.page.0 x.page.0 slot_page
              x_cells);
          cell = x_there;
          apart = version_apart pool x takes.was
              (subst (λ (b : Bool). HasLawfulCells b pool x.page.0) no_primary x_cells)
              takes.its.meets.cell;
          freed = frees_cells form.in_primary before i turned freed x takes.taken.swings.frees
              (cells.Version takes.was) x_there;
        };
      })

  pub has_slot : contents rec.page.0 ≢ None
  has_slot = within_turned.pages rec.page.0 (back_has form.in_primary before i fresh turned rec takes.newest
      takes.its.head.slot rec_cells takes.was.back takes.taken.swings.turns)

  in_out : (a c : ℕ) → lists os a c ≡ true → orders a c ≡ true
  in_out a c is = subst (λ (ps : List Order). lists ps a c ≡ true) (sym takes.taken.ordered.added)
      (lists_later freed.orders os a c is)

  abbrev first_part : List Order
  first_part = before_page (unchanged_page freed.pages takes.was.back) rec.page.0
      ++ before_page takes.taken.slot_pointers rec.page.0

  in_walk : (a c : ℕ) → lists (before_page takes.taken.slot_pointers rec.page.0) a c ≡ true
      → orders a c ≡ true
  in_walk a c is = in_out a c (lists_sooner first_part (before_page (rec.page.0 ∷ []) x.page.0) a c
      (lists_later (before_page (unchanged_page freed.pages takes.was.back) rec.page.0)
      (before_page takes.taken.slot_pointers rec.page.0) a c is))

  in_freed : (a c : ℕ) → lists (before_page (rec.page.0 ∷ []) x.page.0) a c ≡ true → orders a c ≡ true
  in_freed a c is = in_out a c (lists_later first_part (before_page (rec.page.0 ∷ []) x.page.0) a c is)

  walked : (back : Option Link) → SlotIsReached pool takes.owner rec.page.0 back takes.taken.slot_pointers
      → back ≡ None → IsEntered (λ k. orders k rec.page.0 ≡ true) pool rec.page.0 table.pointer.0
  walked (Some link) reached is = absurd cc
  walked None reached is = reached_entered (λ k. orders k rec.page.0 ≡ true) pool table.pointer.0 rec.page.0
      takes.taken.slot_pointers walk (λ k there. in_walk k rec.page.0
      (ordered_page takes.taken.slot_pointers k rec.page.0 there (off k there)))
    where
      walk : IsReached pool table.pointer.0 rec.page.0 takes.taken.slot_pointers
      walk = subst (λ (k : ℕ). IsReached pool k rec.page.0 takes.taken.slot_pointers) owner_is reached

      off : (k : ℕ) → Has takes.taken.slot_pointers k → k ≢ rec.page.0
      off k there same =
          let four : byte (pool k) 0 ≡ 4 =
          walk_four pool table.pointer.0 rec.page.0 takes.taken.slot_pointers walk k there in
          let five : byte (pool k) 0 ≡ 5 = ap (λ (q : ℕ). byte (pool q) 0) same ∙ rec_cells.kind in
          omega (arith, four, five)

  pub orders_out : OrdersTakeOut orders pool table x rec takes.was
  orders_out = record {
    freed = λ ne. in_freed rec.page.0 x.page.0 (ordered_page (rec.page.0 ∷ []) rec.page.0 x.page.0
        (inl refl) (λ e. ne (sym e)));
    pointers = walked takes.was.back takes.taken.slot_reached;
  }

  finds : (chosen : ℕ → Bool) (layout : Layout) (r : Reading)
      → IsSoundBy form size (left_state chosen state) pool layout r
      → FindsNewest (facts_by (left_state chosen state) pool layout) r rec table x takes.was
      ⊎ ((left_state chosen state by ≡ Dead) × HasNoData layout (rec.page.0 ∷ x.page.0 ∷ []))
  finds chosen layout r sound = by_whose (whose chosen layout r sound)
    where
      by_whose : IsTableOf layout table ⊎ IsNotThere by (left_state chosen state) pool layout table
          → FindsNewest (facts_by (left_state chosen state) pool layout) r rec table x takes.was
          ⊎ ((left_state chosen state by ≡ Dead) × HasNoData layout (rec.page.0 ∷ x.page.0 ∷ []))
      by_whose (inl there) = inl (newest_found form size (left_state chosen state) pool layout r sound rec
          table (placed chosen layout r sound there) takes.newest takes.its.head.slot takes.was
          takes.its.meets.cell)
      by_whose (inr unmade) = inr (unmade.dead, both_pages)
        where
          beyond : (k : ℕ) → table_at (stands_of start.layout) k ≡ Some table
              → table_at (stands_of layout) k ≡ None
          beyond = page_beyond form size (left_state (alone by) state) pool start.layout start.reading
              start.sound table its layout unmade.out

          both_pages : HasNoData layout (rec.page.0 ∷ x.page.0 ∷ [])
          both_pages k (inl e) = ap (table_at (stands_of layout)) e ∙ beyond rec.page.0 of
          both_pages k (inr (inl e)) = ap (table_at (stands_of layout)) e ∙ beyond x.page.0 x_of
          both_pages k (inr (inr none_)) = absurd none_

  pub back_row : (event : Event) (key : Value) → takes.was.tx.0 ≡ by → asked by ≡ false
      → LeavesOthers o h event by
      → ((chosen : ℕ → Bool) → chosen by ≡ true
      → (kept : IsKept form size o h (left_state chosen state) pool pool)
      → TakesBackRow form size o h event (left_state chosen state) pool rec table takes.was.tx.0 key kept)
      → KeptIn form size o (event ∷ h) state asked session after j
  back_row event key is_by not_asked brings knows =
      take_back_for_every form one none size o h event by state (cache_over before i) (cache_over after j)
      (viewed before i turned) it.gone contents orders (needs_in asked session before)
      (needs_in asked session after) rec x table takes.was takes.newest key it.changes active is_by it.left
      (needs_all after j asked session by not_asked) pages has_slot orders_out finds brings knows every

pub back_row_keeps_for : (form : Form) → RowsAreOne form.coding → HasNoSequences form
    → form.in_primary ≡ false → (D L : Type 0) (m : Meaning D) → BackRowKeepsFor form D L m
back_row_keeps_for form one none no_primary D L m before after i j batch asked session o h event by state rec
    table key changes takes active is_by not_asked whose placed brings knows every =
    back_row form one none no_primary m before after i j batch asked session o h by state rec table changes
    takes active whose placed every event key is_by not_asked brings knows

-- an active transaction that has not asked for its commit takes its own version of a record back, changed
-- by the cache in a batch of its own: every overlay is kept, for the history with that entry
abbrev pub BackRowKeeps : Form → (D L : Type 0) → Meaning D → Type 0
BackRowKeeps form D L m = (before after : Pool D L) (i j : Image) (batch : Changed) (asked : Asked)
    (session : Sessions) (o : Opening) (h : Entries) (event : Event) (by : ℕ) (state : ℕ → TxState)
    (rec : RecId) (table : Table) (key : Value)
    → ChangesFresh m before after i j batch → (takes : TakesOut before i fresh batch rec)
    → state by ≡ Active → takes.was.tx.0 ≡ by → asked by ≡ false
    -- the record
    → ForEach form before.geometry.size state (shown before.dirty i)
    (λ s layout r. table_at (stands_of layout) rec.page.0 ≡ Some table)
    -- the history, and the statement
    → LeavesOthers o h event by
    → ((chosen : ℕ → Bool) → chosen by ≡ true → (kept : IsKept form before.geometry.size o h
    (left_state chosen state) (shown before.dirty i) (shown before.dirty i))
    → TakesBackRow form before.geometry.size o h event (left_state chosen state) (shown before.dirty i) rec
    table takes.was.tx.0 key kept)
    → KeptIn form before.geometry.size o h state asked session before i
    → KeptIn form before.geometry.size o (event ∷ h) state asked session after j

pub back_row_keeps : (form : Form) → RowsAreOne form.coding → HasNoSequences form
    → form.in_primary ≡ false → (D L : Type 0) (m : Meaning D) → BackRowKeeps form D L m
back_row_keeps form one none no_primary D L m before after i j batch asked session o h event by state rec
    table key changes takes active is_by not_asked placed brings knows every =
    back_row_keeps_for form one none no_primary D L m before after i j batch asked session o h event by state
    rec table key changes takes active is_by not_asked
    (λ chosen layout r sound. inl (table_of_page layout rec.page.0 table (placed chosen layout r sound)))
    (λ chosen layout r sound its. placed chosen layout r sound) brings knows every
