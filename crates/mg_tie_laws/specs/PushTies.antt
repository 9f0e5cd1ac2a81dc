-- A push by version chains keeps every overlay.
use Rattle.mg_base.specs.Disk.{Meaning}
use Rattle.mg_base.specs.Image.{Image}
use Rattle.mg_base.specs.declared.numbers.RecId.{RecId}
use Rattle.mg_base.specs.declared.transaction.TxState.{TxState}
use Rattle.mg_base.specs.declared.transaction.TxState.TheVariants.{Active, Committed, Dead}
use Rattle.mg_careful.specs.Precedence.{Orders}
use Rattle.mg_careful.specs.declared.graph.Order.{Order}
use Rattle.mg_chain.specs.Orders.{before_page, push_orders, slot_orders, version_orders}
use Rattle.mg_chain.specs.Writing.{Pushes, leading_to, link_to}
use Rattle.mg_tie_laws.specs.Newest.{settled_found}
use Rattle.mg_tie_laws.specs.PutTies.{PutsGiven, apart, free, grows, header_off, put_cells, put_page, slot_given, slot_put, turn_cells, turn_page, walk_ordered}
use Rattle.mg_tie_laws.specs.Rows.{ForEach, ordered_page, table_of_page, within_orders, within_put}
use Rattle.mg_image_overlay_laws.specs.tables.Growing.{IsTableOf, MayBeWritten}
use Rattle.mg_heap.specs.Reach.{IsReached}
use Rattle.mg_heap.specs.Room.{GivesRoom}
use Rattle.mg_tie_laws.specs.Batches.{IsWithin, has_here, lists_later, lists_sooner, viewed_same, within_self}
use Rattle.mg_tie_laws.specs.CellTies.{owner_told}
use Rattle.mg_tie_laws.specs.OutTies.{beyond_two}
use Rattle.mg_tie_laws.specs.RoomTies.{GrowsSome, end_of, ends_there}
use Rattle.mg_image.specs.Form.{Form, Pages, Row}
use Rattle.mg_image.specs.ReadingLaws.{RowsAreOne}
use Rattle.mg_image.specs.Records.{Reading, cells_of, record_key}
use Rattle.mg_image.specs.Sound.{IsSoundBy, facts_by}
use Rattle.mg_image.specs.Tables.{Has, Layout, stands_of, table_at}
use Rattle.mg_image.specs.declared.entry.Entry.{Entry}
use Rattle.mg_image_overlay_laws.specs.pages.Kinds.{HasNoSequences}
use Rattle.mg_image_overlay_laws.specs.transactions.CommitLaws.{LeavesOthers}
use Rattle.mg_image_overlay_laws.specs.kept.KeptImages.{IsKept, keeping}
use Rattle.mg_model.specs.History.{Entries}
use Rattle.mg_model.specs.declared.opening.Opening.{Opening}
use Rattle.mg_model.specs.declared.table.Table.{Table}
use Rattle.mg_overlay_laws.specs.BatchLaws.{good_of_pool}
use Rattle.mg_overlay_laws.specs.Overlays.{left_by, left_state}
use Rattle.mg_image_overlay_laws.specs.names.NotThere.{HasNoneOf, IsNotThere}
use Rattle.mg_image_overlay_laws.specs.tables.PushFor.{PushThere, push_for_every}
use Rattle.mg_image_overlay_laws.specs.names.Whose.{IsTableFor, alone, alone_is, maker_has}
use Rattle.mg_pool.specs.Batch.{Changed, content_in, lists}
use Rattle.mg_pool.specs.Pool.{shown}
use Rattle.mg_pool.specs.declared.pool.Pool.{Pool}
use Rattle.mg_pool_overlay_laws.specs.Needs.{Asked, Sessions}
use Rattle.mg_image_overlay_laws.specs.records.OwnWrites.{WritesRow}
use Rattle.mg_image_overlay_laws.specs.records.PushPart.{OrdersPush, PushesPages}
use Rattle.mg_slots.specs.DataPage.{cell_of}
use Rattle.mg_slots.specs.Room.{need_of}
use Rattle.mg_slots.specs.RoomLaws.{least_free_is_free}
use Rattle.mg_space.specs.View.{viewed}
use Rattle.mg_space.specs.ViewLaws.{viewed_else}
use Rattle.mg_tie_laws.specs.Changed.{BatchIsChanged, ChangesFresh, KeptIn, cache_over, changed_fresh, fresh, needs_all, needs_in}
use Rattle.mg_version.specs.declared.cell.Link.{Link}
use Rattle.mg_version.specs.declared.cell.Version.{Version}
use Rattle.std.proofs.Common.{Bool, List, None, Option, Some, [], ap, false, inl, inr, length, refl, subst, sym, true, ℕ, ◌-◌, ◌∙◌, ◌∷◌, ◌≡◌, ◌≢◌, ◌⊎◌}
use Rattle.std.specs.Prelude.{slice_index}
use Rattle.mg_model.specs.History.{Entry as Event}
use Rattle.mg_version.specs.declared.cell.Cell.TheVariants as cells

-- a version that is written at a place, over another one or none, with its row
abbrev pub written : RecId → Version → Option Link → Row → Entry
written at v back row = record { at = at; version = leading_to v back; row = row }

-- a committed one is committed in each image that is left behind
pub left_committed : (c : Bool) → left_by c Committed ≡ Committed
left_committed true = refl
left_committed false = refl

-- a push of an active transaction that has not asked for its commit, in a table that is there or its own,
-- changed by the cache in a batch of its own: every overlay is kept, for the history with that write
abbrev pub PushRowKeepsFor : Form → (D L : Type 0) → Meaning D → Type 0
PushRowKeepsFor form D L m = (before after : Pool D L) (i j : Image) (batch : Changed) (asked : Asked)
    (session : Sessions) (o : Opening) (h : Entries) (event : Event) (by : ℕ) (state : ℕ → TxState)
    (rec : RecId) (v : Version) (row : Row) (table : Table)
    → ChangesFresh m before after i j batch → (pushes : Pushes before i fresh batch rec v)
    → state by ≡ Active → v.tx.0 ≡ by → asked by ≡ false
    -- whose table it is; where it stands the record is its, and the version may be written
    → IsTableFor form before.geometry.size by state (shown before.dirty i) table
    → ForEach form before.geometry.size state (shown before.dirty i)
    (λ s layout r. IsTableOf layout table → table_at (stands_of layout) rec.page.0 ≡ Some table)
    → state pushes.newest.tx.0 ≡ Committed
    → ForEach form before.geometry.size state (shown before.dirty i) (λ s layout r. IsTableOf layout table
    → MayBeWritten form.coding (facts_by s (shown before.dirty i) layout) table (record_key table (r rec))
    (written pushes.pushes.at v (Some pushes.newest) row))
    -- the history, and the statement
    → LeavesOthers o h event by
    → ((chosen : ℕ → Bool) → chosen by ≡ true → (kept : IsKept form before.geometry.size o h
    (left_state chosen state) (shown before.dirty i) (shown before.dirty i))
    → WritesRow form before.geometry.size o h event (left_state chosen state) (shown before.dirty i)
    (shown before.dirty i) rec table (written pushes.pushes.at v (Some pushes.newest) row) kept)
    → KeptIn form before.geometry.size o h state asked session before i
    → KeptIn form before.geometry.size o (event ∷ h) state asked session after j

module _ (form : Form) (one : RowsAreOne form.coding) (none : HasNoSequences form) {D L : Type 0}
    (m : Meaning D) (before after : Pool D L) (i j : Image) (batch : Changed) (asked : Asked)
    (session : Sessions) (o : Opening) (h : Entries) (by : ℕ) (state : ℕ → TxState) (rec : RecId)
    (v : Version) (table : Table) (changes : ChangesFresh m before after i j batch)
    (pushes : Pushes before i fresh batch rec v)
    (active : state by ≡ Active)
    (whose : IsTableFor form before.geometry.size by state (shown before.dirty i) table)
    (placed : ForEach form before.geometry.size state (shown before.dirty i)
    (λ s layout r. IsTableOf layout table → table_at (stands_of layout) rec.page.0 ≡ Some table))
    (settled : state pushes.newest.tx.0 ≡ Committed)
    (every : KeptIn form before.geometry.size o h state asked session before i) where
  abbrev size : ℕ
  size = before.geometry.size

  abbrev pool : Pages
  pool = shown before.dirty i

  abbrev at : RecId
  at = pushes.pushes.at

  abbrev link : Link
  link = link_to at v.tx

  abbrev w : Version
  w = leading_to v (Some pushes.newest)

  abbrev given : Changed
  given = pushes.pushes.puts.adds.given

  abbrev put : Changed
  put = pushes.pushes.put

  abbrev turned : Changed
  turned = pushes.pushes.turned

  abbrev contents : ℕ → Option (List ℕ)
  contents = content_in batch.pages

  abbrev orders : Orders
  orders = lists batch.orders

  it : BatchIsChanged before after i j batch asked session
  it = changed_fresh m before after i j batch asked session changes

  start : IsKept form size o h (left_state (alone by) state) pool pool
  start = good_of_pool (keeping form size o h) state (cache_over before i) (needs_in asked session before)
      it.changes.was_clean (λ t p needs. (it.left t p needs).0) every (alone by)

  -- the image in which the writer counts as in limbo has the table
  its : IsTableOf start.layout table
  its = maker_has form size by state pool table active whose (alone by) (alone_is by) start.layout
      start.reading start.sound

  of : table_at (stands_of start.layout) rec.page.0 ≡ Some table
  of = placed (alone by) start.layout start.reading start.sound its

  owner_is : pushes.owner ≡ table.pointer.0
  owner_is = pushes.head.owned.is ∙ owner_told form size (left_state (alone by) state) pool start.layout
      start.reading start.sound rec.page.0 table of

  reached : IsReached (viewed before i put) table.pointer.0 at.page.0 pushes.pushes.pointers
  reached = subst (λ (k : ℕ). IsReached (viewed before i put) k at.page.0 pushes.pushes.pointers) owner_is
      pushes.pushes.puts.reached

  pub puts : PutsGiven before i fresh given put table.pointer.0 (need_of pushes.bytes) at pushes.bytes
      pushes.pushes.pointers
  puts = record {
    gives = subst (λ (k : ℕ). GivesRoom before i fresh given k (need_of pushes.bytes) at.page) owner_is
        pushes.pushes.puts.adds.gives;
    one = pushes.pushes.puts.adds.one;
    data_page = pushes.pushes.puts.adds.puts.puts.data_page;
    was_free = ap (cell_of (viewed before i given at.page.0)) pushes.pushes.puts.adds.puts.least
        ∙ least_free_is_free (viewed before i given at.page.0);
    sets = pushes.pushes.puts.adds.puts.puts.puts.sets;
    others = pushes.pushes.puts.adds.puts.puts.others;
    reached = reached;
  }

  abbrev os : List Order
  os = push_orders turned.pages at.page.0 rec.page.0 (Some pushes.newest) pushes.pushes.pointers

  within_turned : IsWithin contents orders turned
  within_turned = within_orders contents orders turned batch os pushes.pushes.ordered (within_self batch)

  within_ : IsWithin contents orders put
  within_ = within_put contents orders put turned rec.page.0 pushes.pushes.turns.puts.one.bytes
      pushes.pushes.turns.puts.one.puts within_turned

  -- the common part of the rows at this pool
  pub some_grows : GrowsSome form.in_primary size table.pointer.0 orders contents pool
      (end_of puts.gives.pointers puts.gives.data_pages) (viewed before i given)
  some_grows = grows form one none before i changes.geometry fresh (left_state (alone by) state) start.layout
      start.reading start.sound rec table of given put (need_of pushes.bytes) at pushes.bytes
      pushes.pushes.pointers puts w pushes.spells contents orders within_

  apart_at : rec ≢ at
  apart_at same =
      let none_ : cells_of (viewed before i given) rec ≡ None =
      ap (cells_of (viewed before i given)) same ∙ free form one none before i changes.geometry fresh
      (left_state (alone by) state) start.layout start.reading start.sound rec table of given put
      (need_of pushes.bytes) at pushes.bytes pushes.pushes.pointers puts w pushes.spells contents orders
      within_ in
      let some_ : cells_of (viewed before i given) rec ≡ Some (cells.Anchor pushes.newest) =
      slot_given form one none before i changes.geometry fresh (left_state (alone by) state) start.layout
      start.reading start.sound rec table of given put (need_of pushes.bytes) at pushes.bytes
      pushes.pushes.pointers puts w pushes.spells contents orders within_ ∙ pushes.head.slot in
      let both = sym none_ ∙ some_ in absurd cc

  final_is : (cache_over after j).pool ≡ viewed before i turned
  final_is = it.pool ∙ viewed_same before i turned batch pushes.pushes.ordered.same_pages

  pub pushes_pages : PushesPages form.in_primary (viewed before i given) (viewed before i put)
      (cache_over after j).pool at rec w pushes.newest link
  pushes_pages = subst (λ (pages : Pages). PushesPages form.in_primary (viewed before i given)
      (viewed before i put) pages at rec w pushes.newest link) (sym final_is) (record {
        put_page = put_page form one none before i changes.geometry fresh (left_state (alone by) state) start.layout
            start.reading start.sound rec table of given put (need_of pushes.bytes) at pushes.bytes
            pushes.pushes.pointers puts w pushes.spells contents orders within_;
        put = put_cells form one none before i changes.geometry fresh (left_state (alone by) state) start.layout
            start.reading start.sound rec table of given put (need_of pushes.bytes) at pushes.bytes
            pushes.pushes.pointers puts w pushes.spells contents orders within_;
        free = free form one none before i changes.geometry fresh (left_state (alone by) state) start.layout
            start.reading start.sound rec table of given put (need_of pushes.bytes) at pushes.bytes
            pushes.pushes.pointers puts w pushes.spells contents orders within_;
        apart = apart form one none before i changes.geometry fresh (left_state (alone by) state) start.layout
            start.reading start.sound rec table of given put (need_of pushes.bytes) at pushes.bytes
            pushes.pushes.pointers puts w pushes.spells contents orders within_;
        slot_page = turn_page form one none before i changes.geometry fresh (left_state (alone by) state) start.layout
            start.reading start.sound rec table of given put (need_of pushes.bytes) at pushes.bytes
            pushes.pushes.pointers puts w pushes.spells contents orders within_ turned link
            pushes.pushes.turns;
        slot = slot_put form one none before i changes.geometry fresh (left_state (alone by) state) start.layout
            start.reading start.sound rec table of given put (need_of pushes.bytes) at pushes.bytes
            pushes.pushes.pointers puts w pushes.spells contents orders within_ apart_at ∙ pushes.head.slot;
        turn = turn_cells form one none before i changes.geometry fresh (left_state (alone by) state) start.layout
            start.reading start.sound rec table of given put (need_of pushes.bytes) at pushes.bytes
            pushes.pushes.pointers puts w pushes.spells contents orders within_ turned link
            pushes.pushes.turns;
        leads = (refl, refl);
        back = refl;
      })

  has_at : contents at.page.0 ≢ None
  has_at = within_.pages at.page.0 (has_here given put at.page.0 puts.one.bytes puts.one.puts)

  left_by_batch : (q : ℕ) → contents q ≡ None → viewed before i put q ≡ (cache_over after j).pool q
  left_by_batch q none_ = sym (ap (λ (pages : Pages). pages q) final_is
      ∙ viewed_else before i put turned rec.page.0 pushes.pushes.turns.puts.one.bytes
      pushes.pushes.turns.puts.one.puts q off)
    where
      off : q ≢ rec.page.0
      off same = within_turned.pages rec.page.0 (has_here put turned rec.page.0
          pushes.pushes.turns.puts.one.bytes pushes.pushes.turns.puts.one.puts)
          (ap contents (sym same) ∙ none_)

  in_slot : (a c : ℕ) → lists (slot_orders at.page.0 rec.page.0 pushes.pushes.pointers) a c ≡ true
      → orders a c ≡ true
  in_slot a c is = subst (λ (ps : List Order). lists ps a c ≡ true) (sym pushes.pushes.ordered.added)
      (lists_later turned.orders os a c (lists_later
      (version_orders turned.pages at.page.0 (Some pushes.newest))
      (slot_orders at.page.0 rec.page.0 pushes.pushes.pointers) a c is))

  first_slot : (n : ℕ) → Has (0 ∷ at.page.0 ∷ []) n → n ≢ rec.page.0 → orders n rec.page.0 ≡ true
  first_slot n there ne = in_slot n rec.page.0 (lists_sooner
      (before_page (0 ∷ at.page.0 ∷ []) rec.page.0) (before_page pushes.pushes.pointers rec.page.0) n
      rec.page.0 (ordered_page (0 ∷ at.page.0 ∷ []) n rec.page.0 there ne))

  orders_push : OrdersPush orders (viewed before i put) table at rec
  orders_push = record {
    header = first_slot 0 (inl refl) (header_off form one none before i changes.geometry fresh
        (left_state (alone by) state) start.layout start.reading start.sound rec table of given put
        (need_of pushes.bytes) at pushes.bytes pushes.pushes.pointers puts w pushes.spells contents orders
        within_);
    cell = λ ne. first_slot at.page.0 (inr (inl refl)) ne;
    pointers = walk_ordered form one none before i changes.geometry fresh (left_state (alone by) state) start.layout
        start.reading start.sound rec table of given put (need_of pushes.bytes) at pushes.bytes
        pushes.pushes.pointers puts w pushes.spells contents orders within_ at.page.0
        pushes.pushes.pointers reached (λ k there ne. in_slot k rec.page.0 (lists_later
        (before_page (0 ∷ at.page.0 ∷ []) rec.page.0) (before_page pushes.pushes.pointers rec.page.0) k
        rec.page.0 (ordered_page pushes.pushes.pointers k rec.page.0 there ne)));
  }

  finds : (row : Row) → ForEach form size state pool (λ s layout r. IsTableOf layout table
      → MayBeWritten form.coding (facts_by s pool layout) table (record_key table (r rec))
      (written at v (Some pushes.newest) row))
      → (chosen : ℕ → Bool) (layout : Layout) (r : Reading)
      → IsSoundBy form size (left_state chosen state) pool layout r
      → PushThere form pool rec table (end_of puts.gives.pointers puts.gives.data_pages)
      (written at v (Some pushes.newest) row) (left_state chosen state) layout r
      ⊎ ((left_state chosen state by ≡ Dead) × HasNoneOf layout
      (slice_index puts.gives.pointers (length puts.gives.pointers - 1)) (at.page.0 ∷ rec.page.0 ∷ []))
  finds row may chosen layout r sound = by_whose (whose chosen layout r sound)
    where
      by_whose : IsTableOf layout table ⊎ IsNotThere by (left_state chosen state) pool layout table
          → PushThere form pool rec table (end_of puts.gives.pointers puts.gives.data_pages)
          (written at v (Some pushes.newest) row) (left_state chosen state) layout r
          ⊎ ((left_state chosen state by ≡ Dead) × HasNoneOf layout
          (slice_index puts.gives.pointers (length puts.gives.pointers - 1))
          (at.page.0 ∷ rec.page.0 ∷ []))
      by_whose (inl there) = inl (
        ends_there form size (left_state chosen state) pool layout r sound table there puts.gives.pointers
            puts.gives.data_pages puts.gives.table,
        settled_found form size (left_state chosen state) pool layout r sound rec table
            (placed chosen layout r sound there) pushes.newest pushes.head.slot
            (ap (left_by (chosen pushes.newest.tx.0)) settled
            ∙ left_committed (chosen pushes.newest.tx.0)),
        may chosen layout r sound there,
      )
      by_whose (inr unmade) = inr (
        unmade.dead,
        beyond_two form none before i fresh given table
            (need_of pushes.bytes) at.page changes.geometry puts.gives (left_state (alone by) state)
            start.layout start.reading start.sound its (left_state chosen state) layout r sound unmade.out
            rec.page.0 of,
      )

  pub push_row : (event : Event) (row : Row) → v.tx.0 ≡ by → asked by ≡ false
      → ForEach form size state pool (λ s layout r. IsTableOf layout table
      → MayBeWritten form.coding (facts_by s pool layout) table (record_key table (r rec))
      (written at v (Some pushes.newest) row))
      → LeavesOthers o h event by
      → ((chosen : ℕ → Bool) → chosen by ≡ true
      → (kept : IsKept form size o h (left_state chosen state) pool pool)
      → WritesRow form size o h event (left_state chosen state) pool pool rec table
      (written at v (Some pushes.newest) row) kept)
      → KeptIn form size o (event ∷ h) state asked session after j
  push_row event row is_by not_asked may brings knows =
      push_for_every form one none size o h event by state (cache_over before i) (cache_over after j)
      (viewed before i given) (viewed before i put) it.gone contents orders (needs_in asked session before)
      (needs_in asked session after) (end_of puts.gives.pointers puts.gives.data_pages) some_grows.final rec
      table (written at v (Some pushes.newest) row) pushes.newest link it.changes active is_by it.left
      (needs_all after j asked session by not_asked) some_grows.grows pushes_pages has_at left_by_batch
      orders_push (finds row may) brings knows every

pub push_row_keeps_for : (form : Form) → RowsAreOne form.coding → HasNoSequences form → (D L : Type 0)
    (m : Meaning D) → PushRowKeepsFor form D L m
push_row_keeps_for form one none D L m before after i j batch asked session o h event by state rec v row table
    changes pushes active is_by not_asked whose placed settled may brings knows every =
    push_row form one none m before after i j batch asked session o h by state rec v table changes pushes
    active whose placed settled every event row is_by not_asked may brings knows

-- a push of an active transaction that has not asked for its commit, changed by the cache in a batch of
-- its own: every overlay is kept, for the history with that write
abbrev pub PushRowKeeps : Form → (D L : Type 0) → Meaning D → Type 0
PushRowKeeps form D L m = (before after : Pool D L) (i j : Image) (batch : Changed) (asked : Asked)
    (session : Sessions) (o : Opening) (h : Entries) (event : Event) (by : ℕ) (state : ℕ → TxState)
    (rec : RecId) (v : Version) (row : Row) (table : Table)
    → ChangesFresh m before after i j batch → (pushes : Pushes before i fresh batch rec v)
    → state by ≡ Active → v.tx.0 ≡ by → asked by ≡ false
    -- the record, whose newest version is committed, and the version
    → ForEach form before.geometry.size state (shown before.dirty i)
    (λ s layout r. table_at (stands_of layout) rec.page.0 ≡ Some table)
    → state pushes.newest.tx.0 ≡ Committed
    → ForEach form before.geometry.size state (shown before.dirty i) (λ s layout r. MayBeWritten
    form.coding (facts_by s (shown before.dirty i) layout) table (record_key table (r rec))
    (written pushes.pushes.at v (Some pushes.newest) row))
    -- the history, and the statement
    → LeavesOthers o h event by
    → ((chosen : ℕ → Bool) → chosen by ≡ true → (kept : IsKept form before.geometry.size o h
    (left_state chosen state) (shown before.dirty i) (shown before.dirty i))
    → WritesRow form before.geometry.size o h event (left_state chosen state) (shown before.dirty i)
    (shown before.dirty i) rec table (written pushes.pushes.at v (Some pushes.newest) row) kept)
    → KeptIn form before.geometry.size o h state asked session before i
    → KeptIn form before.geometry.size o (event ∷ h) state asked session after j

pub push_row_keeps : (form : Form) → RowsAreOne form.coding → HasNoSequences form → (D L : Type 0)
    (m : Meaning D) → PushRowKeeps form D L m
push_row_keeps form one none D L m before after i j batch asked session o h event by state rec v row table
    changes pushes active is_by not_asked placed settled may brings knows every =
    push_row_keeps_for form one none D L m before after i j batch asked session o h event by state rec v row
    table changes pushes active is_by not_asked
    (λ chosen layout r sound. inl (table_of_page layout rec.page.0 table (placed chosen layout r sound)))
    (λ chosen layout r sound its. placed chosen layout r sound) settled
    (λ chosen layout r sound its. may chosen layout r sound) brings knows every
