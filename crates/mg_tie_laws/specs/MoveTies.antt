-- An own version that version chains move to another cell keeps every overlay.
use Rattle.mg_base.specs.Disk.{Meaning}
use Rattle.mg_base.specs.Image.{Image}
use Rattle.mg_base.specs.declared.numbers.RecId.{RecId}
use Rattle.mg_base.specs.declared.transaction.TxState.{TxState}
use Rattle.mg_base.specs.declared.transaction.TxState.TheVariants.{Active, Dead}
use Rattle.mg_careful.specs.Precedence.{Orders}
use Rattle.mg_careful.specs.declared.graph.Order.{Order}
use Rattle.mg_chain.specs.Orders.{before_page, move_orders, push_orders, slot_orders, version_orders}
use Rattle.mg_chain.specs.Writing.{Moves, Replaces, SlotIsReached, TurnsTo, leading_to, link_to}
use Rattle.mg_tie_laws.specs.FreeTies.{frees_cells, frees_else, frees_page, frees_within, version_apart}
use Rattle.mg_tie_laws.specs.Newest.{newest_found, newest_placed}
use Rattle.mg_tie_laws.specs.PushTies.{written}
use Rattle.mg_tie_laws.specs.PutTies.{PutsGiven, apart, free, grows, other_cells, put_cells, put_page, slot_given, slot_put, to, turn_cells, turn_page, walk_ordered}
use Rattle.mg_tie_laws.specs.Rows.{ForEach, ordered_page, table_of_page, within_orders, within_put}
use Rattle.mg_image_overlay_laws.specs.tables.Growing.{IsTableOf, MayBeWritten}
use Rattle.mg_heap.specs.Reach.{IsReached}
use Rattle.mg_heap.specs.Room.{GivesRoom}
use Rattle.mg_tie_laws.specs.Batches.{IsWithin, has_here, lists_later, lists_sooner, viewed_same, within_self}
use Rattle.mg_tie_laws.specs.CellTies.{HasLawfulCells, cells_still, lawful_cells, owner_told}
use Rattle.mg_tie_laws.specs.OutTies.{beyond_three}
use Rattle.mg_tie_laws.specs.RoomTies.{GrowsSome, end_of, ends_there}
use Rattle.mg_image.specs.Form.{Form, Pages, Row}
use Rattle.mg_image.specs.ReadingLaws.{RowsAreOne}
use Rattle.mg_image.specs.Records.{Changes, Reading, cells_of, record_key, slot_cell}
use Rattle.mg_image.specs.Sound.{IsSoundBy, facts_by}
use Rattle.mg_image.specs.Tables.{Layout, stands_of, table_at}
use Rattle.mg_image_overlay_laws.specs.pages.DataPages.{ChangesData}
use Rattle.mg_image_overlay_laws.specs.pages.Kinds.{HasNoSequences}
use Rattle.mg_image_overlay_laws.specs.transactions.CommitLaws.{LeavesOthers}
use Rattle.mg_image_overlay_laws.specs.kept.KeptImages.{IsKept, keeping}
use Rattle.mg_image_overlay_laws.specs.pages.Reach.{IsEntered}
use Rattle.mg_model.specs.History.{Entries}
use Rattle.mg_model.specs.declared.opening.Opening.{Opening}
use Rattle.mg_model.specs.declared.table.Table.{Table}
use Rattle.mg_overlay_laws.specs.BatchLaws.{good_of_pool}
use Rattle.mg_overlay_laws.specs.Overlays.{left_state}
use Rattle.mg_image_overlay_laws.specs.records.MovePart.{MovesPages, OrdersMove}
use Rattle.mg_image_overlay_laws.specs.records.OwnVersion.{RewritesRow}
use Rattle.mg_image_overlay_laws.specs.tables.MoveFor.{MoveThere, move_for_every}
use Rattle.mg_image_overlay_laws.specs.names.NotThere.{HasNoneOf, IsNotThere}
use Rattle.mg_image_overlay_laws.specs.names.Whose.{IsTableFor, alone, alone_is, maker_has}
use Rattle.mg_pool.specs.Batch.{Changed, content_in, lists}
use Rattle.mg_pool.specs.Pool.{shown}
use Rattle.mg_pool.specs.declared.pool.Pool.{Pool}
use Rattle.mg_pool_overlay_laws.specs.Needs.{Asked, Sessions}
use Rattle.mg_slots.specs.DataPage.{cell_of}
use Rattle.mg_slots.specs.Room.{need_of}
use Rattle.mg_slots.specs.RoomLaws.{least_free_is_free}
use Rattle.mg_space.specs.View.{viewed}
use Rattle.mg_space.specs.ViewLaws.{viewed_else}
use Rattle.mg_tie_laws.specs.Changed.{BatchIsChanged, ChangesFresh, KeptIn, cache_over, changed_fresh, fresh, needs_all, needs_in}
use Rattle.mg_version.specs.declared.cell.Link.{Link}
use Rattle.mg_version.specs.declared.cell.Version.{Version}
use Rattle.std.proofs.Common.{Bool, List, None, Option, Some, [], ap, false, inl, inr, length, refl, subst, sym, true, ℕ, ◌++◌, ◌-◌, ◌∙◌, ◌∷◌, ◌≡◌, ◌≢◌, ◌⊎◌}
use Rattle.std.specs.Prelude.{slice_index}
use Rattle.mg_model.specs.History.{Entry as Event}
use Rattle.mg_version.specs.declared.cell.Cell.TheVariants as cells

-- an active transaction that has not asked for its commit moves its own version to another cell, in a table
-- that is there or its own, changed by the cache in a batch of its own: every overlay is kept, for the
-- history with that write
abbrev pub MoveRowKeepsFor : Form → (D L : Type 0) → Meaning D → Type 0
MoveRowKeepsFor form D L m = (before after : Pool D L) (i j : Image) (batch : Changed) (asked : Asked)
    (session : Sessions) (o : Opening) (h : Entries) (event : Event) (by : ℕ) (state : ℕ → TxState)
    (rec : RecId) (v : Version) (row : Row) (table : Table)
    → ChangesFresh m before after i j batch → (replaces : Replaces before i fresh batch rec v)
    → (moves : Moves before i fresh batch rec replaces.newest replaces.owner replaces.bytes v.tx
    replaces.was.back)
    → state by ≡ Active → v.tx.0 ≡ by → asked by ≡ false
    -- whose table it is; where it stands the record is its, and the version may be written
    → IsTableFor form before.geometry.size by state (shown before.dirty i) table
    → ForEach form before.geometry.size state (shown before.dirty i)
    (λ s layout r. IsTableOf layout table → table_at (stands_of layout) rec.page.0 ≡ Some table)
    → ForEach form before.geometry.size state (shown before.dirty i) (λ s layout r. IsTableOf layout table
    → MayBeWritten form.coding (facts_by s (shown before.dirty i) layout) table (record_key table (r rec))
    (written moves.at v replaces.was.back row))
    -- the history, and the statement
    → LeavesOthers o h event by
    → ((chosen : ℕ → Bool) → chosen by ≡ true → (kept : IsKept form before.geometry.size o h
    (left_state chosen state) (shown before.dirty i) (shown before.dirty i))
    → RewritesRow form before.geometry.size o h event (left_state chosen state) (shown before.dirty i)
    (shown before.dirty i) rec table (written moves.at v replaces.was.back row) kept)
    → KeptIn form before.geometry.size o h state asked session before i
    → KeptIn form before.geometry.size o (event ∷ h) state asked session after j

module _ (form : Form) (one : RowsAreOne form.coding) (none : HasNoSequences form)
    (no_primary : form.in_primary ≡ false) {D L : Type 0} (m : Meaning D) (before after : Pool D L)
    (i j : Image) (batch : Changed) (asked : Asked) (session : Sessions) (o : Opening) (h : Entries) (by : ℕ)
    (state : ℕ → TxState) (rec : RecId) (v : Version) (table : Table)
    (changes : ChangesFresh m before after i j batch) (replaces : Replaces before i fresh batch rec v)
    (moves : Moves before i fresh batch rec replaces.newest replaces.owner replaces.bytes v.tx
    replaces.was.back)
    (active : state by ≡ Active)
    (whose : IsTableFor form before.geometry.size by state (shown before.dirty i) table)
    (placed : ForEach form before.geometry.size state (shown before.dirty i)
    (λ s layout r. IsTableOf layout table → table_at (stands_of layout) rec.page.0 ≡ Some table))
    (every : KeptIn form before.geometry.size o h state asked session before i) where
  abbrev size : ℕ
  size = before.geometry.size

  abbrev pool : Pages
  pool = shown before.dirty i

  abbrev at : RecId
  at = moves.at

  abbrev x : RecId
  x = replaces.newest.rec

  abbrev link : Link
  link = link_to at v.tx

  abbrev w : Version
  w = leading_to v replaces.was.back

  abbrev given : Changed
  given = moves.puts.adds.given

  abbrev put : Changed
  put = moves.put

  abbrev turned : Changed
  turned = moves.swings.turned

  abbrev freed : Changed
  freed = moves.freed

  abbrev contents : ℕ → Option (List ℕ)
  contents = content_in batch.pages

  abbrev orders : Orders
  orders = lists batch.orders

  it : BatchIsChanged before after i j batch asked session
  it = changed_fresh m before after i j batch asked session changes

  start : IsKept form size o h (left_state (alone by) state) pool pool
  start = good_of_pool (keeping form size o h) state (cache_over before i) (needs_in asked session before)
      it.changes.was_clean (λ t p needs. (it.left t p needs).0) every (alone by)

  -- the image in which the writer counts as in limbo has the table
  its : IsTableOf start.layout table
  its = maker_has form size by state pool table active whose (alone by) (alone_is by) start.layout
      start.reading start.sound

  of : table_at (stands_of start.layout) rec.page.0 ≡ Some table
  of = placed (alone by) start.layout start.reading start.sound its

  x_of : table_at (stands_of start.layout) x.page.0 ≡ Some table
  x_of = newest_placed form size (left_state (alone by) state) pool start.layout start.reading start.sound rec
      table of replaces.newest replaces.its.head.slot

  owner_is : replaces.owner ≡ table.pointer.0
  owner_is = replaces.its.head.owned.is ∙ owner_told form size (left_state (alone by) state) pool start.layout
      start.reading start.sound rec.page.0 table of

  reached : IsReached (viewed before i put) table.pointer.0 at.page.0 moves.pointers
  reached = subst (λ (k : ℕ). IsReached (viewed before i put) k at.page.0 moves.pointers) owner_is
      moves.puts.reached

  pub puts : PutsGiven before i fresh given put table.pointer.0 (need_of replaces.bytes) at replaces.bytes
      moves.pointers
  puts = record {
    gives = subst (λ (k : ℕ). GivesRoom before i fresh given k (need_of replaces.bytes) at.page) owner_is
        moves.puts.adds.gives;
    one = moves.puts.adds.one;
    data_page = moves.puts.adds.puts.puts.data_page;
    was_free = ap (cell_of (viewed before i given at.page.0)) moves.puts.adds.puts.least
        ∙ least_free_is_free (viewed before i given at.page.0);
    sets = moves.puts.adds.puts.puts.puts.sets;
    others = moves.puts.adds.puts.puts.others;
    reached = reached;
  }

  turns : TurnsTo before i put turned rec link
  turns = moves.swings.turns

  abbrev os : List Order
  os = move_orders freed.pages at.page.0 rec.page.0 replaces.was.back moves.pointers moves.slot_pointers
      x.page.0

  within_freed : IsWithin contents orders freed
  within_freed = within_orders contents orders freed batch os moves.ordered (within_self batch)

  within_turned : IsWithin contents orders turned
  within_turned = frees_within before i contents orders turned freed x moves.swings.frees within_freed

  within_ : IsWithin contents orders put
  within_ = within_put contents orders put turned rec.page.0 turns.puts.one.bytes turns.puts.one.puts
      within_turned

  pub some_grows : GrowsSome form.in_primary size table.pointer.0 orders contents pool
      (end_of puts.gives.pointers puts.gives.data_pages) (viewed before i given)
  some_grows = grows form one none before i changes.geometry fresh (left_state (alone by) state) start.layout
      start.reading start.sound rec table of given put (need_of replaces.bytes) at replaces.bytes
      moves.pointers puts w replaces.spells contents orders within_

  -- ---- what is apart

  x_given : cells_of (viewed before i given) x ≡ Some (cells.Version replaces.was)
  x_given = ap (λ (page : List ℕ). slot_cell (cell_of page x.slot))
      ((to form one none before i changes.geometry fresh (left_state (alone by) state) start.layout
      start.reading start.sound rec table of given put (need_of replaces.bytes) at replaces.bytes
      moves.pointers puts w replaces.spells contents orders within_).data_same x.page.0 table x_of) ∙ replaces.its.meets.cell

  at_free : cells_of (viewed before i given) at ≡ None
  at_free = free form one none before i changes.geometry fresh (left_state (alone by) state) start.layout
      start.reading start.sound rec table of given put (need_of replaces.bytes) at replaces.bytes
      moves.pointers puts w replaces.spells contents orders within_

  rec_given : cells_of (viewed before i given) rec ≡ Some (cells.Anchor replaces.newest)
  rec_given = slot_given form one none before i changes.geometry fresh (left_state (alone by) state) start.layout
      start.reading start.sound rec table of given put (need_of replaces.bytes) at replaces.bytes
      moves.pointers puts w replaces.spells contents orders within_ ∙ replaces.its.head.slot

  rec_apart : rec ≢ at
  rec_apart same =
      let none_ : cells_of (viewed before i given) rec ≡ None =
      ap (cells_of (viewed before i given)) same ∙ at_free in
      let both = sym none_ ∙ rec_given in absurd cc

  x_apart : x ≢ at
  x_apart same =
      let none_ : cells_of (viewed before i given) x ≡ None =
      ap (cells_of (viewed before i given)) same ∙ at_free in
      let both = sym none_ ∙ x_given in absurd cc

  x_off_rec : x ≢ rec
  x_off_rec same =
      let both : Some (cells.Version replaces.was) ≡ Some (cells.Anchor replaces.newest) =
      sym x_given ∙ (ap (cells_of (viewed before i given)) same ∙ rec_given) in absurd cc

  -- ---- the pages

  putting : ChangesData form.in_primary (viewed before i given) (viewed before i put) at.page.0
  putting = put_page form one none before i changes.geometry fresh (left_state (alone by) state) start.layout
      start.reading start.sound rec table of given put (need_of replaces.bytes) at replaces.bytes
      moves.pointers puts w replaces.spells contents orders within_

  put_is : Changes (cells_of (viewed before i given)) (cells_of (viewed before i put)) at
      (Some (cells.Version w))
  put_is = put_cells form one none before i changes.geometry fresh (left_state (alone by) state) start.layout
      start.reading start.sound rec table of given put (need_of replaces.bytes) at replaces.bytes
      moves.pointers puts w replaces.spells contents orders within_

  turning : ChangesData form.in_primary (viewed before i put) (viewed before i turned) rec.page.0
  turning = turn_page form one none before i changes.geometry fresh (left_state (alone by) state) start.layout
      start.reading start.sound rec table of given put (need_of replaces.bytes) at replaces.bytes
      moves.pointers puts w replaces.spells contents orders within_ turned link turns

  turn_is : Changes (cells_of (viewed before i put)) (cells_of (viewed before i turned)) rec
      (Some (cells.Anchor link))
  turn_is = turn_cells form one none before i changes.geometry fresh (left_state (alone by) state) start.layout
      start.reading start.sound rec table of given put (need_of replaces.bytes) at replaces.bytes
      moves.pointers puts w replaces.spells contents orders within_ turned link turns

  x_there : cells_of (viewed before i turned) x ≡ Some (cells.Version replaces.was)
  x_there = turn_is.others x x_off_rec ∙ (put_is.others x x_apart ∙ x_given)

  x_cells : HasLawfulCells form.in_primary (viewed before i turned) x.page.0
  x_cells = cells_still form.in_primary (viewed before i put) (viewed before i turned) rec.page.0 x.page.0
      turning (other_cells form one none before i changes.geometry fresh (left_state (alone by) state) start.layout
      start.reading start.sound rec table of given put (need_of replaces.bytes) at replaces.bytes
      moves.pointers puts w replaces.spells contents orders within_ x.page.0 x_of)

  was_apart : replaces.was.primary ≡ false
  was_apart = version_apart pool x replaces.was
      (subst (λ (b : Bool). HasLawfulCells b pool x.page.0) no_primary
      (lawful_cells form size (left_state (alone by) state) pool start.layout start.reading start.sound
      x.page.0 table x_of)) replaces.its.meets.cell

  final_is : (cache_over after j).pool ≡ viewed before i freed
  final_is = it.pool ∙ viewed_same before i freed batch moves.ordered.same_pages

  pub moves_pages : (row : Row) → MovesPages form.in_primary (viewed before i given) (viewed before i put)
      (viewed before i turned) (cache_over after j).pool rec x replaces.was
      (written at v replaces.was.back row) replaces.newest link
  moves_pages row = subst (λ (pages : Pages). MovesPages form.in_primary (viewed before i given)
      (viewed before i put) (viewed before i turned) pages rec x replaces.was
      (written at v replaces.was.back row) replaces.newest link) (sym final_is) (record {
        put_page = putting;
        put = put_is;
        free = at_free;
        apart = apart form one none before i changes.geometry fresh (left_state (alone by) state) start.layout
            start.reading start.sound rec table of given put (need_of replaces.bytes) at replaces.bytes
            moves.pointers puts w replaces.spells contents orders within_;
        tx = sym replaces.own;
        back = refl;
        slot_page = turning;
        slot = slot_put form one none before i changes.geometry fresh (left_state (alone by) state) start.layout
            start.reading start.sound rec table of given put (need_of replaces.bytes) at replaces.bytes
            moves.pointers puts w replaces.spells contents orders within_ rec_apart ∙ replaces.its.head.slot;
        turn = turn_is;
        leads = (refl, refl);
        frees = record {
          page = frees_page form.in_primary before i turned freed x moves.swings.frees
              (cells.Version replaces.was) x_there x_cells;
          cell = x_there;
          apart = was_apart;
          freed = frees_cells form.in_primary before i turned freed x moves.swings.frees
              (cells.Version replaces.was) x_there;
        };
      })

  -- ---- the batch

  has_at : contents at.page.0 ≢ None
  has_at = within_.pages at.page.0 (has_here given put at.page.0 puts.one.bytes puts.one.puts)

  has_slot : contents rec.page.0 ≢ None
  has_slot = within_turned.pages rec.page.0 (has_here put turned rec.page.0 turns.puts.one.bytes
      turns.puts.one.puts)

  left_by_batch : (q : ℕ) → contents q ≡ None → viewed before i put q ≡ (cache_over after j).pool q
  left_by_batch q none_ = sym (ap (λ (pages : Pages). pages q) final_is
      ∙ (frees_else before i turned freed x moves.swings.frees q (λ has_. within_freed.pages q has_ none_)
      ∙ viewed_else before i put turned rec.page.0 turns.puts.one.bytes turns.puts.one.puts q
      (λ same. has_slot (ap contents (sym same) ∙ none_))))

  in_moves : (a c : ℕ) → lists os a c ≡ true → orders a c ≡ true
  in_moves a c is = subst (λ (ps : List Order). lists ps a c ≡ true) (sym moves.ordered.added)
      (lists_later freed.orders os a c is)

  abbrev pushing : List Order
  pushing = push_orders freed.pages at.page.0 rec.page.0 replaces.was.back moves.pointers

  abbrev first_part : List Order
  first_part = pushing ++ before_page moves.slot_pointers rec.page.0

  in_push : (a c : ℕ) → lists pushing a c ≡ true → orders a c ≡ true
  in_push a c is = in_moves a c (lists_sooner first_part (before_page (rec.page.0 ∷ []) x.page.0) a c
      (lists_sooner pushing (before_page moves.slot_pointers rec.page.0) a c is))

  in_walk : (a c : ℕ) → lists (before_page moves.slot_pointers rec.page.0) a c ≡ true → orders a c ≡ true
  in_walk a c is = in_moves a c (lists_sooner first_part (before_page (rec.page.0 ∷ []) x.page.0) a c
      (lists_later pushing (before_page moves.slot_pointers rec.page.0) a c is))

  in_freed : (a c : ℕ) → lists (before_page (rec.page.0 ∷ []) x.page.0) a c ≡ true → orders a c ≡ true
  in_freed a c is = in_moves a c (lists_later first_part (before_page (rec.page.0 ∷ []) x.page.0) a c is)

  in_slot : (a c : ℕ) → lists (slot_orders at.page.0 rec.page.0 moves.pointers) a c ≡ true
      → orders a c ≡ true
  in_slot a c is = in_push a c (lists_later
      (version_orders freed.pages at.page.0 replaces.was.back)
      (slot_orders at.page.0 rec.page.0 moves.pointers) a c is)

  walked : (back : Option Link)
      → SlotIsReached (viewed before i put) replaces.owner rec.page.0 back moves.slot_pointers
      → back ≡ None
      → IsEntered (λ k. orders k rec.page.0 ≡ true) (viewed before i put) rec.page.0 table.pointer.0
  walked (Some l) walk is = absurd cc
  walked None walk is = walk_ordered form one none before i changes.geometry fresh (left_state (alone by) state) start.layout
      start.reading start.sound rec table of given put (need_of replaces.bytes) at replaces.bytes
      moves.pointers puts w replaces.spells contents orders within_ rec.page.0 moves.slot_pointers
      (subst (λ (k : ℕ). IsReached (viewed before i put) k rec.page.0 moves.slot_pointers) owner_is walk)
      (λ k there ne. in_walk k rec.page.0
      (ordered_page moves.slot_pointers k rec.page.0 there ne))

  orders_move : (row : Row) → OrdersMove orders (viewed before i put) table
      (written at v replaces.was.back row) rec x replaces.was
  orders_move row = record {
    cell = λ ne. in_slot at.page.0 rec.page.0 (lists_sooner (before_page (0 ∷ at.page.0 ∷ []) rec.page.0)
        (before_page moves.pointers rec.page.0) at.page.0 rec.page.0
        (ordered_page (0 ∷ at.page.0 ∷ []) at.page.0 rec.page.0 (inr (inl refl)) ne));
    pointers = walk_ordered form one none before i changes.geometry fresh (left_state (alone by) state) start.layout
        start.reading start.sound rec table of given put (need_of replaces.bytes) at replaces.bytes
        moves.pointers puts w replaces.spells contents orders within_ at.page.0 moves.pointers reached (λ k there ne. in_slot k rec.page.0
        (lists_later (before_page (0 ∷ at.page.0 ∷ []) rec.page.0) (before_page moves.pointers rec.page.0) k
        rec.page.0 (ordered_page moves.pointers k rec.page.0 there ne)));
    freed = λ ne. in_freed rec.page.0 x.page.0 (ordered_page (rec.page.0 ∷ []) rec.page.0 x.page.0
        (inl refl) (λ e. ne (sym e)));
    slot_pointers = walked replaces.was.back moves.slot_reached;
  }

  finds : (row : Row) → ForEach form size state pool (λ s layout r. IsTableOf layout table
      → MayBeWritten form.coding (facts_by s pool layout) table (record_key table (r rec))
      (written at v replaces.was.back row))
      → (chosen : ℕ → Bool) (layout : Layout) (r : Reading)
      → IsSoundBy form size (left_state chosen state) pool layout r
      → MoveThere form pool rec x table (end_of puts.gives.pointers puts.gives.data_pages) replaces.was
      (written at v replaces.was.back row) (left_state chosen state) layout r
      ⊎ ((left_state chosen state by ≡ Dead) × HasNoneOf layout
      (slice_index puts.gives.pointers (length puts.gives.pointers - 1))
      (at.page.0 ∷ rec.page.0 ∷ x.page.0 ∷ []))
  finds row may chosen layout r sound = by_whose (whose chosen layout r sound)
    where
      by_whose : IsTableOf layout table ⊎ IsNotThere by (left_state chosen state) pool layout table
          → MoveThere form pool rec x table (end_of puts.gives.pointers puts.gives.data_pages) replaces.was
          (written at v replaces.was.back row) (left_state chosen state) layout r
          ⊎ ((left_state chosen state by ≡ Dead) × HasNoneOf layout
          (slice_index puts.gives.pointers (length puts.gives.pointers - 1))
          (at.page.0 ∷ rec.page.0 ∷ x.page.0 ∷ []))
      by_whose (inl there) = inl (
        ends_there form size (left_state chosen state) pool layout r sound table there puts.gives.pointers
            puts.gives.data_pages puts.gives.table,
        newest_found form size (left_state chosen state) pool layout r sound rec table
            (placed chosen layout r sound there) replaces.newest replaces.its.head.slot replaces.was
            replaces.its.meets.cell,
        may chosen layout r sound there,
      )
      by_whose (inr unmade) = inr (
        unmade.dead,
        beyond_three form none before i fresh given table
            (need_of replaces.bytes) at.page changes.geometry puts.gives (left_state (alone by) state)
            start.layout start.reading start.sound its (left_state chosen state) layout r sound unmade.out
            rec.page.0 x.page.0 of x_of,
      )

  pub move_row : (event : Event) (row : Row) → v.tx.0 ≡ by → asked by ≡ false
      → ForEach form size state pool (λ s layout r. IsTableOf layout table
      → MayBeWritten form.coding (facts_by s pool layout) table (record_key table (r rec))
      (written at v replaces.was.back row))
      → LeavesOthers o h event by
      → ((chosen : ℕ → Bool) → chosen by ≡ true
      → (kept : IsKept form size o h (left_state chosen state) pool pool)
      → RewritesRow form size o h event (left_state chosen state) pool pool rec table
      (written at v replaces.was.back row) kept)
      → KeptIn form size o (event ∷ h) state asked session after j
  move_row event row is_by not_asked may brings knows =
      move_for_every form one none size o h event by state (cache_over before i) (cache_over after j)
      (viewed before i given) (viewed before i put) (viewed before i turned) it.gone contents orders
      (needs_in asked session before) (needs_in asked session after)
      (end_of puts.gives.pointers puts.gives.data_pages) some_grows.final rec x table replaces.was
      (written at v replaces.was.back row) replaces.newest link it.changes active is_by it.left
      (needs_all after j asked session by not_asked) some_grows.grows (moves_pages row) has_at has_slot
      left_by_batch (orders_move row) (finds row may) brings knows every

pub move_row_keeps_for : (form : Form) → RowsAreOne form.coding → HasNoSequences form
    → form.in_primary ≡ false → (D L : Type 0) (m : Meaning D) → MoveRowKeepsFor form D L m
move_row_keeps_for form one none no_primary D L m before after i j batch asked session o h event by state rec v
    row table changes replaces moves active is_by not_asked whose placed may brings knows every =
    move_row form one none no_primary m before after i j batch asked session o h by state rec v table changes
    replaces moves active whose placed every event row is_by not_asked may brings knows

-- an active transaction that has not asked for its commit moves its own version to another cell, changed by
-- the cache in a batch of its own: every overlay is kept, for the history with that write
abbrev pub MoveRowKeeps : Form → (D L : Type 0) → Meaning D → Type 0
MoveRowKeeps form D L m = (before after : Pool D L) (i j : Image) (batch : Changed) (asked : Asked)
    (session : Sessions) (o : Opening) (h : Entries) (event : Event) (by : ℕ) (state : ℕ → TxState)
    (rec : RecId) (v : Version) (row : Row) (table : Table)
    → ChangesFresh m before after i j batch → (replaces : Replaces before i fresh batch rec v)
    → (moves : Moves before i fresh batch rec replaces.newest replaces.owner replaces.bytes v.tx
    replaces.was.back)
    → state by ≡ Active → v.tx.0 ≡ by → asked by ≡ false
    -- the record, and the version
    → ForEach form before.geometry.size state (shown before.dirty i)
    (λ s layout r. table_at (stands_of layout) rec.page.0 ≡ Some table)
    → ForEach form before.geometry.size state (shown before.dirty i) (λ s layout r. MayBeWritten
    form.coding (facts_by s (shown before.dirty i) layout) table (record_key table (r rec))
    (written moves.at v replaces.was.back row))
    -- the history, and the statement
    → LeavesOthers o h event by
    → ((chosen : ℕ → Bool) → chosen by ≡ true → (kept : IsKept form before.geometry.size o h
    (left_state chosen state) (shown before.dirty i) (shown before.dirty i))
    → RewritesRow form before.geometry.size o h event (left_state chosen state) (shown before.dirty i)
    (shown before.dirty i) rec table (written moves.at v replaces.was.back row) kept)
    → KeptIn form before.geometry.size o h state asked session before i
    → KeptIn form before.geometry.size o (event ∷ h) state asked session after j

pub move_row_keeps : (form : Form) → RowsAreOne form.coding → HasNoSequences form
    → form.in_primary ≡ false → (D L : Type 0) (m : Meaning D) → MoveRowKeeps form D L m
move_row_keeps form one none no_primary D L m before after i j batch asked session o h event by state rec v
    row table changes replaces moves active is_by not_asked placed may brings knows every =
    move_row_keeps_for form one none no_primary D L m before after i j batch asked session o h event by state
    rec v row table changes replaces moves active is_by not_asked
    (λ chosen layout r sound. inl (table_of_page layout rec.page.0 table (placed chosen layout r sound)))
    (λ chosen layout r sound its. placed chosen layout r sound)
    (λ chosen layout r sound its. may chosen layout r sound) brings knows every
