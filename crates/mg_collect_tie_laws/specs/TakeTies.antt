-- The newest version of a record is taken out in a batch of its own, by nobody's work: a dead transaction's, or a committed
-- deletion that is the only one. Every overlay is kept.
use Rattle.std.proofs.Common.{◌≡◌, ◌≢◌, inl, ap, sym, subst, ◌∙◌, refl, ℕ, ◌++◌, ◌∷◌, [], arith, Bool, true, false, List, Option, None, Some}
use Rattle.mg_base.specs.Disk.{Meaning}
use Rattle.mg_base.specs.Fields.{byte}
use Rattle.mg_base.specs.Image.{Image}
use Rattle.mg_base.specs.declared.numbers.RecId.{RecId}
use Rattle.mg_base.specs.declared.transaction.TxState.{TxState}
use Rattle.mg_base.specs.declared.transaction.TxState.TheVariants.{Committed, Dead}
use Rattle.mg_careful.specs.Precedence.{Orders}
use Rattle.mg_careful.specs.declared.graph.Order.{Order}
use Rattle.mg_chain.specs.Orders.{before_page, out_orders, unchanged_page}
use Rattle.mg_chain.specs.Writing.{SlotIsReached, TakesOut}
use Rattle.mg_heap.specs.Reach.{IsReached}
use Rattle.mg_collect_overlay_laws.specs.Frees.{FreesAll, Places, none_more, one_more}
use Rattle.mg_collect_overlay_laws.specs.GonePart.{FindsErased, FreesSlot, gone_every}
use Rattle.mg_image.specs.Form.{Form, Pages}
use Rattle.mg_image.specs.ReadingLaws.{RowsAreOne}
use Rattle.mg_image.specs.Records.{Changes, Reading, Stands, cells_of}
use Rattle.mg_image.specs.Sound.{IsSoundBy, facts_by}
use Rattle.mg_image.specs.StepLaws.{same_place}
use Rattle.mg_image.specs.Tables.{Has, Layout, stands_of, table_at}
use Rattle.mg_image.specs.declared.entry.Entry.{Entry}
use Rattle.mg_image_overlay_laws.specs.records.BackEvery.{dead_out_every}
use Rattle.mg_image_overlay_laws.specs.records.BackPart.{TakesOutPages}
use Rattle.mg_image_overlay_laws.specs.pages.DataPages.{ChangesData}
use Rattle.mg_image_overlay_laws.specs.records.FreePart.{FreesPage}
use Rattle.mg_image_overlay_laws.specs.kept.KeptImages.{IsKept, keeping}
use Rattle.mg_image_overlay_laws.specs.pages.Kinds.{HasNoSequences}
use Rattle.mg_image_overlay_laws.specs.records.OwnVersion.{FindsNewest}
use Rattle.mg_image_overlay_laws.specs.pages.Reach.{IsEntered}
use Rattle.mg_image_overlay_laws.specs.records.TakeOut.{back_cell}
use Rattle.mg_model.specs.History.{Entries}
use Rattle.mg_model.specs.declared.opening.Opening.{Opening}
use Rattle.mg_model.specs.declared.table.Table.{Table}
use Rattle.mg_overlay_laws.specs.BatchLaws.{good_of_pool}
use Rattle.mg_overlay_laws.specs.Overlays.{left_by, left_state}
use Rattle.mg_pool.specs.Batch.{Changed, content_in, lists}
use Rattle.mg_pool.specs.Pool.{shown}
use Rattle.mg_pool.specs.declared.pool.Pool.{Pool}
use Rattle.mg_pool_overlay_laws.specs.Needs.{Asked, Sessions}
use Rattle.mg_space.specs.View.{viewed}
use Rattle.mg_tie_laws.specs.Batches.{IsWithin, lists_later, lists_sooner, viewed_same, within_self}
use Rattle.mg_tie_laws.specs.CellTies.{HasLawfulCells, cells_still, lawful_cells, owner_told}
use Rattle.mg_tie_laws.specs.Changed.{BatchIsChanged, ChangesFresh, KeptIn, cache_over, changed_fresh, fresh, needs_in}
use Rattle.mg_tie_laws.specs.FreeTies.{back_cells, back_has, back_page, frees_cells, frees_page, frees_within, version_apart}
use Rattle.mg_tie_laws.specs.Newest.{newest_found, newest_placed}
use Rattle.mg_tie_laws.specs.Rows.{ordered_page, reached_entered, walk_four, within_orders}
use Rattle.mg_version.specs.declared.cell.Cell.TheVariants as cells
use Rattle.mg_version.specs.declared.cell.Link.{Link}
use Rattle.mg_version.specs.declared.cell.Version.{Version}
use Rattle.mg_collect_tie_laws.specs.Chains.{place_is, same_self}

-- a record's only version is a committed deletion and is taken out, changed by the cache in a batch of its own: every
-- overlay is kept, and the history is as it was
abbrev pub EraseKeeps : Form → (D L : Type 0) → Meaning D → Type 0
EraseKeeps form D L m = (first last : Pool D L) (i j : Image) (batch : Changed) (asked : Asked) (session : Sessions)
    (o : Opening) (h : Entries) (state : ℕ → TxState) (rec : RecId) (table : Table)
    → ChangesFresh m first last i j batch → (takes : TakesOut first i fresh batch rec)
    → state takes.was.tx.0 ≡ Committed → takes.was.deleted ≡ true → takes.was.back ≡ None
    -- whoever is chosen, the record is one of the table
    → ((chosen : ℕ → Bool) (layout : Layout) (r : Reading)
    → IsSoundBy form first.geometry.size (left_state chosen state) (shown first.dirty i) layout r
    → table_at (stands_of layout) rec.page.0 ≡ Some table)
    → KeptIn form first.geometry.size o h state asked session first i
    → KeptIn form first.geometry.size o h state asked session last j

-- the newest version of a record is a dead transaction's and is taken out, in a batch of its own: every overlay is kept, and
-- the history is as it was
abbrev pub DeadKeeps : Form → (D L : Type 0) → Meaning D → Type 0
DeadKeeps form D L m = (first last : Pool D L) (i j : Image) (batch : Changed) (asked : Asked) (session : Sessions)
    (o : Opening) (h : Entries) (state : ℕ → TxState) (rec : RecId) (table : Table)
    → ChangesFresh m first last i j batch → (takes : TakesOut first i fresh batch rec) → state takes.was.tx.0 ≡ Dead
    → ((chosen : ℕ → Bool) (layout : Layout) (r : Reading)
    → IsSoundBy form first.geometry.size (left_state chosen state) (shown first.dirty i) layout r
    → table_at (stands_of layout) rec.page.0 ≡ Some table)
    → KeptIn form first.geometry.size o h state asked session first i
    → KeptIn form first.geometry.size o h state asked session last j

module _ (form : Form) (none : HasNoSequences form) (no_primary : form.in_primary ≡ false) {D L : Type 0}
    (m : Meaning D) (first last : Pool D L) (i j : Image) (batch : Changed) (asked : Asked) (session : Sessions)
    (o : Opening) (h : Entries) (state : ℕ → TxState) (rec : RecId) (table : Table)
    (changes : ChangesFresh m first last i j batch) (takes : TakesOut first i fresh batch rec)
    (placed : (chosen : ℕ → Bool) (layout : Layout) (r : Reading)
    → IsSoundBy form first.geometry.size (left_state chosen state) (shown first.dirty i) layout r
    → table_at (stands_of layout) rec.page.0 ≡ Some table)
    (every : KeptIn form first.geometry.size o h state asked session first i) where
  abbrev size : ℕ
  size = first.geometry.size

  abbrev pool : Pages
  pool = shown first.dirty i

  abbrev x : RecId
  x = takes.newest.rec

  abbrev turned : Changed
  turned = takes.taken.swings.turned

  abbrev freed : Changed
  freed = takes.taken.freed

  abbrev pub turned_view : Pages
  turned_view = viewed first i turned

  abbrev freed_view : Pages
  freed_view = viewed first i freed

  abbrev contents : ℕ → Option (List ℕ)
  contents = content_in batch.pages

  abbrev orders : Orders
  orders = lists batch.orders

  it : BatchIsChanged first last i j batch asked session
  it = changed_fresh m first last i j batch asked session changes

  start : IsKept form size o h (left_state (λ t. true) state) pool pool
  start = good_of_pool (keeping form size o h) state (cache_over first i) (needs_in asked session first)
      it.changes.was_clean (λ t q needs. (it.left t q needs).0) every (λ t. true)

  of : table_at (stands_of start.layout) rec.page.0 ≡ Some table
  of = placed (λ t. true) start.layout start.reading start.sound

  x_of : table_at (stands_of start.layout) x.page.0 ≡ Some table
  x_of = newest_placed form size (left_state (λ t. true) state) pool start.layout start.reading start.sound rec
      table of takes.newest takes.its.head.slot

  rec_cells : HasLawfulCells form.in_primary pool rec.page.0
  rec_cells = lawful_cells form size (left_state (λ t. true) state) pool start.layout start.reading start.sound
      rec.page.0 table of

  x_cells : HasLawfulCells form.in_primary pool x.page.0
  x_cells = lawful_cells form size (left_state (λ t. true) state) pool start.layout start.reading start.sound
      x.page.0 table x_of

  owner_is : takes.owner ≡ table.pointer.0
  owner_is = takes.its.head.owned.is ∙ owner_told form size (left_state (λ t. true) state) pool start.layout
      start.reading start.sound rec.page.0 table of

  -- ---- the pages

  slot_page : ChangesData form.in_primary pool turned_view rec.page.0
  slot_page = back_page form.in_primary first i fresh turned rec takes.newest takes.its.head.slot rec_cells
      takes.was.back takes.taken.swings.turns

  turn : Changes (cells_of pool) (cells_of turned_view) rec (back_cell takes.was.back)
  turn = back_cells form.in_primary first i fresh turned rec takes.newest takes.its.head.slot rec_cells
      takes.was.back takes.taken.swings.turns

  apart : x ≢ rec
  apart same =
      let both : Some (cells.Version takes.was) ≡ Some (cells.Anchor takes.newest) =
      sym takes.its.meets.cell ∙ (ap (cells_of pool) same ∙ takes.its.head.slot) in absurd cc

  x_there : cells_of turned_view x ≡ Some (cells.Version takes.was)
  x_there = turn.others x apart ∙ takes.its.meets.cell

  frees : FreesPage form.in_primary turned_view freed_view x takes.was
  frees = record {
    page = frees_page form.in_primary first i turned freed x takes.taken.swings.frees (cells.Version takes.was) x_there
        (cells_still form.in_primary pool turned_view rec.page.0 x.page.0 slot_page x_cells);
    cell = x_there;
    apart = version_apart pool x takes.was
        (subst (λ (b : Bool). HasLawfulCells b pool x.page.0) no_primary x_cells) takes.its.meets.cell;
    freed = frees_cells form.in_primary first i turned freed x takes.taken.swings.frees (cells.Version takes.was)
        x_there;
  }

  final_is : (cache_over last j).pool ≡ freed_view
  final_is = it.pool ∙ viewed_same first i freed batch takes.taken.ordered.same_pages

  -- ---- the batch

  abbrev os : List Order
  os = out_orders freed.pages rec.page.0 takes.was.back takes.taken.slot_pointers x.page.0

  within_freed : IsWithin contents orders freed
  within_freed = within_orders contents orders freed batch os takes.taken.ordered (within_self batch)

  within_turned : IsWithin contents orders turned
  within_turned = frees_within first i contents orders turned freed x takes.taken.swings.frees within_freed

  has_slot : contents rec.page.0 ≢ None
  has_slot = within_turned.pages rec.page.0 (back_has form.in_primary first i fresh turned rec takes.newest
      takes.its.head.slot rec_cells takes.was.back takes.taken.swings.turns)

  in_out : (a c : ℕ) → lists os a c ≡ true → orders a c ≡ true
  in_out a c is = subst (λ (ps : List Order). lists ps a c ≡ true) (sym takes.taken.ordered.added)
      (lists_later freed.orders os a c is)

  abbrev sooner : List Order
  sooner = before_page (unchanged_page freed.pages takes.was.back) rec.page.0
      ++ before_page takes.taken.slot_pointers rec.page.0

  in_walk : (a c : ℕ) → lists (before_page takes.taken.slot_pointers rec.page.0) a c ≡ true → orders a c ≡ true
  in_walk a c is = in_out a c (lists_sooner sooner (before_page (rec.page.0 ∷ []) x.page.0) a c
      (lists_later (before_page (unchanged_page freed.pages takes.was.back) rec.page.0)
      (before_page takes.taken.slot_pointers rec.page.0) a c is))

  before_it : x.page.0 ≢ rec.page.0 → orders rec.page.0 x.page.0 ≡ true
  before_it ne = in_out rec.page.0 x.page.0
      (lists_later sooner (before_page (rec.page.0 ∷ []) x.page.0) rec.page.0 x.page.0
      (ordered_page (rec.page.0 ∷ []) rec.page.0 x.page.0 (inl refl) (λ e. ne (sym e))))

  walked : (back : Option Link) → SlotIsReached pool takes.owner rec.page.0 back takes.taken.slot_pointers
      → back ≡ None → IsEntered (λ k. orders k rec.page.0 ≡ true) pool rec.page.0 table.pointer.0
  walked (Some link) reached is = absurd cc
  walked None reached is = reached_entered (λ k. orders k rec.page.0 ≡ true) pool table.pointer.0 rec.page.0
      takes.taken.slot_pointers walk (λ k there. in_walk k rec.page.0
      (ordered_page takes.taken.slot_pointers k rec.page.0 there (off k there)))
    where
      walk : IsReached pool table.pointer.0 rec.page.0 takes.taken.slot_pointers
      walk = subst (λ (k : ℕ). IsReached pool k rec.page.0 takes.taken.slot_pointers) owner_is reached

      off : (k : ℕ) → Has takes.taken.slot_pointers k → k ≢ rec.page.0
      off k there same =
          let four : byte (pool k) 0 ≡ 4 =
          walk_four pool table.pointer.0 rec.page.0 takes.taken.slot_pointers walk k there in
          let five : byte (pool k) 0 ≡ 5 = ap (λ (q : ℕ). byte (pool q) 0) same ∙ rec_cells.kind in
          omega (arith, four, five)

  pub found : (chosen : ℕ → Bool) (layout : Layout) (r : Reading)
      → IsSoundBy form size (left_state chosen state) pool layout r
      → FindsNewest (facts_by (left_state chosen state) pool layout) r rec table x takes.was
  found chosen layout r sound = newest_found form size (left_state chosen state) pool layout r sound rec table
      (placed chosen layout r sound) takes.newest takes.its.head.slot takes.was takes.its.meets.cell

  -- what becomes of the pages
  pub taken_pages : TakesOutPages form.in_primary pool turned_view (cache_over last j).pool rec x takes.was
      takes.newest
  taken_pages = record {
    slot_page = slot_page;
    slot = takes.its.head.slot;
    turn = turn;
    frees = subst (λ (p : Pages). FreesPage form.in_primary turned_view p x takes.was) (sym final_is) frees;
  }

  -- ---- a dead one

  pub dead_row : RowsAreOne form.coding → state takes.was.tx.0 ≡ Dead
      → KeptIn form size o h state asked session last j
  dead_row one dead = dead_out_every form one none size o h state (cache_over first i) (cache_over last j) turned_view
      it.gone contents orders (needs_in asked session first) (needs_in asked session last) rec x table takes.was
      takes.newest it.changes dead it.left taken_pages has_slot
      (record { freed = before_it; pointers = walked takes.was.back takes.taken.slot_reached })
      found every

  -- ---- a deletion that is alone

  slot_freed : takes.was.back ≡ None → FreesSlot form.in_primary pool turned_view rec takes.newest
  slot_freed alone = record {
    page = slot_page;
    slot = takes.its.head.slot;
    freed = subst (λ (to : Option Link). Changes (cells_of pool) (cells_of turned_view) rec (back_cell to)) alone turn;
  }

  abbrev only : Places
  only q = same_place q x

  all : FreesAll form.in_primary orders rec.page.0 only turned_view (cache_over last j).pool
  all = subst (FreesAll form.in_primary orders rec.page.0 only turned_view) (sym final_is)
      (one_more turned_view freed_view freed_view x takes.was (same_self x x refl) before_it frees
      (none_more freed_view))

  counts : (b : Bool) (s : TxState) → s ≡ Committed → left_by b s ≡ Committed
  counts b s is = ap (left_by b) is ∙ still b
    where
      still : (c : Bool) → left_by c Committed ≡ Committed
      still true = refl
      still false = refl

  erased_found : state takes.was.tx.0 ≡ Committed → takes.was.deleted ≡ true → (chosen : ℕ → Bool) (layout : Layout)
      (r : Reading) → IsSoundBy form size (left_state chosen state) pool layout r
      → FindsErased (facts_by (left_state chosen state) pool layout) r rec only
  erased_found settled deleted chosen layout r sound =
      let its = found chosen layout r sound in
      record {
        table = table;
        of = its.of;
        newest = its.newest;
        older = its.older;
        first = its.first;
        settled = ap (λ (v : Version). left_state chosen state v.tx.0) its.version
            ∙ counts (chosen takes.was.tx.0) (state takes.was.tx.0) settled;
        deleted = ap (λ (v : Version). v.deleted) its.version ∙ deleted;
        its = λ y is. subst (λ (es : List Entry). Stands es y) (sym its.first)
            (inl (its.at ∙ sym (place_is y x is)));
      }

  pub erase_row : state takes.was.tx.0 ≡ Committed → takes.was.deleted ≡ true → takes.was.back ≡ None
      → KeptIn form size o h state asked session last j
  erase_row settled deleted alone = gone_every form none size o h state (cache_over first i) (cache_over last j)
      turned_view it.gone contents orders (needs_in asked session first) (needs_in asked session last) rec takes.newest
      only it.changes it.left (slot_freed alone) has_slot all (erased_found settled deleted) every

pub dead_keeps : (form : Form) → RowsAreOne form.coding → HasNoSequences form → form.in_primary ≡ false
    → (D L : Type 0) (m : Meaning D) → DeadKeeps form D L m
dead_keeps form one none no_primary D L m first last i j batch asked session o h state rec table changes takes dead placed
    every = dead_row form none no_primary m first last i j batch asked session o h state rec table changes takes placed
    every one dead

pub erase_keeps : (form : Form) → HasNoSequences form → form.in_primary ≡ false → (D L : Type 0) (m : Meaning D)
    → EraseKeeps form D L m
erase_keeps form none no_primary D L m first last i j batch asked session o h state rec table changes takes settled
    deleted alone placed every = erase_row form none no_primary m first last i j batch asked session o h state rec table
    changes takes placed every settled deleted alone
