-- A record that version chains make in a batch, which may have others already: what its pages are then to
-- the laws on overlays.
use Rattle.mg_base.specs.Image.{Image}
use Rattle.mg_base.specs.declared.numbers.RecId.{RecId}
use Rattle.mg_base.specs.declared.transaction.TxState.{TxState}
use Rattle.mg_careful.specs.Precedence.{Orders}
use Rattle.mg_careful.specs.declared.graph.Order.{Order}
use Rattle.mg_chain.specs.Orders.{before_page, first_orders, push_orders, slot_orders, version_orders}
use Rattle.mg_chain.specs.Writing.{MakesRecord, leading_to, link_to}
use Rattle.mg_tie_laws.specs.PutTies.{PutsGiven, apart, free, grows, header_off, put_cells, put_page, slot_put, turn_cells, turn_page, walk_ordered}
use Rattle.mg_tie_laws.specs.Rows.{ordered_page, within_orders, within_put}
use Rattle.mg_image_overlay_laws.specs.tables.Growing.{Grows, TableEnd}
use Rattle.mg_heap.specs.Apart.{need_with_anchor}
use Rattle.mg_heap.specs.Reach.{IsReached}
use Rattle.mg_tie_laws.specs.Batches.{IsWithin, has_here, lists_later, lists_sooner, viewed_same}
use Rattle.mg_tie_laws.specs.RoomTies.{GrowsSome, end_of}
use Rattle.mg_image.specs.Form.{Form, Pages}
use Rattle.mg_image.specs.ReadingLaws.{RowsAreOne}
use Rattle.mg_image.specs.Records.{Reading, cells_of}
use Rattle.mg_image.specs.Sound.{IsSoundBy}
use Rattle.mg_image.specs.Tables.{Has, Layout, stands_of, table_at}
use Rattle.mg_image_overlay_laws.specs.pages.Kinds.{HasNoSequences}
use Rattle.mg_model.specs.declared.table.Table.{Table}
use Rattle.mg_pool.specs.Batch.{Changed, content_in, lists}
use Rattle.mg_pool.specs.Pool.{shown}
use Rattle.mg_pool.specs.declared.pool.Pool.{Pool}
use Rattle.mg_image_overlay_laws.specs.records.AddPart.{AddsPages, OrdersAdd}
use Rattle.mg_space.specs.Taking.{IsGeometry}
use Rattle.mg_space.specs.View.{viewed}
use Rattle.mg_version.specs.declared.cell.Link.{Link}
use Rattle.mg_version.specs.declared.cell.Version.{Version}
use Rattle.std.proofs.Common.{List, None, Option, Some, [], ap, inl, inr, refl, subst, sym, true, ℕ, ◌∙◌, ◌∷◌, ◌≡◌, ◌≢◌}
use Rattle.std.specs.Prelude.{unwrap_or}

-- A record is made: its table has grown, the version's cell is put, and then the slot leads to it. The batch
-- has the cell's page, and its orders are those of a first version.
pub record MakesPages {D L : Type 0} (form : Form) (store : Pool D L) (image : Image) (old new : Changed)
    (rec : RecId) (v : Version) (table : Table) (contents : ℕ → Option (List ℕ)) (orders : Orders)
    (makes : MakesRecord store image old new table.pointer.0 rec v) : Type 0 where
  pub final : TableEnd
  pub grows : Grows form.in_primary store.geometry.size table.pointer.0 orders contents
      (viewed store image old)
      (end_of makes.makes.adds.gives.pointers makes.makes.adds.gives.data_pages)
      (viewed store image makes.makes.adds.given) final
  pub adds : AddsPages form.in_primary (viewed store image makes.makes.adds.given)
      (viewed store image makes.makes.put) (viewed store image new) makes.makes.at rec (leading_to v None)
      (link_to makes.makes.at v.tx)
  pub has_cell : contents makes.makes.at.page.0 ≢ None
  pub put_within : IsWithin contents orders makes.makes.put
  pub ordered : OrdersAdd orders (viewed store image makes.makes.put) table makes.makes.at rec

-- a page that a batch leaves is as it was before, wherever one stands in the batch
pub left_within : {D L : Type 0} (store : Pool D L) (image : Image) (contents : ℕ → Option (List ℕ))
    (orders : Orders) (b : Changed) → IsWithin contents orders b → (q : ℕ) → contents q ≡ None
    → viewed store image b q ≡ shown store.dirty image q
left_within store image contents orders b within q none_ = at (content_in b.pages q) refl
  where
    at : (c : Option (List ℕ)) → content_in b.pages q ≡ c
        → unwrap_or (content_in b.pages q) (shown store.dirty image q) ≡ shown store.dirty image q
    at None is = rw is refl
    at (Some bytes) is = absurd (within.pages q (bytes, is) none_)

module _ (form : Form) (one : RowsAreOne form.coding) (none : HasNoSequences form) {D L : Type 0}
    (store : Pool D L) (image : Image) (lawful : IsGeometry store.geometry) (old new : Changed)
    (state : ℕ → TxState) (layout : Layout) (r : Reading)
    (sound : IsSoundBy form store.geometry.size state (viewed store image old) layout r) (rec : RecId)
    (v : Version) (table : Table) (of : table_at (stands_of layout) rec.page.0 ≡ Some table)
    (blank : cells_of (viewed store image old) rec ≡ None)
    (makes : MakesRecord store image old new table.pointer.0 rec v)
    (contents : ℕ → Option (List ℕ)) (orders : Orders) (within : IsWithin contents orders new) where
  abbrev at : RecId
  at = makes.makes.at

  abbrev link : Link
  link = link_to at v.tx

  abbrev w : Version
  w = leading_to v None

  abbrev given : Changed
  given = makes.makes.adds.given

  abbrev put : Changed
  put = makes.makes.put

  abbrev turned : Changed
  turned = makes.makes.turned

  abbrev need : ℕ
  need = need_with_anchor makes.bytes

  reached : IsReached (viewed store image put) table.pointer.0 at.page.0 makes.makes.pointers
  reached = makes.makes.reached

  puts : PutsGiven store image old given put table.pointer.0 need at makes.bytes makes.makes.pointers
  puts = record {
    gives = makes.makes.adds.gives;
    one = makes.makes.adds.one;
    data_page = makes.makes.adds.puts.data_page;
    was_free = makes.makes.adds.puts.was_free;
    sets = makes.makes.adds.puts.sets;
    others = makes.makes.adds.puts.others;
    reached = reached;
  }

  abbrev os : List Order
  os = first_orders turned.pages at.page.0 rec.page.0 makes.makes.pointers makes.makes.slot_pointers

  within_turned : IsWithin contents orders turned
  within_turned = within_orders contents orders turned new os makes.makes.ordered within

  within_ : IsWithin contents orders put
  within_ = within_put contents orders put turned rec.page.0 makes.makes.turns.puts.one.bytes
      makes.makes.turns.puts.one.puts within_turned

  some_grows : GrowsSome form.in_primary store.geometry.size table.pointer.0 orders contents
      (viewed store image old) (end_of puts.gives.pointers puts.gives.data_pages)
      (viewed store image given)
  some_grows = grows form one none store image lawful old state layout r sound rec table of given put
      need at makes.bytes makes.makes.pointers puts w makes.spells contents orders within_

  apart_at : rec ≢ at
  apart_at same = makes.makes.adds.puts.apart (ap (λ (x : RecId). x.page.0) (sym same))
      (ap (λ (x : RecId). x.slot) (sym same))

  final_is : viewed store image new ≡ viewed store image turned
  final_is = viewed_same store image turned new makes.makes.ordered.same_pages

  adds_pages : AddsPages form.in_primary (viewed store image given) (viewed store image put)
      (viewed store image new) at rec w link
  adds_pages = subst (λ (pages : Pages). AddsPages form.in_primary (viewed store image given)
      (viewed store image put) pages at rec w link) (sym final_is) (record {
        put_page = put_page form one none store image lawful old state layout r sound rec table of given put
            need at makes.bytes makes.makes.pointers puts w makes.spells contents orders within_;
        put = put_cells form one none store image lawful old state layout r sound rec table of given put
            need at makes.bytes makes.makes.pointers puts w makes.spells contents orders within_;
        free = free form one none store image lawful old state layout r sound rec table of given put
            need at makes.bytes makes.makes.pointers puts w makes.spells contents orders within_;
        apart = apart form one none store image lawful old state layout r sound rec table of given put
            need at makes.bytes makes.makes.pointers puts w makes.spells contents orders within_;
        slot_page = turn_page form one none store image lawful old state layout r sound rec table of given put
            need at makes.bytes makes.makes.pointers puts w makes.spells contents orders within_ turned link makes.makes.turns;
        blank = slot_put form one none store image lawful old state layout r sound rec table of given put
            need at makes.bytes makes.makes.pointers puts w makes.spells contents orders within_ apart_at ∙ blank;
        turn = turn_cells form one none store image lawful old state layout r sound rec table of given put
            need at makes.bytes makes.makes.pointers puts w makes.spells contents orders within_ turned link makes.makes.turns;
        leads = (refl, refl);
        back = refl;
      })

  in_push : (a c : ℕ) → lists (push_orders turned.pages at.page.0 rec.page.0 None makes.makes.pointers) a c
      ≡ true → orders a c ≡ true
  in_push a c is = within.listed a c (subst (λ (ps : List Order). lists ps a c ≡ true)
      (sym makes.makes.ordered.added)
      (lists_later turned.orders os a c (lists_sooner
      (push_orders turned.pages at.page.0 rec.page.0 None makes.makes.pointers)
      (before_page makes.makes.slot_pointers rec.page.0) a c is)))

  in_slot : (a c : ℕ) → lists (slot_orders at.page.0 rec.page.0 makes.makes.pointers) a c ≡ true
      → orders a c ≡ true
  in_slot a c is = in_push a c (lists_later (version_orders turned.pages at.page.0 None)
      (slot_orders at.page.0 rec.page.0 makes.makes.pointers) a c is)

  in_walk : (a c : ℕ) → lists (before_page makes.makes.slot_pointers rec.page.0) a c ≡ true
      → orders a c ≡ true
  in_walk a c is = within.listed a c (subst (λ (ps : List Order). lists ps a c ≡ true)
      (sym makes.makes.ordered.added)
      (lists_later turned.orders os a c (lists_later
      (push_orders turned.pages at.page.0 rec.page.0 None makes.makes.pointers)
      (before_page makes.makes.slot_pointers rec.page.0) a c is)))

  first_slot : (n : ℕ) → Has (0 ∷ at.page.0 ∷ []) n → n ≢ rec.page.0 → orders n rec.page.0 ≡ true
  first_slot n there ne = in_slot n rec.page.0 (lists_sooner
      (before_page (0 ∷ at.page.0 ∷ []) rec.page.0) (before_page makes.makes.pointers rec.page.0) n
      rec.page.0 (ordered_page (0 ∷ at.page.0 ∷ []) n rec.page.0 there ne))

  orders_add : OrdersAdd orders (viewed store image put) table at rec
  orders_add = record {
    header = first_slot 0 (inl refl) (header_off form one none store image lawful old state layout r sound rec table of given put
        need at makes.bytes makes.makes.pointers puts w makes.spells contents orders within_);
    cell = λ ne. first_slot at.page.0 (inr (inl refl)) ne;
    pointers = walk_ordered form one none store image lawful old state layout r sound rec table of given put
        need at makes.bytes makes.makes.pointers puts w makes.spells contents orders within_ at.page.0
        makes.makes.pointers reached (λ k there ne. in_slot k rec.page.0 (lists_later
        (before_page (0 ∷ at.page.0 ∷ []) rec.page.0) (before_page makes.makes.pointers rec.page.0) k
        rec.page.0 (ordered_page makes.makes.pointers k rec.page.0 there ne)));
    slot_pointers = walk_ordered form one none store image lawful old state layout r sound rec table of given put
        need at makes.bytes makes.makes.pointers puts w makes.spells contents orders within_ rec.page.0
        makes.makes.slot_pointers makes.makes.slot_reached (λ k there ne. in_walk k rec.page.0
        (ordered_page makes.makes.slot_pointers k rec.page.0 there ne));
  }

  pub made_pages : MakesPages form store image old new rec v table contents orders makes
  unfolding puts
  made_pages = record {
    final = some_grows.final;
    grows = some_grows.grows;
    adds = adds_pages;
    has_cell = within_.pages at.page.0 (has_here given put at.page.0 puts.one.bytes puts.one.puts);
    put_within = within_;
    ordered = orders_add;
  }
