-- What is told of a table's growth by one who has read before: it is the same to one who has not.
use Rattle.std.specs.Prelude.{◌≡◌, ◌++◌, ◌+◌, ◌-◌, ℕ, List, length, slice_index}
use Rattle.std.proofs.Common.{inl, inr, subst, sym, ap}
use Rattle.mg_base.specs.Disk.{Meaning}
use Rattle.mg_base.specs.Image.{Image}
use Rattle.mg_base.specs.declared.geometry.Geometry.{Geometry}
use Rattle.mg_base.specs.declared.numbers.PageNo.{PageNo}
use Rattle.mg_base.specs.declared.numbers.RecId.{RecId}
use Rattle.mg_image.specs.Form.{Pages}
use Rattle.mg_pointer.specs.PointerPage.{AddsEntry, SetsNext, new_pointer_page}
use Rattle.mg_pool.specs.Batch.{Changed}
use Rattle.mg_pool.specs.declared.pool.Pool.{Pool}
use Rattle.mg_slots.specs.Room.{need_of}
use Rattle.mg_space.specs.Taking.{PutsInventory, TakesPage}
use Rattle.mg_space.specs.View.{KeepsStore, viewed}
use Rattle.mg_space.specs.ViewLaws.{viewed_on}
use Rattle.mg_heap.specs.Changing.{ChangesOne}
use Rattle.mg_heap.specs.Growth.{AddsOrders, GrowsTable, HasEntryRoom, ListsInLast, ListsInNew, MakesData, orders_to}
use Rattle.mg_heap.specs.Room.{AddsCell, FindsOrGrows, GivenPage, GivesRoom, IsFirstWithRoom, NoneHasRoom, PutsIn}
use Rattle.mg_heap.specs.Table.{IsTable}

module _ {D L : Type 0} (m : Meaning D) (a b : Pool D L) (kept : KeepsStore m a b) where
  pub bits_on : (old new : Changed) (n : ℕ) → PutsInventory b.geometry old new n
      → PutsInventory a.geometry old new n
  bits_on old new n puts = subst (λ (g : Geometry). PutsInventory g old new n) kept.geometry puts

  module _ (image : Image) where
    pub takes_on : (old new : Changed) (n : ℕ)
        → TakesPage b.geometry (viewed b image old) (viewed b image new) n
        → TakesPage a.geometry (viewed a image old) (viewed a image new) n
    takes_on old new n takes =
        subst (λ (g : Geometry). TakesPage g (viewed a image old) (viewed a image new) n)
        kept.geometry (subst (λ (pages : Pages). TakesPage b.geometry pages (viewed a image new) n)
        (viewed_on m a b image old kept)
        (subst (λ (pages : Pages). TakesPage b.geometry (viewed b image old) pages n)
        (viewed_on m a b image new kept) takes))

    pub last_on : (old new : Changed) (owner place q n : ℕ) (slice pointer bytes : List ℕ)
        → slice ≡ pointer → ListsInLast b.geometry b image old new owner place q n slice bytes
        → ListsInLast a.geometry a image old new owner place q n pointer bytes
    last_on old new owner place q n slice pointer bytes same it = record {
      taken = it.taken;
      made = it.made;
      listed = it.listed;
      bit = bits_on old it.taken n it.bit;
      takes = takes_on old it.taken n it.takes;
      makes = subst (λ (g : Geometry). MakesData g.size it.taken it.made owner place n bytes)
          kept.geometry it.makes;
      page = it.page;
      adds = subst (λ (p : List ℕ). AddsEntry p it.page n) same it.adds;
      puts = it.puts;
      orders = subst (λ (g : Geometry). AddsOrders it.listed new (orders_to g.size n q)) kept.geometry
          it.orders;
    }

    pub new_on : (old new : Changed) (owner place at q p n : ℕ) (slice pointer bytes : List ℕ)
        → slice ≡ pointer → ListsInNew b.geometry b image old new owner place at q p n slice bytes
        → ListsInNew a.geometry a image old new owner place at q p n pointer bytes
    new_on old new owner place at q p n slice pointer bytes same it = record {
      with_bit = it.with_bit;
      taken = it.taken;
      made = it.made;
      begun = it.begun;
      linked = it.linked;
      bit_pointer = bits_on old it.with_bit p it.bit_pointer;
      takes_pointer = takes_on old it.with_bit p it.takes_pointer;
      bit = bits_on it.with_bit it.taken n it.bit;
      takes = takes_on it.with_bit it.taken n it.takes;
      makes = subst (λ (g : Geometry). MakesData g.size it.taken it.made owner place n bytes)
          kept.geometry it.makes;
      page = it.page;
      adds = subst (λ (g : Geometry). AddsEntry (new_pointer_page g.size p owner at) it.page n)
          kept.geometry it.adds;
      puts = it.puts;
      link = it.link;
      links = subst (λ (x : List ℕ). SetsNext x it.link p) same it.links;
      puts_link = it.puts_link;
      orders = subst (λ (g : Geometry). AddsOrders it.linked new (orders_to g.size n p ++ orders_to g.size p q))
          kept.geometry it.orders;
    }

    pub grows_on : (old new : Changed) (owner place at q n : ℕ) (slice pointer bytes : List ℕ)
        → slice ≡ pointer → GrowsTable b.geometry b image old new owner place at q slice n bytes
        → GrowsTable a.geometry a image old new owner place at q pointer n bytes
    grows_on old new owner place at q n slice pointer bytes same (inl (room, lists)) =
        inl (subst (λ (x : List ℕ). HasEntryRoom x) same room, last_on old new owner place q n slice pointer bytes same lists)
    grows_on old new owner place at q n slice pointer bytes same (inr (full, (p, lists))) =
        inr (
          (λ room. full (subst (λ (x : List ℕ). HasEntryRoom x) (sym same) room)),
          (p, new_on old new owner place (at + 1) q p n slice pointer bytes same lists),
        )

    pub finds_on : (old new : Changed) (owner need : ℕ) (pointers data_pages : List ℕ) (it : GivenPage)
        → FindsOrGrows b image old new owner pointers data_pages need it
        → FindsOrGrows a image old new owner pointers data_pages need it
    finds_on old new owner need pointers data_pages it (inl (same, first)) = inl (
      same,
      subst (λ (pages : Pages). IsFirstWithRoom pages data_pages need it)
          (viewed_on m a b image old kept) first,
    )
    finds_on old new owner need pointers data_pages it (inr (none, grows)) = inr (
      subst (λ (pages : Pages). NoneHasRoom pages data_pages need) (viewed_on m a b image old kept) none,
      grows_on old new owner (length data_pages) (length pointers - 1)
          (slice_index pointers (length pointers - 1)) it.page.0
          (viewed b image old (slice_index pointers (length pointers - 1)))
          (viewed a image old (slice_index pointers (length pointers - 1))) it.bytes
          (ap (λ (pages : Pages). pages (slice_index pointers (length pointers - 1)))
          (viewed_on m a b image old kept)) grows,
    )

    -- a page with room was given
    pub room_on : (old new : Changed) (owner need : ℕ) (n : PageNo)
        → GivesRoom b image old new owner need n → GivesRoom a image old new owner need n
    room_on old new owner need n gives = record {
      pointers = gives.pointers;
      data_pages = gives.data_pages;
      table = subst (λ (pages : Pages). IsTable pages owner gives.pointers gives.data_pages)
          (viewed_on m a b image old kept) gives.table;
      it = gives.it;
      page_is = gives.page_is;
      found = finds_on old new owner need gives.pointers gives.data_pages gives.it gives.found;
    }

    -- a cell was added
    pub adds_on : (old new : Changed) (owner : ℕ) (cell : List ℕ) (at : RecId)
        → AddsCell b image old new owner cell at → AddsCell a image old new owner cell at
    adds_on old new owner cell at adds = record {
      given = adds.given;
      gives = room_on old adds.given owner (need_of cell) at.page adds.gives;
      one = subst (λ (g : Geometry). ChangesOne g.size adds.given new at.page.0) kept.geometry adds.one;
      puts = subst (λ (pages : Pages). PutsIn (viewed a image adds.given) pages at.page cell at)
          (viewed_on m a b image new kept)
          (subst (λ (pages : Pages). PutsIn pages (viewed b image new) at.page cell at)
          (viewed_on m a b image adds.given kept) adds.puts);
    }
