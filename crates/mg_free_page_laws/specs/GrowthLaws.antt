-- A table gets a page: at most two are taken, and it is refused for want of pages where fewer than two are free.
use Rattle.std.proofs.Common.{◌≡◌, inl, inr, ◌≤◌, ◌+◌, ◌-◌, ◌∷◌, [], ℕ, List, length, ap, arith, suc, zero}
use Rattle.std.specs.Prelude.{slice_index, unwrap_or}
use Rattle.mg_base.specs.Disk.{Meaning}
use Rattle.mg_base.specs.Image.{Image}
use Rattle.mg_base.specs.declared.geometry.Geometry.{Geometry}
use Rattle.mg_base.specs.declared.numbers.PageNo.{PageNo}
use Rattle.mg_heap.specs.Growth.{GrowsTable, ListsInLast, ListsInNew, RefusesGrowth, RefusesTwo}
use Rattle.mg_heap.specs.Room.{FindsOrGrows, GivesRoom, RefusesRoomIn}
use Rattle.mg_heap.specs.Table.{IsPointerAt, RefusesPointerPage, RefusesTable}
use Rattle.mg_heap.specs.Walk.{RefusesWalkOf}
use Rattle.mg_image.specs.Form.{Pages}
use Rattle.mg_image.specs.Tables.{EachFrom}
use Rattle.mg_pool.specs.Batch.{Changed, PutsPage, content_in}
use Rattle.mg_pool.specs.Pool.{shown}
use Rattle.mg_pool.specs.declared.batch.BatchPage.{BatchPage}
use Rattle.mg_pool.specs.declared.pool.Pool.{Pool}
use Rattle.mg_space.specs.Taking.{IsGeometry, RefusesTake}
use Rattle.mg_space.specs.View.{viewed}
use Rattle.mg_space.specs.ViewLaws.{viewed_else}
use Rattle.mg_space.specs.declared.fault.SpaceFault.{SpaceFault}
use Rattle.mg_space.specs.declared.fault.SpaceFault.TheVariants as faults
use Rattle.mg_space.specs.declared.links.FireLinks.{FireLinks}
use Rattle.mg_space.specs.FreePages.{HasRegions, TakingKeepsRegions}
use Rattle.mg_free_page_laws.specs.BatchStages.{RoomIsThere, RoomTakes}
use Rattle.mg_free_page_laws.specs.FreePages.{IsNotFull, TakesAtMost}
use Rattle.mg_free_page_laws.specs.FreeLaws.{both_taken, fewer, not_full, one_taken, same_taken, takes_more}
use Rattle.mg_free_page_laws.specs.KindLaws.{IsNoRegion, header_off, one_changed, pointer_off}

-- ---- refusals

-- no page is taken
pub take_there : (g : Geometry) (pages : Pages) (fault : SpaceFault) → RefusesTake g pages fault → (most : ℕ) → 1 ≤ most
    → IsNotFull g pages most fault
take_there g pages (faults.Full limit) refused most some regions has named is =
    not_full g pages (fewer g pages most 1 some has) refused.1
take_there g pages (faults.Damaged it) refused most some regions has named is = absurd cc
take_there g pages (faults.Pool fault) refused most some regions has named is = absurd cc

module _ (keeps : TakingKeepsRegions) {D : Type 0} (store : Pool D FireLinks) (image : Image)
    (lawful : IsGeometry store.geometry) where
  abbrev g : Geometry
  g = store.geometry

  abbrev view : Changed → Pages
  view b = viewed store image b

  -- neither of two pages is
  two_there : (batch : Changed) (fault : SpaceFault) → RefusesTwo g store image batch fault
      → IsNotFull g (view batch) 2 fault
  two_there batch fault (inl first) regions has = take_there g (view batch) fault first 2 (omega arith) regions has
  two_there batch fault (inr second) regions has =
      let one = one_taken keeps g (view batch) (view second.with_bit) second.first lawful second.takes_first in
      take_there g (view second.with_bit) fault second.refused 1 (omega arith) (one.regions regions)
      (one.left regions 1 has)

  -- ---- what is taken

  -- the orders of a batch change no page
  ordered : (old new : Changed) → new.pages ≡ old.pages → TakesAtMost g (view old) (view new) 0
  ordered old new same = same_taken g (view old) (view new)
      (λ n. ap (λ (pages : List BatchPage). unwrap_or (content_in pages n) (shown store.dirty image n)) same)

  -- a page is put that is no inventory page
  put : (old new : Changed) (n : ℕ) (bytes : List ℕ) → (HasRegions g (view old) → IsNoRegion g n)
      → PutsPage old new n bytes → TakesAtMost g (view old) (view new) 0
  put old new n bytes off puts =
      one_changed g (view old) (view new) n off (viewed_else store image old new n bytes puts)

  in_last : (old new : Changed) (owner place q n : ℕ) (pointer bytes : List ℕ)
      → (HasRegions g (view old) → IsNoRegion g q)
      → ListsInLast g store image old new owner place q n pointer bytes → TakesAtMost g (view old) (view new) 1
  in_last old new owner place q n pointer bytes off it = record {
    regions = λ regions. (all regions).regions regions;
    left = λ regions. (all regions).left regions;
  }
    where
      all : HasRegions g (view old) → TakesAtMost g (view old) (view new) 1
      all regions = both_taken g (view old) (view it.taken) (view new) 1 0
          (one_taken keeps g (view old) (view it.taken) n lawful it.takes)
          (both_taken g (view it.taken) (view it.made) (view new) 0 0
          (put it.taken it.made n bytes (λ r region below. it.takes.free.no_inventory region) it.makes.puts)
          (both_taken g (view it.made) (view it.listed) (view new) 0 0
          (put it.made it.listed q it.page (λ r. off regions) it.puts)
          (ordered it.listed new it.orders.same_pages)))

  in_new : (old new : Changed) (owner place at q p n : ℕ) (pointer bytes : List ℕ)
      → (HasRegions g (view old) → IsNoRegion g q)
      → ListsInNew g store image old new owner place at q p n pointer bytes → TakesAtMost g (view old) (view new) 2
  in_new old new owner place at q p n pointer bytes off it = record {
    regions = λ regions. (all regions).regions regions;
    left = λ regions. (all regions).left regions;
  }
    where
      all : HasRegions g (view old) → TakesAtMost g (view old) (view new) 2
      all regions = both_taken g (view old) (view it.with_bit) (view new) 1 1
          (one_taken keeps g (view old) (view it.with_bit) p lawful it.takes_pointer)
          (both_taken g (view it.with_bit) (view it.taken) (view new) 1 0
          (one_taken keeps g (view it.with_bit) (view it.taken) n lawful it.takes)
          (both_taken g (view it.taken) (view it.made) (view new) 0 0
          (put it.taken it.made n bytes (λ r region below. it.takes.free.no_inventory region) it.makes.puts)
          (both_taken g (view it.made) (view it.begun) (view new) 0 0
          (put it.made it.begun p it.page (λ r region below. it.takes_pointer.free.no_inventory region) it.puts)
          (both_taken g (view it.begun) (view it.linked) (view new) 0 0
          (put it.begun it.linked q it.link (λ r. off regions) it.puts_link)
          (ordered it.linked new it.orders.same_pages)))))

  grows : (old new : Changed) (owner place at q : ℕ) (pointer : List ℕ) (n : ℕ) (bytes : List ℕ)
      → (HasRegions g (view old) → IsNoRegion g q)
      → GrowsTable g store image old new owner place at q pointer n bytes → TakesAtMost g (view old) (view new) 2
  grows old new owner place at q pointer n bytes off (inl last) = takes_more g (view old) (view new) 1 2 (omega arith)
      (in_last old new owner place q n pointer bytes off last.1)
  grows old new owner place at q pointer n bytes off (inr (full, (p, it))) =
      in_new old new owner place (at + 1) q p n pointer bytes off it

  -- a pointer page of a table, and page 0 where it has none at a place, is no inventory page
  pointers_off : (pages : Pages) (owner at : ℕ) (pointers : List ℕ) → EachFrom (IsPointerAt pages owner) at pointers
      → HasRegions g pages → (place : ℕ) → IsNoRegion g (slice_index pointers place)
  pointers_off pages owner at [] each regions zero = header_off g
  pointers_off pages owner at [] each regions (suc place) = header_off g
  pointers_off pages owner at (n ∷ ns) each regions zero = pointer_off g pages owner at n regions each.0
  pointers_off pages owner at (n ∷ ns) each regions (suc place) =
      pointers_off pages owner (suc at) ns each.1 regions place

  found : (old new : Changed) (owner need : ℕ) (n : PageNo) → GivesRoom store image old new owner need n
      → TakesAtMost g (view old) (view new) 2
  found old new owner need n gives = on gives.found
    where
      on : FindsOrGrows store image old new owner gives.pointers gives.data_pages need gives.it
          → TakesAtMost g (view old) (view new) 2
      on (inl there) = takes_more g (view old) (view new) 0 2 (omega arith)
          (ordered old new (ap (λ (b : Changed). b.pages) there.0))
      on (inr grown) = grows old new owner (length gives.data_pages) (length gives.pointers - 1)
          (slice_index gives.pointers (length gives.pointers - 1))
          (view old (slice_index gives.pointers (length gives.pointers - 1))) gives.it.page.0 gives.it.bytes
          (λ regions. pointers_off (view old) owner 0 gives.pointers gives.table.tested regions
          (length gives.pointers - 1)) grown.1

pub room_takes : TakingKeepsRegions → (D : Type 0) → RoomTakes D
room_takes keeps D store image old new owner need n gives lawful = found keeps store image lawful old new owner need n gives

module _ (keeps : TakingKeepsRegions) {D : Type 0} (m : Meaning D) where
  growth_there : (old new : Pool D FireLinks) (image : Image) (batch : Changed) (owner at : ℕ) (q : PageNo)
      (fault : SpaceFault) → IsGeometry old.geometry → RefusesGrowth m old new image batch owner at q fault
      → IsNotFull old.geometry (viewed old image batch) 2 fault
  growth_there old new image batch owner at q fault lawful (inl page) = by fault page
    where
      by : (fault : SpaceFault)
          → RefusesPointerPage m new batch.pages (viewed old image batch q.0) owner at q fault
          → IsNotFull old.geometry (viewed old image batch) 2 fault
      by (faults.Full limit) never regions has named is = absurd never
      by (faults.Damaged it) refused regions has named is = absurd cc
      by (faults.Pool fault) refused regions has named is = absurd cc
  growth_there old new image batch owner at q fault lawful (inr (inl first)) =
      take_there old.geometry (viewed old image batch) fault first 2 (omega arith)
  growth_there old new image batch owner at q fault lawful (inr (inr two)) =
      two_there keeps old image lawful batch fault two

  pub room_there : RoomIsThere m
  room_there old new image batch owner fault (inl table) lawful = by fault table
    where
      by : (fault : SpaceFault) → RefusesTable m new batch.pages (viewed old image batch) owner fault
          → IsNotFull old.geometry (viewed old image batch) 2 fault
      by (faults.Full limit) never regions has named is = absurd never
      by (faults.Damaged it) refused regions has named is = absurd cc
      by (faults.Pool fault) refused regions has named is = absurd cc
  room_there old new image batch owner fault (inr of) lawful = by fault of.refused
    where
      walk_other : (fault : SpaceFault)
          → RefusesWalkOf m new batch.pages (viewed old image batch) owner of.data_pages fault
          → IsNotFull old.geometry (viewed old image batch) 2 fault
      walk_other (faults.Full limit) never regions has named is = absurd never
      walk_other (faults.Damaged it) refused regions has named is = absurd cc
      walk_other (faults.Pool fault) refused regions has named is = absurd cc

      by : (fault : SpaceFault) → RefusesRoomIn m old new image batch owner of.pointers of.data_pages fault
          → IsNotFull old.geometry (viewed old image batch) 2 fault
      by fault (inl walk) = walk_other fault walk
      by fault (inr growth) = growth_there old new image batch owner (length of.pointers - 1)
          (record { 0 = slice_index of.pointers (length of.pointers - 1) }) fault lawful growth
