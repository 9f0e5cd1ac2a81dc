-- What is told of the damage by which an opening is refused says where it stands in the file.
use Rattle.std.proofs.Common.{◌≡◌, inl, inr, ◌<◌, ◌-◌, ℕ, [], Ok, sym, subst}
use Rattle.mg_base.specs.Disk.{Meaning}
use Rattle.mg_base.specs.declared.damage.Damaged.{Damaged}
use Rattle.mg_base.specs.declared.geometry.Geometry.{Geometry}
use Rattle.mg_base.specs.declared.numbers.PageNo.{PageNo}
use Rattle.mg_database.specs.Loading.{IsLoadDamage, no_catalog as no_catalog_there, no_list, untested}
use Rattle.mg_database.specs.Tested.{HasFirstBroken, RefusesTested}
use Rattle.mg_header.specs.HeaderPage.{reading}
use Rattle.mg_header.specs.declared.header.Header.{Header}
use Rattle.mg_heap.specs.Reading.{IsAbsence}
use Rattle.mg_heap.specs.Table.{IsBrokenChain, RefusesPointer}
use Rattle.mg_heap.specs.Walk.{RefusesTableData}
use Rattle.mg_image.specs.Form.{Pages}
use Rattle.mg_image.specs.Inventory.{tip_before}
use Rattle.mg_pool.specs.declared.pool.Pool.{Pool}
use Rattle.mg_space.specs.declared.fault.SpaceFault.TheVariants as space
use Rattle.mg_space.specs.declared.links.FireLinks.{FireLinks}
use Rattle.mg_txlist.specs.Refusals.{RefusesHead, RefusesLoad, RefusesTip, holder_of}
use Rattle.mg_runs.specs.FileDamage.{IsFileDamage, absent, no_catalog, no_head, no_tip, other_data, other_pointers, other_tip, tips_said}

module _ {D : Type 0} (m : Meaning D) (store : Pool D FireLinks) (g : Geometry) (pages : Pages) where
  abbrev Damages : Damaged → Type 0
  Damages it = IsFileDamage (m.count store.disk) g.size pages it

  by_absence : (page : PageNo) (it : Damaged) → IsAbsence m store [] page it → Damages it
  by_absence page it (count, is, missing) = subst Damages (sym is) (absent page count missing.count_is missing.past)

  by_head : (it : Damaged) → RefusesHead m store g.size (pages 0) (space.Damaged it) → Damages it
  by_head it (inl (count, is, missing)) =
      subst Damages (sym is) (absent (record { 0 = 0 }) count missing.count_is missing.past)
  by_head it (inr (fault, reads, is)) = subst Damages (sym is) (no_head fault reads)

  by_tip : (header : Header) (k : ℕ) (it : Damaged) → reading (pages 0) g.size ≡ Ok header → k < tips_said g.size header
      → RefusesTip m store (holder_of pages header.last_tip.0 k) pages (tips_said g.size header - k - 1)
      (record { 0 = tip_before pages header.last_tip.0 k }) (space.Damaged it) → Damages it
  by_tip header k it reads few (inl (zero_, is)) = subst Damages (sym is) (no_tip header k reads few zero_)
  by_tip header k it reads few (inr (some, inl (count, is, missing))) = subst Damages (sym is)
      (absent (record { 0 = tip_before pages header.last_tip.0 k }) count missing.count_is missing.past)
  by_tip header k it reads few (inr (some, inr differs)) = other_tip header k it reads few differs

  by_list : (it : Damaged) → RefusesLoad m store g pages (space.Damaged it) → Damages it
  by_list it (inl head) = by_head it head
  by_list it (inr (header, reads, (k, few, tip))) = by_tip header k it reads few tip

  module _ (header : Header) (reads : reading (pages 0) g.size ≡ Ok header) where
    by_chain : (it : Damaged) → IsBrokenChain m store [] pages header.catalog.0 (space.Damaged it) → Damages it
    by_chain it broken = at broken.refused
      where
        at : RefusesPointer m store [] pages header.catalog.0 broken.pointers broken.page (space.Damaged it)
            → Damages it
        at (inl missing) = by_absence broken.page it missing
        at (inr differs) = other_pointers header broken.pointers broken.page it reads broken.leads differs

    by_data : (it : Damaged) → HasFirstBroken m store [] pages header.catalog.0 (space.Damaged it) → Damages it
    by_data it has = at has.first.broken.refused
      where
        at : RefusesTableData m store [] (pages has.first.broken.page.0) header.catalog.0 has.first.broken.place
            has.first.broken.page (space.Damaged it) → Damages it
        at (inl missing) = by_absence has.first.broken.page it missing
        at (inr differs) = other_data header has.pointers has.data_pages has.first.broken.place has.first.broken.page it
            reads has.table has.first.broken.inside has.first.broken.listed differs

    by_pages : (it : Damaged) → RefusesTested m store [] pages header.catalog.0 (space.Damaged it) → Damages it
    by_pages it (inl chain) = by_chain it chain
    by_pages it (inr first) = by_data it first

  pub file_damage : (it : Damaged) → IsLoadDamage m store g pages it → Damages it
  file_damage _ (no_list it refused) = by_list it refused
  file_damage _ (no_catalog_there header reads past) = no_catalog header reads past
  file_damage _ (untested header first tips it reads head refused) = by_pages header reads it refused
