-- What an opening finds damaged in a file that holds no database.
use Rattle.std.specs.Prelude.{◌≡◌, ◌≤◌, ◌<◌, ◌+◌, ◌-◌, ◌/◌, ℕ, List, length, slice_index, Option, Some, Ok, Err}
use Rattle.mg_base.specs.Checks.{verdict}
use Rattle.mg_base.specs.declared.damage.Damaged.{Damaged}
use Rattle.mg_base.specs.declared.geometry.TheConstants.{GREATEST_LIMIT}
use Rattle.mg_base.specs.declared.numbers.PageNo.{PageNo}
use Rattle.mg_database.specs.Loading.{catalog_damage}
use Rattle.mg_header.specs.HeaderPage.{reading}
use Rattle.mg_header.specs.declared.header.HeadFault.{HeadFault}
use Rattle.mg_header.specs.declared.header.Header.{Header}
use Rattle.mg_heap.specs.Table.{IsPointerDamage, IsTable, LeadsTo}
use Rattle.mg_image.specs.Form.{Pages}
use Rattle.mg_image.specs.Inventory.{tip_before}
use Rattle.mg_slots.specs.Damage.{IsFirstDamage}
use Rattle.mg_space.specs.View.{absence}
use Rattle.mg_tip.specs.TipPage.{places, tip_checks}
use Rattle.mg_txlist.specs.Refusals.{head_damage, holder_of, link_to_head}

-- how many transaction inventory pages the numbers take that a header says
abbrev pub tips_said : ℕ → Header → ℕ
tips_said size header = (header.next.0 - 1) / places size + 1

-- The damage is one of the pages of a file of so many pages, and names the page, the field, what stands there and what is
-- wanted: a page is looked for past the end of the file; page 0 is no header; a transaction inventory
-- page, from the one that page 0 names back, names page 0 as the one before it, or is not as wanted; page 0 names a catalog that is no part of a
-- database; or a pointer page of the catalog is not as wanted, or a data page that those list.
pub data IsFileDamage (count : Option ℕ) (size : ℕ) (pages : Pages) : Damaged → Type 0 where
  absent : (page : PageNo) (n : ℕ) → count ≡ Some n → n ≤ page.0 → IsFileDamage count size pages (absence page n)
  no_head : (fault : HeadFault) → reading (pages 0) size ≡ Err fault
      → IsFileDamage count size pages (head_damage size fault)
  no_tip : (header : Header) (k : ℕ) → reading (pages 0) size ≡ Ok header → k < tips_said size header
      → tip_before pages header.last_tip.0 k ≡ 0 → IsFileDamage count size pages (link_to_head (holder_of pages header.last_tip.0 k))
  other_tip : (header : Header) (k : ℕ) (it : Damaged) → reading (pages 0) size ≡ Ok header
      → k < tips_said size header
      → verdict (record { 0 = tip_before pages header.last_tip.0 k })
      (tip_checks (pages (tip_before pages header.last_tip.0 k)) (tip_before pages header.last_tip.0 k)
      (tips_said size header - k - 1)) ≡ Err it
      → IsFileDamage count size pages it
  no_catalog : (header : Header) → reading (pages 0) size ≡ Ok header → GREATEST_LIMIT ≤ header.catalog.0
      → IsFileDamage count size pages (catalog_damage header)
  other_pointers : (header : Header) (pointers : List ℕ) (page : PageNo) (it : Damaged)
      → reading (pages 0) size ≡ Ok header → LeadsTo pages header.catalog.0 pointers page.0
      → IsPointerDamage pages header.catalog.0 pointers page it → IsFileDamage count size pages it
  other_data : (header : Header) (pointers data_pages : List ℕ) (place : ℕ) (page : PageNo) (it : Damaged)
      → reading (pages 0) size ≡ Ok header → IsTable pages header.catalog.0 pointers data_pages
      → place < length data_pages → slice_index data_pages place ≡ page.0
      → IsFirstDamage (pages page.0) page header.catalog.0 place it → IsFileDamage count size pages it
