-- Pages of other kinds than inventory pages change: no bit changes with them.
use Rattle.std.proofs.Common.{◌≡◌, ◌≢◌, ◌∙◌, inl, inr, ◌<◌, ◌≤◌, ℕ, List, [], length, sym, ap, subst, arith}
use Rattle.mg_base.specs.Fields.{byte}
use Rattle.mg_base.specs.declared.geometry.Geometry.{Geometry}
use Rattle.mg_base.specs.declared.numbers.PageNo.{PageNo}
use Rattle.mg_heap.specs.Reading.{IsSomeData}
use Rattle.mg_heap.specs.Table.{IsPointerAt}
use Rattle.mg_image.specs.Form.{Pages}
use Rattle.mg_image.specs.Inventory.{inventory_page}
use Rattle.mg_image_overlay_laws.specs.pages.DataPages.{all_passes, byte_blank, kind_of}
use Rattle.mg_pip.specs.PipPage.{pip_checks}
use Rattle.mg_pointer.specs.PointerPage.{pointer_checks}
use Rattle.mg_space.specs.Taking.{IsLawfulRegion, taking_limit}
use Rattle.mg_tie_laws.specs.PutTies.{some_data_kind}
use Rattle.mg_space.specs.FreePages.{HasRegions}
use Rattle.mg_free_page_laws.specs.FreePages.{TakesAtMost}
use Rattle.mg_free_page_laws.specs.FreeLaws.{SameBits, none_taken}

-- no inventory page below the limit has this number
abbrev pub IsNoRegion : Geometry → ℕ → Type 0
IsNoRegion g n = (region : ℕ) → inventory_page g.size region < taking_limit g → inventory_page g.size region ≢ n

region_low : (at region : ℕ) (page : List ℕ) → IsLawfulRegion at region page → byte page 0 < 3
region_low at region page (inl empty) =
    let zero_ : byte page 0 ≡ 0 = ap (λ (p : List ℕ). byte p 0) empty ∙ byte_blank (length page) in
    omega (arith, zero_)
region_low at region page (inr passes) =
    let two : byte page 0 ≡ 2 = kind_of page at 2 0 region [] (all_passes (pip_checks page at region) passes)
    in omega (arith, two)

-- a page of a kind behind theirs is none
pub kind_off : (g : Geometry) (pages : Pages) (n : ℕ) → HasRegions g pages → 3 ≤ byte (pages n) 0 → IsNoRegion g n
kind_off g pages n regions kind region below same =
    let low = region_low (inventory_page g.size region) region (pages (inventory_page g.size region))
    (regions region below) in
    let high : 3 ≤ byte (pages (inventory_page g.size region)) 0 =
    subst (λ (k : ℕ). 3 ≤ byte (pages k) 0) (sym same) kind in
    omega (arith, low, high)

-- neither is a data page, a pointer page, or the header page
pub data_off : (g : Geometry) (pages : Pages) (page : PageNo) → HasRegions g pages → IsSomeData page (pages page.0)
    → IsNoRegion g page.0
data_off g pages page regions is = kind_off g pages page.0 regions
    (let five = some_data_kind page (pages page.0) is in omega (arith, five))

pointer_kind : (pages : Pages) (owner at n : ℕ) → IsPointerAt pages owner at n → byte (pages n) 0 ≡ 4
unfolding pointer_checks
pointer_kind pages owner at n is = kind_of (pages n) n 4 owner at _ is

pub pointer_off : (g : Geometry) (pages : Pages) (owner at n : ℕ) → HasRegions g pages
    → IsPointerAt pages owner at n → IsNoRegion g n
pointer_off g pages owner at n regions is = kind_off g pages n regions
    (let four = pointer_kind pages owner at n is in omega (arith, four))

pub header_off : (g : Geometry) → IsNoRegion g 0
header_off g region below same = omega (arith, same)

-- one page has changed, which is none of them
pub one_changed : (g : Geometry) (old new : Pages) (n : ℕ) → (HasRegions g old → IsNoRegion g n)
    → ((k : ℕ) → k ≢ n → new k ≡ old k) → TakesAtMost g old new 0
one_changed g old new n off others = record {
  regions = λ regions. (none_taken g old new (same regions)).regions regions;
  left = λ regions. (none_taken g old new (same regions)).left regions;
}
  where
    same : HasRegions g old → SameBits g old new
    same regions region below = others (inventory_page g.size region) (off regions region below)
