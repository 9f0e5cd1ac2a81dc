-- What a batch is while a table gets a data page.
use Rattle.std.specs.Prelude.{◌≡◌, ◌<◌, ℕ, List}
use Rattle.std.proofs.Common.{sym, subst, ◌∙◌}
use Rattle.mg_base.specs.declared.geometry.Geometry.{Geometry}
use Rattle.mg_pointer.specs.PointerPageLaws.{length-new_pointer_page}
use Rattle.mg_pool.specs.Batch.{Changed}
use Rattle.mg_pool.specs.declared.batch.BatchPage.{BatchPage}
use Rattle.mg_space.specs.BelowLaws.{taken_below}
use Rattle.mg_space.specs.Taking.{PutsInventory}
use Rattle.mg_space.specs.View.{AreWhole}
use Rattle.mg_space.specs.ViewLaws.{whole_on}
use Rattle.mg_image.specs.Inventory.{inventory_page}
use Rattle.mg_space.specs.Taking.{region_of}
use Rattle.mg_heap.specs.Growth.{MakesData, MakesPointer}

-- contents are one page long after each step, and of pages below the limit
pub whole_taken : (g : Geometry) (old new : Changed) (n : ℕ) → AreWhole g old.pages
    → PutsInventory g old new n → AreWhole g new.pages
whole_taken g old new n whole puts =
    whole_on g old new (inventory_page g.size (region_of g.size n)) puts.bytes whole puts.len
    (taken_below g (inventory_page g.size (region_of g.size n)) puts.region) puts.puts

pub whole_made : (g : Geometry) (old new : Changed) (owner place n : ℕ) (bytes : List ℕ)
    → AreWhole g old.pages → n < g.limit → MakesData g.size old new owner place n bytes
    → AreWhole g new.pages
whole_made g old new owner place n bytes whole below makes =
    whole_on g old new n bytes whole makes.made.len below makes.puts

pub whole_begun : (g : Geometry) (old new : Changed) (owner at p n : ℕ) → AreWhole g old.pages
    → p < g.limit → MakesPointer g.size old new owner at p n → AreWhole g new.pages
whole_begun g old new owner at p n whole below makes = whole_on g old new p makes.page whole
    (makes.adds.len ∙ length-new_pointer_page g.size p owner at) below makes.puts

pub whole_same : (g : Geometry) (old new : Changed) → AreWhole g old.pages → new.pages ≡ old.pages
    → AreWhole g new.pages
whole_same g old new whole same = subst (λ (pages : List BatchPage). AreWhole g pages) (sym same) whole
