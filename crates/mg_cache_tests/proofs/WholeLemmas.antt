-- Contents of one page, each of a page below the page limit, between the calls of a test.
use Rattle.std.proofs.Common.{◌≡◌, ◌<◌, ℕ, List, length, sym, arith, subst, ap, ◌∙◌}
use Rattle.std.specs.Bool.{MatchBool}
use Rattle.std.specs.Prelude.{Bool, true, false, Result, Ok, Err, IfOk, OnErr}
use Rattle.mg_base.specs.declared.geometry.Geometry.{Geometry}
use Rattle.mg_pool.specs.declared.batch.BatchPage.{BatchPage}
use Rattle.mg_pool.specs.Batch.{Changed, PutsPage}
use Rattle.mg_pool.specs.declared.pool.Pool.{Pool}
use Rattle.mg_base.specs.MemDisk.{mem_meaning}
use Rattle.mg_base.specs.declared.mem_disk.MemDisk.{MemDisk}
use Rattle.mg_pool.specs.Pool.{IsPool}
use Rattle.mg_space.specs.View.{AreWhole}
use Rattle.mg_base.specs.declared.numbers.PageNo.{PageNo}
use Rattle.mg_space.specs.declared.fault.SpaceFault.{SpaceFault}
use Rattle.mg_space.specs.Taking.{IsGeometry, PutsInventory}
use Rattle.mg_heap.specs.GrowthLaws.{whole_taken}
use Rattle.mg_space.specs.ViewLaws.{whole_on}
use Rattle.mg_space.specs.WholeLaws.{whole_as}

-- what is so by each geometry with room for some page is so by one of them
pub whole_below : (bound limit : ℕ) (g : Geometry) (pages : List BatchPage)
    → ((k : Geometry) → k.size ≡ 1024 → bound < k.limit → AreWhole k pages) → g.size ≡ 1024 → g.limit ≡ limit
    → bound < limit → AreWhole g pages
whole_below bound limit g pages all size is less = all g size (omega (arith, is, less))

-- a page of the inventory is put where a page is taken, and nothing else
pub whole_taking : (g : Geometry) (old new : Changed) (result : Result PageNo SpaceFault) → AreWhole g old.pages
    → IfOk result (λ page. PutsInventory g old new page.0) → OnErr result (new ≡ old) → AreWhole g new.pages
whole_taking g old new (Ok page) whole puts same = whole_taken g old new page.0 whole puts
whole_taking g old new (Err fault) whole puts same = subst (λ (b : Changed). AreWhole g b.pages) (sym same) whole

-- an empty table is one page more
pub whole_table : (old new : Changed) (bytes : List ℕ)
    → ((g : Geometry) → g.size ≡ 1024 → 1 < g.limit → AreWhole g old.pages) → PutsPage old new 5 bytes
    → length bytes ≡ 1024 → (g : Geometry) → g.size ≡ 1024 → 5 < g.limit → AreWhole g new.pages
whole_table old new bytes whole puts len g size below =
    whole_on g old new 5 bytes (whole g size (omega (arith, below))) (len ∙ sym size) below puts

-- a store and a batch are ready still behind a call that leaves the geometry and the batch
pub ready_moved : {L : Type 0} (old new : Pool MemDisk L) (pages : List BatchPage) → IsPool mem_meaning new
    → new.geometry ≡ old.geometry → IsGeometry old.geometry → old.geometry.size ≡ 1024 → AreWhole old.geometry pages
    → IsPool mem_meaning new × IsGeometry new.geometry × (new.geometry.size ≡ 1024) × AreWhole new.geometry pages
ready_moved old new pages pool same geometry size whole = (
  pool,
  subst IsGeometry (sym same) geometry,
  ap (λ (g : Geometry). g.size) same ∙ size,
  whole_as old.geometry new.geometry pages (sym same) whole,
)

-- what holds at any rate holds where a test is true
pub where_true : {R : Type 0} (b : Bool) → R → MatchBool b R (Unit {0})
where_true true holds = holds
where_true false holds = tt
