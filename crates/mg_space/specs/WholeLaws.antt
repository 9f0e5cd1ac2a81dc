-- Contents of one page, each of a page below the page limit, stay so by a geometry that is the same.
use Rattle.std.specs.Prelude.{◌≡◌, List}
use Rattle.std.proofs.Common.{subst, sym}
use Rattle.mg_base.specs.Disk.{Meaning}
use Rattle.mg_base.specs.declared.geometry.Geometry.{Geometry}
use Rattle.mg_pool.specs.declared.batch.BatchPage.{BatchPage}
use Rattle.mg_pool.specs.declared.pool.Pool.{Pool}
use Rattle.mg_space.specs.View.{AreWhole, KeepsStore}

-- they are so by each of two geometries that are the same
pub whole_as : (g h : Geometry) (pages : List BatchPage) → g ≡ h → AreWhole g pages
    → AreWhole h pages
whole_as g h pages same whole = subst (λ (k : Geometry). AreWhole k pages) same whole

-- and they are so after a call that has only read
pub whole_kept : {D L : Type 0} (m : Meaning D) (a b : Pool D L) (pages : List BatchPage)
    → KeepsStore m a b → AreWhole a.geometry pages → AreWhole b.geometry pages
whole_kept m a b pages kept whole = whole_as a.geometry b.geometry pages (sym kept.geometry) whole
