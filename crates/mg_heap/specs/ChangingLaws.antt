-- What a batch is after a change of one page.
use Rattle.std.specs.Prelude.{◌<◌, ℕ, Bool, true, false}
use Rattle.std.proofs.Common.{inl, inr, sym, subst}
use Rattle.mg_base.specs.declared.geometry.Geometry.{Geometry}
use Rattle.mg_pool.specs.Batch.{Changed}
use Rattle.mg_space.specs.View.{AreWhole}
use Rattle.mg_space.specs.ViewLaws.{whole_on}
use Rattle.mg_heap.specs.Changing.{ChangesAtMost, ChangesOne, ChangesWhere}

-- its contents are one page long still, and of pages below the limit, as that page is
pub whole_one : (g : Geometry) (old new : Changed) (page : ℕ) → AreWhole g old.pages → page < g.limit
    → ChangesOne g.size old new page → AreWhole g new.pages
whole_one g old new page whole below changes =
    whole_on g old new page changes.bytes whole changes.len below changes.puts

pub whole_where : (g : Geometry) (old new : Changed) (page : ℕ) (done : Bool) → AreWhole g old.pages
    → page < g.limit → ChangesWhere g.size old new page done → AreWhole g new.pages
whole_where g old new page true whole below changes = whole_one g old new page whole below changes
whole_where g old new page false whole below same =
    subst (λ (b : Changed). AreWhole g b.pages) (sym same) whole

pub whole_at_most : (g : Geometry) (old new : Changed) (page : ℕ) → AreWhole g old.pages
    → page < g.limit → ChangesAtMost g.size old new page → AreWhole g new.pages
whole_at_most g old new page whole below (inl same) =
    subst (λ (b : Changed). AreWhole g b.pages) (sym same) whole
whole_at_most g old new page whole below (inr changes) = whole_one g old new page whole below changes
