-- A cache over a sound image begins with its demands borne, and whatever batches follow that pay, each
-- crash image is linked from the roots of that image.
use Rattle.std.specs.Prelude.{◌≡◌, ℕ, false}
use Rattle.mg_base.specs.declared.transaction.TxState.{TxState}
use Rattle.mg_careful.specs.CarefulWrite.{Cache, DemandSet, IsClosed, IsLinked, PageSet, listed, overlay}
use Rattle.mg_demand_laws.specs.Wanted.{wanted}
use Rattle.mg_image.specs.Form.{Form}
use Rattle.mg_image.specs.Records.{Reading}
use Rattle.mg_image.specs.Sound.{IsSoundBy}
use Rattle.mg_image.specs.Tables.{EachStand, Layout, stands_of}
use Rattle.mg_demand_laws.specs.Roots.{IsFilled, roots_of}
use Rattle.mg_space.specs.Demands.{demands_of, meets_of}
use Rattle.mg_demand_laws.specs.Runs.{BearsLinks, Goes, IsLasting, Lasting}

-- a cache has nothing dirty yet: its pool is its disk, which is a sound image with full pointer pages
pub record IsOpened (form : Form) (size : ℕ) (state : ℕ → TxState) (cache : Cache) (layout : Layout)
    (r : Reading) : Type 0 where
  pub sound : IsSoundBy form size state cache.disk layout r
  pub filled : EachStand (IsFilled size cache.disk) (stands_of layout)
  pub clean : (p : ℕ) → cache.dirty p ≡ false
  pub same : (p : ℕ) → cache.pool p ≡ cache.disk p
  pub unordered : (a b : ℕ) → cache.ordered a b ≡ false

-- what is wanted of its disk from the roots on
abbrev pub wanted_in : ℕ → Cache → Layout → DemandSet
wanted_in size cache layout = wanted demands_of cache.disk (roots_of size layout)

-- the law of openings: whatever lasts, of the versions, and those of settled transactions do
abbrev pub OpenedBears : Form → Type 0
OpenedBears form = (size : ℕ) (state : ℕ → TxState) (cache : Cache) (it : Lasting) (layout : Layout)
    (r : Reading) → IsOpened form size state cache layout r → IsLasting it
    → BearsLinks size cache it (wanted_in size cache layout) (wanted_in size cache layout)

-- the law of crashes
abbrev pub CrashesAreLinked : Form → Type 0
CrashesAreLinked form = (size : ℕ) (state : ℕ → TxState) (first last : Cache) (it end : Lasting)
    (layout : Layout) (r : Reading)
    → IsOpened form size state first layout r → IsLasting it → Goes size first it last end
    → (set_ : PageSet) → IsClosed last set_
    → IsLinked demands_of meets_of (overlay last set_) (listed (roots_of size layout))
