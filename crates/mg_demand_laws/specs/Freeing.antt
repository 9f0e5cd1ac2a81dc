-- What a cache owes where a batch also drops what was wanted, as the cell of a version that is taken
-- back. Some demands last: the disk has each of them that is wanted. Some may be dropped: a link of the
-- disk to one of these stands in the pool too, or its page is written first.
use Rattle.std.specs.Prelude.{◌≡◌, ◌≢◌, ◌⊎◌, ◌&&◌, ℕ, Bool, true, false, not, is_some}
use Rattle.mg_careful.specs.declared.links.Demand.{Demand}
use Rattle.mg_careful.specs.Precedence.{Orders, Precedes}
use Rattle.mg_careful.specs.CarefulWrite.{Cache, DemandSet, Demands, Has, IsClosed, IsIn, KeepsDemands, Meets, PageSet, Pages, either, three_parts}
use Rattle.mg_careful.specs.CarefulSteps.{Contents, LaysBatch, written_out}
use Rattle.mg_demand_laws.specs.Bearing.{BearsItsDemands, PaysDemands}

-- some of all demands, as a test
abbrev pub Which : Type 0
Which = Demand → Bool

-- a set of demands without those that are dropped
abbrev pub without : Which → DemandSet → DemandSet
without dropped set_ d witness = set_ d witness && not (dropped d)

-- the link from one wanted thing to another stands in the pool, or the page that has it precedes
abbrev pub StandsOrPrecedes : Demands → Cache → DemandSet → Demand → Demand → Type 0
StandsOrPrecedes demands cache of_pool d e =
    (IsIn of_pool d × Has (demands (cache.pool d.target) d) e)
    ⊎ Precedes cache.ordered d.target e.target

-- A cache bears its demands, and may drop some: of what is wanted the disk has all that lasts; and of the
-- disk's links to what may be dropped each stands in the pool, or its page precedes.
pub record BearsAll (demands : Demands) (meets : Meets) (cache : Cache) (of_disk of_pool : DemandSet)
    (lasts may_go : Which) : Type 0 where
  pub bears : BearsItsDemands demands meets cache of_disk of_pool
  pub lasting : (d : Demand) → IsIn of_pool d → lasts d ≡ true → IsIn of_disk d
  pub links : (d e : Demand) → IsIn of_disk d → Has (demands (cache.disk d.target) d) e
      → may_go e ≡ true → e.target ≢ d.target → StandsOrPrecedes demands cache of_pool d e

-- A change of pages drops demands that were wanted: each other one is met still, leads to nothing that
-- it did not lead to, and to nothing that is dropped.
pub record DropsDemands (demands : Demands) (meets : Meets) (old new : Pages) (wanted : DemandSet)
    (dropped : Which) : Type 0 where
  pub still : (d : Demand) → IsIn wanted d → dropped d ≡ false → meets (new d.target) d ≡ true
  pub links : (d e : Demand) → IsIn wanted d → dropped d ≡ false → Has (demands (new d.target) d) e
      → Has (demands (old d.target) d) e × (dropped e ≡ false)

-- A link to what may be dropped stays where a page is changed, or the page comes before that of what it
-- led to.
abbrev pub KeepsLinks : Demands → Pages → Pages → Orders → DemandSet → Which → Which → Type 0
KeepsLinks demands old new orders wanted dropped may_go = (d e : Demand) → IsIn wanted d
    → Has (demands (old d.target) d) e → may_go e ≡ true → e.target ≢ d.target
    → (Has (demands (new d.target) d) e × (dropped d ≡ false)) ⊎ (orders d.target e.target ≡ true)

-- What a batch pays that drops demands at its end. Between its two parts the pages are `mid`: up to there
-- it only wants more. What it newly wants does not last yet, and what it drops may be dropped.
pub record PaysAndDrops (demands : Demands) (meets : Meets) (old mid new : Pages) (orders : Orders)
    (on_disk wanted more : DemandSet) (dropped lasts may_go : Which) : Type 0 where
  pub pays : PaysDemands demands meets old mid orders on_disk wanted more
  pub drops : DropsDemands demands meets mid new (either wanted more) dropped
  pub keeps : KeepsLinks demands old new orders wanted dropped may_go
  pub fresh : (d : Demand) → IsIn more d → lasts d ≡ true → IsIn wanted d
  pub may : (d : Demand) → dropped d ≡ true → may_go d ≡ true

-- no page is dirty, and pool and disk are the same: whatever is to last, and whatever may be dropped
abbrev pub AllStarts : Demands → Meets → Type 0
AllStarts demands meets = (cache : Cache) (kept : DemandSet) (lasts may_go : Which)
    → ((p : ℕ) → cache.dirty p ≡ false) → ((p : ℕ) → cache.pool p ≡ cache.disk p)
    → ((a b : ℕ) → cache.ordered a b ≡ false) → KeepsDemands demands meets cache.disk kept
    → BearsAll demands meets cache kept kept lasts may_go

-- After the pages of a closed set were written out all is borne. More may last then: whatever is wanted of
-- a clean page; and less may be dropped.
abbrev pub WritesBearAll : Demands → Meets → Type 0
WritesBearAll demands meets = (cache : Cache) (of_disk of_pool : DemandSet)
    (lasts may_go now_lasts now_may_go : Which)
    → BearsAll demands meets cache of_disk of_pool lasts may_go
    → (gone : PageSet) → IsClosed cache gone
    → ((d : Demand) → now_lasts d ≡ true
    → (lasts d ≡ true) ⊎ ((written_out cache gone).dirty d.target ≡ false))
    → ((d : Demand) → now_may_go d ≡ true → may_go d ≡ true)
    → BearsAll demands meets (written_out cache gone) (three_parts cache gone of_disk of_pool) of_pool
    now_lasts now_may_go

-- The law of a batch that also drops: where all was borne before, it is borne after it. What it drops is
-- on pages of its own.
abbrev pub BatchesBearAll : Demands → Meets → Type 0
BatchesBearAll demands meets = (old new : Cache) (mid : Pages) (of_disk of_pool more : DemandSet)
    (dropped lasts may_go : Which)
    → BearsAll demands meets old of_disk of_pool lasts may_go
    → (gone : PageSet) → IsClosed old gone
    → (batch : Contents) (orders : Orders) → LaysBatch old new gone batch orders
    → ((a b : ℕ) → orders a b ≡ true → is_some (batch b) ≡ true)
    → ((d : Demand) → dropped d ≡ true → is_some (batch d.target) ≡ true)
    → PaysAndDrops demands meets old.pool mid new.pool orders (three_parts old gone of_disk of_pool)
    of_pool more dropped lasts may_go
    → BearsAll demands meets new (three_parts old gone of_disk of_pool)
    (without dropped (either of_pool more)) lasts may_go
