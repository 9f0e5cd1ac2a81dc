-- What a cache of pages owes to the law of careful write, from change to change: the demands of its
-- pages are borne, and the pool wants what the disk has on clean pages. A batch pays for the links
-- that its own pages come to hold.
use Rattle.std.specs.Prelude.{◌≡◌, ℕ, true, false, ◌⊎◌, is_some}
use Rattle.mg_careful.specs.declared.links.Demand.{Demand}
use Rattle.mg_careful.specs.Precedence.{Orders}
use Rattle.mg_careful.specs.CarefulWrite.{Cache, DemandSet, Demands, Has, IsCareful, IsClosed, IsIn, IsLinked, KeepsDemands, Meets, PageSet, Pages, either, overlay, three_parts}
use Rattle.mg_careful.specs.CarefulSteps.{Contents, LaysBatch, written_out}

-- A cache bears its demands: its writer is careful, for what the disk's image keeps and what the
-- pool's image keeps; and what the disk has on a clean page is wanted in the pool still.
pub record BearsItsDemands (demands : Demands) (meets : Meets) (cache : Cache) (of_disk of_pool : DemandSet)
    : Type 0 where
  pub careful : IsCareful demands meets cache of_disk of_pool
  pub clean : (d : Demand) → IsIn of_disk d → cache.dirty d.target ≡ false → IsIn of_pool d

-- The link from one wanted thing to another is paid for: what it leads to is wanted, as before or
-- newly; and this stands on the holder's own page, or the batch orders its page before the holder's,
-- or the disk has it.
pub record IsPaid (orders : Orders) (on_disk wanted more : DemandSet) (d e : Demand) : Type 0 where
  pub is_wanted : IsIn wanted e ⊎ IsIn more e
  pub is_first : (e.target ≡ d.target) ⊎ ((orders e.target d.target ≡ true) ⊎ IsIn on_disk e)

-- What a batch pays, by the pages before and after it: what was wanted is met still, and so is what
-- it newly wants; and a link that was not there before is paid for. A page that the batch leaves
-- alone owes nothing.
pub record PaysDemands (demands : Demands) (meets : Meets) (old new : Pages) (orders : Orders)
    (on_disk wanted more : DemandSet) : Type 0 where
  pub still : (d : Demand) → IsIn wanted d → meets (new d.target) d ≡ true
  pub met : (d : Demand) → IsIn more d → meets (new d.target) d ≡ true
  pub links : (d e : Demand) → IsIn wanted d → Has (demands (new d.target) d) e
      → Has (demands (old d.target) d) e ⊎ IsPaid orders on_disk wanted more d e
  pub new_links : (d e : Demand) → IsIn more d → Has (demands (new d.target) d) e
      → IsPaid orders on_disk wanted more d e

-- no page is dirty, and pool and disk are the same: what the one keeps is borne
abbrev pub BearingStarts : Demands → Meets → Type 0
BearingStarts demands meets = (cache : Cache) (kept : DemandSet)
    → ((p : ℕ) → cache.dirty p ≡ false) → ((p : ℕ) → cache.pool p ≡ cache.disk p)
    → ((a b : ℕ) → cache.ordered a b ≡ false) → KeepsDemands demands meets cache.disk kept
    → BearsItsDemands demands meets cache kept kept

-- after the pages of a closed set were written out the demands are borne still
abbrev pub WritesBear : Demands → Meets → Type 0
WritesBear demands meets = (cache : Cache) (of_disk of_pool : DemandSet)
    → BearsItsDemands demands meets cache of_disk of_pool
    → (gone : PageSet) → IsClosed cache gone
    → BearsItsDemands demands meets (written_out cache gone) (three_parts cache gone of_disk of_pool)
    of_pool

-- The law of a batch: where the demands were borne before, and the batch pays for its own pages, they
-- are borne after it. The later page of each of its orders is one of its own.
abbrev pub BatchesBear : Demands → Meets → Type 0
BatchesBear demands meets = (old new : Cache) (of_disk of_pool more : DemandSet)
    → BearsItsDemands demands meets old of_disk of_pool
    → (gone : PageSet) → IsClosed old gone
    → (batch : Contents) (orders : Orders) → LaysBatch old new gone batch orders
    → ((a b : ℕ) → orders a b ≡ true → is_some (batch b) ≡ true)
    → PaysDemands demands meets old.pool new.pool orders (three_parts old gone of_disk of_pool) of_pool
    more
    → BearsItsDemands demands meets new (three_parts old gone of_disk of_pool) (either of_pool more)

-- where the demands are borne, the overlay of each closed set is linked from all roots that disk and
-- pool have
abbrev pub OverlaysAreLinked : Demands → Meets → Type 0
OverlaysAreLinked demands meets = (cache : Cache) (of_disk of_pool roots : DemandSet)
    → BearsItsDemands demands meets cache of_disk of_pool
    → ((d : Demand) → IsIn roots d → IsIn of_disk d × IsIn of_pool d)
    → (set_ : PageSet) → IsClosed cache set_
    → IsLinked demands meets (overlay cache set_) roots
