-- How a careful writer goes on: after pages were written out, and after a batch of pages was changed.
use Rattle.std.specs.Prelude.{◌≡◌, ◌≢◌, ℕ, Bool, true, false, not, ◌&&◌, ◌||◌, ◌⊎◌}
use Rattle.std.specs.Prelude.{List, Option, is_some, unwrap_or}
use Rattle.mg_careful.specs.declared.links.Demand.{Demand}
use Rattle.mg_careful.specs.Precedence.{Orders, Precedes}
use Rattle.mg_careful.specs.CarefulWrite.{PageSet, Demands, Meets, Has, DemandSet, IsIn, either}
use Rattle.mg_careful.specs.CarefulWrite.{Cache, IsClosed, overlay, three_parts, BearsDemands, IsCareful}

-- the cache after the pages of a set were written out
abbrev pub written_out : Cache → PageSet → Cache
written_out cache gone = record {
  disk = overlay cache gone;
  pool = cache.pool;
  dirty = λ p. cache.dirty p && not (gone p);
  ordered = λ a b. cache.ordered a b
      && ((cache.dirty a && not (gone a)) && (cache.dirty b && not (gone b)));
}

-- the law of page writes: after the pages of a closed set were written out the writer is careful
-- still, with the set of three parts for the disk
abbrev pub StaysCareful : Demands → Meets → Type 0
StaysCareful demands meets = (cache : Cache) (of_disk of_pool : DemandSet)
    → IsCareful demands meets cache of_disk of_pool
    → (gone : PageSet) → IsClosed cache gone
    → IsCareful demands meets (written_out cache gone) (three_parts cache gone of_disk of_pool)
    of_pool

-- the contents that a batch puts on pages, none where it puts none
abbrev pub Contents : Type 0
Contents = ℕ → Option (List ℕ)

-- A batch was laid on a cache, after the pages of a set were written out: its pages have their new
-- contents and are dirty, its orders were entered where their first page is dirty, and nothing else
-- has changed.
pub record LaysBatch (old new : Cache) (gone : PageSet) (batch : Contents) (orders : Orders)
    : Type 0 where
  pub disk : (p : ℕ) → new.disk p ≡ overlay old gone p
  pub pool : (p : ℕ) → new.pool p ≡ unwrap_or (batch p) (old.pool p)
  pub dirty : (p : ℕ) → new.dirty p ≡ (is_some (batch p) || (old.dirty p && not (gone p)))
  pub ordered : (a b : ℕ) → new.ordered a b
      ≡ ((written_out old gone).ordered a b || (orders a b && new.dirty a))

-- whether a demand of the pool goes on as it was: its target page is not in the batch, and the
-- batch does not drop it
abbrev pub goes_on : Contents → (Demand → Bool) → Demand → Bool
goes_on batch dropped d = not (is_some (batch d.target)) && not (dropped d)

-- the pool's demands after a batch: those that it states, and the old ones that go on
abbrev pub laid_demands : Contents → (Demand → Bool) → DemandSet → DemandSet → DemandSet
laid_demands batch dropped of_pool stated =
    either stated (λ d witness. goes_on batch dropped d && of_pool d witness)

-- a link stood in the pool: it had the demand, and its target page made the link
abbrev pub Stood : Demands → Cache → DemandSet → Demand → Demand → Type 0
Stood demands old of_pool d e = IsIn of_pool d × Has (demands (old.pool d.target) d) e

-- What a batch owes, for the demands that it states: they are met, and what they demand in turn is
-- stated or goes on; and the orders bear the links that they make, and those of the disk to pages of
-- the batch. A link that stood before costs no order: on a page that the batch leaves alone it costs
-- nothing, unless it leads to a page of the batch, and then what it wants there is stated.
pub record BatchBears (demands : Demands) (meets : Meets) (old new : Cache) (batch : Contents)
    (dropped : Demand → Bool) (of_disk of_pool stated : DemandSet) : Type 0 where
  pub met : (d : Demand) → IsIn stated d → meets (new.pool d.target) d ≡ true
  pub in_turn : (d e : Demand) → IsIn stated d → Has (demands (new.pool d.target) d) e
      → IsIn (laid_demands batch dropped of_pool stated) e
  pub still : (d e : Demand) → IsIn of_pool d → goes_on batch dropped d ≡ true
      → Has (demands (new.pool d.target) d) e → goes_on batch dropped e ≡ false → IsIn stated e
  -- what a stated demand makes on another dirty page stood before, or is on the disk already, or that
  -- page precedes
  pub new_links : (d e : Demand) → IsIn stated d → Has (demands (new.pool d.target) d) e
      → e.target ≢ d.target → new.dirty e.target ≡ true
      → Stood demands old of_pool d e ⊎ (IsIn of_disk e ⊎ Precedes new.ordered e.target d.target)
  -- what the disk still demands of a page of the batch, or of what is dropped, is stated, or the
  -- page that demands it precedes
  pub old_links : (d e : Demand) → IsIn of_disk d → Has (demands (new.disk d.target) d) e
      → e.target ≢ d.target → new.dirty e.target ≡ true → goes_on batch dropped e ≡ false
      → IsIn stated e ⊎ Precedes new.ordered d.target e.target

-- the law of a batch: a writer who was careful bears the demands after it, if the batch bears its own
abbrev pub BatchStaysCareful : Demands → Meets → Type 0
BatchStaysCareful demands meets = (old new : Cache) (of_disk of_pool : DemandSet)
    → IsCareful demands meets old of_disk of_pool
    → (gone : PageSet) → IsClosed old gone
    → (batch : Contents) (orders : Orders) → LaysBatch old new gone batch orders
    → (dropped : Demand → Bool) (stated : DemandSet)
    → BatchBears demands meets old new batch dropped (three_parts old gone of_disk of_pool) of_pool
    stated
    → BearsDemands demands meets new (three_parts old gone of_disk of_pool)
    (laid_demands batch dropped of_pool stated)
