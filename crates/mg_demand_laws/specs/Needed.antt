-- What goes wrong where an order between pages is left out.
use Rattle.std.specs.Prelude.{◌≡◌, ◌≢◌, ◌↔◌, ◌==◌, ◌&&◌, ◌||◌, ℕ, List, true, false}
use Rattle.mg_careful.specs.declared.links.Demand.{Demand}
use Rattle.mg_careful.specs.CarefulWrite.{Cache, DemandSet, Demands, Has, IsClosed, IsIn, KeepsDemands, Meets, PageSet, overlay}
use Rattle.mg_careful.specs.Precedence.{Orders, Precedes}

-- A dirty page, of which one thing is wanted, leads in the pool to another thing, on another page, which the disk's page
-- does not have.
pub record LeadsAhead (demands : Demands) (meets : Meets) (cache : Cache) (d e : Demand) : Type 0 where
  pub dirty : cache.dirty d.target ≡ true
  pub leads : Has (demands (cache.pool d.target) d) e
  pub apart : e.target ≢ d.target
  pub unmet : meets (cache.disk e.target) e ≡ false

-- A page, of which one thing is wanted, leads on the disk to another thing, on another page, which is dirty, and which the
-- pool's page does not have any more.
pub record LeadsBehind (demands : Demands) (meets : Meets) (cache : Cache) (d e : Demand) : Type 0 where
  pub dirty : cache.dirty e.target ≡ true
  pub leads : Has (demands (cache.disk d.target) d) e
  pub apart : d.target ≢ e.target
  pub gone : meets (cache.pool e.target) e ≡ false

-- these pages precede a page, and no others
abbrev pub ArePredecessors : Orders → ℕ → PageSet → Type 0
ArePredecessors ordered page before = (p : ℕ) → (before p ≡ true) ↔ Precedes ordered p page

-- a page and the pages before it, as far as they are dirty
abbrev pub with_predecessors : Cache → ℕ → PageSet → PageSet
with_predecessors cache page before p = cache.dirty p && (p == page || before p)

-- No set of demands that wants this is kept by an image.
abbrev pub IsBroken : Demands → Meets → (ℕ → List ℕ) → Demand → Type 0
IsBroken demands meets image d = (wanted : DemandSet) → KeepsDemands demands meets image wanted → IsIn wanted d → ⊥

-- The order of one page before a later one is needed for what is wanted: where the first page does not precede the later
-- one, that one and those that do precede it are a closed set, and its overlay is broken.
abbrev pub IsNeeded : Demands → Meets → Cache → Demand → ℕ → ℕ → Type 0
IsNeeded demands meets cache d first later = (before : PageSet) → ArePredecessors cache.ordered later before
    → before first ≡ false
    → IsClosed cache (with_predecessors cache later before)
    × IsBroken demands meets (overlay cache (with_predecessors cache later before)) d

-- Where a page leads ahead, the page of what it leads to has to come before it.
abbrev pub OrdersAreNeeded : Demands → Meets → Type 0
OrdersAreNeeded demands meets = (cache : Cache) (d e : Demand) → LeadsAhead demands meets cache d e
    → IsNeeded demands meets cache d e.target d.target

-- Where a page leads behind, it has to come before the page of what it leads to.
abbrev pub LeavingOrdersAreNeeded : Demands → Meets → Type 0
LeavingOrdersAreNeeded demands meets = (cache : Cache) (d e : Demand) → LeadsBehind demands meets cache d e
    → IsNeeded demands meets cache d d.target e.target
