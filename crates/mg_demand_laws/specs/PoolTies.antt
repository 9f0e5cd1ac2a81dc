-- A cache keeps the one invariant: after page writes, and after the change of a batch that pays.
use Rattle.std.specs.Prelude.{◌≡◌, ◌&&◌, ◌||◌, ℕ, not, List, Option, Some, None, is_some, unwrap_or}
use Rattle.std.proofs.Common.{refl, sym, subst, ap, ◌∙◌}
use Rattle.std.proofs.Math.Path.{fun_ext}
use Rattle.mg_base.specs.Disk.{Meaning}
use Rattle.mg_base.specs.Image.{Image, page_at}
use Rattle.mg_careful.specs.Graph.{PageGraph}
use Rattle.mg_careful.specs.declared.graph.Order.{Order}
use Rattle.mg_careful.specs.declared.links.Demand.{Demand}
use Rattle.mg_careful.specs.CarefulSteps.{LaysBatch}
use Rattle.mg_careful.specs.CarefulWrite.{Cache, DemandSet, IsClosed, IsIn, PageSet, three_parts}
use Rattle.mg_demand_laws.specs.Runs.{BatchBearsLinks, BearsLinks, Lasting, PaysThenDrops, StillBears, ThreeHasBoth}
use Rattle.mg_image.specs.Form.{Pages}
use Rattle.mg_pool.specs.Batch.{Changed, IsLawful, content_in, lists}
use Rattle.mg_pool.specs.Change.{ChangesOverlays, ChangesPages}
use Rattle.mg_pool.specs.Dirty.{DirtyPages, is_dirty}
use Rattle.mg_pool.specs.Pool.{cache_of, shown}
use Rattle.mg_pool.specs.declared.pool.Pool.{Pool}
use Rattle.mg_space.specs.View.{KeepsStore, Tells, viewed}
use Rattle.mg_demand_laws.specs.BatchSteps.{BearsWith, PaysInSteps}
use Rattle.mg_demand_laws.specs.StepTies.{StepsBear}

-- the cache over an image of its disk
abbrev pub cache_over : {D L : Type 0} → Pool D L → Image → Cache
cache_over store image = cache_of store.dirty store.graph image

-- What a batch pays whatever pages are written out before it is put: of what disk and pool have, the disk has
-- each thing then.
abbrev pub PaysAlways : {D L : Type 0} → Pool D L → Image → Changed → Lasting → DemandSet → DemandSet → Type 0
PaysAlways before i batch it of_disk of_pool = (on_disk : DemandSet)
    → ((d : Demand) → IsIn of_disk d → IsIn of_pool d → IsIn on_disk d)
    → PaysThenDrops before.geometry.size (shown before.dirty i) (viewed before i batch)
    (content_in batch.pages) (lists batch.orders) it on_disk of_pool

-- the law: pages were read, and then a batch was changed that pays
abbrev pub ChangesBear : (D L : Type 0) → Meaning D → Type 0
ChangesBear D L m = (before ready after : Pool D L) (i j : Image) (batch : Changed) (it : Lasting)
    (of_disk of_pool : DemandSet) → KeepsStore m before ready
    → ChangesOverlays m (content_in batch.pages) batch.orders ready after
    → Tells m before.disk i → m.held after.disk ≡ Some j
    → IsLawful before.geometry.size batch.pages batch.orders
    → BearsLinks before.geometry.size (cache_over before i) it of_disk of_pool
    → PaysAlways before i batch it of_disk of_pool
    → StillBears before.geometry.size (cache_over after j) it of_disk of_pool

-- the law where the batch pays and drops several times
abbrev pub StepChangesBear : (D L : Type 0) → Meaning D → Type 0
StepChangesBear D L m = (before ready after : Pool D L) (i j : Image) (batch : Changed) (it : Lasting)
    (of_disk of_pool last : DemandSet) → KeepsStore m before ready
    → ChangesOverlays m (content_in batch.pages) batch.orders ready after
    → Tells m before.disk i → m.held after.disk ≡ Some j
    → IsLawful before.geometry.size batch.pages batch.orders
    → BearsLinks before.geometry.size (cache_over before i) it of_disk of_pool
    → PaysInSteps before.geometry.size (content_in batch.pages) (lists batch.orders) it (shown before.dirty i) of_pool
    (viewed before i batch) last
    → BearsWith before.geometry.size (cache_over after j) it of_disk of_pool last

-- the frame of a change, in the terms of the law
pub lays : (old new : DirtyPages) (graph more : PageGraph) (i j : Image) (gone : PageSet)
    (batch : ℕ → Option (List ℕ)) (orders : List Order) → ChangesPages old new graph more i j gone batch orders
    → LaysBatch (cache_of old graph i) (cache_of new more j) gone batch (lists orders)
lays old new graph more i j gone batch orders changes = record {
  disk = λ p. ap (λ (n : ℕ). page_at n j p) changes.size ∙ changes.image.pages p;
  pool = changes.shown_new;
  dirty = λ p. at p (batch p) refl;
  ordered = changes.ordered;
}
  where
    at : (p : ℕ) (o : Option (List ℕ)) → batch p ≡ o
        → is_dirty new p ≡ (is_some (batch p) || (is_dirty old p && not (gone p)))
    at p None is = rw is (changes.dirty_else p is)
    at p (Some bytes) is = rw is (changes.is_laid p (λ none. let e : Some bytes ≡ None = sym is ∙ none in cc))

pub changes_bear : (D L : Type 0) (m : Meaning D) → ThreeHasBoth → BatchBearsLinks → ChangesBear D L m
changes_bear D L m both law before ready after i j batch it of_disk of_pool keeps frame tells held lawful bears pays =
    at (frame (keeps.disk.tells ∙ tells.told) i j (keeps.disk.held ∙ tells.held) held)
  where
    same : cache_over ready i ≡ cache_over before i
    same = λ k. cache_of (keeps.dirty k) (keeps.graph k) i

    at : (gone : PageSet) × ChangesPages ready.dirty after.dirty ready.graph after.graph i j gone
        (content_in batch.pages) batch.orders
        → StillBears before.geometry.size (cache_over after j) it of_disk of_pool
    at (gone, changes) =
        let pool : viewed before i batch ≡ shown after.dirty j = sym (fun_ext (λ p. changes.shown_new p
        ∙ ap (λ (d : DirtyPages). unwrap_or (content_in batch.pages p) (shown d i p)) keeps.dirty)) in
        law before.geometry.size (cache_over before i) (cache_over after j) it gone (content_in batch.pages)
        (lists batch.orders) (subst (λ (c : Cache). IsClosed c gone) same changes.out)
        (subst (λ (c : Cache). LaysBatch c (cache_over after j) gone (content_in batch.pages) (lists batch.orders)) same
        (lays ready.dirty after.dirty ready.graph after.graph i j gone (content_in batch.pages) batch.orders changes))
        lawful.later_in of_disk of_pool bears
        (subst (λ (pages : Pages). PaysThenDrops before.geometry.size (shown before.dirty i) pages (content_in batch.pages)
        (lists batch.orders) it (three_parts (cache_over before i) gone of_disk of_pool) of_pool) pool
        (pays (three_parts (cache_over before i) gone of_disk of_pool)
        (both (cache_over before i) gone of_disk of_pool)))

pub step_changes_bear : (D L : Type 0) (m : Meaning D) → StepsBear → StepChangesBear D L m
step_changes_bear D L m law before ready after i j batch it of_disk of_pool last keeps frame tells held lawful bears steps =
    at (frame (keeps.disk.tells ∙ tells.told) i j (keeps.disk.held ∙ tells.held) held)
  where
    same : cache_over ready i ≡ cache_over before i
    same = λ k. cache_of (keeps.dirty k) (keeps.graph k) i

    at : (gone : PageSet) × ChangesPages ready.dirty after.dirty ready.graph after.graph i j gone
        (content_in batch.pages) batch.orders
        → BearsWith before.geometry.size (cache_over after j) it of_disk of_pool last
    at (gone, changes) =
        let pool : viewed before i batch ≡ shown after.dirty j = sym (fun_ext (λ p. changes.shown_new p
        ∙ ap (λ (d : DirtyPages). unwrap_or (content_in batch.pages p) (shown d i p)) keeps.dirty)) in
        law before.geometry.size (cache_over before i) (cache_over after j) it gone (content_in batch.pages)
        (lists batch.orders) (subst (λ (c : Cache). IsClosed c gone) same changes.out)
        (subst (λ (c : Cache). LaysBatch c (cache_over after j) gone (content_in batch.pages) (lists batch.orders)) same
        (lays ready.dirty after.dirty ready.graph after.graph i j gone (content_in batch.pages) batch.orders changes))
        lawful.later_in of_disk of_pool last
        (subst (λ (pages : Pages). PaysInSteps before.geometry.size (content_in batch.pages) (lists batch.orders) it
        (shown before.dirty i) of_pool pages last) pool steps) bears
