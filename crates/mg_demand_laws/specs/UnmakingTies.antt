-- Rows that are taken out in one batch, which pays in steps.
use Rattle.std.specs.Prelude.{◌≡◌, Some, unwrap_or}
use Rattle.std.proofs.Common.{sym, subst, ap, ◌∙◌}
use Rattle.std.proofs.Math.Path.{fun_ext}
use Rattle.mg_base.specs.Disk.{Meaning}
use Rattle.mg_base.specs.Image.{Image}
use Rattle.mg_careful.specs.CarefulWrite.{DemandSet, PageSet}
use Rattle.mg_demand_laws.specs.Runs.{Lasting}
use Rattle.mg_image.specs.Form.{Pages}
use Rattle.mg_pool.specs.Batch.{Changed, IsLawful, content_in, lists}
use Rattle.mg_pool.specs.Change.{ChangesOverlays, ChangesPages}
use Rattle.mg_pool.specs.Dirty.{DirtyPages}
use Rattle.mg_pool.specs.Pool.{shown}
use Rattle.mg_pool.specs.declared.pool.Pool.{Pool}
use Rattle.mg_space.specs.View.{KeepsStore, Tells, viewed}
use Rattle.mg_demand_laws.specs.BatchSteps.{PaysInSteps}
use Rattle.mg_demand_laws.specs.PoolTies.{StepChangesBear, cache_over}
use Rattle.mg_demand_laws.specs.Wants.{AreOrderly}
use Rattle.mg_demand_laws.specs.Chained.{IsChained}
use Rattle.mg_demand_laws.specs.Keeping.{BearsTables, KeepsTables}
use Rattle.mg_demand_laws.specs.Unmaking.{PaysRows}

-- ---- the cache's change

-- the law: pages were read, and then a batch was changed that takes rows out
abbrev pub RowsBear : (D L : Type 0) → Meaning D → Type 0
RowsBear D L m = (before ready after : Pool D L) (i j : Image) (batch : Changed) (it : Lasting)
    (of_disk of_pool : DemandSet) → KeepsStore m before ready
    → ChangesOverlays m (content_in batch.pages) batch.orders ready after
    → Tells m before.disk i → m.held after.disk ≡ Some j
    → IsLawful before.geometry.size batch.pages batch.orders
    → BearsTables before.geometry.size (cache_over before i) it of_disk of_pool → (old : Changed)
    → viewed before i old ≡ shown before.dirty i
    → PaysRows before i old batch (content_in batch.pages) (lists batch.orders) it of_pool
    → KeepsTables before.geometry.size (cache_over after j) it of_disk of_pool

pub rows_bear : (D L : Type 0) (m : Meaning D) → StepChangesBear D L m → RowsBear D L m
rows_bear D L m law before ready after i j batch it of_disk of_pool keeps frame tells held lawful its old begins rows =
    let with_ = law before ready after i j batch it of_disk of_pool rows.last keeps frame tells held lawful its.bears
    (subst (λ (pages : Pages). PaysInSteps before.geometry.size (content_in batch.pages) (lists batch.orders) it pages of_pool
    (viewed before i batch) rows.last) begins rows.steps) in
    record {
      of_disk = with_.of_disk;
      of_pool = rows.last;
      its = record {
        bears = with_.bears;
        orderly = subst (λ (pages : Pages). AreOrderly before.geometry.size pages rows.last) pool rows.orderly;
        chained = subst (λ (pages : Pages). IsChained before.geometry.size pages rows.last) pool rows.chained;
      };
      rooted = with_.rooted;
      kept = rows.kept;
    }
  where
    pool : viewed before i batch ≡ shown after.dirty j
    pool = at (frame (keeps.disk.tells ∙ tells.told) i j (keeps.disk.held ∙ tells.held) held)
      where
        at : (gone : PageSet) × ChangesPages ready.dirty after.dirty ready.graph after.graph i j gone
            (content_in batch.pages) batch.orders → viewed before i batch ≡ shown after.dirty j
        at (gone, changes) = sym (fun_ext (λ p. changes.shown_new p
            ∙ ap (λ (d : DirtyPages). unwrap_or (content_in batch.pages p) (shown d i p)) keeps.dirty))
