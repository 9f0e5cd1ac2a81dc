-- The one invariant of tables and index trees is kept by page writes, by a batch that pays, and by one that takes
-- rows out.
use Rattle.std.specs.Prelude.{◌≡◌, ◌≢◌, ℕ, Bool, true, false, not, ◌==◌, List, [], unwrap_or}
use Rattle.std.proofs.Common.{inl, inr, refl, sym, subst, ap, ◌∙◌}
use Rattle.std.proofs.Math.Path.{fun_ext}
use Rattle.std.proofs.lemmas.Bool.{and_from, and_parts, both_ways, not-true}
use Rattle.mg_base.specs.Disk.{Meaning}
use Rattle.mg_base.specs.Image.{Image}
use Rattle.mg_careful.specs.declared.links.Demand.{Demand}
use Rattle.mg_careful.specs.CarefulWrite.{Cache, DemandSet, IsClosed, IsIn, PageSet, either, listed, three_parts}
use Rattle.mg_careful.specs.CarefulSteps.{LaysBatch}
use Rattle.mg_demand_laws.specs.Freeing.{WritesBearAll, without}
use Rattle.mg_demand_laws.specs.Runs.{BatchBearsExactly, Lasting, ThreeHasBoth}
use Rattle.mg_image.specs.Form.{Pages}
use Rattle.mg_pool.specs.Batch.{Changed, content_in, lists}
use Rattle.mg_pool.specs.Change.{ChangesPages}
use Rattle.mg_pool.specs.Dirty.{DirtyPages}
use Rattle.mg_pool.specs.Pool.{cache_of, shown, taken_out}
use Rattle.mg_pool.specs.declared.pool.Pool.{Pool}
use Rattle.mg_space.specs.Demands.{demands_of, meets_of}
use Rattle.mg_space.specs.View.{viewed}
use Rattle.mg_space.specs.declared.links.TheConstants.{VERSION}
use Rattle.mg_demand_laws.specs.Met.{of_listed}
use Rattle.mg_demand_laws.specs.Wanting.{may_go}
use Rattle.mg_demand_laws.specs.WantingLaws.{either_cases, in_one}
use Rattle.mg_demand_laws.specs.BatchSteps.{PaysInSteps}
use Rattle.mg_demand_laws.specs.PoolTies.{StepChangesBear, cache_over, lays}
use Rattle.mg_demand_laws.specs.Wants.{AreOrderly}
use Rattle.mg_demand_laws.specs.Chained.{IsChained}
use Rattle.mg_demand_laws.specs.KeepingTies.{still_wanted, wanted_on}
use Rattle.mg_demand_laws.specs.Unmaking.{PaysRows}
use Rattle.mg_demand_laws.specs.TableRuns.{ChangesBatch}
use Rattle.mg_demand_laws.specs.Calls.{EachStands, TreeAt}
use Rattle.mg_demand_laws.specs.WriteLaws.{written_cache, written_closed}
use Rattle.mg_demand_laws.specs.Writes.{WritesPages}
use Rattle.mg_demand_laws.specs.Joint.{BearsJointly, LeavesTrees, PaysBatch}
use Rattle.mg_demand_laws.specs.Leaving.{trees_stay, trees_within}

-- A cache keeps the invariant, with these trees; of what disk and pool had, but for versions, both have each, and of
-- the pool's the pool has each; and of these things, but for versions, the pool has each.
pub record KeepsJointly (size : ℕ) (cache : Cache) (it : Lasting) (trees : List TreeAt)
    (was_disk was_pool news : DemandSet) : Type 0 where
  pub of_disk : DemandSet
  pub of_pool : DemandSet
  pub its : BearsJointly size cache it trees of_disk of_pool
  pub rooted : (d : Demand) → d.what ≢ VERSION → IsIn was_disk d → IsIn was_pool d → IsIn of_disk d × IsIn of_pool d
  pub kept : (d : Demand) → d.what ≢ VERSION → IsIn was_pool d → IsIn of_pool d
  pub newly : (d : Demand) → d.what ≢ VERSION → IsIn news d → IsIn of_pool d

-- the law: page writes keep it
abbrev pub WritesKeepJointly : (D L : Type 0) → Meaning D → Type 0
WritesKeepJointly D L m = (size : ℕ) (old new : Pool D L) (i j : Image) (it now : Lasting) (trees : List TreeAt)
    (of_disk of_pool : DemandSet) → WritesPages m old new i j it now
    → BearsJointly size (cache_over old i) it trees of_disk of_pool
    → KeepsJointly size (cache_over new j) now trees of_disk of_pool (listed [])

-- the law: so does the change of a batch that pays, whatever pages it wrote out first
abbrev pub BatchesKeepJointly : (D L : Type 0) → Meaning D → Type 0
BatchesKeepJointly D L m = (before after : Pool D L) (i j : Image) (batch : Changed) (it : Lasting)
    (trees ends : List TreeAt) (of_disk of_pool news : DemandSet) → ChangesBatch m before after i j batch
    → BearsJointly before.geometry.size (cache_over before i) it trees of_disk of_pool
    → ((on_disk : DemandSet) → ((d : Demand) → IsIn of_disk d → IsIn of_pool d → IsIn on_disk d)
    → PaysBatch before.geometry.size (shown before.dirty i) (viewed before i batch) (content_in batch.pages)
    (lists batch.orders) it ends on_disk of_pool news)
    → KeepsJointly before.geometry.size (cache_over after j) it ends of_disk of_pool news

-- the law: so does that of a batch that takes rows out, and leaves the trees alone
abbrev pub RowsKeepJointly : (D L : Type 0) → Meaning D → Type 0
RowsKeepJointly D L m = (before after : Pool D L) (i j : Image) (old batch : Changed) (it : Lasting)
    (trees : List TreeAt) (of_disk of_pool : DemandSet) → ChangesBatch m before after i j batch
    → viewed before i old ≡ shown before.dirty i
    → BearsJointly before.geometry.size (cache_over before i) it trees of_disk of_pool
    → PaysRows before i old batch (content_in batch.pages) (lists batch.orders) it of_pool
    → LeavesTrees before.geometry.size (viewed before i old) (viewed before i batch) trees (listed [])
    → KeepsJointly before.geometry.size (cache_over after j) it trees of_disk of_pool (listed [])

-- ---- page writes

-- less may be dropped where more transactions are settled
less_goes : (old new : ℕ → Bool) → ((t : ℕ) → old t ≡ true → new t ≡ true) → (d : Demand)
    → may_go new d ≡ true → may_go old d ≡ true
less_goes old new more d may =
    let parts = and_parts (d.what == VERSION) _ may in
    and_from _ _ parts.0 (at (old d.b) (more d.b) parts.1)
  where
    at : (b : Bool) → (b ≡ true → new d.b ≡ true) → not (new d.b) ≡ true → not b ≡ true
    at true is out = absurd (both_ways _ (not-true _ out) (is refl))
    at false is out = refl

pub writes_keep_jointly : (D L : Type 0) (m : Meaning D) → WritesBearAll demands_of meets_of → ThreeHasBoth
    → WritesKeepJointly D L m
writes_keep_jointly D L m law both size old new i j it now trees of_disk of_pool w its = record {
  of_disk = three_parts (cache_of old.dirty old.graph i) (taken_out old.dirty new.dirty) of_disk of_pool;
  of_pool = of_pool;
  its = subst (λ (c : Cache). BearsJointly size c now trees
      (three_parts (cache_of old.dirty old.graph i) (taken_out old.dirty new.dirty) of_disk of_pool) of_pool)
      (sym (written_cache m old new i j w.run w.tells w.before w.after)) (record {
        tables = record {
          bears = record {
            lasting = w.lasts.lasting;
            all = law (cache_of old.dirty old.graph i) of_disk of_pool it.lasts (may_go it.settled) now.lasts
                (may_go now.settled) its.tables.bears.all (taken_out old.dirty new.dirty)
                (written_closed m old new i j w.run w.tells w.before w.after) w.lasts.more
                (less_goes it.settled now.settled w.lasts.settled);
            wants = its.tables.bears.wants;
          };
          orderly = its.tables.orderly;
          chained = its.tables.chained;
        };
        stand = its.stand;
      });
  rooted = λ d other disk pool. (
    both (cache_of old.dirty old.graph i) (taken_out old.dirty new.dirty) of_disk of_pool d disk pool,
    pool,
  );
  kept = λ d other pool. pool;
  newly = λ d other none. absurd (of_listed [] d none);
}

-- ---- batches

-- the pool's pages behind the change of a batch are those that the batch is viewed with
pool_after : {D L : Type 0} (m : Meaning D) (before after : Pool D L) (i j : Image) (batch : Changed)
    → ChangesBatch m before after i j batch → viewed before i batch ≡ shown after.dirty j
pool_after m before after i j batch it =
    at (it.frame (it.keeps.disk.tells ∙ it.tells.told) i j (it.keeps.disk.held ∙ it.tells.held) it.held)
  where
    at : (gone : PageSet) × ChangesPages it.ready.dirty after.dirty it.ready.graph after.graph i j gone
        (content_in batch.pages) batch.orders → viewed before i batch ≡ shown after.dirty j
    at (gone, changes) = sym (fun_ext (λ p. changes.shown_new p
        ∙ ap (λ (d : DirtyPages). unwrap_or (content_in batch.pages p) (shown d i p)) it.keeps.dirty))

pub batches_keep_jointly : (D L : Type 0) (m : Meaning D) → ThreeHasBoth → BatchBearsExactly → BatchesKeepJointly D L m
batches_keep_jointly D L m both law before after i j batch it trees ends of_disk of_pool news made its pays =
    at (made.frame (made.keeps.disk.tells ∙ made.tells.told) i j (made.keeps.disk.held ∙ made.tells.held) made.held)
  where
    same : cache_over made.ready i ≡ cache_over before i
    same = λ k. cache_of (made.keeps.dirty k) (made.keeps.graph k) i

    at : (gone : PageSet) × ChangesPages made.ready.dirty after.dirty made.ready.graph after.graph i j gone
        (content_in batch.pages) batch.orders
        → KeepsJointly before.geometry.size (cache_over after j) it ends of_disk of_pool news
    at (gone, changes) =
        let paid_batch = subst (λ (pages : Pages). PaysBatch before.geometry.size (shown before.dirty i) pages
        (content_in batch.pages) (lists batch.orders) it ends (three_parts (cache_over before i) gone of_disk of_pool) of_pool
        news) (pool_after m before after i j batch made)
        (pays (three_parts (cache_over before i) gone of_disk of_pool) (both (cache_over before i) gone of_disk of_pool)) in
        let paid = paid_batch.newly.pays.paid in
        record {
          of_disk = three_parts (cache_over before i) gone of_disk of_pool;
          of_pool = without paid.dropped (either of_pool paid.more);
          its = record {
            tables = record {
              bears = law before.geometry.size (cache_over before i) (cache_over after j) it gone (content_in batch.pages)
                  (lists batch.orders) (subst (λ (c : Cache). IsClosed c gone) same changes.out)
                  (subst (λ (c : Cache). LaysBatch c (cache_over after j) gone (content_in batch.pages) (lists batch.orders))
                  same (lays made.ready.dirty after.dirty made.ready.graph after.graph i j gone (content_in batch.pages)
                  batch.orders changes)) made.lawful.later_in of_disk of_pool its.tables.bears paid;
              orderly = paid_batch.newly.pays.orderly;
              chained = paid_batch.newly.pays.chained;
            };
            stand = paid_batch.stand;
          };
          rooted = λ d other disk has. (
            both (cache_over before i) gone of_disk of_pool d disk has,
            still_wanted it.settled paid.dropped of_pool paid.more paid.drops.may d other has,
          );
          kept = λ d other has. still_wanted it.settled paid.dropped of_pool paid.more paid.drops.may d other has;
          newly = λ d other h. wanted_on it.settled paid.dropped (either of_pool paid.more) paid.drops.may d other
              (paid_batch.newly.newly d h);
        }

pub rows_keep_jointly : (D L : Type 0) (m : Meaning D) → StepChangesBear D L m → RowsKeepJointly D L m
rows_keep_jointly D L m law before after i j old batch it trees of_disk of_pool made begins its rows leaves =
    let with_ = law before made.ready after i j batch it of_disk of_pool rows.last made.keeps made.frame made.tells made.held
    made.lawful its.tables.bears (subst (λ (pages : Pages). PaysInSteps before.geometry.size (content_in batch.pages)
    (lists batch.orders) it pages of_pool (viewed before i batch) rows.last) begins rows.steps) in
    record {
      of_disk = with_.of_disk;
      of_pool = rows.last;
      its = record {
        tables = record {
          bears = with_.bears;
          orderly = subst (λ (pages : Pages). AreOrderly before.geometry.size pages rows.last) pool rows.orderly;
          chained = subst (λ (pages : Pages). IsChained before.geometry.size pages rows.last) pool rows.chained;
        };
        stand = subst (λ (pages : Pages). EachStands before.geometry.size pages rows.last trees) pool
            (trees_within before.geometry.size (viewed before i batch) trees (either of_pool (listed [])) rows.last
            (λ d h. in_one of_pool (listed []) d (rows.fewer d h)) still
            (trees_stay before.geometry.size (viewed before i old) (viewed before i batch) trees of_pool (listed []) stood
            leaves));
      };
      rooted = with_.rooted;
      kept = rows.kept;
      newly = λ d other none. absurd (of_listed [] d none);
    }
  where
    pool : viewed before i batch ≡ shown after.dirty j
    pool = pool_after m before after i j batch made

    stood : EachStands before.geometry.size (viewed before i old) of_pool trees
    stood = subst (λ (pages : Pages). EachStands before.geometry.size pages of_pool trees) (sym begins) its.stand

    still : (d : Demand) → d.what ≢ VERSION → IsIn (either of_pool (listed [])) d → IsIn rows.last d
    still d other h = elim (either_cases of_pool (listed []) d h) [
      | inl x ↦ rows.kept d other x
      | inr none ↦ absurd (of_listed [] d none)
    ]
