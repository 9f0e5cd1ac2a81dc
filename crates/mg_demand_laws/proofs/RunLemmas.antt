-- A run of page writes and batches keeps what is borne.
use Rattle.std.specs.Prelude.{◌≡◌, ◌≢◌, ◌==◌, ℕ, Bool, true, false, not, ◌&&◌, is_some}
use Rattle.std.proofs.lemmas.Bool.{and_from, and_parts, not_from_false, or_left, or_right, both_ways, not-true}
use Rattle.std.proofs.Common.{inl, inr, refl}
use Rattle.mg_careful.specs.declared.links.Demand.{Demand}
use Rattle.mg_careful.specs.Precedence.{Orders}
use Rattle.mg_careful.specs.CarefulWrite.{Cache, DemandSet, IsClosed, IsIn, PageSet, Pages, either, three_parts}
use Rattle.mg_careful.specs.CarefulSteps.{Contents, LaysBatch, written_out}
use Rattle.mg_demand_laws.specs.Bearing.{OverlaysAreLinked}
use Rattle.mg_demand_laws.specs.Freeing.{BatchesBearAll, PaysAndDrops, WritesBearAll, without}
use Rattle.mg_space.specs.Demands.{demands_of, meets_of}
use Rattle.mg_space.specs.declared.links.TheConstants.{VERSION}
use Rattle.mg_demand_laws.specs.VersionLaws.{may_is_version}
use Rattle.mg_demand_laws.specs.Wanting.{may_go}
use Rattle.mg_demand_laws.specs.WantingLaws.{in_one}
use Rattle.mg_demand_laws.specs.Runs.{BatchBearsExactly, BatchBearsLinks, BearsLinks, Lasting, PaysThenDrops, RunsBear, StillBears, ThreeHasBoth, changes, stays, writes}

-- what both sets have, the set of three parts has
pub in_three : ThreeHasBoth
in_three cache gone of_disk of_pool d disk pool = at (gone d.target) refl (cache.dirty d.target) refl
  where
    at : (x : Bool) → gone d.target ≡ x → (y : Bool) → cache.dirty d.target ≡ y
        → IsIn (three_parts cache gone of_disk of_pool) d
    at true is y was = (pool.0, or_left _ _ (and_from _ _ is pool.1))
    at false is true was = (
      disk.0,
      or_right (gone d.target && of_pool d disk.0) _
          (or_left _ _ (and_from _ _ (and_from _ _ was (not_from_false _ is)) disk.1)),
    )
    at false is false was = (
      disk.0,
      or_right (gone d.target && of_pool d disk.0) _
          (or_right ((cache.dirty d.target && not (gone d.target)) && of_disk d disk.0) _
          (and_from _ _ (not_from_false _ was) (or_left _ _ disk.1))),
    )

-- what is no version is not dropped
kept_else : (settled : ℕ → Bool) (dropped : Demand → Bool)
    → ((d : Demand) → dropped d ≡ true → may_go settled d ≡ true) → (d : Demand) → d.what ≢ VERSION
    → dropped d ≡ false
kept_else settled dropped may d other = at (dropped d) refl
  where
    at : (b : Bool) → dropped d ≡ b → dropped d ≡ false
    at true is = absurd (other (may_is_version settled d (may d is)).0)
    at false is = is

-- less may be dropped where more transactions are settled
less_goes : (old new : ℕ → Bool) → ((t : ℕ) → old t ≡ true → new t ≡ true) → (d : Demand)
    → may_go new d ≡ true → may_go old d ≡ true
less_goes old new more d may =
    let parts = and_parts (d.what == VERSION) _ may in
    and_from _ _ parts.0 (at (old d.b) refl parts.1)
  where
    at : (b : Bool) → old d.b ≡ b → not (new d.b) ≡ true → not b ≡ true
    at true is out = absurd (both_ways _ (not-true _ out) (more d.b is))
    at false is out = refl

-- what one cache bears still, from sets that have what earlier ones had
earlier : (size : ℕ) (last : Cache) (it : Lasting) (was_disk was_pool mid_disk mid_pool : DemandSet)
    → ((d : Demand) → d.what ≢ VERSION → IsIn was_disk d → IsIn was_pool d
    → IsIn mid_disk d × IsIn mid_pool d)
    → StillBears size last it mid_disk mid_pool → StillBears size last it was_disk was_pool
earlier size last it was_disk was_pool mid_disk mid_pool keeps still = record {
  of_disk = still.of_disk;
  of_pool = still.of_pool;
  bears = still.bears;
  rooted = λ d other disk pool. let both = keeps d other disk pool in still.rooted d other both.0 both.1;
  linked = still.linked;
}

as_it_is : OverlaysAreLinked demands_of meets_of → (size : ℕ) (cache : Cache) (it : Lasting)
    (of_disk of_pool : DemandSet) → BearsLinks size cache it of_disk of_pool
    → StillBears size cache it of_disk of_pool
as_it_is overlays size cache it of_disk of_pool bears = record {
  of_disk = of_disk;
  of_pool = of_pool;
  bears = bears;
  rooted = λ d other disk pool. (disk, pool);
  linked = λ roots both set_ closed. overlays cache of_disk of_pool roots bears.all.bears both set_ closed;
}

module _ (by_writes : WritesBearAll demands_of meets_of) (by_batches : BatchesBearAll demands_of meets_of) (overlays : OverlaysAreLinked demands_of meets_of) where
  -- what a batch owes in all
  in_all : (size : ℕ) (old new : Pages) (batch : Contents) (orders : Orders) (it : Lasting)
      (on_disk wanted : DemandSet) (paid : PaysThenDrops size old new batch orders it on_disk wanted)
      → PaysAndDrops demands_of meets_of old paid.mid new orders on_disk wanted paid.more paid.dropped
      it.lasts (may_go it.settled)
  in_all size old new batch orders it on_disk wanted paid = record {
    pays = paid.pays.pays;
    drops = paid.drops.drops;
    keeps = λ d e h made may apart. elim (paid.pays.leaves d e h made may apart) [
      | inl still ↦ paid.drops.leaves d e (in_one wanted paid.more d h) still.0 may apart
      | inr order ↦ inr order
    ];
    fresh = paid.fresh;
    may = paid.drops.may;
  }

  module _ (size : ℕ) (old new : Cache) (it : Lasting) (gone : PageSet) (batch : Contents) (orders : Orders) (closed : IsClosed old gone) (lays : LaysBatch old new gone batch orders) (own : (a b : ℕ) → orders a b ≡ true → is_some (batch b) ≡ true) (of_disk of_pool : DemandSet) (bears : BearsLinks size old it of_disk of_pool) (paid : PaysThenDrops size old.pool new.pool batch orders it (three_parts old gone of_disk of_pool) of_pool) where
    abbrev now_disk : DemandSet
    now_disk = three_parts old gone of_disk of_pool

    abbrev now_pool : DemandSet
    now_pool = without paid.dropped (either of_pool paid.more)

    batch_then : BearsLinks size new it now_disk now_pool
    batch_then = record {
      lasting = bears.lasting;
      all = by_batches old new paid.mid of_disk of_pool paid.more paid.dropped it.lasts (may_go it.settled)
          bears.all gone closed batch orders lays own paid.own
          (in_all size old.pool new.pool batch orders it now_disk of_pool paid);
      wants = paid.drops.wants;
    }

    still_there : (d : Demand) → d.what ≢ VERSION → IsIn of_disk d → IsIn of_pool d
        → IsIn now_disk d × IsIn now_pool d
    still_there d other disk pool = (
      in_three old gone of_disk of_pool d disk pool,
      (
        pool.0,
        and_from _ _ (or_left _ _ pool.1)
            (not_from_false _ (kept_else it.settled paid.dropped paid.drops.may d other)),
      ),
    )

  pub batch_exactly : BatchBearsExactly
  batch_exactly size old new it gone batch orders closed lays own of_disk of_pool bears paid =
      batch_then size old new it gone batch orders closed lays own of_disk of_pool bears paid

  pub batch_bears : BatchBearsLinks
  batch_bears size old new it gone batch orders closed lays own of_disk of_pool bears paid =
      earlier size new it of_disk of_pool
      (now_disk size old new it gone batch orders closed lays own of_disk of_pool bears paid)
      (now_pool size old new it gone batch orders closed lays own of_disk of_pool bears paid)
      (still_there size old new it gone batch orders closed lays own of_disk of_pool bears paid)
      (as_it_is overlays size new it
      (now_disk size old new it gone batch orders closed lays own of_disk of_pool bears paid)
      (now_pool size old new it gone batch orders closed lays own of_disk of_pool bears paid)
      (batch_then size old new it gone batch orders closed lays own of_disk of_pool bears paid))

  pub runs_bear : RunsBear
  runs_bear size first last it end (stays cache lasting) of_disk of_pool bears =
      as_it_is overlays size first it of_disk of_pool bears
  runs_bear size first last it end (writes cache final lasting now done gone closed on goes) of_disk of_pool bears =
      earlier size last end of_disk of_pool (three_parts first gone of_disk of_pool) of_pool
      (λ d other disk pool. (in_three first gone of_disk of_pool d disk pool, pool))
      (runs_bear size (written_out first gone) last now end goes (three_parts first gone of_disk of_pool) of_pool (record {
        lasting = on.lasting;
        all = by_writes first of_disk of_pool it.lasts (may_go it.settled) now.lasts (may_go now.settled) bears.all
            gone closed on.more (less_goes it.settled now.settled on.settled);
        wants = bears.wants;
      }))
  runs_bear size first last it end (changes old new final lasting done gone batch orders closed lays own pays goes) of_disk of_pool bears =
      let paid = pays of_disk of_pool bears in
      earlier size last end of_disk of_pool
      (now_disk size first new it gone batch orders closed lays own of_disk of_pool bears paid)
      (now_pool size first new it gone batch orders closed lays own of_disk of_pool bears paid)
      (still_there size first new it gone batch orders closed lays own of_disk of_pool bears paid)
      (runs_bear size new last it end goes
      (now_disk size first new it gone batch orders closed lays own of_disk of_pool bears paid)
      (now_pool size first new it gone batch orders closed lays own of_disk of_pool bears paid)
      (batch_then size first new it gone batch orders closed lays own of_disk of_pool bears paid))
