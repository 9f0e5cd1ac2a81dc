-- A cache whose index trees stand and are wanted keeps that over page writes, and over batches that pay for trees.
use Rattle.std.specs.Prelude.{◌≡◌, ◌==◌, ℕ, Bool, true, false, not, List, is_some}
use Rattle.std.proofs.Common.{refl}
use Rattle.std.proofs.lemmas.Bool.{and_from, and_parts, both_ways, not-true}
use Rattle.mg_careful.specs.declared.links.Demand.{Demand}
use Rattle.mg_careful.specs.Precedence.{Orders}
use Rattle.mg_careful.specs.CarefulWrite.{Cache, DemandSet, IsClosed, IsIn, PageSet, either, listed, three_parts}
use Rattle.mg_careful.specs.CarefulSteps.{Contents, LaysBatch, written_out}
use Rattle.mg_demand_laws.specs.Freeing.{WritesBearAll, without}
use Rattle.mg_demand_laws.specs.Runs.{BatchBearsExactly, BearsLinks, Lasting, LastsOn}
use Rattle.mg_space.specs.Demands.{demands_of, meets_of}
use Rattle.mg_space.specs.declared.links.TheConstants.{VERSION}
use Rattle.mg_demand_laws.specs.Wanting.{may_go, nothing}
use Rattle.mg_demand_laws.specs.Alone.{drops_nothing}
use Rattle.mg_demand_laws.specs.Calls.{EachStands, PaysTrees, TreeAt}
use Rattle.mg_demand_laws.specs.CallTies.{each_as}

-- A cache bears its demands, and in its pool these trees stand and are wanted.
pub record BearsTrees (size : ℕ) (cache : Cache) (it : Lasting) (trees : List TreeAt) (of_disk of_pool : DemandSet)
    : Type 0 where
  pub bears : BearsLinks size cache it of_disk of_pool
  pub stand : EachStands size cache.pool of_pool trees

-- A batch pays for trees whatever disk and pool want, and newly wants nothing that lasts already.
abbrev pub PaysTreesIn : ℕ → Cache → Cache → PageSet → Orders → Lasting → List TreeAt → List TreeAt → Type 0
PaysTreesIn size old new gone orders it trees ends = (of_disk of_pool : DemandSet)
    → BearsTrees size old it trees of_disk of_pool
    → (paid : PaysTrees size old.pool new.pool ends orders it.settled (three_parts old gone of_disk of_pool) of_pool)
    × ((d : Demand) → IsIn (listed paid.more) d → it.lasts d ≡ true → IsIn of_pool d)

-- one cache becomes another by page writes, and by batches that pay for trees
pub data TreesGo (size : ℕ) : Cache → Lasting → List TreeAt → Cache → Lasting → List TreeAt → Type 0 where
  stays : (cache : Cache) (it : Lasting) (trees : List TreeAt) → TreesGo size cache it trees cache it trees
  writes : (cache last : Cache) (it now end : Lasting) (trees ends : List TreeAt) (gone : PageSet)
      → IsClosed cache gone → LastsOn cache gone it now
      → TreesGo size (written_out cache gone) now trees last end ends → TreesGo size cache it trees last end ends
  changes : (old new last : Cache) (it end : Lasting) (trees between ends : List TreeAt) (gone : PageSet)
      (batch : Contents) (orders : Orders) → IsClosed old gone → LaysBatch old new gone batch orders
      → ((a b : ℕ) → orders a b ≡ true → is_some (batch b) ≡ true)
      → PaysTreesIn size old new gone orders it trees between → TreesGo size new it between last end ends
      → TreesGo size old it trees last end ends

-- it bears its demands still, and the trees stand and are wanted
pub record StillBearsTrees (size : ℕ) (cache : Cache) (it : Lasting) (trees : List TreeAt) : Type 0 where
  pub of_disk : DemandSet
  pub of_pool : DemandSet
  pub its : BearsTrees size cache it trees of_disk of_pool

-- The law of page writes: those of a closed set keep it all, with what the pool wants.
abbrev pub WritesKeepTrees : Type 0
WritesKeepTrees = (size : ℕ) (cache : Cache) (it now : Lasting) (trees : List TreeAt) (gone : PageSet)
    (of_disk of_pool : DemandSet) → IsClosed cache gone → LastsOn cache gone it now
    → BearsTrees size cache it trees of_disk of_pool
    → BearsTrees size (written_out cache gone) now trees (three_parts cache gone of_disk of_pool) of_pool

-- The law of a batch: where it pays for the trees, they stand and are wanted behind it.
abbrev pub BatchesKeepTrees : Type 0
BatchesKeepTrees = (size : ℕ) (old new : Cache) (it : Lasting) (trees ends : List TreeAt) (gone : PageSet)
    (batch : Contents) (orders : Orders) (of_disk of_pool : DemandSet) → IsClosed old gone
    → LaysBatch old new gone batch orders → ((a b : ℕ) → orders a b ≡ true → is_some (batch b) ≡ true)
    → BearsTrees size old it trees of_disk of_pool
    → (paid : PaysTrees size old.pool new.pool ends orders it.settled (three_parts old gone of_disk of_pool) of_pool)
    → ((d : Demand) → IsIn (listed paid.more) d → it.lasts d ≡ true → IsIn of_pool d)
    → BearsTrees size new it ends (three_parts old gone of_disk of_pool)
    (without nothing (either of_pool (listed paid.more)))

-- The law of both: any sequence of them keeps it.
abbrev pub TreeRunsBear : Type 0
TreeRunsBear = (size : ℕ) (first last : Cache) (it end : Lasting) (trees ends : List TreeAt)
    → TreesGo size first it trees last end ends → (of_disk of_pool : DemandSet)
    → BearsTrees size first it trees of_disk of_pool → StillBearsTrees size last end ends

-- without nothing it is the same set
without_none : (wanted : DemandSet) (d : Demand) → IsIn (without nothing wanted) d → IsIn wanted d
without_none wanted d h = (h.0, (and_parts (wanted d h.0) _ h.1).0)

with_none : (wanted : DemandSet) (d : Demand) → IsIn wanted d → IsIn (without nothing wanted) d
with_none wanted d h = (h.0, and_from _ _ h.1 refl)

-- less may be dropped where more transactions are settled
less_goes : (old new : ℕ → Bool) → ((t : ℕ) → old t ≡ true → new t ≡ true) → (d : Demand)
    → may_go new d ≡ true → may_go old d ≡ true
less_goes old new more d may =
    let parts = and_parts (d.what == VERSION) _ may in
    and_from _ _ parts.0 (at (old d.b) refl parts.1)
  where
    at : (b : Bool) → old d.b ≡ b → not (new d.b) ≡ true → not b ≡ true
    at true is out = absurd (both_ways _ (not-true _ out) (more d.b is))
    at false is out = refl

pub writes_keep_trees : WritesBearAll demands_of meets_of → WritesKeepTrees
writes_keep_trees by_writes size cache it now trees gone of_disk of_pool closed on was = record {
  bears = record {
    lasting = on.lasting;
    all = by_writes cache of_disk of_pool it.lasts (may_go it.settled) now.lasts (may_go now.settled) was.bears.all
        gone closed on.more (less_goes it.settled now.settled on.settled);
    wants = was.bears.wants;
  };
  stand = was.stand;
}

pub batches_keep_trees : BatchBearsExactly → BatchesKeepTrees
batches_keep_trees exactly size old new it trees ends gone batch orders of_disk of_pool closed lays own was paid fresh =
    record {
      bears = exactly size old new it gone batch orders closed lays own of_disk of_pool was.bears
          (record {
            mid = new.pool;
            more = listed paid.more;
            dropped = nothing;
            pays = paid.pays;
            fresh = fresh;
            drops = drops_nothing size new.pool orders it.settled (either of_pool (listed paid.more)) paid.pays.wants;
            own = λ d is. absurd cc;
          });
      stand = each_as size new.pool ends (either of_pool (listed paid.more))
          (without nothing (either of_pool (listed paid.more))) (with_none (either of_pool (listed paid.more)))
          (without_none (either of_pool (listed paid.more))) paid.stand;
    }

pub tree_runs_bear : WritesBearAll demands_of meets_of → BatchBearsExactly → TreeRunsBear
tree_runs_bear by_writes exactly size first last it end trees ends (stays cache lasting same) of_disk of_pool was =
    record { of_disk = of_disk; of_pool = of_pool; its = was }
tree_runs_bear by_writes exactly size first last it end trees ends
    (writes cache final lasting now done the_trees the_ends gone closed on goes) of_disk of_pool was =
    tree_runs_bear by_writes exactly size (written_out first gone) last now end trees ends goes
    (three_parts first gone of_disk of_pool) of_pool
    (writes_keep_trees by_writes size first it now trees gone of_disk of_pool closed on was)
tree_runs_bear by_writes exactly size first last it end trees ends
    (changes old new final lasting done the_trees between the_ends gone batch orders closed lays own pays goes)
    of_disk of_pool was =
    let paid = pays of_disk of_pool was in
    tree_runs_bear by_writes exactly size new last it end between ends goes (three_parts first gone of_disk of_pool)
    (without nothing (either of_pool (listed paid.0.more)))
    (batches_keep_trees exactly size first new it trees between gone batch orders of_disk of_pool closed lays own was
    paid.0 paid.1)
