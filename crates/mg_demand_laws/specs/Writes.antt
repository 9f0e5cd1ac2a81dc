-- Page writes, as the cache tells of them, are steps of a run that keeps the links borne.
use Rattle.std.specs.Prelude.{◌≡◌, ℕ, true, Some}
use Rattle.mg_base.specs.Disk.{Meaning}
use Rattle.mg_base.specs.Image.{Image}
use Rattle.mg_careful.specs.CarefulWrite.{DemandSet}
use Rattle.mg_demand_laws.specs.Runs.{BearsLinks, Goes, Lasting, LastsOn, StillBears}
use Rattle.mg_pool.specs.Pool.{cache_of, taken_out}
use Rattle.mg_pool.specs.Run.{HasWritten}
use Rattle.mg_pool.specs.declared.pool.Pool.{Pool}

-- Page writes of a pool: the images that its disk tells before and after them, and what lasts then.
pub record WritesPages {D L : Type 0} (m : Meaning D) (old new : Pool D L) (i j : Image) (it now : Lasting)
    : Type 0 where
  pub run : HasWritten m old new
  pub tells : m.tells old.disk ≡ true
  pub before : m.held old.disk ≡ Some i
  pub after : m.held new.disk ≡ Some j
  pub lasts : LastsOn (cache_of old.dirty old.graph i) (taken_out old.dirty new.dirty) it now

-- the law: they take the cache over the one image to that over the other
abbrev pub WritesGo : (D L : Type 0) → Meaning D → Type 0
WritesGo D L m = (size : ℕ) (old new : Pool D L) (i j : Image) (it now : Lasting)
    → WritesPages m old new i j it now
    → Goes size (cache_of old.dirty old.graph i) it (cache_of new.dirty new.graph j) now

-- so where the links were borne, they are borne after them, with every root, and crash images are linked
abbrev pub WritesBearLinks : (D L : Type 0) → Meaning D → Type 0
WritesBearLinks D L m = (size : ℕ) (old new : Pool D L) (i j : Image) (it now : Lasting)
    (of_disk of_pool : DemandSet) → WritesPages m old new i j it now
    → BearsLinks size (cache_of old.dirty old.graph i) it of_disk of_pool
    → StillBears size (cache_of new.dirty new.graph j) now of_disk of_pool

-- where nothing more lasts than did, that is so after any page writes
abbrev pub LastsAsBefore : (D L : Type 0) → Type 0
LastsAsBefore D L = (size : ℕ) (old new : Pool D L) (i : Image) (it : Lasting) (of_disk of_pool : DemandSet)
    → BearsLinks size (cache_of old.dirty old.graph i) it of_disk of_pool
    → LastsOn (cache_of old.dirty old.graph i) (taken_out old.dirty new.dirty) it it
