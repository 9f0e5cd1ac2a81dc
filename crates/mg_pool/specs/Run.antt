-- Page writes: what one leaves, and what a pool has become over a run of them.
use Rattle.std.specs.Prelude.{◌≡◌, ℕ, ◌+◌, ◌≤◌, ◌&&◌, true, false, Some, length}
use Rattle.std.specs.List.{filter}
use Rattle.mg_base.specs.Image.{Image}
use Rattle.mg_base.specs.Disk.{FailsNoWrite, Meaning}
use Rattle.mg_careful.specs.Precedence.{Precedes}
use Rattle.mg_careful.specs.Graph.{is_ordered, ClearsPage}
use Rattle.mg_pool.specs.declared.pool.Pool.{Pool}
use Rattle.mg_pool.specs.Batch.{IsOrPrecedes}
use Rattle.mg_pool.specs.Dirty.{content_of, is_dirty, is_marked, TakesOut}
use Rattle.mg_pool.specs.Pool.{IsPool, WritesOut, WritesSet, taken_out, LeavesOverlays}

-- Time went on at a disk: it tells what it told, lets as many page writes pass in all, its counts of faults have not
-- fallen, and what a crash might have left it still might have left.
pub record TimeGoesOn {D : Type 0} (m : Meaning D) (old new : D) : Type 0 where
  pub tells : m.tells new ≡ m.tells old
  pub most_writes : m.most_writes new ≡ m.most_writes old
  pub never_falls : m.faults old ≤ m.faults new
  pub failed_writes : m.failed_writes old ≤ m.failed_writes new
  pub later : m.tells old ≡ true → m.moment old ≤ m.moment new
  pub keeps : m.tells old ≡ true → (t : ℕ) (c : Image) → t ≤ m.moment old → m.left old t c
      → m.left new t c

-- one page was written out, and nothing else has happened
pub record WritesPage {D L : Type 0} (m : Meaning D) (old new : Pool D L) (page : ℕ) : Type 0 where
  pub pool : IsPool m new
  pub geometry : new.geometry ≡ old.geometry
  pub offline : new.offline ≡ old.offline
  pub faults : new.faults ≡ old.faults
  pub steady : m.faults new.disk ≡ m.faults old.disk
  pub none_failed : FailsNoWrite m old.disk new.disk
  pub tells : m.tells new.disk ≡ m.tells old.disk
  pub asked : m.asked new.disk ≤ m.asked old.disk + 1
  pub taken : TakesOut old.dirty new.dirty page
  pub cleared : ClearsPage old.graph new.graph page
  pub out : (i j : Image) → m.held old.disk ≡ Some i → m.held new.disk ≡ Some j
      → WritesOut old.dirty new.dirty old.graph new.graph i j page
  pub time : TimeGoesOn m old.disk new.disk
  pub crash : LeavesOverlays m old new

-- Since the start pages were written out, each after those that precede it, and nothing else has
-- happened.
pub record HasWritten {D L : Type 0} (m : Meaning D) (start now : Pool D L) : Type 0 where
  pub pool : IsPool m now
  pub geometry : now.geometry ≡ start.geometry
  pub offline : now.offline ≡ start.offline
  pub faults : now.faults ≡ start.faults
  pub steady : m.faults now.disk ≡ m.faults start.disk
  pub none_failed : FailsNoWrite m start.disk now.disk
  pub tells : m.tells now.disk ≡ m.tells start.disk
  pub fewer : (page : ℕ) → is_dirty now.dirty page ≡ true → is_dirty start.dirty page ≡ true
  pub count : length now.dirty.pages ≤ length start.dirty.pages
  -- at most one page write was asked for each page that is no longer dirty
  pub asked : m.asked now.disk + length now.dirty.pages
      ≤ m.asked start.disk + length start.dirty.pages
  -- the table has what it had of the pages that are dirty still, and nothing else
  pub rest : now.dirty.pages ≡ filter (λ d. is_dirty now.dirty d.page) start.dirty.pages
  pub size : now.dirty.size ≡ start.dirty.size
  pub contents : (page : ℕ) → is_dirty now.dirty page ≡ true
      → content_of now.dirty page ≡ content_of start.dirty page
  pub marks : (page who : ℕ) → is_dirty now.dirty page ≡ true
      → is_marked now.dirty page who ≡ is_marked start.dirty page who
  pub orders : (a b : ℕ) → is_ordered now.graph a b
      ≡ (is_ordered start.graph a b && (is_dirty now.dirty a && is_dirty now.dirty b))
  -- what is ordered before a written page is written
  pub before : (a b : ℕ) → is_ordered start.graph a b ≡ true → is_dirty now.dirty b ≡ false
      → is_dirty now.dirty a ≡ false
  pub out : m.tells start.disk ≡ true → (old new : Image) → m.held start.disk ≡ Some old
      → m.held now.disk ≡ Some new → WritesSet start.dirty now.dirty start.graph now.graph old new
      (taken_out start.dirty now.dirty)
  pub time : TimeGoesOn m start.disk now.disk
  pub crash : LeavesOverlays m start now

-- every page that precedes the goal is written, and no other
pub record WritesBefore {D L : Type 0} (m : Meaning D) (goal : ℕ) (before after : Pool D L) : Type 0
  where
    pub run : HasWritten m before after
    pub goal_same : is_dirty after.dirty goal ≡ is_dirty before.dirty goal
    pub ready : (q : ℕ) → is_ordered after.graph q goal ≡ false
    pub no_other : (page : ℕ) → taken_out before.dirty after.dirty page ≡ true
        → Precedes (is_ordered before.graph) page goal

-- a dirty page is written with the pages that precede it, and no other
pub record WritesWith {D L : Type 0} (m : Meaning D) (goal : ℕ) (before after : Pool D L) : Type 0
  where
    pub run : HasWritten m before after
    pub goal_out : is_dirty after.dirty goal ≡ false
    pub no_other : (page : ℕ) → taken_out before.dirty after.dirty page ≡ true
        → IsOrPrecedes (is_ordered before.graph) page goal
