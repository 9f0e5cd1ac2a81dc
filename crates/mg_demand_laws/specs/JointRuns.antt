-- Page writes and batches for tables and for their index trees, in any sequence, keep the one invariant; and crash
-- images are linked from the roots.
use Rattle.std.specs.Prelude.{◌≡◌, ◌≢◌, ◌++◌, ℕ, List, []}
use Rattle.std.proofs.Common.{inl, inr, sym, subst}
use Rattle.mg_base.specs.Disk.{Meaning}
use Rattle.mg_base.specs.Image.{Image}
use Rattle.mg_base.specs.declared.geometry.Geometry.{Geometry}
use Rattle.mg_careful.specs.declared.links.Demand.{Demand}
use Rattle.mg_careful.specs.CarefulWrite.{DemandSet, Has, IsClosed, IsIn, IsLinked, PageSet, listed, overlay}
use Rattle.mg_demand_laws.specs.Bearing.{OverlaysAreLinked}
use Rattle.mg_demand_laws.specs.Runs.{Lasting}
use Rattle.mg_pool.specs.Batch.{Changed, content_in, lists}
use Rattle.mg_pool.specs.Pool.{shown}
use Rattle.mg_pool.specs.declared.pool.Pool.{Pool}
use Rattle.mg_space.specs.Demands.{demands_of, meets_of}
use Rattle.mg_space.specs.View.{viewed}
use Rattle.mg_space.specs.declared.links.TheConstants.{VERSION}
use Rattle.mg_demand_laws.specs.Met.{has_either, in_listed, of_listed}
use Rattle.mg_demand_laws.specs.PoolTies.{cache_over}
use Rattle.mg_demand_laws.specs.TableRuns.{ChangesBatch, IsKnown, NoneIsVersion, PaysByKnown, PaysRowsByKnown}
use Rattle.mg_demand_laws.specs.Calls.{PaysTrees, TreeAt}
use Rattle.mg_demand_laws.specs.Writes.{WritesPages}
use Rattle.mg_demand_laws.specs.Joint.{BearsJointly, LeavesTables, LeavesTrees, PaysBatch}
use Rattle.mg_demand_laws.specs.JointParts.{table_batch_keeps, tree_batch_keeps}
use Rattle.mg_demand_laws.specs.JointSteps.{BatchesKeepJointly, RowsKeepJointly, WritesKeepJointly}

-- Whatever disk and pool want, of which what is known is a part: the batch pays, these trees stand behind it, and
-- these things are wanted then.
abbrev pub PaysJointlyByKnown : {D L : Type 0} → Pool D L → Image → Changed → Lasting → List TreeAt → List TreeAt
    → List Demand → List Demand → List Demand → Type 0
PaysJointlyByKnown before i batch it trees ends roots known news = (of_disk of_pool on_disk : DemandSet)
    → BearsJointly before.geometry.size (cache_over before i) it trees of_disk of_pool
    → IsKnown roots known of_disk of_pool → ((d : Demand) → IsIn of_disk d → IsIn of_pool d → IsIn on_disk d)
    → PaysBatch before.geometry.size (shown before.dirty i) (viewed before i batch) (content_in batch.pages)
    (lists batch.orders) it ends on_disk of_pool (listed news)

-- the law: a batch that is a step over tables by itself is one over both, where it leaves the trees alone
abbrev pub TableStepsAreJoint : (D L : Type 0) → Type 0
TableStepsAreJoint D L = (before : Pool D L) (i : Image) (batch : Changed) (it : Lasting) (trees : List TreeAt)
    (roots known news : List Demand) (pays : PaysByKnown before i batch it roots known news)
    → ((of_disk of_pool on_disk : DemandSet)
    (its : BearsJointly before.geometry.size (cache_over before i) it trees of_disk of_pool)
    (is : IsKnown roots known of_disk of_pool) (has : (d : Demand) → IsIn of_disk d → IsIn of_pool d → IsIn on_disk d)
    → LeavesTrees before.geometry.size (shown before.dirty i) (viewed before i batch) trees
    (pays of_disk of_pool on_disk its.tables is has).pays.paid.more)
    → PaysJointlyByKnown before i batch it trees trees roots known news

-- the law: a batch that pays for trees, and leaves tables alone, is a step over both
abbrev pub TreeStepsAreJoint : (D L : Type 0) → Type 0
TreeStepsAreJoint D L = (before : Pool D L) (i : Image) (batch : Changed) (it : Lasting) (trees ends : List TreeAt)
    (roots known : List Demand)
    → ((of_disk of_pool on_disk : DemandSet)
    → BearsJointly before.geometry.size (cache_over before i) it trees of_disk of_pool
    → IsKnown roots known of_disk of_pool → ((d : Demand) → IsIn of_disk d → IsIn of_pool d → IsIn on_disk d)
    → (part : PaysTrees before.geometry.size (shown before.dirty i) (viewed before i batch) ends (lists batch.orders)
    it.settled on_disk of_pool)
    × LeavesTables before.geometry.size (shown before.dirty i) (viewed before i batch) (listed part.more))
    → PaysJointlyByKnown before i batch it trees ends roots known []

-- One cache becomes another by page writes and batches, where some things are known to be wanted: what a batch newly
-- wants is known behind it, and the trees may come to have other levels, or be more.
pub data JointlyGo {D L : Type 0} (m : Meaning D) (roots : List Demand)
    : Pool D L → Image → Lasting → List TreeAt → List Demand → Pool D L → Image → Lasting → List TreeAt → Type 0 where
  no_step : (last : Pool D L) (j : Image) (it : Lasting) (trees : List TreeAt) (known : List Demand)
      → JointlyGo m roots last j it trees known last j it trees
  page_writes : (old mid last : Pool D L) (i k j : Image) (it now end : Lasting) (trees ends : List TreeAt)
      (known : List Demand) → WritesPages m old mid i k it now
      → JointlyGo m roots mid k now trees known last j end ends
      → JointlyGo m roots old i it trees known last j end ends
  a_batch : (old mid last : Pool D L) (i k j : Image) (it end : Lasting) (trees between ends : List TreeAt)
      (known news : List Demand) (batch : Changed) → ChangesBatch m old mid i k batch
      → PaysJointlyByKnown old i batch it trees between roots known news → NoneIsVersion news
      → JointlyGo m roots mid k it between (news ++ known) last j end ends
      → JointlyGo m roots old i it trees known last j end ends
  taken_rows : (old mid last : Pool D L) (i k j : Image) (it end : Lasting) (trees ends : List TreeAt)
      (known : List Demand) (start batch : Changed) → ChangesBatch m old mid i k batch
      → viewed old i start ≡ shown old.dirty i → PaysRowsByKnown old i start batch it roots known
      → LeavesTrees old.geometry.size (viewed old i start) (viewed old i batch) trees (listed [])
      → JointlyGo m roots mid k it trees known last j end ends
      → JointlyGo m roots old i it trees known last j end ends

-- A cache keeps the invariant, with these trees and roots; and each image that a crash may leave is linked from these.
pub record StaysJoint {D L : Type 0} (last : Pool D L) (j : Image) (end : Lasting) (ends : List TreeAt)
    (roots : List Demand) : Type 0 where
  pub of_disk : DemandSet
  pub of_pool : DemandSet
  pub its : BearsJointly last.geometry.size (cache_over last j) end ends of_disk of_pool
  pub rooted : (d : Demand) → Has roots d → IsIn of_disk d × IsIn of_pool d
  pub linked : (set_ : PageSet) → IsClosed (cache_over last j) set_
      → IsLinked demands_of meets_of (overlay (cache_over last j) set_) (listed roots)

-- the law of runs
abbrev pub JointRunsStayLinked : (D L : Type 0) → Meaning D → Type 0
JointRunsStayLinked D L m = (roots known : List Demand) (first last : Pool D L) (i j : Image) (it end : Lasting)
    (trees ends : List TreeAt) → NoneIsVersion roots → NoneIsVersion known
    → JointlyGo m roots first i it trees known last j end ends → (of_disk of_pool : DemandSet)
    → BearsJointly first.geometry.size (cache_over first i) it trees of_disk of_pool
    → IsKnown roots known of_disk of_pool → StaysJoint last j end ends roots

-- ---- steps

pub table_steps_are_joint : (D L : Type 0) → TableStepsAreJoint D L
table_steps_are_joint D L before i batch it trees roots known news pays leaves of_disk of_pool on_disk its is has =
    table_batch_keeps before.geometry.size (shown before.dirty i) (viewed before i batch) trees (content_in batch.pages)
    (lists batch.orders) it on_disk of_pool (listed news) its.stand (pays of_disk of_pool on_disk its.tables is has)
    (leaves of_disk of_pool on_disk its is has)

pub tree_steps_are_joint : (D L : Type 0) → TreeStepsAreJoint D L
tree_steps_are_joint D L before i batch it trees ends roots known pays of_disk of_pool on_disk its is has =
    let part = pays of_disk of_pool on_disk its is has in
    tree_batch_keeps before.geometry.size (shown before.dirty i) (viewed before i batch) ends (content_in batch.pages)
    (lists batch.orders) it on_disk of_pool its.tables.bears.lasting its.tables.bears.wants its.tables.orderly
    its.tables.chained part.0 part.1

-- ---- runs

-- what is known is known behind a step
known_on : (size : ℕ) (it : Lasting) (roots known news : List Demand) (of_disk of_pool now_disk now_pool : DemandSet)
    → NoneIsVersion roots → NoneIsVersion known → NoneIsVersion news → IsKnown roots known of_disk of_pool
    → ((d : Demand) → d.what ≢ VERSION → IsIn of_disk d → IsIn of_pool d → IsIn now_disk d × IsIn now_pool d)
    → ((d : Demand) → d.what ≢ VERSION → IsIn of_pool d → IsIn now_pool d)
    → ((d : Demand) → d.what ≢ VERSION → IsIn (listed news) d → IsIn now_pool d)
    → IsKnown roots (news ++ known) now_disk now_pool
known_on size it roots known news of_disk of_pool now_disk now_pool none none_known none_new is rooted kept newly = record {
  rooted = λ d h. let both = is.rooted d h in rooted d (none d h) both.0 both.1;
  wanted = λ d h. elim (has_either news known d h) [
    | inl x ↦ newly d (none_new d x) (in_listed news d x)
    | inr y ↦ kept d (none_known d y) (is.wanted d y)
  ];
}

none_both : (news known : List Demand) → NoneIsVersion news → NoneIsVersion known → NoneIsVersion (news ++ known)
none_both news known one two d h = elim (has_either news known d h) [
  | inl x ↦ one d x
  | inr y ↦ two d y
]

-- the invariant of a cache, by another name of its page size
of_size : {D L : Type 0} (old mid : Pool D L) (k : Image) (it : Lasting) (trees : List TreeAt)
    (of_disk of_pool : DemandSet) → mid.geometry ≡ old.geometry
    → BearsJointly old.geometry.size (cache_over mid k) it trees of_disk of_pool
    → BearsJointly mid.geometry.size (cache_over mid k) it trees of_disk of_pool
of_size old mid k it trees of_disk of_pool same its =
    subst (λ (g : Geometry). BearsJointly g.size (cache_over mid k) it trees of_disk of_pool) (sym same) its

module _ (D L : Type 0) (m : Meaning D) (by_writes : WritesKeepJointly D L m) (by_batches : BatchesKeepJointly D L m) (by_rows : RowsKeepJointly D L m) (overlays : OverlaysAreLinked demands_of meets_of) where
  pub joint_runs_stay_linked : JointRunsStayLinked D L m
  joint_runs_stay_linked roots known first last i j it end trees ends none none_known (no_step pool image lasting same things)
      of_disk of_pool its is = record {
        of_disk = of_disk;
        of_pool = of_pool;
        its = its;
        rooted = is.rooted;
        linked = λ set_ closed. overlays (cache_over first i) of_disk of_pool (listed roots) its.tables.bears.all.bears
            (λ d h. is.rooted d (of_listed roots d h)) set_ closed;
      }
  joint_runs_stay_linked roots known first last i j it end trees ends none none_known
      (page_writes old mid final image k other lasting now done same later things w goes) of_disk of_pool its is =
      let keeps = by_writes first.geometry.size first mid i k it now trees of_disk of_pool w its in
      joint_runs_stay_linked roots known mid last k j now end trees ends none none_known goes keeps.of_disk keeps.of_pool
      (of_size first mid k now trees keeps.of_disk keeps.of_pool w.run.geometry keeps.its)
      (known_on first.geometry.size now roots known [] of_disk of_pool keeps.of_disk keeps.of_pool none none_known
      (λ d h. absurd h) is keeps.rooted keeps.kept keeps.newly)
  joint_runs_stay_linked roots known first last i j it end trees ends none none_known
      (a_batch old mid final image k other lasting done same between later things news batch changes pays none_new goes)
      of_disk of_pool its is =
      let keeps = by_batches first mid i k batch it trees between of_disk of_pool (listed news) changes its
      (λ on_disk has. pays of_disk of_pool on_disk its is has) in
      joint_runs_stay_linked roots (news ++ known) mid last k j it end between ends none
      (none_both news known none_new none_known) goes keeps.of_disk keeps.of_pool
      (of_size first mid k it between keeps.of_disk keeps.of_pool changes.geometry keeps.its)
      (known_on first.geometry.size it roots known news of_disk of_pool keeps.of_disk keeps.of_pool none none_known none_new
      is keeps.rooted keeps.kept keeps.newly)
  joint_runs_stay_linked roots known first last i j it end trees ends none none_known
      (taken_rows old mid final image k other lasting done same later things start batch changes begins pays leaves goes)
      of_disk of_pool its is =
      let keeps = by_rows first mid i k start batch it trees of_disk of_pool changes begins its
      (pays of_disk of_pool its.tables is) leaves in
      joint_runs_stay_linked roots known mid last k j it end trees ends none none_known goes keeps.of_disk keeps.of_pool
      (of_size first mid k it trees keeps.of_disk keeps.of_pool changes.geometry keeps.its)
      (known_on first.geometry.size it roots known [] of_disk of_pool keeps.of_disk keeps.of_pool none none_known
      (λ d h. absurd h) is keeps.rooted keeps.kept keeps.newly)
