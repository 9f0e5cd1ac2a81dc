-- Page writes keep the invariant of tables, and so does any sequence of page writes and batches.
use Rattle.std.specs.Prelude.{◌≡◌, ◌==◌, ◌++◌, ℕ, Bool, true, false, not, List}
use Rattle.std.proofs.Common.{inl, inr, refl, sym, subst}
use Rattle.std.proofs.lemmas.Bool.{and_from, and_parts, both_ways, not-true}
use Rattle.mg_base.specs.Disk.{Meaning}
use Rattle.mg_base.specs.Image.{Image}
use Rattle.mg_base.specs.declared.geometry.Geometry.{Geometry}
use Rattle.mg_careful.specs.declared.links.Demand.{Demand}
use Rattle.mg_careful.specs.CarefulWrite.{Cache, DemandSet, IsClosed, PageSet, listed, three_parts}
use Rattle.mg_careful.specs.CarefulSteps.{written_out}
use Rattle.mg_demand_laws.specs.Bearing.{OverlaysAreLinked}
use Rattle.mg_demand_laws.specs.Freeing.{WritesBearAll}
use Rattle.mg_demand_laws.specs.Runs.{Lasting, LastsOn, ThreeHasBoth}
use Rattle.mg_pool.specs.Pool.{cache_of, taken_out}
use Rattle.mg_pool.specs.declared.pool.Pool.{Pool}
use Rattle.mg_space.specs.Demands.{demands_of, meets_of}
use Rattle.mg_space.specs.declared.links.TheConstants.{VERSION}
use Rattle.mg_demand_laws.specs.Met.{has_either, in_listed, of_listed}
use Rattle.mg_demand_laws.specs.Wanting.{may_go}
use Rattle.mg_demand_laws.specs.PoolTies.{cache_over}
use Rattle.mg_demand_laws.specs.Keeping.{BearsTables, KeepsNewly, KeepsTables}
use Rattle.mg_demand_laws.specs.KeepingTies.{NewsBear}
use Rattle.mg_demand_laws.specs.UnmakingTies.{RowsBear}
use Rattle.mg_demand_laws.specs.WriteLaws.{written_cache, written_closed}
use Rattle.mg_demand_laws.specs.TableRuns.{IsKnown, NoneIsVersion, RunsStayLinked, WritesKeepTables, a_batch, no_step, page_writes, taken_rows}

-- ---- page writes

-- less may be dropped where more transactions are settled
less_goes : (old new : ℕ → Bool) → ((t : ℕ) → old t ≡ true → new t ≡ true) → (d : Demand)
    → may_go new d ≡ true → may_go old d ≡ true
less_goes old new more d may =
    let parts = and_parts (d.what == VERSION) _ may in
    and_from _ _ parts.0 (at (old d.b) (more d.b) parts.1)
  where
    at : (b : Bool) → (b ≡ true → new d.b ≡ true) → not (new d.b) ≡ true → not b ≡ true
    at true is out = absurd (both_ways _ (not-true _ out) (is refl))
    at false is out = refl

-- The pool wants what it wanted; of the disk's pages that were written the disk has what the pool wants.
pub written_bear : WritesBearAll demands_of meets_of → (size : ℕ) (old : Cache) (gone : PageSet) (it now : Lasting)
    (of_disk of_pool : DemandSet) → IsClosed old gone → LastsOn old gone it now
    → BearsTables size old it of_disk of_pool
    → BearsTables size (written_out old gone) now (three_parts old gone of_disk of_pool) of_pool
written_bear law size old gone it now of_disk of_pool closed on its = record {
  bears = record {
    lasting = on.lasting;
    all = law old of_disk of_pool it.lasts (may_go it.settled) now.lasts (may_go now.settled) its.bears.all gone closed
        on.more (less_goes it.settled now.settled on.settled);
    wants = its.bears.wants;
  };
  orderly = its.orderly;
  chained = its.chained;
}

pub writes_keep_tables : (D L : Type 0) (m : Meaning D) → WritesBearAll demands_of meets_of → ThreeHasBoth
    → WritesKeepTables D L m
writes_keep_tables D L m law both size old new i j it now of_disk of_pool w its = record {
  of_disk = three_parts (cache_of old.dirty old.graph i) (taken_out old.dirty new.dirty) of_disk of_pool;
  of_pool = of_pool;
  its = subst (λ (c : Cache). BearsTables size c now
      (three_parts (cache_of old.dirty old.graph i) (taken_out old.dirty new.dirty) of_disk of_pool) of_pool)
      (sym (written_cache m old new i j w.run w.tells w.before w.after))
      (written_bear law size (cache_of old.dirty old.graph i) (taken_out old.dirty new.dirty) it now of_disk of_pool
      (written_closed m old new i j w.run w.tells w.before w.after) w.lasts its);
  rooted = λ d other disk pool. (
    both (cache_of old.dirty old.graph i) (taken_out old.dirty new.dirty) of_disk of_pool d disk pool,
    pool,
  );
  kept = λ d other pool. pool;
}

-- ---- runs

-- what is known is known behind a step
known_on : (size : ℕ) (cache : Cache) (it : Lasting) (roots known : List Demand) (of_disk of_pool : DemandSet)
    → NoneIsVersion roots → NoneIsVersion known → IsKnown roots known of_disk of_pool
    → (keeps : KeepsTables size cache it of_disk of_pool) → IsKnown roots known keeps.of_disk keeps.of_pool
known_on size cache it roots known of_disk of_pool none none_known is keeps = record {
  rooted = λ d h. let both = is.rooted d h in keeps.rooted d (none d h) both.0 both.1;
  wanted = λ d h. keeps.kept d (none_known d h) (is.wanted d h);
}

news_known : (size : ℕ) (cache : Cache) (it : Lasting) (roots known news : List Demand) (of_disk of_pool : DemandSet)
    → NoneIsVersion roots → NoneIsVersion known → NoneIsVersion news → IsKnown roots known of_disk of_pool
    → (newly : KeepsNewly size cache it of_disk of_pool (listed news))
    → IsKnown roots (news ++ known) newly.keeps.of_disk newly.keeps.of_pool
news_known size cache it roots known news of_disk of_pool none none_known none_new is newly = record {
  rooted = λ d h. let both = is.rooted d h in newly.keeps.rooted d (none d h) both.0 both.1;
  wanted = λ d h. elim (has_either news known d h) [
    | inl x ↦ newly.newly d (none_new d x) (in_listed news d x)
    | inr y ↦ newly.keeps.kept d (none_known d y) (is.wanted d y)
  ];
}

none_both : (news known : List Demand) → NoneIsVersion news → NoneIsVersion known → NoneIsVersion (news ++ known)
none_both news known one two d h = elim (has_either news known d h) [
  | inl x ↦ one d x
  | inr y ↦ two d y
]

-- the invariant of a cache, by another name of its page size
of_size : {D L : Type 0} (old mid : Pool D L) (k : Image) (it : Lasting) (of_disk of_pool : DemandSet)
    → mid.geometry ≡ old.geometry → BearsTables old.geometry.size (cache_over mid k) it of_disk of_pool
    → BearsTables mid.geometry.size (cache_over mid k) it of_disk of_pool
of_size old mid k it of_disk of_pool same its =
    subst (λ (g : Geometry). BearsTables g.size (cache_over mid k) it of_disk of_pool) (sym same) its

module _ (D L : Type 0) (m : Meaning D) (by_writes : WritesKeepTables D L m) (by_batches : NewsBear D L m) (by_rows : RowsBear D L m) (overlays : OverlaysAreLinked demands_of meets_of) where
  pub runs_stay_linked : RunsStayLinked D L m
  runs_stay_linked roots known first last i j it end none none_known (no_step pool image lasting things) of_disk of_pool
      its is = record {
        of_disk = of_disk;
        of_pool = of_pool;
        its = its;
        rooted = is.rooted;
        linked = λ set_ closed. overlays (cache_over first i) of_disk of_pool (listed roots) its.bears.all.bears
            (λ d h. is.rooted d (of_listed roots d h)) set_ closed;
      }
  runs_stay_linked roots known first last i j it end none none_known
      (page_writes old mid final image k other lasting now done things w goes) of_disk of_pool its is =
      let keeps = by_writes first.geometry.size first mid i k it now of_disk of_pool w its in
      runs_stay_linked roots known mid last k j now end none none_known goes keeps.of_disk keeps.of_pool
      (of_size first mid k now keeps.of_disk keeps.of_pool w.run.geometry keeps.its)
      (known_on first.geometry.size (cache_over mid k) now roots known of_disk of_pool none none_known is keeps)
  runs_stay_linked roots known first last i j it end none none_known
      (a_batch old mid final image k other lasting done things news batch changes pays none_new goes) of_disk of_pool its is =
      let newly = by_batches first changes.ready mid i k batch it of_disk of_pool (listed news) changes.keeps changes.frame
      changes.tells changes.held changes.lawful its (λ on_disk has. pays of_disk of_pool on_disk its is has) in
      runs_stay_linked roots (news ++ known) mid last k j it end none (none_both news known none_new none_known) goes
      newly.keeps.of_disk newly.keeps.of_pool
      (of_size first mid k it newly.keeps.of_disk newly.keeps.of_pool changes.geometry newly.keeps.its)
      (news_known first.geometry.size (cache_over mid k) it roots known news of_disk of_pool none none_known none_new is newly)
  runs_stay_linked roots known first last i j it end none none_known
      (taken_rows old mid final image k other lasting done things start batch changes begins pays goes) of_disk of_pool its is =
      let keeps = by_rows first changes.ready mid i k batch it of_disk of_pool changes.keeps changes.frame changes.tells
      changes.held changes.lawful its start begins (pays of_disk of_pool its is) in
      runs_stay_linked roots known mid last k j it end none none_known goes keeps.of_disk keeps.of_pool
      (of_size first mid k it keeps.of_disk keeps.of_pool changes.geometry keeps.its)
      (known_on first.geometry.size (cache_over mid k) it roots known of_disk of_pool none none_known is keeps)
