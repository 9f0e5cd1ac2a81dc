-- The cache after a run of page writes is the cache before it, with a closed set written out.
use Rattle.std.specs.Prelude.{◌≡◌, ◌&&◌, ◌||◌, ℕ, Bool, true, false, not, Some}
use Rattle.std.proofs.Common.{inl, refl, sym, subst, ap, ◌∙◌}
use Rattle.std.proofs.Math.Path.{fun_ext}
use Rattle.mg_base.specs.Disk.{Meaning}
use Rattle.mg_base.specs.Image.{Image, page_at}
use Rattle.mg_careful.specs.CarefulSteps.{written_out}
use Rattle.mg_careful.specs.CarefulWrite.{Cache, IsClosed, PageSet, Pages}
use Rattle.mg_careful.specs.Graph.{is_ordered}
use Rattle.mg_careful.specs.Precedence.{Orders}
use Rattle.mg_demand_laws.specs.Runs.{Goes, Lasting, RunsBear, stays, writes}
use Rattle.mg_pool.specs.Dirty.{is_dirty}
use Rattle.mg_pool.specs.Pool.{cache_of, taken_out}
use Rattle.mg_pool.specs.Run.{HasWritten}
use Rattle.mg_pool.specs.declared.pool.Pool.{Pool}
use Rattle.mg_demand_laws.specs.Writes.{LastsAsBefore, WritesBearLinks, WritesGo, WritesPages}

-- a cache is its four parts
cache_from : Pages → Pages → PageSet → Orders → Cache
cache_from disk pool dirty ordered = record { disk = disk; pool = pool; dirty = dirty; ordered = ordered }

same_cache : (a b : Cache) → a.disk ≡ b.disk → a.pool ≡ b.pool → a.dirty ≡ b.dirty → a.ordered ≡ b.ordered → a ≡ b
unfolding cache_from
same_cache a b disk pool dirty ordered =
    ap (λ (x : Pages). cache_from x a.pool a.dirty a.ordered) disk
    ∙ (ap (λ (x : Pages). cache_from b.disk x a.dirty a.ordered) pool
    ∙ (ap (λ (x : PageSet). cache_from b.disk b.pool x a.ordered) dirty
    ∙ ap (λ (x : Orders). cache_from b.disk b.pool b.dirty x) ordered))

module _ {D L : Type 0} (m : Meaning D) (old new : Pool D L) (i j : Image) (run : HasWritten m old new) (told : m.tells old.disk ≡ true) (held : m.held old.disk ≡ Some i) (holds : m.held new.disk ≡ Some j) where
  abbrev before : Cache
  before = cache_of old.dirty old.graph i

  abbrev gone : PageSet
  gone = taken_out old.dirty new.dirty

  -- nothing more, behind the pages that were written
  none_more : (λ (p : ℕ). gone p || false) ≡ gone
  none_more = fun_ext (λ p. or_none (gone p))
    where
      or_none : (b : Bool) → (b || false) ≡ b
      or_none true = refl
      or_none false = refl

  -- the pages that were written are a closed set
  pub written_closed : IsClosed before gone
  written_closed = subst (λ (s : PageSet). IsClosed before s) none_more
      ((run.out told i j held holds).closed (λ p. false) (record {
        only_dirty = λ p is. let no_ : false ≡ true = is in absurd cc;
        before = λ p q order dirty is. is;
      }))

  still : (p : ℕ) → is_dirty new.dirty p ≡ (is_dirty old.dirty p && not (gone p))
  still p = at (is_dirty old.dirty p) (is_dirty new.dirty p) (run.fewer p)
    where
      at : (x y : Bool) → (y ≡ true → x ≡ true) → y ≡ (x && not (x && not y))
      at true true sub = refl
      at true false sub = refl
      at false true sub = absurd (let h : false ≡ true = sub refl in cc)
      at false false sub = refl

  -- the cache behind them
  pub written_cache : cache_of new.dirty new.graph j ≡ written_out before gone
  written_cache =
      let out = run.out told i j held holds in
      same_cache (cache_of new.dirty new.graph j) (written_out before gone)
      (fun_ext (λ p. ap (λ (n : ℕ). page_at n j p) out.size ∙ out.image.pages p))
      (fun_ext out.shown_same)
      (fun_ext still)
      (fun_ext (λ a. fun_ext (λ b. run.orders a b
      ∙ (ap (λ (t : Bool). is_ordered old.graph a b && (t && is_dirty new.dirty b)) (still a)
      ∙ ap (λ (t : Bool). is_ordered old.graph a b && ((is_dirty old.dirty a && not (gone a)) && t)) (still b)))))

pub writes_go : (D L : Type 0) (m : Meaning D) → WritesGo D L m
writes_go D L m size old new i j it now w = writes (cache_of old.dirty old.graph i) (cache_of new.dirty new.graph j) it now now
    (taken_out old.dirty new.dirty) (written_closed m old new i j w.run w.tells w.before w.after) w.lasts
    (subst (λ (c : Cache). Goes size (written_out (cache_of old.dirty old.graph i) (taken_out old.dirty new.dirty)) now c now)
    (sym (written_cache m old new i j w.run w.tells w.before w.after))
    (stays (written_out (cache_of old.dirty old.graph i) (taken_out old.dirty new.dirty)) now))

pub writes_bear : (D L : Type 0) (m : Meaning D) → RunsBear → WritesBearLinks D L m
writes_bear D L m law size old new i j it now of_disk of_pool w bears =
    law size (cache_of old.dirty old.graph i) (cache_of new.dirty new.graph j) it now
    (writes_go D L m size old new i j it now w) of_disk of_pool bears

pub lasts_as_before : (D L : Type 0) → LastsAsBefore D L
lasts_as_before D L size old new i it of_disk of_pool bears = record {
  lasting = bears.lasting;
  more = λ d is. inl is;
  settled = λ t is. is;
}
