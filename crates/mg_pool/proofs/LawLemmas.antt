-- The cache keeps two premises of the careful-write law by itself: a clean page is the same in the
-- pool as on the disk, and only dirty pages are ordered.
use Rattle.std.proofs.Common.{◌≡◌, ◌∙◌, ◌||◌, ◌&&◌, ℕ, Bool, true, false, not, List, [], Option, Some, None, is_some, sym, ap, refl, unwrap_or, arith, inl, inr, subst}
use Rattle.std.proofs.Math.Path.{fun_ext}
use Rattle.std.proofs.lemmas.Bool.{and_from, both_ways, not_from_false}
use Rattle.mg_base.specs.Image.{Image, page_at}
use Rattle.mg_base.specs.Disk.{Meaning, Elapses}
use Rattle.mg_careful.specs.declared.graph.Order.{Order}
use Rattle.mg_careful.specs.Precedence.{Orders}
use Rattle.mg_careful.specs.Graph.{PageGraph, is_ordered}
use Rattle.mg_careful.specs.GraphLaws.{ordered_entered}
use Rattle.mg_careful.specs.CarefulWrite.{Pages, PageSet, Cache, Demands, Meets, DemandSet, IsClosed, BearsDemands, CarefulWrite, IsCareful, three_parts}
use Rattle.mg_careful.specs.CarefulSteps.{written_out, StaysCareful, BatchStaysCareful, LaysBatch}
use Rattle.mg_pool.specs.DirtyPage.{DirtyPage}
use Rattle.mg_pool.specs.declared.pool.Pool.{Pool}
use Rattle.mg_pool.specs.Batch.{lists}
use Rattle.mg_pool.specs.Change.{ChangesPages}
use Rattle.mg_pool.specs.Dirty.{DirtyPages, entry_in, bytes_of, content_of, is_dirty}
use Rattle.mg_pool.specs.Law.{StartsCareful, LeavesSafe, WritesStayCareful, ChangesStayCareful, QuietLeaves, since}
use Rattle.mg_pool.specs.Pool.{cache_of, shown, taken_out, IsPool}
use Rattle.mg_pool.specs.Run.{HasWritten}
use Rattle.mg_pool.proofs.RunLemmas.{chain_before, taken_parts}

careful : {D L : Type 0} (m : Meaning D) (demands : Demands) (meets : Meets) (pool : Pool D L) (image : Image) (of_disk of_pool : DemandSet) → IsPool m pool → BearsDemands demands meets (cache_of pool.dirty pool.graph image) of_disk of_pool → IsCareful demands meets (cache_of pool.dirty pool.graph image) of_disk of_pool
careful m demands meets pool image of_disk of_pool kept bears = record {
  bears = bears;
  clean = λ p out. at (content_of pool.dirty p) (page_at pool.dirty.size image p) out;
  only_dirty = λ p q o. let both = ordered_entered pool.graph p q o in (sym (kept.tied.entered p) ∙ both.0, sym (kept.tied.entered q) ∙ both.1);
}
  where
    at : (o : Option (List ℕ)) (d : List ℕ) → is_some o ≡ false → unwrap_or o d ≡ d
    at None d out = refl
    at (Some x) d out = absurd cc

pub safe : (D L : Type 0) (m : Meaning D) (demands : Demands) (meets : Meets) → CarefulWrite demands meets → LeavesSafe D L m demands meets
safe D L m demands meets law = λ changed now i j kept run told held_i held_j of_disk of_pool bears set_ closed.
    let writes = run.out told i j held_i held_j in
    record {
      safe = law (cache_of changed.dirty changed.graph i) of_disk of_pool (careful m demands meets changed i of_disk of_pool kept bears) (since changed now set_) (writes.closed set_ closed);
      same = λ page. writes.overlays set_ closed page;
    }

-- a cache is its four parts
cache_from : Pages → Pages → PageSet → Orders → Cache
cache_from disk pool dirty ordered = record { disk = disk; pool = pool; dirty = dirty; ordered = ordered }

same_cache : (a b : Cache) → a.disk ≡ b.disk → a.pool ≡ b.pool → a.dirty ≡ b.dirty → a.ordered ≡ b.ordered → a ≡ b
unfolding cache_from
same_cache a b disk pool dirty ordered =
    ap (λ (x : Pages). cache_from x a.pool a.dirty a.ordered) disk
    ∙ (ap (λ (x : Pages). cache_from b.disk x a.dirty a.ordered) pool
    ∙ (ap (λ (x : PageSet). cache_from b.disk b.pool x a.ordered) dirty ∙ ap (λ (x : Orders). cache_from b.disk b.pool b.dirty x) ordered))

-- the pages that a run wrote were a closed set
gone_closed : {D L : Type 0} (m : Meaning D) (old new : Pool D L) (i : Image) → HasWritten m old new → IsClosed (cache_of old.dirty old.graph i) (taken_out old.dirty new.dirty)
gone_closed m old new i run = record {
  only_dirty = λ p out. (taken_parts old.dirty new.dirty p out).0;
  before = λ p q chain dirty out. and_from _ _ dirty (not_from_false _ (chain_before m old new run p q chain (taken_parts old.dirty new.dirty q out).1));
}

-- the cache after a run is the cache before it, with the pages of the run written out
written_cache : {D L : Type 0} (m : Meaning D) (old new : Pool D L) (i j : Image) → HasWritten m old new → m.tells old.disk ≡ true → m.held old.disk ≡ Some i → m.held new.disk ≡ Some j → cache_of new.dirty new.graph j ≡ written_out (cache_of old.dirty old.graph i) (taken_out old.dirty new.dirty)
written_cache m old new i j run told held_i held_j =
    let writes = run.out told i j held_i held_j in
    same_cache (cache_of new.dirty new.graph j) (written_out (cache_of old.dirty old.graph i) (taken_out old.dirty new.dirty))
    (fun_ext (λ p. ap (λ (n : ℕ). page_at n j p) writes.size ∙ writes.image.pages p))
    (fun_ext writes.shown_same)
    (fun_ext still)
    (fun_ext (λ a. fun_ext (λ b. run.orders a b ∙ (ap (λ (t : Bool). is_ordered old.graph a b && (t && is_dirty new.dirty b)) (still a) ∙ ap (λ (t : Bool). is_ordered old.graph a b && ((is_dirty old.dirty a && not (taken_out old.dirty new.dirty a)) && t)) (still b)))))
  where
    at : (x y : Bool) → (y ≡ true → x ≡ true) → y ≡ (x && not (x && not y))
    at true true sub = refl
    at true false sub = refl
    at false true sub = absurd (let h : false ≡ true = sub refl in cc)
    at false false sub = refl

    still : (p : ℕ) → is_dirty new.dirty p ≡ (is_dirty old.dirty p && not (taken_out old.dirty new.dirty p))
    still p = at (is_dirty old.dirty p) (is_dirty new.dirty p) (run.fewer p)

pub writes_stay_careful : (D L : Type 0) (m : Meaning D) (demands : Demands) (meets : Meets) → StaysCareful demands meets → WritesStayCareful D L m demands meets
writes_stay_careful D L m demands meets law = λ old new i j kept run told held_i held_j of_disk of_pool bears.
    let after = law (cache_of old.dirty old.graph i) of_disk of_pool (careful m demands meets old i of_disk of_pool kept bears) (taken_out old.dirty new.dirty) (gone_closed m old new i run) in
    subst (λ (c : Cache). BearsDemands demands meets c (three_parts (cache_of old.dirty old.graph i) (taken_out old.dirty new.dirty) of_disk of_pool) of_pool) (sym (written_cache m old new i j run told held_i held_j)) after.bears

-- the frame of a change, in the terms of the law
lays : (old new : DirtyPages) (graph more : PageGraph) (i j : Image) (gone : PageSet) (batch : ℕ → Option (List ℕ)) (orders : List Order) → ChangesPages old new graph more i j gone batch orders → LaysBatch (cache_of old graph i) (cache_of new more j) gone batch (lists orders)
lays old new graph more i j gone batch orders changes = record {
  disk = λ p. ap (λ (n : ℕ). page_at n j p) changes.size ∙ changes.image.pages p;
  pool = changes.shown_new;
  dirty = λ p. at p (batch p) refl;
  ordered = changes.ordered;
}
  where
    at : (p : ℕ) (o : Option (List ℕ)) → batch p ≡ o → is_dirty new p ≡ (is_some (batch p) || (is_dirty old p && not (gone p)))
    at p None is = rw is (changes.dirty_else p is)
    at p (Some bytes) is = rw is (changes.is_laid p (λ none. let e : Some bytes ≡ None = sym is ∙ none in cc))

pub changes_stay_careful : (D L : Type 0) (m : Meaning D) (demands : Demands) (meets : Meets) → BatchStaysCareful demands meets → ChangesStayCareful D L m demands meets
changes_stay_careful D L m demands meets law = λ old new i j gone batch orders kept changes of_disk of_pool stated dropped bears owes.
    law (cache_of old.dirty old.graph i) (cache_of new.dirty new.graph j) of_disk of_pool (careful m demands meets old i of_disk of_pool kept bears) gone changes.out batch (lists orders) (lays old.dirty new.dirty old.graph new.graph i j gone batch orders changes) dropped stated owes

-- nothing is dirty yet
module _ (dirty : DirtyPages) (image : Image) (none : dirty.pages ≡ []) where
  clean_all : (p : ℕ) → content_of dirty p ≡ None
  unfolding content_of
  clean_all p = ap (λ (ds : List DirtyPage). bytes_of (entry_in ds p)) none

  shown_all : (p : ℕ) → shown dirty image p ≡ page_at dirty.size image p
  shown_all p = ap (λ (o : Option (List ℕ)). unwrap_or o (page_at dirty.size image p)) (clean_all p)

pub starts_careful : (D L : Type 0) (demands : Demands) (meets : Meets) → StartsCareful D L demands meets
starts_careful D L demands meets = λ pool image kept none keeps. record {
  disk_keeps = keeps;
  pool_keeps = record {
    met = λ d h. rw (shown_all pool.dirty image none d.target) (keeps.met d h);
    in_turn = λ d e h made. keeps.in_turn d e h (rw (shown_all pool.dirty image none d.target) at made);
  };
  new = λ d e h made apart dirty. absurd (both_ways _ (ap is_some (clean_all pool.dirty image none e.target)) dirty);
  old = λ d e h made apart dirty. absurd (both_ways _ (ap is_some (clean_all pool.dirty image none e.target)) dirty);
}

pub quiet : (D L : Type 0) (m : Meaning D) → QuietLeaves D L m
quiet D L m = λ old new keeps told image held.
    let elapses : Elapses m old.disk new.disk = keeps.time told in
    record {
      later = elapses.later;
      each = λ c left. elim (elapses.nothing_else (m.moment old.disk) c (omega arith) left) [ inl before ↦ inl before | inr now ↦ inl (keeps.crash told c now) ];
      before = λ t c early left. elim (elapses.nothing_else t c early left) [ inl before ↦ inl before | inr now ↦ inr (inl (keeps.crash told c now)) ];
    }
