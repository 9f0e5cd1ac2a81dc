-- A change writes no page without a cause: where its orders close no cycle, and its pages fit, the
-- stages before it leave all as it was.
use Rattle.std.proofs.Common.{◌≡◌, ◌<◌, ◌≤◌, ◌+◌, ℕ, Bool, true, false, not, ◌&&◌, is_some, List, length, take, sym, ◌∙◌, ap, refl, arith}
use Rattle.std.specs.Prelude.{count_by}
use Rattle.std.proofs.Math.Path.{fun_ext}
use Rattle.mg_base.specs.Disk.{Meaning}
use Rattle.mg_careful.specs.declared.graph.Order.{Order}
use Rattle.mg_pool.specs.declared.batch.BatchPage.{BatchPage}
use Rattle.mg_pool.specs.DirtyPage.{DirtyPage}
use Rattle.mg_pool.specs.declared.pool.Pool.{Pool}
use Rattle.mg_pool.specs.Batch.{dirty_with}
use Rattle.mg_pool.specs.Change.{IsOpen, SettlesOrders, no_order, one_more, MakesRoom, no_page, one_with}
use Rattle.mg_pool.specs.Dirty.{DirtyPages, entry_in, bytes_of, content_of, is_dirty}
use Rattle.mg_pool.specs.Law.{WritesForCause}
use Rattle.mg_pool.specs.Pool.{IsPool, taken_out}
use Rattle.mg_pool.specs.Run.{HasWritten}
use Rattle.mg_pool.proofs.OrderLemmas.{joint_less}
use Rattle.mg_pool.proofs.PoolLemmas.{Holds}
use Rattle.mg_pool.proofs.RestLemmas.{rest_all, filter_same}
use Rattle.mg_pool.proofs.RunLemmas.{CountsNow, run_starts, run_then}

-- a run that has written nothing: the table of dirty pages is the same
record WritesNothing {D L : Type 0} (m : Meaning D) (start now : Pool D L) : Type 0 where
  run : HasWritten m start now
  same : now.dirty.pages ≡ start.dirty.pages

-- a run that took no page out wrote nothing
none_out : {D L : Type 0} (m : Meaning D) (start now : Pool D L) → HasWritten m start now → ((p : ℕ) → taken_out start.dirty now.dirty p ≡ true → ⊥) → now.dirty.pages ≡ start.dirty.pages
none_out m start now run none = run.rest ∙ (filter_same (is_dirty now.dirty) (is_dirty start.dirty) bits start.dirty.pages ∙ sym (rest_all start.dirty))
  where
    at : (x y : Bool) → (y ≡ true → x ≡ true) → ((x && not y) ≡ true → ⊥) → y ≡ x
    at true true sub out = refl
    at true false sub out = absurd (out refl)
    at false true sub out = absurd (let h : false ≡ true = sub refl in cc)
    at false false sub out = refl

    bits : (p : ℕ) → is_dirty now.dirty p ≡ is_dirty start.dirty p
    bits p = at (is_dirty start.dirty p) (is_dirty now.dirty p) (run.fewer p) (none p)

module _ {D L : Type 0} (m : Meaning D) (holds : Holds m) (counts : CountsNow m) (orders : List Order) (start : Pool D L) (pool : IsPool m start) (open_ : (k : ℕ) → k < length orders → IsOpen start.graph orders k) where
  settles_nothing : (k : ℕ) (now : Pool D L) → SettlesOrders m orders start k now → k ≤ length orders → WritesNothing m start now
  settles_nothing k now no_order low = record { run = run_starts m start pool; same = refl }
  settles_nothing n now (one_more {k = k} {before = before} after first step) low = then_ (settles_nothing k before first (omega arith))
    where
      then_ : WritesNothing m start before → WritesNothing m start now
      then_ earlier = record {
        run = run_then m holds counts start before now earlier.run step.run;
        same = none_out m before now step.run (λ p out. open_ k (omega arith) (joint_less m start before earlier.run (take k orders) _ _ (step.no_other p out).0)) ∙ earlier.same;
      }

-- the content of a page is that of the table's entries
content_as : (a b : DirtyPages) → a.pages ≡ b.pages → (p : ℕ) → content_of a p ≡ content_of b p
unfolding content_of
content_as a b same p = ap (λ (ds : List DirtyPage). bytes_of (entry_in ds p)) same

with_as : (a b : DirtyPages) (pages : List BatchPage) → a.pages ≡ b.pages → dirty_with a pages ≡ dirty_with b pages
with_as a b pages same =
    let bits : (λ (p : ℕ). is_dirty a p) ≡ (λ (p : ℕ). is_dirty b p) = fun_ext (λ p. ap is_some (content_as a b same p)) in
    ap (λ (ds : List DirtyPage). length ds + count_by (λ x. not (is_dirty a x.page)) pages) same
    ∙ ap (λ (test : ℕ → Bool). length b.pages + count_by (λ x. not (test x.page)) pages) bits

makes_nothing : {D L : Type 0} (m : Meaning D) (pages : List BatchPage) (start now : Pool D L) → MakesRoom m pages start now → dirty_with start.dirty pages ≤ 512 → now.dirty.pages ≡ start.dirty.pages
makes_nothing m pages start now no_page fits = refl
makes_nothing m pages start now (one_with {before = before} goal after first over least with_) fits =
    let same = makes_nothing m pages start before first fits in
    let e : dirty_with before.dirty pages ≡ dirty_with start.dirty pages = with_as before.dirty start.dirty pages same in
    absurd (omega (arith, e, over, fits))

pub writes_for_cause : (D L : Type 0) (m : Meaning D) → Holds m → CountsNow m → WritesForCause D L m
writes_for_cause D L m holds counts = λ old new pages orders pool changes open_ fits.
    let settled = settles_nothing m holds counts orders old pool open_ (length orders) changes.settled changes.for_orders (omega arith) in
    let fits_still : dirty_with changes.settled.dirty pages ≤ 512 = let e = with_as changes.settled.dirty old.dirty pages settled.same in omega (arith, e, fits) in
    let same : changes.ready.dirty.pages ≡ old.dirty.pages = makes_nothing m pages changes.settled changes.ready changes.for_room fits_still ∙ settled.same in
    let long : length changes.ready.dirty.pages ≡ length old.dirty.pages = ap (length {A = DirtyPage}) same in
    let bits : (p : ℕ) → is_dirty changes.ready.dirty p ≡ is_dirty old.dirty p = λ p. ap is_some (content_as changes.ready.dirty old.dirty same p) in
    let last : m.asked new.disk ≡ m.asked changes.ready.disk = ap m.asked (changes.enters.disk ∙ changes.puts.disk) in
    (bits, omega (arith, changes.written.asked, long, last))
