-- A batch that pays and drops several times is judged step by step, with all of its orders and all of its pages at
-- each: between two steps the cache is as it is behind the batch, but for what the pool shows.
use Rattle.std.specs.Prelude.{◌≡◌, ◌≢◌, ◌&&◌, ◌||◌, ℕ, Bool, true, false, not, List, [], Option, None, Some, is_some, unwrap_or, if◌then◌else◌}
use Rattle.std.proofs.Common.{refl, sym, subst, ap, ◌∙◌}
use Rattle.std.proofs.lemmas.Bool.{and_from, and_parts, not_from_false, or_left, or_right}
use Rattle.mg_careful.specs.declared.links.Demand.{Demand}
use Rattle.mg_careful.specs.Precedence.{Orders}
use Rattle.mg_careful.specs.CarefulWrite.{Cache, DemandSet, IsClosed, IsIn, PageSet, either, listed, three_parts}
use Rattle.mg_careful.specs.CarefulSteps.{Contents, LaysBatch, written_out}
use Rattle.mg_demand_laws.specs.Freeing.{Which, without}
use Rattle.mg_demand_laws.specs.Runs.{BatchBearsExactly, BearsLinks, Lasting, PaysThenDrops, ThreeHasBoth}
use Rattle.mg_image.specs.Form.{Pages}
use Rattle.mg_space.specs.declared.links.TheConstants.{VERSION}
use Rattle.mg_demand_laws.specs.Met.{of_listed}
use Rattle.mg_demand_laws.specs.VersionLaws.{may_is_version}
use Rattle.mg_demand_laws.specs.Wanting.{IsWanting, may_go, nothing}
use Rattle.mg_demand_laws.specs.Alone.{drops_nothing}
use Rattle.mg_demand_laws.specs.BatchSteps.{BearsWith, HasLasting, PaysInSteps, PaysStep, no_more_steps, one_step}
use Rattle.mg_demand_laws.specs.GrowthTies.{same_pays}

-- the law: a batch that pays in steps leaves the links borne
abbrev pub StepsBear : Type 0
StepsBear = (size : ℕ) (old new : Cache) (it : Lasting) (gone : PageSet) (batch : Contents) (orders : Orders)
    → IsClosed old gone → LaysBatch old new gone batch orders
    → ((a b : ℕ) → orders a b ≡ true → is_some (batch b) ≡ true) → (of_disk of_pool last : DemandSet)
    → PaysInSteps size batch orders it old.pool of_pool new.pool last
    → BearsLinks size old it of_disk of_pool → BearsWith size new it of_disk of_pool last

-- ---- the cache between two steps

-- no page is written out
abbrev nobody : PageSet
nobody p = false

-- the contents of these pages, where the batch puts some
abbrev contents_of : Contents → Pages → Contents
contents_of batch pages p = if is_some (batch p) then Some (pages p) else None

same_puts : (batch : Contents) (pages : Pages) (p : ℕ) → is_some (contents_of batch pages p) ≡ is_some (batch p)
same_puts batch pages p = at (is_some (batch p))
  where
    at : (b : Bool) → is_some (if b then Some (pages p) else None) ≡ b
    at true = refl
    at false = refl

none_of : (o : Option (List ℕ)) → is_some o ≡ false → o ≡ None
none_of None is = refl
none_of (Some bytes) is = absurd cc

now_puts : (batch : Contents) (old pages : Pages) → ((p : ℕ) → batch p ≡ None → pages p ≡ old p) → (p : ℕ)
    → pages p ≡ unwrap_or (contents_of batch pages p) (old p)
now_puts batch old pages else_ p = at (is_some (batch p)) refl
  where
    at : (b : Bool) → is_some (batch p) ≡ b → pages p ≡ unwrap_or (if b then Some (pages p) else None) (old p)
    at true is = refl
    at false is = else_ p (none_of (batch p) is)

-- what is dirty by a batch, or before it, is still
dirty_on : (x y z : Bool) → y ≡ (x || z) → y ≡ (x || (y && true))
dirty_on true y z is = is
dirty_on false true z is = refl
dirty_on false false z is = refl

-- an order that stands between dirty pages, or one of the batch
ordered_on : (w o a b : Bool) → (w ≡ true → (a ≡ true) × (b ≡ true)) → (o ≡ true → b ≡ true)
    → (w || (o && a)) ≡ (((w || (o && a)) && ((a && true) && (b && true))) || (o && a))
ordered_on true o true true both one = refl
ordered_on true o true false both one = absurd (let is = (both refl).1 in cc)
ordered_on true o false b both one = absurd (let is = (both refl).0 in cc)
ordered_on false true true true both one = refl
ordered_on false true true false both one = absurd (let is = one refl in cc)
ordered_on false true false b both one = refl
ordered_on false false a b both one = refl

module _ (size : ℕ) (old new : Cache) (it : Lasting) (gone : PageSet) (batch : Contents) (orders : Orders) (closed : IsClosed old gone) (lays : LaysBatch old new gone batch orders) (own : (a b : ℕ) → orders a b ≡ true → is_some (batch b) ≡ true) (both_have : ThreeHasBoth) (law : BatchBearsExactly) where
  -- the cache as it is behind the batch, with other pages in the pool
  abbrev laid : Pages → Cache
  laid pages = record { disk = new.disk; pool = pages; dirty = new.dirty; ordered = new.ordered }

  still_own : (pages : Pages) (a b : ℕ) → orders a b ≡ true → is_some (contents_of batch pages b) ≡ true
  still_own pages a b is = same_puts batch pages b ∙ own a b is

  -- a page that was dirty, and is not written out, is dirty behind the batch
  stays_dirty : (p : ℕ) → (old.dirty p && not (gone p)) ≡ true → new.dirty p ≡ true
  stays_dirty p is = lays.dirty p ∙ or_right (is_some (batch p)) _ is

  first_lays : (pages : Pages) → ((p : ℕ) → batch p ≡ None → pages p ≡ old.pool p)
      → LaysBatch old (laid pages) gone (contents_of batch pages) orders
  first_lays pages else_ = record {
    disk = lays.disk;
    pool = now_puts batch old.pool pages else_;
    dirty = λ p. lays.dirty p ∙ ap (λ (b : Bool). b || (old.dirty p && not (gone p))) (sym (same_puts batch pages p));
    ordered = lays.ordered;
  }

  next_lays : (before pages : Pages) → ((p : ℕ) → batch p ≡ None → pages p ≡ before p)
      → LaysBatch (laid before) (laid pages) nobody (contents_of batch pages) orders
  next_lays before pages else_ = record {
    disk = λ p. refl;
    pool = now_puts batch before pages else_;
    dirty = λ p. dirty_on (is_some (batch p)) (new.dirty p) (old.dirty p && not (gone p)) (lays.dirty p)
        ∙ ap (λ (b : Bool). b || (new.dirty p && true)) (sym (same_puts batch pages p));
    ordered = λ a b. subst (λ (w : Bool). w ≡ ((w && ((new.dirty a && true) && (new.dirty b && true)))
        || (orders a b && new.dirty a))) (sym (lays.ordered a b))
        (ordered_on ((written_out old gone).ordered a b) (orders a b) (new.dirty a) (new.dirty b)
        (λ is. let parts = and_parts (old.ordered a b) _ is in
        let dirty = and_parts (old.dirty a && not (gone a)) _ parts.1 in
        (stays_dirty a dirty.0, stays_dirty b dirty.1))
        (λ is. lays.dirty b ∙ or_left _ _ (own a b is)));
  }

  none_out : (pages : Pages) → IsClosed (laid pages) nobody
  none_out pages = record {
    only_dirty = λ p is. absurd cc;
    before = λ p q order dirty is. absurd cc;
  }

  -- what a step pays
  owed : (start end : Pages) (on_disk wanted more : DemandSet) (dropped : Which)
      → PaysStep size start end batch orders it on_disk wanted more dropped
      → PaysThenDrops size start end (contents_of batch end) orders it on_disk wanted
  owed start end on_disk wanted more dropped paid = record {
    mid = paid.mid;
    more = more;
    dropped = dropped;
    pays = paid.pays;
    fresh = paid.fresh;
    drops = paid.drops;
    own = λ d is. same_puts batch end d.target ∙ paid.own d is;
  }

  -- what is no version is in disk and pool behind a step, where it was in both
  still_in : (cache : Cache) (out : PageSet) (of_disk of_pool more : DemandSet) (dropped : Which)
      → ((d : Demand) → dropped d ≡ true → may_go it.settled d ≡ true) → (d : Demand) → d.what ≢ VERSION
      → IsIn of_disk d → IsIn of_pool d
      → IsIn (three_parts cache out of_disk of_pool) d × IsIn (without dropped (either of_pool more)) d
  still_in cache out of_disk of_pool more dropped may d other disk pool = (
    both_have cache out of_disk of_pool d disk pool,
    (pool.0, and_from _ _ (or_left _ _ pool.1) (not_from_false _ (kept (dropped d) refl))),
  )
    where
      kept : (b : Bool) → dropped d ≡ b → dropped d ≡ false
      kept true is = absurd (other (may_is_version it.settled d (may d is)).0)
      kept false is = is

  then_with : (cache end : Cache) (out : PageSet) (of_disk of_pool more last : DemandSet) (dropped : Which)
      → ((d : Demand) → dropped d ≡ true → may_go it.settled d ≡ true)
      → BearsWith size end it (three_parts cache out of_disk of_pool) (without dropped (either of_pool more)) last
      → BearsWith size end it of_disk of_pool last
  then_with cache end out of_disk of_pool more last dropped may still = record {
    of_disk = still.of_disk;
    bears = still.bears;
    rooted = λ d other disk pool.
        let both = still_in cache out of_disk of_pool more dropped may d other disk pool in
        still.rooted d other both.0 both.1;
  }

  lasting_in : (cache : Cache) (out : PageSet) (of_disk of_pool : DemandSet) → BearsLinks size cache it of_disk of_pool
      → HasLasting it (three_parts cache out of_disk of_pool) of_pool
  lasting_in cache out of_disk of_pool bears d h is =
      both_have cache out of_disk of_pool d (bears.all.lasting d h is) h

  -- nothing is done: the batch puts what stood there
  idle : (pages : Pages) (on_disk wanted : DemandSet) → IsWanting size pages wanted
      → PaysStep size pages pages batch orders it on_disk wanted (listed []) nothing
  idle pages on_disk wanted was = record {
    mid = pages;
    pays = same_pays size pages orders it.settled on_disk wanted was;
    fresh = λ d h is. absurd (of_listed [] d h);
    drops = drops_nothing size pages orders it.settled (either wanted (listed []))
        (same_pays size pages orders it.settled on_disk wanted was).wants;
    own = λ d is. absurd cc;
  }

  as_it_is : (cache : Cache) (of_disk of_pool : DemandSet) → BearsLinks size cache it of_disk of_pool
      → BearsWith size cache it of_disk of_pool of_pool
  as_it_is cache of_disk of_pool bears = record {
    of_disk = of_disk;
    bears = bears;
    rooted = λ d other disk pool. (disk, pool);
  }

  -- the steps behind the first one
  rest_bears : (pages end : Pages) (of_pool last : DemandSet) → PaysInSteps size batch orders it pages of_pool end last
      → (of_disk : DemandSet) → BearsLinks size (laid pages) it of_disk of_pool
      → BearsWith size (laid end) it of_disk of_pool last
  unfolding owed
  rest_bears pages end of_pool last (no_more_steps same wanted) of_disk bears =
      then_with (laid same) (laid same) nobody of_disk wanted (listed []) (without nothing (either wanted (listed []))) nothing
      (λ d is. absurd cc) (as_it_is (laid same) (three_parts (laid same) nobody of_disk wanted)
      (without nothing (either wanted (listed [])))
      (law size (laid same) (laid same) it nobody (contents_of batch same) orders (none_out same)
      (next_lays same same (λ p is. refl)) (still_own same) of_disk wanted bears
      (owed same same (three_parts (laid same) nobody of_disk wanted) wanted (listed []) nothing
      (idle same (three_parts (laid same) nobody of_disk wanted) wanted bears.wants))))
  rest_bears pages end of_pool last (one_step before mid final wanted ends more dropped else_ pays further) of_disk bears =
      let paid = pays (three_parts (laid before) nobody of_disk wanted)
      (lasting_in (laid before) nobody of_disk wanted bears) in
      then_with (laid before) (laid final) nobody of_disk wanted more ends dropped paid.drops.may
      (rest_bears mid final (without dropped (either wanted more)) ends further
      (three_parts (laid before) nobody of_disk wanted)
      (law size (laid before) (laid mid) it nobody (contents_of batch mid) orders (none_out before)
      (next_lays before mid else_) (still_own mid) of_disk wanted bears
      (owed before mid (three_parts (laid before) nobody of_disk wanted) wanted more dropped paid)))

  pub steps_bear : (start end : Pages) (of_pool last : DemandSet) → old.pool ≡ start
      → PaysInSteps size batch orders it start of_pool end last → (of_disk : DemandSet)
      → BearsLinks size old it of_disk of_pool → BearsWith size (laid end) it of_disk of_pool last
  unfolding owed
  steps_bear start end of_pool last is (no_more_steps same wanted) of_disk bears =
      then_with old (laid same) gone of_disk wanted (listed []) (without nothing (either wanted (listed []))) nothing
      (λ d none. absurd cc) (as_it_is (laid same) (three_parts old gone of_disk wanted)
      (without nothing (either wanted (listed [])))
      (law size old (laid same) it gone (contents_of batch same) orders closed
      (first_lays same (λ p none. ap (λ (pages : Pages). pages p) (sym is))) (still_own same) of_disk wanted bears
      (owed old.pool same (three_parts old gone of_disk wanted) wanted (listed []) nothing
      (subst (λ (pages : Pages). PaysStep size old.pool pages batch orders it (three_parts old gone of_disk wanted) wanted
      (listed []) nothing) is (idle old.pool (three_parts old gone of_disk wanted) wanted bears.wants)))))
  steps_bear start end of_pool last is (one_step before mid final wanted ends more dropped else_ pays further) of_disk bears =
      let paid = (subst (λ (pages : Pages). (on_disk : DemandSet) → HasLasting it on_disk wanted
      → PaysStep size pages mid batch orders it on_disk wanted more dropped) (sym is) pays)
      (three_parts old gone of_disk wanted) (lasting_in old gone of_disk wanted bears) in
      then_with old (laid final) gone of_disk wanted more ends dropped paid.drops.may
      (rest_bears mid final (without dropped (either wanted more)) ends further (three_parts old gone of_disk wanted)
      (law size old (laid mid) it gone (contents_of batch mid) orders closed
      (first_lays mid (λ p none. else_ p none ∙ ap (λ (pages : Pages). pages p) (sym is)))
      (still_own mid) of_disk wanted bears
      (owed old.pool mid (three_parts old gone of_disk wanted) wanted more dropped paid)))

pub steps_bear_all : ThreeHasBoth → BatchBearsExactly → StepsBear
steps_bear_all both law size old new it gone batch orders closed lays own of_disk of_pool last steps bears =
    steps_bear size old new it gone batch orders closed lays own both law old.pool new.pool of_pool last refl steps of_disk
    bears
