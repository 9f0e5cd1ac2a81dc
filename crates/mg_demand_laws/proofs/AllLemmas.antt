-- What lasts is on the disk, and the links of the disk to what may be dropped stand or precede: at the
-- start, after page writes, and after a batch.
use Rattle.std.specs.Prelude.{◌≡◌, ◌≢◌, ℕ, Bool, true, false, not, ◌&&◌, ◌||◌, ◌⊎◌, Option, Some, None, is_some, unwrap_or}
use Rattle.std.proofs.Common.{inl, inr, refl, sym, ◌∙◌, ap, subst}
use Rattle.std.proofs.lemmas.Bool.{and_parts, and_from, both_ways, not_from_false, not-true, or_cases, or_left, or_right}
use Rattle.std.specs.Prelude.{List}
use Rattle.mg_careful.specs.declared.links.Demand.{Demand}
use Rattle.mg_careful.specs.Precedence.{Orders, Precedes, directly, through}
use Rattle.mg_careful.specs.PrecedenceLaws.{precedes_in, precedes_later}
use Rattle.mg_careful.specs.CarefulWrite.{Cache, DemandSet, Demands, Has, IsClosed, IsIn, Meets, PageSet, Pages, either, overlay, three_parts}
use Rattle.mg_careful.specs.CarefulSteps.{BatchStaysCareful, Contents, LaysBatch, StaysCareful, written_out}
use Rattle.mg_demand_laws.specs.Bearing.{BearingStarts, BearsItsDemands, WritesBear}
use Rattle.mg_demand_laws.specs.Freeing.{AllStarts, BatchesBearAll, BearsAll, DropsDemands, PaysAndDrops, StandsOrPrecedes, Which, WritesBearAll, without}
use Rattle.mg_demand_laws.proofs.BearingLemmas.{dropping_then}

pub all_starts : (demands : Demands) (meets : Meets) → BearingStarts demands meets → AllStarts demands meets
all_starts demands meets starts = λ cache kept lasts may_go none same unordered keeps. record {
  bears = starts cache kept none same unordered keeps;
  lasting = λ d h is. h;
  links = λ d e h made may apart. inl (h, rw (same d.target) made);
}

-- where a demand of the set of three parts comes from, by its page
data Whence (cache : Cache) (gone : PageSet) (of_disk of_pool : DemandSet) (d : Demand) : Type 0 where
  written : gone d.target ≡ true → IsIn of_pool d → Whence cache gone of_disk of_pool d
  unwritten : gone d.target ≡ false → cache.dirty d.target ≡ true → IsIn of_disk d
      → Whence cache gone of_disk of_pool d
  clean : gone d.target ≡ false → cache.dirty d.target ≡ false → IsIn of_pool d
      → Whence cache gone of_disk of_pool d

whence : (cache : Cache) (gone : PageSet) (of_disk of_pool : DemandSet)
    → ((p : ℕ) → gone p ≡ true → cache.dirty p ≡ true)
    → ((d : Demand) → IsIn of_disk d → cache.dirty d.target ≡ false → IsIn of_pool d)
    → (d : Demand) → IsIn (three_parts cache gone of_disk of_pool) d → Whence cache gone of_disk of_pool d
whence cache gone of_disk of_pool only of_clean d h =
    elim (or_cases (gone d.target && of_pool d h.0) _ h.1) [
      | inl a ↦ let x = and_parts (gone d.target) _ a in written x.0 (h.0, x.1)
      | inr b ↦ elim (or_cases ((cache.dirty d.target && not (gone d.target)) && of_disk d h.0) _ b) [
        | inl a ↦
            let x = and_parts (cache.dirty d.target && not (gone d.target)) _ a in
            let y = and_parts (cache.dirty d.target) _ x.0 in unwritten (not-true _ y.1) y.0 (h.0, x.1)
        | inr a ↦
            let x = and_parts (not (cache.dirty d.target)) _ a in
            clean (off (not-true _ x.0)) (not-true _ x.0) (elim (or_cases (of_disk d h.0) _ x.1) [
              | inl y ↦ of_clean d (h.0, y) (not-true _ x.0)
              | inr y ↦ (h.0, y)
            ])
      ]
    ]
  where
    off : cache.dirty d.target ≡ false → gone d.target ≡ false
    off out = at (gone d.target) refl
      where
        at : (b : Bool) → gone d.target ≡ b → gone d.target ≡ false
        at true is = absurd (both_ways _ out (only d.target is))
        at false is = is

-- what both sets have, the set of three parts has
in_three : (cache : Cache) (gone : PageSet) (of_disk of_pool : DemandSet) (d : Demand) → IsIn of_disk d
    → IsIn of_pool d → IsIn (three_parts cache gone of_disk of_pool) d
in_three cache gone of_disk of_pool d disk pool = at (gone d.target) refl (cache.dirty d.target) refl
  where
    at : (x : Bool) → gone d.target ≡ x → (y : Bool) → cache.dirty d.target ≡ y
        → IsIn (three_parts cache gone of_disk of_pool) d
    at true is y was = (pool.0, or_left _ _ (and_from _ _ is pool.1))
    at false is true was = (
      disk.0,
      or_right (gone d.target && of_pool d disk.0) _
          (or_left _ _ (and_from _ _ (and_from _ _ was (not_from_false _ is)) disk.1)),
    )
    at false is false was = (
      disk.0,
      or_right (gone d.target && of_pool d disk.0) _
          (or_right ((cache.dirty d.target && not (gone d.target)) && of_disk d disk.0) _
          (and_from _ _ (not_from_false _ was) (or_left _ _ disk.1))),
    )

-- what is wanted of a page that is clean then, it has
in_clean : (cache : Cache) (gone : PageSet) (of_disk of_pool : DemandSet) (d : Demand) → IsIn of_pool d
    → (cache.dirty d.target && not (gone d.target)) ≡ false
    → IsIn (three_parts cache gone of_disk of_pool) d
in_clean cache gone of_disk of_pool d pool out = at (gone d.target) refl (cache.dirty d.target) refl
  where
    at : (x : Bool) → gone d.target ≡ x → (y : Bool) → cache.dirty d.target ≡ y
        → IsIn (three_parts cache gone of_disk of_pool) d
    at true is y was = (pool.0, or_left _ _ (and_from _ _ is pool.1))
    at false is true was = absurd (both_ways _ out (and_from _ _ was (not_from_false _ is)))
    at false is false was = (
      pool.0,
      or_right (gone d.target && of_pool d pool.0) _
          (or_right ((cache.dirty d.target && not (gone d.target)) && of_disk d pool.0) _
          (and_from _ _ (not_from_false _ was) (or_right (of_disk d pool.0) _ pool.1))),
    )

-- ---- page writes

module _ (demands : Demands) (meets : Meets) (by_writes : WritesBear demands meets) (cache : Cache) (of_disk of_pool : DemandSet) (lasts may_go now_lasts now_may_go : Which) (all : BearsAll demands meets cache of_disk of_pool lasts may_go) (gone : PageSet) (closed : IsClosed cache gone) (last_now : (d : Demand) → now_lasts d ≡ true → (lasts d ≡ true) ⊎ ((cache.dirty d.target && not (gone d.target)) ≡ false)) (less : (d : Demand) → now_may_go d ≡ true → may_go d ≡ true) where
  abbrev three : DemandSet
  three = three_parts cache gone of_disk of_pool

  abbrev after : Cache
  after = written_out cache gone

  -- a page that precedes one that is dirty still stands before it still
  left_after : (a b : ℕ) → Precedes cache.ordered a b → (cache.dirty a && not (gone a)) ≡ true
      → (cache.dirty b && not (gone b)) ≡ true
  left_after a b order is = at (gone b) refl
    where
      at : (x : Bool) → gone b ≡ x → (cache.dirty b && not (gone b)) ≡ true
      at true holds =
          let parts = and_parts (cache.dirty a) _ is in
          absurd (both_ways (gone a) (not-true _ parts.1) (closed.before a b order parts.0 holds))
      at false out = and_from _ _ (precedes_later cache.ordered cache.dirty
          (λ x y o. (all.bears.careful.only_dirty x y o).1) a b order) (not_from_false _ out)

  order_stays : (a b : ℕ) → Precedes cache.ordered a b → (cache.dirty a && not (gone a)) ≡ true
      → Precedes after.ordered a b
  order_stays a b (directly o) is =
      directly (and_from _ _ o (and_from _ _ is (left_after a b (directly o) is)))
  order_stays a c (through {b = b} p q) is =
      through (order_stays a b p is) (order_stays b c q (left_after a b p is))

  of_written : (d e : Demand) → Whence cache gone of_disk of_pool d
      → Has (demands (overlay cache gone d.target) d) e → may_go e ≡ true → e.target ≢ d.target
      → StandsOrPrecedes demands after of_pool d e
  of_written d e (written is h) made may apart = inl (h, rw is at made)
  of_written d e (unwritten out dirty h) made may apart =
      elim (all.links d e h (rw out at made) may apart) [
        | inl stands ↦ inl stands
        | inr order ↦ inr (order_stays d.target e.target order (and_from _ _ dirty (not_from_false _ out)))
      ]
  of_written d e (clean out is h) made may apart =
      let on_disk : Has (demands (cache.disk d.target) d) e = rw out at made in
      inl (h, rw (all.bears.careful.clean d.target is) on_disk)

  pub writes_all : BearsAll demands meets after three of_pool now_lasts now_may_go
  writes_all = record {
    bears = by_writes cache of_disk of_pool all.bears gone closed;
    lasting = λ d h is. elim (last_now d is) [
      | inl was ↦ in_three cache gone of_disk of_pool d (all.lasting d h was) h
      | inr out ↦ in_clean cache gone of_disk of_pool d h out
    ];
    links = λ d e h made may apart. of_written d e
        (whence cache gone of_disk of_pool closed.only_dirty all.bears.clean d h) made (less e may) apart;
  }

-- ---- batches

module _ (demands : Demands) (meets : Meets) (stays : StaysCareful demands meets) (by_writes : WritesBear demands meets) (law : BatchStaysCareful demands meets) (old new : Cache) (mid : Pages) (of_disk of_pool more : DemandSet) (dropped lasts may_go : Which) (all : BearsAll demands meets old of_disk of_pool lasts may_go) (gone : PageSet) (closed : IsClosed old gone) (batch : Contents) (orders : Orders) (lays : LaysBatch old new gone batch orders) (own : (a b : ℕ) → orders a b ≡ true → is_some (batch b) ≡ true) (own_dropped : (d : Demand) → dropped d ≡ true → is_some (batch d.target) ≡ true) (pays : PaysAndDrops demands meets old.pool mid new.pool orders (three_parts old gone of_disk of_pool) of_pool more dropped lasts may_go) where
  abbrev disk_now : DemandSet
  disk_now = three_parts old gone of_disk of_pool

  abbrev left : DemandSet
  left = without dropped (either of_pool more)

  middle : BearsAll demands meets (written_out old gone) disk_now of_pool lasts may_go
  middle = writes_all demands meets by_writes old of_disk of_pool lasts may_go lasts may_go all gone closed
      (λ d is. inl is) (λ d is. is)

  grows : (a b : ℕ) → Precedes (written_out old gone).ordered a b → Precedes new.ordered a b
  grows a b chain = precedes_in (written_out old gone).ordered new.ordered
      (λ x y o. lays.ordered x y ∙ or_left _ _ o) a b chain

  -- a page that the batch does not put is as it was, and nothing of it is dropped
  as_it_was : (d : Demand) → batch d.target ≡ None → (new.pool d.target ≡ old.pool d.target) × (dropped d ≡ false)
  as_it_was d none = (
    lays.pool d.target ∙ ap (λ (o : Option (List ℕ)). unwrap_or o (old.pool d.target)) none,
    at (dropped d) refl,
  )
    where
      at : (c : Bool) → dropped d ≡ c → dropped d ≡ false
      at true is = absurd (both_ways _ (ap is_some none) (own_dropped d is))
      at false is = is

  -- a link of the pool stands on, or its page is ordered first
  stood : (d e : Demand) → IsIn of_pool d → Has (demands (old.pool d.target) d) e → may_go e ≡ true
      → e.target ≢ d.target
      → (Has (demands (new.pool d.target) d) e × (dropped d ≡ false)) ⊎ Precedes new.ordered d.target e.target
  stood d e h made may apart = at (batch d.target) refl
    where
      at : (o : Option (List ℕ)) → batch d.target ≡ o
          → (Has (demands (new.pool d.target) d) e × (dropped d ≡ false)) ⊎ Precedes new.ordered d.target e.target
      at None is = let was = as_it_was d is in inl (rw was.0 made, was.1)
      at (Some bytes) is = elim (pays.keeps d e h made may apart) [
        | inl stands ↦ inl stands
        | inr order ↦ inr (directly (lays.ordered d.target e.target
            ∙ or_right ((written_out old gone).ordered d.target e.target) _
            (and_from _ _ order (lays.dirty d.target ∙ or_left _ _ (ap is_some is)))))
      ]

  links_then : (d e : Demand) → IsIn disk_now d → Has (demands (new.disk d.target) d) e → may_go e ≡ true
      → e.target ≢ d.target
      → (IsIn of_pool d × Has (demands (new.pool d.target) d) e × (dropped d ≡ false))
      ⊎ Precedes new.ordered d.target e.target
  links_then d e h made may apart = elim (middle.links d e h (rw (lays.disk d.target) at made) may apart) [
    | inl stands ↦ elim (stood d e stands.0 stands.1 may apart) [
      | inl still ↦ inl (stands.0, still.0, still.1)
      | inr order ↦ inr order
    ]
    | inr order ↦ inr (grows d.target e.target order)
  ]

  -- so what is dropped has no link of the disk, but from pages that precede
  freed : (d e : Demand) → IsIn disk_now d → Has (demands (new.disk d.target) d) e → e.target ≢ d.target
      → dropped e ≡ true → Precedes new.ordered d.target e.target
  freed d e h made apart out = elim (links_then d e h made (pays.may e out) apart) [
    | inl still ↦ absurd (both_ways _ (pays.drops.links d e (still.0.0, or_left _ _ still.0.1) still.2 still.1).1 out)
    | inr order ↦ order
  ]

  pub batch_all : BearsAll demands meets new disk_now left lasts may_go
  batch_all = record {
    bears = dropping_then demands meets stays law old new mid of_disk of_pool more dropped all.bears gone
        closed batch orders lays own own_dropped pays.pays pays.drops freed;
    lasting = λ d h is.
        let parts = and_parts (either of_pool more d h.0) _ h.1 in
        let wanted : IsIn of_pool d = elim (or_cases (of_pool d h.0) _ parts.0) [
          | inl o ↦ (h.0, o)
          | inr n ↦ pays.fresh d (h.0, n) is
        ] in
        in_three old gone of_disk of_pool d (all.lasting d wanted is) wanted;
    links = λ d e h made may apart. elim (links_then d e h made may apart) [
      | inl still ↦ inl ((still.0.0, and_from _ _ (or_left _ _ still.0.1) (not_from_false _ still.2)), still.1)
      | inr order ↦ inr order
    ];
  }

pub writes_bear_all : (demands : Demands) (meets : Meets) → WritesBear demands meets → WritesBearAll demands meets
writes_bear_all demands meets by_writes =
    λ cache of_disk of_pool lasts may_go now_lasts now_may_go all gone closed last_now less.
    writes_all demands meets by_writes cache of_disk of_pool lasts may_go now_lasts now_may_go all gone closed
    last_now less

pub batches_bear_all : (demands : Demands) (meets : Meets) → StaysCareful demands meets
    → WritesBear demands meets → BatchStaysCareful demands meets → BatchesBearAll demands meets
batches_bear_all demands meets stays by_writes law =
    λ old new mid of_disk of_pool more dropped lasts may_go all gone closed batch orders lays own own_dropped pays.
    batch_all demands meets stays by_writes law old new mid of_disk of_pool more dropped lasts may_go all gone
    closed batch orders lays own own_dropped pays
