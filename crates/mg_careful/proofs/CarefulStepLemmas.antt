-- A careful writer goes on: the pages of a closed set are written out, and then a batch is laid.
use Rattle.std.specs.Prelude.{◌≡◌, ◌≢◌, ℕ, Bool, true, false, not, ◌&&◌, ◌||◌, ◌⊎◌, List, Option, Some, None, is_some, unwrap_or}
use Rattle.std.proofs.Common.{inl, inr, refl, sym, ◌∙◌, ap}
use Rattle.std.proofs.lemmas.Bool.{and_parts, and_from, both_ways, not_from_false, not-true, or_cases, or_left, or_right, cases_Bool}
use Rattle.mg_careful.specs.declared.links.Demand.{Demand}
use Rattle.mg_careful.specs.Precedence.{Orders, Precedes, directly, through}
use Rattle.mg_careful.specs.PrecedenceLaws.{precedes_in}
use Rattle.mg_careful.specs.CarefulWrite.{PageSet, Cache, Demands, Meets, Has, DemandSet, IsIn, IsClosed, overlay, three_parts, BearsDemands, IsCareful}
use Rattle.mg_careful.specs.CarefulSteps.{written_out, StaysCareful, Contents, LaysBatch, goes_on, laid_demands, BatchBears, BatchStaysCareful}
use Rattle.mg_careful.proofs.CarefulWriteLemmas.{Comes, aims_inside, aims_outside, clean_of_disk, clean_of_pool, comes, member, disk_there, pool_there, not_inside, clean_there, ordered_is_dirty, overlay_keeps}

module _ (demands : Demands) (meets : Meets) (cache : Cache) (of_disk of_pool : DemandSet) (careful : IsCareful demands meets cache of_disk of_pool) (gone : PageSet) (closed : IsClosed cache gone) where
  left : (p : ℕ) → cache.dirty p ≡ true → gone p ≡ false → (cache.dirty p && not (gone p)) ≡ true
  left p d g = and_from _ _ d (not_from_false _ g)

  -- what precedes a page that is dirty still is dirty still
  left_after : (a b : ℕ) → Precedes cache.ordered a b → (cache.dirty a && not (gone a)) ≡ true → (cache.dirty b && not (gone b)) ≡ true
  left_after a b order is = at (gone b) refl
    where
      at : (x : Bool) → gone b ≡ x → (cache.dirty b && not (gone b)) ≡ true
      at true holds = let parts = and_parts _ _ is in absurd (both_ways (gone a) (not-true _ parts.1) (closed.before a b order parts.0 holds))
      at false out = left b (ordered_is_dirty demands meets cache of_disk of_pool careful gone closed a b order).1 out

  order_stays : (a b : ℕ) → Precedes cache.ordered a b → (cache.dirty a && not (gone a)) ≡ true → Precedes (written_out cache gone).ordered a b
  order_stays a b (directly o) is = directly (and_from _ _ o (and_from _ _ is (left_after a b (directly o) is)))
  order_stays a c (through {b = b} p q) is = through (order_stays a b p is) (order_stays b c q (left_after a b p is))

  clean_after : (p : ℕ) → (cache.dirty p && not (gone p)) ≡ false → cache.pool p ≡ overlay cache gone p
  clean_after p is = at (gone p) refl (cache.dirty p) refl
    where
      at : (x : Bool) → gone p ≡ x → (y : Bool) → cache.dirty p ≡ y → cache.pool p ≡ overlay cache gone p
      at true holds y d = sym (pool_there demands meets cache of_disk of_pool careful gone closed p holds)
      at false out true d = absurd (both_ways _ is (left p d out))
      at false out false d = sym (clean_there demands meets cache of_disk of_pool careful gone closed p d)

  new_after : (d e : Demand) → IsIn of_pool d → Has (demands (cache.pool d.target) d) e → e.target ≢ d.target → (cache.dirty e.target && not (gone e.target)) ≡ true → IsIn (three_parts cache gone of_disk of_pool) e ⊎ Precedes (written_out cache gone).ordered e.target d.target
  new_after d e h made ne t =
      let parts = and_parts _ _ t in
      elim (careful.bears.new d e h made ne parts.0) [
        | inl on_disk ↦ inl (member cache gone of_disk of_pool e (aims_outside (not-true _ parts.1) parts.0 on_disk))
        | inr order ↦ inr (order_stays e.target d.target order t)
      ]

  old_after : (d e : Demand) → Comes cache.dirty gone of_disk of_pool d → Has (demands (overlay cache gone d.target) d) e → e.target ≢ d.target → (cache.dirty e.target && not (gone e.target)) ≡ true → IsIn of_pool e ⊎ Precedes (written_out cache gone).ordered d.target e.target
  old_after d e (aims_inside s h) made ne t = inl (careful.bears.pool_keeps.in_turn d e h (rw (pool_there demands meets cache of_disk of_pool careful gone closed d.target s) at made))
  old_after d e (aims_outside s is h) made ne t =
      elim (careful.bears.old d e h (rw (disk_there demands meets cache of_disk of_pool careful gone closed d.target s) at made) ne (and_parts _ _ t).0) [
        | inl in_pool ↦ inl in_pool
        | inr order ↦ inr (order_stays d.target e.target order (left d.target is s))
      ]
  old_after d e (clean_of_disk c h) made ne t =
      elim (careful.bears.old d e h (rw (disk_there demands meets cache of_disk of_pool careful gone closed d.target (not_inside demands meets cache of_disk of_pool careful gone closed d.target c)) at made) ne (and_parts _ _ t).0) [
        | inl in_pool ↦ inl in_pool
        | inr order ↦ absurd (both_ways (cache.dirty d.target) c (ordered_is_dirty demands meets cache of_disk of_pool careful gone closed d.target e.target order).0)
      ]
  old_after d e (clean_of_pool c h) made ne t = inl (careful.bears.pool_keeps.in_turn d e h (rw (clean_there demands meets cache of_disk of_pool careful gone closed d.target c) at made))

  pub careful_after : IsCareful demands meets (written_out cache gone) (three_parts cache gone of_disk of_pool) of_pool
  careful_after = record {
    bears = record {
      disk_keeps = overlay_keeps demands meets cache of_disk of_pool careful gone closed;
      pool_keeps = careful.bears.pool_keeps;
      new = new_after;
      old = λ d e h made ne t. old_after d e (comes cache gone of_disk of_pool d h) made ne t;
    };
    clean = clean_after;
    only_dirty = λ p q o. let both = and_parts _ _ o in and_parts _ _ both.1;
  }

  -- what the pool demands of a page that isn't dirty then is in the set of three parts
  pub settled_after : (e : Demand) → IsIn of_pool e → (cache.dirty e.target && not (gone e.target)) ≡ false → IsIn (three_parts cache gone of_disk of_pool) e
  settled_after e h is = member cache gone of_disk of_pool e (at (gone e.target) refl (cache.dirty e.target) refl)
    where
      at : (x : Bool) → gone e.target ≡ x → (y : Bool) → cache.dirty e.target ≡ y → Comes cache.dirty gone of_disk of_pool e
      at true holds y d = aims_inside holds h
      at false out true d = absurd (both_ways _ is (left e.target d out))
      at false out false d = clean_of_pool d h

pub stays_careful : (demands : Demands) (meets : Meets) → StaysCareful demands meets
stays_careful demands meets = λ cache of_disk of_pool careful gone closed. careful_after demands meets cache of_disk of_pool careful gone closed

-- which demands a batch leaves to go on
none_there : (o : Option (List ℕ)) → not (is_some o) ≡ true → o ≡ None
none_there None out = refl
none_there (Some bytes) out = absurd cc

module _ (batch : Contents) (dropped : Demand → Bool) where
  pub off_batch : (d : Demand) → goes_on batch dropped d ≡ true → batch d.target ≡ None
  off_batch d on = none_there (batch d.target) (and_parts (not (is_some (batch d.target))) _ on).0

  module _ (of_pool stated : DemandSet) where
    laid_cases : (d : Demand) → IsIn (laid_demands batch dropped of_pool stated) d → IsIn stated d ⊎ (goes_on batch dropped d ≡ true) × IsIn of_pool d
    laid_cases d h = elim (or_cases (stated d h.0) _ h.1) [
      | inl new ↦ inl (h.0, new)
      | inr old ↦ let both = and_parts (goes_on batch dropped d) _ old in inr (both.0, (h.0, both.1))
    ]

    as_stated : (d : Demand) → IsIn stated d → IsIn (laid_demands batch dropped of_pool stated) d
    as_stated d h = (h.0, or_left _ _ h.1)

    as_before : (d : Demand) → goes_on batch dropped d ≡ true → IsIn of_pool d → IsIn (laid_demands batch dropped of_pool stated) d
    as_before d on h = (h.0, or_right (stated d h.0) _ (and_from _ _ on h.1))

module _ (demands : Demands) (meets : Meets) (old new : Cache) (of_disk of_pool : DemandSet) (careful : IsCareful demands meets old of_disk of_pool) (gone : PageSet) (closed : IsClosed old gone) (batch : Contents) (orders : Orders) (lays : LaysBatch old new gone batch orders) (dropped : Demand → Bool) (stated : DemandSet) (owes : BatchBears demands meets old new batch dropped (three_parts old gone of_disk of_pool) of_pool stated) where
  middle : IsCareful demands meets (written_out old gone) (three_parts old gone of_disk of_pool) of_pool
  middle = careful_after demands meets old of_disk of_pool careful gone closed

  pool_same : (d : Demand) → goes_on batch dropped d ≡ true → new.pool d.target ≡ old.pool d.target
  pool_same d on = lays.pool d.target ∙ ap (λ (o : Option (List ℕ)). unwrap_or o (old.pool d.target)) (off_batch batch dropped d on)

  dirty_same : (d : Demand) → goes_on batch dropped d ≡ true → new.dirty d.target ≡ (old.dirty d.target && not (gone d.target))
  dirty_same d on = lays.dirty d.target ∙ ap (λ (o : Option (List ℕ)). is_some o || (old.dirty d.target && not (gone d.target))) (off_batch batch dropped d on)

  grows : (a b : ℕ) → Precedes (written_out old gone).ordered a b → Precedes new.ordered a b
  grows a b chain = precedes_in (written_out old gone).ordered new.ordered (λ x y o. lays.ordered x y ∙ or_left _ _ o) a b chain

  met_then : (d : Demand) → IsIn stated d ⊎ (goes_on batch dropped d ≡ true) × IsIn of_pool d → meets (new.pool d.target) d ≡ true
  met_then d (inl h) = owes.met d h
  met_then d (inr h) = rw (pool_same d h.0) (careful.bears.pool_keeps.met d h.1)

  in_turn_then : (d e : Demand) → IsIn stated d ⊎ (goes_on batch dropped d ≡ true) × IsIn of_pool d → Has (demands (new.pool d.target) d) e → IsIn (laid_demands batch dropped of_pool stated) e
  in_turn_then d e (inl h) made = owes.in_turn d e h made
  in_turn_then d e (inr h) made = elim (cases_Bool (goes_on batch dropped e)) [
    | inl on ↦ as_before batch dropped of_pool stated e on (careful.bears.pool_keeps.in_turn d e h.1 (rw (pool_same d h.0) at made))
    | inr off ↦ as_stated batch dropped of_pool stated e (owes.still d e h.1 h.0 made off)
  ]

  -- a link that stood is on the disk, or its order stays
  links_on : (d e : Demand) → IsIn of_pool d → Has (demands (old.pool d.target) d) e → e.target ≢ d.target → IsIn (three_parts old gone of_disk of_pool) e ⊎ Precedes new.ordered e.target d.target
  links_on d e h made ne = elim (cases_Bool (old.dirty e.target && not (gone e.target))) [
    | inl was ↦ elim (middle.bears.new d e h made ne was) [
      | inl on_disk ↦ inl on_disk
      | inr order ↦ inr (grows e.target d.target order)
    ]
    | inr clean ↦ inl (settled_after demands meets old of_disk of_pool careful gone closed e (careful.bears.pool_keeps.in_turn d e h made) clean)
  ]

  new_then : (d e : Demand) → IsIn stated d ⊎ (goes_on batch dropped d ≡ true) × IsIn of_pool d → Has (demands (new.pool d.target) d) e → e.target ≢ d.target → new.dirty e.target ≡ true → IsIn (three_parts old gone of_disk of_pool) e ⊎ Precedes new.ordered e.target d.target
  new_then d e (inl h) made ne t = elim (owes.new_links d e h made ne t) [
    | inl stood ↦ links_on d e stood.0 stood.1 ne
    | inr borne ↦ borne
  ]
  new_then d e (inr h) made ne t = links_on d e h.1 (rw (pool_same d h.0) at made) ne

  old_then : (d e : Demand) → IsIn (three_parts old gone of_disk of_pool) d → Has (demands (new.disk d.target) d) e → e.target ≢ d.target → new.dirty e.target ≡ true → IsIn (laid_demands batch dropped of_pool stated) e ⊎ Precedes new.ordered d.target e.target
  old_then d e h made ne t = elim (cases_Bool (goes_on batch dropped e)) [
    | inl on ↦ elim (middle.bears.old d e h (rw (lays.disk d.target) at made) ne (sym (dirty_same e on) ∙ t)) [
      | inl in_pool ↦ inl (as_before batch dropped of_pool stated e on in_pool)
      | inr order ↦ inr (grows d.target e.target order)
    ]
    | inr off ↦ elim (owes.old_links d e h made ne t off) [
      | inl said ↦ inl (as_stated batch dropped of_pool stated e said)
      | inr order ↦ inr order
    ]
  ]

  pub bears_then : BearsDemands demands meets new (three_parts old gone of_disk of_pool) (laid_demands batch dropped of_pool stated)
  bears_then = record {
    disk_keeps = record {
      met = λ d h. rw (lays.disk d.target) (middle.bears.disk_keeps.met d h);
      in_turn = λ d e h made. middle.bears.disk_keeps.in_turn d e h (rw (lays.disk d.target) at made);
    };
    pool_keeps = record {
      met = λ d h. met_then d (laid_cases batch dropped of_pool stated d h);
      in_turn = λ d e h made. in_turn_then d e (laid_cases batch dropped of_pool stated d h) made;
    };
    new = λ d e h made ne t. new_then d e (laid_cases batch dropped of_pool stated d h) made ne t;
    old = old_then;
  }

pub batch_stays_careful : (demands : Demands) (meets : Meets) → BatchStaysCareful demands meets
batch_stays_careful demands meets = λ old new of_disk of_pool careful gone closed batch orders lays dropped stated owes.
    bears_then demands meets old new of_disk of_pool careful gone closed batch orders lays dropped stated owes
