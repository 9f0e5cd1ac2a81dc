-- A batch that pays for its own pages bears the demands, by the law of a batch of mg_careful: it
-- states anew what was wanted of its pages, and what it newly wants.
use Rattle.std.specs.Prelude.{◌≡◌, ◌≢◌, ℕ, Bool, true, false, not, ◌&&◌, ◌||◌, ◌⊎◌, List, Option, Some, None, is_some, unwrap_or}
use Rattle.std.proofs.Common.{inl, inr, refl, sym, ◌∙◌, ap}
use Rattle.std.proofs.lemmas.Bool.{and_parts, and_from, both_ways, not_from_false, not-true, or_cases, or_left, or_right}
use Rattle.mg_careful.specs.declared.links.Demand.{Demand}
use Rattle.mg_careful.specs.Precedence.{Orders, Precedes, directly}
use Rattle.mg_careful.specs.PrecedenceLaws.{precedes_in}
use Rattle.mg_careful.specs.CarefulWrite.{BearsDemands, Cache, CarefulWrite, DemandSet, Demands, Has, IsClosed, IsIn, Meets, PageSet, Pages, either, overlay, three_parts}
use Rattle.mg_careful.specs.CarefulSteps.{BatchBears, BatchStaysCareful, Contents, LaysBatch, StaysCareful, goes_on, laid_demands, written_out}
use Rattle.mg_demand_laws.specs.Bearing.{BatchesBear, BearingStarts, BearsItsDemands, IsPaid, OverlaysAreLinked, PaysDemands, WritesBear}
use Rattle.mg_demand_laws.specs.Freeing.{DropsDemands, Which, without}

pub starts : (demands : Demands) (meets : Meets) → BearingStarts demands meets
starts demands meets = λ cache kept none same unordered keeps. record {
  careful = record {
    bears = record {
      disk_keeps = keeps;
      pool_keeps = record {
        met = λ d h. rw (same d.target) (keeps.met d h);
        in_turn = λ d e h made. keeps.in_turn d e h (rw (same d.target) at made);
      };
      new = λ d e h made apart dirty. absurd (both_ways _ (none e.target) dirty);
      old = λ d e h made apart dirty. absurd (both_ways _ (none e.target) dirty);
    };
    clean = λ p out. same p;
    only_dirty = λ p q o. absurd (both_ways _ (unordered p q) o);
  };
  clean = λ d h out. h;
}

-- what the set of three parts has on a page that is clean afterwards is wanted in the pool
clean_three : (cache : Cache) (gone : PageSet) (of_disk of_pool : DemandSet)
    → ((d : Demand) → IsIn of_disk d → cache.dirty d.target ≡ false → IsIn of_pool d)
    → (d : Demand) → IsIn (three_parts cache gone of_disk of_pool) d
    → (cache.dirty d.target && not (gone d.target)) ≡ false → IsIn of_pool d
clean_three cache gone of_disk of_pool clean d h out =
    elim (or_cases (gone d.target && of_pool d h.0) _ h.1) [
      | inl a ↦ (h.0, (and_parts (gone d.target) _ a).1)
      | inr b ↦ elim (or_cases ((cache.dirty d.target && not (gone d.target)) && of_disk d h.0) _ b) [
        | inl a ↦ absurd (both_ways _ out (and_parts (cache.dirty d.target && not (gone d.target)) _ a).0)
        | inr a ↦
            let x = and_parts (not (cache.dirty d.target)) _ a in
            elim (or_cases (of_disk d h.0) _ x.1) [
              | inl y ↦ clean d (h.0, y) (not-true _ x.0)
              | inr y ↦ (h.0, y)
            ]
      ]
    ]

pub writes : (demands : Demands) (meets : Meets) → StaysCareful demands meets → WritesBear demands meets
writes demands meets law = λ cache of_disk of_pool bearing gone closed. record {
  careful = law cache of_disk of_pool bearing.careful gone closed;
  clean = λ d h out. clean_three cache gone of_disk of_pool bearing.clean d h out;
}

pub overlays : (demands : Demands) (meets : Meets) → CarefulWrite demands meets
    → OverlaysAreLinked demands meets
overlays demands meets law = λ cache of_disk of_pool roots bearing both set_ closed.
    (law cache of_disk of_pool bearing.careful set_ closed).linked roots both

-- what is borne for one set of the pool's demands is borne for another with the same members
same_wanted : (demands : Demands) (meets : Meets) (cache : Cache) (of_disk one other : DemandSet)
    → ((d : Demand) → IsIn one d → IsIn other d) → ((d : Demand) → IsIn other d → IsIn one d)
    → BearsDemands demands meets cache of_disk one → BearsDemands demands meets cache of_disk other
same_wanted demands meets cache of_disk one other to from bears = record {
  disk_keeps = bears.disk_keeps;
  pool_keeps = record {
    met = λ d h. bears.pool_keeps.met d (from d h);
    in_turn = λ d e h made. to e (bears.pool_keeps.in_turn d e (from d h) made);
  };
  new = λ d e h made apart dirty. bears.new d e (from d h) made apart dirty;
  old = λ d e h made apart dirty. elim (bears.old d e h made apart dirty) [
    | inl in_pool ↦ inl (to e in_pool)
    | inr order ↦ inr order
  ];
}

same_bears : (demands : Demands) (meets : Meets) (cache : Cache) (of_disk one other : DemandSet)
    → ((d : Demand) → IsIn one d → IsIn other d) → ((d : Demand) → IsIn other d → IsIn one d)
    → BearsItsDemands demands meets cache of_disk one → BearsItsDemands demands meets cache of_disk other
same_bears demands meets cache of_disk one other to from it = record {
  careful = record {
    bears = same_wanted demands meets cache of_disk one other to from it.careful.bears;
    clean = it.careful.clean;
    only_dirty = it.careful.only_dirty;
  };
  clean = λ d h out. to d (it.clean d h out);
}

-- A batch that pays, and then drops.
module _ (demands : Demands) (meets : Meets) (stays : StaysCareful demands meets) (law : BatchStaysCareful demands meets) (old new : Cache) (mid : Pages) (of_disk of_pool more : DemandSet) (dropped : Which) (bearing : BearsItsDemands demands meets old of_disk of_pool) (gone : PageSet) (closed : IsClosed old gone) (batch : Contents) (orders : Orders) (lays : LaysBatch old new gone batch orders) (own : (a b : ℕ) → orders a b ≡ true → is_some (batch b) ≡ true) (own_dropped : (d : Demand) → dropped d ≡ true → is_some (batch d.target) ≡ true) (pays : PaysDemands demands meets old.pool mid orders (three_parts old gone of_disk of_pool) of_pool more) (drops : DropsDemands demands meets mid new.pool (either of_pool more) dropped)
    -- what the disk still demands of what is dropped precedes
    (freed : (d e : Demand) → IsIn (three_parts old gone of_disk of_pool) d → Has (demands (new.disk d.target) d) e
    → e.target ≢ d.target → dropped e ≡ true → Precedes new.ordered d.target e.target) where
  abbrev three : DemandSet
  three = three_parts old gone of_disk of_pool

  abbrev both : DemandSet
  both = either of_pool more

  -- what the batch states: what it newly wants, and what was wanted of its pages, but for what it drops
  abbrev stated : DemandSet
  stated d witness = (more d witness || (is_some (batch d.target) && of_pool d witness)) && not (dropped d)

  middle : BearsItsDemands demands meets (written_out old gone) three of_pool
  middle = writes demands meets stays old of_disk of_pool bearing gone closed

  abbrev IsStated : Demand → Type 0
  IsStated d = (IsIn more d ⊎ ((is_some (batch d.target) ≡ true) × IsIn of_pool d)) × (dropped d ≡ false)

  stated_cases : (d : Demand) → IsIn stated d → IsStated d
  stated_cases d h =
      let parts = and_parts (more d h.0 || (is_some (batch d.target) && of_pool d h.0)) _ h.1 in (
        elim (or_cases (more d h.0) _ parts.0) [
          | inl new_one ↦ inl (h.0, new_one)
          | inr old_one ↦
              let two = and_parts (is_some (batch d.target)) _ old_one in inr (two.0, (h.0, two.1))
        ],
        not-true _ parts.1,
      )

  as_new : (d : Demand) → IsIn more d → dropped d ≡ false → IsIn stated d
  as_new d h kept = (h.0, and_from _ _ (or_left _ _ h.1) (not_from_false _ kept))

  as_own : (d : Demand) → is_some (batch d.target) ≡ true → IsIn of_pool d → dropped d ≡ false → IsIn stated d
  as_own d is h kept =
      (h.0, and_from _ _ (or_right (more d h.0) _ (and_from _ _ is h.1)) (not_from_false _ kept))

  abbrev laid : DemandSet
  laid = laid_demands batch dropped of_pool stated

  from_new : (d : Demand) → IsIn more d → dropped d ≡ false → IsIn laid d
  from_new d h kept = let it = as_new d h kept in (it.0, or_left _ _ it.1)

  from_old : (d : Demand) → IsIn of_pool d → dropped d ≡ false → IsIn laid d
  from_old d h kept = at (is_some (batch d.target)) refl
    where
      at : (b : Bool) → is_some (batch d.target) ≡ b → IsIn laid d
      at true is = let own_one = as_own d is h kept in (own_one.0, or_left _ _ own_one.1)
      at false is = (
        h.0,
        or_right (stated d h.0) _
            (and_from _ _ (and_from _ _ (not_from_false _ is) (not_from_false _ kept)) h.1),
      )

  in_both : (d : Demand) → IsIn of_pool d ⊎ IsIn more d → IsIn both d
  in_both d (inl h) = (h.0, or_left _ _ h.1)
  in_both d (inr h) = (h.0, or_right (of_pool d h.0) _ h.1)

  to_without : (d : Demand) → IsIn laid d → IsIn (without dropped both) d
  to_without d h = elim (or_cases (stated d h.0) _ h.1) [
    | inl s ↦
        let it = stated_cases d (h.0, s) in
        let wanted = in_both d (elim it.0 [
          | inl new_one ↦ inr new_one
          | inr own_one ↦ inl own_one.1
        ]) in
        (wanted.0, and_from _ _ wanted.1 (not_from_false _ it.1))
    | inr o ↦
        let parts = and_parts (goes_on batch dropped d) _ o in (
          h.0,
          and_from _ _ (or_left _ _ parts.1)
              (and_parts (not (is_some (batch d.target))) _ parts.0).1,
        )
  ]

  from_without : (d : Demand) → IsIn (without dropped both) d → IsIn laid d
  from_without d h =
      let parts = and_parts (both d h.0) _ h.1 in
      elim (or_cases (of_pool d h.0) _ parts.0) [
        | inl o ↦ from_old d (h.0, o) (not-true _ parts.1)
        | inr n ↦ from_new d (h.0, n) (not-true _ parts.1)
      ]

  from_wanted : (e : Demand) → IsIn of_pool e ⊎ IsIn more e → dropped e ≡ false → IsIn laid e
  from_wanted e (inl h) kept = from_old e h kept
  from_wanted e (inr h) kept = from_new e h kept

  -- a page that goes on is as it was
  off_batch : (d : Demand) → goes_on batch dropped d ≡ true → batch d.target ≡ None
  off_batch d on = at (batch d.target) refl
    where
      at : (o : Option (List ℕ)) → batch d.target ≡ o → batch d.target ≡ None
      at None is = is
      at (Some bytes) is = absurd (both_ways _ (ap not (ap is_some is))
          (and_parts (not (is_some (batch d.target))) _ on).0)

  not_dropped : (d : Demand) → goes_on batch dropped d ≡ true → dropped d ≡ false
  not_dropped d on = not-true _ (and_parts (not (is_some (batch d.target))) _ on).1

  pool_same : (d : Demand) → goes_on batch dropped d ≡ true → new.pool d.target ≡ old.pool d.target
  pool_same d on = lays.pool d.target
      ∙ ap (λ (o : Option (List ℕ)). unwrap_or o (old.pool d.target)) (off_batch d on)

  -- what does not go on is on a page of the batch
  in_batch : (e : Demand) → goes_on batch dropped e ≡ false → is_some (batch e.target) ≡ true
  in_batch e off = at (is_some (batch e.target)) refl (dropped e) refl
    where
      at : (b : Bool) → is_some (batch e.target) ≡ b → (c : Bool) → dropped e ≡ c
          → is_some (batch e.target) ≡ true
      at true is c out = is
      at false is true out = own_dropped e out
      at false is false out =
          absurd (both_ways _ off (and_from _ _ (not_from_false _ is) (not_from_false _ out)))

  grows : (a b : ℕ) → Precedes (written_out old gone).ordered a b → Precedes new.ordered a b
  grows a b chain = precedes_in (written_out old gone).ordered new.ordered
      (λ x y o. lays.ordered x y ∙ or_left _ _ o) a b chain

  paid_first : (d e : Demand) → IsPaid orders three of_pool more d e → e.target ≢ d.target
      → new.dirty e.target ≡ true → IsIn three e ⊎ Precedes new.ordered e.target d.target
  paid_first d e paid apart dirty = elim paid.is_first [
    | inl same ↦ absurd (apart same)
    | inr other ↦ elim other [
      | inl order ↦ inr (directly (lays.ordered e.target d.target
          ∙ or_right ((written_out old gone).ordered e.target d.target) _ (and_from _ _ order dirty)))
      | inr on_disk ↦ inl on_disk
    ]
  ]

  abbrev Stood : Demand → Demand → Type 0
  Stood d e = IsIn of_pool d × Has (demands (old.pool d.target) d) e

  abbrev Borne : Demand → Demand → Type 0
  Borne d e = IsIn three e ⊎ Precedes new.ordered e.target d.target

  abbrev IsNewOrOwn : Demand → Type 0
  IsNewOrOwn d = IsIn more d ⊎ ((is_some (batch d.target) ≡ true) × IsIn of_pool d)

  wanted_of : (d : Demand) → IsNewOrOwn d → IsIn both d
  wanted_of d (inl h) = in_both d (inr h)
  wanted_of d (inr h) = in_both d (inl h.1)

  in_turn_then : (d e : Demand) → IsNewOrOwn d → Has (demands (mid d.target) d) e → dropped e ≡ false → IsIn laid e
  in_turn_then d e (inl h) made kept = from_wanted e (pays.new_links d e h made).is_wanted kept
  in_turn_then d e (inr h) made kept = elim (pays.links d e h.1 made) [
    | inl stood ↦ from_old e (bearing.careful.bears.pool_keeps.in_turn d e h.1 stood) kept
    | inr paid ↦ from_wanted e paid.is_wanted kept
  ]

  new_then : (d e : Demand) → IsNewOrOwn d → Has (demands (mid d.target) d) e → e.target ≢ d.target
      → new.dirty e.target ≡ true → Stood d e ⊎ Borne d e
  new_then d e (inl h) made apart dirty = inr (paid_first d e (pays.new_links d e h made) apart dirty)
  new_then d e (inr h) made apart dirty = elim (pays.links d e h.1 made) [
    | inl stood ↦ inl (h.1, stood)
    | inr paid ↦ inr (paid_first d e paid apart dirty)
  ]

  old_then : (d e : Demand) → IsIn three d → Has (demands (new.disk d.target) d) e
      → e.target ≢ d.target → goes_on batch dropped e ≡ false
      → IsIn stated e ⊎ Precedes new.ordered d.target e.target
  old_then d e h made apart off = by (dropped e) refl
    where
      before : Has (demands (overlay old gone d.target) d) e
      before = rw (lays.disk d.target) at made

      at : dropped e ≡ false → (b : Bool) → (old.dirty e.target && not (gone e.target)) ≡ b
          → IsIn stated e ⊎ Precedes new.ordered d.target e.target
      at kept true dirty = elim (middle.careful.bears.old d e h before apart dirty) [
        | inl in_pool ↦ inl (as_own e (in_batch e off) in_pool kept)
        | inr order ↦ inr (grows d.target e.target order)
      ]
      at kept false clean = inl (as_own e (in_batch e off)
          (middle.clean e (middle.careful.bears.disk_keeps.in_turn d e h before) clean) kept)

      by : (c : Bool) → dropped e ≡ c → IsIn stated e ⊎ Precedes new.ordered d.target e.target
      by true out = inr (freed d e h made apart out)
      by false kept = at kept (old.dirty e.target && not (gone e.target)) refl

  -- what goes on leads to nothing that is dropped
  still_then : (d e : Demand) → IsIn of_pool d → goes_on batch dropped d ≡ true → Has (demands (new.pool d.target) d) e
      → goes_on batch dropped e ≡ false → IsIn stated e
  still_then d e h on made off = as_own e (in_batch e off)
      (bearing.careful.bears.pool_keeps.in_turn d e h (rw (pool_same d on) at made))
      (drops.links d e (in_both d (inl h)) (not_dropped d on) made).1

  owes : BatchBears demands meets old new batch dropped three of_pool stated
  owes = record {
    met = λ d h. let it = stated_cases d h in drops.still d (wanted_of d it.0) it.1;
    in_turn = λ d e h made.
        let it = stated_cases d h in
        let was = drops.links d e (wanted_of d it.0) it.1 made in in_turn_then d e it.0 was.0 was.1;
    still = still_then;
    new_links = λ d e h made apart dirty.
        let it = stated_cases d h in
        new_then d e it.0 (drops.links d e (wanted_of d it.0) it.1 made).0 apart dirty;
    old_links = λ d e h made apart dirty off. old_then d e h made apart off;
  }

  -- what was dirty and was not written out, and each page of the batch, is dirty
  dirty_then : (p : ℕ) → new.dirty p ≡ false → (batch p ≡ None) × ((old.dirty p && not (gone p)) ≡ false)
  dirty_then p out = at (batch p) refl (old.dirty p && not (gone p)) refl
    where
      at : (o : Option (List ℕ)) → batch p ≡ o → (b : Bool) → (old.dirty p && not (gone p)) ≡ b
          → (batch p ≡ None) × ((old.dirty p && not (gone p)) ≡ false)
      at (Some bytes) is b was = absurd (both_ways _ out (lays.dirty p ∙ or_left _ _ (ap is_some is)))
      at None is true was = absurd (both_ways _ out (lays.dirty p ∙ or_right (is_some (batch p)) _ was))
      at None is false was = (is, was)

  still_dirty : (p : ℕ) → (old.dirty p && not (gone p)) ≡ true → new.dirty p ≡ true
  still_dirty p was = lays.dirty p ∙ or_right (is_some (batch p)) _ was

  only_dirty_then : (p q : ℕ) → new.ordered p q ≡ true → (new.dirty p ≡ true) × (new.dirty q ≡ true)
  only_dirty_then p q o = elim (or_cases ((written_out old gone).ordered p q) _ (sym (lays.ordered p q) ∙ o)) [
    | inl was ↦
        let two = middle.careful.only_dirty p q was in (still_dirty p two.0, still_dirty q two.1)
    | inr put ↦
        let two = and_parts (orders p q) _ put in
        (two.1, lays.dirty q ∙ or_left _ _ (own p q two.0))
  ]

  clean_then : (p : ℕ) → new.dirty p ≡ false → new.pool p ≡ new.disk p
  clean_then p out =
      let two = dirty_then p out in
      lays.pool p
      ∙ (ap (λ (o : Option (List ℕ)). unwrap_or o (old.pool p)) two.0
      ∙ (middle.careful.clean p two.1 ∙ sym (lays.disk p)))

  -- what is dropped is on a page that is dirty
  clean_stays : (d : Demand) → new.dirty d.target ≡ false → dropped d ≡ false
  clean_stays d out = at (dropped d) refl
    where
      at : (c : Bool) → dropped d ≡ c → dropped d ≡ false
      at true is = absurd (both_ways _ out (lays.dirty d.target ∙ or_left _ _ (own_dropped d is)))
      at false is = is

  pub dropping_then : BearsItsDemands demands meets new three (without dropped both)
  dropping_then = record {
    careful = record {
      bears = same_wanted demands meets new three laid (without dropped both) to_without from_without
          (law old new of_disk of_pool bearing.careful gone closed batch orders lays dropped stated owes);
      clean = clean_then;
      only_dirty = only_dirty_then;
    };
    clean = λ d h out.
        let wanted = middle.clean d h (dirty_then d.target out).1 in
        (wanted.0, and_from _ _ (or_left _ _ wanted.1) (not_from_false _ (clean_stays d out)));
  }

-- a batch that only pays drops nothing
pub batches : (demands : Demands) (meets : Meets) → StaysCareful demands meets
    → BatchStaysCareful demands meets → BatchesBear demands meets
batches demands meets stays law = λ old new of_disk of_pool more bearing gone closed batch orders lays own pays.
    same_bears demands meets new (three_parts old gone of_disk of_pool)
    (without (λ d. false) (either of_pool more)) (either of_pool more)
    (λ d h. (h.0, (and_parts (either of_pool more d h.0) _ h.1).0))
    (λ d h. (h.0, and_from _ _ h.1 refl))
    (dropping_then demands meets stays law old new new.pool of_disk of_pool more (λ d. false) bearing gone
    closed batch orders lays own (λ d out. absurd cc) pays (record {
      still = λ d h kept. elim (or_cases (of_pool d h.0) _ h.1) [
        | inl o ↦ pays.still d (h.0, o)
        | inr n ↦ pays.met d (h.0, n)
      ];
      links = λ d e h kept made. (made, refl);
    }) (λ d e h made apart out. absurd cc))
