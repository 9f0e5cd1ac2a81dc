-- The proof of the careful-write law: each page stands inside the set, dirty outside it, or clean,
-- and each member of the set of three parts comes from the set that speaks of its target there.
use Rattle.std.specs.Prelude.{◌≡◌, ◌≢◌, ℕ, Bool, true, false, not, ◌&&◌}
use Rattle.std.proofs.Common.{inl, inr, refl, sym, ◌∙◌, ap}
use Rattle.std.proofs.lemmas.Bool.{and_parts, and_from, both_ways, not_from_false, not-true, or_cases, or_left, or_right}
use Rattle.mg_careful.specs.declared.links.Demand.{Demand}
use Rattle.mg_careful.specs.Precedence.{Precedes}
use Rattle.mg_careful.specs.PrecedenceLaws.{precedes_first, precedes_later}
use Rattle.mg_careful.specs.CarefulWrite.{PageSet, Cache, Demands, Meets, Has, DemandSet, IsIn, KeepsDemands, IsClosed, overlay, three_parts, IsCareful, IsSafeOverlay, CarefulWrite}

-- where a page stands towards a set of dirty pages
data Stands (dirty set_ : PageSet) : ℕ → Type 0 where
  inside : {p : ℕ} → set_ p ≡ true → dirty p ≡ true → Stands dirty set_ p
  outside : {p : ℕ} → set_ p ≡ false → dirty p ≡ true → Stands dirty set_ p
  clean : {p : ℕ} → set_ p ≡ false → dirty p ≡ false → Stands dirty set_ p

stands : (dirty set_ : PageSet) → ((p : ℕ) → set_ p ≡ true → dirty p ≡ true) → (p : ℕ) → Stands dirty set_ p
stands dirty set_ only p = at (set_ p) (dirty p) refl refl
  where
    at : (s d : Bool) → set_ p ≡ s → dirty p ≡ d → Stands dirty set_ p
    at true d is_in is_dirty = inside is_in (only p is_in)
    at false true is_out is_dirty = outside is_out is_dirty
    at false false is_out is_clean = clean is_out is_clean

-- from which set a member of the set of three parts comes
pub data Comes (dirty set_ : PageSet) (of_disk of_pool : DemandSet) (d : Demand) : Type 0 where
  aims_inside : set_ d.target ≡ true → IsIn of_pool d → Comes dirty set_ of_disk of_pool d
  aims_outside : set_ d.target ≡ false → dirty d.target ≡ true → IsIn of_disk d → Comes dirty set_ of_disk of_pool d
  clean_of_disk : dirty d.target ≡ false → IsIn of_disk d → Comes dirty set_ of_disk of_pool d
  clean_of_pool : dirty d.target ≡ false → IsIn of_pool d → Comes dirty set_ of_disk of_pool d

module _ (cache : Cache) (set_ : PageSet) (of_disk of_pool : DemandSet) where
  pub comes : (d : Demand) → IsIn (three_parts cache set_ of_disk of_pool) d → Comes cache.dirty set_ of_disk of_pool d
  comes d h =
      elim (or_cases (set_ d.target && of_pool d h.0) _ h.1) [
        | inl a ↦ let x = and_parts (set_ d.target) _ a in aims_inside x.0 (h.0, x.1)
        | inr b ↦ elim (or_cases ((cache.dirty d.target && not (set_ d.target)) && of_disk d h.0) _ b) [
          | inl a ↦
              let x = and_parts (cache.dirty d.target && not (set_ d.target)) _ a in
              let y = and_parts (cache.dirty d.target) _ x.0 in
              aims_outside (not-true _ y.1) y.0 (h.0, x.1)
          | inr a ↦
              let x = and_parts (not (cache.dirty d.target)) _ a in
              elim (or_cases (of_disk d h.0) _ x.1) [
                | inl y ↦ clean_of_disk (not-true _ x.0) (h.0, y)
                | inr y ↦ clean_of_pool (not-true _ x.0) (h.0, y)
              ]
        ]
      ]

  pub member : (d : Demand) → Comes cache.dirty set_ of_disk of_pool d → IsIn (three_parts cache set_ of_disk of_pool) d
  member d (aims_inside s h) = (h.0, or_left _ _ (and_from _ _ s h.1))
  member d (aims_outside s t h) = (
    h.0,
    or_right (set_ d.target && of_pool d h.0) _ (or_left _ _ (and_from _ _ (and_from _ _ t (not_from_false _ s)) h.1)),
  )
  member d (clean_of_disk t h) = (
    h.0,
    or_right (set_ d.target && of_pool d h.0) _ (or_right ((cache.dirty d.target && not (set_ d.target)) && of_disk d h.0) _ (and_from _ _ (not_from_false _ t) (or_left _ _ h.1))),
  )
  member d (clean_of_pool t h) = (
    h.0,
    or_right (set_ d.target && of_pool d h.0) _ (or_right ((cache.dirty d.target && not (set_ d.target)) && of_disk d h.0) _ (and_from _ _ (not_from_false _ t) (or_right (of_disk d h.0) _ h.1))),
  )

-- two pages that a test tells apart are two pages
told_apart : (test : PageSet) (p q : ℕ) → test p ≡ false → test q ≡ true → p ≢ q
told_apart test p q fails holds same = both_ways (test q) (ap test (sym same) ∙ fails) holds

module _ (demands : Demands) (meets : Meets) (cache : Cache) (of_disk of_pool : DemandSet) (careful : IsCareful demands meets cache of_disk of_pool) (set_ : PageSet) (closed : IsClosed cache set_) where
  -- a page outside the set has the disk's content in the overlay, and a clean one the pool's too
  pub disk_there : (p : ℕ) → set_ p ≡ false → overlay cache set_ p ≡ cache.disk p
  disk_there p fails = rw fails refl

  pub pool_there : (p : ℕ) → set_ p ≡ true → overlay cache set_ p ≡ cache.pool p
  pool_there p holds = rw holds refl

  pub not_inside : (p : ℕ) → cache.dirty p ≡ false → set_ p ≡ false
  not_inside p fails = at (set_ p) refl
    where
      at : (b : Bool) → set_ p ≡ b → set_ p ≡ false
      at true holds = absurd (both_ways (cache.dirty p) fails (closed.only_dirty p holds))
      at false out = out

  pub clean_there : (p : ℕ) → cache.dirty p ≡ false → overlay cache set_ p ≡ cache.pool p
  clean_there p fails = disk_there p (not_inside p fails) ∙ sym (careful.clean p fails)

  pub ordered_is_dirty : (p q : ℕ) → Precedes cache.ordered p q → (cache.dirty p ≡ true) × (cache.dirty q ≡ true)
  ordered_is_dirty p q order =
      (precedes_first cache.ordered cache.dirty (λ a b o. (careful.only_dirty a b o).0) p q order, precedes_later cache.ordered cache.dirty (λ a b o. (careful.only_dirty a b o).1) p q order)

  met : (d : Demand) → Comes cache.dirty set_ of_disk of_pool d → meets (overlay cache set_ d.target) d ≡ true
  met d (aims_inside s h) = rw (pool_there d.target s) (careful.bears.pool_keeps.met d h)
  met d (aims_outside s t h) = rw (disk_there d.target s) (careful.bears.disk_keeps.met d h)
  met d (clean_of_disk t h) = rw (disk_there d.target (not_inside d.target t)) (careful.bears.disk_keeps.met d h)
  met d (clean_of_pool t h) = rw (clean_there d.target t) (careful.bears.pool_keeps.met d h)

  -- what a member of the pool's set makes from a page that shows the pool's content
  of_pool_on : (d e : Demand) → IsIn of_pool d → Has (demands (cache.pool d.target) d) e → ((cache.dirty d.target ≡ true) → set_ d.target ≡ true) → Stands cache.dirty set_ e.target → Comes cache.dirty set_ of_disk of_pool e
  of_pool_on d e h made shown (inside s t) = aims_inside s (careful.bears.pool_keeps.in_turn d e h made)
  of_pool_on d e h made shown (clean s t) = clean_of_pool t (careful.bears.pool_keeps.in_turn d e h made)
  of_pool_on d e h made shown (outside s t) = at (cache.dirty d.target) refl
    where
      apart : set_ d.target ≡ true → Comes cache.dirty set_ of_disk of_pool e
      apart holds =
          elim (careful.bears.new d e h made (told_apart set_ e.target d.target s holds) t) [
            | inl on_disk ↦ aims_outside s t on_disk
            | inr order ↦ absurd (both_ways (set_ e.target) s (closed.before e.target d.target order t holds))
          ]

      at : (b : Bool) → cache.dirty d.target ≡ b → Comes cache.dirty set_ of_disk of_pool e
      at true is_dirty = apart (shown is_dirty)
      at false is_clean =
          elim (careful.bears.new d e h made (λ same. told_apart cache.dirty d.target e.target is_clean t (sym same)) t) [
            | inl on_disk ↦ aims_outside s t on_disk
            | inr order ↦ absurd (both_ways (cache.dirty d.target) is_clean (ordered_is_dirty e.target d.target order).1)
          ]

  -- what a member of the disk's set makes from a page that shows the disk's content
  of_disk_on : (d e : Demand) → IsIn of_disk d → Has (demands (cache.disk d.target) d) e → set_ d.target ≡ false → Stands cache.dirty set_ e.target → Comes cache.dirty set_ of_disk of_pool e
  of_disk_on d e h made out (outside s t) = aims_outside s t (careful.bears.disk_keeps.in_turn d e h made)
  of_disk_on d e h made out (clean s t) = clean_of_disk t (careful.bears.disk_keeps.in_turn d e h made)
  of_disk_on d e h made out (inside s t) =
      elim (careful.bears.old d e h made (λ same. told_apart set_ d.target e.target out s (sym same)) t) [
        | inl in_pool ↦ aims_inside s in_pool
        | inr order ↦ absurd (both_ways (set_ d.target) out (closed.before d.target e.target order (ordered_is_dirty d.target e.target order).0 s))
      ]

  in_turn : (d e : Demand) → Comes cache.dirty set_ of_disk of_pool d → Has (demands (overlay cache set_ d.target) d) e → Stands cache.dirty set_ e.target → Comes cache.dirty set_ of_disk of_pool e
  in_turn d e (aims_inside s h) made at = of_pool_on d e h (rw (pool_there d.target s) at made) (λ _. s) at
  in_turn d e (aims_outside s t h) made at = of_disk_on d e h (rw (disk_there d.target s) at made) s at
  in_turn d e (clean_of_disk t h) made at = of_disk_on d e h (rw (disk_there d.target (not_inside d.target t)) at made) (not_inside d.target t) at
  in_turn d e (clean_of_pool t h) made at = of_pool_on d e h (rw (clean_there d.target t) at made) (λ holds. absurd (both_ways (cache.dirty d.target) t holds)) at

  -- what both sets contain is in the set of three parts, wherever its target stands
  of_both : (d : Demand) → IsIn of_disk d → IsIn of_pool d → Stands cache.dirty set_ d.target → Comes cache.dirty set_ of_disk of_pool d
  of_both d x y (inside s t) = aims_inside s y
  of_both d x y (outside s t) = aims_outside s t x
  of_both d x y (clean s t) = clean_of_disk t x

  pub overlay_keeps : KeepsDemands demands meets (overlay cache set_) (three_parts cache set_ of_disk of_pool)
  overlay_keeps = record {
    met = λ d h. met d (comes cache set_ of_disk of_pool d h);
    in_turn = λ d e h made. member cache set_ of_disk of_pool e (in_turn d e (comes cache set_ of_disk of_pool d h) made (stands cache.dirty set_ closed.only_dirty e.target));
  }

  both : (d : Demand) → IsIn of_disk d → IsIn of_pool d → IsIn (three_parts cache set_ of_disk of_pool) d
  both d x y = member cache set_ of_disk of_pool d (of_both d x y (stands cache.dirty set_ closed.only_dirty d.target))

  safe : IsSafeOverlay demands meets cache set_ of_disk of_pool
  safe = record {
    keeps = overlay_keeps;
    both = both;
    linked = λ roots of. record {
      set_ = three_parts cache set_ of_disk of_pool;
      keeps = overlay_keeps;
      rooted = λ d h. let x = of d h in both d x.0 x.1;
    };
  }

pub law : (demands : Demands) (meets : Meets) → CarefulWrite demands meets
law demands meets = λ cache of_disk of_pool careful set_ closed. safe demands meets cache of_disk of_pool careful set_ closed
