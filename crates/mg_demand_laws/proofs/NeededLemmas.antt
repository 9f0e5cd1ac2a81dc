-- The page and those before it are a closed set, and its overlay is broken.
use Rattle.std.proofs.Common.{◌≡◌, ◌≢◌, ◌==◌, ◌&&◌, ◌||◌, ℕ, List, Bool, true, false, refl, sym, subst, inl, inr}
use Rattle.std.proofs.lemmas.Bool.{and_parts, and_from, both_ways, eq-eqb, eqb-true, ne_eqb, or_cases, or_left, or_right}
use Rattle.mg_careful.specs.declared.links.Demand.{Demand}
use Rattle.mg_careful.specs.CarefulWrite.{Cache, Demands, Has, IsClosed, IsIn, Meets, PageSet, overlay}
use Rattle.mg_careful.specs.Precedence.{Precedes, through}
use Rattle.mg_demand_laws.specs.Needed.{ArePredecessors, IsBroken, LeavingOrdersAreNeeded, OrdersAreNeeded, with_predecessors}

module _ (cache : Cache) (page : ℕ) (before : PageSet) (are : ArePredecessors cache.ordered page before) where
  abbrev set_ : PageSet
  set_ = with_predecessors cache page before

  earlier : (p q : ℕ) → Precedes cache.ordered p q → (q == page || before q) ≡ true → before p ≡ true
  earlier p q order member = elim (or_cases (q == page) (before q) member) [
    | inl here ↦ (are p).1 (subst (λ (n : ℕ). Precedes cache.ordered p n) (eqb-true q page here) order)
    | inr there ↦ (are p).1 (through order ((are q).0 there))
  ]

  pub closed : IsClosed cache set_
  closed = record {
    only_dirty = λ p member. (and_parts (cache.dirty p) (p == page || before p) member).0;
    before = λ p q order dirty member. and_from (cache.dirty p) (p == page || before p) dirty
        (or_right (p == page) (before p) (earlier p q order (and_parts (cache.dirty q) (q == page || before q) member).1));
  }

-- the page and those before it: as the pool has it there
inside : (cache : Cache) (page : ℕ) (before : PageSet) → cache.dirty page ≡ true
    → overlay cache (with_predecessors cache page before) page ≡ cache.pool page
inside cache page before dirty = rw is refl
  where
    is : with_predecessors cache page before page ≡ true
    is = and_from (cache.dirty page) (page == page || before page) dirty
        (or_left (page == page) (before page) (eq-eqb page page refl))

-- and another page, that is not before it, as the disk has it
outside : (cache : Cache) (page other : ℕ) (before : PageSet) → other ≢ page → before other ≡ false
    → overlay cache (with_predecessors cache page before) other ≡ cache.disk other
outside cache page other before apart off = rw is refl
  where
    none : (b : Bool) → (b && (false || false)) ≡ false
    none true = refl
    none false = refl

    is : with_predecessors cache page before other ≡ false
    is = rw (ne_eqb other page apart) (rw off (none (cache.dirty other)))

-- where an image's page leads to what its other page does not have, the image is broken
broken : (demands : Demands) (meets : Meets) (image : ℕ → List ℕ) (d e : Demand) (leads : List ℕ) (lacks : List ℕ)
    → image d.target ≡ leads → image e.target ≡ lacks → Has (demands leads d) e → meets lacks e ≡ false
    → IsBroken demands meets image d
broken demands meets image d e leads lacks has_it has_not led unmet wanted keeps wants =
    let wants_e : IsIn wanted e = keeps.in_turn d e wants (subst (λ (b : List ℕ). Has (demands b d) e) (sym has_it) led) in
    let met : meets lacks e ≡ true = subst (λ (b : List ℕ). meets b e ≡ true) has_not (keeps.met e wants_e) in
    both_ways _ unmet met

pub needed : (demands : Demands) (meets : Meets) → OrdersAreNeeded demands meets
needed demands meets cache d e ahead before are off = (
  closed cache d.target before are,
  broken demands meets (overlay cache (with_predecessors cache d.target before)) d e (cache.pool d.target)
      (cache.disk e.target) (inside cache d.target before ahead.dirty)
      (outside cache d.target e.target before ahead.apart off) ahead.leads ahead.unmet,
)

pub leaving_needed : (demands : Demands) (meets : Meets) → LeavingOrdersAreNeeded demands meets
leaving_needed demands meets cache d e behind before are off = (
  closed cache e.target before are,
  broken demands meets (overlay cache (with_predecessors cache e.target before)) d e (cache.disk d.target)
      (cache.pool e.target) (outside cache e.target d.target before behind.apart off)
      (inside cache e.target before behind.dirty) behind.leads behind.gone,
)
