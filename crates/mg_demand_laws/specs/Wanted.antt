-- What is wanted of an image from some roots on: the roots, and whatever a wanted thing demands in
-- turn. A way from a root is told by the places of the demands that it takes, the last one first.
use Rattle.std.specs.Prelude.{◌≡◌, ℕ, zero, suc, true, List, [], ◌∷◌, Option, None, Some}
use Rattle.std.proofs.Common.{inl, inr, refl, sym, subst, ap, ◌∙◌}
use Rattle.mg_careful.specs.declared.links.Demand.{Demand}
use Rattle.mg_careful.specs.CarefulWrite.{DemandSet, Demands, Has, IsIn, IsLinked, KeepsDemands, ListsAreSets, Meets, Pages, listed}

-- the demand at a place of a list
abbrev pub demand_at : List Demand → ℕ → Option Demand
demand_at [] k = None
demand_at (d ∷ ds) zero = Some d
demand_at (d ∷ ds) (suc k) = demand_at ds k

-- what a thing demands in turn, by the page that it is wanted of
abbrev pub demands_in : Demands → Pages → Option Demand → List Demand
demands_in demands image None = []
demands_in demands image (Some d) = demands (image d.target) d

-- what is wanted at the end of a way
abbrev pub wanted_on : Demands → Pages → List Demand → List ℕ → List Demand
wanted_on demands image roots [] = roots
wanted_on demands image roots (k ∷ way) =
    demands_in demands image (demand_at (wanted_on demands image roots way) k)

-- what is wanted of an image from some roots on; the witness is a way
abbrev pub wanted : Demands → Pages → List Demand → DemandSet
wanted demands image roots d way = listed (wanted_on demands image roots way) d way

-- a member of a list stands at a place of it
place_in : (ds : List Demand) (d : Demand) → Has ds d → (k : ℕ) × (demand_at ds k ≡ Some d)
place_in [] d h = absurd h
place_in (x ∷ ds) d (inl same) = (0, ap Some (sym same))
place_in (x ∷ ds) d (inr h) = let further = place_in ds d h in (suc further.0, further.1)

-- what stands at a place of a list is a member of it
at_place : (ds : List Demand) (k : ℕ) (d : Demand) → demand_at ds k ≡ Some d → Has ds d
at_place [] k d is = absurd cc
at_place (x ∷ ds) zero d is = inl (let same : x ≡ d = cc in sym same)
at_place (x ∷ ds) (suc k) d is = inr (at_place ds k d is)

-- what a test of a set says does not depend on the witness where the set is a list
again : (list : List Demand) (d : Demand) (one other : List ℕ) → listed list d one ≡ listed list d other
again [] d one other = refl
again (x ∷ list) d one other = rw (again list d one other) refl

module _ (demands : Demands) (meets : Meets) (image : Pages) (roots : List Demand) (sets : ListsAreSets) where
  has_way : (d : Demand) (way : List ℕ) → wanted demands image roots d way ≡ true
      → Has (wanted_on demands image roots way) d
  has_way d way is = (sets (wanted_on demands image roots way) d).1 (way, is)

  on_way : (d : Demand) (way : List ℕ) → Has (wanted_on demands image roots way) d
      → IsIn (wanted demands image roots) d
  on_way d way h =
      let there = (sets (wanted_on demands image roots way) d).0 h in
      (way, again (wanted_on demands image roots way) d way there.0 ∙ there.1)

  -- a property that the roots have, and that goes on along links, all that is wanted has
  everywhere : (P : Demand → Type 0) → ((d : Demand) → Has roots d → P d)
      → ((d e : Demand) → P d → Has (demands (image d.target) d) e → P e)
      → (way : List ℕ) (d : Demand) → Has (wanted_on demands image roots way) d → P d
  everywhere P of_roots along [] d h = of_roots d h
  everywhere P of_roots along (k ∷ way) d h =
      at (demand_at (wanted_on demands image roots way) k) refl h (everywhere P of_roots along way)
    where
      at : (o : Option Demand) → demand_at (wanted_on demands image roots way) k ≡ o
          → Has (demands_in demands image o) d
          → ((c : Demand) → Has (wanted_on demands image roots way) c → P c) → P d
      at None is made before = absurd made
      at (Some c) is made before =
          along c d (before c (at_place (wanted_on demands image roots way) k c is)) made

  pub roots_wanted : (d : Demand) → Has roots d → IsIn (wanted demands image roots) d
  roots_wanted d h = on_way d [] h

  pub wanted_have : (P : Demand → Type 0) → ((d : Demand) → Has roots d → P d)
      → ((d e : Demand) → P d → Has (demands (image d.target) d) e → P e)
      → (d : Demand) → IsIn (wanted demands image roots) d → P d
  wanted_have P of_roots along d h = everywhere P of_roots along h.0 d (has_way d h.0 h.1)

  -- so what is wanted is kept, where a property of that kind makes sure that what is wanted is met
  pub wanted_keeps : (P : Demand → Type 0) → ((d : Demand) → Has roots d → P d)
      → ((d e : Demand) → P d → Has (demands (image d.target) d) e → P e)
      → ((d : Demand) → P d → meets (image d.target) d ≡ true)
      → KeepsDemands demands meets image (wanted demands image roots)
  wanted_keeps P of_roots along met = record {
    met = λ d h. met d (wanted_have P of_roots along d h);
    in_turn = λ d e h made.
        let place = place_in (wanted_on demands image roots h.0) d (has_way d h.0 h.1) in
        on_way e (place.0 ∷ h.0) (subst (λ (o : Option Demand). Has (demands_in demands image o) e)
        (sym place.1) made);
  }

  pub linked_where : (P : Demand → Type 0) → ((d : Demand) → Has roots d → P d)
      → ((d e : Demand) → P d → Has (demands (image d.target) d) e → P e)
      → ((d : Demand) → P d → meets (image d.target) d ≡ true)
      → IsLinked demands meets image (listed roots)
  linked_where P of_roots along met = record {
    set_ = wanted demands image roots;
    keeps = wanted_keeps P of_roots along met;
    rooted = λ d h. roots_wanted d ((sets roots d).1 h);
  }
