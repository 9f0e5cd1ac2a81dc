-- What of a tree's pages, and of those that were taken for it, stays from step to step.
use Rattle.std.specs.Prelude.{◌≡◌, ◌≢◌, ◌++◌, ℕ, Bool, true, List, ◌∷◌, length}
use Rattle.std.proofs.Common.{inl, inr, sym, subst, ap, ◌∙◌}
use Rattle.mg_base.specs.Checks.{PassesAll}
use Rattle.mg_base.specs.Geometry.{is_page_size}
use Rattle.mg_btree.specs.SearchLaws.{in_node}
use Rattle.mg_btree.specs.TakeLaws.{unused_before}
use Rattle.mg_careful.specs.declared.links.Demand.{Demand}
use Rattle.mg_careful.specs.Precedence.{Orders}
use Rattle.mg_careful.specs.CarefulWrite.{DemandSet, Has, IsIn, either, listed}
use Rattle.mg_image.specs.Form.{Pages}
use Rattle.mg_image.specs.Indexes.{IsTree, Levels, above, first_child, lowest}
use Rattle.mg_image.specs.Inventory.{inventory_page}
use Rattle.mg_node.specs.NodePage.{entries_of, level_in, node_checks, right_in}
use Rattle.mg_space.specs.Taking.{region_of}
use Rattle.mg_space.specs.TakingLaws.{own_region}
use Rattle.mg_space.specs.declared.links.TheConstants.{BIT, NODE, TREE}
use Rattle.mg_tree_overlay_laws.specs.StepLaws.{has_some}
use Rattle.mg_tree_overlay_laws.specs.TreeBatches.{IsNoInventory}
use Rattle.mg_tree_overlay_laws.specs.TreeSteps.{InTree, StaysUsed}
use Rattle.mg_demand_laws.specs.Met.{has_back, has_either, has_front, in_listed, of_listed}
use Rattle.mg_demand_laws.specs.Wanting.{Pays, want_of}
use Rattle.mg_demand_laws.specs.WantingLaws.{either_cases, in_one, in_other, two_listed}
use Rattle.mg_demand_laws.specs.NodeSteps.{IsNodeOf, WantsNode}
use Rattle.mg_demand_laws.specs.RowTies.{node_on}
use Rattle.mg_demand_laws.specs.Taken.{IsNew, IsReady, PaysTree, StandsWanted, WantsTree}

-- ---- pages of a tree

-- the header page is none
pub tree_some : (pages : Pages) (n : ℕ) (levels : List (List ℕ)) (m : ℕ) → Levels pages n levels → InTree levels m
    → m ≢ 0
tree_some pages n levels m (lowest k level chain) (inl has) = has_some (λ j. right_in (pages j)) k level m chain has
tree_some pages n levels m (lowest k level chain) (inr none) = absurd none
tree_some pages n levels m (above k level next below chain more) (inl has) =
    has_some (λ j. right_in (pages j)) k level m chain has
tree_some pages n levels m (above k level next below chain more) (inr later) =
    tree_some pages (first_child (entries_of (pages k))) (next ∷ below) m more later

pub off_pages : (size n : ℕ) → is_page_size size ≡ true → IsNoInventory size n → (region : ℕ)
    → inventory_page size region ≢ n
off_pages size n lawful none region same = none (inventory_page size region)
    (ap (λ (r : ℕ). inventory_page size r) (own_region size region lawful) ∙ same)

pub tree_fields : (size : ℕ) (pages : Pages) (owner root : ℕ) (levels : List (List ℕ)) (n : ℕ)
    → IsTree size pages owner root levels → InTree levels n → PassesAll (node_checks (pages n) n owner)
tree_fields size pages owner root levels n tree placed = (in_node size pages owner levels n tree.nodes placed).1.wanted.fields

pub node_of_tree : (size : ℕ) (old new : Pages) (owner root : ℕ) (levels : List (List ℕ)) (wanted : DemandSet) (n : ℕ)
    → is_page_size size ≡ true → StandsWanted size old owner root levels wanted → InTree levels n
    → length (new n) ≡ size → IsNodeOf size old new n owner
node_of_tree size old new owner root levels wanted n lawful stands placed len = record {
  passes = tree_fields size old owner root levels n stands.tree placed;
  len = len;
  off_header = tree_some old root levels n stands.tree.levels_from placed;
  off_inventory = off_pages size n lawful (stands.no_inventory n placed);
}

-- ---- what is wanted of them

-- more is wanted, but nothing of the root as a page of a level
pub wants_on : (size : ℕ) (old new : Pages) (owner root : ℕ) (levels : List (List ℕ)) (wanted more : DemandSet)
    → ((n : ℕ) → InTree levels n → n ≢ root → level_in (new n) ≡ level_in (old n))
    → ((d : Demand) → IsIn more d → d.target ≡ root → d.what ≢ NODE)
    → WantsTree size old owner root levels wanted → WantsTree size new owner root levels (either wanted more)
wants_on size old new owner root levels wanted more same none wants = record {
  top = in_one wanted more (want_of root TREE owner 0) wants.top;
  alone = λ d h at. elim (either_cases wanted more d h) [
    | inl x ↦ wants.alone d x at
    | inr y ↦ none d y at
  ];
  below = λ n placed other. subst (λ (k : ℕ). WantsNode size (either wanted more) n owner k)
      (sym (same n placed other)) (node_on size wanted more n owner (level_in (old n)) (wants.below n placed other));
}

-- the same is wanted, told by another set
pub stands_as : (size : ℕ) (pages : Pages) (owner root : ℕ) (levels : List (List ℕ)) (one other : DemandSet)
    → ((d : Demand) → IsIn one d → IsIn other d) → ((d : Demand) → IsIn other d → IsIn one d)
    → StandsWanted size pages owner root levels one → StandsWanted size pages owner root levels other
stands_as size pages owner root levels one other to from stands = record {
  tree = stands.tree;
  no_inventory = stands.no_inventory;
  wants = record {
    top = to (want_of root TREE owner 0) stands.wants.top;
    alone = λ d h at. stands.wants.alone d (from d h) at;
    below = λ n placed apart. record {
      page = to (want_of n NODE owner (level_in (pages n))) (stands.wants.below n placed apart).page;
      bit = to (want_of (inventory_page size (region_of size n)) BIT n 0) (stands.wants.below n placed apart).bit;
    };
  };
}

-- ---- what was taken is ready still

pub ready_on : (size : ℕ) (old new : Pages) (levels ends : List (List ℕ)) (wanted more : DemandSet) (n : ℕ)
    → StaysUsed size old new → (InTree levels n → InTree ends n)
    → ((d : Demand) → IsIn more d → (InTree ends n → ⊥) → d.target ≢ n)
    → IsReady size old levels wanted n → IsReady size new ends (either wanted more) n
ready_on size old new levels ends wanted more n used wider none is = record {
  off_inventory = is.off_inventory;
  used = used n is.used;
  bit = in_one wanted more (want_of (inventory_page size (region_of size n)) BIT n 0) is.bit;
  unwanted = λ out d h. elim (either_cases wanted more d h) [
    | inl x ↦ is.unwanted (λ placed. out (wider placed)) d x
    | inr y ↦ none d y out
  ];
}

-- what is new behind a step was new before it
pub new_before : (size : ℕ) (old new : Pages) (taken : List ℕ) (d : Demand) → StaysUsed size old new
    → IsNew size new taken d → IsNew size old taken d
new_before size old new taken d used (inl bit) = inl bit
new_before size old new taken d used (inr (node, inl one)) = inr (node, inl one)
new_before size old new taken d used (inr (node, inr free)) =
    inr (node, inr (unused_before size old new d.target used free))

-- ---- a step, and those behind it

module _ (wanted : DemandSet) (ds es : List Demand) where
  pub to_lists : (d : Demand) → IsIn (either (either wanted (listed ds)) (listed es)) d
      → IsIn (either wanted (listed (ds ++ es))) d
  to_lists d h = elim (either_cases (either wanted (listed ds)) (listed es) d h) [
    | inl x ↦ elim (either_cases wanted (listed ds) d x) [
      | inl w ↦ in_one wanted (listed (ds ++ es)) d w
      | inr y ↦ in_other wanted (listed (ds ++ es)) d (in_listed (ds ++ es) d (has_front ds es d (of_listed ds d y)))
    ]
    | inr z ↦ in_other wanted (listed (ds ++ es)) d (in_listed (ds ++ es) d (has_back ds es d (of_listed es d z)))
  ]

  pub from_lists : (d : Demand) → IsIn (either wanted (listed (ds ++ es))) d
      → IsIn (either (either wanted (listed ds)) (listed es)) d
  from_lists d h = elim (either_cases wanted (listed (ds ++ es)) d h) [
    | inl w ↦ in_one (either wanted (listed ds)) (listed es) d (in_one wanted (listed ds) d w)
    | inr x ↦ elim (has_either ds es d (of_listed (ds ++ es) d x)) [
      | inl y ↦ in_one (either wanted (listed ds)) (listed es) d (in_other wanted (listed ds) d (in_listed ds d y))
      | inr z ↦ in_other (either wanted (listed ds)) (listed es) d (in_listed es d z)
    ]
  ]

pub then_tree : (size : ℕ) (old mid new : Pages) (owner root : ℕ) (taken wider : List ℕ) (ends : List (List ℕ))
    (orders : Orders) (settled : ℕ → Bool) (on_disk wanted : DemandSet) (ds : List Demand)
    → Pays size old mid orders settled on_disk wanted (listed ds)
    → ((d : Demand) → Has ds d → IsNew size old taken d)
    → ((d : Demand) → IsNew size mid wider d → IsNew size old taken d) → StaysUsed size old mid
    → PaysTree size mid new owner root wider ends orders settled on_disk (either wanted (listed ds))
    → PaysTree size old new owner root taken ends orders settled on_disk wanted
then_tree size old mid new owner root taken wider ends orders settled on_disk wanted ds first own before used
    rest = record {
      more = ds ++ rest.more;
      pays = two_listed size old mid new orders settled on_disk wanted ds rest.more first rest.pays;
      stands = stands_as size new owner root ends (either (either wanted (listed ds)) (listed rest.more))
          (either wanted (listed (ds ++ rest.more))) (to_lists wanted ds rest.more) (from_lists wanted ds rest.more)
          rest.stands;
      used = λ n is. rest.used n (used n is);
      own = λ d h. elim (has_either ds rest.more d h) [
        | inl x ↦ own d x
        | inr y ↦ before d (rest.own d y)
      ];
    }
