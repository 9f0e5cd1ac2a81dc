-- The pages of a tree are wanted, where its root is wanted as the top of a tree.
use Rattle.std.specs.Prelude.{◌≡◌, ◌≢◌, ◌⊎◌, ◌<◌, ◌-◌, ◌^◌, ℕ, suc, Bool, List, [], ◌∷◌, length, if◌then◌else◌}
use Rattle.std.proofs.Common.{inl, inr, refl, sym, subst, ◌∙◌, arith}
use Rattle.std.proofs.Math.Nat.{div-mul-le_self}
use Rattle.std.proofs.lemmas.Bool.{ne_eqb}
use Rattle.mg_base.specs.declared.geometry.TheConstants.{GREATEST_LIMIT}
use Rattle.mg_careful.specs.declared.links.Demand.{Demand}
use Rattle.mg_careful.specs.CarefulWrite.{DemandSet, Has, IsIn}
use Rattle.mg_image.specs.Form.{Pages}
use Rattle.mg_image.specs.Indexes.{AreNodes, EachPage, HasEntry, IsNode, IsTree, LevelChain, Levels, above, first_child, first_level, lowest}
use Rattle.mg_image.specs.Inventory.{inventory_page}
use Rattle.mg_image.specs.Tables.{Has as IsOneOf, LinkChain, ended, goes}
use Rattle.mg_node.specs.declared.entry.Entry.{Entry}
use Rattle.mg_node.specs.NodePage.{entries_of, level_in, right_in}
use Rattle.mg_pip.specs.PipPage.{bits}
use Rattle.mg_space.specs.Demands.{bit_demand, demand, linked, right_demands, tree_demands}
use Rattle.mg_space.specs.Taking.{region_of}
use Rattle.mg_space.specs.declared.links.TheConstants.{BIT, NODE, TREE}
use Rattle.mg_tree_overlay_laws.specs.StepLaws.{each_has, entries_some, first_child_in, first_in, has_some}
use Rattle.mg_tree_overlay_laws.specs.TreeSteps.{InTree}
use Rattle.mg_demand_laws.specs.KindLaws.{from_want}
use Rattle.mg_demand_laws.specs.Met.{has_back, has_front}
use Rattle.mg_demand_laws.specs.Wanting.{IsWanting, want_of}
use Rattle.mg_demand_laws.specs.TableTies.{demand_there}
use Rattle.mg_demand_laws.specs.NodeLinks.{tree_to}
use Rattle.mg_demand_laws.specs.NodeSteps.{WantsNode}
use Rattle.mg_demand_laws.specs.Taken.{WantsTree}

-- The law: a tree has at most so many levels as its numbers have room for, and of its root nothing is wanted as of a
-- page of a level.
abbrev pub TreesAreWanted : Type 0
TreesAreWanted = (size : ℕ) (pages : Pages) (owner root : ℕ) (levels : List (List ℕ)) (wanted : DemandSet)
    → IsWanting size pages wanted → owner < 2 ^ 32 → level_in (pages root) < 2 ^ 32
    → IsTree size pages owner root levels → IsIn wanted (want_of root TREE owner 0)
    → ((d : Demand) → IsIn wanted d → d.target ≡ root → d.what ≢ NODE)
    → WantsTree size pages owner root levels wanted

child_here : (es : List Entry) → 0 < length es → (f : Entry) × HasEntry es f × (f.child.0 ≡ first_child es)
child_here [] some = absurd (omega (arith, some))
child_here (e ∷ es) some = (e, inl refl, refl)

module _ (size : ℕ) (pages : Pages) (owner : ℕ) (wanted : DemandSet) (was : IsWanting size pages wanted)
    (small : owner < 2 ^ 32) where
  -- whatever a wanted page leads to is wanted
  linked_wanted : (n level : ℕ) → n < GREATEST_LIMIT → level < 2 ^ 32
      → ((e : Demand) → Has (linked size n NODE owner level) e → IsIn wanted e) → WantsNode size wanted n owner level
  linked_wanted n level below low all = record {
    page = all (want_of n NODE owner level) (has_front (demand n NODE owner level) (bit_demand size n)
        (want_of n NODE owner level) (demand_there n NODE owner level (omega (arith, below)) small low));
    bit = all (want_of (inventory_page size (region_of size n)) BIT n 0)
        (has_back (demand n NODE owner level) (bit_demand size n)
        (want_of (inventory_page size (region_of size n)) BIT n 0)
        (demand_there (inventory_page size (region_of size n)) BIT n 0
        (let whole = div-mul-le_self n (bits size) in omega (arith, whole, below)) (omega (arith, below)) (omega arith)));
  }

  node_has : (n level : ℕ) → WantsNode size wanted n owner level → (e : Demand)
      → Has (right_demands size (pages n) owner) e ⊎ Has (tree_demands size (pages n) owner) e → IsIn wanted e
  node_has n level wants e (inl h) = was.keeps.in_turn (want_of n NODE owner level) e wants.page
      (from_want size pages wanted was (pages n) (was.whole n) (want_of n NODE owner level) (want_of n NODE owner level)
      e refl (has_front (right_demands size (pages n) owner) (tree_demands size (pages n) owner) e h))
  node_has n level wants e (inr h) = was.keeps.in_turn (want_of n NODE owner level) e wants.page
      (from_want size pages wanted was (pages n) (was.whole n) (want_of n NODE owner level) (want_of n NODE owner level)
      e refl (has_back (right_demands size (pages n) owner) (tree_demands size (pages n) owner) e h))

  to_right : (page : List ℕ) (level : ℕ) → level_in page ≡ level → right_in page ≢ 0 → (e : Demand)
      → Has (linked size (right_in page) NODE owner level) e → Has (right_demands size page owner) e
  to_right page level on some e h =
      subst (λ (b : Bool). Has (if b then [] else linked size (right_in page) NODE owner (level_in page)) e)
      (sym (ne_eqb (right_in page) 0 some))
      (subst (λ (k : ℕ). Has (linked size (right_in page) NODE owner k) e) (sym on) h)

  -- the pages of a level, where its first one is wanted
  chain_wanted : (k first : ℕ) (ns below : List ℕ) → k < 2 ^ 32 → LinkChain (λ j. right_in (pages j)) first ns
      → EachPage (IsNode size pages owner k below) ns → (first ≢ 0 → WantsNode size wanted first owner k)
      → (m : ℕ) → IsOneOf ns m → WantsNode size wanted m owner k
  chain_wanted k first ns below low ended each wants m none = absurd none
  chain_wanted k first ns below low (goes n ms some more) each wants m (inl same) =
      subst (λ (i : ℕ). WantsNode size wanted i owner k) (sym same) (wants some)
  chain_wanted k first ns below low (goes n ms some more) each wants m (inr later) =
      chain_wanted k (right_in (pages n)) ms below low more each.1 next m later
    where
      next : right_in (pages n) ≢ 0 → WantsNode size wanted (right_in (pages n)) owner k
      next apart = linked_wanted (right_in (pages n)) k
          (each_has (IsNode size pages owner k below) ms (right_in (pages n))
          (first_in (λ i. right_in (pages i)) (right_in (pages n)) ms more apart) each.1).wanted.below low
          (λ e h. node_has n k (wants some) e (inl (to_right (pages n) k each.0.on_level apart e h)))

  -- a first child, where the children of its page are wanted
  child_wanted : (k n : ℕ) (below : List ℕ) → k < 2 ^ 32 → IsNode size pages owner (suc k) below n
      → (c : ℕ) → c ≡ first_child (entries_of (pages n)) → c < GREATEST_LIMIT
      → ((e : Demand) → Has (tree_demands size (pages n) owner) e → IsIn wanted e) → WantsNode size wanted c owner k
  child_wanted k n below low node c is limit all =
      let it = child_here (entries_of (pages n)) (entries_some size pages owner (suc k) below n (omega arith) node) in
      let up = node.on_level in
      linked_wanted c k limit low (λ e h. all e (tree_to size (pages n) owner (omega (arith, up)) it.0 it.1 e
      (subst (λ (j : ℕ). Has (linked size j NODE owner (level_in (pages n) - 1)) e) (is ∙ sym it.2)
      (subst (λ (j : ℕ). Has (linked size c NODE owner j) e)
      (let one : k ≡ level_in (pages n) - 1 = omega (arith, up) in one) h))))

  -- the levels from a page on, where it is wanted on its level
  levels_wanted : (n : ℕ) (levels : List (List ℕ)) (k : ℕ) → length levels ≡ suc k → k < 2 ^ 32 → n ≢ 0
      → Levels pages n levels → AreNodes size pages owner levels → WantsNode size wanted n owner k
      → (m : ℕ) → InTree levels m → WantsNode size wanted m owner (level_in (pages m))
  levels_wanted n levels k len low some (lowest i level chain) nodes wants m (inl has) =
      let on = (each_has (IsNode size pages owner 0 []) level m has nodes.0).on_level in
      let zero_ : 0 ≡ k = omega (arith, len) in
      subst (λ (j : ℕ). WantsNode size wanted m owner j) (sym on)
      (chain_wanted 0 n level [] (omega arith) chain nodes.0
      (λ apart. subst (λ (j : ℕ). WantsNode size wanted n owner j) (sym zero_) wants) m has)
  levels_wanted n levels k len low some (lowest i level chain) nodes wants m (inr none) = absurd none
  levels_wanted n levels k len low some (above i level next below chain more) nodes wants m (inl has) =
      let on = (each_has (IsNode size pages owner (suc (length below)) next) level m has nodes.0).on_level in
      let one : suc (length below) ≡ k = omega (arith, len) in
      subst (λ (j : ℕ). WantsNode size wanted m owner j) (sym on)
      (subst (λ (j : ℕ). WantsNode size wanted m owner j) (sym one)
      (chain_wanted k n level next low chain
      (subst (λ (j : ℕ). EachPage (IsNode size pages owner j next) level) one nodes.0) (λ apart. wants) m has))
  levels_wanted n levels k len low some (above i level next below chain more) nodes wants m (inr later) =
      levels_wanted (first_child (entries_of (pages n))) (next ∷ below) (length below) refl (omega (arith, len, low))
      child_some more nodes.1 child m later
    where
      node : IsNode size pages owner (suc (length below)) next n
      node = each_has (IsNode size pages owner (suc (length below)) next) level n
          (first_in (λ j. right_in (pages j)) n level chain some) nodes.0

      there : IsOneOf next (first_child (entries_of (pages n)))
      there = first_child_in size pages owner (suc (length below)) next n (omega arith) node

      child_some : first_child (entries_of (pages n)) ≢ 0
      child_some = some_of (first_child (entries_of (pages n))) (next ∷ below) more there
        where
          some_of : (c : ℕ) (levels : List (List ℕ)) → Levels pages c levels → IsOneOf (first_level levels) c → c ≢ 0
          some_of c levels (lowest j top chain_) has = has_some (λ q. right_in (pages q)) c top c chain_ has
          some_of c levels (above j top under lower chain_ rest) has =
              has_some (λ q. right_in (pages q)) c top c chain_ has

      child : WantsNode size wanted (first_child (entries_of (pages n))) owner (length below)
      child = child_wanted (length below) n next (omega (arith, len, low)) node (first_child (entries_of (pages n)))
          refl (each_has (IsNode size pages owner (length below) (first_level below)) next
          (first_child (entries_of (pages n))) there nodes.1.0).wanted.below
          (λ e h. node_has n k wants e (inr h))

only_root : (pages : Pages) (root : ℕ) (ns : List ℕ) (n : ℕ) → LevelChain pages root ns → right_in (pages root) ≡ 0
    → IsOneOf ns n → n ≡ root
only_root pages root ns n ended zero_ has = absurd has
only_root pages root ns n (goes m ms some more) zero_ (inl same) = same
only_root pages root ns n (goes m ms some more) zero_ (inr later) =
    absurd (none (right_in (pages m)) ms more zero_ later)
  where
    none : (k : ℕ) (ls : List ℕ) → LevelChain pages k ls → k ≡ 0 → IsOneOf ls n → ⊥
    none k ls ended zero_ has = has
    none k ls (goes i is some rest) zero_ has = some zero_

module _ (size : ℕ) (pages : Pages) (owner root : ℕ) (wanted : DemandSet) (was : IsWanting size pages wanted)
    (small : owner < 2 ^ 32) (low : level_in (pages root) < 2 ^ 32) (top : IsIn wanted (want_of root TREE owner 0))
    (bare : right_in (pages root) ≡ 0) (some : root ≢ 0) where
  root_has : (e : Demand) → Has (tree_demands size (pages root) owner) e → IsIn wanted e
  root_has e h = was.keeps.in_turn (want_of root TREE owner 0) e top
      (from_want size pages wanted was (pages root) (was.whole root) (want_of root TREE owner 0)
      (want_of root TREE owner 0) e refl h)

  below_root : (levels : List (List ℕ)) → Levels pages root levels → AreNodes size pages owner levels → (n : ℕ)
      → InTree levels n → n ≢ root → WantsNode size wanted n owner (level_in (pages n))
  below_root levels (lowest i level chain) nodes n (inl has) apart =
      absurd (apart (only_root pages root level n chain bare has))
  below_root levels (lowest i level chain) nodes n (inr none) apart = absurd none
  below_root levels (above i level next below chain more) nodes n (inl has) apart =
      absurd (apart (only_root pages root level n chain bare has))
  below_root levels (above i level next below chain more) nodes n (inr later) apart =
      levels_wanted size pages owner wanted was small (first_child (entries_of (pages root))) (next ∷ below)
      (length below) refl (omega (arith, level_is, low)) child_some more nodes.1 child n later
    where
      node : IsNode size pages owner (suc (length below)) next root
      node = each_has (IsNode size pages owner (suc (length below)) next) level root
          (first_in (λ j. right_in (pages j)) root level chain some) nodes.0

      level_is : level_in (pages root) ≡ suc (length below)
      level_is = node.on_level

      there : IsOneOf next (first_child (entries_of (pages root)))
      there = first_child_in size pages owner (suc (length below)) next root (omega arith) node

      child_some : first_child (entries_of (pages root)) ≢ 0
      child_some = some_of (first_child (entries_of (pages root))) (next ∷ below) more there
        where
          some_of : (c : ℕ) (levels : List (List ℕ)) → Levels pages c levels → IsOneOf (first_level levels) c → c ≢ 0
          some_of c levels (lowest j top_ chain_) has = has_some (λ q. right_in (pages q)) c top_ c chain_ has
          some_of c levels (above j top_ under lower chain_ rest) has =
              has_some (λ q. right_in (pages q)) c top_ c chain_ has

      child : WantsNode size wanted (first_child (entries_of (pages root))) owner (length below)
      child = child_wanted size pages owner wanted was small (length below) root next (omega (arith, level_is, low))
          node (first_child (entries_of (pages root))) refl
          (each_has (IsNode size pages owner (length below) (first_level below)) next
          (first_child (entries_of (pages root))) there nodes.1.0).wanted.below root_has

pub trees_are_wanted : TreesAreWanted
trees_are_wanted size pages owner root levels wanted was small low tree top alone = record {
  top = top;
  alone = alone;
  below = below_root size pages owner root wanted was small low top tree.root_right tree.rooted levels
      tree.levels_from tree.nodes;
}
