-- The children of an index page, as its entries say them, and as it demands them.
use Rattle.std.specs.Prelude.{◌≡◌, ◌⊎◌, ◌<◌, ◌-◌, ◌++◌, ◌==◌, ℕ, zero, suc, Bool, true, false, List, [], ◌∷◌, if◌then◌else◌}
use Rattle.std.proofs.Common.{inl, inr, refl, sym, subst}
use Rattle.std.proofs.lemmas.Bool.{lt-ltb, ltb-true}
use Rattle.mg_careful.specs.declared.links.Demand.{Demand}
use Rattle.mg_careful.specs.Precedence.{Orders}
use Rattle.mg_careful.specs.CarefulWrite.{DemandSet, Has}
use Rattle.mg_demand_laws.specs.CellDemands.{IsBehind}
use Rattle.mg_image.specs.Indexes.{HasEntry}
use Rattle.mg_node.specs.declared.entry.Entry.{Entry}
use Rattle.mg_node.specs.NodePage.{count_in, entries_of, entry_at, first_entries, is_inner, level_in, place_of, right_in}
use Rattle.mg_space.specs.Demands.{bit_demand, child_demands, demand, linked, right_demands, tree_demands}
use Rattle.mg_space.specs.Taking.{region_of}
use Rattle.mg_space.specs.declared.links.TheConstants.{BIT, NODE}
use Rattle.mg_image.specs.Inventory.{inventory_page}
use Rattle.mg_demand_laws.specs.Met.{has_back, has_either, has_front, is_demand}
use Rattle.mg_demand_laws.specs.NodeSteps.{IsNodeFirst, LeadsOn, WantsNode}

-- ---- entries of a list

pub entry_either : (es fs : List Entry) (e : Entry) → HasEntry (es ++ fs) e → HasEntry es e ⊎ HasEntry fs e
entry_either [] fs e h = inr h
entry_either (x ∷ es) fs e (inl same) = inl (inl same)
entry_either (x ∷ es) fs e (inr h) = elim (entry_either es fs e h) [
  | inl there ↦ inl (inr there)
  | inr there ↦ inr there
]

pub entry_front : (es fs : List Entry) (e : Entry) → HasEntry es e → HasEntry (es ++ fs) e
entry_front [] fs e h = absurd h
entry_front (x ∷ es) fs e (inl same) = inl same
entry_front (x ∷ es) fs e (inr h) = inr (entry_front es fs e h)

pub entry_back : (es fs : List Entry) (e : Entry) → HasEntry fs e → HasEntry (es ++ fs) e
entry_back [] fs e h = h
entry_back (x ∷ es) fs e h = inr (entry_back es fs e h)

-- ---- children

-- a child that a page names by an entry, on a level
abbrev pub child_by : ℕ → ℕ → Entry → ℕ → List Demand
child_by size owner f level = linked size f.child.0 NODE owner level

module _ (size : ℕ) (page : List ℕ) (owner : ℕ) where
  abbrev below : ℕ
  below = level_in page - 1

  -- a demand of the first entries is that of one of them
  first_from : (k : ℕ) → is_inner page ≡ true → (e : Demand) → Has (child_demands size page owner k) e
      → (f : Entry) × HasEntry (first_entries page k) f × Has (child_by size owner f below) e
  first_from zero inner e h = absurd h
  first_from (suc k) inner e h = elim (has_either (child_demands size page owner k) _ e h) [
    | inl there ↦
        let it = first_from k inner e there in
        (it.0, entry_front (first_entries page k) _ it.0 it.1, it.2)
    | inr here ↦ (
      entry_at (is_inner page) page (place_of page k),
      entry_back (first_entries page k) _ (entry_at (is_inner page) page (place_of page k)) (inl refl),
      subst (λ (b : Bool). Has (child_by size owner (entry_at b page (place_of page k)) below) e) (sym inner) here,
    )
  ]

  -- and the other way round
  first_to : (k : ℕ) → is_inner page ≡ true → (f : Entry) → HasEntry (first_entries page k) f → (e : Demand)
      → Has (child_by size owner f below) e → Has (child_demands size page owner k) e
  first_to zero inner f h e made = absurd h
  first_to (suc k) inner f h e made = elim (entry_either (first_entries page k) _ f h) [
    | inl there ↦ has_front (child_demands size page owner k) _ e (first_to k inner f there e made)
    | inr here ↦ elim here [
      | inl same ↦ has_back (child_demands size page owner k) _ e
          (subst (λ (b : Bool). Has (child_by size owner (entry_at b page (place_of page k)) below) e) inner
          (subst (λ (x : Entry). Has (child_by size owner x below) e) same made))
      | inr none ↦ absurd none
    ]
  ]

  -- what an index page demands as the top of a tree: its children
  pub tree_from : (e : Demand) → Has (tree_demands size page owner) e
      → (f : Entry) × (0 < level_in page) × HasEntry (entries_of page) f × Has (child_by size owner f below) e
  unfolding entries_of
  tree_from e h = at (is_inner page) refl h
    where
      at : (b : Bool) → is_inner page ≡ b → Has (if b then child_demands size page owner (count_in page) else []) e
          → (f : Entry) × (0 < level_in page) × HasEntry (entries_of page) f × Has (child_by size owner f below) e
      at true inner made =
          let it = first_from (count_in page) inner e made in
          (it.0, ltb-true 0 (level_in page) inner, it.1, it.2)
      at false leaf made = absurd made

  pub tree_to : 0 < level_in page → (f : Entry) → HasEntry (entries_of page) f → (e : Demand)
      → Has (child_by size owner f below) e → Has (tree_demands size page owner) e
  unfolding entries_of
  tree_to more f h e made =
      subst (λ (b : Bool). Has (if b then child_demands size page owner (count_in page) else []) e)
      (sym (lt-ltb 0 (level_in page) more)) (first_to (count_in page) (lt-ltb 0 (level_in page) more) f h e made)

-- ---- what a page newly leads to

-- a wanted page of a level, ordered before another with its bit, comes before that
pub node_behind : (size : ℕ) (orders : Orders) (on_disk wanted : DemandSet) (m owner level n : ℕ)
    → WantsNode size wanted m owner level → IsNodeFirst size orders m n → (e : Demand)
    → Has (linked size m NODE owner level) e → IsBehind orders on_disk wanted n e
node_behind size orders on_disk wanted m owner level n wants first e h =
    elim (has_either (demand m NODE owner level) (bit_demand size m) e h) [
      | inl x ↦ subst (IsBehind orders on_disk wanted n) (sym (is_demand m NODE owner level e x))
          (record { is_wanted = wants.page; is_first = inr (inl first.page) })
      | inr y ↦ subst (IsBehind orders on_disk wanted n)
          (sym (is_demand (inventory_page size (region_of size m)) BIT m 0 e y))
          (record { is_wanted = wants.bit; is_first = inr (inl first.bit) })
    ]

module _ (size : ℕ) (old new : List ℕ) (n owner : ℕ) (orders : Orders) (on_disk wanted : DemandSet) where
  -- the right neighbour of a page comes before another page
  abbrev pub RightIsBehind : Type 0
  RightIsBehind = (e : Demand) → Has (linked size (right_in new) NODE owner (level_in new)) e
      → IsBehind orders on_disk wanted n e

  -- and a child
  abbrev pub ChildIsBehind : Entry → Type 0
  ChildIsBehind f = (e : Demand) → Has (child_by size owner f (level_in new - 1)) e
      → IsBehind orders on_disk wanted n e

  -- A page of the same level leads on as it did, but for what comes before it.
  pub leads_on : level_in new ≡ level_in old → (right_in new ≡ right_in old) ⊎ RightIsBehind
      → ((f : Entry) → 0 < level_in new → HasEntry (entries_of new) f → HasEntry (entries_of old) f ⊎ ChildIsBehind f)
      → LeadsOn size old new n owner orders on_disk wanted
  leads_on level right children = record {
    right = λ e h. elim right [
      | inl same ↦ inl (subst (λ (l : ℕ). Has (if right_in old == 0 then [] else linked size (right_in old) NODE owner l) e)
          level (subst (λ (m : ℕ). Has (if m == 0 then [] else linked size m NODE owner (level_in new)) e) same h))
      | inr behind ↦ inr (behind e (some (right_in new == 0) e h))
    ];
    children = λ e h.
        let it = tree_from size new owner e h in
        elim (children it.0 it.1 it.2) [
          | inl stood ↦ inl (tree_to size old owner (subst (λ (l : ℕ). 0 < l) level it.1) it.0 stood e
              (subst (λ (l : ℕ). Has (child_by size owner it.0 (l - 1)) e) level it.3))
          | inr behind ↦ inr (behind e it.3)
        ];
  }
    where
      some : (b : Bool) (e : Demand) → Has (if b then [] else linked size (right_in new) NODE owner (level_in new)) e
          → Has (linked size (right_in new) NODE owner (level_in new)) e
      some true e h = absurd h
      some false e h = h

  -- A page leads to nothing but what comes before it.
  pub leads_anew : (right_in new ≡ 0) ⊎ RightIsBehind
      → ((f : Entry) → 0 < level_in new → HasEntry (entries_of new) f → ChildIsBehind f)
      → (e : Demand) → Has (right_demands size new owner ++ tree_demands size new owner) e
      → IsBehind orders on_disk wanted n e
  leads_anew right children e h = elim (has_either (right_demands size new owner) (tree_demands size new owner) e h) [
    | inl x ↦ elim right [
      | inl none ↦ absurd (subst (λ (m : ℕ). Has (if m == 0 then [] else linked size m NODE owner (level_in new)) e) none x)
      | inr behind ↦ behind e (some (right_in new == 0) x)
    ]
    | inr y ↦ let it = tree_from size new owner e y in children it.0 it.1 it.2 e it.3
  ]
    where
      some : (b : Bool) → Has (if b then [] else linked size (right_in new) NODE owner (level_in new)) e
          → Has (linked size (right_in new) NODE owner (level_in new)) e
      some true there = absurd there
      some false there = there
