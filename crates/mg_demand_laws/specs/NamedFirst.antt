-- What a new index page names comes before it, by the orders of its row.
use Rattle.std.specs.Prelude.{◌≡◌, ◌≢◌, ◌⊎◌, ◌<◌, ◌-◌, ◌++◌, ◌==◌, ℕ, Bool, true, List, [], ◌∷◌, map, if◌then◌else◌}
use Rattle.std.proofs.Common.{inl, inr, refl, sym, subst, ap}
use Rattle.std.proofs.lemmas.Bool.{cases_eq, lt-ltb, ne_eqb}
use Rattle.mg_base.specs.declared.numbers.PageNo.{PageNo}
use Rattle.mg_btree.specs.Halves.{names_in}
use Rattle.mg_btree.specs.Ordering.{orders_for, orders_to}
use Rattle.mg_careful.specs.Precedence.{Orders}
use Rattle.mg_careful.specs.declared.links.Demand.{Demand}
use Rattle.mg_careful.specs.CarefulWrite.{DemandSet, Has, IsIn}
use Rattle.mg_demand_laws.specs.CellDemands.{IsBehind}
use Rattle.mg_image.specs.Indexes.{HasEntry}
use Rattle.mg_image.specs.Inventory.{inventory_page}
use Rattle.mg_node.specs.declared.entry.Entry.{Entry}
use Rattle.mg_node.specs.NodePage.{entries_of, is_inner, level_in, right_in}
use Rattle.mg_pool.specs.Batch.{lists}
use Rattle.mg_space.specs.Demands.{bit_demand, demand, linked, node_demands, right_demands, tree_demands}
use Rattle.mg_space.specs.Taking.{region_of}
use Rattle.mg_space.specs.declared.links.TheConstants.{BIT, NODE}
use Rattle.mg_demand_laws.specs.Met.{has_either, is_demand}
use Rattle.mg_demand_laws.specs.Lists.{lists_later, lists_sooner}
use Rattle.mg_demand_laws.specs.NodeLinks.{tree_from}
use Rattle.mg_demand_laws.specs.NodeSteps.{IsNodeFirst}
use Rattle.mg_demand_laws.specs.RowTies.{to_first}

-- a page is one of these
abbrev pub IsNamed : List PageNo → ℕ → Type 0
IsNamed [] k = ⊥
IsNamed (n ∷ ns) k = (k ≡ n.0) ⊎ IsNamed ns k

-- what is named is ordered before the page that names it
pub name_first : (size : ℕ) (orders : Orders) (names : List PageNo) (later : ℕ)
    → ((a b : ℕ) → lists (orders_for size names later) a b ≡ true → orders a b ≡ true)
    → (k : ℕ) → IsNamed names k → IsNodeFirst size orders k later
name_first size orders [] later have k none = absurd none
name_first size orders (n ∷ ns) later have k (inl same) = subst (λ (m : ℕ). IsNodeFirst size orders m later) (sym same)
    (to_first size orders n.0 later (λ a b is. have a b
    (lists_sooner (orders_to size n.0 later) (orders_for size ns later) a b is)))
name_first size orders (n ∷ ns) later have k (inr more) = name_first size orders ns later
    (λ a b is. have a b (lists_later (orders_to size n.0 later) (orders_for size ns later) a b is)) k more

named_front : (ms ns : List PageNo) (k : ℕ) → IsNamed ms k → IsNamed (ms ++ ns) k
named_front [] ns k none = absurd none
named_front (m ∷ ms) ns k (inl same) = inl same
named_front (m ∷ ms) ns k (inr more) = inr (named_front ms ns k more)

named_back : (ms ns : List PageNo) (k : ℕ) → IsNamed ns k → IsNamed (ms ++ ns) k
named_back [] ns k is = is
named_back (m ∷ ms) ns k is = inr (named_back ms ns k is)

child_of : (es : List Entry) (f : Entry) → HasEntry es f → IsNamed (map (λ (e : Entry). e.child) es) f.child.0
child_of [] f none = absurd none
child_of (e ∷ es) f (inl same) = inl (ap (λ (x : Entry). x.child.0) same)
child_of (e ∷ es) f (inr more) = inr (child_of es f more)

abbrev rights : List ℕ → List PageNo
rights page = if right_in page == 0 then [] else (record { 0 = right_in page } ∷ [])

abbrev children : List ℕ → List PageNo
children page = if is_inner page then map (λ (e : Entry). e.child) (entries_of page) else []

-- an index page names its right neighbour, and its children
pub right_named : (page : List ℕ) → right_in page ≢ 0 → IsNamed (names_in page) (right_in page)
right_named page some = named_front (rights page) (children page) (right_in page)
    (subst (λ (b : Bool). IsNamed (if b then [] else (record { 0 = right_in page } ∷ [])) (right_in page))
    (sym (ne_eqb (right_in page) 0 some)) (inl refl))

pub child_named : (page : List ℕ) (f : Entry) → 0 < level_in page → HasEntry (entries_of page) f
    → IsNamed (names_in page) f.child.0
child_named page f inner has = named_back (rights page) (children page) f.child.0
    (subst (λ (b : Bool). IsNamed (if b then map (λ (e : Entry). e.child) (entries_of page) else []) f.child.0)
    (sym (lt-ltb 0 (level_in page) inner)) (child_of (entries_of page) f has))

-- a page that is ordered before another one, with its bit
pub linked_first : (size : ℕ) (orders : Orders) (on_disk : DemandSet) (m owner level later : ℕ)
    → IsNodeFirst size orders m later → (e : Demand) → Has (linked size m NODE owner level) e
    → (e.target ≡ later) ⊎ ((orders e.target later ≡ true) ⊎ IsIn on_disk e)
linked_first size orders on_disk m owner level later first e h =
    elim (has_either (demand m NODE owner level) (bit_demand size m) e h) [
      | inl x ↦ inr (inl (subst (λ (k : ℕ). orders k later ≡ true)
          (sym (ap (λ (d : Demand). d.target) (is_demand m NODE owner level e x))) first.page))
      | inr y ↦ inr (inl (subst (λ (k : ℕ). orders k later ≡ true)
          (sym (ap (λ (d : Demand). d.target)
          (is_demand (inventory_page size (region_of size m)) BIT m 0 e y))) first.bit))
    ]

pub some_right : (size : ℕ) (page : List ℕ) (owner : ℕ) (e : Demand) → Has (right_demands size page owner) e
    → (right_in page ≢ 0) × Has (linked size (right_in page) NODE owner (level_in page)) e
some_right size page owner e h = at (cases_eq (right_in page) 0)
  where
    at : (right_in page ≡ 0) ⊎ (right_in page ≢ 0)
        → (right_in page ≢ 0) × Has (linked size (right_in page) NODE owner (level_in page)) e
    at (inl none) = absurd (subst (λ (m : ℕ). Has (if m == 0 then []
        else linked size m NODE owner (level_in page)) e) none h)
    at (inr some) = (
      some,
      subst (λ (b : Bool). Has (if b then []
          else linked size (right_in page) NODE owner (level_in page)) e) (ne_eqb (right_in page) 0 some) h,
    )

-- a page that leads to nothing but what is wanted, and has the orders of its names
module _ (size : ℕ) (orders : Orders) (on_disk wanted : DemandSet) (page : List ℕ) (n owner : ℕ)
    (have : (a b : ℕ) → lists (orders_for size (names_in page) n) a b ≡ true → orders a b ≡ true) where
  pub right_behind : ((e : Demand) → Has (right_demands size page owner) e → IsIn wanted e)
      → (e : Demand) → Has (right_demands size page owner) e → IsBehind orders on_disk wanted n e
  right_behind wants e h =
      let it = some_right size page owner e h in
      record {
        is_wanted = wants e h;
        is_first = linked_first size orders on_disk (right_in page) owner (level_in page) n
            (name_first size orders (names_in page) n have (right_in page) (right_named page it.0)) e it.1;
      }

  pub children_behind : ((e : Demand) → Has (tree_demands size page owner) e → IsIn wanted e)
      → (e : Demand) → Has (tree_demands size page owner) e → IsBehind orders on_disk wanted n e
  children_behind wants e h =
      let it = tree_from size page owner e h in
      record {
        is_wanted = wants e h;
        is_first = linked_first size orders on_disk it.0.child.0 owner (level_in page - 1) n
            (name_first size orders (names_in page) n have it.0.child.0 (child_named page it.0 it.1 it.2)) e it.3;
      }

  pub node_leads : ((e : Demand) → Has (right_demands size page owner) e → IsIn wanted e)
      → ((e : Demand) → Has (tree_demands size page owner) e → IsIn wanted e)
      → (e : Demand) → Has (node_demands size page owner) e → IsBehind orders on_disk wanted n e
  node_leads right below e h = elim (has_either (right_demands size page owner) (tree_demands size page owner) e h) [
    | inl x ↦ right_behind right e x
    | inr y ↦ children_behind below e y
  ]
