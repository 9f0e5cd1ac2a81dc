-- A row of steps of an index tree pays, by the orders that an insertion adds for it.
use Rattle.std.specs.Prelude.{◌≡◌, ◌-◌, ◌++◌, ℕ, Bool, true, List, [], ◌∷◌, Option}
use Rattle.std.proofs.Common.{sym, subst, arith}
use Rattle.mg_base.specs.declared.numbers.PageNo.{PageNo}
use Rattle.mg_btree.specs.Halves.{names_in}
use Rattle.mg_btree.specs.Ordering.{before, orders_for, orders_to, root_orders, split_orders}
use Rattle.mg_btree.specs.RowOrders.{row_orders}
use Rattle.mg_careful.specs.Precedence.{Orders}
use Rattle.mg_careful.specs.declared.graph.Order.{Order}
use Rattle.mg_careful.specs.declared.links.Demand.{Demand}
use Rattle.mg_careful.specs.CarefulWrite.{DemandSet, either, listed}
use Rattle.mg_image.specs.Form.{Pages}
use Rattle.mg_image.specs.Inventory.{inventory_page}
use Rattle.mg_node.specs.NodePage.{level_in}
use Rattle.mg_pool.specs.Batch.{lists}
use Rattle.mg_space.specs.Taking.{region_of}
use Rattle.mg_space.specs.declared.links.TheConstants.{BIT, NODE}
use Rattle.mg_tree_overlay_laws.specs.TreeSteps.{grow_levels, split_levels}
use Rattle.mg_tree_overlay_laws.specs.TreeBatches.{ChangesTree, EntryChange, beside, done, grows, leaf, splits}
use Rattle.mg_demand_laws.specs.Steps.{no_more}
use Rattle.mg_demand_laws.specs.Wanting.{IsWanting, Pays, want_of}
use Rattle.mg_demand_laws.specs.WantingLaws.{in_one, two_listed}
use Rattle.mg_demand_laws.specs.GrowthTies.{same_pays}
use Rattle.mg_demand_laws.specs.Lists.{bit_before, lists_later, lists_sooner, page_before}
use Rattle.mg_demand_laws.specs.NodeSteps.{IsNodeFirst, WantsNode}
use Rattle.mg_demand_laws.specs.TreeRows.{KnowsSteps, PaysRow}
use Rattle.mg_demand_laws.specs.TreeTies.{leaf_pays, name_pays, root_pays, split_pays}

-- the law
abbrev pub RowsPay : Type 0
RowsPay = (size owner root : ℕ) (batch : ℕ → Option (List ℕ)) (orders : Orders) (change : EntryChange)
    (pool last : Pages) (levels ends : List (List ℕ))
    (row : ChangesTree size owner root batch orders change pool levels last ends) (settled : ℕ → Bool)
    (on_disk wanted : DemandSet) → IsWanting size pool wanted
    → KnowsSteps size owner root batch orders change pool last levels ends row settled on_disk wanted
    → ((a b : ℕ) → lists (row_orders size owner root batch orders change pool last levels ends row) a b ≡ true
    → orders a b ≡ true)
    → PaysRow size pool last orders settled on_disk wanted

-- ---- orders

-- these orders have those of a page that comes to name another one
pub to_first : (size : ℕ) (orders : Orders) (n later : ℕ)
    → ((a b : ℕ) → lists (orders_to size n later) a b ≡ true → orders a b ≡ true) → IsNodeFirst size orders n later
to_first size orders n later have = record {
  page = have n later (page_before size n later);
  bit = have (inventory_page size (region_of size n)) later (bit_before size n later);
}

module _ (size : ℕ) (orders : Orders) (names : List PageNo) (l r p : ℕ) (rest : List Order) (have : (a b : ℕ) → lists (split_orders size names l r p ++ rest) a b ≡ true → orders a b ≡ true) where
  pub of_split : (a b : ℕ) → lists (orders_to size r l ++ (orders_to size r p ++ (before l p ∷ []))) a b ≡ true
      → orders a b ≡ true
  of_split a b is = have a b (lists_sooner (split_orders size names l r p) rest a b
      (lists_later (orders_for size names r) (orders_to size r l ++ (orders_to size r p ++ (before l p ∷ []))) a b is))

  pub of_names : (a b : ℕ) → lists (orders_for size names r) a b ≡ true → orders a b ≡ true
  of_names a b is = have a b (lists_sooner (split_orders size names l r p) rest a b
      (lists_sooner (orders_for size names r) (orders_to size r l ++ (orders_to size r p ++ (before l p ∷ []))) a b is))

  pub right_left : IsNodeFirst size orders r l
  right_left = to_first size orders r l (λ a b is. of_split a b
      (lists_sooner (orders_to size r l) (orders_to size r p ++ (before l p ∷ [])) a b is))

  pub right_parent : IsNodeFirst size orders r p
  right_parent = to_first size orders r p (λ a b is. of_split a b
      (lists_later (orders_to size r l) (orders_to size r p ++ (before l p ∷ [])) a b
      (lists_sooner (orders_to size r p) (before l p ∷ []) a b is)))

module _ (size : ℕ) (orders : Orders) (left right : List PageNo) (root a b : ℕ) (rest : List Order) (have : (x y : ℕ) → lists (root_orders size left right root a b ++ rest) x y ≡ true → orders x y ≡ true) where
  pub of_root : (x y : ℕ) → lists (orders_to size a root ++ orders_to size b root) x y ≡ true → orders x y ≡ true
  of_root x y is = have x y (lists_sooner (root_orders size left right root a b) rest x y
      (lists_later (orders_for size right b) (orders_for size left a ++ (orders_to size a root ++ orders_to size b root)) x y
      (lists_later (orders_for size left a) (orders_to size a root ++ orders_to size b root) x y is)))

  pub of_left : (x y : ℕ) → lists (orders_for size left a) x y ≡ true → orders x y ≡ true
  of_left x y is = have x y (lists_sooner (root_orders size left right root a b) rest x y
      (lists_later (orders_for size right b) (orders_for size left a ++ (orders_to size a root ++ orders_to size b root)) x y
      (lists_sooner (orders_for size left a) (orders_to size a root ++ orders_to size b root) x y is)))

  pub of_right : (x y : ℕ) → lists (orders_for size right b) x y ≡ true → orders x y ≡ true
  of_right x y is = have x y (lists_sooner (root_orders size left right root a b) rest x y
      (lists_sooner (orders_for size right b) (orders_for size left a ++ (orders_to size a root ++ orders_to size b root))
      x y is))

  pub first_root : IsNodeFirst size orders a root
  first_root = to_first size orders a root (λ x y is. of_root x y
      (lists_sooner (orders_to size a root) (orders_to size b root) x y is))

  pub second_root : IsNodeFirst size orders b root
  second_root = to_first size orders b root (λ x y is. of_root x y
      (lists_later (orders_to size a root) (orders_to size b root) x y is))

-- ---- what is wanted is wanted still

pub node_on : (size : ℕ) (wanted more : DemandSet) (n owner level : ℕ) → WantsNode size wanted n owner level
    → WantsNode size (either wanted more) n owner level
node_on size wanted more n owner level wants = record {
  page = in_one wanted more (want_of n NODE owner level) wants.page;
  bit = in_one wanted more (want_of (inventory_page size (region_of size n)) BIT n 0) wants.bit;
}

-- a step, and those behind it
then_row : (size : ℕ) (old mid new : Pages) (orders : Orders) (settled : ℕ → Bool) (on_disk wanted : DemandSet)
    (ds : List Demand) → Pays size old mid orders settled on_disk wanted (listed ds)
    → PaysRow size mid new orders settled on_disk (either wanted (listed ds))
    → PaysRow size old new orders settled on_disk wanted
then_row size old mid new orders settled on_disk wanted ds first rest = record {
  more = ds ++ rest.more;
  pays = two_listed size old mid new orders settled on_disk wanted ds rest.more first rest.pays;
}

pub tree_rows_pay : RowsPay
tree_rows_pay size owner root batch orders change pool last levels ends (done v ls) settled on_disk wanted was knows have = record {
  more = [];
  pays = same_pays size v orders settled on_disk wanted was;
}
tree_rows_pay size owner root batch orders change pool last levels ends
    (beside v next w ls es n others used some fresh more) settled on_disk wanted was (most, pays, rest) have =
    then_row size v next w orders settled on_disk wanted most pays
    (tree_rows_pay size owner root batch orders change next w ls es more settled on_disk (either wanted (listed most))
    pays.wants rest have)
tree_rows_pay size owner root batch orders change pool last levels ends
    (splits v split named w ls es l r p e is order no_l no_p below fresh more) settled on_disk wanted was (knows, rest) have =
    then_row size v split w orders settled on_disk wanted [] one
    (then_row size split named w orders settled on_disk (either wanted no_more) [] two
    (tree_rows_pay size owner root batch orders change named w (split_levels l r ls) es more settled on_disk
    (either (either wanted no_more) no_more) two.wants rest (λ a b there. have a b
    (lists_later (split_orders size (names_in (v r)) l r p)
    (row_orders size owner root batch orders change named w (split_levels l r ls) es more) a b there))))
  where
    one : Pays size v split orders settled on_disk wanted no_more
    one = split_pays size v split owner l r orders settled on_disk wanted is.splits knows.left was knows.right
        (right_left size orders (names_in (v r)) l r p
        (row_orders size owner root batch orders change named w (split_levels l r ls) es more) have)

    two : Pays size split named orders settled on_disk (either wanted no_more) no_more
    two = name_pays size split named owner p e orders settled on_disk (either wanted no_more) is.rewrites is.names
        knows.parent one.wants (subst (λ (k : ℕ). WantsNode size (either wanted no_more) k owner (level_in (split p) - 1))
        (sym is.child) (subst (λ (k : ℕ). WantsNode size (either wanted no_more) r owner k)
        (let above = knows.above in let level : level_in (v l) ≡ level_in (split p) - 1 = omega (arith, above) in level)
        (node_on size wanted no_more r owner (level_in (v l)) knows.right)))
        (subst (λ (k : ℕ). IsNodeFirst size orders k p) (sym is.child) (right_parent size orders (names_in (v r)) l r p
        (row_orders size owner root batch orders change named w (split_levels l r ls) es more) have))
tree_rows_pay size owner root batch orders change pool last levels ends
    (grows v grown w ls es a b is order no_root more) settled on_disk wanted was (knows, rest) have =
    then_row size v grown w orders settled on_disk wanted [] one
    (tree_rows_pay size owner root batch orders change grown w (grow_levels root a b ls) es more settled on_disk
    (either wanted no_more) one.wants rest (λ x y there. have x y
    (lists_later (root_orders size (names_in (v a)) (names_in (v b)) root a b)
    (row_orders size owner root batch orders change grown w (grow_levels root a b ls) es more) x y there)))
  where
    one : Pays size v grown orders settled on_disk wanted no_more
    one = root_pays size v grown owner root a b orders settled on_disk wanted is knows.root_ was knows.top knows.first
        knows.second
        (first_root size orders (names_in (v a)) (names_in (v b)) root a b
        (row_orders size owner root batch orders change grown w (grow_levels root a b ls) es more) have)
        (second_root size orders (names_in (v a)) (names_in (v b)) root a b
        (row_orders size owner root batch orders change grown w (grow_levels root a b ls) es more) have)
tree_rows_pay size owner root batch orders change pool last levels ends
    (leaf v next w ls es n is low entries some no_inventory more) settled on_disk wanted was (its, rest) have =
    then_row size v next w orders settled on_disk wanted [] one
    (tree_rows_pay size owner root batch orders change next w ls es more settled on_disk (either wanted no_more) one.wants rest have)
  where
    one : Pays size v next orders settled on_disk wanted no_more
    one = leaf_pays size v next owner n orders settled on_disk wanted is low its was
