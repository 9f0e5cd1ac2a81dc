-- A row of steps that takes its own pages pays by the orders that an insertion adds for it.
use Rattle.std.specs.Prelude.{◌≡◌, ℕ, Bool, true, List, [], ◌∷◌, Option}
use Rattle.std.proofs.Common.{inl, inr, refl}
use Rattle.mg_base.specs.declared.geometry.Geometry.{Geometry}
use Rattle.mg_btree.specs.Halves.{names_in}
use Rattle.mg_btree.specs.Ordering.{root_orders, split_orders}
use Rattle.mg_btree.specs.RowOrders.{row_orders}
use Rattle.mg_btree.specs.RowTakings.{TakesItsPages}
use Rattle.mg_careful.specs.Precedence.{Orders}
use Rattle.mg_careful.specs.CarefulWrite.{DemandSet, either, listed}
use Rattle.mg_image.specs.Form.{Pages}
use Rattle.mg_image.specs.Tables.{Has as IsOneOf}
use Rattle.mg_node.specs.NodePage.{level_in}
use Rattle.mg_pool.specs.Batch.{lists}
use Rattle.mg_space.specs.Demands.{bit_demand}
use Rattle.mg_space.specs.Taking.{IsGeometry}
use Rattle.mg_space.specs.declared.links.TheConstants.{NODE}
use Rattle.mg_tree_overlay_laws.specs.TreeSteps.{grow_levels, split_levels}
use Rattle.mg_tree_overlay_laws.specs.TreeBatches.{ChangesTree, EntryChange, beside, done, grows, leaf, splits}
use Rattle.mg_demand_laws.specs.Met.{of_listed}
use Rattle.mg_demand_laws.specs.Wanting.{IsWanting, want_of}
use Rattle.mg_demand_laws.specs.GrowthTies.{same_pays}
use Rattle.mg_demand_laws.specs.Lists.{lists_later}
use Rattle.mg_demand_laws.specs.GrowPays.{growing_step}
use Rattle.mg_demand_laws.specs.RowTies.{first_root, of_left, of_names, of_right, right_left, right_parent, second_root}
use Rattle.mg_demand_laws.specs.SplitPays.{splitting_step}
use Rattle.mg_demand_laws.specs.Taken.{IsReady, PaysTree, StandsWanted}
use Rattle.mg_demand_laws.specs.TakenLaws.{new_before, then_tree, wants_on}
use Rattle.mg_demand_laws.specs.TakenSteps.{filling_step, leaf_step, taking_before, taking_new, taking_pays, taking_ready, taking_stands}

-- The law: the tree stands, its pages are wanted, and what was taken before is ready; and the orders that pay have
-- those of the row.
abbrev pub TakingRowsPay : Type 0
TakingRowsPay = (g : Geometry) (owner root : ℕ) (batch : ℕ → Option (List ℕ)) (orders : Orders) (change : EntryChange)
    (pool last : Pages) (levels ends : List (List ℕ))
    (row : ChangesTree g.size owner root batch orders change pool levels last ends) (taken : List ℕ)
    (at_end : List (List ℕ)) (all : Orders) (settled : ℕ → Bool) (on_disk wanted : DemandSet)
    → IsGeometry g → IsWanting g.size pool wanted → StandsWanted g.size pool owner root levels wanted
    → ((n : ℕ) → IsOneOf taken n → IsReady g.size pool levels wanted n)
    → TakesItsPages g owner root batch orders change pool last levels ends row taken at_end
    → ((a b : ℕ) → lists (row_orders g.size owner root batch orders change pool last levels ends row) a b ≡ true
    → all a b ≡ true)
    → PaysTree g.size pool last owner root taken ends all settled on_disk wanted

pub taking_rows_pay : TakingRowsPay
taking_rows_pay g owner root batch orders change pool last levels ends (done v ls) taken at_end all settled on_disk
    wanted lawful was stands ready takes have = record {
      more = [];
      pays = same_pays g.size v all settled on_disk wanted was;
      stands = record {
        tree = stands.tree;
        no_inventory = stands.no_inventory;
        wants = wants_on g.size v v owner root ls wanted (listed []) (λ n placed apart. refl)
            (λ d h at. absurd (of_listed [] d h)) stands.wants;
      };
      used = λ n used. used;
      own = λ d none. absurd none;
    }
taking_rows_pay g owner root batch orders change pool last levels ends
    (beside v next w ls es n others used some fresh more) taken at_end all settled on_disk wanted lawful was stands
    ready (inl (it, takes)) have =
    let one = taking_pays g owner root v next ls n it.page all settled on_disk wanted lawful was stands it.takes others
    used fresh in
    then_tree g.size v next w owner root taken (it.page ∷ taken) es all settled on_disk wanted
    (bit_demand g.size it.page) one
    (taking_new g owner root v next ls n it.page all settled on_disk wanted lawful was stands it.takes others used fresh
    taken)
    (taking_before g owner root v next ls n it.page all settled on_disk wanted lawful was stands it.takes others used
    fresh taken) used
    (taking_rows_pay g owner root batch orders change next w ls es more (it.page ∷ taken) at_end all settled on_disk
    (either wanted (listed (bit_demand g.size it.page))) lawful one.wants
    (taking_stands g owner root v next ls n it.page all settled on_disk wanted lawful was stands it.takes others used
    fresh)
    (taking_ready g owner root v next ls n it.page all settled on_disk wanted lawful was stands it.takes others used
    fresh taken ready) takes have)
taking_rows_pay g owner root batch orders change pool last levels ends
    (beside v next w ls es n others used some fresh more) taken at_end all settled on_disk wanted lawful was stands
    ready (inr (is, len, takes)) have =
    let one = filling_step g.size owner root v next ls n all settled on_disk wanted was stands (ready n is) len others
    used fresh taken in
    then_tree g.size v next w owner root taken taken es all settled on_disk wanted [] one.pays one.own
    (λ d new. new_before g.size v next taken d one.used new) one.used
    (taking_rows_pay g owner root batch orders change next w ls es more taken at_end all settled on_disk
    (either wanted (listed [])) lawful one.pays.wants one.stands (λ k is_k. one.ready k (ready k is_k)) takes have)
taking_rows_pay g owner root batch orders change pool last levels ends
    (splits v split named w ls es l r p e is order no_l no_p below fresh more) taken at_end all settled on_disk wanted
    lawful was stands ready (is_r, len_l, len_p, takes) have =
    let rest = row_orders g.size owner root batch orders change named w (split_levels l r ls) es more in
    let names = names_in (v r) in
    let one = splitting_step g.size owner root v split named ls l r p e all settled on_disk wanted was stands is below
    fresh (ready r is_r) no_l no_p len_l len_p (of_names g.size all names l r p rest have)
    (right_left g.size all names l r p rest have) (right_parent g.size all names l r p rest have) taken is_r in
    then_tree g.size v named w owner root taken taken es all settled on_disk wanted
    (want_of r NODE owner (level_in (v l)) ∷ []) one.pays one.own
    (λ d new. new_before g.size v named taken d one.used new) one.used
    (taking_rows_pay g owner root batch orders change named w (split_levels l r ls) es more taken at_end all settled
    on_disk (either wanted (listed (want_of r NODE owner (level_in (v l)) ∷ []))) lawful one.pays.wants one.stands
    (λ k is_k. one.ready k (ready k is_k)) takes
    (λ a b there. have a b (lists_later (split_orders g.size names l r p) rest a b there)))
taking_rows_pay g owner root batch orders change pool last levels ends
    (grows v grown w ls es a b is order no_root more) taken at_end all settled on_disk wanted lawful was stands ready
    (is_a, is_b, low, len, takes) have =
    let rest = row_orders g.size owner root batch orders change grown w (grow_levels root a b ls) es more in
    let left = names_in (v a) in
    let right = names_in (v b) in
    let one = growing_step g.size owner root v grown ls a b all settled on_disk wanted was stands is no_root is_a.1
    is_b.1 (ready a is_a.0) (ready b is_b.0) len (of_left g.size all left right root a b rest have)
    (of_right g.size all left right root a b rest have) (first_root g.size all left right root a b rest have)
    (second_root g.size all left right root a b rest have) taken is_a.0 is_b.0 in
    then_tree g.size v grown w owner root taken taken es all settled on_disk wanted
    (want_of b NODE owner (level_in (v root)) ∷ want_of a NODE owner (level_in (v root)) ∷ []) one.pays one.own
    (λ d new. new_before g.size v grown taken d one.used new) one.used
    (taking_rows_pay g owner root batch orders change grown w (grow_levels root a b ls) es more taken at_end all settled
    on_disk (either wanted (listed (want_of b NODE owner (level_in (v root))
    ∷ want_of a NODE owner (level_in (v root)) ∷ []))) lawful one.pays.wants one.stands
    (λ k is_k. one.ready k (ready k is_k)) takes
    (λ x y there. have x y (lists_later (root_orders g.size left right root a b) rest x y there)))
taking_rows_pay g owner root batch orders change pool last levels ends
    (leaf v next w ls es n is low entries some no_inventory more) taken at_end all settled on_disk wanted lawful was
    stands ready (placed, len, takes) have =
    let one = leaf_step g.size owner root v next ls n all settled on_disk wanted was stands placed is low len taken in
    then_tree g.size v next w owner root taken taken es all settled on_disk wanted [] one.pays one.own
    (λ d new. new_before g.size v next taken d one.used new) one.used
    (taking_rows_pay g owner root batch orders change next w ls es more taken at_end all settled on_disk
    (either wanted (listed [])) lawful one.pays.wants one.stands (λ k is_k. one.ready k (ready k is_k)) takes have)
