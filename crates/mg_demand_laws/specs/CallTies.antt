-- The calls of index trees pay, by the records of their own contracts; and so do several calls in one batch, beside
-- parts that change no tree.
use Rattle.std.specs.Prelude.{◌≡◌, ◌≢◌, ◌⊎◌, ◌++◌, ℕ, Bool, true, false, List, [], ◌∷◌}
use Rattle.std.proofs.Common.{inl, inr, refl, sym, subst, ap, ◌∙◌, arith}
use Rattle.mg_base.specs.declared.geometry.Geometry.{Geometry}
use Rattle.mg_btree.specs.Changing.{TakesOut}
use Rattle.mg_btree.specs.Inserting.{PutsAndTakes}
use Rattle.mg_btree.specs.RowOrders.{row_orders}
use Rattle.mg_btree.specs.RowTakings.{RewritesLeaf}
use Rattle.mg_btree.specs.SearchLaws.{in_node}
use Rattle.mg_careful.specs.Precedence.{Orders}
use Rattle.mg_careful.specs.declared.graph.Order.{Order}
use Rattle.mg_careful.specs.declared.links.Demand.{Demand}
use Rattle.mg_careful.specs.CarefulWrite.{DemandSet, Has, IsIn, either, listed}
use Rattle.mg_image.specs.Form.{Pages}
use Rattle.mg_image.specs.Inventory.{is_used}
use Rattle.mg_node.specs.declared.entry.Entry.{Entry}
use Rattle.mg_node.specs.NodePage.{level_in}
use Rattle.mg_pool.specs.Batch.{Changed, content_in, lists}
use Rattle.mg_space.specs.Taking.{IsGeometry}
use Rattle.mg_space.specs.declared.links.TheConstants.{NODE}
use Rattle.mg_tree_overlay_laws.specs.GrowLaws.{tree_beside}
use Rattle.mg_tree_overlay_laws.specs.GrowParts.{root_in}
use Rattle.mg_tree_overlay_laws.specs.TreeBatches.{Add}
use Rattle.mg_tree_overlay_laws.specs.TreeSteps.{InTree, StaysUsed}
use Rattle.mg_demand_laws.specs.Met.{of_listed}
use Rattle.mg_demand_laws.specs.Wanting.{IsWanting, Pays}
use Rattle.mg_demand_laws.specs.WantingLaws.{two_listed}
use Rattle.mg_demand_laws.specs.GrowthTies.{same_pays}
use Rattle.mg_demand_laws.specs.Lists.{HaveOrders, lists_later}
use Rattle.mg_demand_laws.specs.Calls.{EachStands, EachStays, PaysTrees, TreeAt, grown_to}
use Rattle.mg_demand_laws.specs.Taken.{IsNew, PaysTree, StandsWanted}
use Rattle.mg_demand_laws.specs.TakenLaws.{from_lists, stands_as, to_lists, wants_on}
use Rattle.mg_demand_laws.specs.TakenSteps.{leaf_step}
use Rattle.mg_demand_laws.specs.TakenTies.{taking_rows_pay}

-- an entry is put into a tree: all that a caller knows is that the tree stands and its pages are wanted
abbrev pub InsertionsPay : Type 0
InsertionsPay = (g : Geometry) (old new : Pages) (before batch : Changed) (owner root : ℕ) (levels : List (List ℕ))
    (e : Entry) (it : PutsAndTakes g old new before batch owner root levels e) (orders : Orders) (settled : ℕ → Bool)
    (on_disk wanted : DemandSet) → IsGeometry g → IsWanting g.size old wanted
    → StandsWanted g.size old owner root levels wanted → HaveOrders orders batch
    → PaysTree g.size old new owner root [] it.puts.ends orders settled on_disk wanted

-- an entry is taken out of one: that costs nothing
abbrev pub RemovalsPay : Type 0
RemovalsPay = (size : ℕ) (old new : Pages) (batch : Changed) (owner root : ℕ) (levels : List (List ℕ)) (e : Entry)
    (was : Bool) (orders : Orders) (settled : ℕ → Bool) (on_disk wanted : DemandSet)
    → TakesOut size old new batch owner root levels e was → IsWanting size old wanted
    → StandsWanted size old owner root levels wanted
    → PaysTree size old new owner root [] levels orders settled on_disk wanted

-- a call on one of several trees, which changes no page of the others
abbrev pub OneOfTreesPays : Type 0
OneOfTreesPays = (size : ℕ) (old new : Pages) (front : List TreeAt) (t : TreeAt) (back : List TreeAt)
    (ends : List (List ℕ)) (orders : Orders) (settled : ℕ → Bool) (on_disk wanted : DemandSet)
    → EachStands size old wanted (front ++ t ∷ back) → EachStays old new front → EachStays old new back
    → PaysTree size old new t.owner t.root [] ends orders settled on_disk wanted
    → PaysTrees size old new (front ++ grown_to t ends ∷ back) orders settled on_disk wanted

-- a part that pays, and changes no page of these trees; of their roots nothing is newly wanted as of a page of a level
abbrev pub BesideTreesPays : Type 0
BesideTreesPays = (size : ℕ) (old new : Pages) (trees : List TreeAt) (orders : Orders) (settled : ℕ → Bool)
    (on_disk wanted : DemandSet) (more : List Demand) → EachStands size old wanted trees → EachStays old new trees
    → StaysUsed size old new → Pays size old new orders settled on_disk wanted (listed more)
    → ((d : Demand) → Has more d → d.what ≡ NODE → is_used size old d.target ≡ false)
    → PaysTrees size old new trees orders settled on_disk wanted

-- two parts, one after the other, are one
abbrev pub TreePartsAreOne : Type 0
TreePartsAreOne = (size : ℕ) (old mid new : Pages) (trees ends : List TreeAt) (orders : Orders) (settled : ℕ → Bool)
    (on_disk wanted : DemandSet) (first : PaysTrees size old mid trees orders settled on_disk wanted)
    → PaysTrees size mid new ends orders settled on_disk (either wanted (listed first.more))
    → PaysTrees size old new ends orders settled on_disk wanted

pub insertions_pay : InsertionsPay
insertions_pay g old new before batch owner root levels e it orders settled on_disk wanted lawful was stands have =
    taking_rows_pay g owner root (content_in batch.pages) (lists batch.orders) (Add e) old new levels it.puts.ends
    it.puts.row [] it.puts.ends orders settled on_disk wanted lawful was stands (λ n none. absurd none) it.takes
    (λ a b there. have a b (subst (λ (os : List Order). lists os a b ≡ true) (sym it.puts.adds)
    (lists_later before.orders (row_orders g.size owner root (content_in batch.pages) (lists batch.orders) (Add e) old
    new levels it.puts.ends it.puts.row) a b there)))

pub removals_pay : RemovalsPay
removals_pay size old new batch owner root levels e was_there orders settled on_disk wanted takes was stands =
    at takes.alone
  where
    none_changes : PaysTree size old old owner root [] levels orders settled on_disk wanted
    none_changes = record {
      more = [];
      pays = same_pays size old orders settled on_disk wanted was;
      stands = record {
        tree = stands.tree;
        no_inventory = stands.no_inventory;
        wants = wants_on size old old owner root levels wanted (listed []) (λ n placed apart. refl)
            (λ d h same. absurd (of_listed [] d h)) stands.wants;
      };
      used = λ n used. used;
      own = λ d none. absurd none;
    }

    one_changes : RewritesLeaf size old new owner levels
        → PaysTree size old new owner root [] levels orders settled on_disk wanted
    one_changes leaf =
        let one = leaf_step size owner root old new levels leaf.leaf orders settled on_disk wanted was stands leaf.placed
        leaf.rewrites leaf.low leaf.len [] in
        record {
          more = [];
          pays = one.pays;
          stands = one.stands;
          used = one.used;
          own = λ d none. absurd none;
        }

    at : (new ≡ old) ⊎ RewritesLeaf size old new owner levels
        → PaysTree size old new owner root [] levels orders settled on_disk wanted
    at (inl same) = subst (λ (pages : Pages). PaysTree size old pages owner root [] levels orders settled on_disk wanted)
        (sym same) none_changes
    at (inr leaf) = one_changes leaf

-- ---- trees that do not change

beside_stands : (size : ℕ) (old new : Pages) (owner root : ℕ) (levels : List (List ℕ)) (wanted : DemandSet)
    (more : List Demand) → StandsWanted size old owner root levels wanted
    → ((n : ℕ) → InTree levels n → new n ≡ old n) → StaysUsed size old new
    → ((d : Demand) → Has more d → d.what ≡ NODE → is_used size old d.target ≡ false)
    → StandsWanted size new owner root levels (either wanted (listed more))
beside_stands size old new owner root levels wanted more stands same used fresh = record {
  tree = tree_beside size old new owner root levels same used stands.tree;
  no_inventory = stands.no_inventory;
  wants = wants_on size old new owner root levels wanted (listed more)
      (λ n placed apart. ap level_in (same n placed)) no_root stands.wants;
}
  where
    root_used : is_used size old root ≡ true
    root_used = (in_node size old owner levels root stands.tree.nodes
        (root_in size old owner root levels stands.tree.rooted stands.tree)).1.wanted.used

    no_root : (d : Demand) → IsIn (listed more) d → d.target ≡ root → d.what ≢ NODE
    no_root d h at node =
        let both : false ≡ true = sym (fresh d (of_listed more d h) node)
        ∙ (ap (λ (n : ℕ). is_used size old n) at ∙ root_used) in cc

each_beside : (size : ℕ) (old new : Pages) (trees : List TreeAt) (wanted : DemandSet) (more : List Demand)
    → EachStands size old wanted trees → EachStays old new trees → StaysUsed size old new
    → ((d : Demand) → Has more d → d.what ≡ NODE → is_used size old d.target ≡ false)
    → EachStands size new (either wanted (listed more)) trees
each_beside size old new [] wanted more stand stay used fresh = tt
each_beside size old new (t ∷ ts) wanted more stand stay used fresh = (
  beside_stands size old new t.owner t.root t.levels wanted more stand.0 stay.0 used fresh,
  each_beside size old new ts wanted more stand.1 stay.1 used fresh,
)

pub new_free : (size : ℕ) (pages : Pages) (d : Demand) → IsNew size pages [] d → d.what ≡ NODE
    → is_used size pages d.target ≡ false
new_free size pages d (inl bit) node = absurd (let nine : d.what ≡ 9 = bit in let eight : d.what ≡ 8 = node in
    omega (arith, nine, eight))
new_free size pages d (inr (is, inl none)) node = absurd none
new_free size pages d (inr (is, inr free)) node = free

pub one_among : (size : ℕ) (old new : Pages) (front : List TreeAt) (t : TreeAt) (back : List TreeAt) (ends : List (List ℕ))
    (wanted : DemandSet) (more : List Demand) → EachStands size old wanted (front ++ t ∷ back)
    → EachStays old new front → EachStays old new back → StaysUsed size old new
    → ((d : Demand) → Has more d → d.what ≡ NODE → is_used size old d.target ≡ false)
    → StandsWanted size new t.owner t.root ends (either wanted (listed more))
    → EachStands size new (either wanted (listed more)) (front ++ grown_to t ends ∷ back)
one_among size old new [] t back ends wanted more stand before behind used fresh now =
    (now, each_beside size old new back wanted more stand.1 behind used fresh)
one_among size old new (u ∷ us) t back ends wanted more stand before behind used fresh now = (
  beside_stands size old new u.owner u.root u.levels wanted more stand.0 before.0 used fresh,
  one_among size old new us t back ends wanted more stand.1 before.1 behind used fresh now,
)

-- one tree of several
pub stood_at : (size : ℕ) (pages : Pages) (front : List TreeAt) (t : TreeAt) (back : List TreeAt) (wanted : DemandSet)
    → EachStands size pages wanted (front ++ t ∷ back) → StandsWanted size pages t.owner t.root t.levels wanted
stood_at size pages [] t back wanted stand = stand.0
stood_at size pages (u ∷ us) t back wanted stand = stood_at size pages us t back wanted stand.1

-- where nothing changes and nothing more is wanted
pub each_same : (size : ℕ) (pages : Pages) (trees : List TreeAt) (wanted : DemandSet)
    → EachStands size pages wanted trees → EachStands size pages (either wanted (listed [])) trees
each_same size pages [] wanted stand = tt
each_same size pages (t ∷ ts) wanted stand = (
  beside_stands size pages pages t.owner t.root t.levels wanted [] stand.0 (λ n placed. refl) (λ n used. used)
      (λ d none. absurd none),
  each_same size pages ts wanted stand.1,
)

pub one_of_trees_pays : OneOfTreesPays
one_of_trees_pays size old new front t back ends orders settled on_disk wanted stand before behind paid = record {
  more = paid.more;
  pays = paid.pays;
  stand = one_among size old new front t back ends wanted paid.more stand before behind paid.used
      (λ d h node. new_free size old d (paid.own d h) node) paid.stands;
}

pub beside_trees_pays : BesideTreesPays
beside_trees_pays size old new trees orders settled on_disk wanted more stand stay used pays fresh = record {
  more = more;
  pays = pays;
  stand = each_beside size old new trees wanted more stand stay used fresh;
}

pub each_as : (size : ℕ) (pages : Pages) (trees : List TreeAt) (one other : DemandSet)
    → ((d : Demand) → IsIn one d → IsIn other d) → ((d : Demand) → IsIn other d → IsIn one d)
    → EachStands size pages one trees → EachStands size pages other trees
each_as size pages [] one other to from stand = tt
each_as size pages (t ∷ ts) one other to from stand = (
  stands_as size pages t.owner t.root t.levels one other to from stand.0,
  each_as size pages ts one other to from stand.1,
)

pub tree_parts_are_one : TreePartsAreOne
tree_parts_are_one size old mid new trees ends orders settled on_disk wanted first second = record {
  more = first.more ++ second.more;
  pays = two_listed size old mid new orders settled on_disk wanted first.more second.more first.pays second.pays;
  stand = each_as size new ends (either (either wanted (listed first.more)) (listed second.more))
      (either wanted (listed (first.more ++ second.more))) (to_lists wanted first.more second.more)
      (from_lists wanted first.more second.more) second.stand;
}
