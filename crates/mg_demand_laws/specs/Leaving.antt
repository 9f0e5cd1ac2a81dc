-- A change for tables keeps the trees that it leaves alone, and one for trees keeps the tables.
use Rattle.std.specs.Prelude.{◌≡◌, ◌≢◌, ℕ, Bool, true, false, List, [], ◌∷◌}
use Rattle.std.proofs.Common.{inl, inr, sym, ap, ◌∙◌, arith}
use Rattle.mg_btree.specs.SearchLaws.{in_node}
use Rattle.mg_careful.specs.declared.links.Demand.{Demand}
use Rattle.mg_careful.specs.CarefulWrite.{DemandSet, IsIn, either}
use Rattle.mg_demand_laws.specs.Freeing.{Which, without}
use Rattle.mg_image.specs.Form.{Pages}
use Rattle.mg_image.specs.Inventory.{inventory_page, is_used}
use Rattle.mg_node.specs.NodePage.{level_in}
use Rattle.mg_space.specs.Taking.{region_of}
use Rattle.mg_space.specs.declared.links.TheConstants.{BIT, DATA, NODE, POINTER, TREE, VERSION}
use Rattle.mg_tree_overlay_laws.specs.GrowLaws.{tree_beside}
use Rattle.mg_tree_overlay_laws.specs.GrowParts.{root_in}
use Rattle.mg_demand_laws.specs.KindLaws.{pointer_kind}
use Rattle.mg_demand_laws.specs.Wanting.{IsWanting, may_go, want_of}
use Rattle.mg_demand_laws.specs.OrderlyTies.{orderly_else}
use Rattle.mg_demand_laws.specs.Wants.{AreOrderly, pointer_passes}
use Rattle.mg_demand_laws.specs.Chained.{IsChained}
use Rattle.mg_demand_laws.specs.ChainedLaws.{chained_else, data_kind}
use Rattle.mg_demand_laws.specs.KeepingTies.{in_wanted, wanted_on}
use Rattle.mg_demand_laws.specs.Calls.{EachStands, EachStays, TreeAt}
use Rattle.mg_demand_laws.specs.Taken.{StandsWanted}
use Rattle.mg_demand_laws.specs.TakenLaws.{wants_on}
use Rattle.mg_demand_laws.specs.Joint.{LeavesTables, LeavesTrees}

-- the law: trees that a change leaves alone stand behind it, whatever versions it drops at its end
abbrev pub TreesStay : Type 0
TreesStay = (size : ℕ) (old new : Pages) (trees : List TreeAt) (wanted more : DemandSet)
    → EachStands size old wanted trees → LeavesTrees size old new trees more
    → EachStands size new (either wanted more) trees

-- the law: versions may be dropped under trees that stand
abbrev pub TreesStayWithout : Type 0
TreesStayWithout = (size : ℕ) (pages : Pages) (trees : List TreeAt) (wanted : DemandSet) (settled : ℕ → Bool)
    (dropped : Which) → ((d : Demand) → dropped d ≡ true → may_go settled d ≡ true)
    → EachStands size pages wanted trees → EachStands size pages (without dropped wanted) trees

-- the law: behind a change that leaves tables alone pointer pages are orderly, and versions chained
abbrev pub TablesStay : Type 0
TablesStay = (size : ℕ) (old new : Pages) (wanted more : DemandSet) → IsWanting size old wanted
    → AreOrderly size old wanted → IsChained size old wanted → LeavesTables size old new more
    → AreOrderly size new (either wanted more) × IsChained size new (either wanted more)

-- ---- trees

one_stays : (size : ℕ) (old new : Pages) (t : TreeAt) (wanted more : DemandSet)
    → StandsWanted size old t.owner t.root t.levels wanted
    → EachStays old new (t ∷ []) → ((n : ℕ) → is_used size old n ≡ true → is_used size new n ≡ true)
    → ((d : Demand) → IsIn more d → d.what ≡ NODE → is_used size old d.target ≡ false)
    → StandsWanted size new t.owner t.root t.levels (either wanted more)
one_stays size old new t wanted more stands stay used fresh = record {
  tree = tree_beside size old new t.owner t.root t.levels stay.0 used stands.tree;
  no_inventory = stands.no_inventory;
  wants = wants_on size old new t.owner t.root t.levels wanted more (λ n placed apart. ap level_in (stay.0 n placed))
      no_root stands.wants;
}
  where
    root_used : is_used size old t.root ≡ true
    root_used = (in_node size old t.owner t.levels t.root stands.tree.nodes
        (root_in size old t.owner t.root t.levels stands.tree.rooted stands.tree)).1.wanted.used

    no_root : (d : Demand) → IsIn more d → d.target ≡ t.root → d.what ≢ NODE
    no_root d h at node =
        let both : false ≡ true = sym (fresh d h node) ∙ (ap (λ (n : ℕ). is_used size old n) at ∙ root_used) in cc

each_stays : (size : ℕ) (old new : Pages) (trees : List TreeAt) (wanted more : DemandSet)
    → EachStands size old wanted trees → EachStays old new trees
    → ((n : ℕ) → is_used size old n ≡ true → is_used size new n ≡ true)
    → ((d : Demand) → IsIn more d → d.what ≡ NODE → is_used size old d.target ≡ false)
    → EachStands size new (either wanted more) trees
each_stays size old new [] wanted more stand stay used fresh = tt
each_stays size old new (t ∷ ts) wanted more stand stay used fresh = (
  one_stays size old new t wanted more stand.0 (stay.0, tt) used fresh,
  each_stays size old new ts wanted more stand.1 stay.1 used fresh,
)

pub trees_stay : TreesStay
trees_stay size old new trees wanted more stand leaves =
    each_stays size old new trees wanted more stand leaves.stay leaves.used leaves.fresh

-- more is wanted or less, but for versions the same
pub trees_within : (size : ℕ) (pages : Pages) (trees : List TreeAt) (more less : DemandSet)
    → ((d : Demand) → IsIn less d → IsIn more d) → ((d : Demand) → d.what ≢ VERSION → IsIn more d → IsIn less d)
    → EachStands size pages more trees → EachStands size pages less trees
trees_within size pages [] more less within kept stand = tt
trees_within size pages (t ∷ ts) more less within kept stand = (
  record {
    tree = stand.0.tree;
    no_inventory = stand.0.no_inventory;
    wants = record {
      top = kept (want_of t.root TREE t.owner 0) (λ is. omega (arith, is)) stand.0.wants.top;
      alone = λ d h at. stand.0.wants.alone d (within d h) at;
      below = λ n placed apart. record {
        page = kept (want_of n NODE t.owner (level_in (pages n))) (λ is. omega (arith, is))
            (stand.0.wants.below n placed apart).page;
        bit = kept (want_of (inventory_page size (region_of size n)) BIT n 0) (λ is. omega (arith, is))
            (stand.0.wants.below n placed apart).bit;
      };
    };
  },
  trees_within size pages ts more less within kept stand.1,
)

pub trees_stay_without : TreesStayWithout
trees_stay_without size pages trees wanted settled dropped may stand = trees_within size pages trees wanted
    (without dropped wanted) (in_wanted dropped wanted) (wanted_on settled dropped wanted may) stand

-- ---- tables

pub tables_stay : TablesStay
tables_stay size old new wanted more was orderly chained leaves = (
  orderly_else size old new wanted more orderly
      (λ n owner at h. leaves.pages n (was.used (want_of n POINTER owner at) h)
      (inl (pointer_kind (old n) n owner at (pointer_passes size old wanted was n owner at h))))
      (λ d h. (leaves.none d h).0),
  chained_else size old new wanted more chained
      (λ n of. leaves.pages n (was.used (want_of n DATA of.owner of.place) of.wants.page)
      (inr (data_kind size old wanted was n of)))
      (λ d h. ((leaves.none d h).2, (leaves.none d h).1)),
)
