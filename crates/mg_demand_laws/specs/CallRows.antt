-- Any sequence of calls on several trees in one batch pays.
use Rattle.std.specs.Prelude.{◌≡◌, ◌⊎◌, ◌++◌, ℕ, Bool, List, [], ◌∷◌}
use Rattle.std.proofs.Common.{inl, inr, subst}
use Rattle.mg_base.specs.declared.geometry.Geometry.{Geometry}
use Rattle.mg_btree.specs.Changing.{TakesOut}
use Rattle.mg_btree.specs.Inserting.{PutsAndTakes}
use Rattle.mg_careful.specs.Precedence.{Orders}
use Rattle.mg_careful.specs.declared.links.Demand.{Demand}
use Rattle.mg_careful.specs.CarefulWrite.{DemandSet, Has, either, listed}
use Rattle.mg_image.specs.Form.{Pages}
use Rattle.mg_node.specs.declared.entry.Entry.{Entry}
use Rattle.mg_pool.specs.Batch.{Changed}
use Rattle.mg_space.specs.Taking.{IsGeometry}
use Rattle.mg_space.specs.declared.links.TheConstants.{BIT, NODE}
use Rattle.mg_demand_laws.specs.Met.{has_either}
use Rattle.mg_demand_laws.specs.Wanting.{IsWanting}
use Rattle.mg_demand_laws.specs.WantingLaws.{two_listed}
use Rattle.mg_demand_laws.specs.GrowthTies.{same_pays}
use Rattle.mg_demand_laws.specs.Lists.{HaveOrders}
use Rattle.mg_demand_laws.specs.Calls.{EachStands, EachStays, PaysTrees, TreeAt, grown_to}
use Rattle.mg_demand_laws.specs.CallTies.{each_as, each_same, insertions_pay, new_free, one_among, removals_pay, stood_at}
use Rattle.mg_demand_laws.specs.Taken.{IsNew, PaysTree}
use Rattle.mg_demand_laws.specs.TakenLaws.{from_lists, to_lists}

-- The calls of one batch, one after another, each on one of these trees: it changes no page of the others, and the
-- batch has its orders at its end.
pub data MakesCalls (g : Geometry) (orders : Orders) : Pages → List TreeAt → Pages → List TreeAt → Type 0 where
  no_call : (pages : Pages) (trees : List TreeAt) → MakesCalls g orders pages trees pages trees
  puts : (old mid new : Pages) (trees ends : List TreeAt) (before batch : Changed) (front : List TreeAt) (t : TreeAt)
      (back : List TreeAt) (e : Entry) → trees ≡ front ++ t ∷ back
      → (it : PutsAndTakes g old mid before batch t.owner t.root t.levels e) → HaveOrders orders batch
      → EachStays old mid front → EachStays old mid back
      → MakesCalls g orders mid (front ++ grown_to t it.puts.ends ∷ back) new ends
      → MakesCalls g orders old trees new ends
  takes : (old mid new : Pages) (trees ends : List TreeAt) (batch : Changed) (front : List TreeAt) (t : TreeAt)
      (back : List TreeAt) (e : Entry) (was : Bool) → trees ≡ front ++ t ∷ back
      → TakesOut g.size old mid batch t.owner t.root t.levels e was
      → EachStays old mid front → EachStays old mid back
      → MakesCalls g orders mid (front ++ grown_to t t.levels ∷ back) new ends
      → MakesCalls g orders old trees new ends

-- they pay, and newly want bits and index pages alone
pub record PaysCalls (size : ℕ) (old new : Pages) (ends : List TreeAt) (orders : Orders) (settled : ℕ → Bool)
    (on_disk wanted : DemandSet) : Type 0 where
  pub trees : PaysTrees size old new ends orders settled on_disk wanted
  pub plain : (d : Demand) → Has trees.more d → (d.what ≡ BIT) ⊎ (d.what ≡ NODE)

-- the law
abbrev pub CallsPay : Type 0
CallsPay = (g : Geometry) (orders : Orders) (old new : Pages) (trees ends : List TreeAt) (settled : ℕ → Bool)
    (on_disk wanted : DemandSet) → MakesCalls g orders old trees new ends → IsGeometry g
    → IsWanting g.size old wanted → EachStands g.size old wanted trees
    → PaysCalls g.size old new ends orders settled on_disk wanted

plain_new : (size : ℕ) (pages : Pages) (d : Demand) → IsNew size pages [] d → (d.what ≡ BIT) ⊎ (d.what ≡ NODE)
plain_new size pages d (inl bit) = inl bit
plain_new size pages d (inr (node, free)) = inr node

-- one call, and those behind it
then_calls : (size : ℕ) (old mid new : Pages) (front : List TreeAt) (t : TreeAt) (back ends : List TreeAt)
    (levels : List (List ℕ)) (orders : Orders) (settled : ℕ → Bool) (on_disk wanted : DemandSet)
    (first : PaysTree size old mid t.owner t.root [] levels orders settled on_disk wanted)
    → PaysCalls size mid new ends orders settled on_disk (either wanted (listed first.more))
    → PaysCalls size old new ends orders settled on_disk wanted
then_calls size old mid new front t back ends levels orders settled on_disk wanted first rest = record {
  trees = record {
    more = first.more ++ rest.trees.more;
    pays = two_listed size old mid new orders settled on_disk wanted first.more rest.trees.more first.pays
        rest.trees.pays;
    stand = each_as size new ends (either (either wanted (listed first.more)) (listed rest.trees.more))
        (either wanted (listed (first.more ++ rest.trees.more))) (to_lists wanted first.more rest.trees.more)
        (from_lists wanted first.more rest.trees.more) rest.trees.stand;
  };
  plain = λ d h. elim (has_either first.more rest.trees.more d h) [
    | inl x ↦ plain_new size old d (first.own d x)
    | inr y ↦ rest.plain d y
  ];
}

pub calls_pay : CallsPay
calls_pay g orders old new trees ends settled on_disk wanted (no_call pages the_trees) lawful was stand = record {
  trees = record {
    more = [];
    pays = same_pays g.size old orders settled on_disk wanted was;
    stand = each_same g.size old trees wanted stand;
  };
  plain = λ d none. absurd none;
}
calls_pay g orders old new trees ends settled on_disk wanted
    (puts start mid finish the_trees the_ends before batch front t back e is it have stay_front stay_back calls) lawful
    was stand =
    let there = subst (EachStands g.size old wanted) is stand in
    let first = insertions_pay g old mid before batch t.owner t.root t.levels e it orders settled on_disk wanted lawful
    was (stood_at g.size old front t back wanted there) have in
    then_calls g.size old mid new front t back ends it.puts.ends orders settled on_disk wanted first
    (calls_pay g orders mid new (front ++ grown_to t it.puts.ends ∷ back) ends settled on_disk
    (either wanted (listed first.more)) calls lawful first.pays.wants
    (one_among g.size old mid front t back it.puts.ends wanted first.more there stay_front stay_back first.used
    (λ d h node. new_free g.size old d (first.own d h) node) first.stands))
calls_pay g orders old new trees ends settled on_disk wanted
    (takes start mid finish the_trees the_ends batch front t back e was_there is out stay_front stay_back calls) lawful
    was stand =
    let there = subst (EachStands g.size old wanted) is stand in
    let first = removals_pay g.size old mid batch t.owner t.root t.levels e was_there orders settled on_disk wanted out
    was (stood_at g.size old front t back wanted there) in
    then_calls g.size old mid new front t back ends t.levels orders settled on_disk wanted first
    (calls_pay g orders mid new (front ++ grown_to t t.levels ∷ back) ends settled on_disk
    (either wanted (listed first.more)) calls lawful first.pays.wants
    (one_among g.size old mid front t back t.levels wanted first.more there stay_front stay_back first.used
    (λ d h node. new_free g.size old d (first.own d h) node) first.stands))
