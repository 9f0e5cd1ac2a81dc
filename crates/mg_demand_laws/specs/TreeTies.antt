-- The steps of an index tree pay, by the records and the orders of the batches that make them.
use Rattle.std.specs.Prelude.{◌≡◌, ◌≢◌, ◌⊎◌, ◌-◌, ◌++◌, ◌==◌, ℕ, suc, Bool, List, [], ◌∷◌, if◌then◌else◌}
use Rattle.std.proofs.Common.{inl, inr, sym, subst, ap, ◌∙◌, arith}
use Rattle.mg_careful.specs.declared.links.Demand.{Demand}
use Rattle.mg_careful.specs.Precedence.{Orders}
use Rattle.mg_careful.specs.CarefulWrite.{DemandSet, Has, IsIn}
use Rattle.mg_demand_laws.specs.CellDemands.{IsBehind}
use Rattle.mg_image.specs.Form.{Pages}
use Rattle.mg_image.specs.Indexes.{HasEntry}
use Rattle.mg_node.specs.declared.entry.Entry.{Entry}
use Rattle.mg_node.specs.NodePage.{level_in, right_in}
use Rattle.mg_space.specs.Demands.{linked}
use Rattle.mg_space.specs.declared.links.TheConstants.{NODE}
use Rattle.mg_tree_overlay_laws.specs.TreeSteps.{Grows, Names, Rewrites, Splits}
use Rattle.mg_demand_laws.specs.Steps.{no_more}
use Rattle.mg_demand_laws.specs.Wanting.{IsWanting, Pays}
use Rattle.mg_demand_laws.specs.NodeLaws.{node_pays}
use Rattle.mg_demand_laws.specs.NodeLinks.{entry_back, entry_either, entry_front, leads_on, node_behind, tree_from}
use Rattle.mg_demand_laws.specs.NodeSteps.{IsNodeFirst, IsNodeOf, WantsNode}

-- a page splits: its new right neighbour is wanted, and ordered before it
abbrev pub SplitPays : Type 0
SplitPays = (size : ℕ) (old new : Pages) (owner l r : ℕ) (orders : Orders) (settled : ℕ → Bool)
    (on_disk wanted : DemandSet) → Splits size old new owner l r → IsNodeOf size old new l owner
    → IsWanting size old wanted → WantsNode size wanted r owner (level_in (old l)) → IsNodeFirst size orders r l
    → Pays size old new orders settled on_disk wanted no_more

-- an inner page gets an entry more: its child is wanted on the level below, and ordered before it
abbrev pub NamePays : Type 0
NamePays = (size : ℕ) (old new : Pages) (owner p : ℕ) (e : Entry) (orders : Orders) (settled : ℕ → Bool)
    (on_disk wanted : DemandSet) → Rewrites size old new owner p → Names old new p e → IsNodeOf size old new p owner
    → IsWanting size old wanted → WantsNode size wanted e.child.0 owner (level_in (old p) - 1)
    → IsNodeFirst size orders e.child.0 p → Pays size old new orders settled on_disk wanted no_more

-- a leaf changes in place, as an entry is put or taken out: that costs nothing
abbrev pub LeafPays : Type 0
LeafPays = (size : ℕ) (old new : Pages) (owner n : ℕ) (orders : Orders) (settled : ℕ → Bool)
    (on_disk wanted : DemandSet) → Rewrites size old new owner n → level_in (old n) ≡ 0
    → IsNodeOf size old new n owner → IsWanting size old wanted
    → Pays size old new orders settled on_disk wanted no_more

-- the root's content stands on two pages, which are wanted and ordered before it; of the root itself only the
-- tree is wanted
abbrev pub RootPays : Type 0
RootPays = (size : ℕ) (old new : Pages) (owner root a b : ℕ) (orders : Orders) (settled : ℕ → Bool)
    (on_disk wanted : DemandSet) → Grows size old new owner root a b → IsNodeOf size old new root owner
    → IsWanting size old wanted → ((d : Demand) → IsIn wanted d → d.target ≡ root → d.what ≢ NODE)
    → WantsNode size wanted a owner (level_in (old root)) → WantsNode size wanted b owner (level_in (old root))
    → IsNodeFirst size orders a root → IsNodeFirst size orders b root
    → Pays size old new orders settled on_disk wanted no_more

pub split_pays : SplitPays
split_pays size old new owner l r orders settled on_disk wanted splits its was wants first =
    node_pays size old new l owner orders settled on_disk wanted (record {
      others = splits.others;
      len = its.len;
      was_passes = its.passes;
      passes = splits.left_fields;
      off_header = its.off_header;
      off_inventory = its.off_inventory;
      on_level = λ d h same what. splits.left_level;
    }) was (leads_on size (old l) (new l) l owner orders on_disk wanted splits.left_level
    (inr (λ e h. node_behind size orders on_disk wanted r owner (level_in (old l)) l wants first e
    (subst (λ (m : ℕ). Has (linked size m NODE owner (level_in (old l))) e) splits.goes_to
    (subst (λ (k : ℕ). Has (linked size (right_in (new l)) NODE owner k) e) splits.left_level h))))
    (λ f more h. inl (subst (λ (es : List Entry). HasEntry es f) (sym splits.was)
    (kept f (subst (λ (es : List Entry). HasEntry es f) splits.left_is h)))))
  where
    kept : (f : Entry) → HasEntry (splits.first ∷ splits.kept) f
        → HasEntry (splits.first ∷ splits.kept ++ splits.given ∷ splits.rest) f
    kept f (inl same) = inl same
    kept f (inr h) = inr (entry_front splits.kept (splits.given ∷ splits.rest) f h)

pub name_pays : NamePays
name_pays size old new owner p e orders settled on_disk wanted rewrites names its was wants first =
    node_pays size old new p owner orders settled on_disk wanted (record {
      others = rewrites.others;
      len = its.len;
      was_passes = its.passes;
      passes = rewrites.fields;
      off_header = its.off_header;
      off_inventory = its.off_inventory;
      on_level = λ d h same what. rewrites.level;
    }) was (leads_on size (old p) (new p) p owner orders on_disk wanted rewrites.level (inl rewrites.right)
    (λ f more h. elim (one_of f (subst (λ (es : List Entry). HasEntry es f) names.is h)) [
      | inl stood ↦ inl (subst (λ (es : List Entry). HasEntry es f) (sym names.was) stood)
      | inr same ↦ inr (λ d made. node_behind size orders on_disk wanted e.child.0 owner (level_in (old p) - 1) p wants first d
          (subst (λ (k : ℕ). Has (linked size e.child.0 NODE owner (k - 1)) d) rewrites.level
          (subst (λ (x : Entry). Has (linked size x.child.0 NODE owner (level_in (new p) - 1)) d) same made)))
    ]))
  where
    one_of : (f : Entry) → HasEntry (names.first ∷ names.front ++ e ∷ names.back) f
        → HasEntry (names.first ∷ names.front ++ names.back) f ⊎ (f ≡ e)
    one_of f (inl same) = inl (inl same)
    one_of f (inr h) = elim (entry_either names.front (e ∷ names.back) f h) [
      | inl x ↦ inl (inr (entry_front names.front names.back f x))
      | inr y ↦ elim y [
        | inl same ↦ inr same
        | inr z ↦ inl (inr (entry_back names.front names.back f z))
      ]
    ]

pub leaf_pays : LeafPays
leaf_pays size old new owner n orders settled on_disk wanted rewrites low its was =
    node_pays size old new n owner orders settled on_disk wanted (record {
      others = rewrites.others;
      len = its.len;
      was_passes = its.passes;
      passes = rewrites.fields;
      off_header = its.off_header;
      off_inventory = its.off_inventory;
      on_level = λ d h same what. rewrites.level;
    }) was (leads_on size (old n) (new n) n owner orders on_disk wanted rewrites.level (inl rewrites.right)
    (λ f more h. absurd (let level = rewrites.level in omega (arith, more, low, level))))

pub root_pays : RootPays
root_pays size old new owner root a b orders settled on_disk wanted grows its was top wants_a wants_b first_a first_b =
    node_pays size old new root owner orders settled on_disk wanted (record {
      others = grows.others;
      len = its.len;
      was_passes = its.passes;
      passes = grows.root_fields;
      off_header = its.off_header;
      off_inventory = its.off_inventory;
      on_level = λ d h same what. absurd (top d h same what);
    }) was (record {
      right = λ e h. absurd (subst (λ (m : ℕ). Has (if m == 0 then []
          else linked size m NODE owner (level_in (new root))) e) grows.root_right h);
      children = λ e h.
          let it = tree_from size (new root) owner e h in
          inr (of_child it.0 (subst (λ (es : List Entry). HasEntry es it.0) grows.root_is it.2) e
          (subst (λ (k : ℕ). Has (linked size it.0.child.0 NODE owner (k - 1)) e) grows.root_level it.3));
    })
  where
    behind : (m : ℕ) → WantsNode size wanted m owner (level_in (old root)) → IsNodeFirst size orders m root
        → (f : Entry) → f.child.0 ≡ m → (e : Demand)
        → Has (linked size f.child.0 NODE owner (suc (level_in (old root)) - 1)) e
        → IsBehind orders on_disk wanted root e
    behind m wants first f is e h = node_behind size orders on_disk wanted m owner (level_in (old root)) root wants first e
        (subst (λ (k : ℕ). Has (linked size m NODE owner k) e)
        (let one : suc (level_in (old root)) - 1 ≡ level_in (old root) = omega arith in one)
        (subst (λ (k : ℕ). Has (linked size k NODE owner (suc (level_in (old root)) - 1)) e) is h))

    of_child : (f : Entry) → HasEntry (grows.to_a ∷ grows.to_b ∷ []) f → (e : Demand)
        → Has (linked size f.child.0 NODE owner (suc (level_in (old root)) - 1)) e
        → IsBehind orders on_disk wanted root e
    of_child f (inl same) e h = behind a wants_a first_a f (ap (λ (x : Entry). x.child.0) same ∙ grows.a_child) e h
    of_child f (inr (inl same)) e h = behind b wants_b first_b f (ap (λ (x : Entry). x.child.0) same ∙ grows.b_child) e h
    of_child f (inr (inr none)) e h = absurd none
