-- A page splits on a page that was taken, and the page above comes to name that: the step pays, with what it newly
-- wants, and the tree stands and is wanted behind it.
use Rattle.std.specs.Prelude.{◌≡◌, ◌≢◌, ◌⊎◌, ◌<◌, ◌-◌, ◌/◌, ◌==◌, ℕ, suc, Bool, true, List, [], ◌∷◌, length, if◌then◌else◌}
use Rattle.std.proofs.Common.{inl, inr, refl, sym, subst, ap, ◌∙◌, arith}
use Rattle.std.proofs.lemmas.Bool.{cases_eq}
use Rattle.mg_btree.specs.Changing.{HasNoInventory}
use Rattle.mg_btree.specs.Halves.{names_in}
use Rattle.mg_btree.specs.Ordering.{orders_for}
use Rattle.mg_careful.specs.Precedence.{Orders}
use Rattle.mg_careful.specs.declared.links.Demand.{Demand}
use Rattle.mg_careful.specs.CarefulWrite.{DemandSet, Has, IsIn, either, listed}
use Rattle.mg_image.specs.Form.{Pages}
use Rattle.mg_image.specs.Indexes.{HasEntry}
use Rattle.mg_image.specs.Inventory.{is_used}
use Rattle.mg_image.specs.Tables.{Has as IsOneOf}
use Rattle.mg_node.specs.declared.entry.Entry.{Entry}
use Rattle.mg_node.specs.NodePage.{entries_of, level_in, right_in}
use Rattle.mg_pip.specs.PipPage.{bits}
use Rattle.mg_pool.specs.Batch.{lists}
use Rattle.mg_space.specs.Demands.{linked, right_demands, tree_demands}
use Rattle.mg_space.specs.declared.links.TheConstants.{NODE, TREE}
use Rattle.mg_tree_overlay_laws.specs.GrowParts.{root_in}
use Rattle.mg_tree_overlay_laws.specs.PoolLaws.{split_tree}
use Rattle.mg_tree_overlay_laws.specs.SplitParts.{tree_back, tree_right, tree_wider}
use Rattle.mg_tree_overlay_laws.specs.TreeBatches.{IsNoInventory}
use Rattle.mg_tree_overlay_laws.specs.TreeSteps.{InTree, split_levels}
use Rattle.mg_tree_overlay_laws.specs.TreesBehind.{SplitsNamed}
use Rattle.mg_demand_laws.specs.KindLaws.{from_want}
use Rattle.mg_demand_laws.specs.Met.{has_back, has_front, in_listed}
use Rattle.mg_demand_laws.specs.Steps.{no_more}
use Rattle.mg_demand_laws.specs.Wanting.{IsWanting, Pays, want_of}
use Rattle.mg_demand_laws.specs.WantingLaws.{either_cases, in_one, in_other, two_listed}
use Rattle.mg_demand_laws.specs.NamedFirst.{node_leads}
use Rattle.mg_demand_laws.specs.NodeLaws.{new_node_pays}
use Rattle.mg_demand_laws.specs.NodeLinks.{entry_back, tree_from, tree_to}
use Rattle.mg_demand_laws.specs.NodeSteps.{IsNodeFirst, WantsNode}
use Rattle.mg_demand_laws.specs.RowTies.{node_on}
use Rattle.mg_demand_laws.specs.Taken.{IsNew, IsReady, StandsWanted, StepsOn}
use Rattle.mg_demand_laws.specs.TakenLaws.{node_of_tree, ready_on}
use Rattle.mg_demand_laws.specs.TakenSteps.{one_newly}
use Rattle.mg_demand_laws.specs.TreeTies.{name_pays, split_pays}

module _ (size owner root : ℕ) (old split named : Pages) (levels : List (List ℕ)) (l r p : ℕ) (e : Entry)
    (orders : Orders) (settled : ℕ → Bool) (on_disk wanted : DemandSet) (was : IsWanting size old wanted)
    (stands : StandsWanted size old owner root levels wanted) (is : SplitsNamed size old split named owner levels l r p e)
    (below : root ≢ l) (fresh : InTree levels r → ⊥) (ready_r : IsReady size old levels wanted r)
    (no_l : IsNoInventory size l) (no_p : IsNoInventory size p)
    (len_l : length (split l) ≡ size) (len_p : length (named p) ≡ size)
    (names_first : (a b : ℕ) → lists (orders_for size (names_in (old r)) r) a b ≡ true → orders a b ≡ true)
    (left_first : IsNodeFirst size orders r l) (above_first : IsNodeFirst size orders r p) where
  -- what is newly wanted
  abbrev right_want : Demand
  right_want = want_of r NODE owner (level_in (old l))

  abbrev now : DemandSet
  now = either wanted (listed (want_of r NODE owner (level_in (old l)) ∷ []))

  placed_l : InTree levels l
  placed_l = is.parent.child

  placed_p : InTree levels p
  placed_p = is.parent.parent

  left_wanted : WantsNode size wanted l owner (level_in (old l))
  left_wanted = stands.wants.below l placed_l (λ same. below (sym same))

  -- the right page leads to nothing but what the left one led to
  right_of_left : (d : Demand) → Has (right_demands size (old r) owner) d → IsIn wanted d
  right_of_left d h = was.keeps.in_turn (want_of l NODE owner (level_in (old l))) d left_wanted.page
      (from_want size old wanted was (old l) (was.whole l) (want_of l NODE owner (level_in (old l)))
      (want_of l NODE owner (level_in (old l))) d refl
      (has_front (right_demands size (old l) owner) (tree_demands size (old l) owner) d
      (subst (λ (k : ℕ). Has (if k == 0 then [] else linked size k NODE owner (level_in (old l))) d) is.splits.goes_on
      (subst (λ (k : ℕ). Has (if right_in (old r) == 0 then [] else linked size (right_in (old r)) NODE owner k) d)
      is.splits.right_level h))))

  entry_of_left : (f : Entry) → HasEntry (entries_of (old r)) f → HasEntry (entries_of (old l)) f
  entry_of_left f h = subst (λ (es : List Entry). HasEntry es f) (sym is.splits.was)
      (inr (entry_back is.splits.kept (is.splits.given ∷ is.splits.rest) f
      (subst (λ (es : List Entry). HasEntry es f) is.splits.right_is h)))

  children_of_left : (d : Demand) → Has (tree_demands size (old r) owner) d → IsIn wanted d
  children_of_left d h =
      let it = tree_from size (old r) owner d h in
      was.keeps.in_turn (want_of l NODE owner (level_in (old l))) d left_wanted.page
      (from_want size old wanted was (old l) (was.whole l) (want_of l NODE owner (level_in (old l)))
      (want_of l NODE owner (level_in (old l))) d refl
      (has_back (right_demands size (old l) owner) (tree_demands size (old l) owner) d
      (tree_to size (old l) owner (subst (λ (k : ℕ). 0 < k) is.splits.right_level it.1) it.0
      (entry_of_left it.0 it.2) d
      (subst (λ (k : ℕ). Has (linked size it.0.child.0 NODE owner (k - 1)) d) is.splits.right_level it.3))))

  right_pays : Pays size old old orders settled on_disk wanted (listed (want_of r NODE owner (level_in (old l)) ∷ []))
  right_pays = new_node_pays size old old r owner (level_in (old l)) orders settled on_disk wanted was (record {
    others = λ m apart. refl;
    len = was.whole r;
    off_inventory = ready_r.off_inventory;
    used = ready_r.used;
    unwanted = ready_r.unwanted fresh;
    passes = is.splits.right_wanted.fields;
    on_level = is.splits.right_level;
    leads = node_leads size orders on_disk wanted (old r) r owner names_first right_of_left children_of_left;
  })

  right_wanted : WantsNode size now r owner (level_in (old l))
  right_wanted = record {
    page = in_other wanted (listed (right_want ∷ [])) right_want (in_listed (right_want ∷ []) right_want (inl refl));
    bit = in_one wanted (listed (right_want ∷ [])) _ ready_r.bit;
  }

  stands_now : StandsWanted size old owner root levels now
  stands_now = record {
    tree = stands.tree;
    no_inventory = stands.no_inventory;
    wants = record {
      top = in_one wanted (listed (right_want ∷ [])) (want_of root TREE owner 0) stands.wants.top;
      alone = λ d h at. elim (either_cases wanted (listed (right_want ∷ [])) d h) [
        | inl x ↦ stands.wants.alone d x at
        | inr y ↦ absurd (fresh (subst (InTree levels)
            (sym at ∙ ap (λ (x : Demand). x.target) (one_newly right_want d y))
            (root_in size old owner root levels stands.tree.rooted stands.tree)))
      ];
      below = λ n placed apart. node_on size wanted (listed (right_want ∷ [])) n owner (level_in (old n))
          (stands.wants.below n placed apart);
    };
  }

  left_pays : Pays size old split orders settled on_disk now no_more
  left_pays = split_pays size old split owner l r orders settled on_disk now is.splits
      (node_of_tree size old split owner root levels now l was.lawful stands_now placed_l len_l) right_pays.wants
      right_wanted left_first

  split_p : split p ≡ old p
  split_p = is.splits.others p is.apart.0

  up : level_in (split p) ≡ suc (level_in (old l))
  up = ap level_in split_p ∙ is.parent.level

  above_pays : Pays size split named orders settled on_disk (either now no_more) no_more
  above_pays =
      let its = node_of_tree size old named owner root levels now p was.lawful stands_now placed_p len_p in
      let level_is = up in
      let one : level_in (old l) ≡ level_in (split p) - 1 = omega (arith, level_is) in
      name_pays size split named owner p e orders settled on_disk (either now no_more) is.rewrites is.names
      (record {
        passes = rw split_p its.passes;
        len = len_p;
        off_header = its.off_header;
        off_inventory = its.off_inventory;
      }) left_pays.wants
      (subst (λ (k : ℕ). WantsNode size (either now no_more) k owner (level_in (split p) - 1)) (sym is.child)
      (subst (λ (k : ℕ). WantsNode size (either now no_more) r owner k) one
      (node_on size now no_more r owner (level_in (old l)) right_wanted)))
      (subst (λ (k : ℕ). IsNodeFirst size orders k p) (sym is.child) above_first)

  -- the whole step
  splitting_pays : Pays size old named orders settled on_disk wanted (listed (right_want ∷ []))
  splitting_pays = two_listed size old old named orders settled on_disk wanted (right_want ∷ []) [] right_pays
      (two_listed size old split named orders settled on_disk now [] [] left_pays above_pays)

  same_level : (n : ℕ) → level_in (named n) ≡ level_in (old n)
  same_level n = in_named (cases_eq n p) ∙ in_split (cases_eq n l)
    where
      in_split : (n ≡ l) ⊎ (n ≢ l) → level_in (split n) ≡ level_in (old n)
      in_split (inl same) = subst (λ (k : ℕ). level_in (split k) ≡ level_in (old k)) (sym same) is.splits.left_level
      in_split (inr apart) = ap level_in (is.splits.others n apart)

      in_named : (n ≡ p) ⊎ (n ≢ p) → level_in (named n) ≡ level_in (split n)
      in_named (inl same) = subst (λ (k : ℕ). level_in (named k) ≡ level_in (split k)) (sym same) is.rewrites.level
      in_named (inr apart) = ap level_in (is.rewrites.others n apart)

  no_inventory_then : HasNoInventory size (split_levels l r levels)
  no_inventory_then n placed = at (tree_back l r levels n placed)
    where
      at : (n ≡ r) ⊎ InTree levels n → IsNoInventory size n
      at (inl same) = subst (IsNoInventory size) (sym same) (λ m. ready_r.off_inventory (m / bits size))
      at (inr there) = stands.no_inventory n there

  wanted_then : (n : ℕ) → n ≢ root → (n ≡ r) ⊎ InTree levels n → WantsNode size now n owner (level_in (named n))
  wanted_then n apart (inl same) =
      subst (λ (k : ℕ). WantsNode size now n owner k) (sym (same_level n ∙ (ap (λ (k : ℕ). level_in (old k)) same
      ∙ is.splits.right_level))) (subst (λ (k : ℕ). WantsNode size now k owner (level_in (old l))) (sym same) right_wanted)
  wanted_then n apart (inr there) = subst (λ (k : ℕ). WantsNode size now n owner k) (sym (same_level n))
      (stands_now.wants.below n there apart)

  splitting_stands : StandsWanted size named owner root (split_levels l r levels) now
  splitting_stands = record {
    tree = split_tree size old split named owner root levels l r p e is below fresh stands.tree;
    no_inventory = no_inventory_then;
    wants = record {
      top = stands_now.wants.top;
      alone = stands_now.wants.alone;
      below = λ n placed apart. wanted_then n apart (tree_back l r levels n placed);
    };
  }

  splitting_used : (m : ℕ) → is_used size old m ≡ true → is_used size named m ≡ true
  splitting_used m used = is.rewrites.used m (is.splits.used m used)

  splitting_ready : (k : ℕ) → IsReady size old levels wanted k → IsReady size named (split_levels l r levels) now k
  splitting_ready k ready = ready_on size old named levels (split_levels l r levels) wanted (listed (right_want ∷ [])) k
      splitting_used (λ placed. tree_wider l r levels k placed)
      (λ d h out same. out (subst (InTree (split_levels l r levels))
      (sym (ap (λ (x : Demand). x.target) (one_newly right_want d h)) ∙ same) (tree_right l r levels placed_l))) ready

  splitting_new : (taken : List ℕ) → IsOneOf taken r → (d : Demand) → Has (right_want ∷ []) d
      → IsNew size old taken d
  splitting_new taken one d (inl same) = inr (
    ap (λ (x : Demand). x.what) same,
    inl (subst (IsOneOf taken) (sym (ap (λ (x : Demand). x.target) same)) one),
  )
  splitting_new taken one d (inr none) = absurd none

  pub splitting_step : (taken : List ℕ) → IsOneOf taken r → StepsOn size old named owner root levels
      (split_levels l r levels) taken orders settled on_disk wanted (want_of r NODE owner (level_in (old l)) ∷ [])
  splitting_step taken one = record {
    pays = splitting_pays;
    stands = splitting_stands;
    used = splitting_used;
    ready = splitting_ready;
    own = splitting_new taken one;
  }
