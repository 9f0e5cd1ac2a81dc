-- A root shares its content out between two pages that were taken: the step pays, with what it newly wants, and the
-- tree stands and is wanted behind it.
use Rattle.std.specs.Prelude.{◌≡◌, ◌≢◌, ◌⊎◌, ◌<◌, ◌++◌, ◌-◌, ◌/◌, ℕ, Bool, true, List, [], ◌∷◌, length}
use Rattle.std.proofs.Common.{inl, inr, refl, sym, subst, ap, ◌∙◌}
use Rattle.mg_btree.specs.Changing.{HasNoInventory}
use Rattle.mg_btree.specs.GrowingLaws.{grown_back, grown_there}
use Rattle.mg_btree.specs.Halves.{names_in}
use Rattle.mg_btree.specs.Ordering.{orders_for}
use Rattle.mg_careful.specs.Precedence.{Orders}
use Rattle.mg_careful.specs.declared.links.Demand.{Demand}
use Rattle.mg_careful.specs.CarefulWrite.{DemandSet, Has, IsIn, either, listed}
use Rattle.mg_demand_laws.specs.CellDemands.{IsBehind}
use Rattle.mg_image.specs.Form.{Pages}
use Rattle.mg_image.specs.Indexes.{HasEntry}
use Rattle.mg_image.specs.Inventory.{inventory_page}
use Rattle.mg_image.specs.Tables.{Has as IsOneOf}
use Rattle.mg_node.specs.declared.entry.Entry.{Entry}
use Rattle.mg_node.specs.NodePage.{entries_of, level_in, right_in}
use Rattle.mg_pip.specs.PipPage.{bits}
use Rattle.mg_pool.specs.Batch.{lists}
use Rattle.mg_space.specs.Demands.{linked, node_demands, right_demands, tree_demands}
use Rattle.mg_space.specs.Taking.{region_of}
use Rattle.mg_space.specs.declared.links.TheConstants.{BIT, NODE, TREE}
use Rattle.mg_tree_overlay_laws.specs.GrowLaws.{tree_grown}
use Rattle.mg_tree_overlay_laws.specs.GrowParts.{grow_wider, root_in}
use Rattle.mg_tree_overlay_laws.specs.TreeBatches.{IsNoInventory}
use Rattle.mg_tree_overlay_laws.specs.TreeSteps.{Grows, InTree, grow_levels}
use Rattle.mg_demand_laws.specs.KindLaws.{from_want}
use Rattle.mg_demand_laws.specs.Met.{has_either, in_listed, of_listed}
use Rattle.mg_demand_laws.specs.Steps.{IsUnwanted, no_more}
use Rattle.mg_demand_laws.specs.Wanting.{IsWanting, Pays, want_of}
use Rattle.mg_demand_laws.specs.WantingLaws.{either_cases, in_one, in_other, two_listed}
use Rattle.mg_demand_laws.specs.NamedFirst.{children_behind, name_first, right_named, some_right}
use Rattle.mg_demand_laws.specs.NodeLaws.{new_node_pays}
use Rattle.mg_demand_laws.specs.NodeLinks.{entry_back, entry_front, node_behind, tree_from, tree_to}
use Rattle.mg_demand_laws.specs.NodeSteps.{IsNodeFirst, WantsNode}
use Rattle.mg_demand_laws.specs.Taken.{IsNew, IsReady, StandsWanted, StepsOn}
use Rattle.mg_demand_laws.specs.TakenLaws.{node_of_tree, ready_on}
use Rattle.mg_demand_laws.specs.TakenSteps.{one_newly}
use Rattle.mg_demand_laws.specs.TreeTies.{root_pays}

module _ (size owner root : ℕ) (old grown : Pages) (levels : List (List ℕ)) (a b : ℕ) (orders : Orders)
    (settled : ℕ → Bool) (on_disk wanted : DemandSet) (was : IsWanting size old wanted)
    (stands : StandsWanted size old owner root levels wanted) (is : Grows size old grown owner root a b)
    (no_root : IsNoInventory size root) (fresh_a : InTree levels a → ⊥) (fresh_b : InTree levels b → ⊥)
    (ready_a : IsReady size old levels wanted a) (ready_b : IsReady size old levels wanted b)
    (len : length (grown root) ≡ size)
    (first_names : (x y : ℕ) → lists (orders_for size (names_in (old a)) a) x y ≡ true → orders x y ≡ true)
    (second_names : (x y : ℕ) → lists (orders_for size (names_in (old b)) b) x y ≡ true → orders x y ≡ true)
    (first_first : IsNodeFirst size orders a root) (second_first : IsNodeFirst size orders b root) where
  abbrev want_a : Demand
  want_a = want_of a NODE owner (level_in (old root))

  abbrev want_b : Demand
  want_b = want_of b NODE owner (level_in (old root))

  -- b first, since a names it
  abbrev with_b : DemandSet
  with_b = either wanted (listed (want_of b NODE owner (level_in (old root)) ∷ []))

  abbrev with_both : DemandSet
  with_both = either (either wanted (listed (want_of b NODE owner (level_in (old root)) ∷ [])))
      (listed (want_of a NODE owner (level_in (old root)) ∷ []))

  -- what is newly wanted
  abbrev two_wants : List Demand
  two_wants = want_of b NODE owner (level_in (old root)) ∷ want_of a NODE owner (level_in (old root)) ∷ []

  abbrev now : DemandSet
  now = either wanted (listed (want_of b NODE owner (level_in (old root))
      ∷ want_of a NODE owner (level_in (old root)) ∷ []))

  placed : InTree levels root
  placed = root_in size old owner root levels stands.tree.rooted stands.tree

  apart_ab : a ≢ b
  apart_ab same = is.some.2 (sym is.a_right ∙ (ap (λ (k : ℕ). right_in (old k)) same ∙ is.b_right))

  right_first : IsNodeFirst size orders b a
  right_first = subst (λ (k : ℕ). IsNodeFirst size orders k a) is.a_right
      (name_first size orders (names_in (old a)) a first_names (right_in (old a))
      (right_named (old a) (λ none. is.some.2 (sym is.a_right ∙ none))))

  -- the children of both are children of the root
  child_of_root : (page : List ℕ) → level_in page ≡ level_in (old root)
      → ((f : Entry) → HasEntry (entries_of page) f → HasEntry (entries_of (old root)) f)
      → (d : Demand) → Has (tree_demands size page owner) d → IsIn wanted d
  child_of_root page level sub d h =
      let it = tree_from size page owner d h in
      was.keeps.in_turn (want_of root TREE owner 0) d stands.wants.top
      (from_want size old wanted was (old root) (was.whole root) (want_of root TREE owner 0) (want_of root TREE owner 0)
      d refl (tree_to size (old root) owner (subst (λ (k : ℕ). 0 < k) level it.1) it.0 (sub it.0 it.2) d
      (subst (λ (k : ℕ). Has (linked size it.0.child.0 NODE owner (k - 1)) d) level it.3)))

  entry_of_a : (f : Entry) → HasEntry (entries_of (old a)) f → HasEntry (entries_of (old root)) f
  entry_of_a f h = subst (λ (es : List Entry). HasEntry es f) (sym is.was)
      (front (subst (λ (es : List Entry). HasEntry es f) is.a_is h))
    where
      front : HasEntry (is.first ∷ is.kept) f → HasEntry (is.first ∷ is.kept ++ is.given ∷ is.rest) f
      front (inl same) = inl same
      front (inr more) = inr (entry_front is.kept (is.given ∷ is.rest) f more)

  entry_of_b : (f : Entry) → HasEntry (entries_of (old b)) f → HasEntry (entries_of (old root)) f
  entry_of_b f h = subst (λ (es : List Entry). HasEntry es f) (sym is.was)
      (inr (entry_back is.kept (is.given ∷ is.rest) f (subst (λ (es : List Entry). HasEntry es f) is.b_is h)))

  no_right : (d : Demand) → Has (right_demands size (old b) owner) d → ⊥
  no_right d h = (some_right size (old b) owner d h).0 is.b_right

  b_leads : (d : Demand) → Has (node_demands size (old b) owner) d → IsBehind orders on_disk wanted b d
  b_leads d h = elim (has_either (right_demands size (old b) owner) (tree_demands size (old b) owner) d h) [
    | inl x ↦ absurd (no_right d x)
    | inr y ↦ children_behind size orders on_disk wanted (old b) b owner second_names
        (child_of_root (old b) is.b_level entry_of_b) d y
  ]

  b_pays : Pays size old old orders settled on_disk wanted (listed (want_b ∷ []))
  b_pays = new_node_pays size old old b owner (level_in (old root)) orders settled on_disk wanted was (record {
    others = λ m apart. refl;
    len = was.whole b;
    off_inventory = ready_b.off_inventory;
    used = ready_b.used;
    unwanted = ready_b.unwanted fresh_b;
    passes = is.b_wanted.fields;
    on_level = is.b_level;
    leads = b_leads;
  })

  b_wanted : WantsNode size with_b b owner (level_in (old root))
  b_wanted = record {
    page = in_other wanted (listed (want_b ∷ [])) want_b (in_listed (want_b ∷ []) want_b (inl refl));
    bit = in_one wanted (listed (want_b ∷ [])) (want_of (inventory_page size (region_of size b)) BIT b 0) ready_b.bit;
  }

  a_leads : (d : Demand) → Has (node_demands size (old a) owner) d → IsBehind orders on_disk with_b a d
  a_leads d h = elim (has_either (right_demands size (old a) owner) (tree_demands size (old a) owner) d h) [
    | inl x ↦ node_behind size orders on_disk with_b b owner (level_in (old root)) a b_wanted right_first d
        (subst (λ (k : ℕ). Has (linked size k NODE owner (level_in (old root))) d) is.a_right
        (subst (λ (k : ℕ). Has (linked size (right_in (old a)) NODE owner k) d) is.a_level
        (some_right size (old a) owner d x).1))
    | inr y ↦ children_behind size orders on_disk with_b (old a) a owner first_names
        (λ f made. in_one wanted (listed (want_b ∷ [])) f (child_of_root (old a) is.a_level entry_of_a f made)) d y
  ]

  a_unwanted : IsUnwanted with_b a
  a_unwanted d h same = elim (either_cases wanted (listed (want_b ∷ [])) d h) [
    | inl x ↦ ready_a.unwanted fresh_a d x same
    | inr y ↦ apart_ab (sym same ∙ ap (λ (x : Demand). x.target) (one_newly want_b d y))
  ]

  a_pays : Pays size old old orders settled on_disk with_b (listed (want_a ∷ []))
  a_pays = new_node_pays size old old a owner (level_in (old root)) orders settled on_disk with_b b_pays.wants (record {
    others = λ m apart. refl;
    len = was.whole a;
    off_inventory = ready_a.off_inventory;
    used = ready_a.used;
    unwanted = a_unwanted;
    passes = is.a_wanted.fields;
    on_level = is.a_level;
    leads = a_leads;
  })

  root_alone : (d : Demand) → IsIn with_both d → d.target ≡ root → d.what ≢ NODE
  root_alone d h at = elim (either_cases with_b (listed (want_a ∷ [])) d h) [
    | inl x ↦ elim (either_cases wanted (listed (want_b ∷ [])) d x) [
      | inl w ↦ stands.wants.alone d w at
      | inr y ↦ absurd (is.apart.1 (sym (ap (λ (x : Demand). x.target) (one_newly want_b d y)) ∙ at))
    ]
    | inr z ↦ absurd (is.apart.0 (sym (ap (λ (x : Demand). x.target) (one_newly want_a d z)) ∙ at))
  ]

  grown_pays : Pays size old grown orders settled on_disk with_both no_more
  grown_pays = root_pays size old grown owner root a b orders settled on_disk with_both is
      (node_of_tree size old grown owner root levels wanted root was.lawful stands placed len) a_pays.wants root_alone
      (record {
        page = in_other with_b (listed (want_a ∷ [])) want_a (in_listed (want_a ∷ []) want_a (inl refl));
        bit = in_one with_b (listed (want_a ∷ [])) (want_of (inventory_page size (region_of size a)) BIT a 0)
            (in_one wanted (listed (want_b ∷ [])) (want_of (inventory_page size (region_of size a)) BIT a 0) ready_a.bit);
      })
      (record {
        page = in_one with_b (listed (want_a ∷ [])) want_b b_wanted.page;
        bit = in_one with_b (listed (want_a ∷ [])) (want_of (inventory_page size (region_of size b)) BIT b 0) b_wanted.bit;
      }) first_first second_first

  -- the whole step
  growing_pays : Pays size old grown orders settled on_disk wanted (listed two_wants)
  growing_pays = two_listed size old old grown orders settled on_disk wanted (want_b ∷ []) (want_a ∷ []) b_pays
      (two_listed size old old grown orders settled on_disk with_b (want_a ∷ []) [] a_pays grown_pays)

  two_newly : (d : Demand) → IsIn (listed two_wants) d → (d ≡ want_b) ⊎ (d ≡ want_a)
  two_newly d h = elim (of_listed two_wants d h) [
    | inl same ↦ inl same
    | inr more ↦ elim more [
      | inl same ↦ inr same
      | inr none ↦ absurd none
    ]
  ]

  alone_then : (d : Demand) → IsIn now d → d.target ≡ root → d.what ≢ NODE
  alone_then d h at = elim (either_cases wanted (listed two_wants) d h) [
    | inl x ↦ stands.wants.alone d x at
    | inr y ↦ elim (two_newly d y) [
      | inl same ↦ absurd (is.apart.1 (sym (ap (λ (x : Demand). x.target) same) ∙ at))
      | inr same ↦ absurd (is.apart.0 (sym (ap (λ (x : Demand). x.target) same) ∙ at))
    ]
  ]

  one_of_two : (want : Demand) (n : ℕ) → Has two_wants want → IsReady size old levels wanted n
      → want ≡ want_of n NODE owner (level_in (old root)) → WantsNode size now n owner (level_in (old root))
  one_of_two want n has ready same = record {
    page = subst (IsIn now) same (in_other wanted (listed two_wants) want (in_listed two_wants want has));
    bit = in_one wanted (listed two_wants) (want_of (inventory_page size (region_of size n)) BIT n 0) ready.bit;
  }

  wanted_then : (n : ℕ) → n ≢ root → (n ≡ root) ⊎ ((n ≡ a) ⊎ ((n ≡ b) ⊎ InTree levels n))
      → WantsNode size now n owner (level_in (grown n))
  wanted_then n apart (inl same) = absurd (apart same)
  wanted_then n apart (inr (inl same)) = subst (λ (k : ℕ). WantsNode size now k owner (level_in (grown k))) (sym same)
      (subst (λ (k : ℕ). WantsNode size now a owner k) (sym (ap level_in (is.others a is.apart.0) ∙ is.a_level))
      (one_of_two want_a a (inr (inl refl)) ready_a refl))
  wanted_then n apart (inr (inr (inl same))) = subst (λ (k : ℕ). WantsNode size now k owner (level_in (grown k)))
      (sym same) (subst (λ (k : ℕ). WantsNode size now b owner k)
      (sym (ap level_in (is.others b is.apart.1) ∙ is.b_level)) (one_of_two want_b b (inl refl) ready_b refl))
  wanted_then n apart (inr (inr (inr there))) = subst (λ (k : ℕ). WantsNode size now n owner k)
      (sym (ap level_in (is.others n apart))) (record {
        page = in_one wanted (listed two_wants) (want_of n NODE owner (level_in (old n)))
            (stands.wants.below n there apart).page;
        bit = in_one wanted (listed two_wants) (want_of (inventory_page size (region_of size n)) BIT n 0)
            (stands.wants.below n there apart).bit;
      })

  no_inventory_then : HasNoInventory size (grow_levels root a b levels)
  no_inventory_then n has = at (grown_back root a b levels n has)
    where
      at : (n ≡ root) ⊎ ((n ≡ a) ⊎ ((n ≡ b) ⊎ InTree levels n)) → IsNoInventory size n
      at (inl same) = subst (IsNoInventory size) (sym same) no_root
      at (inr (inl same)) = subst (IsNoInventory size) (sym same) (λ m. ready_a.off_inventory (m / bits size))
      at (inr (inr (inl same))) = subst (IsNoInventory size) (sym same) (λ m. ready_b.off_inventory (m / bits size))
      at (inr (inr (inr there))) = stands.no_inventory n there

  growing_stands : StandsWanted size grown owner root (grow_levels root a b levels) now
  growing_stands = record {
    tree = tree_grown size old grown owner root a b levels is stands.tree;
    no_inventory = no_inventory_then;
    wants = record {
      top = in_one wanted (listed two_wants) (want_of root TREE owner 0) stands.wants.top;
      alone = alone_then;
      below = λ n has apart. wanted_then n apart (grown_back root a b levels n has);
    };
  }

  growing_ready : (k : ℕ) → IsReady size old levels wanted k
      → IsReady size grown (grow_levels root a b levels) now k
  growing_ready k ready =
      let there = grown_there root a b levels root placed in
      ready_on size old grown levels (grow_levels root a b levels) wanted (listed two_wants) k is.used
      (λ has. grow_wider size old owner root a b levels k stands.tree has)
      (λ d h out same. elim (two_newly d h) [
        | inl one ↦ out (subst (InTree (grow_levels root a b levels))
            (sym (ap (λ (x : Demand). x.target) one) ∙ same) there.1)
        | inr one ↦ out (subst (InTree (grow_levels root a b levels))
            (sym (ap (λ (x : Demand). x.target) one) ∙ same) there.0)
      ]) ready

  growing_new : (taken : List ℕ) → IsOneOf taken a → IsOneOf taken b → (d : Demand) → Has two_wants d
      → IsNew size old taken d
  growing_new taken one_a one_b d (inl same) = inr (
    ap (λ (x : Demand). x.what) same,
    inl (subst (IsOneOf taken) (sym (ap (λ (x : Demand). x.target) same)) one_b),
  )
  growing_new taken one_a one_b d (inr (inl same)) = inr (
    ap (λ (x : Demand). x.what) same,
    inl (subst (IsOneOf taken) (sym (ap (λ (x : Demand). x.target) same)) one_a),
  )
  growing_new taken one_a one_b d (inr (inr none)) = absurd none

  pub growing_step : (taken : List ℕ) → IsOneOf taken a → IsOneOf taken b → StepsOn size old grown owner root levels
      (grow_levels root a b levels) taken orders settled on_disk wanted
      (want_of b NODE owner (level_in (old root)) ∷ want_of a NODE owner (level_in (old root)) ∷ [])
  growing_step taken one_a one_b = record {
    pays = growing_pays;
    stands = growing_stands;
    used = is.used;
    ready = growing_ready;
    own = growing_new taken one_a one_b;
  }
