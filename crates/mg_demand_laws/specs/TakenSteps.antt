-- The steps of a row that takes its own pages: each pays, and the tree stands and is wanted behind it.
use Rattle.std.specs.Prelude.{◌≡◌, ◌≢◌, ℕ, Bool, false, List, [], ◌∷◌, length}
use Rattle.std.proofs.Common.{inl, inr, sym, subst, ap, ◌∙◌, arith}
use Rattle.std.proofs.lemmas.Bool.{cases_eq}
use Rattle.mg_base.specs.declared.geometry.Geometry.{Geometry}
use Rattle.mg_btree.specs.TakeLaws.{unused_before}
use Rattle.mg_careful.specs.Precedence.{Orders}
use Rattle.mg_careful.specs.declared.links.Demand.{Demand}
use Rattle.mg_careful.specs.CarefulWrite.{DemandSet, Has, IsIn, either, listed}
use Rattle.mg_image.specs.Form.{Pages}
use Rattle.mg_image.specs.Inventory.{inventory_page, is_used}
use Rattle.mg_image.specs.Tables.{Has as IsOneOf}
use Rattle.mg_node.specs.NodePage.{level_in}
use Rattle.mg_space.specs.Demands.{bit_demand}
use Rattle.mg_space.specs.Taking.{IsGeometry, TakesPage, region_of}
use Rattle.mg_space.specs.TakingLaws.{takes_bit}
use Rattle.mg_space.specs.declared.links.TheConstants.{BIT, NODE}
use Rattle.mg_tree_overlay_laws.specs.PoolLaws.{beside_tree, leaf_tree}
use Rattle.mg_tree_overlay_laws.specs.TreeSteps.{InTree, Rewrites, StaysUsed}
use Rattle.mg_demand_laws.specs.Met.{in_listed, is_demand, of_listed}
use Rattle.mg_demand_laws.specs.Steps.{no_more}
use Rattle.mg_demand_laws.specs.TakeLaws.{bit_is_elsewhere, make_pays, take_pays, taken_is_unwanted}
use Rattle.mg_demand_laws.specs.Wanting.{IsWanting, Pays, want_of}
use Rattle.mg_demand_laws.specs.WantingLaws.{either_cases, in_other}
use Rattle.mg_demand_laws.specs.Wants.{bit_there}
use Rattle.mg_demand_laws.specs.Taken.{IsNew, IsReady, StandsWanted, StepsOn}
use Rattle.mg_demand_laws.specs.TakenLaws.{node_of_tree, ready_on, wants_on}
use Rattle.mg_demand_laws.specs.TreeTies.{leaf_pays}

none_newly : (d : Demand) → IsIn no_more d → ⊥
none_newly d h = of_listed [] d h

pub one_newly : (want d : Demand) → IsIn (listed (want ∷ [])) d → d ≡ want
one_newly want d h = elim (of_listed (want ∷ []) d h) [
  | inl same ↦ same
  | inr none ↦ absurd none
]

-- ---- a page is taken

module _ (g : Geometry) (owner root : ℕ) (old new : Pages) (levels : List (List ℕ)) (n m : ℕ) (orders : Orders)
    (settled : ℕ → Bool) (on_disk wanted : DemandSet) (lawful : IsGeometry g) (was : IsWanting g.size old wanted)
    (stands : StandsWanted g.size old owner root levels wanted) (takes : TakesPage g old new m)
    (others : (k : ℕ) → k ≢ n → new k ≡ old k) (used : StaysUsed g.size old new) (fresh : InTree levels n → ⊥) where
  bit_is : (d : Demand) → IsIn (listed (bit_demand g.size m)) d
      → d ≡ want_of (inventory_page g.size (region_of g.size m)) BIT m 0
  bit_is d h = is_demand (inventory_page g.size (region_of g.size m)) BIT m 0 d (of_listed (bit_demand g.size m) d h)

  bit_only : (d : Demand) → IsIn (listed (bit_demand g.size m)) d → d.what ≢ NODE
  bit_only d h node = absurd (let what : d.what ≡ 9 = ap (λ (x : Demand). x.what) (bit_is d h) in omega (arith, what, node))

  pub taking_pays : Pays g.size old new orders settled on_disk wanted (listed (bit_demand g.size m))
  taking_pays = take_pays g old new m orders settled on_disk wanted lawful takes was

  pub taking_stands : StandsWanted g.size new owner root levels (either wanted (listed (bit_demand g.size m)))
  taking_stands = record {
    tree = beside_tree g.size old new owner root levels n others used fresh stands.tree;
    no_inventory = stands.no_inventory;
    wants = wants_on g.size old new owner root levels wanted (listed (bit_demand g.size m))
        (λ k placed apart. ap level_in (others k (λ same. fresh (subst (InTree levels) same placed))))
        (λ d h at. bit_only d h) stands.wants;
  }

  pub taking_new : (taken : List ℕ) (d : Demand) → Has (bit_demand g.size m) d → IsNew g.size old taken d
  taking_new taken d h = inl (ap (λ (x : Demand). x.what) (bit_is d (in_listed (bit_demand g.size m) d h)))

  pub taking_before : (taken : List ℕ) (d : Demand) → IsNew g.size new (m ∷ taken) d → IsNew g.size old taken d
  taking_before taken d (inl bit) = inl bit
  taking_before taken d (inr (node, inl (inl same))) = inr (
    node,
    inr
        (subst (λ (k : ℕ). is_used g.size old k ≡ false) (sym same) takes.free.unused),
  )
  taking_before taken d (inr (node, inl (inr one))) = inr (node, inl one)
  taking_before taken d (inr (node, inr free)) =
      inr (node, inr (unused_before g.size old new d.target used free))

  taken_ready : IsReady g.size new levels (either wanted (listed (bit_demand g.size m))) m
  taken_ready = record {
    off_inventory = takes.free.no_inventory;
    used = takes_bit g old new m lawful takes;
    bit = in_other wanted (listed (bit_demand g.size m)) (want_of (inventory_page g.size (region_of g.size m)) BIT m 0)
        (in_listed (bit_demand g.size m) (want_of (inventory_page g.size (region_of g.size m)) BIT m 0)
        (bit_there g old new m lawful takes));
    unwanted = λ out d h. elim (either_cases wanted (listed (bit_demand g.size m)) d h) [
      | inl x ↦ taken_is_unwanted g old new m orders settled on_disk wanted lawful takes was d x
      | inr y ↦ bit_is_elsewhere g old new m orders settled on_disk wanted lawful takes was d y
    ];
  }

  pub taking_ready : (taken : List ℕ) → ((k : ℕ) → IsOneOf taken k → IsReady g.size old levels wanted k)
      → (k : ℕ) → IsOneOf (m ∷ taken) k
      → IsReady g.size new levels (either wanted (listed (bit_demand g.size m))) k
  taking_ready taken ready k (inl same) =
      subst (λ (j : ℕ). IsReady g.size new levels (either wanted (listed (bit_demand g.size m))) j) (sym same) taken_ready
  taking_ready taken ready k (inr one) = ready_on g.size old new levels levels wanted (listed (bit_demand g.size m)) k used
      (λ placed. placed) (λ d h out same. (ready k one).off_inventory (region_of g.size m)
      (sym (ap (λ (x : Demand). x.target) (bit_is d h)) ∙ same)) (ready k one)

-- ---- a page that was taken gets its content

module _ (size owner root : ℕ) (old new : Pages) (levels : List (List ℕ)) (n : ℕ) (orders : Orders)
    (settled : ℕ → Bool) (on_disk wanted : DemandSet) (was : IsWanting size old wanted)
    (stands : StandsWanted size old owner root levels wanted) (is : IsReady size old levels wanted n)
    (len : length (new n) ≡ size) (others : (k : ℕ) → k ≢ n → new k ≡ old k) (used : StaysUsed size old new)
    (fresh : InTree levels n → ⊥) where
  filling_pays : Pays size old new orders settled on_disk wanted no_more
  filling_pays = make_pays size old new n orders settled on_disk wanted no_more was (record {
    others = others;
    len = len;
    off_inventory = is.off_inventory;
    used = is.used;
    unwanted = is.unwanted fresh;
    aimed = λ d h. absurd (none_newly d h);
    met = λ d h. absurd (none_newly d h);
    links = λ d e h made. absurd (none_newly d h);
    on_data = λ d h what. absurd (none_newly d h);
  })

  filling_stands : StandsWanted size new owner root levels (either wanted no_more)
  filling_stands = record {
    tree = beside_tree size old new owner root levels n others used fresh stands.tree;
    no_inventory = stands.no_inventory;
    wants = wants_on size old new owner root levels wanted no_more
        (λ k placed apart. ap level_in (others k (λ same. fresh (subst (InTree levels) same placed))))
        (λ d h at. absurd (none_newly d h)) stands.wants;
  }

  filling_ready : (k : ℕ) → IsReady size old levels wanted k → IsReady size new levels (either wanted no_more) k
  filling_ready k ready = ready_on size old new levels levels wanted no_more k used (λ placed. placed)
      (λ d h out. absurd (none_newly d h)) ready

  pub filling_step : (taken : List ℕ)
      → StepsOn size old new owner root levels levels taken orders settled on_disk wanted []
  filling_step taken = record {
    pays = filling_pays;
    stands = filling_stands;
    used = used;
    ready = filling_ready;
    own = λ d none. absurd none;
  }

-- ---- a leaf changes in place

module _ (size owner root : ℕ) (old new : Pages) (levels : List (List ℕ)) (n : ℕ) (orders : Orders)
    (settled : ℕ → Bool) (on_disk wanted : DemandSet) (was : IsWanting size old wanted)
    (stands : StandsWanted size old owner root levels wanted) (placed : InTree levels n)
    (is : Rewrites size old new owner n) (low : level_in (old n) ≡ 0) (len : length (new n) ≡ size) where
  leaf_step_pays : Pays size old new orders settled on_disk wanted no_more
  leaf_step_pays = leaf_pays size old new owner n orders settled on_disk wanted is low
      (node_of_tree size old new owner root levels wanted n was.lawful stands placed len) was

  same_level : (k : ℕ) → level_in (new k) ≡ level_in (old k)
  same_level k = elim (cases_eq k n) [
    | inl same ↦ subst (λ (j : ℕ). level_in (new j) ≡ level_in (old j)) (sym same) is.level
    | inr apart ↦ ap level_in (is.others k apart)
  ]

  leaf_stands : StandsWanted size new owner root levels (either wanted no_more)
  leaf_stands = record {
    tree = leaf_tree size old new owner root n levels is low stands.tree;
    no_inventory = stands.no_inventory;
    wants = wants_on size old new owner root levels wanted no_more (λ k there apart. same_level k)
        (λ d h at. absurd (none_newly d h)) stands.wants;
  }

  leaf_ready : (k : ℕ) → IsReady size old levels wanted k → IsReady size new levels (either wanted no_more) k
  leaf_ready k ready = ready_on size old new levels levels wanted no_more k is.used (λ there. there)
      (λ d h out. absurd (none_newly d h)) ready

  pub leaf_step : (taken : List ℕ)
      → StepsOn size old new owner root levels levels taken orders settled on_disk wanted []
  leaf_step taken = record {
    pays = leaf_step_pays;
    stands = leaf_stands;
    used = is.used;
    ready = leaf_ready;
    own = λ d none. absurd none;
  }
