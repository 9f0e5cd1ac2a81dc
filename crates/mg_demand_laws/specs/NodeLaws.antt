-- What an index page pays that is made, or comes to have another content.
use Rattle.std.specs.Prelude.{◌≡◌, ◌≢◌, ◌⊎◌, ℕ, Bool, true, List, [], ◌∷◌}
use Rattle.std.proofs.Common.{inl, inr, refl, sym, subst, ap, ◌∙◌, arith}
use Rattle.mg_base.specs.Checks.{PassesAll}
use Rattle.mg_base.specs.Fields.{byte}
use Rattle.mg_careful.specs.declared.links.Demand.{Demand}
use Rattle.mg_careful.specs.Precedence.{Orders}
use Rattle.mg_careful.specs.CarefulWrite.{DemandSet, Has, IsIn, listed}
use Rattle.mg_demand_laws.specs.Bearing.{IsPaid}
use Rattle.mg_demand_laws.specs.CellDemands.{IsBehind}
use Rattle.mg_image.specs.Form.{Pages}
use Rattle.mg_node.specs.NodePage.{level_in, node_checks}
use Rattle.mg_node.specs.declared.entry.TheConstants.{NODE_KIND}
use Rattle.mg_space.specs.Demands.{demands_of, meets_of, right_demands, tree_demands}
use Rattle.mg_space.specs.declared.links.TheConstants.{NODE, TREE, VERSION}
use Rattle.mg_demand_laws.specs.KindLaws.{as_want, from_want, kind_of, owner_of, pointer_kind, tip_kind}
use Rattle.mg_demand_laws.specs.Met.{IsMet, has_back, has_either, has_front, is_met, met_is, of_bit, of_data, of_header, of_listed, of_next, of_node, of_pointer, of_tip, of_tree, of_version}
use Rattle.mg_demand_laws.specs.Steps.{no_more}
use Rattle.mg_demand_laws.specs.TakeLaws.{make_pays, used_same}
use Rattle.mg_demand_laws.specs.VersionLaws.{none_may_go}
use Rattle.mg_demand_laws.specs.Wanting.{IsWanting, Pays, want_of}
use Rattle.mg_demand_laws.specs.WantingLaws.{page_pays}
use Rattle.mg_demand_laws.specs.NodeSteps.{ChangesNode, LeadsOn, MakesNode}

-- an index page with another content: what it newly leads to comes before it
abbrev pub NodePays : Type 0
NodePays = (size : ℕ) (old new : Pages) (n owner : ℕ) (orders : Orders) (settled : ℕ → Bool)
    (on_disk wanted : DemandSet) → ChangesNode size old new n owner wanted → IsWanting size old wanted
    → LeadsOn size (old n) (new n) n owner orders on_disk wanted
    → Pays size old new orders settled on_disk wanted no_more

-- an index page that is made: it is wanted newly, on its level
abbrev pub NewNodePays : Type 0
NewNodePays = (size : ℕ) (old new : Pages) (n owner level : ℕ) (orders : Orders) (settled : ℕ → Bool)
    (on_disk wanted : DemandSet) → IsWanting size old wanted
    → MakesNode size old new n owner level orders on_disk wanted
    → Pays size old new orders settled on_disk wanted (listed (want_of n NODE owner level ∷ []))

pub node_kind : (page : List ℕ) (n owner : ℕ) → PassesAll (node_checks page n owner) → byte page 0 ≡ NODE_KIND
node_kind page n owner passes = kind_of page n NODE_KIND owner 0 passes

-- ---- what is wanted of an index page

module _ (size : ℕ) (pages : Pages) (wanted : DemandSet) (was : IsWanting size pages wanted) (n owner : ℕ) (passes : PassesAll (node_checks (pages n) n owner)) (off : n ≢ 0) where
  -- it is wanted as the top of a tree, or as one of its level
  abbrev IsNodeWant : Demand → Type 0
  IsNodeWant d = (d ≡ want_of n TREE owner d.b) ⊎ ((d ≡ want_of n NODE owner d.b) × (level_in (pages n) ≡ d.b))

  pub node_alone : (d : Demand) → IsIn wanted d → d.target ≡ n → IsNodeWant d
  node_alone d h same = so (is_met size (pages d.target) d (was.whole d.target) (was.keeps.met d h))
    where
      seven : byte (pages d.target) 0 ≡ 7
      seven = ap (λ (m : ℕ). byte (pages m) 0) same ∙ node_kind (pages n) n owner passes

      as_own : (kind : ℕ) → d ≡ want_of d.target kind d.a d.b → PassesAll (node_checks (pages d.target) d.target d.a)
          → d ≡ want_of n kind owner d.b
      as_own kind is its =
          let owned = owner_of (pages n) n NODE_KIND d.a 0 owner 0
          (subst (λ (m : ℕ). PassesAll (node_checks (pages m) m d.a)) same its) passes in
          is ∙ (ap (λ (m : ℕ). want_of m kind d.a d.b) same ∙ ap (λ (m : ℕ). want_of n kind m d.b) owned.0)

      so : IsMet size (pages d.target) d → IsNodeWant d
      so (of_header is head) = absurd (off (sym same ∙ ap (λ (x : Demand). x.target) is))
      so (of_next is head below) = absurd (off (sym same ∙ ap (λ (x : Demand). x.target) is))
      so (of_tip is its) = absurd (let k = tip_kind _ _ _ its in let kind = seven in omega (arith, k, kind))
      so (of_pointer is its) = absurd (let k = pointer_kind _ _ _ _ its in let kind = seven in omega (arith, k, kind))
      so (of_data is its) = absurd (let k = kind_of _ _ _ _ _ its in let kind = seven in omega (arith, k, kind))
      so (of_version is there) = absurd
          (let k = was.on_data d h (ap (λ (x : Demand). x.what) is) in let kind = seven in omega (arith, k, kind))
      so (of_tree is its) = inl (as_own TREE is its)
      so (of_node is its level) = inr (as_own NODE is its, ap (λ (m : ℕ). level_in (pages m)) (sym same) ∙ level)
      so (of_bit is its used) = absurd (let k = kind_of _ _ _ _ _ its in let kind = seven in omega (arith, k, kind))

-- what comes before a page is paid for
paid_by : (orders : Orders) (on_disk wanted more : DemandSet) (n : ℕ) (d e : Demand) → d.target ≡ n
    → IsBehind orders on_disk wanted n e → IsPaid orders on_disk wanted more d e
paid_by orders on_disk wanted more n d e same it = record {
  is_wanted = inl it.is_wanted;
  is_first = subst (λ (m : ℕ). (e.target ≡ m) ⊎ ((orders e.target m ≡ true) ⊎ IsIn on_disk e)) (sym same) it.is_first;
}

none_newly : (d : Demand) → IsIn no_more d → ⊥
none_newly d h = of_listed [] d h

module _ (size : ℕ) (old new : Pages) (n owner : ℕ) (orders : Orders) (settled : ℕ → Bool) (on_disk wanted : DemandSet) (changes : ChangesNode size old new n owner wanted) (was : IsWanting size old wanted) (leads : LeadsOn size (old n) (new n) n owner orders on_disk wanted) where
  on_page : (d : Demand) → IsIn wanted d → d.target ≡ n
      → (d ≡ want_of n TREE owner d.b) ⊎ ((d ≡ want_of n NODE owner d.b) × (level_in (old n) ≡ d.b))
  on_page d h same = node_alone size old wanted was n owner changes.was_passes changes.off_header d h same

  still_on : (d : Demand) → IsIn wanted d → d.target ≡ n → meets_of (new n) d ≡ true
  still_on d h same = at (on_page d h same)
    where
      at : (d ≡ want_of n TREE owner d.b) ⊎ ((d ≡ want_of n NODE owner d.b) × (level_in (old n) ≡ d.b))
          → meets_of (new n) d ≡ true
      at (inl is) = subst (λ (x : Demand). meets_of (new n) x ≡ true) (sym is)
          (met_is size (new n) (want_of n TREE owner d.b) was.lawful changes.len (of_tree refl changes.passes))
      at (inr (is, level)) = subst (λ (x : Demand). meets_of (new n) x ≡ true) (sym is)
          (met_is size (new n) (want_of n NODE owner d.b) was.lawful changes.len (of_node refl changes.passes
          (changes.on_level d h same (ap (λ (x : Demand). x.what) is) ∙ level)))

  links_on : (d e : Demand) → IsIn wanted d → d.target ≡ n → Has (demands_of (new n) d) e
      → Has (demands_of (old n) d) e ⊎ IsPaid orders on_disk wanted no_more d e
  links_on d e h same made = at (on_page d h same)
    where
      at : (d ≡ want_of n TREE owner d.b) ⊎ ((d ≡ want_of n NODE owner d.b) × (level_in (old n) ≡ d.b))
          → Has (demands_of (old n) d) e ⊎ IsPaid orders on_disk wanted no_more d e
      at (inl is) = elim (leads.children e
          (as_want size old wanted was (new n) changes.len (want_of n TREE owner d.b) d e is made)) [
            | inl stood ↦ inl (from_want size old wanted was (old n) (was.whole n) (want_of n TREE owner d.b) d e is stood)
            | inr first ↦ inr (paid_by orders on_disk wanted no_more n d e same first)
          ]
      at (inr (is, level)) = elim (has_either (right_demands size (new n) owner) (tree_demands size (new n) owner) e
          (as_want size old wanted was (new n) changes.len (want_of n NODE owner d.b) d e is made)) [
            | inl x ↦ elim (leads.right e x) [
              | inl stood ↦ inl (from_want size old wanted was (old n) (was.whole n) (want_of n NODE owner d.b) d e is
                  (has_front (right_demands size (old n) owner) (tree_demands size (old n) owner) e stood))
              | inr first ↦ inr (paid_by orders on_disk wanted no_more n d e same first)
            ]
            | inr y ↦ elim (leads.children e y) [
              | inl stood ↦ inl (from_want size old wanted was (old n) (was.whole n) (want_of n NODE owner d.b) d e is
                  (has_back (right_demands size (old n) owner) (tree_demands size (old n) owner) e stood))
              | inr first ↦ inr (paid_by orders on_disk wanted no_more n d e same first)
            ]
          ]

  no_version : (d : Demand) → IsIn wanted d → d.target ≡ n → d.what ≡ VERSION → ⊥
  no_version d h same is = at (on_page d h same)
    where
      at : (d ≡ want_of n TREE owner d.b) ⊎ ((d ≡ want_of n NODE owner d.b) × (level_in (old n) ≡ d.b)) → ⊥
      at (inl one) = let what : d.what ≡ 7 = ap (λ (x : Demand). x.what) one in omega (arith, what, is)
      at (inr (one, level)) = let what : d.what ≡ 8 = ap (λ (x : Demand). x.what) one in omega (arith, what, is)

  pub node_pay : Pays size old new orders settled on_disk wanted no_more
  node_pay = page_pays size old new n orders settled on_disk wanted no_more was (record {
    others = changes.others;
    len = changes.len;
    used = λ m is. used_same size old new n changes.others changes.off_inventory m ∙ is;
    still = still_on;
    links = links_on;
    kept_data = λ d h same is. absurd (no_version d h same is);
    leaves = λ d e h same made may apart. absurd (none_may_go size old wanted was settled n
        (λ five. let seven = node_kind (old n) n owner changes.was_passes in omega (arith, five, seven)) d e h same made may);
    met = λ d h. absurd (none_newly d h);
    new_links = λ d e h made. absurd (none_newly d h);
    new_used = λ d h. absurd (none_newly d h);
    new_data = λ d h is. absurd (none_newly d h);
  })

pub node_pays : NodePays
node_pays size old new n owner orders settled on_disk wanted changes was leads =
    node_pay size old new n owner orders settled on_disk wanted changes was leads

pub new_node_pays : NewNodePays
new_node_pays size old new n owner level orders settled on_disk wanted was makes =
    make_pays size old new n orders settled on_disk wanted (listed (want_of n NODE owner level ∷ [])) was (record {
      others = makes.others;
      len = makes.len;
      off_inventory = makes.off_inventory;
      used = makes.used;
      unwanted = makes.unwanted;
      aimed = λ d h. ap (λ (x : Demand). x.target) (one d h);
      met = λ d h. subst (λ (x : Demand). meets_of (new n) x ≡ true) (sym (one d h))
          (met_is size (new n) (want_of n NODE owner level) was.lawful makes.len (of_node refl makes.passes makes.on_level));
      links = λ d e h made. paid_by orders on_disk wanted (listed (want_of n NODE owner level ∷ [])) n d e
          (ap (λ (x : Demand). x.target) (one d h))
          (makes.leads e (as_want size old wanted was (new n) makes.len (want_of n NODE owner level) d e (one d h) made));
      on_data = λ d h is. absurd (let what : d.what ≡ 8 = ap (λ (x : Demand). x.what) (one d h) in
          omega (arith, what, is));
    })
  where
    one : (d : Demand) → IsIn (listed (want_of n NODE owner level ∷ [])) d → d ≡ want_of n NODE owner level
    one d h = elim (of_listed (want_of n NODE owner level ∷ []) d h) [
      | inl same ↦ same
      | inr none ↦ absurd none
    ]
