-- What the calls on an index tree leave alone: no page of a table changes by an insertion, nor by a removal.
use Rattle.std.specs.Prelude.{◌≡◌, ◌≢◌, ◌⊎◌, ◌/◌, ℕ, Bool, true, false, List, [], ◌∷◌, Option, length, replicate}
use Rattle.std.proofs.Common.{inl, inr, refl, sym, subst, ap, ◌∙◌, arith}
use Rattle.std.proofs.lemmas.Bool.{cases_eq}
use Rattle.mg_base.specs.Fields.{byte}
use Rattle.mg_base.specs.Geometry.{is_page_size}
use Rattle.mg_base.specs.declared.geometry.Geometry.{Geometry}
use Rattle.mg_btree.specs.Changing.{HasNoInventory, TakesOut}
use Rattle.mg_btree.specs.Inserting.{PutsAndTakes}
use Rattle.mg_btree.specs.RowTakings.{TakesItsPages}
use Rattle.mg_careful.specs.Precedence.{Orders}
use Rattle.mg_careful.specs.declared.links.Demand.{Demand}
use Rattle.mg_careful.specs.CarefulWrite.{DemandSet, listed}
use Rattle.mg_image.specs.Form.{Pages}
use Rattle.mg_image.specs.Indexes.{IsTree}
use Rattle.mg_image.specs.Inventory.{inventory_page, is_used}
use Rattle.mg_image.specs.Tables.{Has as IsOneOf}
use Rattle.mg_node.specs.declared.entry.Entry.{Entry}
use Rattle.mg_pip.specs.PipPage.{bits}
use Rattle.mg_pool.specs.Batch.{Changed, content_in, lists}
use Rattle.mg_space.specs.Taking.{IsLawfulRegion, region_of}
use Rattle.mg_space.specs.TakingLaws.{own_region}
use Rattle.mg_tree_overlay_laws.specs.TreeBatches.{Add, ChangesTree, EntryChange, IsNoInventory, beside, done, grows, inventory_of, leaf, splits}
use Rattle.mg_tree_overlay_laws.specs.TreeSteps.{InTree, grow_levels, split_levels}
use Rattle.mg_demand_laws.specs.KindLaws.{kind_of}
use Rattle.mg_demand_laws.specs.Met.{of_listed}
use Rattle.mg_demand_laws.specs.Taken.{IsNew, PaysTree}
use Rattle.mg_demand_laws.specs.TakenLaws.{tree_fields}
use Rattle.mg_demand_laws.specs.Joint.{IsBesideTables, IsTablePage, LeavesTables}

-- the law: an insertion into a tree leaves tables alone, and so does what it newly wants
abbrev pub InsertionsLeaveTables : Type 0
InsertionsLeaveTables = (g : Geometry) (old new : Pages) (before batch : Changed) (owner root : ℕ)
    (levels : List (List ℕ)) (e : Entry) (it : PutsAndTakes g old new before batch owner root levels e)
    (orders : Orders) (settled : ℕ → Bool) (on_disk wanted : DemandSet) → is_page_size g.size ≡ true
    → IsTree g.size old owner root levels
    → (paid : PaysTree g.size old new owner root [] it.puts.ends orders settled on_disk wanted)
    → LeavesTables g.size old new (listed paid.more)

-- the law: so does a removal
abbrev pub RemovalsLeaveTables : Type 0
RemovalsLeaveTables = (size : ℕ) (old new : Pages) (batch : Changed) (owner root : ℕ) (levels : List (List ℕ)) (e : Entry)
    (was : Bool) (orders : Orders) (settled : ℕ → Bool) (on_disk wanted : DemandSet)
    → TakesOut size old new batch owner root levels e was → IsTree size old owner root levels
    → (paid : PaysTree size old new owner root [] levels orders settled on_disk wanted)
    → LeavesTables size old new (listed paid.more)

-- ---- what is newly wanted

new_none : (size : ℕ) (pages : Pages) (taken : List ℕ) (d : Demand) → IsNew size pages taken d → IsBesideTables d
new_none size pages taken d (inl bit) =
    let nine : d.what ≡ 9 = bit in
    ((λ is. omega (arith, nine, is)), (λ is. omega (arith, nine, is)), (λ is. omega (arith, nine, is)))
new_none size pages taken d (inr (node, more)) =
    let eight : d.what ≡ 8 = node in
    ((λ is. omega (arith, eight, is)), (λ is. omega (arith, eight, is)), (λ is. omega (arith, eight, is)))

-- ---- pages of tables

-- an index page is none
no_node : (size : ℕ) (pages : Pages) (owner root : ℕ) (levels : List (List ℕ)) (n : ℕ)
    → IsTree size pages owner root levels → IsTablePage (pages n) → InTree levels n → ⊥
no_node size pages owner root levels n tree is placed = at is
  where
    seven : byte (pages n) 0 ≡ 7
    seven = kind_of (pages n) n 7 owner 0 (tree_fields size pages owner root levels n tree placed)

    at : IsTablePage (pages n) → ⊥
    at (inl four) = let k = seven in omega (arith, k, four)
    at (inr five) = let k = seven in omega (arith, k, five)

blank_none : (k : ℕ) → byte (replicate k 0) 0 ≡ 0
blank_none k = grind arith

-- nor is a page of the page inventory, or one that is blank
no_region : (page : List ℕ) (at region : ℕ) → IsLawfulRegion at region page → IsTablePage page → ⊥
no_region page at region (inl none) is =
    let zero_ : byte page 0 ≡ 0 = ap (λ (p : List ℕ). byte p 0) none ∙ blank_none (length page) in so zero_ is
  where
    so : byte page 0 ≡ 0 → IsTablePage page → ⊥
    so low (inl four) = omega (arith, low, four)
    so low (inr five) = omega (arith, low, five)
no_region page at region (inr passes) is = so (kind_of page at 2 0 region passes) is
  where
    so : byte page 0 ≡ 2 → IsTablePage page → ⊥
    so two (inl four) = omega (arith, two, four)
    so two (inr five) = omega (arith, two, five)

-- A page of a table at a place of the page inventory stays, where the row takes pages that are elsewhere.
row_leaves : (g : Geometry) (owner root : ℕ) (batch : ℕ → Option (List ℕ)) (orders : Orders) (change : EntryChange)
    (pool last : Pages) (levels ends : List (List ℕ))
    (row : ChangesTree g.size owner root batch orders change pool levels last ends) (taken : List ℕ)
    (at_end : List (List ℕ)) → HasNoInventory g.size at_end → ((n : ℕ) → IsOneOf taken n → InTree at_end n)
    → TakesItsPages g owner root batch orders change pool last levels ends row taken at_end
    → (k m : ℕ) → inventory_of g.size m ≡ k → IsTablePage (pool k) → last k ≡ pool k
row_leaves g owner root batch orders change pool last levels ends (done v ls) taken at_end none placed takes k m at is =
    refl
row_leaves g owner root batch orders change pool last levels ends
    (beside v next w ls es n others used some fresh more) taken at_end none placed (inl (it, takes)) k m at is =
    row_leaves g owner root batch orders change next w ls es more (it.page ∷ taken) at_end none
    (λ j has. elim has [
      | inl same ↦ subst (InTree at_end) (sym same) it.placed
      | inr stood ↦ placed j stood
    ]) takes k m at (subst IsTablePage (sym same_k) is) ∙ same_k
  where
    same_k : next k ≡ v k
    same_k = it.takes.others k (λ here. no_region (v (inventory_page g.size (region_of g.size it.page)))
        (inventory_page g.size (region_of g.size it.page)) (region_of g.size it.page) it.takes.was
        (subst (λ (j : ℕ). IsTablePage (v j)) here is))
row_leaves g owner root batch orders change pool last levels ends
    (beside v next w ls es n others used some fresh more) taken at_end none placed (inr (is_n, len, takes)) k m at is =
    row_leaves g owner root batch orders change next w ls es more taken at_end none placed takes k m at
    (subst IsTablePage (sym same_k) is) ∙ same_k
  where
    same_k : next k ≡ v k
    same_k = others k (λ here. none n (placed n is_n) m (at ∙ here))
row_leaves g owner root batch orders change pool last levels ends
    (splits v split named w ls es l r p e it order no_l no_p below fresh more) taken at_end none placed
    (is_r, len_l, len_p, takes) k m at is =
    row_leaves g owner root batch orders change named w (split_levels l r ls) es more taken at_end none placed takes k m at
    (subst IsTablePage (sym same_k) is) ∙ same_k
  where
    same_k : named k ≡ v k
    same_k = it.rewrites.others k (λ here. no_p m (at ∙ here)) ∙ it.splits.others k (λ here. no_l m (at ∙ here))
row_leaves g owner root batch orders change pool last levels ends
    (grows v grown w ls es a b it order no_root more) taken at_end none placed (is_a, is_b, low, len, takes) k m at is =
    row_leaves g owner root batch orders change grown w (grow_levels root a b ls) es more taken at_end none placed takes
    k m at (subst IsTablePage (sym same_k) is) ∙ same_k
  where
    same_k : grown k ≡ v k
    same_k = it.others k (λ here. no_root m (at ∙ here))
row_leaves g owner root batch orders change pool last levels ends
    (leaf v next w ls es n it low entries some no_n more) taken at_end none placed (there, len, takes) k m at is =
    row_leaves g owner root batch orders change next w ls es more taken at_end none placed takes k m at
    (subst IsTablePage (sym same_k) is) ∙ same_k
  where
    same_k : next k ≡ v k
    same_k = it.others k (λ here. no_n m (at ∙ here))

-- a page that is not that of its own region is none of the page inventory
no_inventory : (size n : ℕ) → is_page_size size ≡ true → inventory_of size n ≢ n → IsNoInventory size n
no_inventory size n lawful off m at = off (ap (λ (j : ℕ). inventory_of size j) (sym at)
    ∙ (ap (λ (r : ℕ). inventory_page size r) (own_region size (m / bits size) lawful) ∙ at))

pub insertions_leave_tables : InsertionsLeaveTables
insertions_leave_tables g old new before batch owner root levels e it orders settled on_disk wanted lawful tree paid =
    record {
      pages = λ n used is. elim (cases_eq (inventory_of g.size n) n) [
        | inl at ↦ row_leaves g owner root (content_in batch.pages) (lists batch.orders) (Add e) old new levels
            it.puts.ends it.puts.row [] it.puts.ends it.puts.no_inventory (λ j has. absurd has) it.takes n n at is
        | inr off ↦ it.puts.others n (λ placed. in_use n used is (it.puts.fresh n placed))
            (no_inventory g.size n lawful off)
      ];
      none = λ d h. new_none g.size old [] d (paid.own d (of_listed paid.more d h));
    }
  where
    in_use : (n : ℕ) → is_used g.size old n ≡ true → IsTablePage (old n)
        → InTree levels n ⊎ (is_used g.size old n ≡ false) → ⊥
    in_use n used is (inl placed) = no_node g.size old owner root levels n tree is placed
    in_use n used is (inr free) = let both : true ≡ false = sym used ∙ free in cc

pub removals_leave_tables : RemovalsLeaveTables
removals_leave_tables size old new batch owner root levels e was orders settled on_disk wanted takes tree paid = record {
  pages = λ n used is. takes.others n (λ placed. no_node size old owner root levels n tree is placed);
  none = λ d h. new_none size old [] d (paid.own d (of_listed paid.more d h));
}
