-- Only data pages lead to versions.
use Rattle.std.specs.Prelude.{◌≡◌, ◌≢◌, ◌⊎◌, ◌++◌, ◌==◌, ◌+◌, ◌-◌, ◌*◌, ◌/◌, ℕ, zero, suc, Bool, true, false, not, List, [], ◌∷◌, length, if◌then◌else◌}
use Rattle.std.proofs.Common.{inl, inr, sym, subst, ap, ◌∙◌, arith}
use Rattle.std.proofs.lemmas.Bool.{and_parts, eqb-true, not-true}
use Rattle.mg_base.specs.Fields.{byte, u32_at}
use Rattle.mg_careful.specs.declared.links.Demand.{Demand}
use Rattle.mg_careful.specs.Precedence.{Orders}
use Rattle.mg_careful.specs.CarefulWrite.{DemandSet, Has, IsIn}
use Rattle.mg_demand_laws.specs.Freeing.{KeepsLinks}
use Rattle.mg_header.specs.HeaderPage.{header_in}
use Rattle.mg_image.specs.Form.{Pages}
use Rattle.mg_image.specs.Inventory.{inventory_page}
use Rattle.mg_node.specs.NodePage.{count_in as node_count, entry_at, is_inner, level_in, place_of as node_place, right_in}
use Rattle.mg_pip.specs.PipPage.{bits}
use Rattle.mg_pointer.specs.PointerPage.{capacity, count_in, next_in, place_of}
use Rattle.mg_slots.specs.declared.page.TheConstants.{DATA_KIND}
use Rattle.mg_space.specs.Demands.{bit_demand, child_demand, child_demands, demand, demands_by, demands_of, drawn_demands, entry_demand, entry_demands, header_demands, is_decided, linked, node_demands, pointer_demands, right_demands, state_demands, tip_demands, tree_demands}
use Rattle.mg_space.specs.declared.links.TheConstants.{BIT, DATA, HEADER, NEXT, NODE, POINTER, TRANSACTIONS, TREE, VERSION}
use Rattle.mg_tip.specs.TipPage.{places, prev_in, state_in}
use Rattle.mg_demand_laws.specs.KindLaws.{as_want, kind_of}
use Rattle.mg_demand_laws.specs.Met.{IsMet, has_either, is_demand, is_met, of_bit, of_data, of_header, of_next, of_node, of_pointer, of_tip, of_tree, of_version}
use Rattle.mg_demand_laws.specs.Wanting.{IsWanting, may_go, want_of}

-- none of these demands is of a version
abbrev pub NoVersion : List Demand → Type 0
NoVersion ds = (e : Demand) → Has ds e → e.what ≢ VERSION

pub none_demand : (target what a b : ℕ) → what ≢ VERSION → NoVersion (demand target what a b)
none_demand target what a b ne e h is =
    let same : e.what ≡ what = ap (λ (x : Demand). x.what) (is_demand target what a b e h) in
    ne (sym same ∙ is)

pub none_empty : NoVersion []
none_empty e h is = absurd h

pub none_both : (ds es : List Demand) → NoVersion ds → NoVersion es → NoVersion (ds ++ es)
none_both ds es first second e h is = elim (has_either ds es e h) [
  | inl x ↦ first e x is
  | inr y ↦ second e y is
]

pub none_linked : (size target what a b : ℕ) → what ≢ VERSION → NoVersion (linked size target what a b)
none_linked size target what a b ne = none_both (demand target what a b) (bit_demand size target)
    (none_demand target what a b ne)
    (none_demand (inventory_page size (target / bits size)) BIT target 0 (λ is. omega (arith, is)))

none_if : (c : Bool) (ds es : List Demand) → NoVersion ds → NoVersion es
    → NoVersion (if c then ds else es)
none_if true ds es first second = first
none_if false ds es first second = second

none_header : (size : ℕ) (page : List ℕ) → NoVersion (header_demands size page)
none_header size page = none_both
    (linked size (header_in page).last_tip.0 TRANSACTIONS (((header_in page).next.0 - 1) / places size) 0)
    (linked size (header_in page).catalog.0 POINTER (header_in page).catalog.0 0)
    (none_linked size (header_in page).last_tip.0 TRANSACTIONS (((header_in page).next.0 - 1) / places size) 0
    (λ is. omega (arith, is)))
    (none_linked size (header_in page).catalog.0 POINTER (header_in page).catalog.0 0 (λ is. omega (arith, is)))

none_drawn : (size : ℕ) (page : List ℕ) (sequence k : ℕ) → NoVersion (drawn_demands size page sequence k)
none_drawn size page sequence zero = none_empty
none_drawn size page sequence (suc k) = none_both (drawn_demands size page sequence k)
    (state_demands size page sequence k) (none_drawn size page sequence k)
    (none_if (is_decided (state_in page k)) (demand 0 NEXT (sequence * places size + k) 0) []
    (none_demand 0 NEXT (sequence * places size + k) 0 (λ is. omega (arith, is))) none_empty)

none_tip : (size : ℕ) (page : List ℕ) (sequence : ℕ) → NoVersion (tip_demands size page sequence)
none_tip size page sequence = none_both (drawn_demands size page sequence (places size))
    (if sequence == 0 then [] else linked size (prev_in page) TRANSACTIONS (sequence - 1) 0)
    (none_drawn size page sequence (places size))
    (none_if (sequence == 0) [] (linked size (prev_in page) TRANSACTIONS (sequence - 1) 0) none_empty
    (none_linked size (prev_in page) TRANSACTIONS (sequence - 1) 0 (λ is. omega (arith, is))))

none_entries : (size : ℕ) (page : List ℕ) (owner sequence k : ℕ)
    → NoVersion (entry_demands size page owner sequence k)
none_entries size page owner sequence zero = none_empty
none_entries size page owner sequence (suc k) = none_both (entry_demands size page owner sequence k)
    (entry_demand size page owner sequence k) (none_entries size page owner sequence k)
    (none_linked size (u32_at page (place_of k)) DATA owner (sequence * capacity size + k)
    (λ is. omega (arith, is)))

none_pointer : (size : ℕ) (page : List ℕ) (owner sequence : ℕ)
    → NoVersion (pointer_demands size page owner sequence)
none_pointer size page owner sequence = none_both (entry_demands size page owner sequence (count_in page))
    (if next_in page == 0 then [] else linked size (next_in page) POINTER owner (sequence + 1))
    (none_entries size page owner sequence (count_in page))
    (none_if (next_in page == 0) [] (linked size (next_in page) POINTER owner (sequence + 1)) none_empty
    (none_linked size (next_in page) POINTER owner (sequence + 1) (λ is. omega (arith, is))))

none_children : (size : ℕ) (page : List ℕ) (owner k : ℕ) → NoVersion (child_demands size page owner k)
none_children size page owner zero = none_empty
none_children size page owner (suc k) = none_both (child_demands size page owner k)
    (child_demand size page owner (node_place page k)) (none_children size page owner k)
    (none_linked size (entry_at true page (node_place page k)).child.0 NODE owner (level_in page - 1)
    (λ is. omega (arith, is)))

none_tree : (size : ℕ) (page : List ℕ) (owner : ℕ) → NoVersion (tree_demands size page owner)
none_tree size page owner = none_if (is_inner page) (child_demands size page owner (node_count page)) []
    (none_children size page owner (node_count page)) none_empty

none_node : (size : ℕ) (page : List ℕ) (owner : ℕ) → NoVersion (node_demands size page owner)
none_node size page owner = none_both (right_demands size page owner) (tree_demands size page owner)
    (none_if (right_in page == 0) [] (linked size (right_in page) NODE owner (level_in page)) none_empty
    (none_linked size (right_in page) NODE owner (level_in page) (λ is. omega (arith, is))))
    (none_tree size page owner)

-- a page that leads to a version is a data page
module _ (size : ℕ) (pages : Pages) (wanted : DemandSet) (was : IsWanting size pages wanted) (d e : Demand) (h : IsIn wanted d) (made : Has (demands_of (pages d.target) d) e) (is : e.what ≡ VERSION) where
  abbrev page : List ℕ
  page = pages d.target

  none_of : (want : Demand) → d ≡ want → NoVersion (demands_by size page want) → ⊥
  none_of want same none = none e
      (as_want size pages wanted was page (was.whole d.target) want d e same made) is

  pub leads_from_data : byte (pages d.target) 0 ≡ DATA_KIND
  leads_from_data = so (is_met size page d (was.whole d.target) (was.keeps.met d h))
    where
      so : IsMet size page d → byte page 0 ≡ DATA_KIND
      so (of_header same head) = absurd (none_of (want_of 0 HEADER d.a d.b) same (none_header size page))
      so (of_next same head below) = absurd (none_of (want_of 0 NEXT d.a d.b) same none_empty)
      so (of_tip same passes) =
          absurd (none_of (want_of d.target TRANSACTIONS d.a d.b) same (none_tip size page d.a))
      so (of_pointer same passes) =
          absurd (none_of (want_of d.target POINTER d.a d.b) same (none_pointer size page d.a d.b))
      so (of_data same passes) = kind_of page d.target DATA_KIND d.a d.b passes
      so (of_version same there) = was.on_data d h (ap (λ (x : Demand). x.what) same)
      so (of_tree same passes) =
          absurd (none_of (want_of d.target TREE d.a d.b) same (none_tree size page d.a))
      so (of_node same passes level) =
          absurd (none_of (want_of d.target NODE d.a d.b) same (none_node size page d.a))
      so (of_bit same passes used) = absurd (none_of (want_of d.target BIT d.a d.b) same none_empty)

-- what may be dropped is a version
pub may_is_version : (settled : ℕ → Bool) (e : Demand) → may_go settled e ≡ true
    → (e.what ≡ VERSION) × (settled e.b ≡ false)
may_is_version settled e may =
    let parts = and_parts (e.what == VERSION) _ may in
    (eqb-true e.what VERSION parts.0, not-true _ parts.1)

-- so a page that is no data page leads to nothing that may be dropped
pub none_may_go : (size : ℕ) (pages : Pages) (wanted : DemandSet) → IsWanting size pages wanted
    → (settled : ℕ → Bool) (b : ℕ) → byte (pages b) 0 ≢ DATA_KIND → (d e : Demand) → IsIn wanted d
    → d.target ≡ b → Has (demands_of (pages b) d) e → may_go settled e ≡ true → ⊥
none_may_go size pages wanted was settled b other d e h same made may =
    other (subst (λ (n : ℕ). byte (pages n) 0 ≡ DATA_KIND) same
    (leads_from_data size pages wanted was d e h
    (subst (λ (n : ℕ). Has (demands_of (pages n) d) e) (sym same) made)
    (may_is_version settled e may).0))
