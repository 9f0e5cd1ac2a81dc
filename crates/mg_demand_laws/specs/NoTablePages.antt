-- Only the header and pointer pages lead to pages of tables.
use Rattle.std.specs.Prelude.{◌≡◌, ◌≢◌, ◌<◌, ◌++◌, ◌==◌, ◌+◌, ◌-◌, ◌*◌, ◌/◌, ℕ, zero, suc, Bool, true, false, List, [], Option, None, Some, if◌then◌else◌}
use Rattle.std.proofs.Common.{inl, inr, sym, ap, ◌∙◌, arith}
use Rattle.mg_careful.specs.declared.links.Demand.{Demand}
use Rattle.mg_careful.specs.CarefulWrite.{Has}
use Rattle.mg_image.specs.Inventory.{inventory_page}
use Rattle.mg_image.specs.Records.{slot_cell}
use Rattle.mg_node.specs.NodePage.{count_in as node_count, entry_at, is_inner, level_in, place_of as node_place, right_in}
use Rattle.mg_pip.specs.PipPage.{bits}
use Rattle.mg_slots.specs.DataPage.{cell_of, slot_count}
use Rattle.mg_space.specs.Demands.{back_demands, bit_demand, cell_demands, child_demand, child_demands, data_demands, demand, drawn_demands, is_decided, link_demand, linked, node_demands, right_demands, slot_demands, state_demands, tip_demands, tree_demands, version_demands, wanted_demands}
use Rattle.mg_space.specs.declared.links.TheConstants.{BIT, NEXT, NODE, TRANSACTIONS, VERSION}
use Rattle.mg_tip.specs.TipPage.{places, prev_in, state_in}
use Rattle.mg_version.specs.declared.cell.Cell.{Cell}
use Rattle.mg_version.specs.declared.cell.Cell.TheVariants as cells
use Rattle.mg_version.specs.declared.cell.Link.{Link}
use Rattle.mg_version.specs.declared.cell.Version.{Version}
use Rattle.mg_demand_laws.specs.Met.{has_either, is_demand}

-- none of these demands is of a page of this kind
abbrev pub NoneOf : ℕ → List Demand → Type 0
NoneOf kind ds = (e : Demand) → Has ds e → e.what ≢ kind

-- the kind is that of pointer pages or of data pages
module _ (kind : ℕ) (few : 3 < kind) (most : kind < 6) where
  pub no_demand : (target what a b : ℕ) → what ≢ kind → NoneOf kind (demand target what a b)
  no_demand target what a b ne e h is =
      let same : e.what ≡ what = ap (λ (x : Demand). x.what) (is_demand target what a b e h) in
      ne (sym same ∙ is)

  pub no_empty : NoneOf kind []
  no_empty e h is = h

  pub no_both : (ds es : List Demand) → NoneOf kind ds → NoneOf kind es → NoneOf kind (ds ++ es)
  no_both ds es first second e h is = elim (has_either ds es e h) [
    | inl x ↦ first e x is
    | inr y ↦ second e y is
  ]

  no_if : (c : Bool) (ds es : List Demand) → NoneOf kind ds → NoneOf kind es → NoneOf kind (if c then ds else es)
  no_if true ds es first second = first
  no_if false ds es first second = second

  pub no_bit : (size n : ℕ) → NoneOf kind (bit_demand size n)
  no_bit size n = no_demand (inventory_page size (n / bits size)) BIT n 0 (λ is. omega (arith, is, few, most))

  pub no_linked : (size target what a b : ℕ) → what ≢ kind → NoneOf kind (linked size target what a b)
  no_linked size target what a b ne = no_both (demand target what a b) (bit_demand size target)
      (no_demand target what a b ne) (no_bit size target)

  no_drawn : (size : ℕ) (page : List ℕ) (sequence k : ℕ) → NoneOf kind (drawn_demands size page sequence k)
  no_drawn size page sequence zero = no_empty
  no_drawn size page sequence (suc k) = no_both (drawn_demands size page sequence k)
      (state_demands size page sequence k) (no_drawn size page sequence k)
      (no_if (is_decided (state_in page k)) (demand 0 NEXT (sequence * places size + k) 0) []
      (no_demand 0 NEXT (sequence * places size + k) 0 (λ is. omega (arith, is, few, most))) no_empty)

  pub no_tip : (size : ℕ) (page : List ℕ) (sequence : ℕ) → NoneOf kind (tip_demands size page sequence)
  no_tip size page sequence = no_both (drawn_demands size page sequence (places size))
      (if sequence == 0 then [] else linked size (prev_in page) TRANSACTIONS (sequence - 1) 0)
      (no_drawn size page sequence (places size))
      (no_if (sequence == 0) [] (linked size (prev_in page) TRANSACTIONS (sequence - 1) 0) no_empty
      (no_linked size (prev_in page) TRANSACTIONS (sequence - 1) 0 (λ is. omega (arith, is, few, most))))

  no_link : (link : Link) → NoneOf kind (link_demand link)
  no_link link = no_demand link.rec.page.0 VERSION link.rec.slot link.tx.0 (λ is. omega (arith, is, few, most))

  no_back : (o : Option Link) → NoneOf kind (back_demands o)
  no_back None = no_empty
  no_back (Some link) = no_link link

  no_version : (v : Version) → NoneOf kind (version_demands v)
  no_version v = no_both (demand 0 NEXT v.tx.0 0) (back_demands v.back)
      (no_demand 0 NEXT v.tx.0 0 (λ is. omega (arith, is, few, most))) (no_back v.back)

  no_cell : (c : Option Cell) → NoneOf kind (cell_demands c)
  no_cell None = no_empty
  no_cell (Some (cells.Anchor link)) = no_link link
  no_cell (Some (cells.Version v)) = no_if v.primary (version_demands v) [] (no_version v) no_empty

  no_slots : (page : List ℕ) (k : ℕ) → NoneOf kind (slot_demands page k)
  no_slots page zero = no_empty
  no_slots page (suc k) = no_both (slot_demands page k) (cell_demands (slot_cell (cell_of page k))) (no_slots page k)
      (no_cell (slot_cell (cell_of page k)))

  pub no_data : (page : List ℕ) → NoneOf kind (data_demands page)
  no_data page = no_slots page (slot_count page)

  pub no_wanted : (c : Option Cell) → NoneOf kind (wanted_demands c)
  no_wanted None = no_empty
  no_wanted (Some (cells.Anchor link)) = no_empty
  no_wanted (Some (cells.Version v)) = no_version v

  no_children : (size : ℕ) (page : List ℕ) (owner k : ℕ) → NoneOf kind (child_demands size page owner k)
  no_children size page owner zero = no_empty
  no_children size page owner (suc k) = no_both (child_demands size page owner k)
      (child_demand size page owner (node_place page k)) (no_children size page owner k)
      (no_linked size (entry_at true page (node_place page k)).child.0 NODE owner (level_in page - 1)
      (λ is. omega (arith, is, few, most)))

  pub no_tree : (size : ℕ) (page : List ℕ) (owner : ℕ) → NoneOf kind (tree_demands size page owner)
  no_tree size page owner = no_if (is_inner page) (child_demands size page owner (node_count page)) []
      (no_children size page owner (node_count page)) no_empty

  pub no_node : (size : ℕ) (page : List ℕ) (owner : ℕ) → NoneOf kind (node_demands size page owner)
  no_node size page owner = no_both (right_demands size page owner) (tree_demands size page owner)
      (no_if (right_in page == 0) [] (linked size (right_in page) NODE owner (level_in page)) no_empty
      (no_linked size (right_in page) NODE owner (level_in page) (λ is. omega (arith, is, few, most))))
      (no_tree size page owner)
