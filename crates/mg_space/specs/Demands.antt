-- What the pages of a database demand of each other: by the bytes of one page, and what is wanted of
-- it, which things it has to lead to. No link is followed here.
use Rattle.std.specs.Prelude.{◌≡◌, ◌+◌, ◌*◌, ◌/◌, ◌%◌, ◌-◌, ◌==◌, ◌&&◌, ◌++◌, ℕ, zero, suc, Bool, true, false, nat_lt, List, [], ◌∷◌, length, Option, None, Some, is_ok, if◌then◌else◌}
use Rattle.mg_base.specs.Checks.{common_checks, verdict}
use Rattle.mg_base.specs.Fields.{u32_at}
use Rattle.mg_base.specs.Geometry.{is_page_size}
use Rattle.mg_base.specs.declared.numbers.PageNo.{PageNo}
use Rattle.mg_base.specs.declared.transaction.TxState.{TxState}
use Rattle.mg_base.specs.declared.transaction.TxState.TheVariants.{Active, Committed, Dead, Limbo}
use Rattle.mg_careful.specs.declared.links.Demand.{Demand}
use Rattle.mg_header.specs.HeaderPage.{header_in, reading}
use Rattle.mg_image.specs.Inventory.{inventory_page}
use Rattle.mg_image.specs.Records.{slot_cell}
use Rattle.mg_node.specs.NodePage.{count_in as node_count, entry_at, is_inner, level_in, node_checks, place_of as node_place, right_in}
use Rattle.mg_pip.specs.PipPage.{bits, pip_checks, used_in}
use Rattle.mg_pointer.specs.PointerPage.{capacity, count_in, next_in, place_of, pointer_checks}
use Rattle.mg_slots.specs.DataPage.{cell_of, slot_count}
use Rattle.mg_slots.specs.declared.page.TheConstants.{DATA_KIND}
use Rattle.mg_tip.specs.TipPage.{places, prev_in, state_in, tip_checks}
use Rattle.mg_version.specs.declared.cell.Cell.{Cell}
use Rattle.mg_version.specs.declared.cell.Cell.TheVariants as cells
use Rattle.mg_version.specs.declared.cell.Link.{Link}
use Rattle.mg_version.specs.declared.cell.Version.{Version}
use Rattle.mg_space.specs.declared.links.TheConstants.{HEADER, NEXT, TRANSACTIONS, POINTER, DATA, VERSION, TREE, NODE, BIT}

-- a demand, where its numbers fit its fields; no database has a page or transaction that does not
unfoldable pub demand : ℕ → ℕ → ℕ → ℕ → List Demand
demand target what a b =
    if nat_lt target 4294967296 && nat_lt a 4294967296 && nat_lt b 4294967296
    then record { target = target; what = what; a = a; b = b } ∷ [] else []

-- the page is marked as used in the inventory page of its region
abbrev pub bit_demand : ℕ → ℕ → List Demand
bit_demand size page = demand (inventory_page size (page / bits size)) BIT page 0

-- a page has something, and is marked as used
abbrev pub linked : ℕ → ℕ → ℕ → ℕ → ℕ → List Demand
linked size target what a b = demand target what a b ++ bit_demand size target

-- ---- what is demanded in turn

-- by the header: the last transaction inventory page, that of the last transaction drawn, and the
-- catalog's first pointer page
abbrev pub header_demands : ℕ → List ℕ → List Demand
header_demands size b =
    linked size (header_in b).last_tip.0 TRANSACTIONS (((header_in b).next.0 - 1) / places size) 0
    ++ linked size (header_in b).catalog.0 POINTER (header_in b).catalog.0 0

-- whether a state is one that only a drawn transaction has
abbrev pub is_decided : TxState → Bool
is_decided Active = false
is_decided Limbo = true
is_decided Dead = false
is_decided Committed = true

-- by the state at a place: that the transaction is drawn
abbrev pub state_demands : ℕ → List ℕ → ℕ → ℕ → List Demand
state_demands size b sequence place =
    if is_decided (state_in b place) then demand 0 NEXT (sequence * places size + place) 0 else []

-- by the states at the places below one
abbrev pub drawn_demands : ℕ → List ℕ → ℕ → ℕ → List Demand
drawn_demands size b sequence zero = []
drawn_demands size b sequence (suc place) =
    drawn_demands size b sequence place ++ state_demands size b sequence place

-- by a transaction inventory page: that its transactions are drawn, and the page before it
abbrev pub tip_demands : ℕ → List ℕ → ℕ → List Demand
tip_demands size b sequence = drawn_demands size b sequence (places size)
    ++ (if sequence == 0 then [] else linked size (prev_in b) TRANSACTIONS (sequence - 1) 0)

-- by an entry: its data page, with its place among those of its table, since all earlier pointer pages
-- are full
abbrev pub entry_demand : ℕ → List ℕ → ℕ → ℕ → ℕ → List Demand
entry_demand size b owner sequence n =
    linked size (u32_at b (place_of n)) DATA owner (sequence * capacity size + n)

-- by the entries before one
abbrev pub entry_demands : ℕ → List ℕ → ℕ → ℕ → ℕ → List Demand
entry_demands size b owner sequence zero = []
entry_demands size b owner sequence (suc n) =
    entry_demands size b owner sequence n ++ entry_demand size b owner sequence n

-- by a pointer page: its data pages, and the next pointer page
abbrev pub pointer_demands : ℕ → List ℕ → ℕ → ℕ → List Demand
pointer_demands size b owner sequence = entry_demands size b owner sequence (count_in b)
    ++ (if next_in b == 0 then [] else linked size (next_in b) POINTER owner (sequence + 1))

-- by a link: the version that it leads to
abbrev pub link_demand : Link → List Demand
link_demand link = demand link.rec.page.0 VERSION link.rec.slot link.tx.0

abbrev pub back_demands : Option Link → List Demand
back_demands None = []
back_demands (Some link) = link_demand link

-- by a version: that its transaction is drawn, and the version before it
abbrev pub version_demands : Version → List Demand
version_demands v = demand 0 NEXT v.tx.0 0 ++ back_demands v.back

-- by a cell, as one of a data page: an anchor leads to its record's newest version, and a version in
-- its primary slot is that itself
abbrev pub cell_demands : Option Cell → List Demand
cell_demands None = []
cell_demands (Some (cells.Anchor link)) = link_demand link
cell_demands (Some (cells.Version v)) = if v.primary then version_demands v else []

-- by the slots below one
abbrev pub slot_demands : List ℕ → ℕ → List Demand
slot_demands b zero = []
slot_demands b (suc slot) = slot_demands b slot ++ cell_demands (slot_cell (cell_of b slot))

-- by a data page
abbrev pub data_demands : List ℕ → List Demand
data_demands b = slot_demands b (slot_count b)

-- by a cell that is wanted as a version
abbrev pub wanted_demands : Option Cell → List Demand
wanted_demands None = []
wanted_demands (Some (cells.Anchor link)) = []
wanted_demands (Some (cells.Version v)) = version_demands v

-- by the entry of an inner index page at a place: its child, on the level below
abbrev pub child_demand : ℕ → List ℕ → ℕ → ℕ → List Demand
child_demand size b owner at = linked size (entry_at true b at).child.0 NODE owner (level_in b - 1)

-- by the entries of an inner index page before one
abbrev pub child_demands : ℕ → List ℕ → ℕ → ℕ → List Demand
child_demands size b owner zero = []
child_demands size b owner (suc n) =
    child_demands size b owner n ++ child_demand size b owner (node_place b n)

-- by an index page, as the top of a tree: its children; a leaf has none
abbrev pub tree_demands : ℕ → List ℕ → ℕ → List Demand
tree_demands size b owner =
    if is_inner b then child_demands size b owner (node_count b) else []

-- by an index page: its right neighbour, on its own level
abbrev pub right_demands : ℕ → List ℕ → ℕ → List Demand
right_demands size b owner =
    if right_in b == 0 then [] else linked size (right_in b) NODE owner (level_in b)

-- by an index page, as one of its level
abbrev pub node_demands : ℕ → List ℕ → ℕ → List Demand
node_demands size b owner = right_demands size b owner ++ tree_demands size b owner

-- by a page with so many bytes, of which a thing is wanted
abbrev pub demands_by : ℕ → List ℕ → Demand → List Demand
demands_by size b want =
    if want.what == HEADER then header_demands size b
    else if want.what == TRANSACTIONS then tip_demands size b want.a
    else if want.what == POINTER then pointer_demands size b want.a want.b
    else if want.what == DATA then data_demands b
    else if want.what == VERSION then wanted_demands (slot_cell (cell_of b want.a))
    else if want.what == TREE then tree_demands size b want.a
    else if want.what == NODE then node_demands size b want.a
    else []

-- by bytes: only a page demands something
unfoldable pub demands_of : List ℕ → Demand → List Demand
demands_of b want = if is_page_size (length b) then demands_by (length b) b want else []

-- ---- whether a page has what is wanted

-- whether it is a header page with lawful fields
abbrev pub is_header : ℕ → List ℕ → Bool
is_header size b = is_ok (reading b size)

-- whether a cell is a version of a transaction
abbrev pub is_version_of : ℕ → Option Cell → Bool
is_version_of t None = false
is_version_of t (Some (cells.Anchor link)) = false
is_version_of t (Some (cells.Version v)) = v.tx.0 == t

-- whether a page is the inventory page of another one, and has its bit
abbrev pub meets_bit : ℕ → List ℕ → PageNo → ℕ → Bool
meets_bit size b page n =
    is_ok (verdict page (pip_checks b page.0 (n / bits size))) && used_in b (n % bits size)

-- whether a page is an index page of an owner
abbrev pub meets_tree : List ℕ → PageNo → ℕ → Bool
meets_tree b page owner = is_ok (verdict page (node_checks b page.0 owner))

-- the page that is wanted
abbrev pub target_of : Demand → PageNo
target_of want = record { 0 = want.target }

abbrev pub meets_by : ℕ → List ℕ → Demand → Bool
meets_by size b want =
    if want.what == HEADER then want.target == 0 && is_header size b
    else if want.what == NEXT
    then want.target == 0 && (is_header size b && nat_lt want.a (header_in b).next.0)
    else if want.what == TRANSACTIONS
    then is_ok (verdict (target_of want) (tip_checks b want.target want.a))
    else if want.what == POINTER
    then is_ok (verdict (target_of want) (pointer_checks b want.target want.a want.b))
    else if want.what == DATA
    then is_ok (verdict (target_of want) (common_checks b want.target DATA_KIND want.a want.b))
    else if want.what == VERSION then is_version_of want.b (slot_cell (cell_of b want.a))
    else if want.what == TREE then meets_tree b (target_of want) want.a
    else if want.what == NODE
    then meets_tree b (target_of want) want.a && (level_in b == want.b)
    else if want.what == BIT
    then meets_bit size b (target_of want) want.a
    else false

unfoldable pub meets_of : List ℕ → Demand → Bool
meets_of b want = is_page_size (length b) && meets_by (length b) b want

-- ---- lists that grow

-- a list begins with another one
pub record Begins (old new : List Demand) : Type 0 where
  pub more : List Demand
  pub is : new ≡ old ++ more
