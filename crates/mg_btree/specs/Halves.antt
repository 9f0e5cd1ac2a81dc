-- An index page with its content, its two halves, and what an entry more on it is.
use Rattle.std.specs.Prelude.{◌≡◌, ◌≤◌, ◌==◌, ◌⊎◌, ℕ, List, [], ◌∷◌, ◌++◌, length, map, Some, IfSome, if◌then◌else◌}
use Rattle.mg_base.specs.Checks.{PassesAll}
use Rattle.mg_base.specs.declared.damage.Damaged.{Damaged}
use Rattle.mg_base.specs.declared.damage.Field.TheVariants.{Entry as EntryField}
use Rattle.mg_base.specs.declared.numbers.PageNo.{PageNo}
use Rattle.mg_node.specs.declared.entry.Entry.{Entry}
use Rattle.mg_node.specs.NodePage.{IsAtLeast, IsBelow, IsNodePage, SamePlace, count_in, entries_of, high_of, is_inner, level_in, low_of, node_checks, right_in}
use Rattle.mg_node.specs.NodeTests.{HasEnough}
use Rattle.mg_node_writing.specs.ChangePromises.{InsertsBehindFirst}
use Rattle.mg_node_writing.specs.Moves.{as_fence, entry_len}
use Rattle.mg_node_writing.specs.NodeChanges.{KeepsNode, most_need, room_in}
use Rattle.mg_node_writing.specs.Splits.{SplitsNode}
use Rattle.mg_pool.specs.declared.fault.PoolFault.TheVariants as pool_faults
use Rattle.mg_space.specs.declared.fault.SpaceFault.{SpaceFault}
use Rattle.mg_space.specs.declared.fault.SpaceFault.TheVariants.{Full, Pool as OfPool, Damaged as OfPage}
use Rattle.mg_btree.specs.declared.halves.Halves.{Halves}
use Rattle.mg_btree.specs.declared.halves.PageBytes.{PageBytes}

-- the pages that an index page names: its right neighbour, and in an inner page its children
abbrev pub names_in : List ℕ → List PageNo
names_in page =
    (if right_in page == 0 then [] else (record { 0 = right_in page } ∷ []))
    ++ (if is_inner page then map (λ e. e.child) (entries_of page) else [])

-- the half to which an entry belongs: the left one where it comes before the fence
pub record IsHalfFor (halves : Halves) (e : Entry) (half : PageBytes) : Type 0 where
  pub lower : IsBelow e halves.fence → half ≡ halves.left
  pub upper : IsAtLeast e halves.fence → half ≡ halves.right

-- a page has room for an entry
abbrev pub HasRoom : List ℕ → Entry → Type 0
HasRoom page e = entry_len (is_inner page) e ≤ room_in page

-- an entry lies between the fences that a page's bytes say
abbrev pub CoversBy : List ℕ → Entry → Type 0
CoversBy page e = IfSome (low_of page) (λ fence. IsAtLeast e fence)
    × IfSome (high_of page) (λ fence. IsBelow e fence)

-- A lawful index page on a level, between whose fences an entry lies.
pub record IsPlaceFor (size owner level : ℕ) (e : Entry) (page : PageBytes) : Type 0 where
  pub len : length page.bytes ≡ size
  pub fields : PassesAll (node_checks page.bytes page.page.0 owner)
  pub lawful : IsNodePage page.bytes
  pub enough : HasEnough page.bytes
  pub on_level : level_in page.bytes ≡ level
  pub covers : CoversBy page.bytes e

-- The contents of a page that was split: of the page itself, and of its new right neighbour `at`.
pub record IsSplitPair (old : List ℕ) (at : ℕ) (left right : List ℕ) : Type 0 where
  pub splits : SplitsNode old left right at
  pub left_lawful : IsNodePage left
  pub right_lawful : IsNodePage right
  pub left_two : 2 ≤ count_in left
  pub right_two : 2 ≤ count_in right
  pub left_room : most_need left ≤ room_in left
  pub right_room : most_need right ≤ room_in right

-- Such a page has room for the entry, too.
pub record IsRoomy (size owner level : ℕ) (e : Entry) (page : PageBytes) : Type 0 where
  pub place : IsPlaceFor size owner level e page
  pub room : HasRoom page.bytes e

-- The content of a page was split: the first entries stand under the page's own number, the others
-- under another one. `fence` is the entry for the right half on the page above.
pub record AreHalves (old : List ℕ) (own at : ℕ) (halves : Halves) : Type 0 where
  pub left_own : halves.left.page.0 ≡ own
  pub right_own : halves.right.page.0 ≡ at
  pub pair : IsSplitPair old at halves.left.bytes halves.right.bytes
  pub fence : low_of halves.right.bytes ≡ Some (as_fence halves.fence)
  pub child : halves.fence.child.0 ≡ at
  pub names : halves.names.items ≡ names_in halves.right.bytes

-- one of these entries has the place of another one
abbrev pub HasPlace : List Entry → Entry → Type 0
HasPlace [] e = ⊥
HasPlace (f ∷ fs) e = SamePlace e f ⊎ HasPlace fs e

-- An inner page has an entry more, behind its first one.
pub record NamesMore (old new : List ℕ) (e : Entry) : Type 0 where
  pub keeps : KeepsNode old new
  pub lawful : IsNodePage new
  pub inserts : InsertsBehindFirst old new e

-- the damage that is told of a page with an entry that it should not have
abbrev pub is_entry_there : PageNo → Damaged
is_entry_there at = record { page = at; field = EntryField; found = 1; wanted = 0 }

-- an entry is not put into a page for want of memory, or where the page has one of its place
abbrev pub RefusesName : PageNo → List ℕ → Entry → SpaceFault → Type 0
RefusesName at page e (Full limit) = ⊥
RefusesName at page e (OfPage damage) = HasPlace (entries_of page) e × (damage ≡ is_entry_there at)
RefusesName at page e (OfPool fault) = fault ≡ pool_faults.Memory
