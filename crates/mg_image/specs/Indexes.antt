-- Index trees: their levels, their fences, and how an entry is found from the root.
use Rattle.std.specs.Prelude.{◌≡◌, ◌≢◌, ◌⊎◌, ◌<◌, ◌≤◌, ◌==◌, ℕ, false, not, List, [], ◌∷◌, ◌++◌, length, Option, Some, IfSome}
use Rattle.std.proofs.Common.{get_or}
use Rattle.mg_base.specs.declared.numbers.RecId.{RecId}
use Rattle.mg_value.specs.declared.value.Value.TheVariants.{Null}
use Rattle.mg_node.specs.declared.entry.Entry.{Entry}
use Rattle.mg_node.specs.NodePage.{IsAtLeast, IsBelow, IsNodePage, count_in, entries_of, has_high, has_low, high_of, level_in, low_of, node_checks, right_in}
use Rattle.mg_sortkey.specs.KeyBytes.{key_bytes}
use Rattle.mg_model.specs.declared.table.Index.{Index}
use Rattle.mg_image.specs.Form.{Pages, Row}
use Rattle.mg_image.specs.Reached.{IsAsWanted}
use Rattle.mg_image.specs.Tables.{Has, LinkChain}

-- the pages of a level from one on, each followed by its right neighbour
abbrev pub LevelChain : Pages → ℕ → List ℕ → Type 0
LevelChain pages first ns = LinkChain (λ n. right_in (pages n)) first ns

-- the child that the first of these entries names
abbrev pub first_child : List Entry → ℕ
first_child [] = 0
first_child (e ∷ es) = e.child.0

-- the levels from a page on, each from its leftmost page on: the level of the page, and those from
-- its first child on
pub data Levels (pages : Pages) : ℕ → List (List ℕ) → Type 0 where
  lowest : (n : ℕ) (level : List ℕ) → LevelChain pages n level → Levels pages n (level ∷ [])
  above : (n : ℕ) (level next : List ℕ) (below : List (List ℕ)) → LevelChain pages n level
      → Levels pages (first_child (entries_of (pages n))) (next ∷ below)
      → Levels pages n (level ∷ next ∷ below)

-- an entry as a fence
abbrev pub as_fence : Entry → Entry
as_fence e = record e { child = record { 0 = 0 } }

-- each child of these entries is one of these pages, and its low fence is its entry
abbrev pub AreChildren : Pages → List ℕ → List Entry → Type 0
AreChildren pages level [] = Unit {0}
AreChildren pages level (e ∷ es) =
    Has level e.child.0 × (low_of (pages e.child.0) ≡ Some (as_fence e))
    × AreChildren pages level es

-- the same of all entries of a page with this low fence, where the first child has that fence too
abbrev pub HasChildren : Pages → List ℕ → Option Entry → List Entry → Type 0
HasChildren pages level low [] = Unit {0}
HasChildren pages level low (e ∷ es) =
    Has level e.child.0 × (low_of (pages e.child.0) ≡ low) × AreChildren pages level es

-- A page of an index, so many levels above the leaves, above the pages of a level.
pub record IsNode (size : ℕ) (pages : Pages) (owner level : ℕ) (below : List ℕ) (n : ℕ)
    : Type 0 where
  pub wanted : IsAsWanted size pages n (node_checks (pages n) n owner)
  pub lawful : IsNodePage (pages n)
  pub on_level : level_in (pages n) ≡ level
  -- an inner page has at least two entries, and their children stand on the level below
  pub two : 0 < level → 2 ≤ count_in (pages n)
  pub children : 0 < level → HasChildren pages below (low_of (pages n)) (entries_of (pages n))
  -- it has a high fence exactly where it has a right neighbour, whose low fence is the same
  pub high : has_high (pages n) ≡ not (right_in (pages n) == 0)
  pub fence : right_in (pages n) ≢ 0 → low_of (pages (right_in (pages n))) ≡ high_of (pages n)
  -- its low fence is less than its high one
  pub apart : IfSome (low_of (pages n)) (λ low. IfSome (high_of (pages n)) (λ high.
      IsBelow low high))

-- each page of a list has a property
abbrev pub EachPage : (ℕ → Type 0) → List ℕ → Type 0
EachPage P [] = Unit {0}
EachPage P (n ∷ ns) = P n × EachPage P ns

-- the first of these levels, none where there is none
abbrev pub first_level : List (List ℕ) → List ℕ
first_level [] = []
first_level (level ∷ levels) = level

-- each page of these levels is one of an index
abbrev pub AreNodes : ℕ → Pages → ℕ → List (List ℕ) → Type 0
AreNodes size pages owner [] = Unit {0}
AreNodes size pages owner (level ∷ below) =
    EachPage (IsNode size pages owner (length below) (first_level below)) level
    × AreNodes size pages owner below

-- An index of the table of an owner, from its root on.
pub record IsTree (size : ℕ) (pages : Pages) (owner root : ℕ) (levels : List (List ℕ))
    : Type 0 where
  -- page 0 is the header, and no root
  pub rooted : root ≢ 0
  pub levels_from : Levels pages root levels
  pub nodes : AreNodes size pages owner levels
  -- the root has neither fence nor right neighbour
  pub root_low : has_low (pages root) ≡ false
  pub root_right : right_in (pages root) ≡ 0

-- each of these indexes is a tree with these levels
abbrev pub AreTrees : ℕ → Pages → ℕ → List Index → List (List (List ℕ)) → Type 0
AreTrees size pages owner [] [] = Unit {0}
AreTrees size pages owner [] (levels ∷ trees) = ⊥
AreTrees size pages owner (index ∷ indexes) [] = ⊥
AreTrees size pages owner (index ∷ indexes) (levels ∷ trees) =
    IsTree size pages owner index.root.0 levels × AreTrees size pages owner indexes trees

-- an entry is one of these
abbrev pub HasEntry : List Entry → Entry → Type 0
HasEntry [] e = ⊥
HasEntry (f ∷ fs) e = (e ≡ f) ⊎ HasEntry fs e

-- an entry of a list is the last one that does not come behind another entry
pub record IsLastUpTo (es : List Entry) (e last : Entry) : Type 0 where
  pub before : List Entry
  pub after : List Entry
  pub parts : es ≡ before ++ last ∷ after
  pub up_to : IsAtLeast e last
  pub then_behind : (f : Entry) → HasEntry after f → IsBelow e f

-- An entry is found from a page on: in a leaf; to the right, where it does not lie below the high
-- fence; or down, by the last entry that does not come behind it.
pub data Finds (pages : Pages) (e : Entry) : ℕ → Type 0 where
  here : (n : ℕ) → level_in (pages n) ≡ 0 → HasEntry (entries_of (pages n)) e → Finds pages e n
  right : (n : ℕ) (fence : Entry) → high_of (pages n) ≡ Some fence → IsAtLeast e fence
      → Finds pages e (right_in (pages n)) → Finds pages e n
  down : (n : ℕ) (last : Entry) → level_in (pages n) ≢ 0
      → IfSome (high_of (pages n)) (λ fence. IsBelow e fence)
      → IsLastUpTo (entries_of (pages n)) e last
      → Finds pages e last.child.0 → Finds pages e n

-- the entry of a record's row in an index
abbrev pub index_entry : Index → RecId → Row → Entry
index_entry index p row = record {
  key = key_bytes (get_or row index.column Null);
  rec = p;
  child = record { 0 = 0 };
}

-- the row of a record is found in each of these indexes
abbrev pub IsFoundIn : Pages → List Index → RecId → Row → Type 0
IsFoundIn pages [] p row = Unit {0}
IsFoundIn pages (index ∷ indexes) p row =
    Finds pages (index_entry index p row) index.root.0 × IsFoundIn pages indexes p row
