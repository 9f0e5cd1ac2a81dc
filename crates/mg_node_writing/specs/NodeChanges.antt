-- What the changes of an index page are: of an ordered set of entries between two fences.
use Rattle.std.specs.Prelude.{◌≡◌, ℕ, ◌+◌, ◌-◌, ◌≤◌, Bool, true, false, List, [], ◌∷◌, ◌++◌, length, take, IfSome}
use Rattle.mg_node.specs.declared.entry.Entry.{Entry}
use Rattle.mg_node.specs.declared.entry.TheConstants.{COUNT_AT}
use Rattle.mg_node.specs.NodePage.{IsAtLeast, IsBelow, IsFirstEntry, SamePlace, end_in, entries_of, high_of, is_inner, level_in, low_of, right_in}
use Rattle.mg_node.specs.NodeTests.{longest_key}
use Rattle.mg_node.specs.NodeWalk.{least_len}
use Rattle.mg_node_writing.specs.Moves.{entry_len}

-- an index page of a lawful size
pub record IsSized (page : List ℕ) : Type 0 where
  pub least : 1024 ≤ length page
  pub most : length page ≤ 16384

-- what a change of entries leaves as it was: the common part and the level, the right neighbour,
-- and the fences
pub record KeepsNode (old new : List ℕ) : Type 0 where
  pub size : length new ≡ length old
  pub front : take COUNT_AT new ≡ take COUNT_AT old
  pub level : level_in new ≡ level_in old
  pub right : right_in new ≡ right_in old
  pub low : low_of new ≡ low_of old
  pub high : high_of new ≡ high_of old

-- an entry is one of those of a page, with its child
pub record IsEntryOf (page : List ℕ) (e : Entry) : Type 0 where
  pub front : List Entry
  pub back : List Entry
  pub is : entries_of page ≡ front ++ e ∷ back

-- a page comes to have an entry more, and keeps its others and all else
pub record InsertsEntry (old new : List ℕ) (e : Entry) : Type 0 where
  pub keeps : KeepsNode old new
  pub front : List Entry
  pub back : List Entry
  pub was : entries_of old ≡ front ++ back
  pub is : entries_of new ≡ front ++ e ∷ back

-- a page comes to have an entry less, and keeps its others and all else
pub record RemovesEntry (old new : List ℕ) (e : Entry) : Type 0 where
  pub keeps : KeepsNode old new
  pub front : List Entry
  pub back : List Entry
  pub was : entries_of old ≡ front ++ e ∷ back
  pub is : entries_of new ≡ front ++ back

-- what a page may be asked to take: an entry whose key is not too long, that lies between the
-- fences, has a child in an inner page alone, and no other child than the page's entry of that key
-- and record; in an inner page without entries the first entry of such a page
pub record TakesEntry (page : List ℕ) (e : Entry) : Type 0 where
  pub short : length e.key ≤ longest_key page
  pub from : IfSome (low_of page) (λ fence. IsAtLeast e fence)
  pub below : IfSome (high_of page) (λ fence. IsBelow e fence)
  pub leaf : is_inner page ≡ false → e.child.0 ≡ 0
  pub one_child : (f : Entry) → IsEntryOf page f → SamePlace e f → e.child ≡ f.child
  pub first : is_inner page ≡ true → entries_of page ≡ [] → IsFirstEntry (low_of page) e

-- how many bytes are free behind the entries
abbrev pub room_in : List ℕ → ℕ
room_in page = length page - end_in page

-- how many bytes an entry may need at most
abbrev pub most_need : List ℕ → ℕ
most_need page = least_len (is_inner page) + longest_key page

-- how many bytes these entries take
abbrev pub entries_len : Bool → List Entry → ℕ
entries_len with_child [] = 0
entries_len with_child (e ∷ es) = entry_len with_child e + entries_len with_child es
