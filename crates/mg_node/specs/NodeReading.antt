-- What is read of an index page: which places are within it, and what the parts of a reading say.
use Rattle.std.specs.Prelude.{◌≡◌, ◌<◌, ◌≤◌, ◌/◌, ℕ, Bool, true, false, List, [], ◌∷◌, length, Some, None, if◌then◌else◌}
use Rattle.mg_node.specs.declared.entry.Entry.{Entry}
use Rattle.mg_node.specs.declared.entry.TheConstants.{CONTENT_AT}
use Rattle.mg_node.specs.declared.node.Listed.{Listed}
use Rattle.mg_node.specs.declared.node.Node.{Node}
use Rattle.mg_node.specs.declared.node.Parts.{Parts}
use Rattle.mg_node.specs.declared.placed.Fence.{Fence}
use Rattle.mg_node.specs.declared.placed.Placed.{Placed}
use Rattle.mg_node.specs.NodePage.{IsBelow, count_in, end_of, entries_of, entry_at, first_entries, has_high, has_low, high_at, high_of, key_len, level_in, low_of, place_of, right_in}

-- the fence or the entry at a place has a key that is not too long, and ends within the page
pub record IsWithin (with_child : Bool) (page : List ℕ) (at : ℕ) : Type 0 where
  pub key : key_len page at ≤ length page / 8
  pub ends : end_of with_child page at ≤ length page

-- what is read at a place is the fence or the entry there
pub record IsPlaced (with_child : Bool) (page : List ℕ) (at : ℕ) (placed : Placed) : Type 0 where
  pub entry : placed.entry ≡ entry_at with_child page at
  pub end : placed.end ≡ end_of with_child page at
  pub within : IsWithin with_child page at

-- what is read at a place is the fence there, where there is one
pub record IsFence (there : Bool) (page : List ℕ) (at : ℕ) (fence : Fence) : Type 0 where
  pub entry : fence.entry ≡ (if there then Some (entry_at false page at) else None)
  pub end : fence.end ≡ (if there then end_of false page at else at)
  pub within : there ≡ true → IsWithin false page at
  pub inside : fence.end ≤ length page

-- the fences and the entries have keys that are not too long, and end within the page
pub record IsLaidOut (page : List ℕ) : Type 0 where
  pub low : has_low page ≡ true → key_len page CONTENT_AT ≤ length page / 8
  pub high : has_high page ≡ true → key_len page (high_at page) ≤ length page / 8
  pub keys : (n : ℕ) → n < count_in page → key_len page (place_of page n) ≤ length page / 8
  pub inside : place_of page (count_in page) ≤ length page

-- the first entries, so many, are these, and the next one stands at a place
pub record AreFirst (page : List ℕ) (count : ℕ) (es : List Entry) (at : ℕ) : Type 0 where
  pub entries : es ≡ first_entries page count
  pub next : at ≡ place_of page count
  pub inside : at ≤ length page
  pub keys : (n : ℕ) → n < count → key_len page (place_of page n) ≤ length page / 8

-- what is read behind the fences is the entries
pub record IsListOf (page : List ℕ) (listed : Listed) : Type 0 where
  pub entries : listed.entries.items ≡ entries_of page
  pub end : listed.end ≡ place_of page (count_in page)
  pub keys : (n : ℕ) → n < count_in page → key_len page (place_of page n) ≤ length page / 8
  pub inside : place_of page (count_in page) ≤ length page

-- a node says what a page says
pub record IsNodeOf (page : List ℕ) (node : Node) : Type 0 where
  pub level : node.level ≡ level_in page
  pub right : node.right.0 ≡ right_in page
  pub low : node.low ≡ low_of page
  pub high : node.high ≡ high_of page
  pub entries : node.entries.items ≡ entries_of page

-- the parts of a reading are those of a page
pub record ArePartsOf (page : List ℕ) (parts : Parts) : Type 0 where
  pub node : IsNodeOf page parts.node
  pub end : parts.end ≡ place_of page (count_in page)
  pub laid_out : IsLaidOut page

-- an entry comes before the first of these
abbrev pub IsBeforeFirst : Entry → List Entry → Type 0
IsBeforeFirst e [] = Unit {0}
IsBeforeFirst e (f ∷ fs) = IsBelow e f
