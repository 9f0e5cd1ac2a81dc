-- Parts of a change of an index page.
use Rattle.std.specs.Prelude.{◌≡◌, ℕ, ◌+◌, ◌<◌, ◌≤◌, ◌⊎◌, List, [], ◌∷◌, length}
use Rattle.mg_base.specs.Fields.{byte}
use Rattle.mg_node.specs.declared.entry.Entry.{Entry}
use Rattle.std.specs.declared.cmp.Ordering.TheVariants.{Equal}
use Rattle.mg_node.specs.NodePage.{IsBelow, count_in, end_in, entry_at, entry_cmp, end_of, is_inner, place_of}
use Rattle.mg_node_writing.specs.Moves.{as_placed, entry_len}

-- where an entry belongs among those of a page: so many come before it, and the next one does not
pub record IsSeat (page : List ℕ) (e : Entry) (n : ℕ) : Type 0 where
  pub within : n ≤ count_in page
  pub before : (i : ℕ) → i < n → IsBelow (entry_at (is_inner page) page (place_of page i)) e
  pub after : n < count_in page → IsBelow (entry_at (is_inner page) page (place_of page n)) e → ⊥

-- the bytes from one place to the end of the entries come to stand at another place, and what
-- stands before stays from the level on, but for the count and the end
pub record Splices (old new : List ℕ) (at from to : ℕ) : Type 0 where
  pub size : length new ≡ length old
  pub before : (k : ℕ) → 16 ≤ k → k < at → (18 ≤ k → 20 ≤ k) → (24 ≤ k → 26 ≤ k)
      → byte new k ≡ byte old k
  pub moved : (k : ℕ) → from + k < end_in old → byte new (to + k) ≡ byte old (from + k)
  pub end : end_in new + from ≡ end_in old + to

-- each of these entries comes before another
abbrev pub EachBelow : List Entry → Entry → Type 0
EachBelow [] e = Unit {0}
EachBelow (f ∷ fs) e = IsBelow f e × EachBelow fs e

-- each of these entries has a key that is not too long
abbrev pub ShortKeys : ℕ → List Entry → Type 0
ShortKeys most [] = Unit {0}
ShortKeys most (e ∷ es) = (length e.key ≤ most) × ShortKeys most es

-- an entry is one of these
abbrev pub HasEntry : List Entry → Entry → Type 0
HasEntry [] e = ⊥
HasEntry (f ∷ fs) e = (e ≡ f) ⊎ HasEntry fs e

-- the count of the entries and where they end are set, and nothing else
pub record SetsEnd (old new : List ℕ) (count end : ℕ) : Type 0 where
  pub size : length new ≡ length old
  pub count_is : count_in new ≡ count
  pub end_is : end_in new ≡ end
  pub others : (k : ℕ) → (18 ≤ k → 20 ≤ k) → (24 ≤ k → 26 ≤ k) → byte new k ≡ byte old k

-- the entry behind so many others has the key and the record of an entry
pub record StandsAt (page : List ℕ) (n : ℕ) (e : Entry) : Type 0 where
  pub there : n < count_in page
  pub same : entry_cmp (entry_at (is_inner page) page (place_of page n)) e ≡ Equal

-- the entries from a place on move, an entry stands there, and the page has one more
pub record Opens (old new : List ℕ) (at : ℕ) (e : Entry) : Type 0 where
  pub common : (k : ℕ) → k < 16 → byte new k ≡ byte old k
  pub splices : Splices old new at at (at + entry_len (is_inner old) e)
  pub entry : entry_at (is_inner old) new at ≡ as_placed (is_inner old) e
  pub end_is : end_of (is_inner old) new at ≡ at + entry_len (is_inner old) e
  pub count : count_in new ≡ count_in old + 1

-- the entry at a place goes, those behind it move there, and the page has one less
pub record Closes (old new : List ℕ) (at : ℕ) : Type 0 where
  pub common : (k : ℕ) → k < 16 → byte new k ≡ byte old k
  pub splices : Splices old new at (end_of (is_inner old) old at) at
  pub count : count_in new + 1 ≡ count_in old
