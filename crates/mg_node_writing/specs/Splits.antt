-- What a split of an index page is.
use Rattle.std.specs.Prelude.{◌≡◌, ℕ, ◌+◌, ◌-◌, ◌*◌, ◌≤◌, ◌<◌, true, List, [], ◌∷◌, ◌++◌, length, take, Some}
use Rattle.mg_base.specs.Checks.{PassesAll}
use Rattle.mg_base.specs.Fields.{byte, u32_at}
use Rattle.mg_base.specs.declared.fields.TheConstants.{COMMON, OWN_AT}
use Rattle.mg_node.specs.declared.entry.Entry.{Entry}
use Rattle.mg_node.specs.declared.entry.TheConstants.{CONTENT_AT}
use Rattle.mg_node.specs.NodePage.{count_in, end_in, entries_of, first_at, has_high, has_low, high_at, high_of, is_inner, key_len, level_in, low_of, node_checks, place_of, right_in}
use Rattle.mg_node_writing.specs.Moves.{Stands, as_fence}
use Rattle.mg_node_writing.specs.NodeChanges.{entries_len}

-- The first entries of a page stay on it, and the others go to a right page, the page `at`.
pub record SplitsNode (old left right : List ℕ) (at : ℕ) : Type 0 where
  pub left_size : length left ≡ length old
  pub right_size : length right ≡ length old
  -- the common part of the left page stays; that of the right one is another page's of the owner
  pub left_front : take COMMON left ≡ take COMMON old
  pub right_fields : (owner : ℕ) → PassesAll (node_checks old (u32_at old OWN_AT) owner)
      → PassesAll (node_checks right at owner)
  -- one level, and one chain of neighbours
  pub left_level : level_in left ≡ level_in old
  pub right_level : level_in right ≡ level_in old
  pub goes_to : right_in left ≡ at
  pub goes_on : right_in right ≡ right_in old
  -- the fence between them is the first entry that goes
  pub low : low_of left ≡ low_of old
  pub middle : high_of left ≡ low_of right
  pub high : high_of right ≡ high_of old
  pub first : Entry
  pub kept : List Entry
  pub given : Entry
  pub rest : List Entry
  pub left_is : entries_of left ≡ first ∷ kept
  pub right_is : entries_of right ≡ given ∷ rest
  pub was : entries_of old ≡ first ∷ kept ++ given ∷ rest
  pub fence : low_of right ≡ Some (as_fence given)

-- the entries that stay are the shortest run of first ones with at least half of the bytes
pub record IsShortestHalf (old left : List ℕ) : Type 0 where
  pub half : entries_len (is_inner old) (entries_of old)
      ≤ 2 * entries_len (is_inner old) (entries_of left)
  pub shortest : (front : List Entry) (last : Entry) → entries_of left ≡ front ++ last ∷ []
      → 2 * entries_len (is_inner old) front < entries_len (is_inner old) (entries_of old)

-- so many first entries are the shortest run of them with at least half of the bytes, by places
pub record IsHalf (page : List ℕ) (n : ℕ) : Type 0 where
  pub within : n ≤ count_in page
  pub enough : end_in page - first_at page ≤ 2 * (place_of page n - first_at page)
  pub least : (i : ℕ) → i < n → 2 * (place_of page i - first_at page) < end_in page - first_at page

-- the page of the entries from a place on: the first of them as its low fence, the high fence, and
-- the entries
pub record TakesUpper (old new : List ℕ) (number from count : ℕ) : Type 0 where
  pub size : length new ≡ length old
  pub common : (k : ℕ) → k < 16 → (4 ≤ k → 8 ≤ k) → byte new k ≡ byte old k
  pub own : u32_at new OWN_AT ≡ number
  pub level : level_in new ≡ level_in old
  pub right : right_in new ≡ right_in old
  pub there_low : has_low new ≡ true
  pub there_high : has_high new ≡ has_high old
  pub low : Stands old new from CONTENT_AT (8 + key_len old from)
  pub high : Stands old new (high_at old) (CONTENT_AT + (8 + key_len old from))
      (first_at old - high_at old)
  pub entries : Stands old new from
      (CONTENT_AT + (8 + key_len old from) + (first_at old - high_at old)) (end_in old - from)
  pub count_is : count_in new ≡ count
  pub end_is : end_in new ≡ CONTENT_AT + (8 + key_len old from) + (first_at old - high_at old)
      + (end_in old - from)

-- the page of the entries before a place: the low fence stays, the low fence of another page is its
-- high one, and the entries stand behind it
pub record KeepsLower (old new other : List ℕ) (number from count : ℕ) : Type 0 where
  pub size : length new ≡ length old
  pub common : (k : ℕ) → k < 16 → byte new k ≡ byte old k
  pub level : level_in new ≡ level_in old
  pub right : right_in new ≡ number
  pub there_low : has_low new ≡ has_low old
  pub there_high : has_high new ≡ true
  pub low : Stands old new CONTENT_AT CONTENT_AT (high_at old - CONTENT_AT)
  pub high : Stands other new CONTENT_AT (high_at old) (8 + key_len other CONTENT_AT)
  pub entries : Stands old new (first_at old) (high_at old + (8 + key_len other CONTENT_AT))
      (from - first_at old)
  pub count_is : count_in new ≡ count
  pub end_is : end_in new ≡ high_at old + (8 + key_len other CONTENT_AT) + (from - first_at old)
