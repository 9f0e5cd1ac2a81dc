-- The tests of an index page in the order of its fields, each with what is found and what is wanted.
use Rattle.std.specs.Prelude.{◌≡◌, ℕ, zero, suc, ◌-◌, ◌/◌, ◌≤◌, ◌&&◌, ◌||◌, min, max, not, Bool, true, List, [], ◌∷◌, ◌++◌, length, Option, Some, None, if◌then◌else◌}
use Rattle.std.specs.Ordering.{is_eq, is_lt}
use Rattle.mg_base.specs.Checks.{Check}
use Rattle.mg_base.specs.declared.damage.Field.TheVariants as fields
use Rattle.mg_node.specs.declared.entry.Entry.{Entry}
use Rattle.mg_node.specs.declared.entry.TheConstants.{CONTENT_AT}
use Rattle.mg_node.specs.NodePage.{count_in, end_in, end_of, entries_of, entry_cmp, first_at, has_high, has_low, high_at, high_of, is_inner, key_len, low_of, node_checks, place_of}
use Rattle.mg_node.specs.NodeWalk.{least_len}

-- the fewest entries of a page: an inner page has two
abbrev pub fewest_entries : List ℕ → ℕ
fewest_entries page = if is_inner page then 2 else 0

-- the most entries that fit a page: each with an empty key, and no fences
abbrev pub most_entries : List ℕ → ℕ
most_entries page = (length page - CONTENT_AT) / least_len (is_inner page)

-- the count that is wanted: the nearest one from the fewest to the most entries
abbrev pub lawful_count : List ℕ → ℕ
lawful_count page = max (fewest_entries page) (min (count_in page) (most_entries page))

-- the greatest length of a key
abbrev pub longest_key : List ℕ → ℕ
longest_key page = length page / 8

-- the count; where the entries end, and that this is within the page
abbrev pub field_tests : List ℕ → List Check
field_tests page =
    (fields.Count, count_in page, lawful_count page)
    ∷ (fields.Offset, end_in page, place_of page (count_in page))
    ∷ (fields.Offset, end_in page, min (end_in page) (length page))
    ∷ []

-- the key at a place is not too long
abbrev pub key_test : List ℕ → ℕ → Check
key_test page at = (fields.Offset, key_len page at, min (key_len page at) (longest_key page))

-- the key of a fence, where there is one
abbrev pub fence_tests : Bool → List ℕ → ℕ → List Check
fence_tests there page at = if there then key_test page at ∷ [] else []

-- the keys of so many entries from a place on
abbrev pub key_tests : Bool → List ℕ → ℕ → ℕ → List Check
key_tests with_child page at zero = []
key_tests with_child page at (suc n) =
    key_test page at ∷ key_tests with_child page (end_of with_child page at) n

-- an entry before all others
abbrev pub least_entry : Entry
least_entry = record {
  key = [];
  rec = record { page = record { 0 = 0 }; slot = 0 };
  child = record { 0 = 0 };
}

-- what the first entry of an inner page with this low fence has to equal
abbrev pub wanted_first : Option Entry → Entry
wanted_first None = least_entry
wanted_first (Some fence) = fence

-- an entry does not come before the low fence
abbrev pub is_from : Option Entry → Entry → Bool
is_from None e = true
is_from (Some fence) e = not (is_lt (entry_cmp e fence))

-- an entry comes before the high fence
abbrev pub is_below_fence : Option Entry → Entry → Bool
is_below_fence None e = true
is_below_fence (Some fence) e = is_lt (entry_cmp e fence)

-- an entry lies between the fences
abbrev pub is_between : Option Entry → Option Entry → Entry → Bool
is_between low high e = is_from low e && is_below_fence high e

-- an entry may be the first one of a page
abbrev pub may_begin : Bool → Option Entry → Option Entry → Entry → Bool
may_begin inner low high e =
    (not inner || is_eq (entry_cmp e (wanted_first low))) && is_between low high e

-- an entry may stand behind another
abbrev pub may_follow : Option Entry → Option Entry → Entry → Entry → Bool
may_follow low high before e = is_lt (entry_cmp before e) && is_between low high e

-- how many of these entries, which stand behind another, are in order up to the first that is not
abbrev pub ordered_behind : Option Entry → Option Entry → Entry → List Entry → ℕ
ordered_behind low high before [] = 0
ordered_behind low high before (e ∷ es) =
    if may_follow low high before e then suc (ordered_behind low high e es) else 0

-- how many of the entries of a page are in order up to the first that is not: its place
abbrev pub ordered_front : Bool → Option Entry → Option Entry → List Entry → ℕ
ordered_front inner low high [] = 0
ordered_front inner low high (e ∷ es) =
    if may_begin inner low high e then suc (ordered_behind low high e es) else 0

-- the entries ascend, lie between the fences, and begin as wanted
abbrev pub order_test : List ℕ → Check
order_test page =
    (fields.Entry, ordered_front (is_inner page) (low_of page) (high_of page) (entries_of page), count_in page)

-- the tests behind the common part
unfoldable pub content_tests : List ℕ → List Check
content_tests page =
    field_tests page
    ++ fence_tests (has_low page) page CONTENT_AT
    ++ fence_tests (has_high page) page (high_at page)
    ++ key_tests (is_inner page) page (first_at page) (count_in page)
    ++ order_test page ∷ []

-- all tests of an index page
abbrev pub node_tests : List ℕ → ℕ → ℕ → List Check
node_tests page number owner = node_checks page number owner ++ content_tests page

-- an inner page has at least two entries
abbrev pub HasEnough : List ℕ → Type 0
HasEnough page = is_inner page ≡ true → 2 ≤ count_in page
