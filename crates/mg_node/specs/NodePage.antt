-- What an index page means: an ordered list of entries between two fences.
use Rattle.std.specs.Prelude.{◌≡◌, ◌≢◌, ◌<◌, ◌≤◌, ◌+◌, ◌/◌, ◌%◌, ◌==◌, ℕ, zero, suc, Bool, true, false, nat_lt, List, [], ◌∷◌, ◌++◌, length, take, drop, Option, Some, None, IfSome, if◌then◌else◌}
use Rattle.std.specs.Ordering.{nat_cmp, ordering_then}
use Rattle.std.specs.Cmp.Lexicographic.{slice_cmp}
use Rattle.std.specs.declared.cmp.Ordering.{Ordering}
use Rattle.std.specs.declared.cmp.Ordering.TheVariants.{Less}
use Rattle.mg_base.specs.Fields.{u16_at, u32_at}
use Rattle.mg_base.specs.Checks.{Check, common_checks}
use Rattle.mg_node.specs.declared.entry.Entry.{Entry}
use Rattle.mg_node.specs.declared.entry.TheConstants.{NODE_KIND, LEVEL_AT, COUNT_AT, RIGHT_AT, END_AT, FENCES_AT, CONTENT_AT, KEY_AT, RECORD_LEN, CHILD_LEN}

-- the level of a page, 0 for a leaf
abbrev pub level_in : List ℕ → ℕ
level_in page = u16_at page LEVEL_AT

-- the count of its entries
abbrev pub count_in : List ℕ → ℕ
count_in page = u16_at page COUNT_AT

-- the number of its right neighbour, 0 for none
abbrev pub right_in : List ℕ → ℕ
right_in page = u32_at page RIGHT_AT

-- where its entries end
abbrev pub end_in : List ℕ → ℕ
end_in page = u16_at page END_AT

-- whether it is an inner page
abbrev pub is_inner : List ℕ → Bool
is_inner page = nat_lt 0 (level_in page)

-- whether it has a low fence
abbrev pub has_low : List ℕ → Bool
has_low page = u16_at page FENCES_AT % 2 == 1

-- whether it has a high fence
abbrev pub has_high : List ℕ → Bool
has_high page = u16_at page FENCES_AT / 2 % 2 == 1

-- the length of the key at a place
abbrev pub key_len : List ℕ → ℕ → ℕ
key_len page at = u16_at page at

-- the fence or the entry at a place, an entry of an inner page with its child
abbrev pub entry_at : Bool → List ℕ → ℕ → Entry
entry_at with_child page at = record {
  key = take (key_len page at) (drop (at + KEY_AT) page);
  rec = record {
    page = record { 0 = u32_at page (at + KEY_AT + key_len page at) };
    slot = u16_at page (at + KEY_AT + key_len page at + 4);
  };
  child = record {
    0 = if with_child then u32_at page (at + KEY_AT + key_len page at + RECORD_LEN) else 0;
  };
}

-- where the fence or the entry at a place ends
abbrev pub end_of : Bool → List ℕ → ℕ → ℕ
end_of with_child page at =
    at + KEY_AT + key_len page at + RECORD_LEN + (if with_child then CHILD_LEN else 0)

-- where the high fence stands, behind the low one
abbrev pub high_at : List ℕ → ℕ
high_at page = if has_low page then end_of false page CONTENT_AT else CONTENT_AT

-- where the first entry stands, behind the fences
abbrev pub first_at : List ℕ → ℕ
first_at page = if has_high page then end_of false page (high_at page) else high_at page

-- where an entry stands, counted from 0
abbrev pub place_of : List ℕ → ℕ → ℕ
place_of page zero = first_at page
place_of page (suc n) = end_of (is_inner page) page (place_of page n)

-- the low fence
abbrev pub low_of : List ℕ → Option Entry
low_of page = if has_low page then Some (entry_at false page CONTENT_AT) else None

-- the high fence
abbrev pub high_of : List ℕ → Option Entry
high_of page = if has_high page then Some (entry_at false page (high_at page)) else None

-- the first entries, so many
abbrev pub first_entries : List ℕ → ℕ → List Entry
first_entries page zero = []
first_entries page (suc n) =
    first_entries page n ++ entry_at (is_inner page) page (place_of page n) ∷ []

-- the entries of a page
unfoldable pub entries_of : List ℕ → List Entry
entries_of page = first_entries page (count_in page)

-- the order of entries and fences: by key bytes, then by the record's page, then by its slot
abbrev pub entry_cmp : Entry → Entry → Ordering
entry_cmp a b =
    ordering_then (slice_cmp nat_cmp a.key b.key)
    (ordering_then (nat_cmp a.rec.page.0 b.rec.page.0) (nat_cmp a.rec.slot b.rec.slot))

-- an entry comes before another
abbrev pub IsBelow : Entry → Entry → Type 0
IsBelow a b = entry_cmp a b ≡ Less

-- an entry does not come before another
abbrev pub IsAtLeast : Entry → Entry → Type 0
IsAtLeast a b = entry_cmp a b ≢ Less

-- each entry comes before the next one
abbrev pub AreAscending : List Entry → Type 0
AreAscending [] = Unit {0}
AreAscending (e ∷ []) = Unit {0}
AreAscending (e ∷ f ∷ es) = IsBelow e f × AreAscending (f ∷ es)

-- each of these entries is one of those between the fences
abbrev pub AreBetween : Option Entry → Option Entry → List Entry → Type 0
AreBetween low high [] = Unit {0}
AreBetween low high (e ∷ es) =
    IfSome low (λ fence. IsAtLeast e fence) × IfSome high (λ fence. IsBelow e fence)
    × AreBetween low high es

-- two entries have the same key and record
pub record SamePlace (a b : Entry) : Type 0 where
  pub key : a.key ≡ b.key
  pub rec : a.rec ≡ b.rec

-- an entry before all others: an empty key, and record 0, 0
pub record IsLeast (e : Entry) : Type 0 where
  pub key : e.key ≡ []
  pub page : e.rec.page.0 ≡ 0
  pub slot : e.rec.slot ≡ 0

-- an entry is as the first one of an inner page with this low fence: equal to it, the least one
-- where there is none
abbrev pub IsFirstEntry : Option Entry → Entry → Type 0
IsFirstEntry (Some fence) e = SamePlace e fence
IsFirstEntry None e = IsLeast e

-- the first of these entries is as that of an inner page
abbrev pub BeginsAsInner : Option Entry → List Entry → Type 0
BeginsAsInner low [] = Unit {0}
BeginsAsInner low (e ∷ es) = IsFirstEntry low e

-- a lawful index page: no key is too long, the entries end within the page and where it says,
-- ascend and lie between the fences, and an inner page begins with its low fence
pub record IsNodePage (page : List ℕ) : Type 0 where
  pub low_key : has_low page ≡ true → key_len page CONTENT_AT ≤ length page / 8
  pub high_key : has_high page ≡ true → key_len page (high_at page) ≤ length page / 8
  pub keys : (n : ℕ) → n < count_in page → key_len page (place_of page n) ≤ length page / 8
  pub ends : end_in page ≡ place_of page (count_in page)
  pub inside : end_in page ≤ length page
  pub ascending : AreAscending (entries_of page)
  pub between : AreBetween (low_of page) (high_of page) (entries_of page)
  pub first : is_inner page ≡ true → BeginsAsInner (low_of page) (entries_of page)

-- the tests of the common part of the page
abbrev pub node_checks : List ℕ → ℕ → ℕ → List Check
node_checks b page owner = common_checks b page NODE_KIND owner 0
