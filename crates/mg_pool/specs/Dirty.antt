-- The dirty pages of a cache, and what a change of the table leaves.
use Rattle.std.specs.Prelude.{◌≡◌, ◌≢◌, ℕ, ◌+◌, ◌<◌, ◌≤◌, Bool, true, false, ◌==◌, List, [], ◌∷◌, length, Option, Some, None, is_some, slice_index_or, slice_set, if◌then◌else◌, not}
use Rattle.std.specs.List.{filter}
use Rattle.mg_pool.specs.DirtyPage.{DirtyPage}

-- a table of dirty pages: the size of a page, how many pages it has room for, and its pages
pub record DirtyPages : Type 0 where
  pub size : ℕ
  pub room : ℕ
  pub pages : List DirtyPage

-- what the table has of a page
abbrev pub entry_in : List DirtyPage → ℕ → Option DirtyPage
entry_in [] page = None
entry_in (d ∷ ds) page = if d.page == page then Some d else entry_in ds page

abbrev pub bytes_of : Option DirtyPage → Option (List ℕ)
bytes_of None = None
bytes_of (Some d) = Some d.bytes

abbrev pub marked_by : Option DirtyPage → ℕ → Bool
marked_by None who = false
marked_by (Some d) who = slice_index_or d.marks who false

-- the content of a dirty page, none where the page isn't dirty
unfoldable pub content_of : DirtyPages → ℕ → Option (List ℕ)
content_of t page = bytes_of (entry_in t.pages page)

-- whether who has marked a dirty page
unfoldable pub is_marked : DirtyPages → ℕ → ℕ → Bool
is_marked t page who = marked_by (entry_in t.pages page) who

-- whether a page is dirty
abbrev pub is_dirty : DirtyPages → ℕ → Bool
is_dirty t page = is_some (content_of t page)

-- one dirty page gets a content, all others keep theirs, and all marks stay
pub record PutsContent (old new : DirtyPages) (page : ℕ) (bytes : List ℕ) : Type 0 where
  pub here : content_of new page ≡ Some bytes
  pub others : (other : ℕ) → other ≢ page → content_of new other ≡ content_of old other
  pub marks : (other who : ℕ) → is_marked new other who ≡ is_marked old other who
  pub size : new.size ≡ old.size
  pub room : new.room ≡ old.room
  pub count : length new.pages
      ≡ (if is_dirty old page then length old.pages else (length old.pages + 1))

-- one page is no longer dirty, all others keep their content and marks, and their order in the table
pub record TakesOut (old new : DirtyPages) (page : ℕ) : Type 0 where
  pub here : content_of new page ≡ None
  pub others : (other : ℕ) → other ≢ page → content_of new other ≡ content_of old other
  pub marks : (other who : ℕ) → other ≢ page → is_marked new other who ≡ is_marked old other who
  pub size : new.size ≡ old.size
  pub room : new.room ≡ old.room
  pub count : length new.pages + 1 ≡ length old.pages
  pub rest : new.pages ≡ filter (λ d. not (d.page == page)) old.pages

-- a page is in the table once, each content is one page long, and there is a mark for each marker
abbrev pub IsTable : ℕ → List DirtyPage → Type 0
IsTable size [] = Unit {0}
IsTable size (d ∷ ds) = (entry_in ds d.page ≡ None) × (length d.bytes ≡ size) × IsTable size ds
    × (length d.marks ≡ 32)

-- the buffers that wait for pages: each is one page long
pub record IsSpare (size : ℕ) (spare : List (List ℕ)) : Type 0 where
  pub whole : (i : ℕ) (b : List ℕ) → i < length spare → length (slice_index_or spare i b) ≡ size

-- the page of an entry that who has marked
abbrev pub marked_in : ℕ → DirtyPage → Option ℕ
marked_in who d = if slice_index_or d.marks who false then Some d.page else None

-- the page of least number that passes a test, none where no page does
pub record IsLeastPage (test : ℕ → Bool) (least : Option ℕ) : Type 0 where
  pub passes : (page : ℕ) → least ≡ Some page → test page ≡ true
  pub least_of : (page : ℕ) → test page ≡ true → (m : ℕ) × (least ≡ Some m) × (m ≤ page)

-- every dirty page has the mark of who now, and no other page has; contents and other marks stay
pub record MarksAll (old new : DirtyPages) (who : ℕ) : Type 0 where
  pub marked : (page : ℕ) → is_marked new page who ≡ is_dirty old page
  pub others : (page other : ℕ) → other ≢ who → is_marked new page other ≡ is_marked old page other
  pub contents : (page : ℕ) → content_of new page ≡ content_of old page
  pub size : new.size ≡ old.size
  pub room : new.room ≡ old.room
  pub count : length new.pages ≡ length old.pages

-- an entry with one mark more
abbrev pub with_mark : ℕ → DirtyPage → DirtyPage
with_mark who d = record { page = d.page; marks = slice_set d.marks who true; bytes = d.bytes }
