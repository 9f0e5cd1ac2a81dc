-- What is found in the pages of a table: its chain of pointer pages, and the data pages they name.
use Rattle.std.specs.Prelude.{◌≡◌, ◌≢◌, ◌⊎◌, ◌<◌, ◌+◌, ℕ, false, List, ◌++◌, length}
use Rattle.mg_base.specs.Checks.{Check, PassesAll, verdict}
use Rattle.mg_base.specs.Fields.{u32_at}
use Rattle.mg_base.specs.Image.{Image, page_at}
use Rattle.mg_check_data.specs.DataRung.{IsDataFinding}
use Rattle.mg_check_data.specs.declared.data.DataSeat.{DataSeat}
use Rattle.mg_check_inventory.specs.ImagePages.{IsWholeImage, bit_checks, link_checks, numbered, presence_checks}
use Rattle.mg_findings.specs.declared.finding.Finding.{Finding}
use Rattle.mg_findings.specs.Findings.{HasNone, OfFirst, Tells}
use Rattle.mg_header.specs.HeaderPage.{page_checks}
use Rattle.mg_image.specs.Form.{Pages}
use Rattle.mg_image.specs.Sound.{IsTableData, IsTablePointer}
use Rattle.mg_image.specs.Tables.{EachFrom, PointerChain, entries_in}
use Rattle.mg_pointer.specs.PointerPage.{count_in, next_in, place_of, pointer_checks}

-- the tests of a pointer page of an owner at a place of the chain: its fields, then its own bit
abbrev pub pointer_tests : ℕ → Pages → ℕ → ℕ → ℕ → List Check
pointer_tests size pages n owner at =
    pointer_checks (pages n) n owner at ++ bit_checks size pages n

-- what is found of a pointer page in a file with so many pages: that it is absent, or the first of
-- its tests that differs
abbrev pub IsThereFinding : ℕ → Pages → ℕ → ℕ → ℕ → ℕ → Finding → Type 0
IsThereFinding size pages count n owner at = OfFirst
    (Tells (verdict (numbered n) (presence_checks count n)))
    (Tells (verdict (numbered n) (pointer_tests size pages n owner at)))

-- what is found of it, and of the link to it, at the page that holds the link
abbrev pub IsPointerFinding : ℕ → Pages → ℕ → ℕ → ℕ → ℕ → ℕ → Finding → Type 0
IsPointerFinding size pages count holder n owner at = OfFirst
    (Tells (verdict (numbered holder) (link_checks n)))
    (IsThereFinding size pages count n owner at)

-- a data page as an entry of a pointer page names it, where the page's first entry has a place
abbrev pub seat_of : Pages → ℕ → ℕ → ℕ → ℕ → DataSeat
seat_of pages owner n place i = record {
  holder = n;
  page = u32_at (pages n) (place_of i);
  owner = owner;
  place = place + i;
}

-- what is found of the data pages that the entries of a pointer page below a number name
abbrev pub IsEntryBelow : ℕ → Pages → ℕ → ℕ → ℕ → ℕ → ℕ → Finding → Type 0
IsEntryBelow size pages count owner n place entries f =
    (i : ℕ) × (i < entries) × IsDataFinding size pages count (seat_of pages owner n place i) f

-- of all of them
abbrev pub IsEntryFinding : ℕ → Pages → ℕ → ℕ → ℕ → ℕ → Finding → Type 0
IsEntryFinding size pages count owner n place =
    IsEntryBelow size pages count owner n place (count_in (pages n))

-- What is found from a pointer page on, which stands at a place of the chain, and whose first entry
-- at a place among the data pages: of this page; or, where it has no finding, of the data pages that
-- it names, and from the next pointer page on. What stands behind a damaged pointer page is not
-- looked at.
pub data IsChainFinding (size : ℕ) (pages : Pages) (count owner : ℕ)
    : ℕ → ℕ → ℕ → ℕ → Finding → Type 0 where
  of_page : (holder n at place : ℕ) (f : Finding) → n ≢ 0
      → IsPointerFinding size pages count holder n owner at f
      → IsChainFinding size pages count owner holder n at place f
  of_entry : (holder n at place : ℕ) (f : Finding) → n ≢ 0
      → HasNone (IsPointerFinding size pages count holder n owner at)
      → IsEntryFinding size pages count owner n place f
      → IsChainFinding size pages count owner holder n at place f
  of_next : (holder n at place : ℕ) (f : Finding) → n ≢ 0
      → HasNone (IsPointerFinding size pages count holder n owner at)
      → IsChainFinding size pages count owner n (next_in (pages n)) (at + 1)
      (place + count_in (pages n)) f
      → IsChainFinding size pages count owner holder n at place f

-- what is found in the pages of a table whose first pointer page a page names: that it names none,
-- or from the first one on
abbrev pub IsTableFinding : ℕ → Pages → ℕ → ℕ → ℕ → Finding → Type 0
IsTableFinding size pages count holder first f =
    ((first ≡ 0) × Tells (verdict (numbered holder) (link_checks first)) f)
    ⊎ IsChainFinding size pages count first holder first 0 0 f

-- the data pages that a pointer page names are as a sound image asks it
abbrev pub HasEntries : ℕ → Pages → ℕ → ℕ → ℕ → Type 0
HasEntries size pages owner n place = (i : ℕ) → i < count_in (pages n)
    → IsTableData false size pages owner (place + i) (u32_at (pages n) (place_of i))

-- The pages of a table from a pointer page on, which stands at a place of the chain, and whose first
-- entry at a place among the data pages, are as a sound image asks it.
pub record HasPagesFrom (size : ℕ) (pages : Pages) (owner n at place : ℕ) : Type 0 where
  pub pointers : List ℕ
  pub chain : PointerChain pages n pointers
  pub each : EachFrom (IsTablePointer size pages owner) at pointers
  pub data_pages : EachFrom (IsTableData false size pages owner) place (entries_in pages pointers)

-- those of a table with a first pointer page are
pub record HasTable (size : ℕ) (pages : Pages) (first : ℕ) : Type 0 where
  pub some : first ≢ 0
  pub whole : HasPagesFrom size pages first first 0 0

-- where the header page has the kind of one, nothing is found in the pages of a table that are as a
-- sound image asks it
abbrev pub TableLaw : Type 0
TableLaw = (size : ℕ) (image : Image) → IsWholeImage size image
    → PassesAll (page_checks (page_at size image 0)) → (holder first : ℕ)
    → HasTable size (page_at size image) first
    → HasNone (IsTableFinding size (page_at size image) (length image) holder first)
