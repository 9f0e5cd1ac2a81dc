-- What the transaction list says, and how it goes with the pages.
use Rattle.std.specs.Prelude.{◌≡◌, ◌≢◌, ◌<◌, ◌≤◌, ◌+◌, ◌-◌, ◌/◌, ◌%◌, ◌==◌, ℕ, true, List, [], length, nat_lt, slice_index_or, if◌then◌else◌}
use Rattle.mg_base.specs.Geometry.{is_page_size}
use Rattle.mg_base.specs.declared.transaction.TxState.{TxState}
use Rattle.mg_base.specs.declared.transaction.TxState.TheVariants.{Committed, Dead}
use Rattle.mg_header.specs.declared.header.TheConstants.{GREATEST_NEXT}
use Rattle.mg_image.specs.Inventory.{settled}
use Rattle.mg_tip.specs.TipPage.{places, state_in}
use Rattle.mg_txlist.specs.declared.list.TipPage.{TipPage}
use Rattle.mg_txlist.specs.declared.list.TxList.{TxList}

-- the number that the next transaction draws
abbrev pub next_said : TxList → ℕ
next_said list = list.first + length list.own.items

-- no page
abbrev pub no_page : TipPage
no_page = record { page = 0; bytes = [] }

-- the page of a sequence
abbrev pub tip_in : TxList → ℕ → TipPage
tip_in list sequence = slice_index_or list.pages.items sequence no_page

-- what the bits of a number say
abbrev pub bits_said : TxList → ℕ → TxState
bits_said list t = state_in (tip_in list (t / places list.size)).bytes (t % places list.size)

-- what has become of a number of this run, counted from the first
abbrev pub own_said : TxList → ℕ → TxState
own_said list n = slice_index_or list.own.items n Dead

-- what has become of a transaction
unfoldable pub said : TxList → ℕ → TxState
said list t = if t == 0 then Committed
    else (if nat_lt t list.first then settled (bits_said list t)
    else own_said list (t - list.first))

-- There is a page of each sequence up to that of the last number drawn, each one page long, and none
-- of them is the header page.
pub record IsTxList (list : TxList) : Type 0 where
  pub lawful : is_page_size list.size ≡ true
  pub some : 1 ≤ list.first
  pub most : next_said list ≤ GREATEST_NEXT
  pub count : length list.pages.items ≡ (next_said list - 1) / places list.size + 1
  pub whole : (sequence : ℕ) → sequence < length list.pages.items
      → length (tip_in list sequence).bytes ≡ list.size
  pub apart : (sequence : ℕ) → sequence < length list.pages.items
      → (tip_in list sequence).page ≢ 0

-- each page of the list lies below a page limit
abbrev pub EachBelow : ℕ → List TipPage → Type 0
EachBelow limit pages = (sequence : ℕ) → sequence < length pages
    → (slice_index_or pages sequence no_page).page < limit

abbrev pub TipsAreBelow : ℕ → TxList → Type 0
TipsAreBelow limit list = EachBelow limit list.pages.items

-- one transaction has come to a state, and all others are as they were
pub record EndsIn (old new : TxList) (t : ℕ) (state : TxState) : Type 0 where
  pub here : said new t ≡ state
  pub others : (u : ℕ) → u ≢ t → said new u ≡ said old u
  pub next : next_said new ≡ next_said old
  pub first : new.first ≡ old.first
  pub size : new.size ≡ old.size

-- one page has new bytes, and all others have theirs
pub record KeepsBits (old new : TxList) (sequence : ℕ) (bytes : List ℕ) : Type 0 where
  pub here : tip_in new sequence ≡ record { page = (tip_in old sequence).page; bytes = bytes }
  pub others : (other : ℕ) → other ≢ sequence → tip_in new other ≡ tip_in old other
  pub count : length new.pages.items ≡ length old.pages.items
  pub same_size : new.size ≡ old.size
  pub same_first : new.first ≡ old.first
