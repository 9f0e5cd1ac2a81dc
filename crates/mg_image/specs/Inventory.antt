-- What an image says of its transactions, and of which pages are used.
use Rattle.std.specs.Prelude.{◌+◌, ◌*◌, ◌/◌, ◌%◌, ◌-◌, ◌==◌, ℕ, zero, suc, Bool, nat_lt, if◌then◌else◌}
use Rattle.mg_base.specs.declared.transaction.TxState.{TxState}
use Rattle.mg_base.specs.declared.transaction.TxState.TheVariants.{Active, Limbo, Dead, Committed}
use Rattle.mg_header.specs.declared.header.Header.{Header}
use Rattle.mg_header.specs.HeaderPage.{header_in}
use Rattle.mg_tip.specs.TipPage.{places, prev_in, state_in}
use Rattle.mg_pip.specs.PipPage.{bits, used_in}
use Rattle.mg_image.specs.Form.{Pages}

-- the fields of the header page
abbrev pub header_of : Pages → Header
header_of pages = header_in (pages 0)

-- the number of the next transaction
abbrev pub next_of : Pages → ℕ
next_of pages = (header_of pages).next.0

-- the oldest interesting transaction
abbrev pub oldest_of : Pages → ℕ
oldest_of pages = (header_of pages).oit.0

-- the oldest active transaction
abbrev pub oldest_active_of : Pages → ℕ
oldest_active_of pages = (header_of pages).oat.0

-- the transaction inventory page that is so many before a page
abbrev pub tip_before : Pages → ℕ → ℕ → ℕ
tip_before pages page zero = page
tip_before pages page (suc n) = prev_in (pages (tip_before pages page n))

-- the sequence of the last transaction inventory page: that of the last transaction below Next
abbrev pub last_sequence : ℕ → Pages → ℕ
last_sequence size pages = (next_of pages - 1) / places size

-- the transaction inventory page of a sequence
abbrev pub tip_page : ℕ → Pages → ℕ → ℕ
tip_page size pages sequence =
    tip_before pages (header_of pages).last_tip.0 (last_sequence size pages - sequence)

-- what the bits of a transaction say
abbrev pub bits_state : ℕ → Pages → ℕ → TxState
bits_state size pages t = state_in (pages (tip_page size pages (t / places size))) (t % places size)

-- what these bits mean in an image, on which nobody works: active counts as dead
abbrev pub settled : TxState → TxState
settled Active = Dead
settled Limbo = Limbo
settled Dead = Dead
settled Committed = Committed

-- the state of a transaction in an image
unfoldable pub state_at : ℕ → Pages → ℕ → TxState
state_at size pages t =
    if t == 0 then Committed
    else (if nat_lt t (next_of pages) then settled (bits_state size pages t) else Dead)

-- the page inventory page of a region
abbrev pub inventory_page : ℕ → ℕ → ℕ
inventory_page size region = region * bits size + 1

-- whether a page is marked as used
unfoldable pub is_used : ℕ → Pages → ℕ → Bool
is_used size pages n = used_in (pages (inventory_page size (n / bits size))) (n % bits size)
