-- The figures of a file: its markers, and how many of its pages are used.
use Rattle.std.specs.Prelude.{◌≡◌, ◌↔◌, ◌<◌, ◌+◌, ◌-◌, ℕ, zero, suc, IsTrue}
use Rattle.mg_base.specs.declared.geometry.TheConstants.{GREATEST_LIMIT}
use Rattle.mg_check_inventory.specs.ImagePages.{bit_number}
use Rattle.mg_image.specs.Form.{Pages}
use Rattle.mg_image.specs.Inventory.{header_of, is_used, last_sequence}
use Rattle.mg_stat.specs.declared.figures.Figures.{Figures}

-- how many pages below a number are marked as used
abbrev pub used_below : ℕ → Pages → ℕ → ℕ
used_below size pages zero = 0
used_below size pages (suc n) = used_below size pages n + bit_number (is_used size pages n)

-- These are the figures of an image.
pub record AreFigures (size : ℕ) (pages : Pages) (it : Figures) : Type 0 where
  pub sized : it.size ≡ size
  pub minor : it.minor ≡ (header_of pages).minor
  pub next : it.next ≡ (header_of pages).next.0
  pub oit : it.oit ≡ (header_of pages).oit.0
  pub oat : it.oat ≡ (header_of pages).oat.0
  pub ost : it.ost ≡ (header_of pages).ost.0
  pub interval : it.interval ≡ (header_of pages).interval
  -- a sweep is due where OST is more than the interval behind OIT
  pub due : IsTrue it.is_due ↔ ((header_of pages).interval < (header_of pages).ost.0 - (header_of pages).oit.0)
  -- the used bits of all page inventory pages, also those of pages past the end of the file
  pub used : it.used ≡ used_below size pages GREATEST_LIMIT
  -- one transaction inventory page for each sequence up to that of the last transaction drawn
  pub tips : it.tips ≡ last_sequence size pages + 1
