-- The chain of transaction inventory pages, as the list has it.
use Rattle.std.specs.Prelude.{◌≡◌, ◌≢◌, ◌<◌, ◌+◌, ℕ, zero, suc, List, [], ◌∷◌, ◌++◌, Ok, length}
use Rattle.mg_base.specs.Checks.{PassesAll}
use Rattle.mg_base.specs.declared.geometry.Geometry.{Geometry}
use Rattle.mg_header.specs.HeaderPage.{reading}
use Rattle.mg_header.specs.declared.header.Header.{Header}
use Rattle.mg_image.specs.Form.{Pages}
use Rattle.mg_image.specs.Inventory.{header_of, last_sequence, next_of}
use Rattle.mg_tip.specs.TipPage.{prev_in, tip_checks}
use Rattle.mg_txlist.specs.declared.list.TipPage.{TipPage}

-- a page with its content
abbrev pub tip_at : Pages → ℕ → TipPage
tip_at pages at = record { page = at; bytes = pages at }

-- so many pages, from one back, by sequence
abbrev pub tips_below : Pages → ℕ → ℕ → List TipPage
tips_below pages at zero = []
tips_below pages at (suc n) = tips_below pages (prev_in (pages at)) n ++ tip_at pages at ∷ []

-- each is one page long, and lies below the page limit
abbrev pub AreWholePages : Geometry → List TipPage → Type 0
AreWholePages g [] = Unit {0}
AreWholePages g (page ∷ pages) = (length page.bytes ≡ g.size) × (page.page < g.limit)
    × AreWholePages g pages

-- a page is a transaction inventory page of a sequence, and not the header's
abbrev pub IsTipOf : ℕ → TipPage → Type 0
IsTipOf sequence page = (page.page ≢ 0)
    × PassesAll (tip_checks page.bytes page.page sequence)

-- each is, of the sequences from one on
abbrev pub AreTested : ℕ → List TipPage → Type 0
AreTested sequence [] = Unit {0}
AreTested sequence (page ∷ pages) = IsTipOf sequence page × AreTested (sequence + 1) pages

-- The header is lawful, and says the next number; these are the pages of all sequences up to that of
-- the last number drawn.
pub record HasHead (size : ℕ) (pages : Pages) (next : ℕ) (tips : List TipPage) : Type 0 where
  pub header : Header
  pub reads : reading (pages 0) size ≡ Ok header
  pub next_is : next_of pages ≡ next
  pub tips_are : tips ≡ tips_below pages (header_of pages).last_tip.0
      (last_sequence size pages + 1)
  pub tested : AreTested 0 tips
