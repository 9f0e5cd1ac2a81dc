-- What is found on the first four rungs of a validation, of which the last is the catalog's pages.
use Rattle.std.specs.Prelude.{ℕ, length}
use Rattle.mg_base.specs.Image.{Image, page_at}
use Rattle.mg_check_front.specs.Front.{IsFirstFinding}
use Rattle.mg_check_tables.specs.TableRung.{HasTable, IsTableFinding}
use Rattle.mg_findings.specs.declared.finding.Finding.{Finding}
use Rattle.mg_findings.specs.Findings.{OfFirst}
use Rattle.mg_image.specs.Form.{Pages}
use Rattle.mg_image.specs.Inventory.{header_of}
use Rattle.mg_image.specs.Sound.{HasHeader, HasInventory, HasTransactions}

-- the first pointer page of the catalog, as the header names it
abbrev pub first_of : Pages → ℕ
first_of pages = (header_of pages).catalog.0

-- what is found in the pages of the catalog
abbrev pub IsCatalogFinding : ℕ → Image → Finding → Type 0
IsCatalogFinding size image = IsTableFinding size (page_at size image) (length image) 0
    (first_of (page_at size image))

-- what is found of the header, the page inventory and the transaction inventory; and, where these
-- are lawful, in the pages of the catalog
abbrev pub IsRungFinding : ℕ → Image → Finding → Type 0
IsRungFinding size image = OfFirst (IsFirstFinding size image) (IsCatalogFinding size image)

-- These parts of an image are as a sound image asks it.
pub record HasRungs (size : ℕ) (pages : Pages) : Type 0 where
  pub header : HasHeader size pages
  pub inventory : HasInventory size pages
  pub transactions : HasTransactions size pages
  pub catalog : HasTable size pages (first_of pages)
