-- Histories in which whoever takes a base takes a lawful catalog with it.
use Rattle.std.specs.Prelude.{ℕ}
use Rattle.mg_model.specs.declared.opening.Opening.{Opening}
use Rattle.mg_model.specs.Catalog.{catalog_name}
use Rattle.mg_model.specs.Changes.{row_at}
use Rattle.mg_model.specs.History.{Entries}
use Rattle.mg_model.specs.Machine.{base}
use Rattle.mg_model.specs.Openings.{IsToldCatalog}

-- the catalog of each base is lawful, as the history has it
abbrev pub BasesAreLawful : Opening → Entries → Type 0
BasesAreLawful o h = (t : ℕ) → IsToldCatalog (row_at (base o h t) catalog_name)
