-- Of a catalog whose rows are only made, no transaction makes one twice.
use Rattle.std.specs.Prelude.{◌≡◌, ℕ, false, List, [], ◌∷◌}
use Rattle.mg_model.specs.declared.change.Change.{Change}
use Rattle.mg_model.specs.declared.opening.Opening.{Opening}
use Rattle.mg_model.specs.Catalog.{catalog_name}
use Rattle.mg_model.specs.Changes.{has_change}
use Rattle.mg_model.specs.History.{Entries}
use Rattle.mg_model.specs.Legal.{IsLegal, MayBegin}
use Rattle.mg_model.specs.Machine.{own}
use Rattle.mg_model.specs.Openings.{IsOpening}
use Rattle.mg_grown_catalog_laws.specs.Grown.{CatalogGrows}

-- of these changes, the newest first, each that is of the catalog is at a key at which the older ones have none
abbrev pub AreMadeOnce : List Change → Type 0
AreMadeOnce [] = Unit {0}
AreMadeOnce (c ∷ cs) = (c.table ≡ catalog_name → has_change cs catalog_name c.key ≡ false) × AreMadeOnce cs

-- so are the own changes of each transaction
abbrev pub RowsAreMadeOnce : Type 0
RowsAreMadeOnce = (o : Opening) (h : Entries) (t : ℕ) → IsOpening o → MayBegin o → IsLegal o h → CatalogGrows o h
    → AreMadeOnce (own o h t)
