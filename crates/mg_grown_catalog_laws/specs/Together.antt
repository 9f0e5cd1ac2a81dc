-- Of a catalog whose rows are only made, a transaction makes the rows of a table together: it sets no mark and no savepoint
-- between them.
use Rattle.std.specs.Prelude.{◌≡◌, ◌⊎◌, ℕ, true, List, [], ◌∷◌}
use Rattle.mg_base.specs.declared.transaction.TxState.TheVariants.{Active}
use Rattle.mg_model.specs.declared.change.Change.{Change}
use Rattle.mg_model.specs.declared.change.Deed.{Deed}
use Rattle.mg_model.specs.declared.change.Deed.TheVariants.{Changed, Marked, Saved}
use Rattle.mg_model.specs.declared.opening.Opening.{Opening}
use Rattle.mg_model.specs.Catalog.{catalog_name, table_key, text_of}
use Rattle.mg_model.specs.Changes.{has_change}
use Rattle.mg_model.specs.History.{Entries}
use Rattle.mg_model.specs.Legal.{IsLegal, MayBegin}
use Rattle.mg_model.specs.Machine.{deeds_by, state_of, steps}
use Rattle.mg_model.specs.Openings.{IsOpening}
use Rattle.mg_grown_catalog_laws.specs.Grown.{CatalogGrows, columns_table}

-- the changes since the last mark or savepoint
abbrev pub since_last : List Deed → List Change
since_last [] = []
since_last (Changed c ∷ ds) = c ∷ since_last ds
since_last (Marked ∷ ds) = []
since_last (Saved name ∷ ds) = []

-- a row of the catalog whose key has this text is a table's, or it is a column's and these changes have its table's
abbrev pub ComesWith : List Change → List ℕ → Type 0
ComesWith cs [] = ⊥
ComesWith cs (letter ∷ rest) =
    (letter ≡ 84) ⊎ ((letter ≡ 67) × (has_change cs catalog_name (table_key (columns_table rest)) ≡ true))

-- each row of the catalog that was changed comes with its table, since the last mark or savepoint before it
abbrev pub AreTogether : List Deed → Type 0
AreTogether [] = Unit {0}
AreTogether (Changed c ∷ ds) = (c.table ≡ catalog_name → ComesWith (since_last ds) (text_of c.key)) × AreTogether ds
AreTogether (Marked ∷ ds) = AreTogether ds
AreTogether (Saved name ∷ ds) = AreTogether ds

-- so it is of what an active transaction did
abbrev pub RowsAreTogether : Type 0
RowsAreTogether = (o : Opening) (h : Entries) (t : ℕ) → IsOpening o → MayBegin o → IsLegal o h → CatalogGrows o h
    → state_of o h t ≡ Active → AreTogether (deeds_by t (steps o h))
