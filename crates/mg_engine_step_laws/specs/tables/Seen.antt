-- What an active transaction sees of a catalog whose rows are only made.
use Rattle.std.specs.Prelude.{◌≡◌, ℕ, true, List, ◌∷◌, Some}
use Rattle.mg_base.specs.declared.transaction.TxState.TheVariants.{Active}
use Rattle.mg_value.specs.declared.value.Value.{Value}
use Rattle.mg_model.specs.declared.opening.Opening.{Opening}
use Rattle.mg_model.specs.Answers.{told}
use Rattle.mg_model.specs.Catalog.{catalog_name}
use Rattle.mg_model.specs.Changes.{Cells, row_at}
use Rattle.mg_model.specs.History.{Entries}
use Rattle.mg_model.specs.Legal.{IsLegal, MayBegin}
use Rattle.mg_model.specs.Machine.{state_of, view}
use Rattle.mg_generation_laws.specs.Generations.{Generation, sees}
use Rattle.mg_generation_laws.specs.Kept.{StandFor}
use Rattle.mg_grown_catalog_laws.specs.Grown.{CatalogGrows}

-- where an active transaction sees a row of the catalog, it sees the newest version that stands for the key: nobody
-- has written the key since it took its base
abbrev pub NewestIsSeen : Type 0
NewestIsSeen = (o : Opening) (h : Entries) (t : ℕ) (key : Value) (row : Cells) (newest : Generation)
    (older : List Generation) → MayBegin o → IsLegal o h → CatalogGrows o h
    → state_of o h t ≡ Active → StandFor o h catalog_name key (newest ∷ older)
    → row_at (view o h t) catalog_name key ≡ Some row
    → sees (told o h) t newest.writer ≡ true
