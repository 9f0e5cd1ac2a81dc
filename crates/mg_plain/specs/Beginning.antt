-- What a plain machine keeps at an opening.
use Rattle.std.specs.Prelude.{ℕ, List, ◌∷◌, map}
use Rattle.mg_base.specs.declared.transaction.TxState.{TxState}
use Rattle.mg_base.specs.declared.transaction.TxState.TheVariants.{Committed}
use Rattle.mg_plain.specs.declared.known.Known.{Known}
use Rattle.mg_plain.specs.declared.plain.Plain.{Plain}
use Rattle.mg_model.specs.Catalog.{CatalogRows}
use Rattle.mg_model.specs.Answers.{catalog_of}
use Rattle.mg_plain.specs.Keeping.{told_in, known_at_opening}
use Rattle.mg_plain.specs.Kept.{kept}

-- what is known of the opening's transactions, from number 0 on
abbrev pub known_all : ℕ → List TxState → List Known
known_all opened states =
    known_at_opening opened Committed ∷ map (λ state. known_at_opening opened state) states

-- what the system's transaction sees of the catalog
abbrev pub catalog_of_one : Plain → CatalogRows
catalog_of_one plain = catalog_of (told_in (kept plain)) 0
