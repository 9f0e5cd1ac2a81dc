-- Rows of the catalog that have come since a history began stand alone in their records: a table is made with a new record for
-- each of its rows, and nobody else writes the catalog. An image that is opened may have others, as a row over a deletion.
use Rattle.std.specs.Prelude.{◌≡◌, ◌<◌, ℕ, List, [], ◌∷◌, Some}
use Rattle.mg_base.specs.declared.numbers.RecId.{RecId}
use Rattle.mg_base.specs.declared.transaction.TxState.{TxState}
use Rattle.mg_image.specs.Form.{Pages, packed_form}
use Rattle.mg_image.specs.RecordRules.{Each}
use Rattle.mg_image.specs.Records.{Reading, writer}
use Rattle.mg_image.specs.Sound.{IsSoundBy}
use Rattle.mg_image.specs.Tables.{Layout, stands_of, table_at}
use Rattle.mg_image.specs.declared.entry.Entry.{Entry}
use Rattle.mg_model.specs.Openings.{everyone}
use Rattle.mg_overlay_laws.specs.Overlays.{left_state}

-- a record has one version at most, or all its versions are of transactions below a number
abbrev pub IsLone : ℕ → List Entry → Type 0
IsLone from [] = Unit {0}
IsLone from (e ∷ []) = Unit {0}
IsLone from (e ∷ d ∷ es) = Each (λ x. writer x < from) (e ∷ d ∷ es)

-- each record of the catalog is so
abbrev pub AreLone : ℕ → Layout → Reading → Type 0
AreLone from layout r = (p : RecId) → table_at (stands_of layout) p.page.0 ≡ Some layout.catalog.table
    → IsLone from (r p)

-- by the layout and the reading under which pages are sound, where each active transaction counts as in limbo
abbrev pub HasLoneRows : ℕ → ℕ → (ℕ → TxState) → Pages → Type 0
HasLoneRows from size state pages = (layout : Layout) (r : Reading)
    → IsSoundBy packed_form size (left_state everyone state) pages layout r → AreLone from layout r
