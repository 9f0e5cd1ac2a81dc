-- The records of a sound image are lawful, and its tables stand.
use Rattle.std.specs.Prelude.{ℕ}
use Rattle.mg_base.specs.declared.transaction.TxState.{TxState}
use Rattle.mg_image.specs.Catalog.{IsSameTable}
use Rattle.mg_image.specs.Form.{Pages, packed_form}
use Rattle.mg_image.specs.Records.{Reading}
use Rattle.mg_image.specs.Sound.{IsSoundBy, facts_by}
use Rattle.mg_image.specs.Tables.{Layout}
use Rattle.mg_model.specs.declared.table.Table.{Table}
use Rattle.mg_image_overlay_laws.specs.tables.Growing.{IsTableOf}
use Rattle.mg_no_damage_laws.specs.Sees.{AreLawful, StandsOn}

-- the records of a sound image are lawful
abbrev pub SoundRecordsAreLawful : Type 0
SoundRecordsAreLawful = (size : ℕ) (state : ℕ → TxState) (pages : Pages) (layout : Layout) (r : Reading)
    → IsSoundBy packed_form size state pages layout r → AreLawful size pages (facts_by state pages layout) r

-- a table of its layout stands, whichever indexes it is given with
abbrev pub SoundTablesStand : Type 0
SoundTablesStand = (size : ℕ) (state : ℕ → TxState) (pages : Pages) (layout : Layout) (r : Reading)
    → IsSoundBy packed_form size state pages layout r → (its table : Table) (of : IsTableOf layout its)
    → IsSameTable its table → StandsOn size pages (facts_by state pages layout) of.stand table
