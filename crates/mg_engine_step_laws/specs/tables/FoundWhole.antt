-- The table that is found under a name is one of those of the layout, with all its indexes.
use Rattle.std.proofs.Common.{◌≡◌, refl, sym, ◌∙◌, subst, ℕ, List, Option, None, Some}
use Rattle.std.specs.Prelude.{map}
use Rattle.mg_base.specs.declared.numbers.TxNo.{TxNo}
use Rattle.mg_base.specs.declared.transaction.TxState.TheVariants.{Active}
use Rattle.mg_value.specs.declared.shape.Shape.{Shape}
use Rattle.mg_model.specs.declared.opening.Opening.{Opening}
use Rattle.mg_model.specs.declared.table.Table.{Table}
use Rattle.mg_model.specs.Catalog.{catalog_name}
use Rattle.mg_model.specs.CatalogRules.{IsTable}
use Rattle.mg_model.specs.Changes.{row_at}
use Rattle.mg_model.specs.History.{Entries}
use Rattle.mg_model.specs.Legal.{IsLegal, MayBegin}
use Rattle.mg_model.specs.Machine.{base, state_of}
use Rattle.mg_model.specs.Openings.{IsToldCatalog}
use Rattle.mg_catalog.specs.ByKey.{by_key}
use Rattle.mg_records.specs.Reading.{shape_seen}
use Rattle.mg_generation_laws.specs.Laws.{ChainsShowDatabase}
use Rattle.mg_image.specs.Form.{Pages}
use Rattle.mg_image_overlay_laws.specs.tables.TableOwners.{IsOneOf, one_each}
use Rattle.mg_seek.specs.Readings.{RowsOfReadings}
use Rattle.mg_seek.specs.TableRows.{IsTableSeen}
use Rattle.mg_grown_catalog_laws.specs.Grown.{BasesAreWithin, CatalogGrows, OwnRowsAreNew}
use Rattle.mg_engine_step_laws.specs.reads.AnswersLaws.{NothingAtKeys, RowsAtKeys}
use Rattle.mg_engine_step_laws.specs.tables.Found.{FoundTablesStand}
use Rattle.mg_engine_step_laws.specs.standing.Known.{KnowsPages}
use Rattle.mg_engine_step_laws.specs.tables.LawfulLaws.{indexes_whole, within}
use Rattle.mg_engine_step_laws.specs.tables.Seen.{NewestIsSeen}
use Rattle.mg_engine_step_laws.specs.standing.Standing.{IsSeenAs, Standing}
use Rattle.mg_engine_step_laws.specs.standing.StandingLaws.{ChainsGoOn}
use Rattle.mg_engine_step_laws.specs.tables.SeenRows.{named_is}
use Rattle.mg_engine_step_laws.specs.reads.Tables.{TablesAreTold}
use Rattle.mg_engine_step_laws.specs.tables_back.WholeIndexes.{same_table}

module _ (rows_law : RowsOfReadings) (rows_at : RowsAtKeys) (nothing : NothingAtKeys) (newest : NewestIsSeen)
    (shows : ChainsShowDatabase) (go_on : ChainsGoOn) (own_new : OwnRowsAreNew) (older : BasesAreWithin)
    (tables_told : TablesAreTold) (size : ℕ) (o : Opening) (h : Entries) (s : Standing) (pages : Pages)
    (knows : KnowsPages size o h s pages) (t : TxNo) (name : List ℕ) (table : Table) (opening : MayBegin o)
    (legal : IsLegal o h) (grows : CatalogGrows o h) (active : state_of o h t.0 ≡ Active)
    (base_is : IsToldCatalog (row_at (base o h t.0) catalog_name))
    (seen : IsTableSeen s.state s.live t pages knows.shows.layout.catalog.table name (Some table)) where
  said : (table.name ≡ name) × IsTable (by_key seen.rows) table
  said = named_is (by_key seen.rows) seen.names.0 name table seen.names.1.each seen.names.2

  -- one of the layout's with the name and the shape is the table
  is_given : (given : Table) → given.name ≡ name → given.shape ≡ table.shape
      → IsOneOf (map (λ stand. stand.table) knows.shows.layout.tables) given → given ≡ table
  is_given given called shaped one = same_table (by_key seen.rows) knows.shows.sound.names.all.rows
      (within rows_law rows_at nothing newest shows go_on own_new older size o h s pages knows t seen.rows opening legal
      grows active base_is seen.seen) table given said.1 (one_each (IsTable knows.shows.sound.names.all.rows)
      (map (λ stand. stand.table) knows.shows.layout.tables) given knows.shows.sound.names.all.are_tables.each one)
      (called ∙ sym said.0) shaped (indexes_whole rows_law rows_at nothing newest shows go_on own_new older size o h s
      pages knows t seen.rows opening legal grows active base_is seen.seen table.name said.1.row said.1.there)

  -- the table that memory has under the name is such a one
  found_one : IsOneOf (map (λ stand. stand.table) knows.shows.layout.tables) table
  found_one = by (shape_seen o h t.0 name)
      (tables_told size o h s pages knows t name (Some table) opening legal active seen)
      (s.table t.0 name) refl ((knows.memory.active t.0 active).table name)
    where
      by : (x : Option Shape) → IsSeenAs name x (Some table) → (given : Option Table)
          → s.table t.0 name ≡ given → IsSeenAs name x given
          → IsOneOf (map (λ stand. stand.table) knows.shows.layout.tables) table
      by None is given remembered also = absurd is
      by (Some shape) is None remembered also = absurd also
      by (Some shape) is (Some given) remembered also = there
          ((knows.shows.tables t.0 (knows.memory.state t.0 ∙ active)).seen name given remembered)
        where
          there : IsOneOf (map (λ stand. stand.table) knows.shows.layout.tables) given
              → IsOneOf (map (λ stand. stand.table) knows.shows.layout.tables) table
          there one = subst (IsOneOf (map (λ stand. stand.table) knows.shows.layout.tables))
              (is_given given also.0 (also.1 ∙ sym is.1) one) one

-- ---- the law

pub found_tables_stand : RowsOfReadings → RowsAtKeys → NothingAtKeys → NewestIsSeen → ChainsShowDatabase → ChainsGoOn
    → OwnRowsAreNew → BasesAreWithin → TablesAreTold → FoundTablesStand
found_tables_stand rows_law rows_at nothing newest shows go_on own_new older tables_told size o h s pages knows t name
    table opening legal grows active base_is seen = found_one rows_law rows_at nothing newest shows go_on own_new older
    tables_told size o h s pages knows t name table opening legal grows active base_is seen
