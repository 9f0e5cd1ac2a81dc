-- A table that was given to a transaction has no index, since no table of a plain image has one. So a write lays no entry.
use Rattle.std.proofs.Common.{◌≡◌, inr, ℕ, List, Option, None, Some}
use Rattle.mg_base.specs.Disk.{Meaning}
use Rattle.mg_base.specs.declared.transaction.TxState.TheVariants.{Active}
use Rattle.mg_core.specs.declared.parts.Core.{Core}
use Rattle.mg_engine_meaning_laws.specs.PlainTables.{IsPlainTable}
use Rattle.mg_engine_meaning_laws.specs.Standings.{ShowsIt, StandsFor, standing_of}
use Rattle.mg_engine_meaning_laws.specs.StepLaws.{shows_of}
use Rattle.mg_image_overlay_laws.specs.tables.OneTable.{stands_in}
use Rattle.mg_model.specs.History.{Entries}
use Rattle.mg_model.specs.Openings.{everyone}
use Rattle.mg_model.specs.declared.opening.Opening.{Opening}
use Rattle.mg_model.specs.declared.table.Table.{Table}
use Rattle.mg_row_writes.specs.Bare.{IsBare}
use Rattle.mg_txlist.specs.TxList.{said}
use Rattle.mg_works.specs.Works.{given_to}

pub given_bare : {D : Type 0} (m : Meaning D) (core : Core D) (o : Opening) (h : Entries) → StandsFor m core o h
    → core.store.offline ≡ None → (t : ℕ) → said core.list t ≡ Active → (table : Table)
    → given_to core.works t table.name ≡ Some table → IsBare table
given_bare {D} m core o h stands online t counts table given = plain.no_index
  where
    shows : ShowsIt m core o h (standing_of core stands.numbers stands.tables)
    shows = shows_of m core o h stands online

    plain : IsPlainTable table
    plain = shows.plain_tables.each everyone shows.stands.shows.layout shows.stands.shows.reading
        shows.stands.shows.sound table (stands_in shows.stands.shows.layout table
        (inr ((shows.stands.shows.tables t counts).seen table.name table (stands.given t table.name table given))))
