-- What is told of a file, part by part.
use Rattle.std.specs.Prelude.{◌≡◌, ◌≤◌, ℕ, false, List, [], ◌∷◌, Result, Ok, Err, IfErr, length}
use Rattle.std.proofs.Common.{refl, sym, ap, ◌∙◌, inl, subst, arith}
use Rattle.mg_base.specs.Image.{Image, page_at}
use Rattle.mg_base.specs.declared.damage.Damaged.{Damaged}
use Rattle.mg_catalog.specs.ByKey.{by_key}
use Rattle.mg_catalog.specs.FirstBad.{IsFirstBad}
use Rattle.mg_catalog.specs.declared.fault.CatFault.{CatFault}
use Rattle.mg_catalog.specs.declared.fault.CatFault.TheVariants.{BadTable}
use Rattle.mg_check_catalog.specs.CatalogRung.{IsCatalogFinding, IsRungFinding, first_of}
use Rattle.mg_check_front.specs.Front.{IsFirstFinding}
use Rattle.mg_check_pages.specs.PageTests.{header_test}
use Rattle.mg_check_records.specs.Listing.{records_of}
use Rattle.mg_check_records.specs.Walks.{Met}
use Rattle.mg_check_tables.specs.DataPageLaws.{data_pages_wanted}
use Rattle.mg_check_tables.specs.Seats.{AreDataPages}
use Rattle.mg_check_tables.specs.TableRung.{HasTable, IsTableFinding}
use Rattle.mg_file_figures.specs.CatalogRows.{AreRowsOf, AreShown, IsCatalogStop, ShowsRows, committed_at}
use Rattle.mg_file_figures.specs.declared.catalog_rows.CatalogRows.{CatalogRows}
use Rattle.mg_file_figures.specs.declared.catalog_rows.CatalogRows.TheVariants as rows_
use Rattle.mg_file_figures.specs.Stating.{HasField, IsStated, NamesTables, in_catalog, in_rows, in_rungs, in_tables, row_finding}
use Rattle.mg_file_figures.specs.declared.stating.Stated.TheVariants.{Found}
use Rattle.mg_file_figures.specs.Tables.{AreToldAll, IsFoundAmong}
use Rattle.mg_file_figures.specs.declared.tables.AllTables.{AllTables}
use Rattle.mg_file_figures.specs.declared.tables.AllTables.TheVariants as alls
use Rattle.mg_file_figures.proofs.DamageLemmas.{among_field, rung_field}
use Rattle.mg_findings.specs.declared.finding.Finding.{Finding}
use Rattle.mg_findings.specs.Findings.{HasNone, IsListOf, Tells, damage_finding}
use Rattle.mg_findings.specs.RungLaws.{none_of_rungs}
use Rattle.mg_image.specs.Catalog.{catalog_table}
use Rattle.mg_image.specs.Form.{Row}
use Rattle.mg_image.specs.Records.{cells_of}
use Rattle.mg_image.specs.Sound.{IsTableData}
use Rattle.mg_image.specs.Tables.{EachFrom}
use Rattle.mg_model.specs.CatalogRules.{AreTables}
use Rattle.mg_model.specs.declared.table.Table.{Table}
use Rattle.mg_value.specs.declared.shape.TheConstants.{MOST_COLUMNS}

-- what is known of an error
pub err_told : {A E : Type 0} (P : E → Type 0) (result : Result A E) (fault : E) → result ≡ Err fault
    → IfErr result P → P fault
err_told P result fault is told = subst (λ it. IfErr it P) is told

-- the catalog has few columns
pub catalog_small : (table : Table) (first : ℕ) → table ≡ catalog_table first
    → length table.shape.columns ≤ MOST_COLUMNS
catalog_small table first named =
    subst (λ (t : Table). length t.shape.columns ≤ MOST_COLUMNS) (sym named) six
  where
    six : 6 ≤ MOST_COLUMNS
    six = omega arith

module _ (size : ℕ) (image : Image) where
  -- ---- the rungs

  pub rungs_stated : (fs : List Finding) (f : Finding) → IsListOf (IsRungFinding size image) fs
      → (rest : List Finding) × (fs ≡ f ∷ rest) → IsStated size image (Found f)
  rungs_stated fs f list first = in_rungs first.0
      (subst (IsListOf (IsRungFinding size image)) first.1 list)

  pub rungs_damage : (fs : List Finding) (f : Finding) → IsListOf (IsRungFinding size image) fs
      → (rest : List Finding) × (fs ≡ f ∷ rest) → HasField f
  rungs_damage fs f list first = rung_field size image f
      (((subst (IsListOf (IsRungFinding size image)) first.1 list).members f).0 (inl refl))

  -- where nothing is found on them, the header passes
  pub header_passes : (test : Result (Unit {0}) Damaged) (damage : Damaged)
      → HasNone (IsRungFinding size image) → test ≡ header_test (page_at size image 0) size
      → test ≡ Err damage → ⊥
  header_passes test damage none is failed = none (damage_finding damage) (inl (inl
      (subst (λ (t : Result (Unit {0}) Damaged). Tells t (damage_finding damage))
      (sym failed ∙ is) refl)))

  -- nor is anything found in the pages of the catalog
  pub catalog_none : (first : ℕ) → first ≡ first_of (page_at size image)
      → HasNone (IsRungFinding size image)
      → HasNone (IsTableFinding size (page_at size image) (length image) 0 first)
  catalog_none first is none =
      subst (λ (n : ℕ). HasNone (IsTableFinding size (page_at size image) (length image) 0 n)) (sym is)
      ((none_of_rungs (IsFirstFinding size image) (IsCatalogFinding size image)).0 none).1

  -- its data pages are as wanted
  pub catalog_wanted : (table : Table) (first : ℕ) (ns : List ℕ) → table ≡ catalog_table first
      → first ≡ first_of (page_at size image)
      → HasTable size (page_at size image) (first_of (page_at size image))
      → AreDataPages (page_at size image) first ns
      → EachFrom (IsTableData false size (page_at size image) table.pointer.0) 0 ns
  catalog_wanted table first ns named is has are =
      subst (λ (t : Table). EachFrom (IsTableData false size (page_at size image) t.pointer.0) 0 ns)
      (sym named) (data_pages_wanted size (page_at size image) first ns
      (subst (HasTable size (page_at size image)) (sym is) has) are)

  -- ---- the catalog

  pub catalog_stops : (table : Table) (first : ℕ) (ns : List ℕ) (it : CatalogRows) (f : Finding)
      → table ≡ catalog_table first → first ≡ first_of (page_at size image)
      → AreDataPages (page_at size image) first ns
      → AreRowsOf (page_at size image) table ns (committed_at size (page_at size image)) it
      → it ≡ rows_.Found f → IsCatalogStop size (page_at size image) f
  catalog_stops table first ns it f named is are rows found = record {
    data_pages = ns;
    are = subst (λ (n : ℕ). AreDataPages (page_at size image) n ns) is are;
    stopped = subst (λ (t : Table). AreRowsOf (page_at size image) t ns
        (committed_at size (page_at size image)) (rows_.Found f)) (named ∙ ap catalog_table is)
        (subst (AreRowsOf (page_at size image) table ns (committed_at size (page_at size image))) found rows);
  }

  pub catalog_shows : (table : Table) (first : ℕ) (ns : List ℕ) (rows : List Row)
      → table ≡ catalog_table first → first ≡ first_of (page_at size image)
      → AreDataPages (page_at size image) first ns
      → ((met : Met) × AreShown (cells_of (page_at size image)) table ns
      (committed_at size (page_at size image)) (records_of (page_at size image) ns) met rows)
      → ShowsRows size (page_at size image) rows
  catalog_shows table first ns rows named is are told = record {
    data_pages = ns;
    are = subst (λ (n : ℕ). AreDataPages (page_at size image) n ns) is are;
    met = told.0;
    walked = subst (λ (t : Table). AreShown (cells_of (page_at size image)) t ns
        (committed_at size (page_at size image)) (records_of (page_at size image) ns) told.0 rows)
        (named ∙ ap catalog_table is) told.1;
  }

  pub stop_stated : (f : Finding) → HasNone (IsRungFinding size image)
      → IsCatalogStop size (page_at size image) f → IsStated size image (Found f)
  stop_stated f none stops = in_catalog none stops

  -- ---- rows

  pub row_stated : (rows : List Row) (first at : ℕ) (f : Finding) (fault : CatFault)
      → HasNone (IsRungFinding size image) → ShowsRows size (page_at size image) rows
      → first ≡ first_of (page_at size image) → fault ≡ BadTable at → IsFirstBad rows fault
      → f ≡ row_finding first at (length rows) → IsStated size image (Found f)
  row_stated rows first at f fault none shows is bad first_bad row = in_rows rows at none shows
      (subst (IsFirstBad rows) bad first_bad)
      (row ∙ ap (λ (n : ℕ). row_finding n at (length rows)) is)

  pub row_damage : (first at count : ℕ) (f : Finding) → f ≡ row_finding first at count → HasField f
  row_damage first at count f is = subst HasField (sym is) (_, refl)

  pub names_tables : (rows : List Row) (tables : List Table) → HasNone (IsRungFinding size image)
      → ShowsRows size (page_at size image) rows → AreTables (by_key rows) tables
      → NamesTables size image tables
  names_tables rows tables none shows named =
      record { none = none; rows = rows; shows = shows; named = named }

  -- ---- tables

  pub tables_stated : (tables : List Table) (first : ℕ) (it : AllTables) (f : Finding)
      → NamesTables size image tables → first ≡ first_of (page_at size image)
      → AreToldAll size image first tables it → it ≡ alls.Found f → IsStated size image (Found f)
  tables_stated tables first it f names is told found = in_tables tables names
      (subst (λ (n : ℕ). IsFoundAmong size image n tables f) is
      (subst (AreToldAll size image first tables) found told))

  pub tables_damage : (tables : List Table) (first : ℕ) (it : AllTables) (f : Finding)
      → AreToldAll size image first tables it → it ≡ alls.Found f → HasField f
  tables_damage tables first it f told found =
      among_field size image first tables f (subst (AreToldAll size image first tables) found told)
