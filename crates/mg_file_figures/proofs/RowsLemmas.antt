-- The records of the catalog are walked over one after another.
use Rattle.std.specs.Prelude.{◌≡◌, ◌*◌, ℕ, Bool, List, [], ◌∷◌, ◌++◌, Option, None, Some, length}
use Rattle.std.proofs.Common.{refl, sym, ap, ◌∙◌, subst, append-nil}
use Rattle.std.proofs.lemmas.List.{append_assoc}
use Rattle.mg_base.specs.declared.numbers.RecId.{RecId}
use Rattle.mg_check_records.specs.Listing.{ArePlaced, records_of}
use Rattle.mg_check_records.specs.Marks.{met_in, most_slots}
use Rattle.mg_check_records.specs.Records.{none_met}
use Rattle.mg_check_records.specs.Walks.{IsWalk, Met, all_met}
use Rattle.mg_file_figures.specs.CatalogRows.{AreRowsOf, AreShown, IsStopped, SaysRecord, ShowsRecord, begun, more, row_list}
use Rattle.mg_file_figures.specs.declared.catalog_rows.CatalogRows.TheVariants as rows_
use Rattle.mg_file_figures.specs.declared.catalog_rows.OneRecord.{OneRecord}
use Rattle.mg_file_figures.specs.declared.catalog_rows.OneRecord.TheVariants as ones
use Rattle.mg_findings.specs.declared.finding.Finding.{Finding}
use Rattle.mg_image.specs.Form.{Pages, Row}
use Rattle.mg_image.specs.Records.{cells_of, newest_of, shown}
use Rattle.mg_image.specs.Tables.{Has}
use Rattle.mg_image.specs.declared.entry.Entry.{Entry}
use Rattle.mg_model.specs.declared.table.Table.{Table}
use Rattle.mg_version.specs.declared.cell.Link.{Link}

-- ---- one record

module _ (pages : Pages) (table : Table) (ns : List ℕ) (size : ℕ) (committed : ℕ → Bool)
    (old new : List Bool) (p : RecId) (newest : Option Link) (es : List Entry) where
  pub record_stopped : (stopped : Option Finding) (f : Finding) → newest ≡ newest_of p (cells_of pages p)
      → stopped ≡ Some f
      → IsWalk (cells_of pages) table ns (met_in ns (most_slots size) old) p newest es stopped
      → SaysRecord pages table ns size committed old new p (ones.Stopped f)
  record_stopped stopped f first is walk = (
    es,
    subst (λ (o : Option Link). IsWalk (cells_of pages) table ns (met_in ns (most_slots size) old) p o es (Some f))
        first (subst (IsWalk (cells_of pages) table ns (met_in ns (most_slots size) old) p newest es) is walk),
  )

  pub record_shown : (stopped : Option Finding) (row : Option Row)
      → newest ≡ newest_of p (cells_of pages p) → stopped ≡ None
      → IsWalk (cells_of pages) table ns (met_in ns (most_slots size) old) p newest es stopped
      → row ≡ shown committed es
      → met_in ns (most_slots size) new ≡ all_met es (met_in ns (most_slots size) old)
      → length new ≡ length old → SaysRecord pages table ns size committed old new p (ones.Shown row)
  record_shown stopped row first is walk shows met long = record {
    versions = es;
    walk = subst
        (λ (o : Option Link). IsWalk (cells_of pages) table ns (met_in ns (most_slots size) old) p o es None)
        first (subst (IsWalk (cells_of pages) table ns (met_in ns (most_slots size) old) p newest es) is walk);
    shows = shows;
    met = met;
    long = long;
  }

-- ---- all records

-- How far the walks have come: these records are left, these marks are set, these rows are shown.
pub record IsOverRows (pages : Pages) (table : Table) (ns : List ℕ) (size : ℕ) (committed : ℕ → Bool)
    (rest : List RecId) (marks : List Bool) (rows : List Row) : Type 0 where
  pub done : List RecId
  pub split : done ++ rest ≡ records_of pages ns
  pub placed : ArePlaced ns rest
  pub met : Met
  pub walked : AreShown (cells_of pages) table ns committed done met rows
  pub marked : met_in ns (most_slots size) marks ≡ met
  pub long : length marks ≡ length ns * most_slots size

module _ (pages : Pages) (table : Table) (ns : List ℕ) (size : ℕ) (committed : ℕ → Bool) where
  pub rows_begin : (records rest : List RecId) (marks : List Bool) (rows : List Row) → rest ≡ records
      → records ≡ records_of pages ns → ArePlaced ns records → rows ≡ []
      → met_in ns (most_slots size) marks ≡ none_met → length marks ≡ length ns * most_slots size
      → IsOverRows pages table ns size committed rest marks rows
  rows_begin records rest marks rows same is placed empty met long =
      subst (IsOverRows pages table ns size committed rest marks) (sym empty) (record {
        done = [];
        split = same ∙ is;
        placed = subst (ArePlaced ns) (sym same) placed;
        met = none_met;
        walked = begun;
        marked = met;
        long = long;
      })

  pub rows_placed : (rest later : List RecId) (p : RecId) (marks : List Bool) (rows : List Row)
      → IsOverRows pages table ns size committed rest marks rows → rest ≡ p ∷ later → Has ns p.page.0
  rows_placed rest later p marks rows is cases = (subst (ArePlaced ns) cases is.placed).0

  pub rows_stop : (rest later : List RecId) (p : RecId) (marks new : List Bool) (rows : List Row)
      (one : OneRecord) (f : Finding) → IsOverRows pages table ns size committed rest marks rows
      → rest ≡ p ∷ later → SaysRecord pages table ns size committed marks new p one → one ≡ ones.Stopped f
      → AreRowsOf pages table ns committed (rows_.Found f)
  rows_stop rest later p marks new rows one f is cases says stopped =
      at (subst (SaysRecord pages table ns size committed marks new p) stopped says)
    where
      at : SaysRecord pages table ns size committed marks new p (ones.Stopped f)
          → AreRowsOf pages table ns committed (rows_.Found f)
      at told = record {
        before = is.done;
        at = p;
        after = later;
        split = ap (λ (l : List RecId). is.done ++ l) (sym cases) ∙ is.split;
        met = is.met;
        rows = rows;
        walked = is.walked;
        versions = told.0;
        stop = subst (λ (m : Met). IsWalk (cells_of pages) table ns m p (newest_of p (cells_of pages p))
            told.0 (Some f)) is.marked told.1;
      }

  pub rows_go_on : (rest later : List RecId) (p : RecId) (marks new : List Bool) (rows all : List Row)
      (one : OneRecord) (row : Option Row) → IsOverRows pages table ns size committed rest marks rows
      → rest ≡ p ∷ later → SaysRecord pages table ns size committed marks new p one → one ≡ ones.Shown row
      → all ≡ rows ++ row_list row → IsOverRows pages table ns size committed later new all
  rows_go_on rest later p marks new rows all one row is cases says shows added =
      at (subst (SaysRecord pages table ns size committed marks new p) shows says)
    where
      at : ShowsRecord pages table ns size committed marks new p row
          → IsOverRows pages table ns size committed later new all
      at told = record {
        done = is.done ++ p ∷ [];
        split = append_assoc is.done (p ∷ []) later
            ∙ (ap (λ (l : List RecId). is.done ++ l) (sym cases) ∙ is.split);
        placed = (subst (ArePlaced ns) cases is.placed).1;
        met = all_met told.versions is.met;
        walked = subst (AreShown (cells_of pages) table ns committed (is.done ++ p ∷ []) (all_met told.versions is.met))
            (sym (added ∙ ap (λ (o : Option Row). rows ++ row_list o) told.shows))
            (more is.done is.met rows p told.versions is.walked
            (subst (λ (m : Met). IsWalk (cells_of pages) table ns m p (newest_of p (cells_of pages p))
            told.versions None) is.marked told.walk));
        marked = told.met ∙ ap (all_met told.versions) is.marked;
        long = told.long ∙ is.long;
      }

  pub rows_end : (rest : List RecId) (marks : List Bool) (rows : List Row)
      → IsOverRows pages table ns size committed rest marks rows → rest ≡ []
      → (met : Met) × AreShown (cells_of pages) table ns committed (records_of pages ns) met rows
  rows_end rest marks rows is none = (
    is.met,
    subst (λ (ps : List RecId). AreShown (cells_of pages) table ns committed ps is.met rows)
        (sym (append-nil is.done) ∙ (ap (λ (l : List RecId). is.done ++ l) (sym none) ∙ is.split))
        is.walked,
  )
