-- The figures of a table, and of several.
use Rattle.std.specs.Prelude.{◌≡◌, ◌⊎◌, ◌≤◌, ◌*◌, ℕ, Bool, List, [], ◌∷◌, ◌++◌, length}
use Rattle.std.proofs.Common.{refl, sym, ap, ◌∙◌, inl, inr, subst, append-nil}
use Rattle.std.proofs.lemmas.List.{append_assoc}
use Rattle.mg_base.specs.Image.{Image, page_at}
use Rattle.mg_check_data.specs.DataRung.{HasOne}
use Rattle.mg_check_records.specs.Listing.{records_of, set_below}
use Rattle.mg_check_records.specs.Marks.{most_slots}
use Rattle.mg_check_records.specs.Records.{IsWalkedOver, places_of}
use Rattle.mg_check_tables.specs.Seats.{AreDataPages}
use Rattle.mg_check_tables.specs.TableRung.{HasTable}
use Rattle.mg_file_figures.specs.Tables.{AreTableFigures, AreTold, AreToldAll, IsFoundAmong, IsFoundIn, IsPagesFinding, IsToldOne, WalksOver, in_pages, in_records}
use Rattle.mg_file_figures.specs.declared.figures.TableFigures.{TableFigures}
use Rattle.mg_file_figures.specs.declared.table.OneTable.{OneTable}
use Rattle.mg_file_figures.specs.declared.table.OneTable.TheVariants as ones
use Rattle.mg_file_figures.specs.declared.tables.AllTables.TheVariants as alls
use Rattle.mg_findings.specs.declared.finding.Finding.{Finding}
use Rattle.mg_findings.specs.Findings.{Adds, Has, HasNone, IsListOf}
use Rattle.mg_findings.specs.RungLaws.{empty_is_none, list_as}
use Rattle.mg_image.specs.Form.{Pages}
use Rattle.mg_image.specs.Records.{cells_of}
use Rattle.mg_model.specs.declared.table.Table.{Table}
use Rattle.mg_model.specs.CatalogRules.{EachTable}
use Rattle.mg_value.specs.declared.shape.TheConstants.{MOST_COLUMNS}

-- ---- lists of findings

-- what was added to nothing is the list
pub list_added : (P : Finding → Type 0) (none fs gs : List Finding) → none ≡ [] → Adds none fs P
    → IsListOf (Has fs) gs → IsListOf P gs
list_added P none fs gs empty adds list = list_as P fs gs list (λ f. (
  λ has. elim ((adds f).0 has) [
    | inl before ↦ absurd (subst (λ (l : List Finding). Has l f) empty before)
    | inr is ↦ is
  ],
  λ is. (adds f).1 (inr is),
))

pub none_listed : (P : Finding → Type 0) (fs : List Finding) → IsListOf P fs → fs ≡ [] → HasNone P
none_listed P fs list empty = (empty_is_none P fs list).0 empty

-- where nothing is found the other holds
pub decided_other : (P : Finding → Type 0) (Q : Type 0) → HasNone P → HasOne P ⊎ Q → Q
decided_other P Q none (inl one) = absurd (none one.0 one.1)
decided_other P Q none (inr other) = other

-- ---- one table

pub pages_found : (size : ℕ) (image : Image) (holder : ℕ) (table : Table) (fs : List Finding)
    (f : Finding) → IsListOf (IsPagesFinding size image holder table) fs
    → (rest : List Finding) × (fs ≡ f ∷ rest) → IsToldOne size image holder table (ones.Found f)
pages_found size image holder table fs f list first = in_pages first.0
    (subst (IsListOf (IsPagesFinding size image holder table)) first.1 list)

walks_over : (size : ℕ) (pages : Pages) (table : Table) (ns : List ℕ) (marks : List Bool)
    (found found' : List Finding) → found ≡ found' → AreDataPages pages table.pointer.0 ns
    → IsWalkedOver (cells_of pages) table ns size (places_of pages ns) marks found
    → length marks ≡ length ns * most_slots size → WalksOver size pages table ns marks found'
walks_over size pages table ns marks found found' same are walked long = record {
  are = are;
  walked = subst (IsWalkedOver (cells_of pages) table ns size (places_of pages ns) marks) same walked;
  long = long;
}

pub records_found : (size : ℕ) (image : Image) (holder : ℕ) (table : Table) (ns : List ℕ)
    (marks : List Bool) (found : List Finding) (f : Finding)
    → HasNone (IsPagesFinding size image holder table)
    → AreDataPages (page_at size image) table.pointer.0 ns
    → IsWalkedOver (cells_of (page_at size image)) table ns size (places_of (page_at size image) ns) marks found
    → length marks ≡ length ns * most_slots size → (rest : List Finding) × (found ≡ f ∷ rest)
    → IsToldOne size image holder table (ones.Found f)
records_found size image holder table ns marks found f none are walked long first =
    in_records ns marks first.0 none
    (walks_over size (page_at size image) table ns marks found (f ∷ first.0) first.1 are walked long)

pub figures_told : (size : ℕ) (image : Image) (holder : ℕ) (table : Table) (ns : List ℕ)
    (marks : List Bool) (found : List Finding) (it : TableFigures)
    → HasNone (IsPagesFinding size image holder table)
    → AreDataPages (page_at size image) table.pointer.0 ns
    → IsWalkedOver (cells_of (page_at size image)) table ns size (places_of (page_at size image) ns) marks found
    → length marks ≡ length ns * most_slots size → found ≡ []
    → it.name ≡ table.name → it.records ≡ length (records_of (page_at size image) ns)
    → it.versions ≡ set_below marks (length marks) → it.pages ≡ length ns
    → IsToldOne size image holder table (ones.Told it)
figures_told size image holder table ns marks found it none are walked long empty named records versions pages_is = (
  none,
  record {
    named = named;
    data_pages = ns;
    marks = marks;
    whole = walks_over size (page_at size image) table ns marks found [] empty are walked long;
    records = records;
    versions = versions;
    pages_ = pages_is;
  },
)

-- ---- several tables

module _ (size : ℕ) (image : Image) (holder : ℕ) where
  told_more : (tables : List Table) (its : List TableFigures) (table : Table) (it : TableFigures)
      → AreTold size image holder tables its → IsToldOne size image holder table (ones.Told it)
      → AreTold size image holder (tables ++ table ∷ []) (its ++ it ∷ [])
  told_more [] [] table it told one = (one, tt)
  told_more [] (other ∷ its) table it told one = absurd told
  told_more (first ∷ tables) [] table it told one = absurd told
  told_more (first ∷ tables) (other ∷ its) table it told one =
      (told.0, told_more tables its table it told.1 one)

  -- How far the tables have been told: these are left.
  pub record IsOverTables (tables rest : List Table) (its : List TableFigures) : Type 0 where
    pub done : List Table
    pub split : done ++ rest ≡ tables
    pub told : AreTold size image holder done its
    pub small : EachTable (λ t. length t.shape.columns ≤ MOST_COLUMNS) rest

  pub tables_begin : (tables : List Table) (its : List TableFigures) → its ≡ []
      → EachTable (λ t. length t.shape.columns ≤ MOST_COLUMNS) tables → IsOverTables tables tables its
  tables_begin tables its empty small = subst (IsOverTables tables tables) (sym empty)
      (record { done = []; split = refl; told = tt; small = small })

  pub tables_small : (tables rest later : List Table) (its : List TableFigures) (table : Table)
      → IsOverTables tables rest its → rest ≡ table ∷ later → length table.shape.columns ≤ MOST_COLUMNS
  tables_small tables rest later its table is cases =
      (subst (EachTable (λ t. length t.shape.columns ≤ MOST_COLUMNS)) cases is.small).0

  pub tables_stop : (tables rest later : List Table) (its : List TableFigures) (table : Table)
      (one : OneTable) (f : Finding) → IsOverTables tables rest its → rest ≡ table ∷ later
      → IsToldOne size image holder table one → one ≡ ones.Found f
      → AreToldAll size image holder tables (alls.Found f)
  tables_stop tables rest later its table one f is cases told found = record {
    before = is.done;
    table = table;
    after = later;
    split = ap (λ (l : List Table). is.done ++ l) (sym cases) ∙ is.split;
    figures = its;
    told = is.told;
    found = subst (IsToldOne size image holder table) found told;
  }

  pub tables_go_on : (tables rest later : List Table) (its more : List TableFigures) (table : Table)
      (one : OneTable) (it : TableFigures) → IsOverTables tables rest its → rest ≡ table ∷ later
      → IsToldOne size image holder table one → one ≡ ones.Told it → more ≡ its ++ it ∷ []
      → IsOverTables tables later more
  tables_go_on tables rest later its more table one it is cases told figures added =
      subst (IsOverTables tables later) (sym added) (record {
        done = is.done ++ table ∷ [];
        split = append_assoc is.done (table ∷ []) later
            ∙ (ap (λ (l : List Table). is.done ++ l) (sym cases) ∙ is.split);
        told = told_more is.done its table it is.told (subst (IsToldOne size image holder table) figures told);
        small = (subst (EachTable (λ t. length t.shape.columns ≤ MOST_COLUMNS)) cases is.small).1;
      })

  pub tables_end : (tables rest : List Table) (its : List TableFigures) → IsOverTables tables rest its
      → rest ≡ [] → AreTold size image holder tables its
  tables_end tables rest its is none = subst (λ (ts : List Table). AreTold size image holder ts its)
      (sym (append-nil is.done) ∙ (ap (λ (l : List Table). is.done ++ l) (sym none) ∙ is.split)) is.told
