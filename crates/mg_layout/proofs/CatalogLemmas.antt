-- What was read of the catalog's slots gives its rows under each choice of limbo transactions.
use Rattle.std.proofs.Common.{◌≡◌, ◌≢◌, ◌⊎◌, ◌&&◌, ◌||◌, inl, inr, refl, sym, ap, ◌∙◌, subst, ℕ, zero, suc, ◌<◌, Bool, true, false, List, [], ◌∷◌, length, Option, None, Some, arith, if◌then◌else◌}
use Rattle.std.specs.Prelude.{slice_index_or}
use Rattle.mg_base.specs.declared.numbers.RecId.{RecId}
use Rattle.mg_base.specs.declared.transaction.TxState.{TxState}
use Rattle.mg_base.specs.declared.transaction.TxState.TheVariants.{Active, Limbo, Dead, Committed}
use Rattle.mg_value.specs.declared.value.Value.{Value}
use Rattle.mg_model.specs.declared.table.Table.{Table}
use Rattle.mg_model.specs.Answers.{is_committed}
use Rattle.mg_model.specs.Legal.{is_limbo}
use Rattle.mg_image.specs.declared.entry.Entry.{Entry}
use Rattle.mg_image.specs.Catalog.{committed_with}
use Rattle.mg_image.specs.Form.{Coding, Row}
use Rattle.mg_image.specs.Held.{AreRows, Shows}
use Rattle.mg_image.specs.RecordRules.{AreRecords, Each, Facts, IsRecord, IsVersion, TakesKey, committed_in}
use Rattle.mg_image.specs.Records.{cells_of, key_of, record_key, shown, writer}
use Rattle.mg_image.specs.StepLaws.{cases_place, same_place}
use Rattle.mg_image.specs.Tables.{Has, table_at}
use Rattle.mg_reading.specs.PartLaws.{versions_of}
use Rattle.mg_reading.specs.declared.found.Found.{Found}
use Rattle.mg_reading.specs.declared.image.Image.{Image}
use Rattle.mg_reading.specs.declared.rows.RowCoding.{RowCoding}
use Rattle.mg_reading.specs.Codings.{coding_of}
use Rattle.mg_reading.specs.Found.{AreFound, IsFound, image_facts, reading_of}
use Rattle.mg_reading.specs.HeldTable.{rows_shown, with_row}
use Rattle.mg_reading.specs.ImageView.{pages_in}
use Rattle.mg_reading.specs.OneTable.{stand_with, table_facts}
use Rattle.mg_catalog.specs.ByKey.{HasKey, HasRow, by_key, row_key}
use Rattle.mg_layout.specs.Choices.{AreOwn, HaveCommittedBacks, IsCatalogFound, rows_with}
use Rattle.mg_catalog.specs.KeyLaws.{has_row, key_found}
use Rattle.mg_layout.proofs.HasLemmas.{has_true}

-- ---- what a record shows

-- a slot was read
abbrev pub HasFound : List Found → Found → Type 0
HasFound [] g = ⊥
HasFound (f ∷ fs) g = (f ≡ g) ⊎ HasFound fs g

-- the state of a transaction that is not in limbo does not depend on the choice
not_limbo : (s : TxState) (b : Bool) → (s ≢ Limbo)
    → (is_committed s || (is_limbo s && b)) ≡ is_committed s
not_limbo Active b other = refl
not_limbo Limbo b other = absurd (other refl)
not_limbo Dead b other = refl
not_limbo Committed b other = refl

back_same : (f : Facts) (chosen : ℕ → Bool) (es : List Entry)
    → Each (λ e. f.state (writer e) ≡ Committed) es
    → shown (committed_with f chosen) es ≡ shown (committed_in f) es
back_same f chosen [] each = refl
back_same f chosen (e ∷ es) each = rw each.0 refl

cases_limbo : (s : TxState) → (s ≡ Limbo) ⊎ (s ≢ Limbo)
cases_limbo Active = inr (λ is. cc)
cases_limbo Limbo = inl refl
cases_limbo Dead = inr (λ is. cc)
cases_limbo Committed = inr (λ is. cc)

-- a record that shows a row under some choice takes its key
pub shown_takes : (coding : Coding) (f : Facts) (table : Table) (chosen : ℕ → Bool)
    (es : List Entry) (row : Row) → IsRecord coding f table es
    → shown (committed_with f chosen) es ≡ Some row → TakesKey f es
shown_takes coding f table chosen [] row lawful shows = absurd cc
shown_takes coding f table chosen (e ∷ es) row lawful shows = at (cases_limbo (f.state (writer e)))
  where
    at : (f.state (writer e) ≡ Limbo) ⊎ (f.state (writer e) ≢ Limbo) → TakesKey f (e ∷ es)
    at (inl limbo) = inr limbo
    at (inr other) =
        let here : committed_with f chosen (writer e) ≡ committed_in f (writer e) =
        not_limbo (f.state (writer e)) (chosen (writer e)) other in
        let same : shown (committed_with f chosen) (e ∷ es) ≡ shown (committed_in f) (e ∷ es) =
        rw here (ap (λ (rest : Option Row). if committed_in f (writer e)
        then (if e.version.deleted then None else Some e.row) else rest)
        (back_same f chosen es lawful.backs)) in
        inl (row, sym same ∙ shows)

-- a row that versions show has their key
pub shown_key : (coding : Coding) (f : Facts) (table : Table) (committed : ℕ → Bool) (key : Value)
    (es : List Entry) (row : Row) → Each (IsVersion coding f table key) es
    → shown committed es ≡ Some row → key_of table row ≡ key
shown_key coding f table committed key [] row each shows = absurd cc
shown_key coding f table committed key (e ∷ es) row each shows =
    at (committed (writer e)) refl e.version.deleted refl
    (λ rest. shown_key coding f table committed key es row each.1 rest)
  where
    at : (b : Bool) → committed (writer e) ≡ b → (d : Bool) → e.version.deleted ≡ d
        → (shown committed es ≡ Some row → key_of table row ≡ key) → key_of table row ≡ key
    at true is true gone later = let no_ : None ≡ Some row = rw (is, gone) at shows in absurd cc
    at true is false there later = let same : Some e.row ≡ Some row = rw (is, there) at shows in
        let one : e.row ≡ row = cc in ap (key_of table) (sym one) ∙ each.0.keyed
    at false is d deleted later = later (rw is at shows)

-- ---- rows of a list of records

with_row_has : (shows : Option Row) (rows : List Row) (row : Row) → HasRow (with_row shows rows) row
    → (shows ≡ Some row) ⊎ HasRow rows row
with_row_has None rows row there = inr there
with_row_has (Some first) rows row (inl is) = inl (ap Some is)
with_row_has (Some first) rows row (inr later) = inr later

with_row_first : (shows : Option Row) (rows : List Row) (row : Row) → shows ≡ Some row
    → HasRow (with_row shows rows) row
with_row_first None rows row is = absurd cc
with_row_first (Some first) rows row is = inl (let same : Some first ≡ Some row = is in cc)

with_row_later : (shows : Option Row) (rows : List Row) (row : Row) → HasRow rows row
    → HasRow (with_row shows rows) row
with_row_later None rows row there = there
with_row_later (Some first) rows row there = inr there

-- the record that shows a row of the list
pub record IsShownBy (committed : ℕ → Bool) (found : List Found) (row : Row) : Type 0 where
  pub by : Found
  pub read : HasFound found by
  pub shows : shown committed by.entries.items ≡ Some row

shown_by : (committed : ℕ → Bool) (found : List Found) (row : Row)
    → HasRow (rows_shown committed found) row → IsShownBy committed found row
shown_by committed [] row there = absurd there
shown_by committed (f ∷ fs) row there = at (with_row_has (shown committed f.entries.items)
    (rows_shown committed fs) row there) (λ later. shown_by committed fs row later)
  where
    further : IsShownBy committed fs row → IsShownBy committed (f ∷ fs) row
    further is = record {
      by = is.by;
      read = inr is.read;
      shows = is.shows;
    }

    at : (shown committed f.entries.items ≡ Some row) ⊎ HasRow (rows_shown committed fs) row
        → (HasRow (rows_shown committed fs) row → IsShownBy committed fs row)
        → IsShownBy committed (f ∷ fs) row
    at (inl is) go = record { by = f; read = inl refl; shows = is }
    at (inr later) go = further (go later)

shown_in : (committed : ℕ → Bool) (found : List Found) (g : Found) (row : Row) → HasFound found g
    → shown committed g.entries.items ≡ Some row → HasRow (rows_shown committed found) row
shown_in committed [] g row none shows = absurd none
shown_in committed (f ∷ fs) g row (inl is) shows = with_row_first
    (shown committed f.entries.items) (rows_shown committed fs) row
    (subst (λ (x : Found). shown committed x.entries.items ≡ Some row) (sym is) shows)
shown_in committed (f ∷ fs) g row (inr later) shows = with_row_later
    (shown committed f.entries.items) (rows_shown committed fs) row
    (shown_in committed fs g row later shows)

key_has : (rows : List Row) (row : Row) → HasRow rows row → HasKey rows (row_key row)
key_has [] row none = absurd none
key_has (first ∷ rows) row (inl is) = inl (ap row_key is)
key_has (first ∷ rows) row (inr later) = inr (key_has rows row later)

row_at : (rows : List Row) (at : ℕ) → at < length rows → HasRow rows (slice_index_or rows at [])
row_at [] at below = absurd (omega arith)
row_at (first ∷ rows) zero below = inl refl
row_at (first ∷ rows) (suc at) below = inr (row_at rows at (omega arith))

-- ---- the records of a table

table_at_one : (table : Table) (ns : List ℕ) (n : ℕ) → Has ns n
    → table_at (stand_with table ns ∷ []) n ≡ Some table
table_at_one table ns n is = rw (has_true ns n is) refl

is_found : (coding : RowCoding) (image : Image) (table : Table) (ns : List ℕ) (found : List Found)
    (g : Found) → AreFound coding image table ns found → HasFound found g
    → IsFound coding image table ns g
is_found coding image table ns [] g are none = absurd none
is_found coding image table ns (f ∷ fs) g are (inl is) =
    subst (IsFound coding image table ns) is are.0
is_found coding image table ns (f ∷ fs) g are (inr later) =
    is_found coding image table ns fs g are.1 later

-- What was read of each slot of a table, as lawful records.
pub record IsTableFound (coding : RowCoding) (image : Image) (table : Table) (ns : List ℕ)
    (found : List Found) : Type 0 where
  pub each : AreFound coding image table ns found
  pub records : AreRecords (coding_of coding) (table_facts image table ns)
      (cells_of (pages_in image)) (reading_of found)

-- the reading of a slot that was read
reading_at : (coding : RowCoding) (image : Image) (table : Table) (ns : List ℕ)
    (found : List Found) (g : Found) → IsTableFound coding image table ns found
    → HasFound found g → reading_of found g.at ≡ g.entries.items
reading_at coding image table ns found g are there =
    let is = is_found coding image table ns found g are.each there in
    let placed = table_at_one table ns g.at.page.0 is.placed in
    is.only (reading_of found g.at) (record {
      chain = are.records.reads g.at table placed;
      versions = (versions_of (coding_of coding) (table_facts image table ns)
          (cells_of (pages_in image)) (reading_of found) are.records).each g.at table placed;
    })

-- the versions of a slot that was read are those of a lawful record
lawful_at : (coding : RowCoding) (image : Image) (table : Table) (ns : List ℕ)
    (found : List Found) (g : Found) → IsTableFound coding image table ns found
    → HasFound found g
    → IsRecord (coding_of coding) (table_facts image table ns) table g.entries.items
lawful_at coding image table ns found g are there =
    let is = is_found coding image table ns found g are.each there in
    rw (reading_at coding image table ns found g are there) at
    (are.records.each g.at table (table_at_one table ns g.at.page.0 is.placed))

-- of each slot something was read, or nothing
was_found : (found : List Found) (p : RecId)
    → ((g : Found) × HasFound found g × (g.at ≡ p) × (reading_of found p ≡ g.entries.items))
    ⊎ (reading_of found p ≡ [])
was_found [] p = inr refl
was_found (f ∷ fs) p = at (cases_place f.at p) (was_found fs p)
  where
    at : ((f.at ≡ p) × (same_place f.at p ≡ true)) ⊎ ((f.at ≢ p) × (same_place f.at p ≡ false))
        → ((g : Found) × HasFound fs g × (g.at ≡ p) × (reading_of fs p ≡ g.entries.items))
        ⊎ (reading_of fs p ≡ [])
        → ((g : Found) × HasFound (f ∷ fs) g × (g.at ≡ p)
        × (reading_of (f ∷ fs) p ≡ g.entries.items)) ⊎ (reading_of (f ∷ fs) p ≡ [])
    at (inl (same, is)) rest = inl (f, inl refl, same, rw is refl)
    at (inr (other, is)) (inl (g, there, to, reads)) = inl (g, inr there, to, rw is reads)
    at (inr (other, is)) (inr none) = inr (rw is none)

-- two slots that show rows of one key are one
one_of_key : (coding : RowCoding) (image : Image) (table : Table) (ns : List ℕ)
    (found : List Found) (chosen : ℕ → Bool) (g h : Found) (row other : Row)
    → IsTableFound coding image table ns found → HasFound found g → HasFound found h
    → shown (committed_with (table_facts image table ns) chosen) g.entries.items ≡ Some row
    → shown (committed_with (table_facts image table ns) chosen) h.entries.items ≡ Some other
    → key_of table row ≡ key_of table other → g.at ≡ h.at
one_of_key coding image table ns found chosen g h row other are there also shows shows_also same =
    are.records.keys g.at h.at table (table_at_one table ns g.at.page.0 is.placed)
    (table_at_one table ns h.at.page.0 is_also.placed)
    (rw reads (shown_takes (coding_of coding) (table_facts image table ns) table chosen
    g.entries.items row lawful shows))
    (rw reads_also (shown_takes (coding_of coding) (table_facts image table ns) table chosen
    h.entries.items other lawful_also shows_also))
    (rw (reads, reads_also) (sym (shown_key (coding_of coding) (table_facts image table ns) table
    (committed_with (table_facts image table ns) chosen) (record_key table g.entries.items)
    g.entries.items row lawful.each shows) ∙ (same ∙ shown_key (coding_of coding)
    (table_facts image table ns) table (committed_with (table_facts image table ns) chosen)
    (record_key table h.entries.items) h.entries.items other lawful_also.each shows_also)))
  where
    is : IsFound coding image table ns g
    is = is_found coding image table ns found g are.each there

    is_also : IsFound coding image table ns h
    is_also = is_found coding image table ns found h are.each also

    reads : reading_of found g.at ≡ g.entries.items
    reads = reading_at coding image table ns found g are there

    reads_also : reading_of found h.at ≡ h.entries.items
    reads_also = reading_at coding image table ns found h are also

    lawful : IsRecord (coding_of coding) (table_facts image table ns) table g.entries.items
    lawful = lawful_at coding image table ns found g are there

    lawful_also : IsRecord (coding_of coding) (table_facts image table ns) table h.entries.items
    lawful_also = lawful_at coding image table ns found h are also

-- the key of a row is its first value
first_key : (table : Table) (row : Row) → table.shape.key ≡ 0 → key_of table row ≡ row_key row
first_key table row first = rw first refl

-- a row that is shown is the one of its key
row_own : (coding : RowCoding) (image : Image) (table : Table) (ns : List ℕ) (found : List Found)
    (chosen : ℕ → Bool) (row : Row) → table.shape.key ≡ 0
    → IsTableFound coding image table ns found
    → HasRow (rows_with (image_facts image) found chosen) row
    → by_key (rows_with (image_facts image) found chosen) (row_key row) ≡ Some row
row_own coding image table ns found chosen row first are there =
    let (other, is) = key_found (rows_with (image_facts image) found chosen) (row_key row)
    (key_has (rows_with (image_facts image) found chosen) row there) in
    let (there_also, keyed) = has_row (rows_with (image_facts image) found chosen)
    (row_key row) other is in
    let one = shown_by (committed_with (table_facts image table ns) chosen) found row there in
    let two = shown_by (committed_with (table_facts image table ns) chosen) found other there_also in
    let place = one_of_key coding image table ns found chosen one.by two.by row other are one.read
    two.read one.shows two.shows (first_key table row first
    ∙ (sym keyed ∙ sym (first_key table other first))) in
    let entries : one.by.entries.items ≡ two.by.entries.items =
    sym (reading_at coding image table ns found one.by are one.read)
    ∙ (ap (reading_of found) place ∙ reading_at coding image table ns found two.by are two.read) in
    let same : Some row ≡ Some other = sym one.shows
    ∙ (ap (shown (committed_with (table_facts image table ns) chosen)) entries ∙ two.shows) in
    is ∙ sym same

pub rows_own : (coding : RowCoding) (image : Image) (table : Table) (ns : List ℕ)
    (found : List Found) (chosen : ℕ → Bool) → table.shape.key ≡ 0
    → IsTableFound coding image table ns found
    → AreOwn (rows_with (image_facts image) found chosen)
rows_own coding image table ns found chosen first are = λ at below.
    row_own coding image table ns found chosen _ first are
    (row_at (rows_with (image_facts image) found chosen) at below)

-- back versions are committed
backs_of : (coding : RowCoding) (image : Image) (table : Table) (ns : List ℕ)
    (all found : List Found) → IsTableFound coding image table ns all
    → ((g : Found) → HasFound found g → HasFound all g)
    → HaveCommittedBacks (image_facts image) found
backs_of coding image table ns all [] are within = tt
backs_of coding image table ns all (f ∷ fs) are within = (
  (lawful_at coding image table ns all f are (within f (inl refl))).backs,
  backs_of coding image table ns all fs are (λ g there. within g (inr there)),
)

pub catalog_found : (coding : RowCoding) (image : Image) (table : Table) (ns : List ℕ)
    (found : List Found) → table.shape.key ≡ 0 → IsTableFound coding image table ns found
    → IsCatalogFound (image_facts image) found
catalog_found coding image table ns found first are = record {
  backs = backs_of coding image table ns found found are (λ g there. there);
  own = λ chosen. rows_own coding image table ns found chosen first are;
}

-- the list has the rows of the table, whatever the choice
pub rows_are : (coding : RowCoding) (image : Image) (table : Table) (ns : List ℕ)
    (found : List Found) (chosen : ℕ → Bool) → table.shape.key ≡ 0
    → IsTableFound coding image table ns found
    → AreRows (table_facts image table ns) (committed_with (table_facts image table ns) chosen)
    (reading_of found) table (by_key (rows_with (image_facts image) found chosen))
rows_are coding image table ns found chosen first are = record {
  there = λ p row shows. there p row shows (was_found found p);
  whole = λ key row is. whole key row (has_row rows key row is);
}
  where
    rows : List Row
    rows = rows_with (image_facts image) found chosen

    committed : ℕ → Bool
    committed = committed_with (table_facts image table ns) chosen

    there : (p : RecId) (row : Row)
        → Shows (table_facts image table ns) committed (reading_of found) p table row
        → ((g : Found) × HasFound found g × (g.at ≡ p) × (reading_of found p ≡ g.entries.items))
        ⊎ (reading_of found p ≡ []) → by_key rows (key_of table row) ≡ Some row
    there p row shows (inl (g, read, to, is)) = rw (first_key table row first)
        (row_own coding image table ns found chosen row first are
        (shown_in committed found g row read (rw is at shows.row_shown)))
    there p row shows (inr none) =
        let no_ : None ≡ Some row = rw none at shows.row_shown in absurd cc

    whole : (key : Value) (row : Row) → HasRow rows row × (row_key row ≡ key)
        → (p : RecId) × Shows (table_facts image table ns) committed (reading_of found) p table row
        × (key_of table row ≡ key)
    whole key row (has_, keyed) =
        let by = shown_by committed found row has_ in
        let is = is_found coding image table ns found by.by are.each by.read in (
          by.by.at,
          record {
            of_table = table_at_one table ns by.by.at.page.0 is.placed;
            row_shown = rw (reading_at coding image table ns found by.by are by.read) by.shows;
          },
          first_key table row first ∙ keyed,
        )
