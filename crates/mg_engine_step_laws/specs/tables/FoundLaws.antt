-- The rows of the catalog that an active transaction sees are those of the catalog once all are committed.
use Rattle.std.proofs.Common.{◌≡◌, inl, refl, sym, ap, ◌∙◌, subst, ℕ, Bool, true, false, ◌&&◌, ◌==◌, ◌||◌, List, [], ◌∷◌, None, Some, cond}
use Rattle.std.specs.Prelude.{if◌then◌else◌}
use Rattle.std.specs.Str.{bytes_eq}
use Rattle.std.proofs.lemmas.Bool.{eqb-true, false≢true, ne_eqb}
use Rattle.mg_base.specs.declared.numbers.RecId.{RecId}
use Rattle.mg_base.specs.declared.numbers.TxNo.{TxNo}
use Rattle.mg_base.specs.declared.transaction.TxState.{TxState}
use Rattle.mg_base.specs.declared.transaction.TxState.TheVariants.{Active, Committed, Dead, Limbo}
use Rattle.mg_value.specs.declared.value.Value.{Value}
use Rattle.mg_model.specs.declared.opening.Opening.{Opening}
use Rattle.mg_model.specs.declared.table.Table.{Table}
use Rattle.mg_model.specs.Answers.{is_committed, told}
use Rattle.mg_model.specs.Catalog.{catalog_name, told_cells}
use Rattle.mg_model.specs.Changes.{row_at}
use Rattle.mg_model.specs.History.{Entries}
use Rattle.mg_model.specs.Legal.{IsLegal, MayBegin}
use Rattle.mg_model.specs.Machine.{state_of, view}
use Rattle.mg_model.specs.Openings.{everyone}
use Rattle.mg_catalog.specs.ByKey.{row_key}
use Rattle.mg_generation_laws.specs.Generations.{sees as sees_told}
use Rattle.mg_generation_laws.specs.Kept.{StandFor}
use Rattle.mg_chain.specs.Chains.{takes_version}
use Rattle.mg_heap.specs.TableLaws.{table_once}
use Rattle.mg_snap.specs.Live.{sees}
use Rattle.mg_image.specs.declared.entry.Entry.{Entry}
use Rattle.mg_image.specs.Catalog.{committed_with}
use Rattle.mg_image.specs.Form.{Pages, Row}
use Rattle.mg_image.specs.Held.{told_row}
use Rattle.mg_image.specs.RecordRules.{Facts, table_in}
use Rattle.mg_image.specs.Records.{Reading, key_of, shown, writer}
use Rattle.mg_image_overlay_laws.specs.records.Fronts.{is_dead, living}
use Rattle.mg_overlay_laws.specs.Overlays.{left_by, left_state}
use Rattle.mg_image_overlay_laws.specs.tables.Growing.{IsTableOf}
use Rattle.mg_image_overlay_laws.specs.tables.OneTable.{stands_in}
use Rattle.mg_seek.specs.Histories.{told_all, told_versions}
use Rattle.mg_seek.specs.Readings.{RowsOfReadings}
use Rattle.mg_seek.specs.TableRecords.{AreTableRecords, IsAmong, records_in}
use Rattle.mg_seek.specs.Views.{IsRowSeen}
use Rattle.mg_engine_step_laws.specs.standing.Standing.{Standing}
use Rattle.mg_engine_step_laws.specs.standing.Known.{KnowsPages, base_is_told, catalog_is_shown, facts_shown, speaker_of}
use Rattle.mg_engine_step_laws.specs.reads.KeyAnswers.{has_speaker, read_at}
use Rattle.mg_engine_step_laws.specs.reads.AnswersLaws.{NothingAtKeys, RowsAtKeys}
use Rattle.mg_engine_step_laws.specs.standing.Listed.{page_listed}
use Rattle.mg_engine_step_laws.specs.reads.TableAnswers.{shown_living, shows_speaks}
use Rattle.mg_engine_step_laws.specs.tables.TablePages.{data_there, table_there}
use Rattle.mg_grown_catalog_laws.specs.Grown.{CatalogGrows}
use Rattle.mg_engine_step_laws.specs.tables.Seen.{NewestIsSeen}

-- a version that is taken first shows its row
pub first_shown : (counts : ℕ → Bool) (e : Entry) (es : List Entry) (row : Row) → counts (writer e) ≡ true
    → shown counts (e ∷ es) ≡ Some row → (other : ℕ → Bool) → other (writer e) ≡ true
    → shown other (e ∷ es) ≡ Some row
first_shown counts e es row takes is other also =
    rw also (at e.version.deleted (subst (λ (b : Bool).
    cond b (cond e.version.deleted None (Some e.row)) (shown counts es) ≡ Some row) takes is))
  where
    at : (d : Bool) → cond d None (Some e.row) ≡ Some row → cond d None (Some e.row) ≡ Some row
    at d same = same

module _ (rows_law : RowsOfReadings) (rows_at : RowsAtKeys) (nothing : NothingAtKeys) (newest : NewestIsSeen)
    (size : ℕ) (o : Opening) (h : Entries) (s : Standing) (pages : Pages) (knows : KnowsPages size o h s pages)
    (t : TxNo) (opening : MayBegin o) (legal : IsLegal o h) (grows : CatalogGrows o h)
    (active : state_of o h t.0 ≡ Active) where
  abbrev f : Facts
  f = facts_shown size o h s pages knows

  abbrev r : Reading
  r = knows.shows.reading

  abbrev cat : Table
  cat = knows.shows.layout.catalog.table

  abbrev counts : ℕ → Bool
  counts = takes_version s.state s.live t.0

  -- all that may come to be committed
  abbrev all : ℕ → Bool
  all = committed_with f (λ u. true)

  named : cat.name ≡ catalog_name
  named = ap (λ (x : Table). x.name) knows.shows.sound.catalog

  abbrev cat_stands : IsTableOf knows.shows.layout cat
  cat_stands = stands_in knows.shows.layout cat (inl refl)

  -- the catalog's key stands first in its rows
  key_is : (row : Row) → key_of cat row ≡ row_key row
  key_is row = ap (λ (x : Table). key_of x row) knows.shows.sound.catalog

  -- whom the transaction takes may come to be committed, and who is dead is neither
  also_counts : (u : ℕ) → counts u ≡ true → all u ≡ true
  also_counts u is = at (u == t.0) refl (s.state u) refl is
    where
      at : (b : Bool) → (u == t.0) ≡ b → (x : TxState) → s.state u ≡ x
          → (b || (is_committed x && sees s.live t.0 u)) ≡ true → all u ≡ true
      at true own Active state some = rw (ap (left_by true) state) refl
      at true own Limbo state some = rw (ap (left_by true) state) refl
      at true own Committed state some = rw (ap (left_by true) state) refl
      at true own Dead state some =
          let its : s.state u ≡ Active = ap s.state (eqb-true u t.0 own) ∙ (knows.memory.state t.0 ∙ active) in
          let both : Dead ≡ Active = sym state ∙ its in absurd cc
      at false other Committed state some = rw (ap (left_by true) state) refl
      at false other Active state some = absurd (false≢true some)
      at false other Limbo state some = absurd (false≢true some)
      at false other Dead state some = absurd (false≢true some)

  dead_state : (u : ℕ) → is_dead (f.state u) ≡ true → s.state u ≡ Dead
  dead_state u dead = at (s.state u) refl
    where
      at : (x : TxState) → s.state u ≡ x → s.state u ≡ Dead
      at Dead is = is
      at Active is = absurd (false≢true (ap (λ (y : TxState). is_dead (left_by true y)) (sym is) ∙ dead))
      at Limbo is = absurd (false≢true (ap (λ (y : TxState). is_dead (left_by true y)) (sym is) ∙ dead))
      at Committed is = absurd (false≢true (ap (λ (y : TxState). is_dead (left_by true y)) (sym is) ∙ dead))

  dead_off : (u : ℕ) → is_dead (f.state u) ≡ true → counts u ≡ false
  dead_off u dead =
      let is : s.state u ≡ Dead = dead_state u dead in
      let other : (u == t.0) ≡ false = ne_eqb u t.0 (λ same.
      let both : Active ≡ Dead = sym (knows.memory.state t.0 ∙ active) ∙ (ap s.state (sym same) ∙ is) in
      absurd cc) in rw (other, is) refl

  all_off : (u : ℕ) → is_dead (f.state u) ≡ true → all u ≡ false
  all_off u dead = rw (ap (left_by true) (dead_state u dead)) refl

  -- whom the history says that it sees it takes
  seen_counts : (u : ℕ) → sees_told (told o h) t.0 u ≡ true → counts u ≡ true
  seen_counts u is = ap (λ (x : TxState). (u == t.0) || (is_committed x && sees s.live t.0 u)) (knows.memory.state u)
      ∙ (ap (λ (b : Bool). (u == t.0) || b) (base_is_told size o h s pages knows t.0 active u) ∙ is)

  -- ---- the record of a row that it sees shows the row to all

  module _ (key : Value) (row : Row) (rec : RecId) (of : table_in f rec ≡ Some cat)
      (shows : shown counts (r rec) ≡ Some row)
      (stand : StandFor o h cat.name key (told_versions f.state cat (r rec)))
      (viewed : row_at (view o h t.0) cat.name key ≡ Some (told_row cat row)) where
    shown_all : shown all (r rec) ≡ Some row
    shown_all = shown_living f all all_off (r rec) ∙ at (living f.state (r rec)) refl
        (sym (shown_living f counts dead_off (r rec)) ∙ shows)
      where
        at : (es : List Entry) → living f.state (r rec) ≡ es → shown counts es ≡ Some row
            → shown all es ≡ Some row
        at [] is none = absurd cc
        at (e ∷ es) is some = first_shown counts e es row taken some all (also_counts (writer e) taken)
          where
            stands : StandFor o h catalog_name key (told_all cat (e ∷ es))
            stands = subst (λ (xs : List Entry). StandFor o h catalog_name key (told_all cat xs)) is
                (subst (λ (n : List ℕ). StandFor o h n key (told_versions f.state cat (r rec))) named stand)

            taken : counts (writer e) ≡ true
            taken = seen_counts (writer e) (newest o h t.0 key (told_row cat row) _ _ opening legal grows active
                stands (ap (λ (n : List ℕ). row_at (view o h t.0) n key) (sym named) ∙ viewed))

    -- so it is the row of the catalog once all are committed
    in_all : key_of cat row ≡ key → knows.shows.sound.names.all.rows key ≡ Some row
    in_all keyed = ap knows.shows.sound.names.all.rows (sym keyed)
        ∙ knows.shows.sound.names.all.are_rows.there rec row (record { of_table = of; row_shown = shown_all })

  -- ---- each row of the catalog that it sees

  module _ (rec : RecId) (row : Row) (of : table_in f rec ≡ Some cat)
      (seen : IsRowSeen s.state s.live t pages cat rec (Some row)) where
    abbrev shows_it : shown counts (r rec) ≡ Some row
    shows_it = sym (rows_law s.state s.live t pages cat rec (Some row) f r
        (read_at size o h s pages knows cat rec of) seen)

    speaks_it : speaker_of size o h s pages knows cat.name (row_key row) ≡ Some rec
    speaks_it = subst (λ (k : Value). speaker_of size o h s pages knows cat.name k ≡ Some rec) (key_is row)
        (shows_speaks rows_law rows_at nothing size o h s pages knows t opening legal active rec row of shows_it)

    viewed_it : row_at (view o h t.0) cat.name (row_key row) ≡ Some (told_row cat row)
    viewed_it = rows_at size o h s pages knows cat (row_key row) rec t (Some row)
        (catalog_is_shown knows.shows.layout) speaks_it active seen

    -- is that of the catalog once all are committed
    pub seen_in_all : knows.shows.sound.names.all.rows (row_key row) ≡ Some row
    seen_in_all = in_all (row_key row) row rec of shows_it
        ((has_speaker size o h s pages knows cat cat_stands (row_key row)).some rec speaks_it).2 viewed_it (key_is row)

    -- and the history tells it
    pub seen_is_told : row_at (view o h t.0) catalog_name (row_key row) ≡ Some (told_cells row)
    seen_is_told = ap (λ (n : List ℕ). row_at (view o h t.0) n (row_key row)) (sym named)
        ∙ (viewed_it ∙ ap Some
        (ap (λ (n : List ℕ). if bytes_eq n catalog_name then told_cells row else row) named))

  -- the records of the catalog are those of its pages
  pub records_are : (records : List RecId) → AreTableRecords pages cat.pointer.0 records
      → records ≡ records_in pages cat_stands.stand.data_pages
  records_are records of = of.are ∙ ap (records_in pages) (table_once pages cat.pointer.0 of.pointers of.data_pages
      cat_stands.stand.pointers cat_stands.stand.data_pages of.table
      (table_there size (left_state everyone s.state) pages knows.shows.layout r knows.shows.sound cat
      cat_stands))

  pub of_catalog : (records : List RecId) → AreTableRecords pages cat.pointer.0 records → (rec : RecId)
      → IsAmong records rec → table_in f rec ≡ Some cat
  of_catalog records of rec among = (data_there size (left_state everyone s.state) pages knows.shows.layout r
      knows.shows.sound cat cat_stands rec.page.0).1 (page_listed pages cat_stands.stand.data_pages rec
      (subst (λ (xs : List RecId). IsAmong xs rec) (records_are records of) among))
