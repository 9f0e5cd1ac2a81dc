-- The tables that rows of the catalog name which the pages tell: each stands there.
use Rattle.std.proofs.Common.{◌≡◌, inl, inr, refl, sym, ap, ◌∙◌, subst, ℕ, Bool, true, false, List, [], ◌∷◌, Option, None, Some, cond}
use Rattle.std.specs.Prelude.{if◌then◌else◌, map}
use Rattle.std.specs.Str.{bytes_eq}
use Rattle.std.proofs.Math.Path.{fun_ext}
use Rattle.std.proofs.lemmas.Bool.{false≢true}
use Rattle.mg_base.specs.declared.numbers.RecId.{RecId}
use Rattle.mg_base.specs.declared.transaction.TxState.{TxState}
use Rattle.mg_base.specs.declared.transaction.TxState.TheVariants.{Active, Committed, Dead, Limbo}
use Rattle.mg_value.specs.declared.shape.Shape.{Shape}
use Rattle.mg_value.specs.declared.value.Value.{Value}
use Rattle.mg_model.specs.declared.change.Change.{Change}
use Rattle.mg_model.specs.declared.opening.Opening.{Opening}
use Rattle.mg_model.specs.declared.table.Table.{Table}
use Rattle.mg_model.specs.Catalog.{CatalogRows, catalog_name, shape_in, shape_said, table_key, told_cells, told_if_there}
use Rattle.mg_model.specs.CatalogRules.{AreTables, EachTable, IsTable}
use Rattle.mg_model.specs.Changes.{row_at, same_name, same_row}
use Rattle.mg_model.specs.History.{Entries}
use Rattle.mg_model.specs.Machine.{state_of}
use Rattle.mg_model.specs.Openings.{IsToldCatalog}
use Rattle.mg_catalog.specs.TableLaws.{tables_once}
use Rattle.mg_records.specs.Reading.{shape_named as shape_told_by}
use Rattle.mg_generation_laws.specs.Generations.{Generation, shown_by}
use Rattle.mg_generation_laws.specs.Kept.{IsErasedForAll, StandFor}
use Rattle.mg_image.specs.declared.entry.Entry.{Entry}
use Rattle.mg_image.specs.Catalog.{CatalogNames, IsSameTable, StaysAmong, committed_with}
use Rattle.mg_image.specs.Form.{Pages, Row}
use Rattle.mg_image.specs.Held.{Shows, told_row}
use Rattle.mg_image.specs.RecordRules.{Facts, table_in}
use Rattle.mg_image.specs.Records.{Reading, key_of, record_key, shown, writer}
use Rattle.mg_image_overlay_laws.specs.records.Fronts.{is_dead, living}
use Rattle.mg_image_overlay_laws.specs.tables.TableOwners.{IsOneOf, table_named}
use Rattle.mg_image_opening_laws.specs.Catalogs.{rows_once, shape_named}
use Rattle.mg_image_opening_laws.specs.Told.{shape_told}
use Rattle.mg_overlay_laws.specs.Overlays.{left_by}
use Rattle.mg_seek.specs.Histories.{HasSpeaker, told_if, told_versions}
use Rattle.mg_engine_step_laws.specs.standing.Standing.{Standing}
use Rattle.mg_engine_step_laws.specs.standing.Versions.{SpeaksOrSilent, told_version}
use Rattle.mg_image_overlay_laws.specs.tables.OneTable.{stands_in}
use Rattle.mg_engine_step_laws.specs.reads.KeyAnswers.{has_speaker}
use Rattle.mg_engine_step_laws.specs.standing.Known.{KnowsPages, facts_shown, speaker_of}
use Rattle.mg_engine_step_laws.specs.reads.TableAnswers.{shown_key, shown_living}

-- ---- definitions

-- a table with this name and shape is one of some tables
pub record HasTableWith (tables : List Table) (name : List ℕ) (shape : Shape) : Type 0 where
  pub table : Table
  pub named : table.name ≡ name
  pub shaped : table.shape ≡ shape
  pub stands : IsOneOf tables table

-- changes have at each key of the catalog the newest version that is committed, or of one that is chosen among
-- those that have not ended
abbrev pub TellsCommitted : (size : ℕ) (o : Opening) (h : Entries) (s : Standing) (pages : Pages)
    → KnowsPages size o h s pages → (ℕ → Bool) → List Change → Type 0
TellsCommitted size o h s pages knows chosen cs = (key : Value) (chain : List Generation)
    → StandFor o h knows.shows.layout.catalog.table.name key chain
    → same_row (row_at cs knows.shows.layout.catalog.table.name key)
    (shown_by (committed_with (facts_shown size o h s pages knows) chosen) chain)

-- each table that their catalog's rows name stands on the pages
abbrev pub NamedTablesStand : Type 0
NamedTablesStand = (size : ℕ) (o : Opening) (h : Entries) (s : Standing) (pages : Pages)
    (knows : KnowsPages size o h s pages) (chosen : ℕ → Bool) (cs : List Change) (name : List ℕ)
    (shape : Shape) → TellsCommitted size o h s pages knows chosen cs
    → shape_told_by (row_at cs catalog_name) name ≡ Some shape
    → HasTableWith (map (λ stand. stand.table) knows.shows.layout.tables) name shape

-- ---- one of some tables

-- one that stays among tables is one of them, but for its indexes
pub one_among : (tables : List Table) (x : Table) → StaysAmong tables x
    → (y : Table) × IsOneOf tables y × IsSameTable y x
one_among [] x is = absurd is
one_among (t ∷ ts) x (inl same) = (t, inl refl, same)
one_among (t ∷ ts) x (inr more) = let (y, one, same) = one_among ts x more in (y, inr one, same)

-- ---- what is shown, as it is told

pub shown_told : (table : Table) (counts : ℕ → Bool) (es : List Entry)
    → shown_by counts (map (told_version table) es) ≡ told_if table (shown counts es)
shown_told table counts [] = refl
shown_told table counts (e ∷ es) = at (counts (writer e)) e.version.deleted (shown_told table counts es)
  where
    at : (b d : Bool) → shown_by counts (map (told_version table) es) ≡ told_if table (shown counts es)
        → cond b (cond d None (Some (told_row table e.row))) (shown_by counts (map (told_version table) es))
        ≡ told_if table (cond b (cond d None (Some e.row)) (shown counts es))
    at true true more = refl
    at true false more = refl
    at false d more = more

-- ---- the tables

module _ (size : ℕ) (o : Opening) (h : Entries) (s : Standing) (pages : Pages)
    (knows : KnowsPages size o h s pages) (chosen : ℕ → Bool) (cs : List Change)
    (told_rows : TellsCommitted size o h s pages knows chosen cs) where
  abbrev f : Facts
  f = facts_shown size o h s pages knows

  abbrev r : Reading
  r = knows.shows.reading

  abbrev cat : Table
  cat = knows.shows.layout.catalog.table

  abbrev counts : ℕ → Bool
  counts = committed_with f chosen

  named : cat.name ≡ catalog_name
  named = ap (λ (x : Table). x.name) knows.shows.sound.catalog

  -- whoever is committed counts
  counted : (u : ℕ) → state_of o h u ≡ Committed → counts u ≡ true
  counted u committed =
      let there : f.state u ≡ Committed = ap (left_by true) (knows.memory.state u ∙ committed) in rw there refl

  dead_off : (u : ℕ) → is_dead (f.state u) ≡ true → counts u ≡ false
  dead_off u dead = at (f.state u) refl
    where
      at : (x : TxState) → f.state u ≡ x → counts u ≡ false
      at Dead is = rw is refl
      at Active is = absurd (false≢true (ap is_dead (sym is) ∙ dead))
      at Limbo is = absurd (false≢true (ap is_dead (sym is) ∙ dead))
      at Committed is = absurd (false≢true (ap is_dead (sym is) ∙ dead))

  abbrev spoken : Value → Option RecId
  spoken key = speaker_of size o h s pages knows cat.name key

  has : (key : Value) → HasSpeaker o h f r cat key (spoken key)
  has key = has_speaker size o h s pages knows cat (stands_in knows.shows.layout cat (inl refl)) key

  -- a record that shows a committed row speaks for its key
  committed_speaks : (rec : RecId) (row : Row) → table_in f rec ≡ Some cat
      → shown counts (r rec) ≡ Some row → spoken (key_of cat row) ≡ Some rec
  committed_speaks rec row of shows = at (knows.shows.versions.others rec cat of)
    where
      alive : shown counts (living f.state (r rec)) ≡ Some row
      alive = sym (shown_living f counts dead_off (r rec)) ∙ shows

      at : SpeaksOrSilent o h f r knows.shows.versions.speaker rec cat
          → spoken (key_of cat row) ≡ Some rec
      at (inr (inr speaks)) = ap (knows.shows.versions.speaker cat.name)
          (shown_key f counts cat (record_key cat (r rec)) (r rec) row
          (knows.shows.sound.records.each rec cat of).each shows) ∙ speaks
      at (inl empty) = none (living f.state (r rec)) empty alive
        where
          none : (es : List Entry) → map (told_version cat) es ≡ [] → shown counts es ≡ Some row
              → spoken (key_of cat row) ≡ Some rec
          none [] is some = absurd cc
          none (e ∷ es) is some = absurd cc
      at (inr (inl erased)) = gone (living f.state (r rec)) erased alive
        where
          gone : (es : List Entry) → IsErasedForAll o h (map (told_version cat) es)
              → shown counts es ≡ Some row → spoken (key_of cat row) ≡ Some rec
          gone [] is some = absurd is
          gone (e ∷ es) is some = by e.version.deleted is.1 some
            where
              by : (d : Bool) → cond d None (Some (told_row cat e.row)) ≡ None
                  → cond (counts (writer e)) (cond d None (Some e.row)) (shown counts es) ≡ Some row
                  → spoken (key_of cat row) ≡ Some rec
              by true none_ some_ =
                  let nothing_ : None ≡ Some row = subst (λ (b : Bool).
                  cond b None (shown counts es) ≡ Some row)
                  (counted (writer e) is.0.committed) some_ in absurd cc
              by false none_ some_ = absurd cc

  -- the row at a key is the one that the record shows which speaks for it
  told_row_at : (key : Value) (rec : RecId) → spoken key ≡ Some rec
      → row_at cs cat.name key ≡ told_if cat (shown counts (r rec))
  told_row_at key rec some =
      told_rows key (told_versions f.state cat (r rec)) ((has key).some rec some).2
      ∙ (shown_told cat counts (living f.state (r rec))
      ∙ ap (told_if cat) (sym (shown_living f counts dead_off (r rec))))

  -- ---- the rows of the catalog

  abbrev stored : CatalogNames size f counts r cat (knows.shows.sound.names.named chosen)
  stored = knows.shows.sound.names.lawful chosen

  told_is : (row : Row) → told_row cat row ≡ told_cells row
  told_is row = ap (λ (n : List ℕ). if bytes_eq n catalog_name then told_cells row else row) named

  pub rows_told : (key : Value) → row_at cs catalog_name key ≡ told_if_there (stored.rows key)
  rows_told key = ap (λ (n : List ℕ). row_at cs n key) (sym named) ∙ at (stored.rows key) refl
    where
      silent : stored.rows key ≡ None → (x : Option RecId) → spoken key ≡ x
          → row_at cs cat.name key ≡ None
      silent is None none = told_rows key [] ((has key).none none)
      silent is (Some rec) some = told_row_at key rec some ∙ on (shown counts (r rec)) refl
        where
          of : table_in f rec ≡ Some cat
          of = ((has key).some rec some).0

          on : (x : Option Row) → shown counts (r rec) ≡ x
              → told_if cat (shown counts (r rec)) ≡ None
          on None none = ap (told_if cat) none
          on (Some row) shows =
              let its_key : key_of cat row ≡ key = shown_key f counts cat
              (record_key cat (r rec)) (r rec) row (knows.shows.sound.records.each rec cat of).each shows
              ∙ ((has key).some rec some).1 in
              let there : stored.rows (key_of cat row) ≡ Some row =
              stored.are_rows.there rec row (record { of_table = of; row_shown = shows }) in
              let both : Some row ≡ None = sym there ∙ (ap stored.rows its_key ∙ is) in absurd cc

      at : (x : Option Row) → stored.rows key ≡ x
          → row_at cs cat.name key ≡ told_if_there (stored.rows key)
      at None is = silent is (spoken key) refl ∙ ap told_if_there (sym is)
      at (Some row) is = by (stored.are_rows.whole key row is)
        where
          by : (p : RecId) × Shows f counts r p cat row × (key_of cat row ≡ key)
              → row_at cs cat.name key ≡ told_if_there (stored.rows key)
          by (p, shows, keyed) =
              let speaks : spoken key ≡ Some p = subst (λ (k : Value). spoken k ≡ Some p) keyed
              (committed_speaks p row shows.of_table shows.row_shown) in
              told_row_at key p speaks ∙ (ap (told_if cat) shows.row_shown ∙ (ap Some (told_is row)
              ∙ ap told_if_there (sym is)))

  -- so they are those of a lawful catalog, without its page numbers
  pub told_lawful : IsToldCatalog (row_at cs catalog_name)
  told_lawful = record { stored = stored.rows; lawful = stored.are_tables.lawful; told = rows_told }

  -- ---- the tables that they name

  all_tables : knows.shows.sound.names.named (λ u. true)
      ≡ map (λ stand. stand.table) knows.shows.layout.tables
  all_tables = tables_once (knows.shows.sound.names.lawful (λ u. true)).rows
      (knows.shows.sound.names.named (λ u. true)) (map (λ stand. stand.table) knows.shows.layout.tables)
      (knows.shows.sound.names.lawful (λ u. true)).are_tables
      (subst (λ (rows : CatalogRows). AreTables rows (map (λ stand. stand.table) knows.shows.layout.tables))
      (fun_ext (λ key. rows_once f (committed_with f (λ u. true)) r cat knows.shows.sound.names.all.rows
      (knows.shows.sound.names.lawful (λ u. true)).rows knows.shows.sound.names.all.are_rows
      (knows.shows.sound.names.lawful (λ u. true)).are_rows key)) knows.shows.sound.names.all.are_tables)

  each_both : (P Q : Table → Type 0) (ts : List Table) → EachTable P ts → EachTable Q ts
      → EachTable (λ x. P x × Q x) ts
  each_both P Q [] each also = tt
  each_both P Q (x ∷ ts) each also = ((each.0, also.0), each_both P Q ts each.1 also.1)

  pub named_stand : (name : List ℕ) (shape : Shape)
      → shape_told_by (row_at cs catalog_name) name ≡ Some shape
      → HasTableWith (map (λ stand. stand.table) knows.shows.layout.tables) name shape
  named_stand name shape seen = at (same_name name catalog_name) refl seen
    where
      shapes : shape_in (row_at cs catalog_name) name ≡ shape_in stored.rows name
      shapes = shape_told (row_at cs catalog_name) stored.rows stored.are_tables.lawful rows_told name

      at : (b : Bool) → same_name name catalog_name ≡ b
          → cond b None (shape_said (row_at cs catalog_name) name
          (row_at cs catalog_name (table_key name))) ≡ Some shape
          → HasTableWith (map (λ stand. stand.table) knows.shows.layout.tables) name shape
      at true yes_ said = absurd cc
      at false no_ said = by (stored.rows (table_key name)) refl
        where
          in_rows : shape_in (row_at cs catalog_name) name ≡ Some shape
          in_rows = rw no_ said

          by : (x : Option Row) → stored.rows (table_key name) ≡ x
              → HasTableWith (map (λ stand. stand.table) knows.shows.layout.tables) name shape
          by None none =
              let nothing_ : None ≡ Some shape = sym (ap (shape_said (row_at cs catalog_name) name)
              (rows_told (table_key name) ∙ ap told_if_there none)) ∙ said in absurd cc
          by (Some row) some = on (table_named (λ x. IsTable stored.rows x
              × StaysAmong (knows.shows.sound.names.named (λ u. true)) x)
              (knows.shows.sound.names.named chosen) name (stored.are_tables.whole name row some)
              (each_both (IsTable stored.rows) (StaysAmong (knows.shows.sound.names.named (λ u. true)))
              (knows.shows.sound.names.named chosen) stored.are_tables.each
              (knows.shows.sound.names.stay chosen (λ u. true) (λ u is. refl))))
            where
              on : (x : Table) × ((x.name ≡ name) × (IsTable stored.rows x
                  × StaysAmong (knows.shows.sound.names.named (λ u. true)) x))
                  → HasTableWith (map (λ stand. stand.table) knows.shows.layout.tables) name shape
              on (x, (is_named, (is_table, stays))) =
                  let stored_shape : shape_in stored.rows name ≡ Some x.shape =
                  ap (shape_in stored.rows) (sym is_named)
                  ∙ shape_named stored.rows stored.are_tables.lawful x is_table in
                  let both : Some x.shape ≡ Some shape = sym stored_shape ∙ (sym shapes ∙ in_rows) in
                  let same : x.shape ≡ shape = cc in
                  let (y, one, alike) = one_among (map (λ stand. stand.table) knows.shows.layout.tables) x
                  (subst (λ (ts : List Table). StaysAmong ts x) all_tables stays) in
                  record { table = y; named = alike.name ∙ is_named; shaped = alike.shape ∙ same; stands = one }

pub named_tables_stand : NamedTablesStand
named_tables_stand size o h s pages knows chosen cs name shape told_rows named_ =
    named_stand size o h s pages knows chosen cs told_rows name shape named_
