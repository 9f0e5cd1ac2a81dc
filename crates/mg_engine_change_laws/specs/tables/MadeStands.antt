-- An engine has made a table: it stands for the history with an entry for each of its rows.
use Rattle.std.proofs.Common.{◌≡◌, ◌≢◌, ◌⊎◌, inl, inr, refl, sym, ap, ◌∙◌, subst, ◌==◌, ◌&&◌, ℕ, Bool, true, false, List, [], ◌∷◌, map, Option, None, Some}
use Rattle.std.specs.Prelude.{◌+◌, ◌||◌, if◌then◌else◌, is_some, not}
use Rattle.std.proofs.Math.Path.{fun_ext}
use Rattle.std.proofs.lemmas.Bool.{cases_eq, eq-eqb, eqb-true, false≢true, ne_eqb}
use Rattle.std.specs.Cmp.Lexicographic.{same_text, slice_cmp}
use Rattle.std.specs.Ordering.{nat_cmp}
use Rattle.std.specs.declared.cmp.Ordering.{Ordering}
use Rattle.std.specs.declared.cmp.Ordering.TheVariants.{Less, Equal, Greater}
use Rattle.mg_base.specs.Disk.{Meaning}
use Rattle.mg_base.specs.Image.{Image}
use Rattle.mg_base.specs.declared.geometry.Geometry.{Geometry}
use Rattle.mg_base.specs.declared.numbers.TxNo.{TxNo}
use Rattle.mg_base.specs.declared.transaction.TxState.{TxState}
use Rattle.mg_base.specs.declared.transaction.TxState.TheVariants.{Active}
use Rattle.mg_value.specs.declared.shape.Column.{Column}
use Rattle.mg_value.specs.declared.shape.Shape.{Shape}
use Rattle.mg_value.specs.declared.value.Value.{Value}
use Rattle.mg_catalog.specs.RowsSaid.{column_row, column_rows, table_row}
use Rattle.mg_header.specs.HeaderPage.{header_in}
use Rattle.mg_model.specs.declared.answer.Answer.{Answer}
use Rattle.mg_model.specs.declared.answer.Answer.TheVariants.{Fine, No}
use Rattle.mg_model.specs.declared.change.Change.{Change as OwnChange}
use Rattle.mg_model.specs.declared.opening.Opening.{Opening}
use Rattle.mg_model.specs.declared.refusal.Refusal.TheVariants.{DuplicateKey, ReadOnly}
use Rattle.mg_model.specs.declared.table.Table.{Table}
use Rattle.mg_model.specs.Answers.{answer, catalog_of, has_row, if_active, obstacle, past, told}
use Rattle.mg_model.specs.Catalog.{catalog_name, shape_said, table_key}
use Rattle.mg_model.specs.Changes.{Cells, by_order, has_change, same_name}
use Rattle.mg_model.specs.History.{Entries}
use Rattle.mg_model.specs.Legal.{IsLawful}
use Rattle.mg_model.specs.Laws.{OpeningsBegin}
use Rattle.mg_model.specs.Machine.{mode_of, own}
use Rattle.mg_model.specs.Openings.{everyone}
use Rattle.mg_model.specs.ReadLaws.{same_name_itself}
use Rattle.mg_records.specs.Reading.{shape_seen}
use Rattle.mg_records.specs.Writing.{IsNewShape, new_table, rows_made}
use Rattle.mg_grown_catalog_laws.specs.Grown.{EachMakes, comes_with_table, key_text, last_makes, says_of}
use Rattle.mg_engine_change_laws.specs.tables.TextLaws.{column_table}
use Rattle.mg_image.specs.Catalog.{catalog_table}
use Rattle.mg_image.specs.Form.{Pages, packed_form}
use Rattle.mg_image.specs.Tables.{Layout, Stand, stands_of}
use Rattle.mg_image_overlay_laws.specs.tables.TableOwners.{IsOneOf}
use Rattle.mg_lasting_laws.specs.Lasting.{LastsOn}
use Rattle.mg_overlay_laws.specs.Overlays.{left_state}
use Rattle.mg_pool.specs.Pool.{shown}
use Rattle.mg_pool.specs.declared.pool.Pool.{Pool}
use Rattle.mg_pool_overlay_laws.specs.Needs.{Sessions}
use Rattle.mg_space.specs.declared.links.FireLinks.{FireLinks}
use Rattle.mg_table_batch.specs.Filling.{table_at}
use Rattle.mg_table_making.specs.Keeping.{works_made}
use Rattle.mg_table_making.specs.Keys.{keys_made}
use Rattle.mg_image_overlay_laws.specs.tables.OneTable.{one_table, stands_in}
use Rattle.mg_txlist.specs.TxList.{said}
use Rattle.mg_undo.specs.Undo.{State as Undo}
use Rattle.mg_waits.specs.Waits.{NowWaits, edges_in}
use Rattle.mg_works.specs.Works.{Working, given_by, given_to, work_of}
use Rattle.mg_core.specs.Cores.{IsCatalog}
use Rattle.mg_core.specs.declared.parts.Core.{Core}
use Rattle.mg_directory.specs.Candidates.{by_table}
use Rattle.mg_image_overlay_laws.specs.tables.OneLayout.{StandsOneWay}
use Rattle.mg_engine_meaning_laws.specs.KnownRecords.{KnowsIts}
use Rattle.mg_engine_change_laws.specs.memory.RecordChanges.{joined_known}
use Rattle.mg_engine_change_laws.specs.tables.Joined.{layout_with, stands_with}
use Rattle.mg_engine_change_laws.specs.tables.JoinedKept.{others_newest, own_now}
use Rattle.mg_engine_change_laws.specs.tables.Remembering.{NotesRows, RowsAreRemembered, rows_kept}
use Rattle.mg_engine_change_laws.specs.tables.Rows.{AreLawful, AreUnwritten, MadeRow, MayMake, reading_with, row_entry, row_told, with_rows}
use Rattle.mg_engine_change_laws.specs.tables.Seen.{MadeAreSeen, SeesMade}
use Rattle.mg_engine_step_laws.specs.commits.ListShows.{ListsStay}
use Rattle.mg_engine_step_laws.specs.standing.Bare.{IsBare}
use Rattle.mg_engine_step_laws.specs.standing.BareLaws.{bare_by, bare_has_found}
use Rattle.mg_engine_step_laws.specs.standing.Standing.{HasFirstPage, IsSeenAs, Remembers, RemembersOne, Standing, Stands}
use Rattle.mg_engine_meaning_laws.specs.FrameLaws.{kept_all}
use Rattle.mg_engine_meaning_laws.specs.Frames.{WorksStay}
use Rattle.mg_engine_meaning_laws.specs.PlainTables.{HasPlainTables}
use Rattle.mg_engine_change_laws.specs.tables.PlainMade.{new_one, old_one}
use Rattle.mg_engine_meaning_laws.specs.Standings.{AreOfKept, AreTold, HasTips, Numbers, SeesIt, ShowsIt, StandsFor, StandsWhile, Tables, asked_in, mode_kept, session_kept, sessions_in, standing_of, undo_kept, written_kept}
use Rattle.mg_engine_meaning_laws.specs.LawfulBases.{BasesAreLawful}
use Rattle.mg_engine_change_laws.specs.tables.MadePages.{MadePages}
use Rattle.mg_engine_change_laws.specs.tables.MadeShown.{rows_legal}
use Rattle.mg_engine_change_laws.specs.tables.StandMade.{stand_at}
use Rattle.mg_engine_change_laws.specs.memory.WorksMade.{keys_kept, kept_told, made_given, made_keys, made_stay, made_undo, made_with, rows_as_keys}

-- ---- tables with one more

first_old : (s : Stand) (ss : List Stand) (name : List ℕ) (page : ℕ) → HasFirstPage ss name page
    → HasFirstPage (stands_with s ss) name page
first_old s [] name page is = absurd is
first_old s (u ∷ us) name page is = at (slice_cmp nat_cmp s.table.name u.table.name) is (first_old s us name page)
  where
    at : (o : Ordering) → HasFirstPage (u ∷ us) name page
        → (HasFirstPage us name page → HasFirstPage (stands_with s us) name page)
        → HasFirstPage (by_order o (s ∷ u ∷ us) (s ∷ u ∷ us) (u ∷ stands_with s us)) name page
    at Less there more = inr there
    at Equal there more = inr there
    at Greater (inl same) more = inl same
    at Greater (inr deeper) more = inr (more deeper)

first_named : (stands : List Stand) (name : List ℕ) (page : ℕ) → HasFirstPage stands name page
    → (x : Table) × (IsOneOf (map (λ stand. stand.table) stands) x × ((x.name ≡ name) × (x.pointer.0 ≡ page)))
first_named [] name page is = absurd is
first_named (s ∷ ss) name page (inl (named, first)) = (s.table, (inl refl, (named, first)))
first_named (s ∷ ss) name page (inr more) =
    let (x, (one, both)) = first_named ss name page more in (x, (inr one, both))

-- ---- the history

all_true : (a b c : Bool) → a ≡ true → b ≡ true → c ≡ true → (a && (b && c)) ≡ true
all_true true true true x y z = refl
all_true true true false x y z = absurd (false≢true z)
all_true true false c x y z = absurd (false≢true y)
all_true false b c x y z = absurd (false≢true x)

or_true : (a b : Bool) → b ≡ true → (a || b) ≡ true
or_true true b is = refl
or_true false b is = is

-- a row of a table has come last
last_row : (t : TxNo) (name : List ℕ) (row : Cells) (h : Entries) → says_of name (key_text row) ≡ true
    → last_makes t.0 name (row_entry t row ∷ h) ≡ true
last_row t name row h says = all_true (t.0 == t.0) (same_name catalog_name catalog_name) (says_of name (key_text row))
    (eq-eqb t.0 t.0 refl) (same_name_itself catalog_name) says

-- those of its columns come behind it
columns_grow : (t : TxNo) (name : List ℕ) (key place : ℕ) (columns : List Column) (h : Entries)
    → last_makes t.0 name h ≡ true → EachMakes h → EachMakes (with_rows t (column_rows name key place columns) h)
columns_grow t name key place [] h last each = each
columns_grow t name key place (c ∷ cs) h last each =
    columns_grow t name key (place + 1) cs (row_entry t (column_row name key place c) ∷ h)
    (last_row t name (column_row name key place c) h (ap (λ (n : List ℕ). same_name n name) (column_table name place)
    ∙ same_name_itself name)) (
      or_true (not (same_name catalog_name catalog_name))
          (comes_with_table t.0 (key_text (column_row name key place c)) h)
          (ap (λ (n : List ℕ). last_makes t.0 n h) (column_table name place) ∙ last),
      each,
    )

table_grows : (t : TxNo) (name : List ℕ) (shape : Shape) (h : Entries) → EachMakes h
    → EachMakes (with_rows t (rows_made name shape) h)
table_grows t name shape h each = columns_grow t name shape.key 0 shape.columns
    (row_entry t (table_row (new_table name shape)) ∷ h)
    (last_row t name (table_row (new_table name shape)) h (same_name_itself name)) (
      or_true (not (same_name catalog_name catalog_name))
          (comes_with_table t.0 (key_text (table_row (new_table name shape))) h) refl,
      each,
    )

rows_bases : (o : Opening) (t : TxNo) (rows : List Cells) (h : Entries) → BasesAreLawful o h
    → BasesAreLawful o (with_rows t rows h)
rows_bases o t [] h bases = bases
rows_bases o t (row ∷ rows) h bases = rows_bases o t rows (row_entry t row ∷ h) bases

-- at keys of other tables than the catalog nothing is changed
changes_else : (o : Opening) (t : TxNo) (name : List ℕ) (key : Value) → same_name catalog_name name ≡ false
    → (rows : List MadeRow) (h : Entries) → has_change (own o (with_rows t (map row_told rows) h) t.0) name key ≡ true
    → has_change (own o h t.0) name key ≡ true
changes_else o t name key other [] h is = is
changes_else o t name key other (row ∷ rows) h is = sym off ∙ changes_else o t name key other rows
    (row_entry t (row_told row) ∷ h) is
  where
    off : has_change (own o (row_entry t (row_told row) ∷ h) t.0) name key ≡ has_change (own o h t.0) name key
    off = ap (λ (cs : List OwnChange). has_change cs name key) (own_now o h t row) ∙ rw other refl

-- ---- the engine

module _ (one_way : StandsOneWay packed_form) (begins : OpeningsBegin) (seen_law : MadeAreSeen) (remembered : RowsAreRemembered) (lists : ListsStay)
    {D : Type 0} (m : Meaning D) (core : Core D) (cat_ok : IsCatalog core.catalog) (o : Opening) (h : Entries)
    (stands : StandsFor m core o h) (shows : ShowsIt m core o h (standing_of core stands.numbers stands.tables))
    (t : TxNo) (counts : said core.list t.0 ≡ Active) (work : Working) (work_is : work_of core.works t.0 ≡ Some work)
    (may_make : MayMake o h t) (name : List ℕ) (shape : Shape) (other : name ≢ catalog_name) (new : IsNewShape shape)
    (page : ℕ) (after : Pool D FireLinks) (j : Image) (waits : List (ℕ × ℕ))
    (over : NowWaits (edges_in core.waits) (edges_in waits) t.0 None)
    (made : MadePages m o h (standing_of core stands.numbers stands.tables) core.store after shows.image j
    (asked_in (works_made t.0 core.catalog.pointer.0 (keys_made core.catalog.shape name shape) core.works))
    (sessions_in core.works) shows.stands t name shape page) where
  abbrev s : Standing
  s = standing_of core stands.numbers stands.tables

  abbrev pages : Pages
  pages = shown core.store.dirty shows.image

  abbrev later : Pages
  later = shown after.dirty j

  abbrev size : ℕ
  size = core.store.geometry.size

  abbrev first_page : ℕ
  first_page = core.catalog.pointer.0

  abbrev keys : List Value
  keys = keys_made core.catalog.shape name shape

  abbrev pub works_now : List Working
  works_now = works_made t.0 core.catalog.pointer.0 (keys_made core.catalog.shape name shape) core.works

  abbrev pub entries_now : Entries
  entries_now = with_rows t (rows_made name shape) h

  abbrev pub numbers_now : Numbers
  numbers_now = λ u n. if (u == t.0) && same_name n catalog_name then core.catalog.pointer.0 else stands.numbers u n

  abbrev pub tables_now : Tables
  tables_now = λ u n. if (u == t.0) && same_name n name then Some (table_at name shape page) else stands.tables u n

  abbrev pub core_now : Core D
  core_now = record core {
    store = after;
    waits = waits;
    works = works_made t.0 core.catalog.pointer.0 (keys_made core.catalog.shape name shape) core.works;
  }

  abbrev pub s_now : Standing
  s_now = standing_of (record core {
    store = after;
    waits = waits;
    works = works_made t.0 core.catalog.pointer.0 (keys_made core.catalog.shape name shape) core.works;
  }) numbers_now tables_now

  memory : Remembers o h s
  memory = shows.stands.memory

  its_memory : RemembersOne o h s t.0
  its_memory = shows.stands.memory.active t.0 may_make.active

  stay : WorksStay core.works works_now t.0
  stay = made_stay t.0 first_page keys core.works

  all_work : {A : Type 0} (f : Option Working → A)
      → f (work_of works_now t.0) ≡ f (work_of core.works t.0) → (u : ℕ) → f (work_of works_now u) ≡ f (work_of core.works u)
  all_work f same u = kept_all core.works works_now t.0 stay f same u

  -- ---- numbers and tables

  number_here : numbers_now t.0 catalog_name ≡ first_page
  number_here = ap (λ (b : Bool). if b then core.catalog.pointer.0 else stands.numbers t.0 catalog_name)
      (ap (λ (b : Bool). b && same_name catalog_name catalog_name) (eq-eqb t.0 t.0 refl) ∙ same_name_itself catalog_name)

  number_else : (n : List ℕ) → same_name n catalog_name ≡ false → numbers_now t.0 n ≡ stands.numbers t.0 n
  number_else n off = ap (λ (b : Bool). if b then core.catalog.pointer.0 else stands.numbers t.0 n)
      (ap (λ (b : Bool). b && same_name n catalog_name) (eq-eqb t.0 t.0 refl) ∙ off)

  number_other : (u : ℕ) → u ≢ t.0 → numbers_now u ≡ stands.numbers u
  number_other u ne = fun_ext (λ n. ap (λ (b : Bool).
      if b && same_name n catalog_name then core.catalog.pointer.0 else stands.numbers u n) (ne_eqb u t.0 ne))

  table_here : tables_now t.0 name ≡ Some (table_at name shape page)
  table_here = ap (λ (b : Bool). if b then Some (table_at name shape page) else stands.tables t.0 name)
      (ap (λ (b : Bool). b && same_name name name) (eq-eqb t.0 t.0 refl) ∙ same_name_itself name)

  table_else : (n : List ℕ) → same_name n name ≡ false → tables_now t.0 n ≡ stands.tables t.0 n
  table_else n off = ap (λ (b : Bool). if b then Some (table_at name shape page) else stands.tables t.0 n)
      (ap (λ (b : Bool). b && same_name n name) (eq-eqb t.0 t.0 refl) ∙ off)

  table_other : (u : ℕ) → u ≢ t.0 → (n : List ℕ) → tables_now u n ≡ stands.tables u n
  table_other u ne n = ap (λ (b : Bool). if b && same_name n name then Some (table_at name shape page)
      else stands.tables u n) (ne_eqb u t.0 ne)

  -- the catalog begins where it began
  catalog_first : shows.stands.shows.layout.catalog.table.pointer.0 ≡ core.catalog.pointer.0
  catalog_first = ap (λ (x : Table). x.pointer.0) shows.stands.shows.sound.catalog ∙ sym shows.catalog

  numbered : (n : List ℕ) (key : Value) → has_change (own o h t.0) n key ≡ true
      → stands.numbers t.0 n ≡ numbers_now t.0 n
  numbered n key has = at (same_name n catalog_name) refl
    where
      catalog_named : shows.stands.shows.layout.catalog.table.name ≡ catalog_name
      catalog_named = ap (λ (x : Table). x.name) shows.stands.shows.sound.catalog

      here_ : n ≡ catalog_name → stands.numbers t.0 n ≡ core.catalog.pointer.0
      here_ is =
          let (x, (is_one, (named, first))) = first_named (stands_of shows.stands.shows.layout) n
          (stands.numbers t.0 n) ((shows.stands.shows.tables t.0 counts).changed n key has) in
          sym first ∙ (ap (λ (y : Table). y.pointer.0) (one_table packed_form core.store.geometry.size
          (left_state everyone (said core.list)) (shown core.store.dirty shows.image) shows.stands.shows.layout
          shows.stands.shows.reading shows.stands.shows.sound x shows.stands.shows.layout.catalog.table
          (stands_in shows.stands.shows.layout x is_one)
          (stands_in shows.stands.shows.layout shows.stands.shows.layout.catalog.table (inl refl))
          (named ∙ (is ∙ sym catalog_named))) ∙ catalog_first)

      at : (b : Bool) → same_name n catalog_name ≡ b → stands.numbers t.0 n ≡ numbers_now t.0 n
      at true on = here_ (same_text n catalog_name (sym on))
          ∙ (sym number_here ∙ ap (numbers_now t.0) (sym (same_text n catalog_name (sym on))))
      at false off = sym (number_else n off)

  -- ---- it did not see a table of that name

  own_lawful : IsLawful o h (row_entry t (table_row (new_table name shape)))
  own_lawful = made.lawful.0

  not_there : has_row (told o h) t.0 catalog_name (table_key name) ≡ false
  not_there = at (has_row (told o h) t.0 catalog_name (table_key name)) refl own_lawful
    where
      past_it : Answer
      past_it = past (told o h) t.0 (obstacle (told o h) t.0 catalog_name (table_key name)) Fine

      answered : answer o h (row_entry t (table_row (new_table name shape))).event
          ≡ (if has_row (told o h) t.0 catalog_name (table_key name) then No DuplicateKey
          else past (told o h) t.0 (obstacle (told o h) t.0 catalog_name (table_key name)) Fine)
      answered = ap (λ (x : TxState). if_active x (if (mode_of h t.0).read_only then No ReadOnly
          else (if has_row (told o h) t.0 catalog_name (table_key name) then No DuplicateKey
          else past (told o h) t.0 (obstacle (told o h) t.0 catalog_name (table_key name)) Fine))) may_make.active
          ∙ ap (λ (b : Bool). if b then No ReadOnly
          else (if has_row (told o h) t.0 catalog_name (table_key name) then No DuplicateKey
          else past (told o h) t.0 (obstacle (told o h) t.0 catalog_name (table_key name)) Fine)) may_make.writes

      at : (b : Bool) → has_row (told o h) t.0 catalog_name (table_key name) ≡ b
          → IsLawful o h (row_entry t (table_row (new_table name shape)))
          → has_row (told o h) t.0 catalog_name (table_key name) ≡ false
      at false is lawful = is
      at true is (inr outer) = absurd (false≢true outer)
      at true is (inl fine) =
          let both : Fine ≡ No DuplicateKey = fine ∙ (answered ∙ ap (λ (b : Bool). if b then No DuplicateKey
          else past (told o h) t.0 (obstacle (told o h) t.0 catalog_name (table_key name)) Fine) is) in absurd cc

  none_named : shape_seen o h t.0 name ≡ None
  none_named = at (catalog_of (told o h) t.0 (table_key name)) refl not_there
    where
      off : same_name name catalog_name ≡ false
      off = by (same_name name catalog_name) refl
        where
          by : (b : Bool) → same_name name catalog_name ≡ b → same_name name catalog_name ≡ false
          by true on = absurd (other (same_text name catalog_name (sym on)))
          by false off_ = off_

      at : (row : Option Cells) → catalog_of (told o h) t.0 (table_key name) ≡ row → is_some row ≡ false
          → shape_seen o h t.0 name ≡ None
      at (Some row) is none = absurd (false≢true (sym none))
      at None is none = ap (λ (b : Bool). if b then None else shape_said (catalog_of (told o h) t.0) name
          (catalog_of (told o h) t.0 (table_key name))) off
          ∙ ap (shape_said (catalog_of (told o h) t.0) name) is

  none_seen : stands.tables t.0 name ≡ None
  none_seen = at (stands.tables t.0 name) refl
      (subst (λ (x : Option Shape). IsSeenAs name x (stands.tables t.0 name)) none_named (its_memory.table name))
    where
      at : (x : Option Table) → stands.tables t.0 name ≡ x → IsSeenAs name None x → stands.tables t.0 name ≡ None
      at None is seen = is
      at (Some x) is seen = absurd seen

  -- ---- memory

  sees : SeesMade o h t name shape
  sees = seen_law o h t name shape other new

  seen_now : (n : List ℕ) → IsSeenAs n (shape_seen o entries_now t.0 n) (tables_now t.0 n)
  seen_now n = at (same_name n name) refl
    where
      its_name : IsSeenAs name (shape_seen o entries_now t.0 name) (tables_now t.0 name)
      its_name = subst (λ (x : Option Shape). IsSeenAs name x (tables_now t.0 name)) (sym sees.made)
          (subst (IsSeenAs name (Some shape)) (sym table_here) (refl, refl))

      at : (b : Bool) → same_name n name ≡ b → IsSeenAs n (shape_seen o entries_now t.0 n) (tables_now t.0 n)
      at true on = subst (λ (x : List ℕ). IsSeenAs x (shape_seen o entries_now t.0 x) (tables_now t.0 x))
          (sym (same_text n name (sym on))) its_name
      at false off = subst (λ (x : Option Shape). IsSeenAs n x (tables_now t.0 n)) (sym (sees.others n
          (λ is. false≢true (sym off ∙ (ap (λ (x : List ℕ). same_name x name) is ∙ same_name_itself name)))))
          (subst (IsSeenAs n (shape_seen o h t.0 n)) (sym (table_else n off)) (its_memory.table n))

  rows_undo : rows_kept core.catalog.pointer.0 made.joined.made (undo_kept (work_of core.works t.0))
      ≡ undo_kept (work_of works_now t.0)
  rows_undo = rows_as_keys first_page made.joined.made (undo_kept (work_of core.works t.0))
      ∙ (ap (λ (ks : List Value). keys_kept core.catalog.pointer.0 ks (undo_kept (work_of core.works t.0)))
      (made_keys name shape page made.joined.made made.joined.stored
      ∙ ap (λ (x : Shape). keys_made x name shape) (sym cat_ok.shape))
      ∙ (ap (λ (x : Option Working). keys_kept core.catalog.pointer.0 (keys_made core.catalog.shape name shape)
      (undo_kept x)) work_is
      ∙ sym (made_undo t.0 first_page keys core.works work work_is)))

  notes : NotesRows o h t core.catalog.pointer.0 made.joined.made s s_now
  notes = record {
    limit = refl;
    next = refl;
    state = λ u. refl;
    live = refl;
    waits = over;
    others = λ u ne. record {
      mode = ap mode_kept (stay.others u ne);
      session = ap session_kept (stay.others u ne);
      undo = ap undo_kept (stay.others u ne);
      number = number_other u ne;
      table = table_other u ne;
    };
    mode = stay.mode;
    session = λ u. all_work session_kept stay.session u;
    undo = sym rows_undo;
    number = number_here;
    numbers = numbered;
    tables = λ n. subst (λ (rows : List Cells). IsSeenAs n (shape_seen o (with_rows t rows h) t.0 n) (tables_now t.0 n))
        (sym made.told) (seen_now n);
  }

  remembers_some : (rows : List MadeRow) (own_ : Cells) (more : List Cells) → map row_told rows ≡ own_ ∷ more
      → AreUnwritten o t rows h → AreLawful o t (map row_told rows) h
      → NotesRows o h t core.catalog.pointer.0 rows s s_now → Remembers o (with_rows t (map row_told rows) h) s_now
  remembers_some [] own_ more is unwritten lawful noted = absurd cc
  remembers_some (row ∷ rows) own_ more is unwritten lawful noted = remembered o h t core.catalog.pointer.0 row rows s
      s_now (begins o shows.stands.opening) shows.stands.legal may_make shows.stands.memory unwritten lawful noted

  memory_now : Remembers o entries_now s_now
  memory_now = subst (λ (rows : List Cells). Remembers o (with_rows t rows h) s_now) made.told
      (remembers_some made.joined.made (table_row (new_table name shape)) (column_rows name shape.key 0 shape.columns)
      made.told made.unwritten (subst (λ (rows : List Cells). AreLawful o t rows h) (sym made.told) made.lawful) notes)

  -- ---- tables are found

  abbrev layout_now : Layout
  layout_now = layout_with shows.stands.shows.layout made.joined.batch.layout (stand_at name shape page)

  catalog_same : made.joined.batch.layout.catalog.table ≡ shows.stands.shows.layout.catalog.table
  catalog_same = made.joined.batch.sound.catalog
      ∙ (ap (λ (bytes : List ℕ). catalog_table (header_in bytes).catalog.0) made.joined.batch.header
      ∙ sym shows.stands.shows.sound.catalog)

  first_still : (n : List ℕ) (number : ℕ) → HasFirstPage (stands_of shows.stands.shows.layout) n number
      → HasFirstPage (stands_of layout_now) n number
  first_still n number (inl (named, first)) = inl (
    ap (λ (x : Table). x.name) catalog_same ∙ named,
    ap (λ (x : Table). x.pointer.0) catalog_same ∙ first,
  )
  first_still n number (inr table) = inr (first_old (stand_at name shape page) shows.stands.shows.layout.tables n number
      table)

  found_seen : (u : ℕ) → s.state u ≡ Active → (n : List ℕ) (x : Table) → tables_now u n ≡ Some x
      → IsOneOf (map (λ stand. stand.table) layout_now.tables) x
  found_seen u also n x is = at ((u == t.0) && same_name n name) refl
    where
      at : (b : Bool) → ((u == t.0) && same_name n name) ≡ b
          → IsOneOf (map (λ stand. stand.table) layout_now.tables) x
      at true on =
          let both : Some (table_at name shape page) ≡ Some x = sym (ap (λ (b : Bool).
          if b then Some (table_at name shape page) else stands.tables u n) on) ∙ is in
          let same : table_at name shape page ≡ x = cc in
          subst (IsOneOf (map (λ stand. stand.table) layout_now.tables)) same
          (new_one (stand_at name shape page) shows.stands.shows.layout.tables)
      at false off = old_one (stand_at name shape page) shows.stands.shows.layout.tables x
          ((shows.stands.shows.tables u also).seen n x (sym (ap (λ (b : Bool).
          if b then Some (table_at name shape page) else stands.tables u n) off) ∙ is))

  found_changed : (u : ℕ) → s.state u ≡ Active → (n : List ℕ) (key : Value)
      → has_change (own o entries_now u) n key ≡ true → HasFirstPage (stands_of layout_now) n (numbers_now u n)
  found_changed u also n key has = by (cases_eq u t.0)
    where
      catalog_there : n ≡ catalog_name → HasFirstPage (stands_of layout_now) n core.catalog.pointer.0
      catalog_there is = inl (
        ap (λ (x : Table). x.name) (catalog_same ∙ shows.stands.shows.sound.catalog) ∙ sym is,
        ap (λ (x : Table). x.pointer.0) catalog_same ∙ catalog_first,
      )

      its_own : u ≡ t.0 → has_change (own o (with_rows t (map row_told made.joined.made) h) t.0) n key ≡ true
      its_own same = ap (λ (rows : List Cells). has_change (own o (with_rows t rows h) t.0) n key) made.told
          ∙ (ap (λ (v : ℕ). has_change (own o entries_now v) n key) (sym same) ∙ has)

      here_ : u ≡ t.0 → (b : Bool) → same_name n catalog_name ≡ b
          → HasFirstPage (stands_of layout_now) n (numbers_now u n)
      here_ same true on = subst (HasFirstPage (stands_of layout_now) n)
          (sym (ap (λ (v : ℕ). numbers_now v n) same ∙ (ap (numbers_now t.0) (same_text n catalog_name (sym on))
          ∙ number_here))) (catalog_there (same_text n catalog_name (sym on)))
      here_ same false off = subst (HasFirstPage (stands_of layout_now) n)
          (sym (ap (λ (v : ℕ). numbers_now v n) same ∙ number_else n off))
          (first_still n (stands.numbers t.0 n) ((shows.stands.shows.tables t.0 counts).changed n key
          (changes_else o t n key (turned off) made.joined.made h (its_own same))))
        where
          turned : same_name n catalog_name ≡ false → same_name catalog_name n ≡ false
          turned no_ = at (same_name catalog_name n) refl
            where
              at : (b : Bool) → same_name catalog_name n ≡ b → same_name catalog_name n ≡ false
              at false is = is
              at true is = absurd (false≢true (sym no_ ∙ (ap (λ (x : List ℕ). same_name x catalog_name)
                  (sym (same_text catalog_name n (sym is))) ∙ same_name_itself catalog_name)))

      by : (u ≡ t.0) ⊎ (u ≢ t.0) → HasFirstPage (stands_of layout_now) n (numbers_now u n)
      by (inl same) = here_ same (same_name n catalog_name) refl
      by (inr ne) = subst (HasFirstPage (stands_of layout_now) n) (sym (ap (λ (f : List ℕ → ℕ). f n) (number_other u ne)))
          (first_still n (stands.numbers u n) ((shows.stands.shows.tables u also).changed n key
          (ap (λ (cs : List OwnChange). has_change cs n key) (sym (others_newest o t made.joined.made h u ne))
          ∙ (ap (λ (rows : List Cells). has_change (own o (with_rows t rows h) u) n key) made.told ∙ has))))

  bare_now : IsBare layout_now
  bare_now = bare_by layout_now (λ its there. (made.plain.each everyone layout_now
      (reading_with made.joined.made shows.stands.shows.reading) made.sound its there).no_index)

  stands_now : Stands packed_form core.store.geometry.size o entries_now s_now (Some (shown after.dirty j))
  stands_now = record {
    opening = shows.stands.opening;
    legal = rows_legal o t (rows_made name shape) h shows.stands.legal made.lawful;
    memory = memory_now;
    shows = record {
      layout = layout_now;
      reading = reading_with made.joined.made shows.stands.shows.reading;
      sound = made.sound;
      next = made.next ∙ shows.stands.shows.next;
      versions = made.versions;
      tables = λ u also. record { seen = found_seen u also; changed = found_changed u also };
      found = bare_has_found packed_form core.store.geometry.size (left_state everyone s_now.state) (shown after.dirty j)
          layout_now (reading_with made.joined.made shows.stands.shows.reading) made.sound bare_now s_now.state s_now.live;
      bare = bare_now;
    };
  }

  -- ---- what is kept

  given_now : (u : ℕ) (n : List ℕ) (x : Table) → given_to works_now u n ≡ Some x → tables_now u n ≡ Some x
  given_now u n x is = at (cases_eq u t.0)
    where
      at : (u ≡ t.0) ⊎ (u ≢ t.0) → tables_now u n ≡ Some x
      at (inl same) =
          let both : None ≡ Some x = sym (made_given t.0 first_page keys core.works n)
          ∙ (ap (λ (v : ℕ). given_to works_now v n) (sym same) ∙ is) in absurd cc
      at (inr ne) = table_other u ne n ∙ stands.given u n x
          (sym (ap (λ (w : Option Working). given_by w n) (stay.others u ne)) ∙ is)

  written_same : (u : ℕ) → written_kept (work_of works_now u) ≡ written_kept (work_of core.works u)
  written_same u = all_work written_kept (made_with t.0 first_page keys core.works written_kept (λ key w. refl)
      (λ w. refl) (λ w. refl)) u

  kept_seen : (u : ℕ) (x : Table) → IsOneOf (written_kept (work_of works_now u)) x → SeesIt (tables_now u x.name) x
  kept_seen u x is = at ((u == t.0) && same_name x.name name) refl
    where
      was : SeesIt (stands.tables u x.name) x
      was = stands.kept.seen u x (subst (λ (xs : List Table). IsOneOf xs x) (written_same u) is)

      both_on : (a b : Bool) → (a && b) ≡ true → (a ≡ true) × (b ≡ true)
      both_on true true on = (refl, refl)
      both_on true false on = absurd (false≢true on)
      both_on false b on = absurd (false≢true on)

      at : (b : Bool) → ((u == t.0) && same_name x.name name) ≡ b → SeesIt (tables_now u x.name) x
      at true on =
          let (its, named) = both_on (u == t.0) (same_name x.name name) on in
          let none : stands.tables u x.name ≡ None = ap (λ (v : ℕ). stands.tables v x.name) (eqb-true u t.0 its)
          ∙ (ap (stands.tables t.0) (same_text x.name name (sym named)) ∙ none_seen) in
          let both : None ≡ Some x = sym none ∙ was in absurd cc
      at false off = subst (λ (y : Option Table). SeesIt y x)
          (sym (ap (λ (b : Bool). if b then Some (table_at name shape page) else stands.tables u x.name) off)) was

  told_each : (u : ℕ) → AreTold core.catalog.pointer.0 (work_of works_now u)
  told_each u = at (cases_eq u t.0)
    where
      its : AreTold core.catalog.pointer.0 (work_of works_now t.0)
      its = subst (λ (written : List Table). AreOfKept core.catalog.pointer.0 written
          (undo_kept (work_of works_now t.0)).changes) (sym (written_same t.0))
          (subst (λ (x : Undo). AreOfKept core.catalog.pointer.0 (written_kept (work_of core.works t.0)) x.changes)
          (sym (made_undo t.0 first_page keys core.works work work_is))
          (kept_told first_page (written_kept (work_of core.works t.0)) keys work.undo
          (subst (λ (w : Option Working). AreOfKept core.catalog.pointer.0 (written_kept (work_of core.works t.0))
          (undo_kept w).changes) work_is (stands.kept.told t.0))))

      at : (u ≡ t.0) ⊎ (u ≢ t.0) → AreTold core.catalog.pointer.0 (work_of works_now u)
      at (inl same) = subst (λ (v : ℕ). AreTold core.catalog.pointer.0 (work_of works_now v)) (sym same) its
      at (inr ne) = subst (AreTold core.catalog.pointer.0) (sym (stay.others u ne)) (stands.kept.told u)

  -- the catalog begins where it began, and has no directory
  catalog_bare : by_table core.directories.dirs made.joined.batch.layout.catalog.table.pointer.0 ≡ None
  catalog_bare = ap (by_table core.directories.dirs) (ap (λ (x : Table). x.pointer.0) made.sound.catalog
      ∙ (ap (λ (bytes : List ℕ). (header_in bytes).catalog.0) made.joined.batch.header ∙ sym shows.catalog))
      ∙ shows.no_directory

  -- ---- the whole

  pub made_stands : m.tells after.disk ≡ true → m.held after.disk ≡ Some j → after.offline ≡ None
      → after.geometry ≡ core.store.geometry → StandsFor m (record core {
        store = after;
        waits = waits;
        works = works_made t.0 core.catalog.pointer.0 (keys_made core.catalog.shape name shape) core.works;
      }) o (with_rows t (rows_made name shape) h)
  made_stands tells held online geometry = record {
    tells = tells;
    grows = record { limbo = stands.grows.limbo; entries = table_grows t name shape h stands.grows.entries };
    bases = rows_bases o t (rows_made name shape) h stands.bases;
    numbers = numbers_now;
    tables = tables_now;
    given = given_now;
    kept = record { seen = kept_seen; told = told_each };
    stands = subst (λ (off : Option ℕ). StandsWhile m core_now o entries_now s_now off) (sym online) (record {
      image = j;
      held = held;
      stands = subst (λ (g : Geometry). Stands packed_form g.size o entries_now s_now (Some (shown after.dirty j)))
          (sym geometry) stands_now;
      lasts = subst (λ (f : Sessions). LastsOn m packed_form o entries_now after (asked_in works_now) f)
          (sym (fun_ext (λ u. all_work session_kept stay.session u))) made.lasts;
      tips = subst (λ (g : Geometry). HasTips core.list g.size (shown after.dirty j)) (sym geometry)
          (lists core.list core.list core.store.geometry.size (shown core.store.dirty shows.image) (shown after.dirty j)
          refl refl made.next made.tips shows.tips);
      catalog = shows.catalog
          ∙ ap (λ (bytes : List ℕ). (header_in bytes).catalog.0) (sym made.joined.batch.header);
      plain_tables = subst (λ (g : Geometry). HasPlainTables g.size (said core.list) (shown after.dirty j))
          (sym geometry) made.plain;
      no_directory = shows.no_directory;
      known = subst (λ (g : Geometry). KnowsIts o.next.0 g.size (said core.list) (shown after.dirty j) core.directories)
          (sym geometry) (joined_known one_way core.store.geometry.size (said core.list) t.0
          (shown core.store.dirty shows.image) (shown after.dirty j) shows.stands.shows.layout
          made.joined.batch.layout shows.stands.shows.reading made.joined.batch.reading made.joined.made
          (stand_at name shape page) shows.stands.shows.sound made.sound made.joined.joins
          o.next.0 (by_table core.directories.dirs) catalog_bare shows.known);
    });
  }
