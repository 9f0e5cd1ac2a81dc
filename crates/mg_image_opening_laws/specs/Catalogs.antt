-- Whichever transactions in limbo are chosen, the catalog that comes of it is lawful, and keeps shapes.
use Rattle.std.proofs.Common.{◌≡◌, ◌≢◌, ◌⊎◌, inl, inr, ap, sym, subst, ◌∙◌, refl, ◌&&◌, ◌||◌, ℕ, Bool, true, false, List, [], ◌∷◌, ◌++◌, Option, None, Some, map}
use Rattle.std.proofs.Math.Path.{fun_ext}
use Rattle.std.proofs.lemmas.Bool.{false≢true}
use Rattle.std.specs.Cmp.Lexicographic.{same_text}
use Rattle.std.specs.Prelude.{IsSome, if◌then◌else◌}
use Rattle.mg_base.specs.declared.numbers.RecId.{RecId}
use Rattle.mg_base.specs.declared.transaction.TxState.{TxState}
use Rattle.mg_base.specs.declared.transaction.TxState.TheVariants.{Active, Committed, Dead, Limbo}
use Rattle.mg_value.specs.declared.shape.Shape.{Shape}
use Rattle.mg_value.specs.declared.value.Value.{Value}
use Rattle.mg_catalog.specs.LawfulLaws.{table_lawful}
use Rattle.mg_model.specs.Answers.{is_committed}
use Rattle.mg_model.specs.Catalog.{CatalogRows, catalog_name, catalog_shape, shape_in, shape_said, table_key, told_cells, told_if_there}
use Rattle.mg_model.specs.CatalogRules.{EachTable, IsCatalog, IsTable}
use Rattle.mg_model.specs.Changes.{Cells, row_at, same_name}
use Rattle.mg_model.specs.Legal.{is_limbo}
use Rattle.mg_model.specs.Openings.{chosen_changes, everyone}
use Rattle.mg_model.specs.declared.change.Change.{Change as AnyChange}
use Rattle.mg_model.specs.declared.opening.LimboChange.{LimboChange}
use Rattle.mg_model.specs.declared.table.Table.{Table}
use Rattle.mg_image.specs.declared.entry.Entry.{Entry}
use Rattle.mg_image.specs.Catalog.{HasNames, IsSameTable, IsWithin, StaysAmong, committed_with}
use Rattle.mg_image.specs.FactLaws.{shown_alike, shown_keyed}
use Rattle.mg_image.specs.Form.{Form, Pages, Row, Rows}
use Rattle.mg_image.specs.Held.{AreChanges, AreRows, Changes, Database, HasLimbo, HasTable, IsHeld, IsHeldAt, Shows, told_row}
use Rattle.mg_image.specs.RecordRules.{Each, EachBack, Facts, IsInLimbo, TakesKey, committed_in, table_in}
use Rattle.mg_image.specs.Records.{Reading, change_in, key_of, record_key, shown, writer}
use Rattle.mg_image.specs.Sound.{IsSoundBy, facts_by}
use Rattle.mg_image.specs.Tables.{Layout, stands_of}
use Rattle.mg_image_overlay_laws.specs.tables.TableOwners.{IsOneOf, catalog_of, has_stand, one_each, table_named}
use Rattle.mg_image_opening_laws.specs.Chosen.{IsChosen, IsNotChosen, as_change, chosen_or_not, nobody_is}
use Rattle.mg_image_opening_laws.specs.Items.{GivesLimbo, limbo_change, limbo_from, limbo_list, limbo_listed, rows_are, rows_of, told_of}
use Rattle.mg_image_opening_laws.specs.Gathered.{IsIn}
use Rattle.mg_image_opening_laws.specs.Told.{shape_told}

-- nobody in limbo
abbrev pub nobody : ℕ → Bool
nobody t = false

-- ---- what is shown where some are chosen

-- The newest of some versions is of a chosen transaction in limbo.
pub record HasChosen (f : Facts) (chosen : ℕ → Bool) (es : List Entry) : Type 0 where
  pub e : Entry
  pub older : List Entry
  pub parts : es ≡ e ∷ older
  pub limbo : f.state (writer e) ≡ Limbo
  pub is_chosen : chosen (writer e) ≡ true

module _ (f : Facts) (chosen : ℕ → Bool) where
  settled_alike : (t : ℕ) → f.state t ≢ Limbo → committed_with f chosen t ≡ committed_in f t
  settled_alike t not_ = by (f.state t) not_
    where
      by : (s : TxState) → s ≢ Limbo → (is_committed s || (is_limbo s && chosen t)) ≡ is_committed s
      by Active none = refl
      by Limbo none = absurd (none refl)
      by Dead none = refl
      by Committed none = refl

  backs_alike : (es : List Entry) → Each (λ d. f.state (writer d) ≡ Committed) es
      → Each (λ d. committed_with f chosen (writer d) ≡ committed_in f (writer d)) es
  backs_alike [] backs = tt
  backs_alike (d ∷ ds) backs = (
    settled_alike (writer d)
        (λ is. let both : Committed ≡ Limbo = sym backs.0 ∙ is in absurd cc),
    backs_alike ds backs.1,
  )

  pub shown_either : (es : List Entry) → EachBack (λ d. f.state (writer d) ≡ Committed) es
      → (shown (committed_with f chosen) es ≡ shown (committed_in f) es) ⊎ HasChosen f chosen es
  shown_either [] backs = inl refl
  shown_either (e ∷ es) backs = by (f.state (writer e)) refl
    where
      alike : shown (committed_with f chosen) es ≡ shown (committed_in f) es
      alike = shown_alike (committed_in f) (committed_with f chosen) es (backs_alike es backs)

      settled : f.state (writer e) ≢ Limbo
          → shown (committed_with f chosen) (e ∷ es) ≡ shown (committed_in f) (e ∷ es)
      settled not_ = shown_alike (committed_in f) (committed_with f chosen) (e ∷ es)
          (settled_alike (writer e) not_, backs_alike es backs)

      in_limbo : f.state (writer e) ≡ Limbo → (b : Bool) → chosen (writer e) ≡ b
          → (shown (committed_with f chosen) (e ∷ es) ≡ shown (committed_in f) (e ∷ es))
          ⊎ HasChosen f chosen (e ∷ es)
      in_limbo limbo true is = inr (record {
        e = e;
        older = es;
        parts = refl;
        limbo = limbo;
        is_chosen = is;
      })
      in_limbo limbo false is = inl (rw (limbo, is) alike)

      by : (s : TxState) → f.state (writer e) ≡ s
          → (shown (committed_with f chosen) (e ∷ es) ≡ shown (committed_in f) (e ∷ es))
          ⊎ HasChosen f chosen (e ∷ es)
      by Limbo is = in_limbo is (chosen (writer e)) refl
      by Active is = inl (settled (λ other. let both = sym is ∙ other in absurd cc))
      by Dead is = inl (settled (λ other. let both = sym is ∙ other in absurd cc))
      by Committed is = inl (settled (λ other. let both = sym is ∙ other in absurd cc))

-- ---- rows of a table are one

pub rows_once : (f : Facts) (committed : ℕ → Bool) (r : Reading) (table : Table) (a b : Rows)
    → AreRows f committed r table a → AreRows f committed r table b → (key : Value) → a key ≡ b key
rows_once f committed r table a b of_a of_b key = at (a key) refl (b key) refl
  where
    from : (x y : Rows) → AreRows f committed r table x → AreRows f committed r table y → (row : Row)
        → x key ≡ Some row → y key ≡ Some row
    from x y of_x of_y row is = on (of_x.whole key row is)
      where
        on : (p : RecId) × Shows f committed r p table row × (key_of table row ≡ key) → y key ≡ Some row
        on (p, shows, keyed) = ap y (sym keyed) ∙ of_y.there p row shows

    at : (m : Option Row) → a key ≡ m → (n : Option Row) → b key ≡ n → a key ≡ b key
    at (Some row) is n other = is ∙ sym (from a b of_a of_b row is)
    at None is (Some row) other = from b a of_b of_a row other ∙ sym other
    at None is None other = is ∙ sym other

-- ---- shapes of tables

name_apart : (a b : List ℕ) → a ≢ b → same_name a b ≡ false
name_apart a b apart = at (same_name a b) refl
  where
    at : (c : Bool) → same_name a b ≡ c → same_name a b ≡ false
    at true is = absurd (apart (same_text a b (sym is)))
    at false is = is

pub shape_named : (rows : CatalogRows) → IsCatalog rows → (t : Table) → IsTable rows t
    → shape_in rows t.name ≡ Some t.shape
shape_named rows lawful t is =
    let other : same_name t.name catalog_name ≡ false =
    name_apart t.name catalog_name (table_lawful rows lawful t.name is.row is.there).other in
    let said : shape_said rows t.name (rows (table_key t.name)) ≡ Some t.shape =
    ap (shape_said rows t.name) is.there ∙ is.shape in
    rw other said

each_both : (P Q : Table → Type 0) (ts : List Table) → EachTable P ts → EachTable Q ts
    → EachTable (λ t. P t × Q t) ts
each_both P Q [] each also = tt
each_both P Q (t ∷ ts) each also = ((each.0, also.0), each_both P Q ts each.1 also.1)

stays_one : (P : Table → Type 0) (ts : List Table) (t : Table) → StaysAmong ts t → EachTable P ts
    → (u : Table) × IsSameTable u t × P u
stays_one P [] t stays each = absurd stays
stays_one P (u ∷ us) t (inl same) each = (u, same, each.0)
stays_one P (u ∷ us) t (inr more) each = stays_one P us t more each.1

module _ (size : ℕ) (f : Facts) (r : Reading) (catalog : Table) (tables : List Table)
    (names : HasNames size f r catalog tables) where
  abbrev pub stored : (ℕ → Bool) → CatalogRows
  stored chosen = (names.lawful chosen).rows

  -- with more of them a table keeps its shape
  pub shape_grows : (chosen more : ℕ → Bool) → IsWithin chosen more → (name : List ℕ) (shape : Shape)
      → shape_in (stored chosen) name ≡ Some shape → shape_in (stored more) name ≡ Some shape
  shape_grows chosen more within name shape is = at (same_name name catalog_name) refl is
    where
      in_more : (t : Table) × ((t.name ≡ name) × (IsTable (stored chosen) t
          × StaysAmong (names.named more) t))
          → shape_in (stored chosen) name ≡ shape_in (stored more) name
      in_more (t, (named, (here, stays))) = on (stays_one (IsTable (stored more)) (names.named more) t stays
          (names.lawful more).are_tables.each)
        where
          on : (u : Table) × IsSameTable u t × IsTable (stored more) u
              → shape_in (stored chosen) name ≡ shape_in (stored more) name
          on (u, same, there) = ap (shape_in (stored chosen)) (sym named)
              ∙ (shape_named (stored chosen) (names.lawful chosen).are_tables.lawful t here
              ∙ (ap (λ (s : Shape). Some s) (sym same.shape)
              ∙ (sym (shape_named (stored more) (names.lawful more).are_tables.lawful u there)
              ∙ ap (shape_in (stored more)) (same.name ∙ named))))

      with_row : (row : Option Cells) → stored chosen (table_key name) ≡ row
          → shape_said (stored chosen) name row ≡ Some shape
          → shape_in (stored chosen) name ≡ shape_in (stored more) name
      with_row None none said = absurd cc
      with_row (Some row) there said = in_more (table_named
          (λ t. IsTable (stored chosen) t × StaysAmong (names.named more) t) (names.named chosen) name
          ((names.lawful chosen).are_tables.whole name row there)
          (each_both (IsTable (stored chosen)) (StaysAmong (names.named more)) (names.named chosen)
          (names.lawful chosen).are_tables.each (names.stay chosen more within)))

      at : (b : Bool) → same_name name catalog_name ≡ b
          → (if b then Some catalog_shape
          else shape_said (stored chosen) name (stored chosen (table_key name))) ≡ Some shape
          → shape_in (stored more) name ≡ Some shape
      at true same said = rw same said
      at false other said = sym (with_row (stored chosen (table_key name)) refl said) ∙ is

  -- a table of the layout has its shape where everyone is chosen
  pub shape_everyone : (t : Table) → IsOneOf tables t → shape_in (stored everyone) t.name ≡ Some t.shape
  shape_everyone t one =
      let it : IsTable names.all.rows t =
      one_each (IsTable names.all.rows) tables t names.all.are_tables.each one in
      let same : stored everyone ≡ names.all.rows = fun_ext (rows_once f (committed_with f everyone) r
      catalog (stored everyone) names.all.rows (names.lawful everyone).are_rows names.all.are_rows) in
      ap (λ (rows : CatalogRows). shape_in rows t.name) same
      ∙ shape_named names.all.rows names.all.are_tables.lawful t it

-- ---- the catalog that comes of a choice

module _ (form : Form) (size : ℕ) (state : ℕ → TxState) (pages : Pages) (layout : Layout) (r : Reading)
    (sound : IsSoundBy form size state pages layout r) (db : Database)
    (held : IsHeld (facts_by state pages layout) (committed_in (facts_by state pages layout)) r db)
    (changes : Changes) (changed : AreChanges (facts_by state pages layout) r changes) where
  abbrev f : Facts
  f = facts_by state pages layout

  abbrev catalog : Table
  catalog = layout.catalog.table

  abbrev tables : List Table
  tables = map (λ stand. stand.table) layout.tables

  abbrev pub stored_with : (ℕ → Bool) → CatalogRows
  stored_with chosen = stored size f r catalog tables sound.names chosen

  abbrev ls : List LimboChange
  ls = limbo_list form size state pages layout r sound db held changes changed

  its_name : catalog.name ≡ catalog_name
  its_name = ap (λ (t : Table). t.name) sound.catalog

  catalog_told : (row : Row) → told_row catalog row ≡ told_cells row
  catalog_told row = ap (λ (t : Table). told_row t row) sound.catalog

  module _ (chosen : ℕ → Bool) where
    abbrev cf : ℕ → Bool
    cf = committed_with f chosen

    either : (q : RecId) → table_in f q ≡ Some catalog
        → (shown cf (r q) ≡ shown (committed_in f) (r q)) ⊎ HasChosen f chosen (r q)
    either q of = shown_either f chosen (r q) (sound.records.each q catalog of).backs

    takes : (q : RecId) (row : Row) → Shows f cf r q catalog row → TakesKey f (r q)
    takes q row shows = by (either q shows.of_table)
      where
        by : (shown cf (r q) ≡ shown (committed_in f) (r q)) ⊎ HasChosen f chosen (r q)
            → TakesKey f (r q)
        by (inl same) = inl (row, sym same ∙ shows.row_shown)
        by (inr it) = inr (subst (IsInLimbo f) (sym it.parts) it.limbo)

    row_key : (q : RecId) (row : Row) → Shows f cf r q catalog row
        → key_of catalog row ≡ record_key catalog (r q)
    row_key q row shows = shown_keyed form.coding f catalog (record_key catalog (r q)) cf (r q) row
        (sound.records.each q catalog shows.of_table).each shows.row_shown

    -- a chosen version gives the row
    chosen_row : (p : RecId) (e : Entry) (key : Value) → HasLimbo f r p catalog e
        → chosen (writer e) ≡ true → key_of catalog e.row ≡ key
        → told_of catalog (change_in e) ≡ told_if_there (stored_with chosen key)
    chosen_row p e key has is keyed = by e.version.deleted refl
      where
        counts : cf (writer e) ≡ true
        counts = rw (has.limbo, is) refl

        shows_it : (b : Bool) → e.version.deleted ≡ b
            → shown cf (r p) ≡ (if b then None else Some e.row)
        shows_it b deleted = ap (shown cf) has.newest ∙ rw (counts, deleted) refl

        by : (b : Bool) → e.version.deleted ≡ b
            → told_of catalog (change_in e) ≡ told_if_there (stored_with chosen key)
        by false alive =
            let there : stored_with chosen (key_of catalog e.row) ≡ Some e.row =
            (sound.names.lawful chosen).are_rows.there p e.row (record {
              of_table = has.of_table;
              row_shown = shows_it false alive;
            }) in
            let gives : told_of catalog (change_in e) ≡ Some (told_row catalog e.row) = rw alive refl in
            gives ∙ (ap (λ (x : Row). Some x) (catalog_told e.row)
            ∙ ap told_if_there (sym there ∙ ap (stored_with chosen) keyed))
        by true deleted = gives ∙ ap told_if_there (sym (none (stored_with chosen key) refl))
          where
            gives : told_of catalog (change_in e) ≡ None
            gives = rw deleted refl

            never : (row : Row) → (q : RecId) × Shows f cf r q catalog row × (key_of catalog row ≡ key)
                → ⊥
            never row (q, shows, its_key) =
                let first : record_key catalog (r p) ≡ key = ap (record_key catalog) has.newest ∙ keyed in
                let same : p ≡ q = sound.records.keys p q catalog has.of_table shows.of_table
                (subst (TakesKey f) (sym has.newest) (inr has.limbo)) (takes q row shows)
                (first ∙ (sym its_key ∙ row_key q row shows)) in
                let both : None ≡ Some row = sym (shows_it true deleted)
                ∙ (ap (λ (x : RecId). shown cf (r x)) same ∙ shows.row_shown) in absurd cc

            none : (x : Option Row) → stored_with chosen key ≡ x → stored_with chosen key ≡ None
            none None is_ = is_
            none (Some row) is_ =
                absurd (never row ((sound.names.lawful chosen).are_rows.whole key row is_))

    -- Where no chosen version is of a key, what is committed counts.
    module _ (key : Value)
        (never : (c : LimboChange) → IsIn ls c → chosen c.by.0 ≡ true → c.table ≡ catalog_name
        → c.key ≡ key → ⊥) where
      not_chosen : (q : RecId) → table_in f q ≡ Some catalog → HasChosen f chosen (r q)
          → record_key catalog (r q) ≡ key → ⊥
      not_chosen q of it keyed = never (limbo_change catalog it.e)
          (limbo_listed form size state pages layout r sound db held changes changed q catalog it.e (record {
            of_table = of;
            older = it.older;
            newest = it.parts;
            limbo = it.limbo;
          }))
          it.is_chosen its_name (ap (record_key catalog) (sym it.parts) ∙ keyed)

      stored_in_db : (row : Row)
          → (q : RecId) × Shows f cf r q catalog row × (key_of catalog row ≡ key)
          → db catalog_name key ≡ Some (told_cells row)
      stored_in_db row (q, shows, keyed) = by (either q shows.of_table)
        where
          by : (shown cf (r q) ≡ shown (committed_in f) (r q)) ⊎ HasChosen f chosen (r q)
              → db catalog_name key ≡ Some (told_cells row)
          by (inl same) =
              let there : db catalog.name (key_of catalog row) ≡ Some (told_row catalog row) =
              held.there q catalog row (record {
                of_table = shows.of_table;
                row_shown = sym same ∙ shows.row_shown;
              }) (inl its_name) in
              ap (λ (n : List ℕ). db n key) (sym its_name) ∙ (ap (db catalog.name) (sym keyed)
              ∙ (there ∙ ap (λ (x : Row). Some x) (catalog_told row)))
          by (inr it) = absurd (not_chosen q shows.of_table it (sym (row_key q row shows) ∙ keyed))

      db_in_stored : (told : Row) → IsHeldAt f (committed_in f) r catalog_name key told
          → (row : Row) × (stored_with chosen key ≡ Some row)
      db_in_stored told it = by (either it.place of)
        where
          same_table : catalog ≡ it.table
          same_table = catalog_of form size state pages layout r sound it.place it.table it.shows.of_table
              it.named

          of : table_in f it.place ≡ Some catalog
          of = it.shows.of_table ∙ ap (λ (t : Table). Some t) (sym same_table)

          its_key : key_of catalog it.stored ≡ key
          its_key = ap (λ (t : Table). key_of t it.stored) same_table ∙ it.keyed

          by : (shown cf (r it.place) ≡ shown (committed_in f) (r it.place))
              ⊎ HasChosen f chosen (r it.place)
              → (row : Row) × (stored_with chosen key ≡ Some row)
          by (inl same) = (
            it.stored,
            ap (stored_with chosen) (sym its_key)
                ∙ (sound.names.lawful chosen).are_rows.there it.place it.stored (record {
                  of_table = of;
                  row_shown = same ∙ it.shows.row_shown;
                }),
          )
          by (inr chosen_) = absurd (not_chosen it.place of chosen_
              (sym (shown_keyed form.coding f catalog (record_key catalog (r it.place)) (committed_in f)
              (r it.place) it.stored (sound.records.each it.place catalog of).each it.shows.row_shown)
              ∙ its_key))

      db_is_stored : db catalog_name key ≡ told_if_there (stored_with chosen key)
      db_is_stored = at (stored_with chosen key) refl (db catalog_name key) refl
        where
          no_row : stored_with chosen key ≡ None
              → (row : Row) × (stored_with chosen key ≡ Some row) → ⊥
          no_row none (row, some) = let both : None ≡ Some row = sym none ∙ some in absurd cc

          at : (a : Option Row) → stored_with chosen key ≡ a → (b : Option Row) → db catalog_name key ≡ b
              → db catalog_name key ≡ told_if_there (stored_with chosen key)
          at (Some row) is b other =
              stored_in_db row ((sound.names.lawful chosen).are_rows.whole key row is)
              ∙ ap told_if_there (sym is)
          at None is None other = other ∙ ap told_if_there (sym is)
          at None is (Some told) other =
              absurd (no_row is (db_in_stored told (held.whole catalog_name key told other)))

    -- the catalog has the rows that are stored, as they are told
    pub chosen_told : (rest : List AnyChange)
        → ((key : Value) → row_at rest catalog_name key ≡ db catalog_name key) → (key : Value)
        → row_at (chosen_changes chosen ls ++ rest) catalog_name key
        ≡ told_if_there (stored_with chosen key)
    chosen_told rest same key = at (chosen_or_not chosen rest catalog_name key ls)
      where
        at : IsChosen chosen ls rest catalog_name key ⊎ IsNotChosen chosen ls rest catalog_name key
            → row_at (chosen_changes chosen ls ++ rest) catalog_name key
            ≡ told_if_there (stored_with chosen key)
        at (inr not_) = not_.row_is ∙ (same key ∙ db_is_stored key not_.never)
        at (inl it) = by (limbo_from form size state pages layout r sound db held changes changed it.c
            it.there)
          where
            by : (p : RecId) × GivesLimbo f r p it.c
                → row_at (chosen_changes chosen ls ++ rest) catalog_name key
                ≡ told_if_there (stored_with chosen key)
            by (p, gives) =
                let same_table : catalog ≡ gives.table = catalog_of form size state pages layout r sound p
                gives.table gives.has.of_table (ap (λ (x : LimboChange). x.table) gives.is ∙ it.named) in
                let row : told_of catalog (change_in gives.e) ≡ it.c.row =
                ap (λ (t : Table). told_of t (change_in gives.e)) same_table
                ∙ ap (λ (x : LimboChange). x.row) gives.is in
                let keyed : key_of catalog gives.e.row ≡ key =
                ap (λ (t : Table). key_of t gives.e.row) same_table
                ∙ (ap (λ (x : LimboChange). x.key) gives.is ∙ it.keyed) in
                it.row_is ∙ (sym row ∙ chosen_row p gives.e key
                (subst (λ (t : Table). HasLimbo f r p t gives.e) (sym same_table) gives.has)
                (ap (λ (x : LimboChange). chosen x.by.0) gives.is ∙ it.is_chosen) keyed)

  -- ---- as it is now

  pub db_told : (key : Value) → db catalog_name key ≡ told_if_there (stored_with nobody key)
  db_told key = sym (rows_are form size state pages layout r sound db held changes changed catalog_name key)
      ∙ (ap (λ (cs : List AnyChange). row_at (cs ++ map as_change (rows_of form size state pages layout r
      sound db held changes changed)) catalog_name key) (sym (nobody_is ls))
      ∙ chosen_told nobody (map as_change (rows_of form size state pages layout r sound db held changes
      changed)) (rows_are form size state pages layout r sound db held changes changed catalog_name) key)

  -- a table that a record belongs to has its shape where everyone is chosen
  pub every_shape : (p : RecId) (table : Table) → table_in f p ≡ Some table
      → shape_in (stored_with everyone) table.name ≡ Some table.shape
  every_shape p table of = at (has_stand (stands_of layout) p.page.0 table of)
    where
      at : (catalog ≡ table) ⊎ IsOneOf tables table
          → shape_in (stored_with everyone) table.name ≡ Some table.shape
      at (inl is) = subst (λ (t : Table). shape_in (stored_with everyone) t.name ≡ Some t.shape)
          (sym sound.catalog ∙ is) refl
      at (inr one) = shape_everyone size f r catalog tables sound.names table one

  -- and now, where the database names it
  pub now_shape : (p : RecId) (table : Table) → table_in f p ≡ Some table → HasTable db table.name
      → shape_in (db catalog_name) table.name ≡ Some table.shape
  now_shape p table of has =
      shape_told (db catalog_name) (stored_with nobody) (sound.names.lawful nobody).are_tables.lawful db_told
      table.name ∙ at (shape_in (stored_with nobody) table.name) refl
    where
      there : shape_in (stored_with nobody) table.name ≢ None
      there none = by has
        where
          by : (table.name ≡ catalog_name) ⊎ IsSome (db catalog_name (table_key table.name)) → ⊥
          by (inl is) =
              let both : Some catalog_shape ≡ None =
              sym (ap (shape_in (stored_with nobody)) is) ∙ none in absurd cc
          by (inr some) = no_row (same_name table.name catalog_name) none
              (stored_with nobody (table_key table.name)) refl
            where
              no_row : (b : Bool) → (if b then Some catalog_shape else shape_said (stored_with nobody)
                  table.name (stored_with nobody (table_key table.name))) ≡ None
                  → (row : Option Cells) → stored_with nobody (table_key table.name) ≡ row → ⊥
              no_row true none_ row is = absurd cc
              no_row false none_ None is =
                  let gone : db catalog_name (table_key table.name) ≡ None =
                  db_told (table_key table.name) ∙ ap told_if_there is in
                  absurd (false≢true (subst IsSome gone some))
              no_row false none_ (Some row) is =
                  let both = sym none_ ∙ ap (shape_said (stored_with nobody) table.name) is in absurd cc

      at : (s : Option Shape) → shape_in (stored_with nobody) table.name ≡ s
          → shape_in (stored_with nobody) table.name ≡ Some table.shape
      at None is = absurd (there is)
      at (Some shape) is = is ∙ (sym (shape_grows size f r catalog tables sound.names nobody everyone
          (λ t none. refl) table.name shape is) ∙ every_shape p table of)
