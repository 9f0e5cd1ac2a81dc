-- Rows that a transaction takes back are of whole tables.
use Rattle.std.proofs.Common.{◌≡◌, ◌≢◌, inr, refl, sym, ap, ◌∙◌, subst, ◌==◌, ◌&&◌, ◌||◌, ℕ, Bool, true, false, List, [], ◌∷◌, Option, None, Some}
use Rattle.std.specs.Prelude.{if◌then◌else◌}
use Rattle.std.proofs.lemmas.Bool.{eq-eqb, ne_eqb}
use Rattle.mg_base.specs.declared.numbers.RecId.{RecId}
use Rattle.mg_base.specs.declared.transaction.TxState.{TxState}
use Rattle.mg_base.specs.declared.transaction.TxState.TheVariants.{Committed, Limbo}
use Rattle.mg_value.specs.declared.value.Value.{Value}
use Rattle.mg_catalog.specs.LawfulLaws.{column_lawful, index_lawful}
use Rattle.mg_model.specs.declared.opening.Opening.{Opening}
use Rattle.mg_model.specs.declared.table.Table.{Table}
use Rattle.mg_model.specs.Answers.{is_committed}
use Rattle.mg_model.specs.Catalog.{catalog_name, column_key, index_key, said_name, table_key}
use Rattle.mg_model.specs.Changes.{Cells}
use Rattle.mg_model.specs.History.{Entries}
use Rattle.mg_model.specs.Legal.{is_limbo}
use Rattle.mg_model.specs.Machine.{own}
use Rattle.mg_image.specs.declared.entry.Entry.{Entry}
use Rattle.mg_image.specs.Catalog.{CatalogNames, committed_with}
use Rattle.mg_image.specs.FactLaws.{shown_alike}
use Rattle.mg_image.specs.Form.{Form, Pages, Row, Rows}
use Rattle.mg_image.specs.Held.{AreRows, IsChangedAt, Shows, told_change}
use Rattle.mg_image.specs.Histories.{newest_at}
use Rattle.mg_image.specs.RecordRules.{Each, EachBack, Facts, IsVersion, TakesKey, table_in}
use Rattle.mg_image.specs.Records.{Change, Reading, change_in, key_of, record_key, shown, writer}
use Rattle.mg_image.specs.Sound.{facts_by}
use Rattle.mg_image.specs.Tables.{has, table_at}
use Rattle.mg_image_overlay_laws.specs.kept.KeptImages.{IsKept}
use Rattle.mg_engine_step_laws.specs.tables_back.TakenNames.{catalog_named, other_name, shown_keyed, shown_takes}
use Rattle.mg_engine_step_laws.specs.tables_back.TakenRows.{AreWhole}
use Rattle.mg_engine_step_laws.specs.tables_back.Whole.{GoWhole, GoneAreWhole}

module _ (form : Form) (size : ℕ) (o : Opening) (h : Entries) (now : ℕ → TxState) (t : ℕ) (pages : Pages)
    (kept : IsKept form size o h now pages pages) (gone : Value → Bool) (limbo : now t ≡ Limbo)
    (goes : GoWhole (own o h t) gone)
    (alone : (p : RecId) (e : Entry) (older : List Entry)
    → table_in (facts_by now pages kept.layout) p ≡ Some kept.layout.catalog.table
    → kept.reading p ≡ e ∷ older → writer e ≡ t → gone (key_of kept.layout.catalog.table e.row) ≡ true → older ≡ [])
  where
    abbrev f : Facts
    f = facts_by now pages kept.layout

    abbrev r : Reading
    r = kept.reading

    abbrev cat : Table
    cat = kept.layout.catalog.table

    abbrev put : Value → Option Change
    put key = newest_at (own o h t) catalog_name key

    -- a key without a change stays
    not_put : (key : Value) → put key ≡ None → gone key ≡ false
    not_put key none = at (gone key) refl
      where
        at : (b : Bool) → gone key ≡ b → gone key ≡ false
        at false is = is
        at true is =
            let (c, some) = goes.changed key is in
            let both : None ≡ Some c = sym none ∙ some in absurd cc

    -- ---- a row that is shown under a key

    each_keyed : (key : Value) (es : List Entry) → Each (IsVersion form.coding f cat key) es
        → Each (λ e. key_of cat e.row ≡ key) es
    each_keyed key [] each = tt
    each_keyed key (e ∷ es) each = (each.0.keyed, each_keyed key es each.1)

    row_keyed : (chosen : ℕ → Bool) (p : RecId) (row : Row) → Shows f (committed_with f chosen) r p cat row
        → key_of cat row ≡ record_key cat (r p)
    row_keyed chosen p row shows = shown_keyed cat (record_key cat (r p)) (committed_with f chosen) (r p)
        (each_keyed (record_key cat (r p)) (r p) (kept.sound.records.each p cat shows.of_table).each) row
        shows.row_shown

    -- the catalog alone has its name
    its_table : (p : RecId) (table : Table) → table_in f p ≡ Some table → table.name ≡ catalog_name → cat ≡ table
    its_table p table is named = at (has kept.layout.catalog.data_pages p.page.0) is
      where
        at : (b : Bool) → (if b then Some cat else table_at kept.layout.tables p.page.0) ≡ Some table → cat ≡ table
        at true is_ = cc
        at false is_ = absurd (other_name form size now pages kept.layout kept.reading kept.sound p.page.0 table is_ named)

    -- what the transaction's version alone shows, it shows where the transaction counts
    version_shown : (chosen : ℕ → Bool) (e : Entry) (row : Row) → writer e ≡ t
        → shown (committed_with f chosen) (e ∷ []) ≡ Some row → chosen t ≡ true
    version_shown chosen e row its is = at (chosen t) refl
        (sym (ap (λ (b : Bool). if b then (if e.version.deleted then None else Some e.row) else None) counts) ∙ is)
      where
        counts : committed_with f chosen (writer e) ≡ chosen t
        counts = ap (committed_with f chosen) its
            ∙ ap (λ (x : TxState). is_committed x || (is_limbo x && chosen t)) limbo

        at : (b : Bool) → chosen t ≡ b
            → (if chosen t then (if e.version.deleted then None else Some e.row) else None) ≡ Some row → chosen t ≡ true
        at true on is_ = on
        at false off is_ =
            let none : (if chosen t then (if e.version.deleted then None else Some e.row) else None) ≡ None = rw off refl in
            let both : None ≡ Some row = sym none ∙ is_ in absurd cc

    -- a row under a key that goes is the transaction's own
    gone_shown : (chosen : ℕ → Bool) (p : RecId) (row : Row) (key : Value)
        → Shows f (committed_with f chosen) r p cat row → key_of cat row ≡ key → gone key ≡ true → chosen t ≡ true
    gone_shown chosen p row key shows keyed lost =
        let (c, is) = goes.changed key lost in
        by c (kept.changed.whole t catalog_name key c (kept.changes_are t catalog_name key limbo ∙ is))
      where
        by : (c : Change) → IsChangedAt f r t catalog_name key c → chosen t ≡ true
        by c it = version_shown chosen it.version row it.its_own
            (ap (shown (committed_with f chosen)) (sym here) ∙ shows.row_shown)
          where
            one : cat ≡ it.table
            one = its_table it.place it.table it.limbo.of_table it.named

            of_it : table_in f it.place ≡ Some cat
            of_it = it.limbo.of_table ∙ ap (λ (x : Table). Some x) (sym one)

            its_key : key_of cat it.version.row ≡ key
            its_key = ap (λ (x : Table). key_of x it.version.row) one ∙ it.keyed

            same : p ≡ it.place
            same = kept.sound.records.keys p it.place cat shows.of_table of_it
                (shown_takes f chosen (r p) (kept.sound.records.each p cat shows.of_table).backs row shows.row_shown)
                (subst (λ (es : List Entry). TakesKey f es) (sym it.limbo.newest) (inr it.limbo.limbo))
                (sym (row_keyed chosen p row shows) ∙ (keyed ∙ (sym its_key
                ∙ sym (ap (record_key cat) it.limbo.newest))))

            first : it.limbo.older ≡ []
            first = alone it.place it.version it.limbo.older of_it it.limbo.newest it.its_own (ap gone its_key ∙ lost)

            here : r p ≡ it.version ∷ []
            here = ap r same ∙ (it.limbo.newest ∙ ap (λ (es : List Entry). it.version ∷ es) first)

    -- ---- rows of a choice

    module _ (chosen : ℕ → Bool) (rows : Rows) (are : AreRows f (committed_with f chosen) r cat rows) where
      abbrev but : ℕ → Bool
      but u = if u == t then false else chosen u

      but_off : but t ≡ false
      but_off = rw (eq-eqb t t refl) refl

      but_same : (u : ℕ) → u ≢ t → committed_with f but u ≡ committed_with f chosen u
      but_same u ne = ap (λ (b : Bool). is_committed (now u) || (is_limbo (now u) && b)) (rw (ne_eqb u t ne) refl)

      backs_same : (es : List Entry) → Each (λ d. now (writer d) ≡ Committed) es
          → Each (λ d. committed_with f but (writer d) ≡ committed_with f chosen (writer d)) es
      backs_same [] backs = tt
      backs_same (d ∷ ds) backs = (
        but_same (writer d) (λ same. let both : Limbo ≡ Committed = sym limbo ∙ (ap now (sym same) ∙ backs.0) in absurd cc),
        backs_same ds backs.1,
      )

      -- the lawful rows without the transaction's
      abbrev less : CatalogNames size f (committed_with f but) r cat (kept.sound.names.named but)
      less = kept.sound.names.lawful but

      -- a row under a key without a change is another's, so it is shown without the transaction
      others : (key : Value) → put key ≡ None → (p : RecId) (row : Row) → Shows f (committed_with f chosen) r p cat row
          → key_of cat row ≡ key → Shows f (committed_with f but) r p cat row
      others key none p row shows keyed = record {
        of_table = shows.of_table;
        row_shown = by (r p) refl (kept.sound.records.each p cat shows.of_table).backs ∙ shows.row_shown;
      }
        where
          by : (es : List Entry) → r p ≡ es → EachBack (λ d. now (writer d) ≡ Committed) es
              → shown (committed_with f but) (r p) ≡ shown (committed_with f chosen) (r p)
          by [] reads backs = ap (shown (committed_with f but)) reads ∙ sym (ap (shown (committed_with f chosen)) reads)
          by (e ∷ es) reads backs = ap (shown (committed_with f but)) reads
              ∙ (shown_alike (committed_with f chosen) (committed_with f but) (e ∷ es)
              (but_same (writer e) not_its, backs_same es backs)
              ∙ sym (ap (shown (committed_with f chosen)) reads))
            where
              not_its : writer e ≢ t
              not_its same =
                  let change : kept.changes (writer e) cat.name (key_of cat e.row)
                  ≡ Some (told_change cat (change_in e)) = kept.changed.there p cat e (record {
                    of_table = shows.of_table;
                    older = es;
                    newest = reads;
                    limbo = ap now same ∙ limbo;
                  }) in
                  let its : key_of cat e.row ≡ key =
                  sym (ap (record_key cat) reads) ∙ (sym (row_keyed chosen p row shows) ∙ keyed) in
                  let there : kept.changes t catalog_name key ≡ Some (told_change cat (change_in e)) =
                  ap (λ (k : Value). kept.changes t catalog_name k) (sym its)
                  ∙ (ap (λ (n : List ℕ). kept.changes t n (key_of cat e.row))
                  (sym (catalog_named form size now pages kept.layout kept.reading kept.sound))
                  ∙ (ap (λ (u : ℕ). kept.changes u cat.name (key_of cat e.row)) (sym same) ∙ change)) in
                  let both : None ≡ Some (told_change cat (change_in e)) = sym none
                  ∙ (sym (kept.changes_are t catalog_name key limbo) ∙ there) in absurd cc

      less_row : (key : Value) (row : Row) → put key ≡ None → rows key ≡ Some row → less.rows key ≡ Some row
      less_row key row none is = let (p, shows, keyed) = are.whole key row is in
          ap less.rows (sym keyed) ∙ less.are_rows.there p row (others key none p row shows keyed)

      -- a table that has a row without the transaction stays
      stays : (name : List ℕ) (row : Cells) → less.rows (table_key name) ≡ Some row → gone (table_key name) ≡ false
      stays name row there = at (gone (table_key name)) refl
        where
          at : (b : Bool) → gone (table_key name) ≡ b → gone (table_key name) ≡ false
          at false is = is
          at true is =
              let (p, shows, keyed) = less.are_rows.whole (table_key name) row there in
              let both : false ≡ true = sym but_off ∙ gone_shown but p row (table_key name) shows keyed is in absurd cc

      column_whole : (name : List ℕ) (place : ℕ) (row : Row) → rows (column_key name place) ≡ Some row
          → gone (column_key name place) ≡ gone (table_key name)
      column_whole name place row is = at (put (column_key name place)) refl
        where
          at : (c : Option Change) → put (column_key name place) ≡ c
              → gone (column_key name place) ≡ gone (table_key name)
          at (Some c) put_ = goes.columns name place c put_
          at None none =
              let (trow, there, below) = (column_lawful less.rows less.are_tables.lawful name place row
              (less_row (column_key name place) row none is)).of_table in
              not_put (column_key name place) none ∙ sym (stays name trow there)

      index_whole : (name : List ℕ) (row : Row) → rows (index_key name) ≡ Some row
          → gone (index_key name) ≡ gone (table_key (said_name row))
      index_whole name row is =
          let (trow, there, below) = (index_lawful less.rows less.are_tables.lawful name row
          (less_row (index_key name) row (goes.indexes name) is)).of_table in
          not_put (index_key name) (goes.indexes name) ∙ sym (stays (said_name row) trow there)

      pub gone_whole : AreWhole gone rows
      gone_whole = record { columns = column_whole; indexes = index_whole }

pub gone_are_whole : (form : Form) → GoneAreWhole form
gone_are_whole form size o h now t pages kept gone limbo goes alone chosen rows are =
    gone_whole form size o h now t pages kept gone limbo goes alone chosen rows are
