-- The pages without tables that were taken back are what they have to be for the history without their rows.
use Rattle.std.proofs.Common.{◌≡◌, ◌≢◌, ◌⊎◌, inl, inr, refl, sym, ap, ◌∙◌, subst, ◌&&◌, ◌==◌, ℕ, Bool, true, false, List, [], ◌∷◌, Option, None, Some}
use Rattle.std.specs.Prelude.{if◌then◌else◌}
use Rattle.std.specs.Option.{IsSome}
use Rattle.std.specs.Cmp.Lexicographic.{same_text}
use Rattle.std.proofs.lemmas.Bool.{cases_eq, eq-eqb, ne_eqb}
use Rattle.mg_base.specs.declared.numbers.RecId.{RecId}
use Rattle.mg_base.specs.declared.transaction.TxState.{TxState}
use Rattle.mg_base.specs.declared.transaction.TxState.TheVariants.{Dead, Limbo}
use Rattle.mg_value.specs.declared.value.Value.{Value}
use Rattle.mg_model.specs.declared.opening.Opening.{Opening}
use Rattle.mg_model.specs.declared.table.Table.{Table}
use Rattle.mg_model.specs.Catalog.{catalog_name, table_key}
use Rattle.mg_model.specs.Changes.{same_name}
use Rattle.mg_model.specs.History.{Entries}
use Rattle.mg_model.specs.Machine.{own}
use Rattle.mg_image.specs.declared.entry.Entry.{Entry}
use Rattle.mg_image.specs.Catalog.{MayStandIn}
use Rattle.mg_image.specs.Form.{Form, Pages, Row}
use Rattle.mg_image.specs.Held.{Changes, HasLimbo, HasTable, IsChangedAt, IsHeld, IsHeldAt, Shows, told_change, told_row}
use Rattle.mg_image.specs.Histories.{newest_at}
use Rattle.mg_image.specs.RecordRules.{Each, Facts, IsVersion, TakesKey, committed_in, table_in}
use Rattle.mg_image.specs.Records.{Change, Reading, change_in, key_of, record_key, shown, writer}
use Rattle.mg_image.specs.Sound.{IsSoundBy, facts_by}
use Rattle.mg_image.specs.Tables.{Layout, has, table_at}
use Rattle.mg_image_overlay_laws.specs.transactions.Begins.{Raises}
use Rattle.mg_image_overlay_laws.specs.kept.KeptImages.{IsKept}
use Rattle.mg_image_overlay_laws.specs.kept.StartLaws.{kept_by_itself}
use Rattle.mg_engine_step_laws.specs.tables_back.Taken.{HasGone, IsLeft, IsWithout, LeftAreKept, TakesBack, change_left, layout_left, read_of, reading_left, stands_left}
use Rattle.mg_engine_step_laws.specs.tables_back.TakenNames.{catalog_named, left_at, of_catalog, of_other, other_name, reads_catalog, shown_keyed, was_catalog, was_of_catalog, was_other}
use Rattle.mg_engine_step_laws.specs.tables_back.TakenPages.{takes_back}
use Rattle.mg_engine_step_laws.specs.tables_back.TakenSound.{left_sound}

module _ (form : Form) (size : ℕ) (o : Opening) (h later : Entries) (state now : ℕ → TxState) (t : ℕ) (old new : Pages)
    (c : Layout) (rc : Reading) (gone : Value → Bool) (raises : Raises state now t)
    (kept : IsKept form size o h now old old) (after : IsSoundBy form size state new c rc)
    (takes : TakesBack form size now t old new kept.layout c kept.reading rc gone)
    (without : IsWithout o h later t gone) where
  abbrev a : Layout
  a = kept.layout

  abbrev r : Reading
  r = kept.reading

  abbrev before : IsSoundBy form size now old kept.layout kept.reading
  before = kept.sound

  abbrev f : Facts
  f = facts_by now old kept.layout

  abbrev g : Facts
  g = facts_by now new (layout_left gone kept.layout c)

  abbrev cat : Table
  cat = kept.layout.catalog.table

  abbrev s : Reading
  s = reading_left gone kept.layout c kept.reading rc

  -- ---- records

  abbrev Fate : RecId → Type 0
  Fate p = HasGone gone kept.layout.catalog.table t (kept.reading p) (rc p)
      ⊎ IsLeft gone (facts_by now old kept.layout) kept.layout.catalog.table (kept.reading p) (rc p)

  -- a page of the catalog
  catalog_on : (n : ℕ) → has c.catalog.data_pages n ≡ true → g.table_of n ≡ Some kept.layout.catalog.table
  catalog_on n on = of_catalog form size state now t old new a c r rc gone raises before after takes n on

  catalog_was : (n : ℕ) → has c.catalog.data_pages n ≡ true → f.table_of n ≡ Some kept.layout.catalog.table
  catalog_was n on = was_of_catalog form size state now t old new a c r rc gone raises before after takes n on

  catalog_reads : (p : RecId) → has c.catalog.data_pages p.page.0 ≡ true
      → reading_left gone kept.layout c kept.reading rc p ≡ rc p
  catalog_reads p on = reads_catalog form size state now t old new a c r rc gone raises before after takes p on

  fate : (p : RecId) → has c.catalog.data_pages p.page.0 ≡ true → Fate p
  fate p on = takes.each p on

  -- A record that is read stands as it did: in the catalog, or in a table that is left.
  record IsRead (p : RecId) (table : Table) : Type 0 where
    was : table_in f p ≡ Some table
    same : reading_left gone kept.layout c kept.reading rc p ≡ kept.reading p

  record IsElsewhere (p : RecId) (table : Table) : Type 0 where
    off : has c.catalog.data_pages p.page.0 ≡ false
    there : table_at (stands_left gone kept.layout.tables) p.page.0 ≡ Some table
    named : table.name ≢ catalog_name
    read : IsRead p table

  elsewhere : (p : RecId) (table : Table) → has c.catalog.data_pages p.page.0 ≡ false
      → table_at (stands_left gone kept.layout.tables) p.page.0 ≡ Some table → IsElsewhere p table
  elsewhere p table off there = record {
    off = off;
    there = there;
    named = other_name form size now old a r before p.page.0 table (takes.stands p.page.0 table there);
    read = record {
      was = was_other form size state now t old new a c r rc gone raises before after takes p.page.0 off
          ∙ takes.stands p.page.0 table there;
      same = rw off (ap (λ (x : Option Table). read_of x (kept.reading p)) there);
    };
  }

  -- where it is read after
  whose : (p : RecId) (table : Table) → table_in g p ≡ Some table
      → ((has c.catalog.data_pages p.page.0 ≡ true) × (table ≡ kept.layout.catalog.table)) ⊎ IsElsewhere p table
  whose p table of = at (has c.catalog.data_pages p.page.0) refl
    where
      at : (b : Bool) → has c.catalog.data_pages p.page.0 ≡ b
          → ((has c.catalog.data_pages p.page.0 ≡ true) × (table ≡ kept.layout.catalog.table)) ⊎ IsElsewhere p table
      at true on = let both : Some table ≡ Some kept.layout.catalog.table = sym of ∙ catalog_on p.page.0 on in
          inl (on, cc)
      at false off = inr (elsewhere p table off
          (sym (of_other form size state now t old new a c r rc gone raises before after takes p.page.0 off) ∙ of))

  -- and where it was before: one of a table that is left, if that is
  place_was : (p : RecId) (table : Table) → table_in f p ≡ Some table
      → ((has c.catalog.data_pages p.page.0 ≡ true) × (table ≡ kept.layout.catalog.table))
      ⊎ ((has c.catalog.data_pages p.page.0 ≡ false) × (table_at kept.layout.tables p.page.0 ≡ Some table))
  place_was p table of = at (has c.catalog.data_pages p.page.0) refl
    where
      at : (b : Bool) → has c.catalog.data_pages p.page.0 ≡ b
          → ((has c.catalog.data_pages p.page.0 ≡ true) × (table ≡ kept.layout.catalog.table))
          ⊎ ((has c.catalog.data_pages p.page.0 ≡ false) × (table_at kept.layout.tables p.page.0 ≡ Some table))
      at true on = let both : Some table ≡ Some kept.layout.catalog.table = sym of ∙ catalog_was p.page.0 on in
          inl (on, cc)
      at false off = inr (
        off,
        sym (was_other form size state now t old new a c r rc gone raises before after takes p.page.0 off) ∙ of,
      )

  on_left : (p : RecId) (table : Table) → has c.catalog.data_pages p.page.0 ≡ false
      → table_at kept.layout.tables p.page.0 ≡ Some table → gone (table_key table.name) ≡ false → IsElsewhere p table
  on_left p table off there stays = elsewhere p table off (left_at gone a.tables p.page.0 table there stays)

  elsewhere_on : (p : RecId) (table : Table) → IsElsewhere p table → table_in g p ≡ Some table
  elsewhere_on p table it =
      of_other form size state now t old new a c r rc gone raises before after takes p.page.0 it.off ∙ it.there

  -- what is shown with what is committed has not gone
  not_gone : (p : RecId) (row : Row) → has c.catalog.data_pages p.page.0 ≡ true
      → shown (committed_in f) (kept.reading p) ≡ Some row
      → IsLeft gone (facts_by now old kept.layout) kept.layout.catalog.table (kept.reading p) (rc p)
  not_gone p row on is = at (fate p on)
    where
      at : Fate p → IsLeft gone (facts_by now old kept.layout) kept.layout.catalog.table (kept.reading p) (rc p)
      at (inl went) =
          let limbo : now (writer went.version) ≡ Limbo = ap now went.its ∙ raises.limbo in
          let none : shown (committed_in f) (went.version ∷ []) ≡ None = rw limbo refl in
          let both : None ≡ Some row = sym none ∙ (sym (ap (shown (committed_in f)) went.alone) ∙ is) in absurd cc
      at (inr left) = left

  each_keyed : (key : Value) (es : List Entry) → Each (IsVersion form.coding f kept.layout.catalog.table key) es
      → Each (λ e. key_of kept.layout.catalog.table e.row ≡ key) es
  each_keyed key [] each = tt
  each_keyed key (e ∷ es) each = (each.0.keyed, each_keyed key es each.1)

  -- so its key is not
  key_stays : (p : RecId) (row : Row) → has c.catalog.data_pages p.page.0 ≡ true
      → shown (committed_in f) (kept.reading p) ≡ Some row → gone (key_of kept.layout.catalog.table row) ≡ false
  key_stays p row on is = ap gone (shown_keyed cat (record_key cat (r p)) (committed_in f) (r p)
      (each_keyed (record_key cat (r p)) (r p) (before.records.each p cat (catalog_was p.page.0 on)).each) row is)
      ∙ (not_gone p row on is).keyed (inl (row, is))

  -- ---- the database

  held_on : IsHeld g (committed_in g) s kept.rows
  held_on = record {
    there = λ p table row shows has_. there p table row shows has_ (whose p table shows.of_table);
    whole = λ name key row is. whole name key row (kept.held.tables name key row is) (kept.held.whole name key row is);
    tables = kept.held.tables;
  }
    where
      there : (p : RecId) (table : Table) (row : Row) → Shows g (committed_in g) s p table row
          → HasTable kept.rows table.name
          → ((has c.catalog.data_pages p.page.0 ≡ true) × (table ≡ kept.layout.catalog.table)) ⊎ IsElsewhere p table
          → kept.rows table.name (key_of table row) ≡ Some (told_row table row)
      there p table row shows has_ (inr it) = kept.held.there p table row (record {
        of_table = it.read.was;
        row_shown = ap (shown (committed_in g)) (sym it.read.same) ∙ shows.row_shown;
      }) has_
      there p table row shows has_ (inl (on, its)) = at (fate p on)
        where
          it : shown (committed_in g) (rc p) ≡ Some row
          it = ap (shown (committed_in g)) (sym (catalog_reads p on)) ∙ shows.row_shown

          at : Fate p → kept.rows table.name (key_of table row) ≡ Some (told_row table row)
          at (inl went) = let both : None ≡ Some row = sym (ap (shown (committed_in g)) went.none) ∙ it in absurd cc
          at (inr left) = kept.held.there p table row (record {
            of_table = catalog_was p.page.0 on ∙ ap (λ (x : Table). Some x) (sym its);
            row_shown = ap (shown (committed_in g)) (sym left.same) ∙ it;
          }) has_

      -- a table of the database is left
      table_left : (name : List ℕ) → name ≢ catalog_name → HasTable kept.rows name → gone (table_key name) ≡ false
      table_left name other (inl is) = absurd (other is)
      table_left name other (inr some) = by (kept.rows catalog_name (table_key name)) refl some
        where
          its : (row : Row) → IsHeldAt f (committed_in f) r catalog_name (table_key name) row
              → gone (table_key name) ≡ false
          its row it = at (place_was it.place it.table it.shows.of_table)
            where
              at : ((has c.catalog.data_pages it.place.page.0 ≡ true) × (it.table ≡ kept.layout.catalog.table))
                  ⊎ ((has c.catalog.data_pages it.place.page.0 ≡ false)
                  × (table_at kept.layout.tables it.place.page.0 ≡ Some it.table)) → gone (table_key name) ≡ false
              at (inl (on, one)) = sym (ap gone (ap (λ (x : Table). key_of x it.stored) (sym one) ∙ it.keyed))
                  ∙ key_stays it.place it.stored on it.shows.row_shown
              at (inr (off, there_)) =
                  absurd (other_name form size now old a r before it.place.page.0 it.table there_ it.named)

          by : (x : Option Row) → kept.rows catalog_name (table_key name) ≡ x → IsSome x → gone (table_key name) ≡ false
          by None is some_ = absurd cc
          by (Some row) is some_ = its row (kept.held.whole catalog_name (table_key name) row is)

      whole : (name : List ℕ) (key : Value) (row : Row) → HasTable kept.rows name
          → IsHeldAt f (committed_in f) r name key row → IsHeldAt g (committed_in g) s name key row
      whole name key row has_ it = at (place_was it.place it.table it.shows.of_table)
        where
          moved : table_in g it.place ≡ Some it.table
              → reading_left gone kept.layout c kept.reading rc it.place ≡ kept.reading it.place
              → IsHeldAt g (committed_in g) s name key row
          moved of same = record {
            place = it.place;
            table = it.table;
            stored = it.stored;
            shows = record { of_table = of; row_shown = ap (shown (committed_in g)) same ∙ it.shows.row_shown };
            named = it.named;
            keyed = it.keyed;
            told = it.told;
          }

          at : ((has c.catalog.data_pages it.place.page.0 ≡ true) × (it.table ≡ kept.layout.catalog.table))
              ⊎ ((has c.catalog.data_pages it.place.page.0 ≡ false)
              × (table_at kept.layout.tables it.place.page.0 ≡ Some it.table))
              → IsHeldAt g (committed_in g) s name key row
          at (inl (on, one)) = moved (catalog_on it.place.page.0 on ∙ ap (λ (x : Table). Some x) (sym one))
              (catalog_reads it.place on ∙ (not_gone it.place it.stored on it.shows.row_shown).same)
          at (inr (off, there_)) =
              let stays : gone (table_key it.table.name) ≡ false =
              ap (λ (n : List ℕ). gone (table_key n)) it.named ∙ table_left name
              (λ is. other_name form size now old a r before it.place.page.0 it.table there_ (it.named ∙ is)) has_ in
              let now_ : IsElsewhere it.place it.table = on_left it.place it.table off there_ stays in
              moved (elsewhere_on it.place it.table now_) now_.read.same

  -- ---- the changes

  abbrev changes_now : Changes
  changes_now u name key = if u == t then change_left gone name key (kept.changes u name key)
      else kept.changes u name key

  its_now : (name : List ℕ) (key : Value) (u : ℕ) → u ≡ t
      → changes_now u name key ≡ change_left gone name key (kept.changes u name key)
  its_now name key u same = rw (eq-eqb u t same) refl

  others_now : (name : List ℕ) (key : Value) (u : ℕ) → u ≢ t → changes_now u name key ≡ kept.changes u name key
  others_now name key u ne = rw (ne_eqb u t ne) refl

  change_stays : (name : List ℕ) (key : Value) (old_ : Option Change) → (same_name catalog_name name && gone key) ≡ false
      → change_left gone name key old_ ≡ old_
  change_stays name key old_ off = ap (λ (b : Bool). if b then None else old_) off

  changes_stay : (u : ℕ) (name : List ℕ) (key : Value) → (same_name catalog_name name && gone key) ≡ false
      → changes_now u name key ≡ kept.changes u name key
  changes_stay u name key off = at (cases_eq u t)
    where
      at : (u ≡ t) ⊎ (u ≢ t) → changes_now u name key ≡ kept.changes u name key
      at (inl same) = its_now name key u same ∙ change_stays name key (kept.changes u name key) off
      at (inr ne) = others_now name key u ne

  key_off : (name : List ℕ) (key : Value) → gone key ≡ false → (same_name catalog_name name && gone key) ≡ false
  key_off name key off = at (same_name catalog_name name) refl
    where
      at : (b : Bool) → same_name catalog_name name ≡ b → (same_name catalog_name name && gone key) ≡ false
      at true is = rw (is, off) refl
      at false is = rw is refl

  name_off : (name : List ℕ) (key : Value) → name ≢ catalog_name → (same_name catalog_name name && gone key) ≡ false
  name_off name key other = at (same_name catalog_name name) refl
    where
      at : (b : Bool) → same_name catalog_name name ≡ b → (same_name catalog_name name && gone key) ≡ false
      at true is = absurd (other (sym (same_text catalog_name name (sym is))))
      at false is = rw is refl

  changed_there : (p : RecId) (table : Table) (e : Entry) → HasLimbo g s p table e
      → changes_now (writer e) table.name (key_of table e.row) ≡ Some (told_change table (change_in e))
  changed_there p table e has_ = at (whose p table has_.of_table)
    where
      at : ((has c.catalog.data_pages p.page.0 ≡ true) × (table ≡ kept.layout.catalog.table)) ⊎ IsElsewhere p table
          → changes_now (writer e) table.name (key_of table e.row) ≡ Some (told_change table (change_in e))
      at (inr it) = changes_stay (writer e) table.name (key_of table e.row)
          (name_off table.name (key_of table e.row) it.named) ∙ kept.changed.there p table e (record {
            of_table = it.read.was;
            older = has_.older;
            newest = sym it.read.same ∙ has_.newest;
            limbo = has_.limbo;
          })
      at (inl (on, its)) = by (fate p on)
        where
          it : rc p ≡ e ∷ has_.older
          it = sym (catalog_reads p on) ∙ has_.newest

          by : Fate p → changes_now (writer e) table.name (key_of table e.row) ≡ Some (told_change table (change_in e))
          by (inl went) = let both : [] ≡ e ∷ has_.older = sym went.none ∙ it in absurd cc
          by (inr left) =
              let was : kept.reading p ≡ e ∷ has_.older = sym left.same ∙ it in
              let off : gone (key_of table e.row) ≡ false =
              ap (λ (x : Table). gone (key_of x e.row)) its
              ∙ (sym (ap (λ (es : List Entry). gone (record_key kept.layout.catalog.table es)) was)
              ∙ left.keyed (subst (λ (es : List Entry). TakesKey f es) (sym was) (inr has_.limbo))) in
              changes_stay (writer e) table.name (key_of table e.row) (key_off table.name (key_of table e.row) off)
              ∙ kept.changed.there p table e (record {
                of_table = catalog_was p.page.0 on ∙ ap (λ (x : Table). Some x) (sym its);
                older = has_.older;
                newest = was;
                limbo = has_.limbo;
              })

  -- a table with a change is left
  stands_still : (u : ℕ) (name : List ℕ) (key : Value) (change : Change) → kept.changes u name key ≡ Some change
      → name ≢ catalog_name → (table : Table) → table.name ≡ name → (e : Entry) → now (writer e) ≡ Limbo → writer e ≡ u
      → MayStandIn f r kept.layout.catalog.table table e → gone (table_key table.name) ≡ false
  stands_still u name key change is other table named e limbo its (inl same) = absurd (other (sym named ∙ same))
  stands_still u name key change is other table named e limbo its (inr (inl there)) =
      sym (ap gone there.keyed) ∙ key_stays there.place there.row
      (was_catalog form size state now t old new a c r rc gone raises before after takes there.place.page.0
      there.shows.of_table) there.shows.row_shown
  stands_still u name key change is other table named e limbo its (inr (inr (inl dead))) =
      let both : Dead ≡ Limbo = sym dead ∙ limbo in absurd cc
  stands_still u name key change is other table named e limbo its (inr (inr (inr made))) = at (fate made.place on)
    where
      on : has c.catalog.data_pages made.place.page.0 ≡ true
      on = was_catalog form size state now t old new a c r rc gone raises before after takes made.place.page.0
          made.limbo.of_table

      keyed : record_key kept.layout.catalog.table (kept.reading made.place) ≡ table_key table.name
      keyed = ap (record_key kept.layout.catalog.table) made.limbo.newest ∙ made.keyed

      at : Fate made.place → gone (table_key table.name) ≡ false
      at (inr left) = sym (ap gone keyed) ∙ left.keyed
          (subst (λ (es : List Entry). TakesKey f es) (sym made.limbo.newest) (inr made.limbo.limbo))
      at (inl went) =
          let first : made.version ∷ made.limbo.older ≡ went.version ∷ [] = sym made.limbo.newest ∙ went.alone in
          let one : made.version ≡ went.version = cc in
          let mine : u ≡ t = sym its ∙ (sym made.its_own ∙ (ap writer one ∙ went.its)) in
          let lost : gone (table_key name) ≡ true = ap (λ (n : List ℕ). gone (table_key n)) (sym named)
          ∙ (ap gone (sym keyed) ∙ went.keyed) in
          let both : Some change ≡ None = sym is ∙ (ap (λ (v : ℕ). kept.changes v name key) mine
          ∙ (kept.changes_are t name key raises.limbo ∙ without.none name key other lost)) in absurd cc

  changed_whole : (u : ℕ) (name : List ℕ) (key : Value) (change : Change) → changes_now u name key ≡ Some change
      → IsChangedAt g s u name key change
  changed_whole u name key change is = moved (kept.changed.whole u name key change was)
    where
      -- it was changed before
      was_by : (b : Bool) → (if b then None else kept.changes u name key) ≡ Some change
          → kept.changes u name key ≡ Some change
      was_by true is_ = absurd cc
      was_by false is_ = is_

      was : kept.changes u name key ≡ Some change
      was = at (cases_eq u t)
        where
          at : (u ≡ t) ⊎ (u ≢ t) → kept.changes u name key ≡ Some change
          at (inl same) = was_by (same_name catalog_name name && gone key) (sym (its_now name key u same) ∙ is)
          at (inr ne) = sym (others_now name key u ne) ∙ is

      moved : IsChangedAt f r u name key change → IsChangedAt g s u name key change
      moved it = at (place_was it.place it.table it.limbo.of_table)
        where
          here : table_in g it.place ≡ Some it.table
              → reading_left gone kept.layout c kept.reading rc it.place ≡ kept.reading it.place
              → IsChangedAt g s u name key change
          here of same = record {
            place = it.place;
            table = it.table;
            version = it.version;
            limbo = record {
              of_table = of;
              older = it.limbo.older;
              newest = same ∙ it.limbo.newest;
              limbo = it.limbo.limbo;
            };
            its_own = it.its_own;
            named = it.named;
            keyed = it.keyed;
            told = it.told;
          }

          at : ((has c.catalog.data_pages it.place.page.0 ≡ true) × (it.table ≡ kept.layout.catalog.table))
              ⊎ ((has c.catalog.data_pages it.place.page.0 ≡ false)
              × (table_at kept.layout.tables it.place.page.0 ≡ Some it.table)) → IsChangedAt g s u name key change
          at (inl (on, one)) = by (fate it.place on)
            where
              by : Fate it.place → IsChangedAt g s u name key change
              by (inr left) = here (catalog_on it.place.page.0 on ∙ ap (λ (x : Table). Some x) (sym one))
                  (catalog_reads it.place on ∙ left.same)
              by (inl went) =
                  let first : it.version ∷ it.limbo.older ≡ went.version ∷ [] = sym it.limbo.newest ∙ went.alone in
                  let same : it.version ≡ went.version = cc in
                  let mine : u ≡ t = sym it.its_own ∙ (ap writer same ∙ went.its) in
                  let keys : record_key kept.layout.catalog.table (kept.reading it.place) ≡ key =
                  ap (record_key kept.layout.catalog.table) it.limbo.newest
                  ∙ (ap (λ (x : Table). key_of x it.version.row) (sym one) ∙ it.keyed) in
                  let lost : gone key ≡ true = ap gone (sym keys) ∙ went.keyed in
                  let cat_ : name ≡ catalog_name = sym it.named ∙ (ap (λ (x : Table). x.name) one
                  ∙ catalog_named form size now old a r before) in
                  let none : changes_now u name key ≡ None = its_now name key u mine
                  ∙ (ap (λ (n : List ℕ). change_left gone n key (kept.changes u name key)) cat_
                  ∙ rw lost refl) in
                  let both : None ≡ Some change = sym none ∙ is in absurd cc
          at (inr (off, there_)) =
              let other : it.table.name ≢ catalog_name =
              other_name form size now old a r before it.place.page.0 it.table there_ in
              let may : Each (MayStandIn f r kept.layout.catalog.table it.table) (it.version ∷ it.limbo.older) =
              subst (Each (MayStandIn f r kept.layout.catalog.table it.table)) it.limbo.newest
              (before.own_tables it.place it.table it.limbo.of_table) in
              let stays : gone (table_key it.table.name) ≡ false =
              stands_still u name key change was (λ is_. other (it.named ∙ is_)) it.table it.named it.version
              it.limbo.limbo it.its_own may.0 in
              let now_ : IsElsewhere it.place it.table = on_left it.place it.table off there_ stays in
              here (elsewhere_on it.place it.table now_) now_.read.same

  changes_told : (u : ℕ) (name : List ℕ) (key : Value) → now u ≡ Limbo
      → changes_now u name key ≡ newest_at (own o later u) name key
  changes_told u name key limbo = at (cases_eq u t)
    where
      at : (u ≡ t) ⊎ (u ≢ t) → changes_now u name key ≡ newest_at (own o later u) name key
      at (inr ne) = others_now name key u ne ∙ (kept.changes_are u name key limbo ∙ sym (without.others u name key ne))
      at (inl same) = its_now name key u same
          ∙ (ap (change_left gone name key) (kept.changes_are u name key limbo)
          ∙ (ap (λ (v : ℕ). change_left gone name key (newest_at (own o h v) name key)) same
          ∙ (sym (without.its name key) ∙ ap (λ (v : ℕ). newest_at (own o later v) name key) (sym same))))

  pub left_kept : IsKept form size o later now new new
  left_kept = kept_by_itself form size o later now new (layout_left gone kept.layout c) s kept.rows changes_now
      (left_sound form size state now t old new a c r rc gone raises before after takes) held_on
      (λ name key. kept.rows_are name key ∙ sym (without.rows name key))
      (record { there = changed_there; whole = changed_whole }) changes_told

pub left_are_kept : (form : Form) → LeftAreKept form
left_are_kept form size o h later state now t old new c rc gone raises kept after leaves rows without =
    left_kept form size o h later state now t old new c rc gone raises kept after
    (takes_back form size now t old new kept.layout c kept.reading rc gone kept.sound leaves rows) without
