-- What is read of records once tables are taken back: on a page of the catalog, of a table that is left, and of one that
-- has gone, whose records had nothing that counts.
use Rattle.std.proofs.Common.{◌≡◌, ◌≢◌, ◌⊎◌, inl, inr, refl, sym, ap, ◌∙◌, subst, ◌++◌, ℕ, Bool, true, false, List, [], ◌∷◌, Option, None, Some}
use Rattle.std.specs.Prelude.{if◌then◌else◌, is_some}
use Rattle.std.proofs.lemmas.Bool.{false≢true}
use Rattle.mg_base.specs.declared.numbers.RecId.{RecId}
use Rattle.mg_base.specs.declared.transaction.TxState.{TxState}
use Rattle.mg_base.specs.declared.transaction.TxState.TheVariants.{Active, Committed, Dead, Limbo}
use Rattle.mg_value.specs.declared.value.Value.{Value}
use Rattle.mg_engine_step_laws.specs.standing.Standing.{Standing}
use Rattle.mg_engine_step_laws.specs.backs.Again.{own_again}
use Rattle.mg_engine_step_laws.specs.standing.OwnChains.{newest_second}
use Rattle.mg_image.specs.declared.entry.Entry.{Entry as Read}
use Rattle.mg_image.specs.Catalog.{HasMade, IsNamed, MayStandIn}
use Rattle.mg_image.specs.Form.{Form, Pages}
use Rattle.mg_image.specs.Held.{AreChanges, IsChangedAt, told_change}
use Rattle.mg_image.specs.Histories.{newest_at, row_change}
use Rattle.mg_image.specs.ReadingLaws.{RowsAreOne}
use Rattle.mg_image.specs.RecordRules.{Each, EachBack, Facts, IsVersion, TakesKey, committed_in, table_in}
use Rattle.mg_image.specs.Records.{Reading, change_in, key_of, record_key, shown, writer}
use Rattle.mg_image.specs.Records as records
use Rattle.mg_image.specs.Sound.{IsSoundBy, facts_by}
use Rattle.mg_image.specs.Tables.{Layout, Stand, has, table_at}
use Rattle.mg_image_overlay_laws.specs.records.Fronts.{is_dead}
use Rattle.mg_image_overlay_laws.specs.pages.Kinds.{HasNoSequences}
use Rattle.mg_model.specs.Catalog.{catalog_name, table_key}
use Rattle.mg_model.specs.Changes.{is_at}
use Rattle.mg_model.specs.History.{Entries, Entry}
use Rattle.mg_model.specs.Machine.{own}
use Rattle.mg_model.specs.Openings.{everyone}
use Rattle.mg_model.specs.declared.change.Change.{Change}
use Rattle.mg_model.specs.declared.opening.Opening.{Opening}
use Rattle.mg_model.specs.declared.table.Table.{Table}
use Rattle.mg_overlay_laws.specs.Overlays.{left_by, left_state}
use Rattle.mg_seek.specs.Histories.{told_versions}
use Rattle.mg_image_overlay_laws.specs.tables.OneLayout.{sound_once}
use Rattle.mg_engine_step_laws.specs.tables_back.LeftShown.{TakesTables}
use Rattle.mg_engine_step_laws.specs.tables_back.Taken.{HasGone, IsLeft, TakesBack, layout_left, read_of, reading_left, stands_left}
use Rattle.mg_engine_step_laws.specs.tables_back.TakenNames.{catalog_page, left_at, left_is, other_name, shown_keyed}
use Rattle.mg_engine_step_laws.specs.tables_back.TakenPages.{takes_back}

-- the newest of two lists is that of the first, where it has one
pub newest_first : (cs rest : List Change) (name : List ℕ) (key : Value) (c : records.Change)
    → newest_at cs name key ≡ Some c → newest_at (cs ++ rest) name key ≡ Some c
newest_first [] rest name key c is = absurd cc
newest_first (d ∷ cs) rest name key c is = at (is_at d name key) is (newest_first cs rest name key c)
  where
    at : (b : Bool) → (if b then Some (row_change d.row) else newest_at cs name key) ≡ Some c
        → (newest_at cs name key ≡ Some c → newest_at (cs ++ rest) name key ≡ Some c)
        → (if b then Some (row_change d.row) else newest_at (cs ++ rest) name key) ≡ Some c
    at true is_ more = is_
    at false is_ more = more is_

module _ (form : Form) (one : RowsAreOne form.coding) (none : HasNoSequences form) (size : ℕ) (o : Opening) (h : Entries)
    (e : Entry) (t : ℕ) (left : List Change) (s : Standing) (a : Layout) (r : Reading) (pages later : Pages)
    (gone : Value → Bool) (active : s.state t ≡ Active)
    (before : IsSoundBy form size (left_state everyone s.state) pages a r)
    (it : TakesTables form size o h e t left s a r pages later gone)
    (nothing : (name : List ℕ) (key : Value) → name ≢ catalog_name → gone (table_key name) ≡ true
    → newest_at (own o (e ∷ h) t) name key ≡ None) where
  abbrev state : ℕ → TxState
  state = left_state everyone s.state

  abbrev f : Facts
  f = facts_by (left_state everyone s.state) pages a

  abbrev g : Facts
  g = facts_by (left_state everyone s.state) later (layout_left gone a it.c)

  abbrev after : Reading
  after = reading_left gone a it.c r it.rc

  abbrev cat : Table
  cat = a.catalog.table

  limbo : left_state everyone s.state t ≡ Limbo
  limbo = ap (left_by true) active

  tables_back : TakesBack form size (left_state everyone s.state) t pages later a it.c r it.rc gone
  tables_back = takes_back form size (left_state everyone s.state) t pages later a it.c r it.rc gone before it.leaves
      it.takes

  same_pages : (n : ℕ) → has it.c.catalog.data_pages n ≡ has a.catalog.data_pages n
  same_pages n = ap (λ (x : Stand). has x.data_pages n) it.leaves.catalog

  -- ---- where a record is read

  -- on a page of the catalog
  pub fate : (p : RecId) → has a.catalog.data_pages p.page.0 ≡ true
      → HasGone gone a.catalog.table t (r p) (it.rc p)
      ⊎ IsLeft gone (facts_by (left_state everyone s.state) pages a) a.catalog.table (r p) (it.rc p)
  fate p on = it.takes.each p on

  pub reads_catalog : (p : RecId) → has a.catalog.data_pages p.page.0 ≡ true
      → reading_left gone a it.c r it.rc p ≡ it.rc p
  reads_catalog p on = let here : has it.c.catalog.data_pages p.page.0 ≡ true = same_pages p.page.0 ∙ on in rw here refl

  pub catalog_in : (p : RecId) → has a.catalog.data_pages p.page.0 ≡ true
      → table_in g p ≡ Some a.catalog.table
  catalog_in p on = let here : has it.c.catalog.data_pages p.page.0 ≡ true = same_pages p.page.0 ∙ on in
      rw here (ap (λ (x : Stand). Some x.table) it.leaves.catalog)

  -- of a table that is left
  pub reads_left : (p : RecId) (table : Table) → has a.catalog.data_pages p.page.0 ≡ false
      → table_at a.tables p.page.0 ≡ Some table → gone (table_key table.name) ≡ false
      → (reading_left gone a it.c r it.rc p ≡ r p) × (table_in g p ≡ Some table)
  reads_left p table off is stays =
      let out : has it.c.catalog.data_pages p.page.0 ≡ false = same_pages p.page.0 ∙ off in
      let there : table_at (stands_left gone a.tables) p.page.0 ≡ Some table =
      left_at gone a.tables p.page.0 table is stays in
      (rw out (ap (λ (x : Option Table). read_of x (r p)) there), rw out there)

  -- of one that has gone
  pub reads_none : (p : RecId) (table : Table) → has a.catalog.data_pages p.page.0 ≡ false
      → table_at a.tables p.page.0 ≡ Some table → gone (table_key table.name) ≡ true
      → reading_left gone a it.c r it.rc p ≡ []
  reads_none p table off is lost = rw out (at (table_at (stands_left gone a.tables) p.page.0) refl)
    where
      out : has it.c.catalog.data_pages p.page.0 ≡ false
      out = same_pages p.page.0 ∙ off

      at : (x : Option Table) → table_at (stands_left gone a.tables) p.page.0 ≡ x → read_of x (r p) ≡ []
      at None is_ = refl
      at (Some other) is_ =
          let both : Some table ≡ Some other = sym is ∙ tables_back.stands p.page.0 other is_ in
          let same : table ≡ other = cc in
          absurd (false≢true (sym (left_is gone a.tables p.page.0 other is_)
          ∙ (ap (λ (x : Table). gone (table_key x.name)) (sym same) ∙ lost)))

  -- where it stands after
  pub whose : (p : RecId) (table : Table) → table_in g p ≡ Some table
      → ((has a.catalog.data_pages p.page.0 ≡ true) × (a.catalog.table ≡ table))
      ⊎ ((has a.catalog.data_pages p.page.0 ≡ false) × (table_at a.tables p.page.0 ≡ Some table)
      × (gone (table_key table.name) ≡ false))
  whose p table of = at (has a.catalog.data_pages p.page.0) refl
    where
      at : (b : Bool) → has a.catalog.data_pages p.page.0 ≡ b
          → ((has a.catalog.data_pages p.page.0 ≡ true) × (a.catalog.table ≡ table))
          ⊎ ((has a.catalog.data_pages p.page.0 ≡ false) × (table_at a.tables p.page.0 ≡ Some table)
          × (gone (table_key table.name) ≡ false))
      at true on = let both : Some a.catalog.table ≡ Some table = sym (catalog_in p on) ∙ of in inl (on, cc)
      at false off =
          let out : has it.c.catalog.data_pages p.page.0 ≡ false = same_pages p.page.0 ∙ off in
          let there : table_at (stands_left gone a.tables) p.page.0 ≡ Some table = sym (rw out refl) ∙ of in
          inr (off, tables_back.stands p.page.0 table there, left_is gone a.tables p.page.0 table there)

  -- ---- changes

  same : (it.was.layout ≡ a) × (it.was.reading ≡ r)
  same = sound_once form one none size (left_state everyone s.state) pages it.was.layout a it.was.reading r it.was.sound
      before

  pub changed : AreChanges (facts_by (left_state everyone s.state) pages a) r it.was.changes
  changed = subst (λ (x : Reading). AreChanges (facts_by (left_state everyone s.state) pages a) x it.was.changes) same.1
      (subst (λ (l : Layout). AreChanges (facts_by (left_state everyone s.state) pages l) it.was.reading it.was.changes)
      same.0 it.was.changed)

  pub changes_are : (name : List ℕ) (key : Value)
      → it.was.changes t name key ≡ newest_at (left ++ own o (e ∷ h) t) name key
  changes_are name key = it.was.changes_are t name key limbo
      ∙ ap (λ (cs : List Change). newest_at cs name key) (own_again o (e ∷ h) t left)

  -- a row under a key that goes is the transaction's alone, and goes
  pub gone_there : (key : Value) → gone key ≡ true → (p : RecId) × (has a.catalog.data_pages p.page.0 ≡ true)
      × HasGone gone a.catalog.table t (r p) (it.rc p) × (record_key a.catalog.table (r p) ≡ key)
  gone_there key lost = at (newest_at left catalog_name key) refl
    where
      by : (c : records.Change) → IsChangedAt f r t catalog_name key c → (p : RecId)
          × (has a.catalog.data_pages p.page.0 ≡ true) × HasGone gone a.catalog.table t (r p) (it.rc p)
          × (record_key a.catalog.table (r p) ≡ key)
      by c change = (change.place, on, went (fate change.place on), keyed)
        where
          on : has a.catalog.data_pages change.place.page.0 ≡ true
          on = split (has a.catalog.data_pages change.place.page.0) refl change.limbo.of_table
            where
              split : (b : Bool) → has a.catalog.data_pages change.place.page.0 ≡ b
                  → (if b then Some a.catalog.table else table_at a.tables change.place.page.0) ≡ Some change.table
                  → has a.catalog.data_pages change.place.page.0 ≡ true
              split true here is_ = here
              split false off is_ = absurd (other_name form size state pages a r before change.place.page.0 change.table
                  is_ change.named)

          one_table : a.catalog.table ≡ change.table
          one_table =
              let both : Some a.catalog.table ≡ Some change.table = sym (rw on refl) ∙ change.limbo.of_table in cc

          keyed : record_key a.catalog.table (r change.place) ≡ key
          keyed = ap (record_key a.catalog.table) change.limbo.newest
              ∙ (ap (λ (x : Table). key_of x change.version.row) one_table ∙ change.keyed)

          went : HasGone gone a.catalog.table t (r change.place) (it.rc change.place)
              ⊎ IsLeft gone (facts_by (left_state everyone s.state) pages a) a.catalog.table (r change.place)
              (it.rc change.place) → HasGone gone a.catalog.table t (r change.place) (it.rc change.place)
          went (inl its) = its
          went (inr stays) = absurd (false≢true (sym (stays.keyed (subst (λ (es : List Read). TakesKey f es)
              (sym change.limbo.newest) (inr change.limbo.limbo))) ∙ (ap gone keyed ∙ lost)))

      at : (c : Option records.Change) → newest_at left catalog_name key ≡ c → (p : RecId)
          × (has a.catalog.data_pages p.page.0 ≡ true) × HasGone gone a.catalog.table t (r p) (it.rc p)
          × (record_key a.catalog.table (r p) ≡ key)
      at None is = absurd (false≢true (sym (it.keys key ∙ ap is_some is) ∙ lost))
      at (Some c) is = by c (changed.whole t catalog_name key c (changes_are catalog_name key
          ∙ newest_first left (own o (e ∷ h) t) catalog_name key c is))

  -- ---- the records of a table that goes

  each_keyed : (key : Value) (es : List Read) → Each (IsVersion form.coding f cat key) es
      → Each (λ x. key_of cat x.row ≡ key) es
  each_keyed key [] each = tt
  each_keyed key (x ∷ xs) each = (each.0.keyed, each_keyed key xs each.1)

  -- no committed row names it
  never_named : (name : List ℕ) → gone (table_key name) ≡ true → IsNamed f r cat name → ⊥
  never_named name lost named = at (fate named.place on)
    where
      on : has a.catalog.data_pages named.place.page.0 ≡ true
      on = catalog_page form size state pages a r before named.place.page.0 named.shows.of_table

      keyed : record_key cat (r named.place) ≡ table_key name
      keyed = sym (shown_keyed cat (record_key cat (r named.place)) (committed_in f) (r named.place)
          (each_keyed (record_key cat (r named.place)) (r named.place)
          (before.records.each named.place cat named.shows.of_table).each) named.row named.shows.row_shown) ∙ named.keyed

      at : HasGone gone a.catalog.table t (r named.place) (it.rc named.place)
          ⊎ IsLeft gone (facts_by (left_state everyone s.state) pages a) a.catalog.table (r named.place)
          (it.rc named.place) → ⊥
      at (inl went) =
          let its : left_state everyone s.state (writer went.version) ≡ Limbo =
          ap (left_state everyone s.state) went.its ∙ limbo in
          let none_shown : shown (committed_in f) (went.version ∷ []) ≡ None = rw its refl in
          let both : None ≡ Some named.row = sym none_shown
          ∙ (ap (shown (committed_in f)) (sym went.alone) ∙ named.shows.row_shown) in absurd cc
      at (inr stays) = false≢true (sym (stays.keyed (inl (named.row, named.shows.row_shown))) ∙ (ap gone keyed ∙ lost))

  -- and who made it has no version in it
  never_made : (p : RecId) (table : Table) → table_in f p ≡ Some table → table.name ≢ catalog_name
      → gone (table_key table.name) ≡ true → (x : Read) (older : List Read) → r p ≡ x ∷ older
      → HasMade f r cat (writer x) table.name → ⊥
  never_made p table of other lost x older reads made = at (fate made.place on)
    where
      on : has a.catalog.data_pages made.place.page.0 ≡ true
      on = catalog_page form size state pages a r before made.place.page.0 made.limbo.of_table

      keyed : record_key cat (r made.place) ≡ table_key table.name
      keyed = ap (record_key cat) made.limbo.newest ∙ made.keyed

      left_none : newest_at left table.name (key_of table x.row) ≡ None
      left_none = by (newest_at left table.name (key_of table x.row)) refl
        where
          by : (c : Option records.Change) → newest_at left table.name (key_of table x.row) ≡ c
              → newest_at left table.name (key_of table x.row) ≡ None
          by None is = is
          by (Some c) is = absurd (other (it.rows table.name (key_of table x.row) c is))

      at : HasGone gone a.catalog.table t (r made.place) (it.rc made.place)
          ⊎ IsLeft gone (facts_by (left_state everyone s.state) pages a) a.catalog.table (r made.place)
          (it.rc made.place) → ⊥
      at (inr stays) = false≢true (sym (stays.keyed (subst (λ (es : List Read). TakesKey f es) (sym made.limbo.newest)
          (inr made.limbo.limbo))) ∙ (ap gone keyed ∙ lost))
      at (inl went) =
          let both : made.version ∷ made.limbo.older ≡ went.version ∷ [] = sym made.limbo.newest ∙ went.alone in
          let first : made.version ≡ went.version = cc in
          let mine : writer x ≡ t = sym made.its_own ∙ (ap writer first ∙ went.its) in
          let change : it.was.changes (writer x) table.name (key_of table x.row)
          ≡ Some (told_change table (change_in x)) = changed.there p table x (record {
            of_table = of;
            older = older;
            newest = reads;
            limbo = ap (left_state everyone s.state) mine ∙ limbo;
          }) in
          let nothing_there : newest_at (left ++ own o (e ∷ h) t) table.name (key_of table x.row) ≡ None =
          newest_second left (own o (e ∷ h) t) table.name (key_of table x.row) left_none
          ∙ nothing table.name (key_of table x.row) other lost in
          let never : None ≡ Some (told_change table (change_in x)) = sym nothing_there
          ∙ (sym (changes_are table.name (key_of table x.row))
          ∙ (ap (λ (u : ℕ). it.was.changes u table.name (key_of table x.row)) (sym mine) ∙ change)) in absurd cc

  pub silent : (p : RecId) (table : Table) → has a.catalog.data_pages p.page.0 ≡ false
      → table_at a.tables p.page.0 ≡ Some table → gone (table_key table.name) ≡ true
      → told_versions (left_state everyone s.state) table (r p) ≡ []
  silent p table off is lost = by (r p) refl (before.own_tables p table of) (before.records.each p table of).backs
    where
      of : table_in f p ≡ Some table
      of = rw off is

      other : table.name ≢ catalog_name
      other = other_name form size state pages a r before p.page.0 table is

      -- a version behind would be committed, and nobody committed may stand there
      none_behind : (xs : List Read) → Each (MayStandIn f r cat table) xs
          → Each (λ x. left_state everyone s.state (writer x) ≡ Committed) xs → xs ≡ []
      none_behind [] may backs = refl
      none_behind (x ∷ xs) may backs = absurd (at may.0)
        where
          at : MayStandIn f r cat table x → ⊥
          at (inl named) = other named
          at (inr (inl named)) = never_named table.name lost named
          at (inr (inr (inl dead))) = let both : Dead ≡ Committed = sym dead ∙ backs.0 in absurd cc
          at (inr (inr (inr made))) =
              let both : Limbo ≡ Committed = sym made.limbo.limbo
              ∙ (ap (left_state everyone s.state) made.its_own ∙ backs.0) in absurd cc

      by : (es : List Read) → r p ≡ es → Each (MayStandIn f r cat table) es
          → EachBack (λ x. left_state everyone s.state (writer x) ≡ Committed) es
          → told_versions (left_state everyone s.state) table es ≡ []
      by [] reads may backs = refl
      by (x ∷ xs) reads may backs = at may.0
        where
          at : MayStandIn f r cat table x → told_versions (left_state everyone s.state) table (x ∷ xs) ≡ []
          at (inl named) = absurd (other named)
          at (inr (inl named)) = absurd (never_named table.name lost named)
          at (inr (inr (inl dead))) =
              let gone_ : is_dead (left_state everyone s.state (writer x)) ≡ true = ap is_dead dead in
              ap (λ (ys : List Read). told_versions (left_state everyone s.state) table (x ∷ ys))
              (none_behind xs may.1 backs) ∙ rw gone_ refl
          at (inr (inr (inr made))) = absurd (never_made p table of other lost x xs reads made)
