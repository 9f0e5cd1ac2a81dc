-- Batches that take rows of the catalog out leave and take what the law of pages without tables wants.
use Rattle.std.proofs.Common.{◌≡◌, ◌≢◌, ◌⊎◌, inl, inr, refl, sym, ap, ◌∙◌, subst, arith, ◌||◌, ℕ, Bool, true, false, List, [], ◌∷◌, Some}
use Rattle.std.proofs.lemmas.Bool.{eq-eqb}
use Rattle.std.specs.Ordering.{is_eq}
use Rattle.std.proofs.lemmas.Cmp.{tied_itself}
use Rattle.mg_value.specs.OrderLaws.{value_cmp_total}
use Rattle.mg_base.specs.Fields.{byte}
use Rattle.mg_base.specs.Image.{Image}
use Rattle.mg_base.specs.declared.numbers.RecId.{RecId}
use Rattle.mg_base.specs.declared.transaction.TxState.{TxState}
use Rattle.mg_base.specs.declared.transaction.TxState.TheVariants.{Active, Dead, Limbo}
use Rattle.mg_value.specs.declared.value.Value.{Value}
use Rattle.mg_model.specs.declared.opening.Opening.{Opening}
use Rattle.mg_model.specs.declared.table.Table.{Table}
use Rattle.mg_model.specs.Changes.{same_key}
use Rattle.mg_model.specs.History.{Entries}
use Rattle.mg_model.specs.Machine.{own}
use Rattle.mg_model.specs.RowLaws.{same_from_same_key}
use Rattle.mg_engine_step_laws.specs.writes.GoesOnLaws.{pool_is_kept}
use Rattle.mg_engine_step_laws.specs.tables.SameRecords.{catalog_stands, same_catalog, same_record}
use Rattle.mg_tie_laws.specs.Batches.{within_self}
use Rattle.mg_image.specs.declared.entry.Entry.{Entry}
use Rattle.mg_image.specs.Form.{Form, Pages}
use Rattle.mg_image.specs.Indexes.{EachPage}
use Rattle.mg_image.specs.ReadingLaws.{RowsAreOne}
use Rattle.mg_image.specs.RecordRules.{Facts, TakesKey, table_in}
use Rattle.mg_image.specs.Records.{Reading, key_of, record_key, writer}
use Rattle.mg_image.specs.Sound.{IsSoundBy, facts_by}
use Rattle.mg_image.specs.StepLaws.{cases_place, same_place}
use Rattle.mg_image.specs.Tables.{Layout, Stand, has, stands_of, table_at}
use Rattle.mg_image_overlay_laws.specs.pages.DataPages.{kind_of}
use Rattle.mg_image_overlay_laws.specs.pages.DataSound.{KeepsTrees}
use Rattle.mg_image_overlay_laws.specs.pages.Kinds.{HasNoSequences}
use Rattle.mg_image_overlay_laws.specs.kept.KeptImages.{IsKept}
use Rattle.mg_image_overlay_laws.specs.pages.Trees.{trees_stay}
use Rattle.mg_overlay_laws.specs.Overlays.{left_state, without}
use Rattle.mg_image_overlay_laws.specs.names.Creating.{without_raises}
use Rattle.mg_pool.specs.Batch.{Changed, content_in, lists}
use Rattle.mg_pool.specs.Pool.{shown}
use Rattle.mg_pool.specs.declared.pool.Pool.{Pool}
use Rattle.mg_pool_overlay_laws.specs.Needs.{Asked, Sessions}
use Rattle.mg_space.specs.View.{viewed}
use Rattle.mg_tie_laws.specs.Changed.{KeptIn, fresh}
use Rattle.mg_image_overlay_laws.specs.tables.Growing.{IsTableOf}
use Rattle.mg_image_overlay_laws.specs.tables.OneChain.{same_stand}
use Rattle.mg_image_overlay_laws.specs.tables.OneLayout.{sound_once}
use Rattle.mg_engine_step_laws.specs.tables_back.CatalogPages.{ChangesCatalogPages, catalog_page_named, changes_join, changes_none}
use Rattle.mg_engine_step_laws.specs.tables_back.Outs.{GoesWhole, OutsThere, ReadsWithout, RowsGone, TakesRowAway, is_among}
use Rattle.mg_engine_step_laws.specs.tables_back.OutsLaws.{out_pages, out_there}
use Rattle.mg_engine_step_laws.specs.tables_back.Taken.{HasGone, IsLeft, LeavesTables, TakesRows}
use Rattle.mg_engine_step_laws.specs.tables_back.TakenNames.{catalog_page}
use Rattle.mg_engine_step_laws.specs.tables_back.Whole.{GoWhole}
use Rattle.mg_engine_step_laws.specs.tables_back.WholeLaws.{gone_are_whole}

-- ---- keys

among_here : (k : Value) (keys : List Value) (key : Value) → same_key k key ≡ true → is_among (k ∷ keys) key ≡ true
among_here k keys key is = rw is refl

pub same_itself : (key : Value) → same_key key key ≡ true
same_itself key = ap is_eq (tied_itself value_cmp_total key)

among_cases : (k : Value) (keys : List Value) (key : Value) → is_among (k ∷ keys) key ≡ true
    → (k ≡ key) ⊎ (is_among keys key ≡ true)
among_cases k keys key is = at (same_key k key) refl is
  where
    at : (b : Bool) → same_key k key ≡ b → (b || is_among keys key) ≡ true → (k ≡ key) ⊎ (is_among keys key ≡ true)
    at true same is_ = inl (same_from_same_key k key same)
    at false off is_ = inr is_

-- ---- rows that go

-- one row, in a batch of its own
module _ (form : Form) (one : RowsAreOne form.coding) (none : HasNoSequences form)
    (no_primary : form.in_primary ≡ false) {D L : Type 0} (store : Pool D L) (image : Image) (o : Opening) (h : Entries)
    (state : ℕ → TxState) (by : ℕ) (key : Value) (batch : Changed)
    (away : TakesRowAway form store image state by key batch) (active : state by ≡ Active) (chosen : ℕ → Bool)
    (off : chosen by ≡ false)
    (start : IsKept form store.geometry.size o h (left_state chosen state) (shown store.dirty image)
    (shown store.dirty image)) (c : Layout) (rc : Reading)
    (sound : IsSoundBy form store.geometry.size (left_state chosen state) (viewed store image batch) c rc) where
  abbrev rec : RecId
  rec = away.rec

  gone_ : left_state chosen state away.out.was.tx.0 ≡ Dead
  gone_ = ap (left_state chosen state) away.its ∙ rw (off, active) refl

  placed_here : (layout : Layout) (r : Reading)
      → IsSoundBy form store.geometry.size (left_state chosen state) (viewed store image fresh) layout r
      → table_at (stands_of layout) away.rec.page.0 ≡ Some away.table
  placed_here layout r its = away.placed chosen off layout r its

  step : (start.of_pool ≡ c) × GoesWhole away.out.was.tx.0 (start.in_pool away.rec) (rc away.rec)
      × ((p : RecId) → p ≢ away.rec → rc p ≡ start.in_pool p)
  step = out_there form one none no_primary store image (left_state chosen state) o h (content_in batch.pages)
      (lists batch.orders) fresh batch away.rec away.table away.out gone_ placed_here (within_self batch) start away.first
      c rc sound

  on : (has start.of_pool.catalog.data_pages away.rec.page.0 ≡ true) × (start.of_pool.catalog.table ≡ away.table)
  on = catalog_page_named form store.geometry.size (left_state chosen state) (shown store.dirty image) start.of_pool
      start.in_pool start.pool_sound away.rec.page.0 away.table
      (placed_here start.of_pool start.in_pool start.pool_sound) away.catalog

  keyed : record_key start.of_pool.catalog.table (start.in_pool away.rec) ≡ key
  keyed = ap (λ (x : Table). record_key x (start.in_pool away.rec)) on.1
      ∙ away.keyed chosen off start.of_pool start.in_pool start.pool_sound

  went : GoesWhole by (start.in_pool away.rec) (rc away.rec)
  went = subst (λ (u : ℕ). GoesWhole u (start.in_pool away.rec) (rc away.rec)) away.its step.1

  each : (p : RecId) → ((p ≡ away.rec) × (same_place p away.rec ≡ true)) ⊎ ((p ≢ away.rec) × (same_place p away.rec ≡ false))
      → (rc p ≡ start.in_pool p) ⊎ (GoesWhole by (start.in_pool p) (rc p)
      × (is_among (key ∷ []) (record_key start.of_pool.catalog.table (start.in_pool p)) ≡ true))
  each p (inl (e, is)) = inr (
    subst (λ (q : RecId). GoesWhole by (start.in_pool q) (rc q)) (sym e) went,
    ap (λ (q : RecId). is_among (key ∷ []) (record_key start.of_pool.catalog.table (start.in_pool q))) e
        ∙ (ap (is_among (key ∷ [])) keyed ∙ among_here key [] key (same_itself key)),
  )
  each p (inr (ne, is)) = inl (step.2 p ne)

  whole : (k : Value) → (key ≡ k) ⊎ (is_among [] k ≡ true)
      → (p : RecId) × (has start.of_pool.catalog.data_pages p.page.0 ≡ true)
      × (record_key start.of_pool.catalog.table (start.in_pool p) ≡ k) × GoesWhole by (start.in_pool p) (rc p)
  whole k (inl e) = (away.rec, on.0, keyed ∙ e, went)
  whole k (inr never) = absurd cc

  pub row_read : (start.of_pool ≡ c) × ReadsWithout by (key ∷ []) start.of_pool start.in_pool rc
      × ChangesCatalogPages store.geometry.size (shown store.dirty image) (viewed store image batch) start.of_pool
  row_read = (
    step.0,
    record {
      each = λ p. each p (cases_place p away.rec);
      whole = λ k is. whole k (among_cases key [] k is);
    },
    out_pages form one none no_primary store image (left_state chosen state) o h (content_in batch.pages)
        (lists batch.orders) fresh batch away.rec away.table away.out gone_ placed_here (within_self batch) start
        away.catalog,
  )

pub row_gone : (form : Form) → RowsAreOne form.coding → HasNoSequences form → form.in_primary ≡ false → {D L : Type 0}
    → (store : Pool D L) (image : Image) (o : Opening) (h : Entries) (state : ℕ → TxState) (by : ℕ) (key : Value)
    (batch : Changed) → TakesRowAway form store image state by key batch → state by ≡ Active
    → RowsGone form store.geometry.size o h state by (key ∷ []) (shown store.dirty image) (viewed store image batch)
row_gone form one none no_primary store image o h state by key batch away active chosen off start c rc sound =
    row_read form one none no_primary store image o h state by key batch away active chosen off start c rc sound

-- no batch at all
pub none_gone : (form : Form) → RowsAreOne form.coding → HasNoSequences form → (size : ℕ) (o : Opening) (h : Entries)
    (state : ℕ → TxState) (by : ℕ) (pages : Pages) → RowsGone form size o h state by [] pages pages
none_gone form one none size o h state by pages chosen off start c rc sound = (
  same.0,
  record { each = λ p. inl (ap (λ (s : Reading). s p) (sym same.1)); whole = λ key is. absurd (never is) },
  changes_none size pages start.of_pool,
)
  where
    same : (start.of_pool ≡ c) × (start.in_pool ≡ rc)
    same = sound_once form one none size (left_state chosen state) pages start.of_pool c start.in_pool rc
        start.pool_sound sound

    never : false ≡ true → ⊥
    never is = cc

-- records that go in turn
module _ (by : ℕ) (its others keys : List Value)
    (both : (key : Value) → is_among keys key ≡ (is_among its key || is_among others key)) (d : Layout)
    (r mid rc : Reading) (first : ReadsWithout by its d r mid) (then_ : ReadsWithout by others d mid rc) where
  in_first : (key : Value) → is_among its key ≡ true → is_among keys key ≡ true
  in_first key is = both key ∙ rw is refl

  in_later : (key : Value) → is_among others key ≡ true → is_among keys key ≡ true
  in_later key is = both key ∙ (ap (λ (b : Bool). is_among its key || b) is ∙ or_true (is_among its key))
    where
      or_true : (b : Bool) → (b || true) ≡ true
      or_true true = refl
      or_true false = refl

  cases : (key : Value) → is_among keys key ≡ true → (is_among its key ≡ true) ⊎ (is_among others key ≡ true)
  cases key is = at (is_among its key) refl (sym (both key) ∙ is)
    where
      at : (b : Bool) → is_among its key ≡ b → (b || is_among others key) ≡ true
          → (is_among its key ≡ true) ⊎ (is_among others key ≡ true)
      at true on is_ = inl on
      at false off is_ = inr is_

  -- what has gone stays so, and goes once
  first_stays : (p : RecId) → GoesWhole by (r p) (mid p) → GoesWhole by (r p) (rc p)
  first_stays p went = at (then_.each p)
    where
      at : (rc p ≡ mid p) ⊎ (GoesWhole by (mid p) (rc p) × (is_among others (record_key d.catalog.table (mid p)) ≡ true))
          → GoesWhole by (r p) (rc p)
      at (inl same) = record {
        version = went.version;
        alone = went.alone;
        its = went.its;
        none = same ∙ went.none;
      }
      at (inr (again_, k)) = let both_ : [] ≡ again_.version ∷ [] = sym went.none ∙ again_.alone in absurd cc

  later_there : (p : RecId) → GoesWhole by (mid p) (rc p) → mid p ≡ r p
  later_there p went = at (first.each p)
    where
      at : (mid p ≡ r p) ⊎ (GoesWhole by (r p) (mid p) × (is_among its (record_key d.catalog.table (r p)) ≡ true))
          → mid p ≡ r p
      at (inl same) = same
      at (inr (before, k)) = let both_ : [] ≡ went.version ∷ [] = sym before.none ∙ went.alone in absurd cc

  later_went : (p : RecId) → GoesWhole by (mid p) (rc p) → GoesWhole by (r p) (rc p)
  later_went p went = subst (λ (es : List Entry). GoesWhole by es (rc p)) (later_there p went) went

  later_key : (p : RecId) → GoesWhole by (mid p) (rc p)
      → record_key d.catalog.table (mid p) ≡ record_key d.catalog.table (r p)
  later_key p went = ap (record_key d.catalog.table) (later_there p went)

  each_join : (p : RecId) → (rc p ≡ r p)
      ⊎ (GoesWhole by (r p) (rc p) × (is_among keys (record_key d.catalog.table (r p)) ≡ true))
  each_join p = at (first.each p) (then_.each p)
    where
      at : (mid p ≡ r p) ⊎ (GoesWhole by (r p) (mid p) × (is_among its (record_key d.catalog.table (r p)) ≡ true))
          → (rc p ≡ mid p) ⊎ (GoesWhole by (mid p) (rc p) × (is_among others (record_key d.catalog.table (mid p)) ≡ true))
          → (rc p ≡ r p) ⊎ (GoesWhole by (r p) (rc p) × (is_among keys (record_key d.catalog.table (r p)) ≡ true))
      at (inr (went, k)) also = inr (first_stays p went, in_first (record_key d.catalog.table (r p)) k)
      at (inl same) (inl still) = inl (still ∙ same)
      at (inl same) (inr (went, k)) = inr (
        later_went p went,
        in_later (record_key d.catalog.table (r p)) (sym (ap (is_among others) (later_key p went)) ∙ k),
      )

  whole_join : (key : Value) → is_among keys key ≡ true → (p : RecId) × (has d.catalog.data_pages p.page.0 ≡ true)
      × (record_key d.catalog.table (r p) ≡ key) × GoesWhole by (r p) (rc p)
  whole_join key is = at (cases key is)
    where
      at : (is_among its key ≡ true) ⊎ (is_among others key ≡ true)
          → (p : RecId) × (has d.catalog.data_pages p.page.0 ≡ true)
          × (record_key d.catalog.table (r p) ≡ key) × GoesWhole by (r p) (rc p)
      at (inl here) = let (p, there, keyed, went) = first.whole key here in (p, there, keyed, first_stays p went)
      at (inr later) = let (p, there, keyed, went) = then_.whole key later in
          (p, there, sym (later_key p went) ∙ keyed, later_went p went)

  pub reads_join : ReadsWithout by keys d r rc
  reads_join = record { each = each_join; whole = whole_join }

-- one batch after another
pub gone_join : (form : Form) (size : ℕ) (o : Opening) (h mid_h : Entries) (state : ℕ → TxState) (by : ℕ)
    (its others keys : List Value) (old mid new : Pages)
    → ((key : Value) → is_among keys key ≡ (is_among its key || is_among others key))
    → RowsGone form size o h state by its old mid → RowsGone form size o mid_h state by others mid new
    → ((chosen : ℕ → Bool) → chosen by ≡ false → IsKept form size o mid_h (left_state chosen state) mid mid)
    → RowsGone form size o h state by keys old new
gone_join form size o h mid_h state by its others keys old mid new both first then_ kept chosen off start c rc sound = (
  one_.0 ∙ two.0,
  reads_join by its others keys both start.of_pool start.in_pool (kept chosen off).in_pool rc one_.1
      (subst (λ (l : Layout). ReadsWithout by others l (kept chosen off).in_pool rc) (sym one_.0) two.1),
  changes_join size old mid new start.of_pool one_.2
      (subst (ChangesCatalogPages size mid new) (sym one_.0) two.2),
)
  where
    one_ : (start.of_pool ≡ (kept chosen off).of_pool)
        × ReadsWithout by its start.of_pool start.in_pool (kept chosen off).in_pool
        × ChangesCatalogPages size old mid start.of_pool
    one_ = first chosen off start (kept chosen off).of_pool (kept chosen off).in_pool (kept chosen off).pool_sound

    two : ((kept chosen off).of_pool ≡ c) × ReadsWithout by others (kept chosen off).of_pool (kept chosen off).in_pool rc
        × ChangesCatalogPages size mid new (kept chosen off).of_pool
    two = then_ chosen off (kept chosen off) c rc sound

-- ---- the law

no_page : (form : Form) (pages : Pages) → HasNoSequences form → (ns : List ℕ)
    → EachPage (λ n. form.sequence_page (pages n) n) ns → ns ≡ []
no_page form pages none [] each = refl
no_page form pages none (n ∷ ns) each = absurd (none (pages n) n each.0)

module _ (form : Form) (one : RowsAreOne form.coding) (none : HasNoSequences form)
    (no_primary : form.in_primary ≡ false) (D L : Type 0) (store : Pool D L) (image : Image) (o : Opening) (h : Entries)
    (state : ℕ → TxState) (by : ℕ) (keys : List Value) (new : Pages) (asked : Asked) (session : Sessions)
    (active : state by ≡ Active) (gone : RowsGone form store.geometry.size o h state by keys (shown store.dirty image) new)
    (goes : GoWhole (own o h by) (is_among keys))
    (kept : KeptIn form store.geometry.size o h state asked session store image) (chosen : ℕ → Bool)
    (on : chosen by ≡ true)
    (was : IsKept form store.geometry.size o h (left_state chosen state) (shown store.dirty image)
    (shown store.dirty image)) (c : Layout) (rc : Reading)
    (sound : IsSoundBy form store.geometry.size (left_state (without by chosen) state) new c rc)
  where
    abbrev size : ℕ
    size = store.geometry.size

    abbrev old : Pages
    old = shown store.dirty image

    abbrev now : ℕ → TxState
    now = left_state chosen state

    abbrev then_ : ℕ → TxState
    then_ = left_state (without by chosen) state

    start : IsKept form store.geometry.size o h (left_state (without by chosen) state) (shown store.dirty image)
        (shown store.dirty image)
    start = pool_is_kept form D L size o h state asked session store image (without by chosen) kept

    off : without by chosen by ≡ false
    off = rw (eq-eqb by by refl) refl

    limbo : left_state chosen state by ≡ Limbo
    limbo = (without_raises state by chosen active on).limbo

    goes_ : (start.of_pool ≡ c) × ReadsWithout by keys start.of_pool start.in_pool rc
        × ChangesCatalogPages store.geometry.size (shown store.dirty image) new start.of_pool
    goes_ = gone (without by chosen) off start c rc sound

    reads : ReadsWithout by keys start.of_pool start.in_pool rc
    reads = goes_.1

    changes : ChangesCatalogPages store.geometry.size (shown store.dirty image) new start.of_pool
    changes = goes_.2

    abbrev cat : Table
    cat = was.layout.catalog.table

    abbrev f : Facts
    f = facts_by (left_state chosen state) (shown store.dirty image) was.layout

    one_table : was.layout.catalog.table ≡ start.of_pool.catalog.table
    one_table = same_catalog form size now then_ old was.layout start.of_pool was.reading start.in_pool was.sound
        start.pool_sound

    one_stand : was.layout.catalog ≡ start.of_pool.catalog
    one_stand = same_stand form.in_primary size old was.layout.catalog start.of_pool.catalog was.sound.tables.0
        start.pool_sound.tables.0 one_table

    one_page : (n : ℕ) → has start.of_pool.catalog.data_pages n ≡ has was.layout.catalog.data_pages n
    one_page n = ap (λ (s : Stand). has s.data_pages n) (sym one_stand)

    in_start : IsTableOf start.of_pool was.layout.catalog.table
    in_start = subst (IsTableOf start.of_pool) (sym one_table) (catalog_stands start.of_pool)

    of_catalog : (n : ℕ) → has was.layout.catalog.data_pages n ≡ true
        → table_at (stands_of was.layout) n ≡ Some was.layout.catalog.table
    of_catalog n is = rw is refl

    one_record : (p : RecId) → has was.layout.catalog.data_pages p.page.0 ≡ true → was.reading p ≡ start.in_pool p
    one_record p is = same_record form one size now then_ old was.layout start.of_pool was.reading start.in_pool was.sound
        start.pool_sound cat (catalog_stands was.layout) in_start p (of_catalog p.page.0 is)

    -- ---- pages

    header : new 0 ≡ shown store.dirty image 0
    header = at (changes.each 0)
      where
        first : byte (shown store.dirty image 0) 0 ≡ 1
        first = kind_of (old 0) 0 1 0 0 _ was.sound.header.fields

        at : (new 0 ≡ shown store.dirty image 0)
            ⊎ ((has start.of_pool.catalog.data_pages 0 ≡ true) × (byte (shown store.dirty image 0) 0 ≡ 5))
            → new 0 ≡ shown store.dirty image 0
        at (inl same) = same
        at (inr (there, five)) = absurd (omega (arith, first, five))

    left : (m : ℕ) → has was.layout.catalog.data_pages m ≡ false → new m ≡ shown store.dirty image m
    left m out = at (changes.each m)
      where
        at : (new m ≡ shown store.dirty image m)
            ⊎ ((has start.of_pool.catalog.data_pages m ≡ true) × (byte (shown store.dirty image m) 0 ≡ 5))
            → new m ≡ shown store.dirty image m
        at (inl same) = same
        at (inr (there, five)) = let both : false ≡ true = sym out ∙ (sym (one_page m) ∙ there) in absurd cc

    trees : KeepsTrees (shown store.dirty image) new store.geometry.size was.layout
    trees = trees_stay form size now old new was.layout was.reading was.sound (λ m is. changes.used m ∙ is)
        (λ m linked seven. at m seven (changes.each m))
      where
        at : (m : ℕ) → byte (shown store.dirty image m) 0 ≡ 7 → (new m ≡ shown store.dirty image m)
            ⊎ ((has start.of_pool.catalog.data_pages m ≡ true) × (byte (shown store.dirty image m) 0 ≡ 5))
            → new m ≡ shown store.dirty image m
        at m seven (inl same) = same
        at m seven (inr (there, five)) = absurd (omega (arith, seven, five))

    leaves : LeavesTables store.geometry.size (shown store.dirty image) new was.layout c
    leaves = record {
      header = header;
      used = λ m is. changes.used m ∙ is;
      tips = changes.tips;
      catalog = ap (λ (l : Layout). l.catalog) (sym goes_.0) ∙ sym one_stand;
      sequences = no_page form new none c.sequences sound.sequences
          ∙ sym (no_page form old none was.layout.sequences was.sound.sequences);
      left = left;
      trees = trees;
    }

    -- ---- records

    -- a record of the catalog whose key has gone is the one that was taken out
    its_place : (p : RecId) → has was.layout.catalog.data_pages p.page.0 ≡ true → TakesKey f (was.reading p)
        → is_among keys (record_key cat (was.reading p)) ≡ true → GoesWhole by (was.reading p) (rc p)
    its_place p here takes_ lost = at (reads.whole (record_key cat (was.reading p)) lost)
      where
        at : (q : RecId) × (has start.of_pool.catalog.data_pages q.page.0 ≡ true)
            × (record_key start.of_pool.catalog.table (start.in_pool q) ≡ record_key cat (was.reading p))
            × GoesWhole by (start.in_pool q) (rc q) → GoesWhole by (was.reading p) (rc p)
        at (q, there, key, went) = subst (λ (x : RecId). GoesWhole by (was.reading x) (rc x)) (sym same)
            (subst (λ (es : List Entry). GoesWhole by es (rc q)) (sym q_reads) went)
          where
            q_on : has was.layout.catalog.data_pages q.page.0 ≡ true
            q_on = sym (one_page q.page.0) ∙ there

            q_reads : was.reading q ≡ start.in_pool q
            q_reads = one_record q q_on

            q_limbo : left_state chosen state (writer went.version) ≡ Limbo
            q_limbo = ap (left_state chosen state) went.its ∙ limbo

            q_takes : TakesKey f (was.reading q)
            q_takes = subst (λ (es : List Entry). TakesKey f es) (sym (q_reads ∙ went.alone)) (inr q_limbo)

            same : p ≡ q
            same = was.sound.records.keys p q cat (of_catalog p.page.0 here) (of_catalog q.page.0 q_on) takes_ q_takes
                (sym key ∙ (ap (λ (x : Table). record_key x (start.in_pool q)) (sym one_table)
                ∙ ap (record_key cat) (sym q_reads)))

    each_out : (p : RecId) → has was.layout.catalog.data_pages p.page.0 ≡ true
        → HasGone (is_among keys) was.layout.catalog.table by (was.reading p) (rc p)
        ⊎ IsLeft (is_among keys) (facts_by (left_state chosen state) (shown store.dirty image) was.layout)
        was.layout.catalog.table (was.reading p) (rc p)
    each_out p here = at (reads.each p)
      where
        still : rc p ≡ start.in_pool p → TakesKey f (was.reading p) → (b : Bool)
            → is_among keys (record_key cat (was.reading p)) ≡ b
            → is_among keys (record_key cat (was.reading p)) ≡ false
        still same takes_ false is = is
        still same takes_ true is =
            let went : GoesWhole by (was.reading p) (rc p) = its_place p here takes_ is in
            let both : [] ≡ went.version ∷ [] = sym went.none ∙ (same ∙ (sym (one_record p here) ∙ went.alone)) in absurd cc

        at : (rc p ≡ start.in_pool p) ⊎ (GoesWhole by (start.in_pool p) (rc p)
            × (is_among keys (record_key start.of_pool.catalog.table (start.in_pool p)) ≡ true))
            → HasGone (is_among keys) was.layout.catalog.table by (was.reading p) (rc p)
            ⊎ IsLeft (is_among keys) (facts_by (left_state chosen state) (shown store.dirty image) was.layout)
            was.layout.catalog.table (was.reading p) (rc p)
        at (inl same) = inr (record {
          same = same ∙ sym (one_record p here);
          keyed = λ takes_. still same takes_ (is_among keys (record_key cat (was.reading p))) refl;
        })
        at (inr (went, key)) = inl (record {
          version = went.version;
          alone = one_record p here ∙ went.alone;
          its = went.its;
          none = went.none;
          keyed = ap (λ (es : List Entry). is_among keys (record_key cat es)) (one_record p here)
              ∙ (ap (λ (x : Table). is_among keys (record_key x (start.in_pool p))) one_table ∙ key);
        })

    alone : (p : RecId) (e : Entry) (older : List Entry)
        → table_in (facts_by (left_state chosen state) (shown store.dirty image) was.layout) p
        ≡ Some was.layout.catalog.table → was.reading p ≡ e ∷ older → writer e ≡ by
        → is_among keys (key_of was.layout.catalog.table e.row) ≡ true → older ≡ []
    alone p e older of is its lost =
        let here : has was.layout.catalog.data_pages p.page.0 ≡ true =
        catalog_page form size now old was.layout was.reading was.sound p.page.0 of in
        let takes_ : TakesKey f (was.reading p) = subst (λ (es : List Entry). TakesKey f es) (sym is)
        (inr (ap (left_state chosen state) its ∙ limbo)) in
        let went : GoesWhole by (was.reading p) (rc p) =
        its_place p here takes_ (ap (λ (es : List Entry). is_among keys (record_key cat es)) is ∙ lost) in
        let both : e ∷ older ≡ went.version ∷ [] = sym is ∙ went.alone in cc

    pub outs_leave : LeavesTables store.geometry.size (shown store.dirty image) new was.layout c
        × TakesRows by was.layout (facts_by (left_state chosen state) (shown store.dirty image) was.layout) was.reading rc
        (is_among keys)
    outs_leave = (
      leaves,
      record {
        each = each_out;
        whole = gone_are_whole form size o h now by old was (is_among keys) limbo goes alone;
      },
    )

pub outs_there : (form : Form) → RowsAreOne form.coding → HasNoSequences form → form.in_primary ≡ false → (D L : Type 0)
    → OutsThere form D L
outs_there form one none no_primary D L store image o h state by keys new asked session active gone goes kept chosen on was
    c rc sound = outs_leave form one none no_primary D L store image o h state by keys new asked session active gone goes
    kept chosen on was c rc sound
