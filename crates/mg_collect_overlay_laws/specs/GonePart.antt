-- A record goes that ends in a committed deletion: its slot is freed, and then its cells.
use Rattle.std.proofs.Common.{◌≡◌, ◌≢◌, ◌⊎◌, inl, inr, ap, sym, subst, ◌∙◌, refl, ℕ, Bool, true, false, List, [], ◌∷◌, Option, None, Some}
use Rattle.std.proofs.lemmas.Bool.{cases_eq}
use Rattle.mg_base.specs.declared.numbers.RecId.{RecId}
use Rattle.mg_base.specs.declared.transaction.TxState.{TxState}
use Rattle.mg_base.specs.declared.transaction.TxState.TheVariants.{Committed}
use Rattle.mg_careful.specs.CarefulWrite.{Cache, PageSet, Pages}
use Rattle.mg_careful.specs.Precedence.{Orders}
use Rattle.mg_version.specs.declared.cell.Cell.{Cell}
use Rattle.mg_version.specs.declared.cell.Cell.TheVariants as cells
use Rattle.mg_version.specs.declared.cell.Link.{Link}
use Rattle.mg_version.specs.declared.cell.Version.{Version}
use Rattle.mg_model.specs.Answers.{is_committed}
use Rattle.mg_model.specs.declared.opening.Opening.{Opening}
use Rattle.mg_model.specs.declared.table.Table.{Table}
use Rattle.mg_model.specs.History.{Entries}
use Rattle.mg_image.specs.declared.entry.Entry.{Entry}
use Rattle.mg_image.specs.Form.{Form}
use Rattle.mg_image.specs.ReadingLaws.{Opens, chain_opens}
use Rattle.mg_image.specs.RecordRules.{Each, EachBack, Facts, committed_in, table_in}
use Rattle.mg_image.specs.Records.{Chain, Changes, Reading, Stands, cells_of, newest_of, shown, writer}
use Rattle.mg_image.specs.Sound.{IsSoundBy, facts_by}
use Rattle.mg_image.specs.StepLaws.{put_cases, put_reading}
use Rattle.mg_image.specs.Tables.{Layout}
use Rattle.mg_image_overlay_laws.specs.pages.DataPages.{ChangesData}
use Rattle.mg_image_overlay_laws.specs.records.Fronts.{IsFront, living}
use Rattle.mg_image_overlay_laws.specs.records.Thins.{front_thin, thin_stands}
use Rattle.mg_image_overlay_laws.specs.pages.Kinds.{HasNoSequences}
use Rattle.mg_image_overlay_laws.specs.records.QuietVersions.{IsQuiet}
use Rattle.mg_image_overlay_laws.specs.kept.Rest.{LeavesRest, LeavesRests}
use Rattle.mg_image_overlay_laws.specs.pages.Trees.{data_leaves, trees_stay}
use Rattle.mg_image_overlay_laws.specs.kept.KeptImages.{IsKept, keeping}
use Rattle.mg_overlay_laws.specs.BatchLaws.{change_keeps_always}
use Rattle.mg_overlay_laws.specs.Overlays.{ChangesCache, EveryOverlay, KeepsLaidAlways, KeepsNeeds, left_state}
use Rattle.mg_overlay_laws.specs.Views.{LaysPage, first_view, last_view, partly, step_in, step_out}
use Rattle.mg_image_overlay_laws.specs.records.OwnVersion.{in_pool_too}
use Rattle.mg_image_overlay_laws.specs.records.TakeOut.{clear_sound, living_settled}
use Rattle.mg_collect_overlay_laws.specs.Frees.{FreesAll, IsUnread, Places, free_all}
use Rattle.mg_image_overlay_laws.specs.records.PushPart.{cells_alike, cells_laid, page_laid}
use Rattle.mg_image_overlay_laws.specs.records.QuietSteps.{StepsQuietly, quiet_in, quiet_out}

-- A record's slot is freed on its page.
pub record FreesSlot (in_primary : Bool) (old new : Pages) (p : RecId) (l : Link) : Type 0 where
  pub page : ChangesData in_primary old new p.page.0
  pub slot : cells_of old p ≡ Some (cells.Anchor l)
  pub freed : Changes (cells_of old) (cells_of new) p None

-- The record's newest version is a committed deletion, and these cells are those of its versions.
pub record FindsErased (f : Facts) (r : Reading) (p : RecId) (places : Places) : Type 0 where
  pub table : Table
  pub of : table_in f p ≡ Some table
  pub newest : Entry
  pub older : List Entry
  pub first : r p ≡ newest ∷ older
  pub settled : f.state (writer newest) ≡ Committed
  pub deleted : newest.version.deleted ≡ true
  pub its : (y : RecId) → places y ≡ true → Stands (r p) y

front_stands : (state : ℕ → TxState) (ds es : List Entry) (y : RecId) → IsFront state ds es → Stands ds y
    → Stands es y
front_stands state ds es y front there = thin_stands y ds es (front_thin state ds es front) there

-- a committed deletion shows nothing
erased_shows : (f : Facts) (e : Entry) (es : List Entry) → f.state (writer e) ≡ Committed
    → e.version.deleted ≡ true → shown (committed_in f) (e ∷ es) ≡ None
erased_shows f e es settled deleted =
    let counts : committed_in f (writer e) ≡ true = ap is_committed settled in
    rw (counts, deleted) refl

module _ (form : Form) (size : ℕ) (o : Opening) (h : Entries) (state : ℕ → TxState)
    (pool changed image : Pages) (p : RecId) (l : Link) (places : Places)
    (kept : IsKept form size o h state pool image)
    (frees : FreesSlot form.in_primary pool changed p l)
    (finds : FindsErased (facts_by state pool kept.of_pool) kept.in_pool p places)
    (rest : LeavesRests form size p.page.0) where
  abbrev f : Facts
  f = facts_by state pool kept.of_pool

  abbrev g : Facts
  g = facts_by state image kept.layout

  abbrev pool_after : Reading
  pool_after = put_reading kept.in_pool p []

  pool_backs : Each (λ e. state (writer e) ≡ Committed) finds.older
  pool_backs = subst (EachBack (λ e. state (writer e) ≡ Committed)) finds.first
      (kept.pool_sound.records.each p finds.table finds.of).backs

  pool_all : Each (λ e. state (writer e) ≡ Committed) (finds.newest ∷ finds.older)
  pool_all = (finds.settled, pool_backs)

  pool_living : living state (kept.in_pool p) ≡ finds.newest ∷ finds.older
  pool_living = ap (living state) finds.first
      ∙ living_settled state (finds.newest ∷ finds.older) pool_all

  pool_step : StepsQuietly form state size pool changed p.page.0 f kept.in_pool pool_after
  pool_step = record {
    page = frees.page;
    records = clear_sound form.coding f (cells_of pool) (cells_of changed) kept.in_pool p finds.table l None
        kept.pool_sound.records finds.of frees.slot frees.freed refl;
    quiet = put_cases kept.in_pool p [] (λ q fs. IsQuiet f (kept.in_pool q) fs) (inr (record {
      gone = refl;
      hidden = ap (shown (committed_in f)) finds.first
          ∙ erased_shows f finds.newest finds.older finds.settled finds.deleted;
      settled = subst (Each (λ e. state (writer e) ≡ Committed)) (sym pool_living) pool_all;
    })) (λ q ne. inl refl);
  }

  rest_pool : LeavesRest form size pool changed kept.of_pool
  rest_pool = rest state pool changed kept.of_pool kept.in_pool kept.pool_sound frees.page

  unread_in_pool : (y : RecId) → places y ≡ true → (q : RecId) → Stands (pool_after q) y → ⊥
  unread_in_pool y of = put_cases kept.in_pool p [] (λ q fs. Stands fs y → ⊥) (λ none. none)
      (λ q ne there. ne (kept.pool_sound.records.apart q p y there (finds.its y of)))

  gone_out : IsUnread form size o h state changed places false image
  unfolding quiet_out
  gone_out = record {
    kept = quiet_out form size o h state pool changed image p.page.0 kept pool_after pool_step rest_pool;
    pool_unread = unread_in_pool;
    unread = λ is. absurd (no is);
  }
    where
      no : false ≡ true → ⊥
      no is = cc

  module _ (laid_ : Pages) (lays : LaysPage pool changed image laid_ p.page.0) where
    page : ChangesData form.in_primary image laid_ p.page.0
    page = page_laid form.in_primary pool changed image laid_ p.page.0 frees.page lays

    slot_there : cells_of image p ≡ Some (cells.Anchor l)
    slot_there = cells_alike pool image p p.page.0 refl lays.was ∙ frees.slot

    front : IsFront state (finds.newest ∷ finds.older) (living state (kept.reading p))
    front = subst (λ (ds : List Entry). IsFront state ds (living state (kept.reading p))) pool_living
        (kept.fronts.fronts p)

    -- the slot's page is reached, since the overlay has the committed version
    of : table_in g p ≡ Some finds.table
    of = by (table_in g p) refl
      where
        by : (t : Option Table) → table_in g p ≡ t → table_in g p ≡ Some finds.table
        by None out = absurd (subst (λ (es : List Entry).
            IsFront state (finds.newest ∷ finds.older) (living state es)) (kept.sound.records.outside p out) front)
        by (Some other) of_p =
            let in_pool : table_in f p ≡ Some other =
            in_pool_too form size o h state pool image kept p.page.0 other of_p in
            of_p ∙ (sym in_pool ∙ finds.of)

    -- what it has of the record: the same deletion is the newest
    pub record HasErased : Type 0 where
      pub first : Entry
      pub rest_ : List Entry
      pub is : kept.reading p ≡ first ∷ rest_
      pub settled : state (writer first) ≡ Committed

    has_erased : HasErased
    has_erased = by (kept.reading p) refl (chain_opens (cells_of image) (Some l) (kept.reading p)
        (subst (λ (c : Option Cell). Chain (cells_of image) (newest_of p c) (kept.reading p)) slot_there
        (kept.sound.records.reads p finds.table of)))
      where
        pool_opens : Opens (cells_of pool) (Some l) (finds.newest ∷ finds.older)
        pool_opens = chain_opens (cells_of pool) (Some l) (finds.newest ∷ finds.older)
            (subst (Chain (cells_of pool) (Some l)) finds.first
            (subst (λ (c : Option Cell). Chain (cells_of pool) (newest_of p c) (kept.in_pool p)) frees.slot
            (kept.pool_sound.records.reads p finds.table finds.of)))

        by : (es : List Entry) → kept.reading p ≡ es → Opens (cells_of image) (Some l) es → HasErased
        by [] is o = absurd o
        by (e ∷ es) is o = record {
          first = e;
          rest_ = es;
          is = is;
          settled = ap (λ t. state t.0) (o.2 ∙ sym pool_opens.2) ∙ finds.settled;
        }

    all_there : Each (λ e. state (writer e) ≡ Committed) (has_erased.first ∷ has_erased.rest_)
    all_there = (
      has_erased.settled,
      subst (EachBack (λ e. state (writer e) ≡ Committed)) has_erased.is
          (kept.sound.records.each p finds.table of).backs,
    )

    living_there : living state (kept.reading p) ≡ has_erased.first ∷ has_erased.rest_
    living_there = ap (living state) has_erased.is
        ∙ living_settled state (has_erased.first ∷ has_erased.rest_) all_there

    front_there : IsFront state (finds.newest ∷ finds.older) (has_erased.first ∷ has_erased.rest_)
    front_there = subst (IsFront state (finds.newest ∷ finds.older)) living_there front

    hidden : shown (committed_in g) (kept.reading p) ≡ None
    hidden = ap (shown (committed_in g)) has_erased.is
        ∙ erased_shows g has_erased.first has_erased.rest_ has_erased.settled
        (ap (λ (w : Version). w.deleted) front_there.0.version ∙ finds.deleted)

    gone_in : IsUnread form size o h state changed places true laid_
    unfolding quiet_in
    gone_in = record {
      kept = quiet_in form size o h state pool changed image p.page.0 kept pool_after pool_step rest_pool
          laid_ (put_reading kept.reading p []) (record {
            page = page;
            records = clear_sound form.coding g (cells_of image) (cells_of laid_) kept.reading p finds.table
                l None kept.sound.records of slot_there
                (cells_laid pool changed image laid_ p.page.0 p None refl lays frees.freed) refl;
            quiet = put_cases kept.reading p [] (λ q fs. IsQuiet g (kept.reading q) fs) (inr (record {
              gone = refl;
              hidden = hidden;
              settled = subst (Each (λ e. state (writer e) ≡ Committed)) (sym living_there) all_there;
            })) (λ q ne. inl refl);
          })
          (put_cases kept.reading p [] (λ q fs. (living state fs ≡ living state (kept.reading q))
          ⊎ (living state (pool_after q) ≡ [])) (inr pool_none) (λ q ne. inl refl))
          (rest state image laid_ kept.layout kept.reading kept.sound page);
      pool_unread = unread_in_pool;
      unread = λ is y of_y. put_cases kept.reading p [] (λ q fs. Stands fs y → ⊥) (λ none. none)
          (λ q ne there. ne (kept.sound.records.apart q p y there (stands_there y of_y)));
    }
      where
        pool_none : living state (pool_after p) ≡ []
        pool_none = put_cases kept.in_pool p [] (λ q fs. q ≡ p → living state fs ≡ []) (λ same. refl)
            (λ q ne same. absurd (ne same)) p refl

        stands_there : (y : RecId) → places y ≡ true → Stands (kept.reading p) y
        stands_there y of_y = subst (λ (es : List Entry). Stands es y) (sym has_erased.is)
            (front_stands state (finds.newest ∷ finds.older) (has_erased.first ∷ has_erased.rest_) y front_there
            (subst (λ (es : List Entry). Stands es y) finds.first (finds.its y of_y)))

-- ---- the batch

-- a record goes that ends in a committed deletion, by nobody's work: every overlay is kept
abbrev pub GoneKeeps : Form → Type 0
GoneKeeps form = (size : ℕ) (o : Opening) (h : Entries) (state : ℕ → TxState)
    (old new : Cache) (mid : Pages) (gone : PageSet) (batch : ℕ → Option (List ℕ)) (orders : Orders)
    (needs now : ℕ → PageSet) (p : RecId) (l : Link) (places : Places)
    → ChangesCache old new gone batch orders → KeepsNeeds old gone needs now
    -- the pages and their orders
    → FreesSlot form.in_primary old.pool mid p l → batch p.page.0 ≢ None
    → FreesAll form.in_primary orders p.page.0 places mid new.pool
    -- the record, whoever is chosen
    → ((chosen : ℕ → Bool) (layout : Layout) (r : Reading)
    → IsSoundBy form size (left_state chosen state) old.pool layout r
    → FindsErased (facts_by (left_state chosen state) old.pool layout) r p places)
    → EveryOverlay (keeping form size o h) state old needs
    → EveryOverlay (keeping form size o h) state new now

pub gone_every : (form : Form) → HasNoSequences form → GoneKeeps form
gone_every form none size o h state old new mid gone batch orders needs now p l places changes left frees
    in_batch free_cells finds every =
    change_keeps_always (keeping form size o h) (keeping form size o h) state old new gone batch orders
    needs now changes left part every
  where
    rest : (n : ℕ) → LeavesRests form size n
    rest n = data_leaves form size n none (trees_stay form size)

    part : KeepsLaidAlways (keeping form size o h) (keeping form size o h) state old.pool new.pool batch orders
    part chosen set_ image lays of_pool kept = subst
        (IsKept form size o h (left_state chosen state) new.pool)
        (last_view old.pool new.pool batch orders set_ image lays)
        (free_all form size o h (left_state chosen state) orders places set_ image p.page.0 rest with_page mid
        new.pool free_cells (by (set_ p.page.0) refl)).kept
      where
        start : IsKept form size o h (left_state chosen state) old.pool (partly set_ old.pool image)
        start = subst (IsKept form size o h (left_state chosen state) old.pool)
            (sym (first_view old.pool new.pool batch orders set_ image lays)) kept

        finds_it : FindsErased (facts_by (left_state chosen state) old.pool start.of_pool) start.in_pool p
            places
        finds_it = finds chosen start.of_pool start.in_pool start.pool_sound

        with_page : (n : ℕ) → (n ≢ p.page.0 → orders p.page.0 n ≡ true) → set_ n ≡ true
            → set_ p.page.0 ≡ true
        with_page n ordered in_set = at (cases_eq n p.page.0)
          where
            at : (n ≡ p.page.0) ⊎ (n ≢ p.page.0) → set_ p.page.0 ≡ true
            at (inl same) = sym (ap set_ same) ∙ in_set
            at (inr ne) = lays.together p.page.0 n (ordered ne) in_batch in_set

        by : (c : Bool) → set_ p.page.0 ≡ c
            → IsUnread form size o h (left_state chosen state) mid places (set_ p.page.0)
            (partly set_ mid image)
        by true in_set = subst (λ (c : Bool). IsUnread form size o h (left_state chosen state) mid places c
            (partly set_ mid image)) (sym in_set)
            (gone_in form size o h (left_state chosen state) old.pool mid (partly set_ old.pool image) p l
            places start frees finds_it (rest p.page.0) (partly set_ mid image)
            (step_in set_ old.pool mid image p.page.0 frees.page.others in_set))
        by false out = subst (λ (c : Bool). IsUnread form size o h (left_state chosen state) mid places c
            (partly set_ mid image)) (sym out)
            (subst (IsUnread form size o h (left_state chosen state) mid places false)
            (sym (step_out set_ old.pool mid image p.page.0 frees.page.others out))
            (gone_out form size o h (left_state chosen state) old.pool mid (partly set_ old.pool image) p l
            places start frees finds_it (rest p.page.0)))
