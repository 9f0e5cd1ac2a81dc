-- A committed version of a record comes to lead past some of those behind it, or nowhere, and then cells of those are
-- freed.
use Rattle.std.proofs.Common.{◌≡◌, ◌≢◌, ◌⊎◌, inl, inr, ap, sym, subst, ◌∙◌, refl, ℕ, Bool, true, false, List, Option, None, Some}
use Rattle.std.proofs.lemmas.Bool.{cases_eq}
use Rattle.mg_base.specs.declared.numbers.RecId.{RecId}
use Rattle.mg_base.specs.declared.transaction.TxState.{TxState}
use Rattle.mg_careful.specs.CarefulWrite.{Cache, PageSet, Pages}
use Rattle.mg_careful.specs.Precedence.{Orders}
use Rattle.mg_version.specs.declared.cell.Link.{Link}
use Rattle.mg_version.specs.declared.cell.Version.{Version}
use Rattle.mg_model.specs.declared.opening.Opening.{Opening}
use Rattle.mg_model.specs.declared.table.Table.{Table}
use Rattle.mg_model.specs.History.{Entries}
use Rattle.mg_image.specs.Form.{Form}
use Rattle.mg_image.specs.RecordRules.{Facts, table_in}
use Rattle.mg_image.specs.Records.{Reading, Stands, cells_of}
use Rattle.mg_image.specs.Sound.{IsSoundBy, facts_by}
use Rattle.mg_image.specs.Tables.{Layout}
use Rattle.mg_image_overlay_laws.specs.records.SkipFronts.{unread as skip_unread}
use Rattle.mg_image_overlay_laws.specs.records.Skips.{IsCommittedAt, LeadsInto, before, behind}
use Rattle.mg_image_overlay_laws.specs.records.Fronts.{HasFronts, living}
use Rattle.mg_image_overlay_laws.specs.pages.Kinds.{HasNoSequences}
use Rattle.mg_image_overlay_laws.specs.kept.Rest.{LeavesRest, LeavesRests}
use Rattle.mg_image_overlay_laws.specs.pages.Trees.{data_leaves, trees_stay}
use Rattle.mg_image_overlay_laws.specs.kept.KeptImages.{IsKept, keeping}
use Rattle.mg_image_overlay_laws.specs.records.Thins.{front_self}
use Rattle.mg_overlay_laws.specs.BatchLaws.{change_keeps_always}
use Rattle.mg_overlay_laws.specs.Overlays.{ChangesCache, EveryOverlay, KeepsLaidAlways, KeepsNeeds, left_state}
use Rattle.mg_overlay_laws.specs.Views.{LaysPage, first_view, last_view, partly, step_in, step_out}
use Rattle.mg_collect_overlay_laws.specs.Frees.{FreesAll, IsUnread, Places, free_all}
use Rattle.mg_image_overlay_laws.specs.records.SkipPart.{RelinksPage, laid_page, skip_in, skip_out}

-- The version is a committed one of a record of a table, the link names one behind it or there is none, and these cells
-- are those of versions between the two.
pub record FindsBehind (f : Facts) (r : Reading) (p x : RecId) (back : Option Link) (cells : Places) : Type 0 where
  pub table : Table
  pub of : table_in f p ≡ Some table
  pub committed : IsCommittedAt f x (r p)
  pub leads : LeadsInto back (behind x (r p))
  pub behind_it : (y : RecId) → cells y ≡ true → Stands (before back (behind x (r p))) y

module _ (form : Form) (size : ℕ) (o : Opening) (h : Entries) (state : ℕ → TxState)
    (pool changed image : Pages) (b : ℕ) (p x : RecId) (v : Version) (back : Option Link) (cells : Places)
    (kept : IsKept form size o h state pool image)
    (cuts : RelinksPage form.in_primary pool changed b x v back)
    (finds : FindsBehind (facts_by state pool kept.of_pool) kept.in_pool p x back cells)
    (rest : LeavesRests form size b) where
  abbrev f : Facts
  f = facts_by state pool kept.of_pool

  abbrev g : Facts
  g = facts_by state image kept.layout

  rest_pool : LeavesRest form size pool changed kept.of_pool
  rest_pool = rest state pool changed kept.of_pool kept.in_pool kept.pool_sound cuts.page

  -- the pool's record is behind itself
  fronts_self : HasFronts f f kept.in_pool kept.in_pool
  fronts_self = record { state = λ t. refl; fronts = λ q. front_self f.state (living f.state (kept.in_pool q)) }

  unread_out : IsUnread form size o h state changed cells false image
  unfolding skip_out
  unread_out = record {
    kept = skip_out form size o h state pool changed image b p x v back finds.table kept cuts finds.of
        finds.committed finds.leads rest_pool;
    pool_unread = λ y of. skip_unread form.coding f f (cells_of pool) kept.in_pool kept.in_pool p x
        back finds.table (cells_of pool) kept.pool_sound.records kept.pool_sound.records fronts_self finds.of
        finds.committed finds.leads y (finds.behind_it y of);
    unread = λ is. absurd (no is);
  }
    where
      no : false ≡ true → ⊥
      no is = cc

  unread_in : (laid_ : Pages) → LaysPage pool changed image laid_ b
      → IsUnread form size o h state changed cells true laid_
  unfolding skip_in
  unread_in laid_ lays = record {
    kept = skip_in form size o h state pool changed image b p x v back finds.table kept cuts finds.of
        finds.committed finds.leads rest_pool laid_ lays
        (rest state image laid_ kept.layout kept.reading kept.sound
        (laid_page form.in_primary pool changed image laid_ b x v back cuts lays));
    pool_unread = λ y of. skip_unread form.coding f f (cells_of pool) kept.in_pool kept.in_pool p x
        back finds.table (cells_of pool) kept.pool_sound.records kept.pool_sound.records fronts_self finds.of
        finds.committed finds.leads y (finds.behind_it y of);
    unread = λ is y of. skip_unread form.coding f g (cells_of pool) kept.in_pool kept.reading p x
        back finds.table (cells_of image) kept.pool_sound.records kept.sound.records kept.fronts finds.of
        finds.committed finds.leads y (finds.behind_it y of);
  }

-- ---- the batch

-- a committed version comes to lead past some behind it, or nowhere, and cells of those are freed, by nobody's work:
-- every overlay is kept
abbrev pub SkipsKeep : Form → Type 0
SkipsKeep form = (size : ℕ) (o : Opening) (h : Entries) (state : ℕ → TxState)
    (old new : Cache) (mid : Pages) (gone : PageSet) (batch : ℕ → Option (List ℕ)) (orders : Orders)
    (needs now : ℕ → PageSet) (b : ℕ) (p x : RecId) (v : Version) (back : Option Link) (cells : Places)
    → ChangesCache old new gone batch orders → KeepsNeeds old gone needs now
    -- the pages and their orders
    → RelinksPage form.in_primary old.pool mid b x v back → batch b ≢ None
    → FreesAll form.in_primary orders b cells mid new.pool
    -- the record, whoever is chosen
    → ((chosen : ℕ → Bool) (layout : Layout) (r : Reading)
    → IsSoundBy form size (left_state chosen state) old.pool layout r
    → FindsBehind (facts_by (left_state chosen state) old.pool layout) r p x back cells)
    → EveryOverlay (keeping form size o h) state old needs
    → EveryOverlay (keeping form size o h) state new now

pub skip_every : (form : Form) → HasNoSequences form → SkipsKeep form
skip_every form none size o h state old new mid gone batch orders needs now b p x v back cells changes left cuts
    in_batch frees finds every =
    change_keeps_always (keeping form size o h) (keeping form size o h) state old new gone batch orders
    needs now changes left part every
  where
    rest : (n : ℕ) → LeavesRests form size n
    rest n = data_leaves form size n none (trees_stay form size)

    part : KeepsLaidAlways (keeping form size o h) (keeping form size o h) state old.pool new.pool batch orders
    part chosen set_ image lays of_pool kept = subst
        (IsKept form size o h (left_state chosen state) new.pool)
        (last_view old.pool new.pool batch orders set_ image lays)
        (free_all form size o h (left_state chosen state) orders cells set_ image b rest with_page mid
        new.pool frees (by (set_ b) refl)).kept
      where
        start : IsKept form size o h (left_state chosen state) old.pool (partly set_ old.pool image)
        start = subst (IsKept form size o h (left_state chosen state) old.pool)
            (sym (first_view old.pool new.pool batch orders set_ image lays)) kept

        finds_it : FindsBehind (facts_by (left_state chosen state) old.pool start.of_pool) start.in_pool p x
            back cells
        finds_it = finds chosen start.of_pool start.in_pool start.pool_sound

        with_page : (n : ℕ) → (n ≢ b → orders b n ≡ true) → set_ n ≡ true → set_ b ≡ true
        with_page n ordered in_set = at (cases_eq n b)
          where
            at : (n ≡ b) ⊎ (n ≢ b) → set_ b ≡ true
            at (inl same) = sym (ap set_ same) ∙ in_set
            at (inr ne) = lays.together b n (ordered ne) in_batch in_set

        by : (c : Bool) → set_ b ≡ c
            → IsUnread form size o h (left_state chosen state) mid cells (set_ b) (partly set_ mid image)
        by true in_set = subst (λ (c : Bool). IsUnread form size o h (left_state chosen state) mid cells c
            (partly set_ mid image)) (sym in_set)
            (unread_in form size o h (left_state chosen state) old.pool mid (partly set_ old.pool image) b p
            x v back cells start cuts finds_it (rest b) (partly set_ mid image)
            (step_in set_ old.pool mid image b cuts.page.others in_set))
        by false out = subst (λ (c : Bool). IsUnread form size o h (left_state chosen state) mid cells c
            (partly set_ mid image)) (sym out)
            (subst (IsUnread form size o h (left_state chosen state) mid cells false)
            (sym (step_out set_ old.pool mid image b cuts.page.others out))
            (unread_out form size o h (left_state chosen state) old.pool mid (partly set_ old.pool image) b p
            x v back cells start cuts finds_it (rest b)))
