-- A version that is dropped right behind a committed one, in a batch of its own, keeps every overlay.
use Rattle.std.proofs.Common.{◌≡◌, ◌≢◌, inl, ap, sym, subst, ◌∙◌, refl, ℕ, ◌∷◌, [], Bool, true, false, List, Option, None, Some}
use Rattle.mg_base.specs.Disk.{Meaning}
use Rattle.mg_base.specs.Image.{Image}
use Rattle.mg_base.specs.declared.numbers.RecId.{RecId}
use Rattle.mg_base.specs.declared.transaction.TxState.{TxState}
use Rattle.mg_careful.specs.Precedence.{Orders}
use Rattle.mg_careful.specs.declared.graph.Order.{Order}
use Rattle.mg_chain.specs.Dropping.{DropsBehind}
use Rattle.mg_chain.specs.Orders.{before_page}
use Rattle.mg_chain.specs.Writing.{leading_to}
use Rattle.mg_collect_overlay_laws.specs.Frees.{FreesAll, Places, none_more, one_more}
use Rattle.mg_collect_overlay_laws.specs.SkipFree.{FindsBehind, skip_every}
use Rattle.mg_image.specs.Form.{Form, Pages}
use Rattle.mg_image.specs.RecordRules.{Facts, table_in}
use Rattle.mg_image.specs.Records.{Changes, Reading, Stands, cells_of, newest_of, record_key}
use Rattle.mg_image.specs.Sound.{IsSoundBy, facts_by}
use Rattle.mg_image.specs.StepLaws.{same_place}
use Rattle.mg_image.specs.Tables.{Layout, stands_of, table_at}
use Rattle.mg_image_overlay_laws.specs.records.FreePart.{FreesPage}
use Rattle.mg_image_overlay_laws.specs.kept.KeptImages.{IsKept, keeping}
use Rattle.mg_image_overlay_laws.specs.pages.Kinds.{HasNoSequences}
use Rattle.mg_image_overlay_laws.specs.records.SkipPart.{RelinksPage}
use Rattle.mg_image_overlay_laws.specs.records.Skips.{IsCommittedAt, before, behind, behind_stands, stands_of_committed}
use Rattle.mg_model.specs.History.{Entries}
use Rattle.mg_model.specs.declared.opening.Opening.{Opening}
use Rattle.mg_model.specs.declared.table.Table.{Table}
use Rattle.mg_overlay_laws.specs.BatchLaws.{good_of_pool}
use Rattle.mg_overlay_laws.specs.Overlays.{left_state}
use Rattle.mg_pool.specs.Batch.{Changed, content_in, lists}
use Rattle.mg_pool.specs.Pool.{shown}
use Rattle.mg_pool.specs.declared.pool.Pool.{Pool}
use Rattle.mg_pool_overlay_laws.specs.Needs.{Asked, Sessions}
use Rattle.mg_space.specs.View.{viewed}
use Rattle.mg_tie_laws.specs.Batches.{IsWithin, has_here, lists_later, viewed_same, within_self}
use Rattle.mg_tie_laws.specs.CellTies.{HasLawfulCells, cells_still, lawful_cells, sets_cells, sets_page, spelled_is}
use Rattle.mg_tie_laws.specs.Changed.{BatchIsChanged, ChangesFresh, KeptIn, cache_over, changed_fresh, fresh, needs_in}
use Rattle.mg_tie_laws.specs.FreeTies.{frees_cells, frees_page, frees_within, version_apart}
use Rattle.mg_tie_laws.specs.PutTies.{version_may}
use Rattle.mg_tie_laws.specs.Rows.{ordered_page, within_orders}
use Rattle.mg_version.specs.declared.cell.Cell.{Cell}
use Rattle.mg_version.specs.declared.cell.Cell.TheVariants as cells
use Rattle.mg_version.specs.declared.cell.Link.{Link}
use Rattle.mg_version.specs.declared.cell.Version.{Version}
use Rattle.mg_collect_tie_laws.specs.Chains.{IsNext, each_placed, next_before, next_leads, next_of, next_stands, place_is, same_self}

-- A record of a table has a committed version at a place.
pub record HasCommittedAt (f : Facts) (r : Reading) (p x : RecId) : Type 0 where
  pub table : Table
  pub of : table_in f p ≡ Some table
  pub committed : IsCommittedAt f x (r p)

-- A version is dropped on pages: the one at x leads on where it led, and its cell at y is freed.
pub record DropsPages (in_primary : Bool) (pool mid changed : Pages) (x y : RecId) (v w : Version) : Type 0 where
  pub put : RelinksPage in_primary pool mid x.page.0 x v w.back
  pub frees : FreesPage in_primary mid changed y w

-- a version is dropped right behind a committed one of a record, changed by the cache in a batch of its own: every
-- overlay is kept, and the history is as it was
abbrev pub DropKeeps : Form → (D L : Type 0) → Meaning D → Type 0
DropKeeps form D L m = (first last : Pool D L) (i j : Image) (batch : Changed) (asked : Asked) (session : Sessions)
    (o : Opening) (h : Entries) (state : ℕ → TxState) (p : RecId) (newer gone : Link)
    → ChangesFresh m first last i j batch → DropsBehind first i fresh batch newer gone
    -- whoever is chosen, the record has the version that leads on
    → ((chosen : ℕ → Bool) (layout : Layout) (r : Reading)
    → IsSoundBy form first.geometry.size (left_state chosen state) (shown first.dirty i) layout r
    → HasCommittedAt (facts_by (left_state chosen state) (shown first.dirty i) layout) r p newer.rec)
    → KeptIn form first.geometry.size o h state asked session first i
    → KeptIn form first.geometry.size o h state asked session last j

module _ (form : Form) (none : HasNoSequences form) (no_primary : form.in_primary ≡ false) {D L : Type 0}
    (m : Meaning D) (first last : Pool D L) (i j : Image) (batch : Changed) (asked : Asked) (session : Sessions)
    (o : Opening) (h : Entries) (state : ℕ → TxState) (p : RecId) (newer gone : Link)
    (changes : ChangesFresh m first last i j batch) (drops : DropsBehind first i fresh batch newer gone)
    (finds : (chosen : ℕ → Bool) (layout : Layout) (r : Reading)
    → IsSoundBy form first.geometry.size (left_state chosen state) (shown first.dirty i) layout r
    → HasCommittedAt (facts_by (left_state chosen state) (shown first.dirty i) layout) r p newer.rec)
    (every : KeptIn form first.geometry.size o h state asked session first i) where
  abbrev size : ℕ
  size = first.geometry.size

  abbrev pool : Pages
  pool = shown first.dirty i

  abbrev x : RecId
  x = newer.rec

  abbrev y : RecId
  y = gone.rec

  abbrev v : Version
  v = drops.version

  abbrev w : Version
  w = drops.older

  abbrev put : Changed
  put = drops.leads.put

  abbrev freed : Changed
  freed = drops.leads.freed

  abbrev pub put_view : Pages
  put_view = viewed first i put

  abbrev freed_view : Pages
  freed_view = viewed first i freed

  abbrev contents : ℕ → Option (List ℕ)
  contents = content_in batch.pages

  abbrev orders : Orders
  orders = lists batch.orders

  it : BatchIsChanged first last i j batch asked session
  it = changed_fresh m first last i j batch asked session changes

  start : IsKept form size o h (left_state (λ t. true) state) pool pool
  start = good_of_pool (keeping form size o h) state (cache_over first i) (needs_in asked session first)
      it.changes.was_clean (λ t q needs. (it.left t q needs).0) every (λ t. true)

  -- ---- the record

  pub next : (chosen : ℕ → Bool) (layout : Layout) (r : Reading)
      → IsSoundBy form size (left_state chosen state) pool layout r → IsNext (cells_of pool) x y w (r p)
  next chosen layout r sound =
      let found = finds chosen layout r sound in
      next_of (facts_by (left_state chosen state) pool layout) (cells_of pool) x v w gone drops.meets.cell
      drops.back drops.behind.cell (newest_of p (cells_of pool p)) (r p)
      (sound.records.reads p found.table found.of) (sound.records.each p found.table found.of).once
      found.committed

  found : HasCommittedAt (facts_by (left_state (λ t. true) state) pool start.layout) start.reading p x
  found = finds (λ t. true) start.layout start.reading start.sound

  behind_it : IsNext (cells_of pool) x y w (start.reading p)
  behind_it = next (λ t. true) start.layout start.reading start.sound

  x_of : table_at (stands_of start.layout) x.page.0 ≡ Some found.table
  x_of = each_placed form.coding (facts_by (left_state (λ t. true) state) pool start.layout) found.table
      (record_key found.table (start.reading p)) (start.reading p) x
      (start.sound.records.each p found.table found.of).each
      (stands_of_committed (facts_by (left_state (λ t. true) state) pool start.layout) x (start.reading p)
      found.committed)

  y_of : table_at (stands_of start.layout) y.page.0 ≡ Some found.table
  y_of = each_placed form.coding (facts_by (left_state (λ t. true) state) pool start.layout) found.table
      (record_key found.table (start.reading p)) (start.reading p) y
      (start.sound.records.each p found.table found.of).each
      (behind_stands x y (start.reading p) (next_stands (cells_of pool) x y w (start.reading p) behind_it))

  x_cells : HasLawfulCells form.in_primary pool x.page.0
  x_cells = lawful_cells form size (left_state (λ t. true) state) pool start.layout start.reading start.sound
      x.page.0 found.table x_of

  y_cells : HasLawfulCells form.in_primary pool y.page.0
  y_cells = lawful_cells form size (left_state (λ t. true) state) pool start.layout start.reading start.sound
      y.page.0 found.table y_of

  apart : y ≢ x
  apart same = behind_it.apart (behind_it.at ∙ same)

  -- ---- the pages

  change : Changes (cells_of pool) (cells_of put_view) x (Some (cells.Version (leading_to v w.back)))
  change = subst (λ (c : Option Cell). Changes (cells_of pool) (cells_of put_view) x c)
      (ap (λ (c : Cell). Some c) (spelled_is drops.leads.puts.bytes (cells.Version (leading_to v w.back))
      drops.leads.puts.spells))
      (sets_cells form.in_primary pool put_view x (Some drops.leads.puts.bytes)
      drops.leads.puts.puts.puts.puts.sets drops.leads.puts.puts.puts.others)

  relinks : RelinksPage form.in_primary pool put_view x.page.0 x v w.back
  relinks = record {
    page = sets_page form.in_primary pool put_view x (Some drops.leads.puts.bytes)
        drops.leads.puts.puts.puts.puts.sets drops.leads.puts.puts.puts.others x_cells
        (λ other is. version_may form.in_primary drops.leads.puts.bytes other (leading_to v w.back)
        drops.leads.puts.spells is);
    cut = record { was = drops.meets.cell; change = change };
    here = refl;
  }

  y_there : cells_of put_view y ≡ Some (cells.Version w)
  y_there = change.others y apart ∙ drops.behind.cell

  frees : FreesPage form.in_primary put_view freed_view y w
  frees = record {
    page = frees_page form.in_primary first i put freed y drops.leads.frees (cells.Version w) y_there
        (cells_still form.in_primary pool put_view x.page.0 y.page.0 relinks.page y_cells);
    cell = y_there;
    apart = version_apart pool y w
        (subst (λ (b : Bool). HasLawfulCells b pool y.page.0) no_primary y_cells) drops.behind.cell;
    freed = frees_cells form.in_primary first i put freed y drops.leads.frees (cells.Version w) y_there;
  }

  -- ---- the batch

  within_freed : IsWithin contents orders freed
  within_freed = within_orders contents orders freed batch (before_page (x.page.0 ∷ []) y.page.0)
      drops.leads.ordered (within_self batch)

  within_put : IsWithin contents orders put
  within_put = frees_within first i contents orders put freed y drops.leads.frees within_freed

  has_x : contents x.page.0 ≢ None
  has_x = within_put.pages x.page.0 (has_here fresh put x.page.0 drops.leads.puts.puts.one.bytes
      drops.leads.puts.puts.one.puts)

  before_it : y.page.0 ≢ x.page.0 → orders x.page.0 y.page.0 ≡ true
  before_it ne = subst (λ (os : List Order). lists os x.page.0 y.page.0 ≡ true) (sym drops.leads.ordered.added)
      (lists_later freed.orders (before_page (x.page.0 ∷ []) y.page.0) x.page.0 y.page.0
      (ordered_page (x.page.0 ∷ []) x.page.0 y.page.0 (inl refl) (λ e. ne (sym e))))

  abbrev only : Places
  only q = same_place q y

  final_is : (cache_over last j).pool ≡ freed_view
  final_is = it.pool ∙ viewed_same first i freed batch drops.leads.ordered.same_pages

  all : FreesAll form.in_primary orders x.page.0 only put_view (cache_over last j).pool
  all = subst (FreesAll form.in_primary orders x.page.0 only put_view) (sym final_is)
      (one_more put_view freed_view freed_view y w (same_self y y refl) before_it frees (none_more freed_view))

  behind_found : (chosen : ℕ → Bool) (layout : Layout) (r : Reading)
      → IsSoundBy form size (left_state chosen state) pool layout r
      → FindsBehind (facts_by (left_state chosen state) pool layout) r p x w.back only
  behind_found chosen layout r sound =
      let its = finds chosen layout r sound in
      let after_it = next chosen layout r sound in
      record {
        table = its.table;
        of = its.of;
        committed = its.committed;
        leads = next_leads (cells_of pool) x y w (r p) after_it;
        behind_it = λ q is. subst (λ (z : RecId). Stands (before w.back (behind x (r p))) z)
            (sym (place_is q y is)) (next_before (cells_of pool) x y w (r p) after_it);
      }

  pub drop_pages : DropsPages form.in_primary pool put_view (shown last.dirty j) x y v w
  drop_pages = record {
    put = relinks;
    frees = subst (λ (pages : Pages). FreesPage form.in_primary put_view pages y w) (sym final_is) frees;
  }

  pub drop_row : KeptIn form size o h state asked session last j
  drop_row = skip_every form none size o h state (cache_over first i) (cache_over last j) put_view it.gone
      contents orders (needs_in asked session first) (needs_in asked session last) x.page.0 p x v w.back only
      it.changes it.left relinks has_x all behind_found every

pub drop_keeps : (form : Form) → HasNoSequences form → form.in_primary ≡ false → (D L : Type 0) (m : Meaning D)
    → DropKeeps form D L m
drop_keeps form none no_primary D L m first last i j batch asked session o h state p newer gone changes drops finds
    every = drop_row form none no_primary m first last i j batch asked session o h state p newer gone changes drops
    finds every
