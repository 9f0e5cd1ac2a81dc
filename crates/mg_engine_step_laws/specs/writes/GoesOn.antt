-- One law for each write of a record: the engine stands for the history with the entry, and its cache lasts with it.
use Rattle.std.specs.Prelude.{◌≡◌, ◌≢◌, ℕ, Bool, false, List, [], ◌∷◌, Option, Some}
use Rattle.mg_base.specs.Disk.{Meaning}
use Rattle.mg_base.specs.Image.{Image}
use Rattle.mg_base.specs.declared.numbers.RecId.{RecId}
use Rattle.mg_base.specs.declared.transaction.TxState.{TxState}
use Rattle.mg_careful.specs.CarefulWrite.{Pages}
use Rattle.mg_careful.specs.Precedence.{Orders}
use Rattle.mg_value.specs.declared.value.Value.{Value}
use Rattle.mg_version.specs.declared.cell.Cell.TheVariants as cells
use Rattle.mg_version.specs.declared.cell.Link.{Link}
use Rattle.mg_version.specs.declared.cell.Version.{Version}
use Rattle.mg_model.specs.declared.opening.Opening.{Opening}
use Rattle.mg_model.specs.declared.table.Table.{Table}
use Rattle.mg_model.specs.Changes.{Cells}
use Rattle.mg_model.specs.History.{Entries, Entry as Event}
use Rattle.mg_model.specs.Legal.{IsLawful, is_durable}
use Rattle.mg_image.specs.declared.entry.Entry.{Entry}
use Rattle.mg_image.specs.Form.{Form}
use Rattle.mg_image.specs.Records.{Reading, cells_of}
use Rattle.mg_image.specs.Sound.{IsSoundBy}
use Rattle.mg_image.specs.Tables.{Layout, stands_of, table_at}
use Rattle.mg_image_overlay_laws.specs.kept.KeptImages.{IsKept}
use Rattle.mg_overlay_laws.specs.Overlays.{left_state}
use Rattle.mg_image_overlay_laws.specs.records.BackPart.{TakesOutPages}
use Rattle.mg_image_overlay_laws.specs.records.MovePart.{MovesPages}
use Rattle.mg_image_overlay_laws.specs.records.ReplacePart.{ReplacesPage}
use Rattle.mg_image_overlay_laws.specs.records.AddPart.{AddsPages}
use Rattle.mg_image_overlay_laws.specs.records.PushPart.{PushesPages}
use Rattle.mg_image_overlay_laws.specs.tables.Growing.{EndsAt, Grows, TableEnd}
use Rattle.mg_pool.specs.Batch.{Changed}
use Rattle.mg_pool.specs.Pool.{shown}
use Rattle.mg_pool.specs.declared.pool.Pool.{Pool}
use Rattle.mg_pool_overlay_laws.specs.Needs.{Asked, Sessions}
use Rattle.mg_tie_laws.specs.Changed.{KeptIn}
use Rattle.mg_lasting_laws.specs.Crashes.{HoldsAcknowledged, LeavesSince, may_last}
use Rattle.mg_lasting_laws.specs.Lasting.{LastsOn}
use Rattle.mg_engine_step_laws.specs.standing.Following.{FollowsEntry}
use Rattle.mg_engine_step_laws.specs.standing.Standing.{Standing, Stands}
use Rattle.mg_image_overlay_laws.specs.records.Chains.{HasItsRow}
use Rattle.mg_image_overlay_laws.specs.pages.DataKept.{KeepsBits}
use Rattle.mg_engine_step_laws.specs.writes.Batches.{ChangesRow}
use Rattle.mg_engine_step_laws.specs.writes.Writes.{ReadsAfter, WritesVersion}

-- ---- the pool's own image

-- where every overlay is as it has to be, the pool's own image is, whoever is chosen
abbrev pub PoolIsKept : Form → (D L : Type 0) → Type 0
PoolIsKept form D L = (size : ℕ) (o : Opening) (h : Entries) (state : ℕ → TxState) (asked : Asked)
    (session : Sessions) (store : Pool D L) (image : Image) (chosen : ℕ → Bool)
    → KeptIn form size o h state asked session store image
    → IsKept form size o h (left_state chosen state) (shown store.dirty image) (shown store.dirty image)

-- ---- what is read after each call

-- after a version was pushed over a record's versions
abbrev pub PushesAreRead : Form → Type 0
PushesAreRead form = (size : ℕ) (o : Opening) (h : Entries) (state : ℕ → TxState)
    (pool grown mid changed : Pages) (layout : Layout) (r : Reading) (table : Table) (orders : Orders)
    (batch : ℕ → Option (List ℕ)) (end final : TableEnd) (p : RecId) (n : Entry) (l link : Link)
    (c : Layout) (s : Reading) → IsKept form size o h state pool pool
    → IsSoundBy form size state pool layout r
    → Grows form.in_primary size table.pointer.0 orders batch pool end grown final
    → EndsAt layout table end
    → PushesPages form.in_primary grown mid changed n.at p n.version l link
    → table_at (stands_of layout) p.page.0 ≡ Some table → table ≢ layout.catalog.table
    → HasItsRow form.coding table n → IsSoundBy form size state changed c s
    → ReadsAfter form size state pool changed layout r p (n ∷ r p) × KeepsBits size pool changed

-- after a record got its first version, at a place where none was read
abbrev pub FirstsAreRead : Form → Type 0
FirstsAreRead form = (size : ℕ) (o : Opening) (h : Entries) (state : ℕ → TxState)
    (pool grown mid changed : Pages) (layout : Layout) (r : Reading) (table : Table) (orders : Orders)
    (batch : ℕ → Option (List ℕ)) (end final : TableEnd) (p : RecId) (n : Entry) (link : Link)
    (c : Layout) (s : Reading) → IsKept form size o h state pool pool
    → IsSoundBy form size state pool layout r
    → Grows form.in_primary size table.pointer.0 orders batch pool end grown final
    → EndsAt layout table end
    → AddsPages form.in_primary grown mid changed n.at p n.version link
    → table_at (stands_of layout) p.page.0 ≡ Some table → table ≢ layout.catalog.table
    → HasItsRow form.coding table n → IsSoundBy form size state changed c s
    → ReadsAfter form size state pool changed layout r p (n ∷ []) × KeepsBits size pool changed
    × (r p ≡ [])

-- after a transaction's own version was replaced in its cell
abbrev pub ReplacementsAreRead : Form → Type 0
ReplacementsAreRead form = (size : ℕ) (state : ℕ → TxState) (pool changed : Pages) (layout : Layout)
    (r : Reading) (table : Table) (p : RecId) (v : Version) (n d : Entry) (older : List Entry)
    (l : Link) (c : Layout) (s : Reading) → IsSoundBy form size state pool layout r
    → ReplacesPage form.in_primary pool changed v n → r p ≡ d ∷ older → d.at ≡ n.at → d.version ≡ v
    → cells_of pool p ≡ Some (cells.Anchor l)
    → table_at (stands_of layout) p.page.0 ≡ Some table
    → table_at (stands_of layout) n.at.page.0 ≡ Some table → table ≢ layout.catalog.table
    → HasItsRow form.coding table n → IsSoundBy form size state changed c s
    → ReadsAfter form size state pool changed layout r p (n ∷ older) × KeepsBits size pool changed

-- after it moved to another cell
abbrev pub MovesAreRead : Form → Type 0
MovesAreRead form = (size : ℕ) (o : Opening) (h : Entries) (state : ℕ → TxState)
    (pool grown mid turned changed : Pages) (layout : Layout) (r : Reading) (table : Table)
    (orders : Orders) (batch : ℕ → Option (List ℕ)) (end final : TableEnd) (p x : RecId) (v : Version)
    (n d : Entry) (older : List Entry) (l link : Link) (c : Layout) (s : Reading)
    → IsKept form size o h state pool pool → IsSoundBy form size state pool layout r
    → Grows form.in_primary size table.pointer.0 orders batch pool end grown final
    → EndsAt layout table end
    → MovesPages form.in_primary grown mid turned changed p x v n l link
    → r p ≡ d ∷ older → d.at ≡ x → d.version ≡ v
    → table_at (stands_of layout) p.page.0 ≡ Some table
    → table_at (stands_of layout) x.page.0 ≡ Some table → table ≢ layout.catalog.table
    → HasItsRow form.coding table n → IsSoundBy form size state changed c s
    → ReadsAfter form size state pool changed layout r p (n ∷ older) × KeepsBits size pool changed

-- after it was taken out
abbrev pub TakingOutIsRead : Form → Type 0
TakingOutIsRead form = (size : ℕ) (state : ℕ → TxState) (pool turned changed : Pages)
    (layout : Layout) (r : Reading) (table : Table) (p x : RecId) (v : Version) (d : Entry)
    (older : List Entry) (l : Link) (c : Layout) (s : Reading)
    → IsSoundBy form size state pool layout r
    → TakesOutPages form.in_primary pool turned changed p x v l
    → r p ≡ d ∷ older → d.at ≡ x → d.version ≡ v
    → table_at (stands_of layout) p.page.0 ≡ Some table
    → table_at (stands_of layout) x.page.0 ≡ Some table → table ≢ layout.catalog.table
    → IsSoundBy form size state changed c s
    → ReadsAfter form size state pool changed layout r p older × KeepsBits size pool changed

-- ---- a write

-- The engine stands for the history with the entry, its cache lasts with it, and what a crash since then
-- might have left holds the history before it.
pub record HasGoneOn {D L : Type 0} (m : Meaning D) (form : Form) (size : ℕ) (o : Opening)
    (h : Entries) (e : Event) (new : Standing) (before after : Pool D L) (j : Image) (asked : Asked)
    (session : Sessions) : Type 0 where
  pub stands : Stands form size o (e ∷ h) new (Some (shown after.dirty j))
  pub lasts : LastsOn m form o (e ∷ h) after asked session
  pub leaves : LeavesSince m before.disk after.disk
      (HoldsAcknowledged form before.dirty.size o h)

-- a row of a call was changed that writes a version of an active transaction at a key
abbrev pub WritesGoOn : (D L : Type 0) → Meaning D → Form → Type 0
WritesGoOn D L m form = (o : Opening) (h : Entries) (e : Event) (s new : Standing)
    (before after : Pool D L) (i j : Image) (batch : Changed) (asked : Asked) (session : Sessions)
    (stands : Stands form before.geometry.size o h s (Some (shown before.dirty i))) (t : ℕ)
    (name : List ℕ) (key : Value) (row : Option Cells) (p : RecId) (n : Entry) (older : List Entry)
    (table : Table) → LastsOn m form o h before asked session
    → ChangesRow m form o h (e ∷ h) before after i j batch asked session
    → IsLawful o h e → is_durable e ≡ false → may_last e ≡ false → FollowsEntry o h e s new
    → WritesVersion form before.geometry.size o h e s new (shown before.dirty i) (shown after.dirty j)
    stands.shows t name key row p n older table
    → HasGoneOn m form before.geometry.size o h e new before after j asked session
