-- The pages of transactions, and the header, where versions of records are written.
use Rattle.std.specs.Prelude.{◌≡◌, ℕ, List, Option}
use Rattle.mg_base.specs.declared.numbers.RecId.{RecId}
use Rattle.mg_base.specs.declared.transaction.TxState.{TxState}
use Rattle.mg_careful.specs.Precedence.{Orders}
use Rattle.mg_model.specs.declared.opening.Opening.{Opening}
use Rattle.mg_model.specs.declared.table.Table.{Table}
use Rattle.mg_model.specs.History.{Entries}
use Rattle.mg_engine_step_laws.specs.commits.ListShows.{TipsStay}
use Rattle.mg_image_overlay_laws.specs.tables.Growing.{EndsAt, Grows, TableEnd}
use Rattle.mg_image.specs.Form.{Form, Pages}
use Rattle.mg_image.specs.Inventory.{header_of, next_of}
use Rattle.mg_image.specs.Records.{Reading}
use Rattle.mg_image.specs.Sound.{IsSoundBy}
use Rattle.mg_image.specs.Tables.{Layout}
use Rattle.mg_image.specs.declared.entry.Entry.{Entry}
use Rattle.mg_image_overlay_laws.specs.kept.KeptImages.{IsKept}
use Rattle.mg_image_overlay_laws.specs.records.BackPart.{TakesOutPages}
use Rattle.mg_image_overlay_laws.specs.records.MovePart.{MovesPages}
use Rattle.mg_image_overlay_laws.specs.records.ReplacePart.{ReplacesPage}
use Rattle.mg_image_overlay_laws.specs.records.AddPart.{AddsPages}
use Rattle.mg_image_overlay_laws.specs.records.PushPart.{PushesPages}
use Rattle.mg_version.specs.declared.cell.Link.{Link}
use Rattle.mg_version.specs.declared.cell.Version.{Version}

-- The pages of transactions are where they were and as they were, the next number is the same, and the catalog begins
-- where it began.
pub record KeepsTips (size : ℕ) (old new : Pages) : Type 0 where
  pub tips : TipsStay size old new
  pub next : next_of new ≡ next_of old
  pub catalog : (header_of new).catalog.0 ≡ (header_of old).catalog.0

-- so it is where a table gets pages
abbrev pub GrowthKeepsTips : Form → Type 0
GrowthKeepsTips form = (size : ℕ) (o : Opening) (h : Entries) (state : ℕ → TxState) (pool grown : Pages)
    (layout : Layout) (r : Reading) (table : Table) (orders : Orders) (batch : ℕ → Option (List ℕ))
    (end final : TableEnd) → IsKept form size o h state pool pool → IsSoundBy form size state pool layout r
    → Grows form.in_primary size table.pointer.0 orders batch pool end grown final → EndsAt layout table end
    → KeepsTips size pool grown

-- and where, then, a version is pushed, or is a record's first one
abbrev pub PushesKeepTips : Form → Type 0
PushesKeepTips form = (size : ℕ) (o : Opening) (h : Entries) (state : ℕ → TxState) (pool grown mid changed : Pages)
    (layout : Layout) (r : Reading) (table : Table) (orders : Orders) (batch : ℕ → Option (List ℕ))
    (end final : TableEnd) (p x : RecId) (v : Version) (l link : Link) → IsKept form size o h state pool pool
    → IsSoundBy form size state pool layout r
    → Grows form.in_primary size table.pointer.0 orders batch pool end grown final → EndsAt layout table end
    → PushesPages form.in_primary grown mid changed x p v l link → KeepsTips size pool changed

abbrev pub FirstsKeepTips : Form → Type 0
FirstsKeepTips form = (size : ℕ) (o : Opening) (h : Entries) (state : ℕ → TxState) (pool grown mid changed : Pages)
    (layout : Layout) (r : Reading) (table : Table) (orders : Orders) (batch : ℕ → Option (List ℕ))
    (end final : TableEnd) (p x : RecId) (v : Version) (link : Link) → IsKept form size o h state pool pool
    → IsSoundBy form size state pool layout r
    → Grows form.in_primary size table.pointer.0 orders batch pool end grown final → EndsAt layout table end
    → AddsPages form.in_primary grown mid changed x p v link → KeepsTips size pool changed

-- or an own version moves to another cell
abbrev pub MovesKeepTips : Form → Type 0
MovesKeepTips form = (size : ℕ) (o : Opening) (h : Entries) (state : ℕ → TxState)
    (pool grown mid turned changed : Pages) (layout : Layout) (r : Reading) (table : Table) (orders : Orders)
    (batch : ℕ → Option (List ℕ)) (end final : TableEnd) (p x : RecId) (v : Version) (n : Entry) (l link : Link)
    → IsKept form size o h state pool pool → IsSoundBy form size state pool layout r
    → Grows form.in_primary size table.pointer.0 orders batch pool end grown final → EndsAt layout table end
    → MovesPages form.in_primary grown mid turned changed p x v n l link → KeepsTips size pool changed

-- where it is replaced in its cell
abbrev pub ReplacementsKeepTips : Form → Type 0
ReplacementsKeepTips form = (size : ℕ) (state : ℕ → TxState) (pool changed : Pages) (layout : Layout) (r : Reading)
    (v : Version) (n : Entry) → IsSoundBy form size state pool layout r
    → ReplacesPage form.in_primary pool changed v n → KeepsTips size pool changed

-- and where one is taken out
abbrev pub TakingOutKeepsTips : Form → Type 0
TakingOutKeepsTips form = (size : ℕ) (state : ℕ → TxState) (pool turned changed : Pages) (layout : Layout)
    (r : Reading) (p x : RecId) (v : Version) (l : Link) → IsSoundBy form size state pool layout r
    → TakesOutPages form.in_primary pool turned changed p x v l → KeepsTips size pool changed
