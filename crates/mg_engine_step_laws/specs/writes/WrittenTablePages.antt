-- The data pages of tables where versions of records are written: each table has those that it had, in their order, and
-- more.
use Rattle.std.specs.Prelude.{ℕ, List, Option}
use Rattle.mg_base.specs.declared.numbers.RecId.{RecId}
use Rattle.mg_base.specs.declared.transaction.TxState.{TxState}
use Rattle.mg_careful.specs.Precedence.{Orders}
use Rattle.mg_image_overlay_laws.specs.tables.Growing.{EndsAt, Grows, HasGrown, TableEnd}
use Rattle.mg_image.specs.Form.{Form, Pages}
use Rattle.mg_image.specs.Records.{Reading}
use Rattle.mg_image.specs.Sound.{IsSoundBy}
use Rattle.mg_image.specs.Tables.{Layout, stands_of}
use Rattle.mg_image.specs.declared.entry.Entry.{Entry}
use Rattle.mg_image_overlay_laws.specs.kept.KeptImages.{AreFrontStands, IsKept}
use Rattle.mg_model.specs.History.{Entries}
use Rattle.mg_model.specs.declared.opening.Opening.{Opening}
use Rattle.mg_model.specs.declared.table.Table.{Table}
use Rattle.mg_image_overlay_laws.specs.records.BackPart.{TakesOutPages}
use Rattle.mg_image_overlay_laws.specs.records.MovePart.{MovesPages}
use Rattle.mg_image_overlay_laws.specs.records.ReplacePart.{ReplacesPage}
use Rattle.mg_image_overlay_laws.specs.records.AddPart.{AddsPages}
use Rattle.mg_image_overlay_laws.specs.records.PushPart.{PushesPages}
use Rattle.mg_version.specs.declared.cell.Link.{Link}
use Rattle.mg_version.specs.declared.cell.Version.{Version}

-- A layout of later pages, under which they are sound, has the same tables as one of before.
pub record HasLater (form : Form) (size : ℕ) (state : ℕ → TxState) (later : Pages) (layout : Layout) (r : Reading)
    : Type 0 where
  pub now : Layout
  pub reading : Reading
  pub sound : IsSoundBy form size state later now reading
  pub grown : HasGrown layout now r

-- each table has the data pages that it had, in their order, and more
abbrev pub KeepsPages : (form : Form) (size : ℕ) (state : ℕ → TxState) (later : Pages) (layout : Layout)
    (r : Reading) → HasLater form size state later layout r → Type 0
KeepsPages form size state later layout r after = AreFrontStands (stands_of layout) (stands_of after.now)

-- a table gets pages, and then a version is pushed over a record's newest one
abbrev pub PushesKeepPages : Form → Type 0
PushesKeepPages form = (size : ℕ) (o : Opening) (h : Entries) (state : ℕ → TxState) (pool grown mid changed : Pages)
    (layout : Layout) (r : Reading) (table : Table) (orders : Orders) (batch : ℕ → Option (List ℕ))
    (end final : TableEnd) (p x : RecId) (v : Version) (l link : Link) → IsKept form size o h state pool pool
    → IsSoundBy form size state pool layout r
    → Grows form.in_primary size table.pointer.0 orders batch pool end grown final → EndsAt layout table end
    → PushesPages form.in_primary grown mid changed x p v l link
    → (after : HasLater form size state changed layout r) → KeepsPages form size state changed layout r after

-- or a record gets its first version
abbrev pub FirstsKeepPages : Form → Type 0
FirstsKeepPages form = (size : ℕ) (o : Opening) (h : Entries) (state : ℕ → TxState) (pool grown mid changed : Pages)
    (layout : Layout) (r : Reading) (table : Table) (orders : Orders) (batch : ℕ → Option (List ℕ))
    (end final : TableEnd) (p x : RecId) (v : Version) (link : Link) → IsKept form size o h state pool pool
    → IsSoundBy form size state pool layout r
    → Grows form.in_primary size table.pointer.0 orders batch pool end grown final → EndsAt layout table end
    → AddsPages form.in_primary grown mid changed x p v link
    → (after : HasLater form size state changed layout r) → KeepsPages form size state changed layout r after

-- or an own version moves to another cell
abbrev pub MovesKeepPages : Form → Type 0
MovesKeepPages form = (size : ℕ) (o : Opening) (h : Entries) (state : ℕ → TxState)
    (pool grown mid turned changed : Pages) (layout : Layout) (r : Reading) (table : Table) (orders : Orders)
    (batch : ℕ → Option (List ℕ)) (end final : TableEnd) (p x : RecId) (v : Version) (n : Entry) (l link : Link)
    → IsKept form size o h state pool pool → IsSoundBy form size state pool layout r
    → Grows form.in_primary size table.pointer.0 orders batch pool end grown final → EndsAt layout table end
    → MovesPages form.in_primary grown mid turned changed p x v n l link
    → (after : HasLater form size state changed layout r) → KeepsPages form size state changed layout r after

-- where an own version is replaced in its cell the tables have their pages
abbrev pub ReplacementsKeepPages : Form → Type 0
ReplacementsKeepPages form = (size : ℕ) (state : ℕ → TxState) (pool changed : Pages) (layout : Layout) (r : Reading)
    (v : Version) (n : Entry) → IsSoundBy form size state pool layout r
    → ReplacesPage form.in_primary pool changed v n
    → (after : HasLater form size state changed layout r) → KeepsPages form size state changed layout r after

-- and where one is taken out
abbrev pub TakingOutKeepsPages : Form → Type 0
TakingOutKeepsPages form = (size : ℕ) (state : ℕ → TxState) (pool turned changed : Pages) (layout : Layout)
    (r : Reading) (p x : RecId) (v : Version) (l : Link) → IsSoundBy form size state pool layout r
    → TakesOutPages form.in_primary pool turned changed p x v l
    → (after : HasLater form size state changed layout r) → KeepsPages form size state changed layout r after

-- fronts of fronts are fronts, so it is over several batches
abbrev pub PagesAreKeptOn : Type 0
PagesAreKeptOn = (a b c : Layout) → AreFrontStands (stands_of a) (stands_of b)
    → AreFrontStands (stands_of b) (stands_of c) → AreFrontStands (stands_of a) (stands_of c)
