-- What a step of the core tells of a key that is taken back, and what an engine knows of its table, make a step of the
-- laws.
use Rattle.std.specs.Prelude.{◌≡◌, ◌⊎◌, ℕ, true, List, ◌∷◌, Option, Some}
use Rattle.mg_base.specs.Disk.{Meaning}
use Rattle.mg_base.specs.Image.{Image}
use Rattle.mg_base.specs.declared.numbers.RecId.{RecId}
use Rattle.mg_base.specs.declared.transaction.TxState.TheVariants.{Active}
use Rattle.mg_engine_change_laws.specs.keys.Found.{IsItsRecord}
use Rattle.mg_engine_change_laws.specs.keys.TakingSteps.{StandsMidway, TakesKeyOf}
use Rattle.mg_engine_step_laws.specs.writes.Knowing.{CodesRow, HasEntries, MayWriteInto}
use Rattle.mg_image.specs.Form.{Pages, Row, packed_coding, packed_form}
use Rattle.mg_image.specs.Records.{Reading}
use Rattle.mg_image.specs.Tables.{Layout}
use Rattle.mg_model.specs.Changes.{Cells, has_change}
use Rattle.mg_model.specs.History.{Entries, Entry}
use Rattle.mg_model.specs.Legal.{IsLegal, MayBegin}
use Rattle.mg_model.specs.Machine.{own}
use Rattle.mg_model.specs.declared.change.Change.{Change}
use Rattle.mg_model.specs.declared.opening.Opening.{Opening}
use Rattle.mg_model.specs.declared.table.Table.{Table}
use Rattle.mg_pool.specs.Pool.{IsPool, shown}
use Rattle.mg_pool.specs.declared.pool.Pool.{Pool}
use Rattle.mg_pool_overlay_laws.specs.Needs.{Asked, Sessions}
use Rattle.mg_row_writes.specs.Changing.{ReplacesNewest, TakesNewestOut}
use Rattle.mg_seek.specs.Speaking.{IsSpeaker}
use Rattle.mg_seek.specs.Versions.{IsFirst, wants}
use Rattle.mg_seek.specs.declared.walk.Placed.{Placed}
use Rattle.mg_seek.specs.declared.whose.Wanted.TheVariants.{Any}
use Rattle.mg_space.specs.Taking.{IsGeometry}
use Rattle.mg_space.specs.View.{KeepsStore, Tells}
use Rattle.mg_space.specs.declared.links.FireLinks.{FireLinks}
use Rattle.mg_engine_step_laws.specs.standing.Standing.{Remembers, ShowsHistory, Standing}
use Rattle.mg_undo.specs.Machine.{was_given, was_in}
use Rattle.mg_undo.specs.declared.changes.Was.TheVariants.{Untouched}
use Rattle.mg_value.specs.declared.value.Value.{Value}
use Rattle.mg_version.specs.declared.cell.Version.{Version}

-- ---- the table

-- A table of the layout has this name, and the transaction may write into it.
pub record IsTableOfIts (size : ℕ) (s : Standing) (pages : Pages) (layout : Layout) (reading : Reading) (t : ℕ)
    (name : List ℕ) (its : Table) : Type 0 where
  pub may : MayWriteInto packed_form size s.state pages layout reading t its
  pub named : its.name ≡ name

-- ---- the record, and what comes back in it

-- A record is found to speak for a key, and its newest version is the transaction's own.
pub record FindsIts (s : Standing) (pages : Pages) (t : ℕ) (its : Table) (key : Value) (rec : RecId) : Type 0 where
  pub spoken : IsSpeaker s.state s.live pages its key (Some rec)
  pub newest : Placed
  pub is_first : IsFirst pages (wants s.state s.live Any) rec (Some newest)
  pub own : newest.version.tx.0 ≡ t

-- The version of the former row, or deletion, is put in place of the newest one; the row has its entries.
pub record PutsFormer {D : Type 0} (m : Meaning D) (before after : Pool D FireLinks) (i : Image) (t : ℕ) (its : Table)
    (key : Value) (rec : RecId) (left : List Change) : Type 0 where
  pub row : Option Cells
  pub version : Version
  pub stored : Row
  pub replaces : ReplacesNewest m before after rec version
  pub codes : CodesRow packed_coding its version stored t key row
  pub entries : HasEntries (shown before.dirty i) its rec version stored
  pub was : was_in left its.name key ≡ was_given row

-- The newest version is taken out, where the transaction had not changed the key.
pub record TakesItOut {D : Type 0} (m : Meaning D) (s : Standing) (before after : Pool D FireLinks) (i : Image) (t : ℕ)
    (its : Table) (key : Value) (rec : RecId) (left : List Change) : Type 0 where
  pub finds : FindsIts s (shown before.dirty i) t its key rec
  pub takes : TakesNewestOut m before after rec
  pub was : was_in left its.name key ≡ Untouched

-- Pages were read, and then a key of a table was taken back.
pub record TakesKeyAt {D : Type 0} (m : Meaning D) (size : ℕ) (o : Opening) (h : Entries) (e : Entry) (s : Standing)
    (t : ℕ) (before after : Pool D FireLinks) (i j : Image) (its : Table) (key : Value) : Type 0 where
  pub pool : IsPool m before
  pub size_is : before.geometry.size ≡ size
  pub geometry : IsGeometry before.geometry
  pub tells : Tells m before.disk i
  pub ready : Pool D FireLinks
  pub keeps : KeepsStore m before ready
  pub rec : RecId
  pub puts : TakesItOut m s ready after i t its key rec (own o (e ∷ h) t)
      ⊎ PutsFormer m ready after i t its key rec (own o (e ∷ h) t)
  pub held : m.held after.disk ≡ Some j
  pub told : m.tells after.disk ≡ true

-- ---- so it is a step of the laws

abbrev pub KeyStepsAreTaken : (D : Type 0) → Meaning D → Type 0
KeyStepsAreTaken D m = (size : ℕ) (o : Opening) (h : Entries) (e : Entry) (t : ℕ) (whole left : List Change)
    (s : Standing) (start before after : Pool D FireLinks) (begun : Pages)
    (first : ShowsHistory packed_form size o h s begun) (i j : Image) (asked : Asked) (session : Sessions)
    (midway : StandsMidway m size o h e t whole left s start before begun first i asked session) → MayBegin o
    → IsLegal o h → Remembers o h s → s.state t ≡ Active → (name : List ℕ) (key : Value) (its : Table)
    → has_change left name key ≡ true
    → IsTableOfIts size s (shown before.dirty i) midway.pages.layout midway.pages.reading t name its
    → (step : TakesKeyAt m size o h e s t before after i j its key)
    → IsItsRecord size o h e t whole left s begun (shown before.dirty i) first midway.pages its key step.rec
    → TakesKeyOf m size o h e t s first.versions.speaker left before after i j name key
