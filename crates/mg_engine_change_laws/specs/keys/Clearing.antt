-- A dead transaction's version was taken out of the record that speaks for a key: what an engine knows then.
use Rattle.std.specs.Prelude.{◌≡◌, ℕ, List, Some}
use Rattle.mg_base.specs.Disk.{Meaning}
use Rattle.mg_base.specs.Image.{Image}
use Rattle.mg_base.specs.declared.numbers.RecId.{RecId}
use Rattle.mg_base.specs.declared.transaction.TxState.TheVariants.{Committed}
use Rattle.mg_engine_step_laws.specs.standing.Standing.{Standing, Stands}
use Rattle.mg_image.specs.Form.{Pages, packed_form}
use Rattle.mg_image.specs.Records.{cells_of}
use Rattle.mg_lasting_laws.specs.Crashes.{HoldsAcknowledged, LeavesSince}
use Rattle.mg_lasting_laws.specs.Lasting.{LastsOn}
use Rattle.mg_model.specs.History.{Entries}
use Rattle.mg_model.specs.declared.opening.Opening.{Opening}
use Rattle.mg_pool.specs.Pool.{shown}
use Rattle.mg_pool.specs.declared.pool.Pool.{Pool}
use Rattle.mg_pool_overlay_laws.specs.Needs.{Asked, Sessions}
use Rattle.mg_space.specs.declared.links.FireLinks.{FireLinks}
use Rattle.mg_txlist.specs.declared.list.TxList.{TxList}
use Rattle.mg_value.specs.declared.value.Value.{Value}
use Rattle.mg_version.specs.declared.cell.Cell.TheVariants as cells
use Rattle.mg_version.specs.declared.cell.Link.{Link}
use Rattle.mg_engine_meaning_laws.specs.PlainTables.{HasPlainTables}
use Rattle.mg_engine_meaning_laws.specs.Standings.{HasTips}
use Rattle.mg_engine_change_laws.specs.rows.Tips.{KeepsTips}
use Rattle.mg_engine_change_laws.specs.memory.Directories.{StaysKnown}
use Rattle.mg_engine_change_laws.specs.rows.Walks.{OthersWalkOn}

-- Pages show a history, and the newest version of the record that speaks for a key is committed.
pub record HasSettled (size : ℕ) (o : Opening) (h : Entries) (s : Standing) (list : TxList) (pages : Pages)
    (rec : RecId) (name : List ℕ) (key : Value) : Type 0 where
  pub stands : Stands packed_form size o h s (Some pages)
  pub tips : HasTips list size pages
  pub plain : HasPlainTables size s.state pages
  pub speaks : stands.shows.versions.speaker name key ≡ Some rec
  pub settled : (newest : Link) → cells_of pages rec ≡ Some (cells.Anchor newest) → s.state newest.tx.0 ≡ Committed

-- The version was taken out: the cache, and its pages.
pub record HasCleared {D : Type 0} (m : Meaning D) (o : Opening) (h : Entries) (s : Standing) (list : TxList)
    (before after : Pool D FireLinks) (was : Pages) (asked : Asked) (session : Sessions) (rec : RecId)
    (name : List ℕ) (key : Value) (t : ℕ) : Type 0 where
  pub image : Image
  pub held : m.held after.disk ≡ Some image
  pub keeps : KeepsTips before.geometry.size was (shown after.dirty image)
  pub lasts : LastsOn m packed_form o h after asked session
  pub leaves : LeavesSince m before.disk after.disk (HoldsAcknowledged packed_form before.dirty.size o h)
  pub others : OthersWalkOn before.geometry.size s was (shown after.dirty image) t
  pub known : StaysKnown before.geometry.size s.state was (shown after.dirty image)
  pub settled_of : HasSettled after.geometry.size o h s list (shown after.dirty image) rec name key

-- A batch that adds nothing to the history was changed: the pages show it as they did, and all others walk on.
pub record StaysFor {D : Type 0} (m : Meaning D) (o : Opening) (h : Entries) (s : Standing) (list : TxList)
    (before after : Pool D FireLinks) (was : Pages) (asked : Asked) (session : Sessions) (t : ℕ) : Type 0 where
  pub image : Image
  pub held : m.held after.disk ≡ Some image
  pub keeps : KeepsTips before.geometry.size was (shown after.dirty image)
  pub lasts : LastsOn m packed_form o h after asked session
  pub leaves : LeavesSince m before.disk after.disk (HoldsAcknowledged packed_form before.dirty.size o h)
  pub others : OthersWalkOn before.geometry.size s was (shown after.dirty image) t
  pub stands : Stands packed_form after.geometry.size o h s (Some (shown after.dirty image))
  pub tips : HasTips list after.geometry.size (shown after.dirty image)
  pub plain : HasPlainTables after.geometry.size s.state (shown after.dirty image)
  pub known : StaysKnown before.geometry.size s.state was (shown after.dirty image)
