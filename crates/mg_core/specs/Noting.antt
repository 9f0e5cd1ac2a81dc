-- A table's directory of keys is made.
use Rattle.std.specs.Prelude.{◌≡◌}
use Rattle.mg_base.specs.Disk.{Meaning}
use Rattle.mg_base.specs.Image.{Image}
use Rattle.mg_image.specs.Form.{Pages}
use Rattle.mg_model.specs.declared.table.Table.{Table}
use Rattle.mg_noting.specs.Making.{Makes, RefusesMaking}
use Rattle.mg_pool.specs.Fault.{StaysOnline}
use Rattle.mg_pool.specs.Pool.{shown}
use Rattle.mg_pool.specs.declared.pool.Pool.{Pool}
use Rattle.mg_seek.specs.Versions.{wants}
use Rattle.mg_seek.specs.declared.whose.Wanted.TheVariants.{Any}
use Rattle.mg_space.specs.View.{KeepsStore, Tells}
use Rattle.mg_space.specs.declared.fault.SpaceFault.{SpaceFault}
use Rattle.mg_space.specs.declared.links.FireLinks.{FireLinks}
use Rattle.mg_txlist.specs.TxList.{said}
use Rattle.mg_core.specs.declared.parts.Core.{Core}

-- Pages were only read, and the table's directory is made of them, or none is.
pub record MakesDirectory {D : Type 0} (m : Meaning D) (old new : Core D) (table : Table) : Type 0 where
  pub keeps : KeepsStore m old.store new.store
  pub online : StaysOnline m old.store new.store
  pub same : new ≡ record old { store = new.store; directories = new.directories }
  pub makes : (image : Image) → Tells m old.store.disk image
      → Makes (said old.list) old.live (shown old.store.dirty image) table old.directories new.directories

-- why it is not: the table's rows are not read
abbrev pub WhyNotMade : {D : Type 0} → Meaning D → Core D → Table → Pool D FireLinks → Pages → SpaceFault → Type 0
WhyNotMade m core table store view fault = RefusesMaking m store view (wants (said core.list) core.live Any) table fault
