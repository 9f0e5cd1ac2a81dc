-- How many pages are free, as an engine's cache shows it.
use Rattle.std.specs.Prelude.{ℕ}
use Rattle.mg_base.specs.Disk.{Meaning}
use Rattle.mg_base.specs.Image.{Image}
use Rattle.mg_core.specs.declared.parts.Core.{Core}
use Rattle.mg_pool.specs.Pool.{shown}
use Rattle.mg_space.specs.FreePages.{TellsFree}
use Rattle.mg_space.specs.View.{Tells}

-- so many are free, whatever image the disk tells
abbrev pub CoreHasFree : {D : Type 0} → Meaning D → Core D → ℕ → Type 0
CoreHasFree m core count = (image : Image) → Tells m core.store.disk image
    → TellsFree core.store.geometry (shown core.store.dirty image) count
