-- What an engine always has.
use Rattle.mg_base.specs.Disk.{Meaning}
use Rattle.mg_works.specs.Works.{AreApart}
use Rattle.mg_core.specs.declared.parts.Core.{Core}
use Rattle.mg_core.specs.Cores.{IsCore}

-- Its core is lawful, and each session has one active transaction at most.
pub record IsEngine {D : Type 0} (m : Meaning D) (core : Core D) : Type 0 where
  pub lawful : IsCore m core
  pub apart : AreApart core.works
