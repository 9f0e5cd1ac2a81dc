-- The counts of faults of an engine.
use Rattle.std.specs.Prelude.{◌<◌, ◌^◌}
use Rattle.mg_core.specs.declared.parts.Core.{Core}

-- They are numbers of eight bytes.
pub record HasCounts {D : Type 0} (core : Core D) : Type 0 where
  pub damage : core.damage < 2 ^ 64
  pub shortages : core.shortages < 2 ^ 64
