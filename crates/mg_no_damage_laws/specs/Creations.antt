-- A table that a transaction makes meets no damage, at an engine that stands for a history.
use Rattle.std.specs.Prelude.{ℕ, List, Result, MatchResult}
use Rattle.mg_base.specs.Disk.{Meaning}
use Rattle.mg_base.specs.declared.numbers.TxNo.{TxNo}
use Rattle.mg_core.specs.Cores.{IsCore}
use Rattle.mg_core.specs.declared.parts.Core.{Core}
use Rattle.mg_engine_change_laws.specs.tables.MakingSteps.{MayHave}
use Rattle.mg_engine_meaning_laws.specs.Meaning.{Places}
use Rattle.mg_no_damage_laws.specs.Stands.{DamageStands}
use Rattle.mg_model.specs.declared.refusal.Refusal.{Refusal}
use Rattle.mg_table_making.specs.Creating.{CreatesTable, FailsCreation}
use Rattle.mg_value.specs.declared.shape.Shape.{Shape}

-- each outcome of the core's call, for a name and a shape that a new table may have
abbrev pub CreationsMeetNone : (D P : Type 0) → Meaning D → Type 0
CreationsMeetNone D P m = (places : Places P) (old new : Core D) (t : TxNo) (name : List ℕ) (shape : Shape)
    (result : Result (Unit {0}) Refusal) → IsCore m old → MayHave m places old name shape
    → MatchResult result (λ _. CreatesTable m old new t name shape) (FailsCreation m old new t name shape)
    → DamageStands m old new
