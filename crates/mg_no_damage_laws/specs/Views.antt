-- A table is looked for without meeting damage.
use Rattle.std.specs.Prelude.{ℕ, List, Result}
use Rattle.mg_base.specs.Disk.{Meaning}
use Rattle.mg_base.specs.declared.numbers.TxNo.{TxNo}
use Rattle.mg_model.specs.declared.refusal.Refusal.{Refusal}
use Rattle.mg_model.specs.declared.table.Table.{Table}
use Rattle.mg_core.specs.declared.parts.Core.{Core}
use Rattle.mg_core.specs.Cores.{IsCore}
use Rattle.mg_core.specs.Tables.{AnswersTable}
use Rattle.mg_no_damage_laws.specs.Stands.{DamageStands}

-- the table of a name is asked for
abbrev pub TablesMeetNone : (D : Type 0) → Meaning D → Type 0
TablesMeetNone D m = (old new : Core D) (t : TxNo) (name : List ℕ) (result : Result Table Refusal) → IsCore m old
    → AnswersTable m old new t name result → DamageStands m old new
