-- What it is that a call of an engine meets no damage.
use Rattle.std.specs.Prelude.{◌≡◌, ℕ, true}
use Rattle.mg_base.specs.Disk.{Meaning}
use Rattle.mg_base.specs.declared.damage.Field.{Field}
use Rattle.mg_base.specs.declared.numbers.PageNo.{PageNo}
use Rattle.mg_model.specs.declared.opening.Opening.{Opening}
use Rattle.mg_model.specs.declared.refusal.Refusal.{Refusal}
use Rattle.mg_model.specs.declared.refusal.Refusal.TheVariants.{Damaged}
use Rattle.mg_model.specs.History.{Entries}
use Rattle.mg_core.specs.declared.parts.Core.{Core}
use Rattle.mg_engine_meaning_laws.specs.Standings.{StandsFor}

-- no page was found damaged in the call, where the engine stood for a history and its disk tells what a crash may leave
abbrev pub DamageStands : {D : Type 0} → Meaning D → Core D → Core D → Type 0
DamageStands m old new = (o : Opening) (h : Entries) → StandsFor m old o h → m.tells old.store.disk ≡ true
    → new.damage ≡ old.damage

-- a refusal tells no damage
abbrev pub TellsNone : Refusal → Type 0
TellsNone refusal = (page : PageNo) (field : Field) (found wanted : ℕ) → refusal ≡ Damaged page field found wanted → ⊥
