-- A transaction is taken back: what the core's calls leave of it is what they leave of the engine.
use Rattle.std.proofs.Common.{◌≡◌, ◌<◌, ◌^◌, ℕ, Bool, List, Result, arith, subst}
use Rattle.mg_base.specs.Disk.{Meaning}
use Rattle.mg_base.specs.declared.numbers.TxNo.{TxNo}
use Rattle.mg_core.specs.declared.parts.Core.{Core}
use Rattle.mg_model.specs.declared.refusal.Refusal.{Refusal}
use Rattle.mg_engine_change_laws.specs.memory.Notes.{AreCounts}
use Rattle.mg_engine_change_laws.specs.backs.Outcomes.{IsBack, IsUndone}
use Rattle.mg_engine_meaning_laws.specs.Meaning.{Places}

pub counted : {D : Type 0} (core : Core D) → core.damage < 2 ^ 64 → core.shortages < 2 ^ 64 → AreCounts core
counted core damage shortages = record { damage = omega (arith, damage); shortages = omega (arith, shortages) }

module _ {D P : Type 0} (m : Meaning D) (places : Places P) (inside old new : Core D) (same : inside ≡ old) (t : TxNo)
  where
    pub undone_as : (result : Result (Unit {0}) Refusal) → IsUndone m places inside new t result
        → IsUndone m places old new t result
    undone_as result undone = subst (λ (c : Core D). IsUndone m places c new t result) same undone

    pub back_as : (name : List ℕ) (result : Result Bool Refusal) → IsBack m places inside new t name result
        → IsBack m places old new t name result
    back_as name result back = subst (λ (c : Core D). IsBack m places c new t name result) same back
