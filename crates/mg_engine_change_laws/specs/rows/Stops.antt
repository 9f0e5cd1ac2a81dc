-- A write that is refused before it changes a page.
use Rattle.std.specs.Prelude.{ℕ, Some}
use Rattle.mg_base.specs.Disk.{Meaning}
use Rattle.mg_model.specs.declared.answer.Answer.TheVariants.{No}
use Rattle.mg_model.specs.declared.refusal.Refusal.{Refusal}
use Rattle.mg_model.specs.declared.refusal.Refusal.TheVariants.{DatabaseFull, DiskRead, DiskWrite, Offline, Damaged}
use Rattle.mg_model.specs.Machine.{waited_on}
use Rattle.mg_core.specs.declared.parts.Core.{Core}
use Rattle.mg_engine_meaning_laws.specs.Frames.{MayAnswer}
use Rattle.mg_engine_meaning_laws.specs.Meaning.{Places}
use Rattle.mg_engine_change_laws.specs.memory.Notes.{OnlyNotes}

-- a refusal comes of no fault of the disk and no damage, and of no want of pages
abbrev pub IsPlain : Refusal → Type 0
IsPlain (DatabaseFull limit) = ⊥
IsPlain (DiskRead faults) = ⊥
IsPlain (DiskWrite faults) = ⊥
IsPlain (Offline faults) = ⊥
IsPlain (Damaged page field found wanted) = ⊥
IsPlain refusal = Unit {0}

-- A call of a transaction is refused, and has only read pages: the wait of its answer is noted, and the refusal
-- has its cause.
pub record IsStopped {D P : Type 0} (m : Meaning D) (places : Places P) (old new : Core D) (t : ℕ)
    (refusal : Refusal) : Type 0 where
  pub notes : OnlyNotes m old new t (waited_on (No refusal))
  pub may : MayAnswer m places old new (Some refusal)
