-- What the calls before the end of a commit are to a keeper of records.
use Rattle.std.specs.Prelude.{◌≡◌, ◌≤◌, ℕ, true, Bool, Option, None, Some, Result, Ok, Err, OnOk}
use Rattle.mg_base.specs.Disk.{Meaning}
use Rattle.mg_base.specs.declared.numbers.TxNo.{TxNo}
use Rattle.mg_model.specs.declared.refusal.Refusal.{Refusal}
use Rattle.mg_records.specs.Adding.{AnswersAll}
use Rattle.mg_records.specs.Committing.{WritesOne}
use Rattle.mg_records.specs.Crashing.{LeavesQuietly}
use Rattle.mg_records.specs.Keeping.{Reads, refusal_in}
use Rattle.mg_records.specs.Sessions.{SessionsStay}
use Rattle.mg_pool.specs.declared.pool.Pool.{Pool}
use Rattle.mg_space.specs.View.{KeepsStore}
use Rattle.mg_space.specs.declared.links.FireLinks.{FireLinks}
use Rattle.mg_works.specs.Works.{AreApart}
use Rattle.mg_core.specs.declared.parts.Core.{Core}
use Rattle.mg_core.specs.Committing.{AsksCommit, StepsCommit}
use Rattle.mg_core.specs.Cores.{IsCore}
use Rattle.mg_engine_meaning_laws.specs.Frames.{MayAnswer}
use Rattle.mg_engine_meaning_laws.specs.Meaning.{Places, means}
use Rattle.mg_engine_meaning_laws.specs.Standings.{asked_in}

-- a call that adds no entry: it is answered as the history says, and all goes on
pub record AddsNone {D P T : Type 0} (m : Meaning D) (places : Places P) (old new : Core D) (t : ℕ)
    (result : Result T Refusal) (walks : Option ℕ) : Type 0 where
  pub answers : AnswersAll (means m places) old t result
  pub reads : Reads (means m places) old new (refusal_in result) walks
  pub crash : LeavesQuietly (means m places) old new
  pub sessions : SessionsStay (means m places) old new None None

-- a page is written for a commit
abbrev pub StepsGoOn : (D P : Type 0) → Meaning D → Type 0
StepsGoOn D P m = (places : Places P) (old new : Core D) (t : ℕ) (result : Result Bool Refusal)
    → IsCore m old → asked_in old.works t ≡ true → StepsCommit m old new t result
    → AddsNone m places old new t result None × WritesOne (means m places) old new t result

-- a commit is asked for
abbrev pub AsksGoOn : (D P : Type 0) → Meaning D → Type 0
AsksGoOn D P m = (places : Places P) (old new : Core D) (t : ℕ) (result : Result (Unit {0}) Refusal)
    → AreApart old.works → AsksCommit old new t result
    → AddsNone m places old new t result (Some t)
    × OnOk result (asked_in new.works t ≡ true)

-- pages are read, and damage and want of pages may be counted: whatever the call answers
abbrev pub ReadsGoOn : (D P : Type 0) → Meaning D → Type 0
ReadsGoOn D P m = (places : Places P) (old : Core D) (store : Pool D FireLinks)
    (damage shortages : ℕ) (refusal : Option Refusal) (walks : Option ℕ)
    → KeepsStore m old.store store → old.damage ≤ damage → old.shortages ≤ shortages
    → MayAnswer m places old
    (record old { store = store; damage = damage; shortages = shortages }) refusal
    → Reads (means m places) old
    (record old { store = store; damage = damage; shortages = shortages }) refusal walks
    × LeavesQuietly (means m places) old
    (record old { store = store; damage = damage; shortages = shortages })
