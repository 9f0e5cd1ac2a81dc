-- The laws over the core of an engine, which is its value.
use Rattle.std.proofs.Common.{◌≡◌, ℕ, Bool, true, List, Option, None, Some, Result, Ok, Err, subst, sym}
use Rattle.std.specs.Prelude.{MatchResult, OnOk}
use Rattle.mg_base.specs.Disk.{Meaning}
use Rattle.mg_base.specs.declared.numbers.TxNo.{TxNo}
use Rattle.mg_expr.specs.declared.expr.Expr.{Expr}
use Rattle.mg_model.specs.declared.event.Event.TheVariants.{Commit, Look, Mark, Rollback, Savepoint}
use Rattle.mg_model.specs.declared.refusal.Refusal.{Refusal}
use Rattle.mg_model.specs.Changes.{Cells}
use Rattle.mg_records.specs.Adding.{fine_or}
use Rattle.mg_records.specs.Committing.{WritesOne}
use Rattle.mg_records.specs.Keeping.{refusal_in}
use Rattle.mg_records.specs.Sessions.{ended_in}
use Rattle.mg_core.specs.declared.parts.Core.{Core}
use Rattle.mg_core.specs.Committing.{AsksCommit, StepsCommit}
use Rattle.mg_core.specs.Cores.{Continues, RefusesCall}
use Rattle.mg_core.specs.Ending.{Commits, RefusesCommit}
use Rattle.mg_core.specs.Events.{EndsWait, IsRefused, Looks, RollsBack, SetsPoint}
use Rattle.mg_engine_meaning_laws.specs.Looks.{LooksGoOn}
use Rattle.mg_engine_meaning_laws.specs.Frames.{GivesEvent}
use Rattle.mg_engine_meaning_laws.specs.Laws.{FoundGoesOn, GoesOnOr, MarksGoOn, SavepointsGoOn, TellsFound}
use Rattle.mg_engine_meaning_laws.specs.Ends.{CommitsGo, GivesDurable, RollbacksGo}
use Rattle.mg_engine_meaning_laws.specs.Meaning.{HasWrittenAll, Places, means}
use Rattle.mg_engine_meaning_laws.specs.Standings.{asked_in}
use Rattle.mg_engine_meaning_laws.specs.Steps.{AddsNone, AsksGoOn, StepsGoOn}
use Rattle.mg_engine.specs.Engines.{IsEngine}

module _ {D P : Type 0} (m : Meaning D) (places : Places P) (inside old new : Core D) (same : inside ≡ old)
    (is : IsEngine m inside) where
  pub marks_as : MarksGoOn D P m → (t : TxNo) (result : Result (Unit {0}) Refusal)
      → SetsPoint inside new t.0 None result
      → GivesEvent m places old new (Mark t) (fine_or result) (refusal_in result) None None None None
  marks_as law t result sets = subst (λ (c : Core D). GivesEvent m places c new (Mark t) (fine_or result)
      (refusal_in result) None None None None) same (law places inside new t result is.lawful sets)

  pub savepoints_as : SavepointsGoOn D P m → (t : TxNo) (name : List ℕ) (result : Result (Unit {0}) Refusal)
      → SetsPoint inside new t.0 (Some name) result
      → GivesEvent m places old new (Savepoint t name) (fine_or result) (refusal_in result) None None None None
  savepoints_as law t name result sets = subst (λ (c : Core D). GivesEvent m places c new (Savepoint t name)
      (fine_or result) (refusal_in result) None None None None) same
      (law places inside new t name result is.lawful sets)

  goes_or : (t : ℕ) (result : Result (Unit {0}) Refusal)
      → MatchResult result (λ _. Continues inside t) (RefusesCall inside t) → GoesOnOr inside t result
  goes_or t (Ok x) goes = goes
  goes_or t (Err refusal) goes = goes

  pub found_as : FoundGoesOn D P m → (t : TxNo) (name : List ℕ) (filter : Option Expr) (rows : List Cells)
      (result : Result (Unit {0}) Refusal) → EndsWait inside new t.0
      → MatchResult result (λ _. Continues inside t.0) (RefusesCall inside t.0)
      → TellsFound m places old new t name filter rows result
  found_as law t name filter rows result wait goes = subst
      (λ (c : Core D). TellsFound m places c new t name filter rows result) same
      (law places inside new t name filter rows result wait (goes_or t.0 result goes))

  pub looks_as : LooksGoOn D P m → (t : TxNo) (result : Result (Unit {0}) Refusal)
      → MatchResult result (λ _. Looks inside new t.0) (IsRefused inside new t.0)
      → GivesEvent m places old new (Look t) (fine_or result) (refusal_in result) (Some t.0) (Some t.0) None None
  looks_as law t result looks = subst (λ (c : Core D). GivesEvent m places c new (Look t) (fine_or result)
      (refusal_in result) (Some t.0) (Some t.0) None None) same (law places inside new t result looks)

  pub asks_as : AsksGoOn D P m → (t : ℕ) (result : Result (Unit {0}) Refusal) → AsksCommit inside new t result
      → AddsNone m places old new t result (Some t) × OnOk result (asked_in new.works t ≡ true)
  asks_as law t result asks = subst (λ (c : Core D). AddsNone m places c new t result (Some t)
      × OnOk result (asked_in new.works t ≡ true)) same (law places inside new t result is.apart asks)

  pub steps_as : StepsGoOn D P m → (t : ℕ) (result : Result Bool Refusal) → asked_in old.works t ≡ true
      → StepsCommit m inside new t result → AddsNone m places old new t result None
  steps_as law t result asked steps = subst (λ (c : Core D). AddsNone m places c new t result None) same
      (law places inside new t result is.lawful (subst (λ (c : Core D). asked_in c.works t ≡ true) (sym same) asked)
      steps).0

  pub steps_one : StepsGoOn D P m → (t : ℕ) (result : Result Bool Refusal) → asked_in old.works t ≡ true
      → StepsCommit m inside new t result → WritesOne (means m places) old new t result
  steps_one law t result asked steps = subst (λ (c : Core D). WritesOne (means m places) c new t result) same
      (law places inside new t result is.lawful (subst (λ (c : Core D). asked_in c.works t ≡ true) (sym same) asked)
      steps).1

  pub rollbacks_as : RollbacksGo D P m → (t : TxNo) (result : Result (Unit {0}) Refusal)
      → MatchResult result (λ _. RollsBack inside new t.0) (IsRefused inside new t.0)
      → GivesEvent m places old new (Rollback t) (fine_or result) (refusal_in result) (Some t.0) (Some t.0) None
      (ended_in t.0 result)
  rollbacks_as law t result rolls = subst (λ (c : Core D). GivesEvent m places c new (Rollback t)
      (fine_or result) (refusal_in result) (Some t.0) (Some t.0) None (ended_in t.0 result)) same
      (law places inside new t result is.lawful is.apart rolls)

  pub commits_as : CommitsGo D P m → (t : TxNo) (result : Result (Unit {0}) Refusal) → HasWrittenAll old t.0
      → MatchResult result (λ _. Commits m inside new t.0) (RefusesCommit m inside new t.0)
      → GivesDurable m places old new (Commit t) (fine_or result) (refusal_in result) (Some t.0) (Some t.0)
      (ended_in t.0 result)
  commits_as law t result written commits = subst (λ (c : Core D). GivesDurable m places c new (Commit t)
      (fine_or result) (refusal_in result) (Some t.0) (Some t.0) (ended_in t.0 result)) same
      (law places inside new t result is.lawful is.apart
      (subst (λ (c : Core D). HasWrittenAll c t.0) (sym same) written) commits)
