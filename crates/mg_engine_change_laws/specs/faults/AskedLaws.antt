-- What calls of an engine ask of the disk, and what those are refused for that take no memory.
use Rattle.std.proofs.Common.{◌≡◌, ◌∙◌, inl, inr, ◌+◌, ◌≤◌, ℕ, Bool, true, false, Option, None, Some, Ok, Err, refl, sym, ap, subst, arith}
use Rattle.mg_base.specs.Disk.{Meaning}
use Rattle.mg_core.specs.Committing.{WritesOne}
use Rattle.mg_core.specs.Cores.{IsRefusedBy}
use Rattle.mg_core.specs.Events.{EndsWait, IsRefused, keeps_base, with_base_if}
use Rattle.mg_core.specs.Refusing.{IsRefusalOf}
use Rattle.mg_core.specs.Tables.{by_call, by_fault, by_lack, by_memory}
use Rattle.mg_core.specs.declared.parts.Core.{Core}
use Rattle.mg_base.specs.declared.transaction.TxState.{TxState}
use Rattle.mg_engine_change_laws.specs.faults.Asked.{AskingAsksNone, AskingTakesNothing, AsksNoWrite, AsksOneWrite, CommitsTakeNothing, FoundsTakeNoPage, LooksAskNone, LooksTakeNoPage, PageWritesAskOne, PageWritesTakeNothing, PointsAskNone, PointsTakeNoPage, RollbacksAskNone, RollbacksTakeNothing, StepsAskOne, StepsTakeNothing, TablesAskNone, WaitsAskNone, WalksAskNone}
use Rattle.mg_model.specs.declared.refusal.Refusal.{Refusal}
use Rattle.mg_model.specs.declared.refusal.Refusal.TheVariants as refusals
use Rattle.mg_pool.specs.declared.fault.PoolFault.{PoolFault}
use Rattle.mg_pool.specs.declared.fault.PoolFault.TheVariants as faults
use Rattle.mg_pool.specs.declared.pool.Pool.{Pool}
use Rattle.mg_pool.specs.Fault.{OnlyWrites}
use Rattle.mg_records.specs.Asking.{TakesNoPage, TakesNothing}
use Rattle.mg_space.specs.declared.links.FireLinks.{FireLinks}
use Rattle.mg_txlist.specs.TxList.{said}

-- what tells a state, or an earlier fault, takes nothing
state_told : (offline : Option ℕ) (state : TxState) (refusal : Refusal) → IsRefusedBy offline state refusal
    → TakesNothing (Some refusal)
state_told offline state (refusals.Offline n) is = tt
state_told offline state (refusals.NotActive told) is = tt
state_told offline state refusal is = absurd is

-- and is no want of pages
state_other : (offline : Option ℕ) (state : TxState) (refusal : Refusal) → IsRefusedBy offline state refusal
    → TakesNoPage (Some refusal)
state_other offline state (refusals.Offline n) is limit full = absurd cc
state_other offline state (refusals.NotActive told) is limit full = absurd cc
state_other offline state refusal is limit full = absurd is

-- what the cache is refused for in a call that only writes
write_told : (fault : PoolFault) (refusal : Refusal) → IsRefusalOf fault refusal → OnlyWrites {T = Unit {0}} (Err fault)
    → TakesNothing (Some refusal)
write_told (faults.DiskWrite n) refusal is only = subst (λ (r : Refusal). TakesNothing (Some r)) (sym is) tt
write_told (faults.Offline n) refusal is only = subst (λ (r : Refusal). TakesNothing (Some r)) (sym is) tt
write_told fault refusal is only = absurd only

module _ {D : Type 0} (m : Meaning D) where
  -- how many page writes the disk of an engine was asked for
  abbrev asked : Core D → ℕ
  asked core = m.asked core.store.disk

  -- ---- in memory alone

  ended : (old new : Core D) (t : ℕ) → EndsWait old new t → AsksNoWrite m old new
  ended old new t wait = ap asked wait.same

  refused : (old new : Core D) (t : ℕ) (refusal : Refusal) → IsRefused old new t refusal → AsksNoWrite m old new
  refused old new t refusal is = ended old new t is.wait

  based : (b : Bool) (t : ℕ) (core : Core D) → asked (with_base_if b t core) ≡ asked core
  based true t core = refl
  based false t core = refl

  pub looks_ask : LooksAskNone D m
  looks_ask old new t (Ok x) looks =
      ap asked looks.base ∙ (based (keeps_base looks.ended.works t) t looks.ended ∙ ended old looks.ended t looks.wait)
  looks_ask old new t (Err refusal) is = refused old new t refusal is

  pub waits_ask : WaitsAskNone D m
  waits_ask old new t wait = ended old new t wait

  pub points_ask : PointsAskNone D m
  points_ask old new t name (Ok x) sets = ap asked sets.1.same
  points_ask old new t name (Err refusals.Memory) sets = ended old new t sets.1
  points_ask old new t name (Err refusal) is = refused old new t refusal is

  pub rollbacks_ask : RollbacksAskNone D m
  rollbacks_ask old new t (Ok x) rolls = ap asked rolls.same
  rollbacks_ask old new t (Err refusal) is = refused old new t refusal is

  -- ---- readings

  pub tables_ask : TablesAskNone D m
  tables_ask old new t name (Ok table) (inl again) = ap asked again.same
  tables_ask old new t name (Ok table) (inr finds) = finds.reads.keeps.disk.asked
  tables_ask old new t name (Err refusal) (by_call of refuses same) = ap asked same
  tables_ask old new t name (Err refusal) (by_lack lacks) = lacks.reads.keeps.disk.asked
  tables_ask old new t name (Err refusal) (by_fault of fails) = fails.keeps.disk.asked
  tables_ask old new t name (Err refusal) (by_memory wants) = wants.reads.keeps.disk.asked

  pub walks_ask : WalksAskNone D m
  walks_ask old new t table after (Ok found) scans = scans.reads.keeps.disk.asked
  walks_ask old new t table after (Err refusal) (inl both) = ap asked both.1
  walks_ask old new t table after (Err refusal) (inr fails) = fails.keeps.disk.asked

  -- ---- page writes

  none_is_few : (old new : Core D) → new ≡ old → AsksOneWrite m old new
  none_is_few old new same = let e = ap asked same in omega arith

  one_written : (old new : Core D) (goal page : ℕ) → WritesOne m old new goal page → AsksOneWrite m old new
  one_written old new goal page wrote = let all = wrote.run.asked in let fewer = wrote.fewer in omega arith

  pub asking_asks : AskingAsksNone D m
  asking_asks old new t (Ok x) asks = ap (λ (s : Pool D FireLinks). m.asked s.disk) asks.store
  asking_asks old new t (Err refusal) both = ap asked both.1

  pub steps_ask : StepsAskOne D m
  steps_ask old new t (Ok true) (session, has, (same, least)) = none_is_few old new same
  steps_ask old new t (Ok false) (session, has, (goal, page, least, wrote)) = one_written old new goal page wrote
  steps_ask old new t (Err refusal) both = tt

  pub page_writes_ask : PageWritesAskOne D m
  page_writes_ask old new (Ok None) (same, online, least) = none_is_few old new same
  page_writes_ask old new (Ok (Some page)) (goal, online, least, wrote) = one_written old new goal page.0 wrote
  page_writes_ask old new (Err refusal) fails = tt

  -- ---- what they are refused for

  pub asking_takes : AskingTakesNothing D m
  asking_takes old new t (Ok x) asks = tt
  asking_takes old new t (Err refusal) both = state_told old.store.offline (said old.list t) refusal both.0

  pub steps_take : StepsTakeNothing D m
  steps_take old new t (Ok done) steps = tt
  steps_take old new t (Err (refusals.DiskWrite n)) fails = tt
  steps_take old new t (Err refusal) both = state_told old.store.offline (said old.list t) refusal both.0

  pub commits_take : CommitsTakeNothing D m
  commits_take old new t (Ok x) commits = tt
  commits_take old new t (Err refusal) (inl is) = state_told old.store.offline (said old.list t) refusal is.refuses
  commits_take old new t (Err refusal) (inr fails) = write_told fails.fault refusal fails.is fails.only

  pub rollbacks_take : RollbacksTakeNothing D m
  rollbacks_take old new t (Ok x) rolls = tt
  rollbacks_take old new t (Err refusal) is = state_told old.store.offline (said old.list t) refusal is.refuses

  pub page_writes_take : PageWritesTakeNothing D m
  page_writes_take old new (Ok page) wrote = tt
  page_writes_take old new (Err (refusals.DiskWrite n)) fails = tt
  page_writes_take old new (Err (refusals.Offline n)) both = tt
  page_writes_take old new (Err refusal) never = absurd never

  -- ---- that none is refused for want of pages

  pub looks_take : LooksTakeNoPage D m
  looks_take old new t (Ok x) looks limit full = absurd cc
  looks_take old new t (Err refusal) is limit full = state_other old.store.offline (said old.list t) refusal is.refuses limit full

  pub founds_take : FoundsTakeNoPage D m
  founds_take old t (Ok x) continues limit full = absurd cc
  founds_take old t (Err refusal) refuses limit full = state_other old.store.offline (said old.list t) refusal refuses limit full

  pub points_take : PointsTakeNoPage D m
  points_take old new t name (Ok x) sets limit full = absurd cc
  points_take old new t name (Err refusals.Memory) sets limit full = absurd cc
  points_take old new t name (Err refusal) is limit full =
      state_other old.store.offline (said old.list t) refusal is.refuses limit full
