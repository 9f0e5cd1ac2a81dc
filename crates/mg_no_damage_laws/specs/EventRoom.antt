-- Calls that write no row take no page: memory changes alone, pages are read, or dirty pages are written.
use Rattle.std.proofs.Common.{◌≡◌, ◌∙◌, inl, inr, ◌≤◌, ℕ, Bool, true, false, List, Option, None, Some, Ok, Err, refl, sym, ap, subst, arith}
use Rattle.std.specs.Prelude.{unwrap_or}
use Rattle.mg_base.specs.Disk.{Meaning}
use Rattle.mg_base.specs.Image.{page_at}
use Rattle.mg_core.specs.declared.parts.Core.{Core}
use Rattle.mg_core.specs.Committing.{FailsOne, WritesOne}
use Rattle.mg_core.specs.Cores.{IsCore, RefusesCall}
use Rattle.mg_core.specs.Events.{IsRefused, keeps_base, with_base_if}
use Rattle.mg_core.specs.Refusing.{IsRefusal}
use Rattle.mg_core.specs.Tables.{by_call, by_fault, by_lack, by_memory}
use Rattle.mg_heap.specs.Reading.{ReadsData}
use Rattle.mg_model.specs.declared.refusal.Refusal.{Refusal}
use Rattle.mg_model.specs.declared.refusal.Refusal.TheVariants as refusals
use Rattle.mg_pool.specs.Dirty.{DirtyPages, content_of}
use Rattle.mg_pool.specs.Pool.{shown}
use Rattle.mg_pool.specs.declared.fault.PoolFault.TheVariants as faults
use Rattle.mg_pool.specs.declared.pool.Pool.{Pool}
use Rattle.mg_space.specs.View.{KeepsStore, Tells}
use Rattle.mg_space.specs.declared.fault.SpaceFault.{SpaceFault}
use Rattle.mg_space.specs.declared.links.FireLinks.{FireLinks}
use Rattle.mg_txlist.specs.TxList.{said}
use Rattle.mg_no_damage_laws.specs.CoreSpending.{IsNoWant}
use Rattle.mg_no_damage_laws.specs.CoreSpendingLaws.{memory_other, refused_by, told_full}
use Rattle.mg_free_page_laws.specs.DrawSpending.{left_spends, written_spends}
use Rattle.mg_no_damage_laws.specs.FewPages.{CoreTakes}
use Rattle.mg_no_damage_laws.specs.FewPagesCalls.{AsksTakeNone, FoundsTakeNone, LooksTakeNone, PageWritesTakeNone, PointsTakeNone, RollbacksTakeNone, StepsTakeNone, TablesTakeNone, VisitsTakeNone}
use Rattle.mg_no_damage_laws.specs.FewPagesLaws.{WantsNone, room_alike, room_kept, room_none}
use Rattle.mg_free_page_laws.specs.Spending.{ToldAreHeld}

-- what a reading is refused for is no want of pages
unread : (fault : SpaceFault) (refusal : Refusal) → IsRefusal fault refusal → ReadsData {T = Unit {0}} (Err fault)
    → IsNoWant refusal
unread fault refusal is own limit full =
    let for_want = told_full fault refusal limit is full in
    subst (λ (f : SpaceFault). ReadsData {T = Unit {0}} (Err f)) for_want.1 own

-- the pages of an engine, with their cache
abbrev store_of : {D : Type 0} → Core D → Pool D FireLinks
store_of core = core.store

based : {D : Type 0} (b : Bool) (t : ℕ) (core : Core D) → store_of (with_base_if b t core) ≡ store_of core
based true t core = refl
based false t core = refl

module _ {D : Type 0} (m : Meaning D) where
  -- ---- in memory alone

  -- a call that is refused by a page write that has failed, or by the state of its transaction
  stays : (old new : Core D) (t : ℕ) (refusal : Refusal) → RefusesCall old t refusal → new.store ≡ old.store
      → CoreTakes m old new (Some refusal) 0
  stays old new t refusal refuses same =
      room_kept m old new (Some refusal) same (refused_by old.store.offline (said old.list t) refusal refuses)

  pub refused : (old new : Core D) (t : ℕ) (refusal : Refusal) → IsRefused old new t refusal
      → CoreTakes m old new (Some refusal) 0
  refused old new t refusal is = stays old new t refusal is.refuses (ap store_of is.wait.same)

  pub looks : LooksTakeNone D m
  looks old new t (Ok x) looks_ o h stands told = room_kept m old new None (ap store_of looks_.base
      ∙ (based (keeps_base looks_.ended.works t) t looks_.ended ∙ ap store_of looks_.wait.same)) tt
  looks old new t (Err refusal) is o h stands told = refused old new t refusal is

  pub points : PointsTakeNone D m
  points old new t name (Ok x) sets o h stands told = room_kept m old new None (ap store_of sets.1.same) tt
  points old new t name (Err refusals.Memory) sets o h stands told =
      room_kept m old new (Some refusals.Memory) (ap store_of sets.1.same) (memory_other m)
  points old new t name (Err refusal) is o h stands told = refused old new t refusal is

  pub rollbacks : RollbacksTakeNone D m
  rollbacks old new t (Ok x) rolls o h stands told = room_kept m old new None (ap store_of rolls.same) tt
  rollbacks old new t (Err refusal) is o h stands told = refused old new t refusal is

  pub founds : FoundsTakeNone D m
  founds old new t (Ok x) wait continues o h stands told = room_kept m old new None (ap store_of wait.same) tt
  founds old new t (Err refusal) wait refuses o h stands told =
      stays old new t refusal refuses (ap store_of wait.same)

  -- ---- pages are read

  read : (old new : Core D) (refusal : Option Refusal) → KeepsStore m old.store new.store → WantsNone refusal
      → CoreTakes m old new refusal 0
  read old new refusal keeps wants = room_alike m old new refusal
      (λ i tells. record {
        told = sym keeps.disk.tells ∙ tells.told;
        held = sym keeps.disk.held ∙ tells.held;
      })
      keeps.geometry (λ i n. ap (λ (d : DirtyPages). shown d i n) keeps.dirty) wants

  pub tables : TablesTakeNone D m
  tables old new t name (Ok table) (inl again) o h stands told =
      room_kept m old new None (ap store_of again.same) tt
  tables old new t name (Ok table) (inr finds) o h stands told = read old new None finds.reads.keeps tt
  tables old new t name (Err refusal) (by_call of refuses same) o h stands told =
      stays old new t.0 refusal refuses (ap store_of same)
  tables old new t name (Err refusal) (by_lack lacks) o h stands told =
      read old new (Some refusals.NoTable) lacks.reads.keeps (λ limit full. absurd cc)
  tables old new t name (Err refusal) (by_fault of fails) o h stands told =
      read old new (Some refusal) fails.keeps (unread fails.fault refusal fails.is fails.own)
  tables old new t name (Err refusal) (by_memory wants) o h stands told =
      read old new (Some refusals.Memory) wants.reads.keeps (memory_other m)

  pub visits : VisitsTakeNone D m
  visits old new t table after (Ok found) scans o h stands told = read old new None scans.reads.keeps tt
  visits old new t table after (Err refusal) (inl both) o h stands told =
      stays old new t.0 refusal both.0 (ap store_of both.1)
  visits old new t table after (Err refusal) (inr fails) o h stands told =
      read old new (Some refusal) fails.keeps (unread fails.fault refusal fails.is fails.own)

  -- ---- pages are marked

  -- each page has the content that it had
  pub asks : AsksTakeNone D m
  asks old new t (Ok x) asks_ o h stands told = room_alike m old new None
      (λ i tells. subst (λ (s : Pool D FireLinks). Tells m s.disk i) asks_.store tells)
      (ap (λ (s : Pool D FireLinks). s.geometry) asks_.store)
      (λ i n. ap (λ (c : Option (List ℕ)). unwrap_or c (page_at new.store.dirty.size i n)) (asks_.marks.contents n)
      ∙ ap (λ (size : ℕ). unwrap_or (content_of old.store.dirty n) (page_at size i n)) asks_.marks.size) tt
  asks old new t (Err refusal) both o h stands told = stays old new t refusal both.0 (ap store_of both.1)

-- ---- pages are written

module _ {D : Type 0} (m : Meaning D) (holds : ToldAreHeld m) where
  wrote_one : (old new : Core D) (goal page : ℕ) → IsCore m old → m.tells old.store.disk ≡ true
      → WritesOne m old new goal page → CoreTakes m old new None 0
  wrote_one old new goal page core told wrote =
      room_none m holds old new core told None (written_spends m holds old.store new.store wrote.run) tt

  failed_one : (old new : Core D) (n : ℕ) → IsCore m old → m.tells old.store.disk ≡ true → FailsOne m old new n
      → CoreTakes m old new (Some (refusals.DiskWrite n)) 0
  failed_one old new n core told fails = room_none m holds old new core told (Some (refusals.DiskWrite n))
      (left_spends m holds old.store new.store (faults.DiskWrite n) fails.fails) (λ limit full. absurd cc)

  pub steps : StepsTakeNone D m
  steps old new t (Ok true) core (session, has, (same, least)) o h stands told =
      room_kept m old new None (ap store_of same) tt
  steps old new t (Ok false) core (session, has, (goal, page, least, wrote)) o h stands told =
      wrote_one old new goal page core told wrote
  steps old new t (Err (refusals.DiskWrite n)) core fails o h stands told = failed_one old new n core told fails
  steps old new t (Err refusal) core both o h stands told = stays m old new t refusal both.0 (ap store_of both.1)

  pub page_writes : PageWritesTakeNone D m
  page_writes old new (Ok None) core (same, online, least) o h stands told =
      room_kept m old new None (ap store_of same) tt
  page_writes old new (Ok (Some page)) core (goal, online, least, wrote) o h stands told =
      wrote_one old new goal page.0 core told wrote
  page_writes old new (Err (refusals.DiskWrite n)) core fails o h stands told = failed_one old new n core told fails
  page_writes old new (Err (refusals.Offline n)) core (same, off) o h stands told =
      room_kept m old new (Some (refusals.Offline n)) (ap store_of same) (λ limit full. absurd cc)
  page_writes old new (Err refusal) core never o h stands told = absurd never
