-- A transaction that begins takes one page at most, one fewer than it may; and its commit takes none.
use Rattle.std.proofs.Common.{◌≡◌, ◌∙◌, ◌⊎◌, inl, inr, ◌<◌, ◌≤◌, ◌/◌, ℕ, true, Option, None, Some, Ok, Err, sym, ap, subst, arith}
use Rattle.std.proofs.lemmas.Bool.{cases_lt}
use Rattle.mg_base.specs.Disk.{Meaning}
use Rattle.mg_base.specs.Fields.{byte}
use Rattle.mg_base.specs.Image.{Image}
use Rattle.mg_base.specs.declared.transaction.TxState.TheVariants.{Active, Dead}
use Rattle.mg_core.specs.declared.parts.Core.{Core}
use Rattle.mg_core.specs.Beginning.{Begins, FailsBegin}
use Rattle.mg_core.specs.Cores.{Continues, IsCore}
use Rattle.mg_core.specs.Refusing.{IsRefusalOf}
use Rattle.mg_engine_meaning_laws.specs.Standings.{ShowsIt, StandsFor, standing_of}
use Rattle.mg_engine_meaning_laws.specs.StepLaws.{shows_of}
use Rattle.mg_engine_step_laws.specs.commits.TipPages.{within_last}
use Rattle.mg_image.specs.Form.{Pages}
use Rattle.mg_image.specs.Inventory.{next_of, tip_page}
use Rattle.mg_image_overlay_laws.specs.pages.DataPages.{kind_of}
use Rattle.mg_model.specs.declared.event.Mode.{Mode}
use Rattle.mg_model.specs.declared.opening.Opening.{Opening}
use Rattle.mg_model.specs.declared.refusal.Refusal.{Refusal}
use Rattle.mg_model.specs.declared.refusal.Refusal.TheVariants as refusals
use Rattle.mg_model.specs.History.{Entries}
use Rattle.mg_model.specs.Laws.{OpeningsBegin}
use Rattle.mg_model.specs.Machine.{next_number}
use Rattle.mg_model.specs.NumberLaws.{undrawn_is_dead}
use Rattle.mg_space.specs.FreePages.{TakingKeepsRegions}
use Rattle.mg_pool.specs.Pool.{shown}
use Rattle.mg_pool.specs.declared.fault.PoolFault.{PoolFault}
use Rattle.mg_pool.specs.declared.fault.PoolFault.TheVariants as faults
use Rattle.mg_pool.specs.declared.pool.Pool.{Pool}
use Rattle.mg_records.specs.Room.{pages_of_begin}
use Rattle.mg_space.specs.View.{Tells}
use Rattle.mg_space.specs.declared.links.FireLinks.{FireLinks}
use Rattle.mg_tip.specs.TipPage.{places, tip_checks}
use Rattle.mg_txlist.specs.Drawing.{DrawsIn}
use Rattle.mg_txlist.specs.TxList.{next_said, tip_in}
use Rattle.mg_txlist.specs.declared.list.TxList.{TxList}
use Rattle.mg_no_damage_laws.specs.CoreSpending.{IsNoWant, TakesPages}
use Rattle.mg_no_damage_laws.specs.CoreSpendingLaws.{told_full}
use Rattle.mg_free_page_laws.specs.DrawSpending.{draw_spends, draw_there, failed_draw_spends, failed_settle, page_settles}
use Rattle.mg_no_damage_laws.specs.EventRoom.{refused}
use Rattle.mg_no_damage_laws.specs.FewPages.{CoreTakes}
use Rattle.mg_no_damage_laws.specs.FewPagesCalls.{BeginsTakeFew, CommitsTakeNone}
use Rattle.mg_no_damage_laws.specs.FewPagesLaws.{room_kept, room_none, room_of, room_up}
use Rattle.mg_free_page_laws.specs.Spending.{ToldAreHeld}
use Rattle.mg_free_page_laws.specs.SpendingLaws.{more_spent}

-- ---- a number is drawn

-- the pages of a cache on which a number was drawn have the size and the limit that they had
drawn_geometry : {D : Type 0} (m : Meaning D) (old new : TxList) (before after : Pool D FireLinks)
    → DrawsIn m old new before after → after.geometry ≡ before.geometry
drawn_geometry m old new before after draws = draws.changes.enters.geometry
    ∙ (draws.changes.puts.geometry ∙ (draws.changes.written.geometry ∙ draws.keeps.geometry))

module _ {D : Type 0} (m : Meaning D) (holds : ToldAreHeld m) (keeps : TakingKeepsRegions) where
  drawn : (old new : Core D) (session : ℕ) (mode : Mode) (t : ℕ) → Begins m old new session mode t
      → TakesPages m old new None 1
  drawn old new session mode t begins_ = record {
    spends = draw_spends m holds keeps old.list new.list old.store new.store
        (drawn_geometry m old.list new.list old.store new.store begins_.draws) begins_.draws;
    enough = λ i shows limit full. absurd cc;
  }

  undrawn : (old new : Core D) (refusal : Refusal) → IsCore m old → FailsBegin m old new refusal
      → TakesPages m old new (Some refusal) 1
  undrawn old new refusal core fails = record {
    spends = more_spent m old.store new.store 0 1 (omega arith)
        (failed_draw_spends m holds old.store new.store fails.fault fails.left);
    enough = λ i shows limit full.
        let is = told_full fails.fault refusal limit fails.is (cc full) in
        draw_there m holds old.store new.store (next_said old.list) fails.fault fails.why core.geometry i shows.tells
        shows.regions shows.free is.0 is.1;
  }

  -- one page is fewer than two
  as_begin : (old new : Core D) (refusal : Option Refusal) → IsCore m old → m.tells old.store.disk ≡ true
      → TakesPages m old new refusal 1 → CoreTakes m old new refusal pages_of_begin
  as_begin old new refusal core told it = room_up m old new refusal 1 pages_of_begin (omega arith)
      (room_of m holds old new core told refusal 1 it)

  -- nothing has changed
  not_tried : (old new : Core D) (refusal : Refusal) → new ≡ old → IsNoWant refusal
      → CoreTakes m old new (Some refusal) pages_of_begin
  not_tried old new refusal same other = room_up m old new (Some refusal) 0 pages_of_begin (omega arith)
      (room_kept m old new (Some refusal) (ap (λ (c : Core D). c.store) same) other)

  not_begun : (old new : Core D) (refusal : Refusal) → IsCore m old → m.tells old.store.disk ≡ true
      → FailsBegin m old new refusal ⊎ ((refusal ≡ refusals.Memory) × (old.store.offline ≡ None) × (new ≡ old))
      → CoreTakes m old new (Some refusal) pages_of_begin
  not_begun old new refusal core told (inl fails) =
      as_begin old new (Some refusal) core told (undrawn old new refusal core fails)
  not_begun old new refusal core told (inr (is, online, same)) = not_tried old new refusal same (λ limit full.
      let both : refusals.Memory ≡ refusals.DatabaseFull limit = sym is ∙ full in absurd cc)

  pub begins : BeginsTakeFew D m
  begins old new session mode (Ok t) core begins_ o h stands told =
      as_begin old new None core told (drawn old new session mode t.0 begins_)
  begins old new session mode (Err (refusals.Offline n)) core (off, same) o h stands told =
      not_tried old new (refusals.Offline n) same (λ limit full. absurd cc)
  begins old new session mode (Err refusals.TransactionLimit) core (online, past, same) o h stands told =
      not_tried old new refusals.TransactionLimit same (λ limit full. absurd cc)
  begins old new session mode (Err refusal) core fails o h stands told =
      not_begun old new refusal core told fails

-- ---- the bits of a number are set

-- a page write that fails is no want of pages
bits_other : (fault : PoolFault) (refusal : Refusal) → IsRefusalOf fault refusal → IsNoWant refusal
bits_other (faults.DiskRead n) refusal is limit full = absurd cc
bits_other (faults.DiskWrite n) refusal is limit full = absurd cc
bits_other (faults.Offline n) refusal is limit full = absurd cc
bits_other (faults.Absent n) refusal is limit full = absurd is
bits_other faults.Memory refusal is limit full = absurd cc

-- At an engine that stands for a history, over which no page write has failed, the page that the transaction list has
-- for an active transaction is a transaction inventory page.
module _ {D : Type 0} (m : Meaning D) (may_begin : OpeningsBegin) (old : Core D) (o : Opening) (h : Entries)
    (stands : StandsFor m old o h) (t : ℕ) (continues : Continues old t)
    (shows : ShowsIt m old o h (standing_of old stands.numbers stands.tables)) where
  abbrev size : ℕ
  size = old.store.geometry.size

  abbrev pages : Pages
  pages = shown old.store.dirty shows.image

  -- who is active has a number that was drawn
  is_drawn : t < next_of pages
  is_drawn = at (cases_lt t (next_number o h))
    where
      at : (t < next_number o h) ⊎ (next_number o h ≤ t) → t < next_of pages
      at (inl below) = subst (λ (n : ℕ). t < n) (sym (shows.stands.shows.next ∙ shows.stands.memory.next)) below
      at (inr past) =
          let both : Dead ≡ Active =
          sym (undrawn_is_dead o (may_begin o shows.stands.opening) h shows.stands.legal t past)
          ∙ (sym (shows.stands.memory.state t) ∙ continues.1) in absurd cc

  page_is : (tip_in old.list (t / places old.list.size)).page ≡ tip_page size pages (t / places size)
  page_is = ap (λ (s : ℕ). (tip_in old.list (t / places s)).page) (shows.tips t is_drawn).sized
      ∙ (shows.tips t is_drawn).page

  kind_is : byte (pages (tip_page size pages (t / places size))) 0 ≡ 3
  unfolding tip_checks
  kind_is = kind_of (pages (tip_page size pages (t / places size))) (tip_page size pages (t / places size)) 3 0
      (t / places size) _ (shows.stands.shows.sound.transactions.each (t / places size)
      (within_last size t (next_of pages) is_drawn)).fields

  pub tip_shown : (i : Image) → Tells m old.store.disk i
      → 3 ≤ byte (shown old.store.dirty i (tip_in old.list (t / places old.list.size)).page) 0
  tip_shown i tells = subst (λ (n : ℕ). 3 ≤ n) (sym three) (omega arith)
    where
      one : i ≡ shows.image
      one = let both : Some i ≡ Some shows.image = sym tells.held ∙ shows.held in cc

      three : byte (shown old.store.dirty i (tip_in old.list (t / places old.list.size)).page) 0 ≡ 3
      three =
          ap (λ (k : Image). byte (shown old.store.dirty k (tip_in old.list (t / places old.list.size)).page) 0) one
          ∙ (ap (λ (n : ℕ). byte (shown old.store.dirty shows.image n) 0) page_is ∙ kind_is)

module _ {D : Type 0} (m : Meaning D) (holds : ToldAreHeld m) (may_begin : OpeningsBegin) where
  pub commits : CommitsTakeNone D m
  commits old new t (Ok x) core commits_ o h stands told = room_none m holds old new core told None
      (page_settles m holds old.store new.store
      (record { 0 = (tip_in old.list (t / places old.list.size)).page }) commits_.bits.bytes core.pool
      (tip_shown m may_begin old o h stands t commits_.continues (shows_of m old o h stands commits_.continues.0))
      commits_.bits.settles) tt
  commits old new t (Err refusal) core (inl is) o h stands told = refused m old new t refusal is
  commits old new t (Err refusal) core (inr fails) o h stands told = room_none m holds old new core told (Some refusal)
      (failed_settle m holds old.store new.store
      (record { 0 = (tip_in old.list (t / places old.list.size)).page }) fails.fails.bytes fails.fault core.pool
      (tip_shown m may_begin old o h stands t fails.continues (shows_of m old o h stands fails.continues.0))
      fails.fails.fails) (bits_other fails.fault refusal fails.is)
