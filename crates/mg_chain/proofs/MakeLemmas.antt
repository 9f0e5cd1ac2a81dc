-- Rows of the calls that make a record, replace a version, or take one out.
use Rattle.std.proofs.Common.{◌≡◌, inr, ℕ, Bool, true, false, List, Option, None, Some, refl, subst, Result, Ok, Err}
use Rattle.std.specs.Prelude.{MatchResult}
use Rattle.mg_base.specs.Disk.{Meaning}
use Rattle.mg_base.specs.Image.{Image}
use Rattle.mg_base.specs.declared.numbers.RecId.{RecId}
use Rattle.mg_base.specs.declared.numbers.TxNo.{TxNo}
use Rattle.mg_heap.specs.Apart.{AddsApart}
use Rattle.mg_heap.specs.Changing.{ChangesWhere, PlacesCell}
use Rattle.mg_heap.specs.Growth.{AddsOrders}
use Rattle.mg_heap.specs.Reach.{IsReached}
use Rattle.mg_pool.specs.Batch.{Changed}
use Rattle.mg_pool.specs.Fault.{OnlyRefuses}
use Rattle.mg_pool.specs.declared.fault.PoolFault.{PoolFault}
use Rattle.mg_pool.specs.declared.fault.PoolFault.TheVariants as pool_faults
use Rattle.mg_pool.specs.declared.pool.Pool.{Pool}
use Rattle.mg_space.specs.View.{KeepsStore, viewed}
use Rattle.mg_space.specs.declared.fault.SpaceFault.{SpaceFault}
use Rattle.mg_space.specs.declared.fault.SpaceFault.TheVariants as faults
use Rattle.mg_version.specs.Cells.{IsSpelling}
use Rattle.mg_version.specs.declared.cell.Cell.TheVariants as cells
use Rattle.mg_version.specs.declared.cell.Link.{Link}
use Rattle.mg_version.specs.declared.cell.Version.{Version}
use Rattle.mg_chain.specs.Orders.{first_orders, move_orders, out_orders}
use Rattle.mg_chain.specs.Writing.{HasNewest, MakesCell, MakesRecord, Moves, OverwritesOrMoves, PutsVersion, Replaces, SlotIsReached, Swings, TakesCellOut, TakesOut, TurnsTo, leading_to, link_to}
use Rattle.mg_chain.specs.WritingRefusals.{RefusesBackOut, RefusesFirst, RefusesFirstCell, RefusesMove, RefusesOverwrite, RefusesReplace, RefusesTakeCellOut, back_takes, made_cell, made_offline, over_moves, replace_writes}
use Rattle.mg_chain.proofs.WritingLemmas.{moves_on, overwrites_on, swings_on, takes_out_on, turns_on}

-- ---- a record is made

module _ {D L : Type 0} (m : Meaning D) (a b : Pool D L) (kept : KeepsStore m a b) (image : Image) where
  pub makes_cell : (old put turned new : Changed) (owner : ℕ) (rec at : RecId)
      (bytes pointers slot_pointers slice slot_slice : List ℕ) (tx : TxNo)
      → AddsApart a image old put owner rec bytes at
      → IsReached (viewed a image put) owner at.page.0 pointers
      → IsReached (viewed a image put) owner rec.page.0 slot_pointers
      → TurnsTo b image put turned rec (link_to at tx) → slice ≡ pointers → slot_slice ≡ slot_pointers
      → AddsOrders turned new (first_orders turned.pages at.page.0 rec.page.0 slice slot_slice)
      → MakesCell a image old new owner rec bytes tx
  makes_cell old put turned new owner rec at bytes pointers slot_pointers slice slot_slice tx adds reached
      slot_reached turns same slot_same ordered = record {
        at = at;
        put = put;
        adds = adds;
        pointers = pointers;
        reached = reached;
        slot_pointers = slot_pointers;
        slot_reached = slot_reached;
        turned = turned;
        turns = turns_on m a b kept image put turned rec (link_to at tx) turns;
        ordered = subst (λ (ps : List ℕ). AddsOrders turned new
            (first_orders turned.pages at.page.0 rec.page.0 pointers ps)) slot_same
            (subst (λ (ps : List ℕ). AddsOrders turned new
            (first_orders turned.pages at.page.0 rec.page.0 ps slot_slice)) same ordered);
      }

  pub moves_cell : (old put freed new : Changed) (rec at : RecId) (newest : Link) (owner : ℕ)
      (bytes pointers slot_pointers slice slot_slice : List ℕ) (tx : TxNo) (back : Option Link)
      → PutsVersion a image old put owner bytes at pointers
      → SlotIsReached (viewed a image put) owner rec.page.0 back slot_pointers
      → Swings b image put freed rec newest.rec (Some (link_to at tx)) → slice ≡ pointers
      → slot_slice ≡ slot_pointers
      → AddsOrders freed new (move_orders freed.pages at.page.0 rec.page.0 back slice slot_slice
      newest.rec.page.0) → Moves a image old new rec newest owner bytes tx back
  moves_cell old put freed new rec at newest owner bytes pointers slot_pointers slice slot_slice tx back puts
      slot_reached swings same slot_same ordered = record {
        at = at;
        pointers = pointers;
        put = put;
        puts = puts;
        slot_pointers = slot_pointers;
        slot_reached = slot_reached;
        freed = freed;
        swings = swings_on m a b kept image put freed rec newest.rec (Some (link_to at tx)) swings;
        ordered = subst (λ (ps : List ℕ). AddsOrders freed new (move_orders freed.pages at.page.0
            rec.page.0 back pointers ps newest.rec.page.0)) slot_same
            (subst (λ (ps : List ℕ). AddsOrders freed new (move_orders freed.pages at.page.0
            rec.page.0 back ps slot_slice newest.rec.page.0)) same ordered);
      }

  pub takes_cell_out : (old freed new : Changed) (rec : RecId) (newest : Link) (owner : ℕ)
      (back : Option Link) (slot_pointers slice : List ℕ)
      → SlotIsReached (viewed a image old) owner rec.page.0 back slot_pointers
      → Swings b image old freed rec newest.rec back → slice ≡ slot_pointers
      → AddsOrders freed new (out_orders freed.pages rec.page.0 back slice newest.rec.page.0)
      → TakesCellOut a image old new rec newest owner back
  takes_cell_out old freed new rec newest owner back slot_pointers slice slot_reached swings same ordered =
      record {
        slot_pointers = slot_pointers;
        slot_reached = slot_reached;
        freed = freed;
        swings = swings_on m a b kept image old freed rec newest.rec back swings;
        ordered = subst (λ (ps : List ℕ). AddsOrders freed new
            (out_orders freed.pages rec.page.0 back ps newest.rec.page.0)) same ordered;
      }

  -- a cell that did not fit was moved
  pub moved_then : (after : Pool D L) (old mid new : Changed) (rec : RecId) (newest : Link)
      (owner : ℕ) (bytes : List ℕ) (tx : TxNo) (back : Option Link) (placed : Bool)
      (result : Result (Unit {0}) SpaceFault) → placed ≡ false
      → ChangesWhere a.geometry.size old mid newest.rec.page.0 placed
      → PlacesCell (viewed a image old) (viewed a image mid) newest.rec bytes placed
      → MatchResult result (λ _. Moves b image mid new rec newest owner bytes tx back)
      (RefusesMove m b after image mid rec newest owner bytes tx)
      → MatchResult result (λ _. OverwritesOrMoves a image old new rec newest owner bytes tx back)
      (RefusesOverwrite m a after image old rec newest owner bytes tx)
  moved_then after old mid new rec newest owner bytes tx back true result is changes places given = absurd cc
  moved_then after old mid new rec newest owner bytes tx back false (Ok x) is changes places given = inr (
    places.1,
    moves_on m a b kept image old new rec newest owner bytes tx back
        (subst (λ (c : Changed). Moves b image c new rec newest owner bytes tx back) changes given),
  )
  moved_then after old mid new rec newest owner bytes tx back false (Err fault) is changes places given =
      over_moves b kept
      (subst (λ (c : Changed). RefusesMove m b after image c rec newest owner bytes tx fault) changes given)

  pub replaced_then : (after : Pool D L) (old new : Changed) (rec : RecId) (v was : Version)
      (newest : Link) (owner : ℕ) (slice bytes : List ℕ) (result : Result (Unit {0}) SpaceFault)
      → slice ≡ bytes → HasNewest (viewed a image old) rec newest owner was → was.tx ≡ v.tx
      → IsSpelling bytes (cells.Version (leading_to v was.back))
      → MatchResult result (λ _. OverwritesOrMoves b image old new rec newest owner slice v.tx was.back)
      (RefusesOverwrite m b after image old rec newest owner slice v.tx)
      → MatchResult result (λ _. Replaces a image old new rec v) (RefusesReplace m a after image old rec v)
  replaced_then after old new rec v was newest owner slice bytes (Ok x) same its own spells written = record {
    newest = newest;
    owner = owner;
    was = was;
    its = its;
    own = own;
    bytes = bytes;
    spells = spells;
    written = subst (λ (c : List ℕ). OverwritesOrMoves a image old new rec newest owner c v.tx was.back)
        same (overwrites_on m a b kept image old new rec newest owner slice v.tx was.back written);
  }
  replaced_then after old new rec v was newest owner slice bytes (Err fault) same its own spells refused =
      replace_writes newest owner was bytes b its spells kept
      (subst (λ (c : List ℕ). RefusesOverwrite m b after image old rec newest owner c v.tx fault) same
      refused)

  pub taken_then : (after : Pool D L) (old new : Changed) (rec : RecId) (was : Version) (newest : Link)
      (owner : ℕ) (result : Result (Unit {0}) SpaceFault)
      → HasNewest (viewed a image old) rec newest owner was
      → MatchResult result (λ _. TakesCellOut b image old new rec newest owner was.back)
      (RefusesTakeCellOut m b after image old rec newest owner was.back)
      → MatchResult result (λ _. TakesOut a image old new rec) (RefusesBackOut m a after image old rec)
  taken_then after old new rec was newest owner (Ok x) its taken = record {
    newest = newest;
    owner = owner;
    was = was;
    its = its;
    taken = takes_out_on m a b kept image old new rec newest owner was.back taken;
  }
  taken_then after old new rec was newest owner (Err fault) its refused =
      back_takes newest owner was b its kept refused

pub made_then : {D L : Type 0} (m : Meaning D) (a after : Pool D L) (image : Image) (old new : Changed)
    (owner : ℕ) (rec : RecId) (v : Version) (slice bytes : List ℕ)
    (result : Result (Unit {0}) SpaceFault) → slice ≡ bytes
    → IsSpelling bytes (cells.Version (leading_to v None))
    → MatchResult result (λ _. MakesCell a image old new owner rec slice v.tx)
    (RefusesFirstCell m a after image old owner rec slice)
    → MatchResult result (λ _. MakesRecord a image old new owner rec v)
    (RefusesFirst m a after image old owner rec v)
made_then m a after image old new owner rec v slice bytes (Ok x) same spells makes = record {
  bytes = bytes;
  spells = spells;
  makes = subst (λ (c : List ℕ). MakesCell a image old new owner rec c v.tx) same makes;
}
made_then m a after image old new owner rec v slice bytes (Err fault) same spells refused =
    made_cell bytes spells
    (subst (λ (c : List ℕ). RefusesFirstCell m a after image old owner rec c fault) same refused)

-- the cache is offline
pub first_offline : {D L : Type 0} (m : Meaning D) (old new : Pool D L) (image : Image)
    (batch : Changed) (owner : ℕ) (rec : RecId) (v : Version) (fault : PoolFault)
    → OnlyRefuses {T = Unit {0}} (Err fault)
    → RefusesFirst m old new image batch owner rec v (faults.Pool fault)
first_offline m old new image batch owner rec v (pool_faults.DiskRead n) refused = absurd refused
first_offline m old new image batch owner rec v (pool_faults.DiskWrite n) refused = absurd refused
first_offline m old new image batch owner rec v (pool_faults.Offline n) refused = made_offline n refl
first_offline m old new image batch owner rec v (pool_faults.Absent n) refused = absurd refused
first_offline m old new image batch owner rec v pool_faults.Memory refused = absurd refused
