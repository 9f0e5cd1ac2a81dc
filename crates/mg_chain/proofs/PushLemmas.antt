-- The rows of the writing calls, put together of their steps.
use Rattle.std.proofs.Common.{◌≡◌, ℕ, List, Some, subst, sym}
use Rattle.std.specs.Prelude.{MatchResult}
use Rattle.std.proofs.Common.{Result, Ok, Err}
use Rattle.mg_base.specs.Disk.{Meaning}
use Rattle.mg_base.specs.Image.{Image}
use Rattle.mg_base.specs.declared.geometry.Geometry.{Geometry}
use Rattle.mg_base.specs.declared.numbers.RecId.{RecId}
use Rattle.mg_base.specs.declared.numbers.TxNo.{TxNo}
use Rattle.mg_heap.specs.Growth.{AddsOrders}
use Rattle.mg_pool.specs.Batch.{Changed}
use Rattle.mg_pool.specs.declared.batch.BatchPage.{BatchPage}
use Rattle.mg_pool.specs.declared.pool.Pool.{Pool}
use Rattle.mg_space.specs.View.{AreWhole, KeepsStore, viewed}
use Rattle.mg_space.specs.declared.fault.SpaceFault.{SpaceFault}
use Rattle.mg_version.specs.Cells.{IsSpelling}
use Rattle.mg_version.specs.declared.cell.Cell.TheVariants as cells
use Rattle.mg_version.specs.declared.cell.Link.{Link}
use Rattle.mg_version.specs.declared.cell.Version.{Version}
use Rattle.mg_chain.specs.Orders.{push_orders}
use Rattle.mg_chain.specs.Writing.{HasHead, Pushes, PushesCell, PutsVersion, TurnsTo, leading_to, link_to}
use Rattle.mg_chain.specs.WritingRefusals.{RefusesPush, RefusesPushCell, pushed_cell}
use Rattle.mg_chain.proofs.WritingLemmas.{pushes_on, turns_on}

-- contents are one page long where only orders were added
pub whole_ordered : (g : Geometry) (old new : Changed) → new.pages ≡ old.pages → AreWhole g old.pages
    → AreWhole g new.pages
whole_ordered g old new same whole = subst (λ (pages : List BatchPage). AreWhole g pages) (sym same) whole

module _ {D L : Type 0} (m : Meaning D) (a b : Pool D L) (kept : KeepsStore m a b) (image : Image) where
  pub pushes_cell : (old put turned new : Changed) (rec at : RecId) (newest : Link) (owner : ℕ)
      (bytes pointers slice : List ℕ) (tx : TxNo) → PutsVersion a image old put owner bytes at pointers
      → TurnsTo b image put turned rec (link_to at tx) → slice ≡ pointers
      → AddsOrders turned new (push_orders turned.pages at.page.0 rec.page.0 (Some newest) slice)
      → PushesCell a image old new rec newest owner bytes tx
  pushes_cell old put turned new rec at newest owner bytes pointers slice tx puts turns same ordered = record {
    at = at;
    pointers = pointers;
    put = put;
    puts = puts;
    turned = turned;
    turns = turns_on m a b kept image put turned rec (link_to at tx) turns;
    ordered = subst (λ (ps : List ℕ). AddsOrders turned new
        (push_orders turned.pages at.page.0 rec.page.0 (Some newest) ps)) same ordered;
  }

  pub pushed : (after : Pool D L) (old new : Changed) (rec : RecId) (v : Version) (newest : Link)
      (owner : ℕ) (slice bytes : List ℕ) (result : Result (Unit {0}) SpaceFault) → slice ≡ bytes
      → HasHead (viewed a image old) rec newest owner
      → IsSpelling bytes (cells.Version (leading_to v (Some newest)))
      → MatchResult result (λ _. PushesCell b image old new rec newest owner slice v.tx)
      (RefusesPushCell m b after image old rec owner slice)
      → MatchResult result (λ _. Pushes a image old new rec v) (RefusesPush m a after image old rec v)
  pushed after old new rec v newest owner slice bytes (Ok x) same head spells pushes = record {
    newest = newest;
    owner = owner;
    head = head;
    bytes = bytes;
    spells = spells;
    pushes = subst (λ (c : List ℕ). PushesCell a image old new rec newest owner c v.tx) same
        (pushes_on m a b kept image old new rec newest owner slice v.tx pushes);
  }
  pushed after old new rec v newest owner slice bytes (Err fault) same head spells refused =
      pushed_cell newest owner bytes b head spells kept
      (subst (λ (c : List ℕ). RefusesPushCell m b after image old rec owner c fault) same refused)
