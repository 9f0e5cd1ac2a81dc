-- The beginning of a transaction takes one page at most, its end none.
use Rattle.std.proofs.Common.{◌≡◌, ◌≢◌, ◌∙◌, ◌≤◌, ℕ, Bool, true, false, List, Option, Some, None, Err, if◌then◌else◌, sym, ap, subst, arith}
use Rattle.std.proofs.lemmas.Bool.{ne_eqb}
use Rattle.std.specs.Prelude.{unwrap_or}
use Rattle.mg_base.specs.Disk.{Meaning}
use Rattle.mg_base.specs.Fields.{byte}
use Rattle.mg_base.specs.Image.{Image}
use Rattle.mg_base.specs.declared.geometry.Geometry.{Geometry}
use Rattle.mg_base.specs.declared.numbers.PageNo.{PageNo}
use Rattle.mg_careful.specs.declared.graph.Order.{Order}
use Rattle.mg_image.specs.Form.{Pages}
use Rattle.mg_image.specs.Inventory.{inventory_page}
use Rattle.mg_pool.specs.Batch.{Changed, one_page, orders_of}
use Rattle.mg_pool.specs.Change.{Changes}
use Rattle.mg_pool.specs.Pool.{IsPool, KeepsContent, shown}
use Rattle.mg_pool.specs.Refusal.{LeavesRefused}
use Rattle.mg_pool.specs.Run.{HasWritten}
use Rattle.mg_pool.specs.declared.fault.PoolFault.{PoolFault}
use Rattle.mg_pool.specs.declared.fault.PoolFault.TheVariants as pool_faults
use Rattle.mg_pool.specs.declared.pool.Pool.{Pool}
use Rattle.mg_space.specs.Taking.{IsGeometry}
use Rattle.mg_space.specs.View.{KeepsStore, Tells, viewed}
use Rattle.mg_space.specs.ViewLaws.{keeps_itself}
use Rattle.mg_space.specs.declared.fault.SpaceFault.{SpaceFault}
use Rattle.mg_space.specs.declared.fault.SpaceFault.TheVariants as faults
use Rattle.mg_space.specs.declared.links.FireLinks.{FireLinks}
use Rattle.mg_tie_laws.specs.Changed.{BatchIsChanged, changed_batches_are}
use Rattle.mg_txlist.specs.Drawing.{DrawsIn, DrawsOn, FailsDraw, not_changed, on_last, on_new, only_read}
use Rattle.mg_txlist.specs.Ending.{ChangesBits, FailsToSettle, SettlesPage, header_first, not_changed as bits_not_changed, not_settled, not_written}
use Rattle.mg_txlist.specs.Refusals.{RefusesDraw}
use Rattle.mg_txlist.specs.TxList.{next_said}
use Rattle.mg_txlist.specs.declared.list.TxList.{TxList}
use Rattle.mg_space.specs.FreePages.{TakingKeepsRegions}
use Rattle.mg_free_page_laws.specs.FreePages.{TakesAtMost}
use Rattle.mg_free_page_laws.specs.FreeLaws.{SameBits, both_taken, none_taken, one_taken, same_taken, takes_more}
use Rattle.mg_free_page_laws.specs.GrowthLaws.{take_there}
use Rattle.mg_free_page_laws.specs.KindLaws.{header_off, kind_off, one_changed}
use Rattle.mg_free_page_laws.specs.Spending.{IsNotShort, SpendsAtMost, ToldAreHeld}
use Rattle.mg_free_page_laws.specs.SpendingLaws.{both_spend, kept_spends, nothing_spent, read_spends}

-- ---- the pages of a number

-- the header has changed, and perhaps a page was taken and made
draw_takes : TakingKeepsRegions → (g : Geometry) (t : ℕ) (old new : Pages) (page : Option _) (orders : List Order)
    → IsGeometry g → DrawsOn g t old new page orders → TakesAtMost g old new 1
draw_takes keeps g t old new None orders lawful (on_last raises others) = takes_more g old new 0 1 (omega arith)
    (one_changed g old new 0 (λ regions. header_off g) others)
draw_takes keeps g t old new (Some it) orders lawful (on_new page taken takes bytes put raises others) =
    both_taken g old taken new 1 0 (one_taken keeps g old taken page.page lawful takes)
    (none_taken g taken new same)
  where
    same : SameBits g taken new
    same region below = others (inventory_page g.size region) (header_off g region below)
        (takes.free.no_inventory region)

module _ {D : Type 0} (m : Meaning D) (holds : ToldAreHeld m) where
  -- ---- page writes

  pub written_spends : (before after : Pool D FireLinks) → HasWritten m before after → SpendsAtMost m before after 0
  written_spends before after run = record {
    tells = λ told. run.tells ∙ told;
    geometry = run.geometry;
    takes = λ lawful i j is held. same_taken before.geometry (shown before.dirty i) (shown after.dirty j)
        (λ n. (run.out is.told i j is.held held).shown_same n);
  }

  pub left_spends : (before after : Pool D FireLinks) (fault : PoolFault)
      → LeavesRefused {T = Unit {0}} m before after (Err fault) → SpendsAtMost m before after 0
  left_spends before after (pool_faults.DiskRead n) never = absurd never
  left_spends before after (pool_faults.DiskWrite n) fails = both_spend m holds before fails.before after 0 0
      (written_spends before fails.before fails.written)
      (kept_spends m fails.before after fails.fails.time.tells fails.fails.kept)
  left_spends before after (pool_faults.Offline n) same = nothing_spent m before after same
  left_spends before after (pool_faults.Absent n) never = absurd never
  left_spends before after pool_faults.Memory same = nothing_spent m before after same

  -- after a batch was changed the disk tells as before
  still_tells : (before ready after : Pool D FireLinks) (batch : Changed) → KeepsStore m before ready
      → Changes m ready after batch.pages batch.orders → m.tells before.disk ≡ true → m.tells after.disk ≡ true
  still_tells before ready after batch keeps changes told =
      ap m.tells (changes.enters.disk ∙ changes.puts.disk) ∙ (changes.written.tells ∙ (keeps.disk.tells ∙ told))

  -- ---- a number is drawn

  pub draw_spends : TakingKeepsRegions → (old new : TxList) (before after : Pool D FireLinks)
      → after.geometry ≡ before.geometry → DrawsIn m old new before after → SpendsAtMost m before after 1
  draw_spends kept old new before after same draws = record {
    tells = still_tells before draws.ready after draws.batch draws.keeps draws.changes;
    geometry = same;
    takes = on;
  }
    where
      on : IsGeometry before.geometry → (i j : Image) → Tells m before.disk i → m.held after.disk ≡ Some j
          → TakesAtMost before.geometry (shown before.dirty i) (shown after.dirty j) 1
      on lawful i j is held = subst (λ (pages : Pages). TakesAtMost before.geometry (shown before.dirty i) pages 1)
          (sym changed.pool) (draw_takes kept before.geometry (next_said old) (shown before.dirty i)
          (viewed before i draws.batch) draws.page draws.batch.orders lawful (draws.views i is))
        where
          changed : BatchIsChanged before after i j draws.batch (λ t. false) (λ t. 0)
          changed = changed_batches_are D FireLinks m before draws.ready after i j draws.batch (λ t. false) (λ t. 0)
              draws.keeps draws.frame is held

  pub failed_draw_spends : (before after : Pool D FireLinks) (fault : SpaceFault) → FailsDraw m before after fault
      → SpendsAtMost m before after 0
  failed_draw_spends before after fault (only_read f alone keeps) = read_spends m before after keeps
  failed_draw_spends before after fault (not_changed ready f keeps left) =
      both_spend m holds before ready after 0 0 (read_spends m before ready keeps) (left_spends ready after f left)

  pub draw_there : (before after : Pool D FireLinks) (t : ℕ) (fault : SpaceFault)
      → ((i : Image) → Tells m before.disk i → RefusesDraw m after before.geometry t (shown before.dirty i) fault)
      → IsNotShort m before 1 fault
  draw_there before after t (faults.Full limit) why lawful i is regions has named full =
      take_there before.geometry (shown before.dirty i) (faults.Full limit) (why i is).1 1 (omega arith) regions has
      named full
  draw_there before after t (faults.Damaged it) why lawful i is regions has limit full = absurd cc
  draw_there before after t (faults.Pool fault) why lawful i is regions has limit full = absurd cc

  -- ---- a commit

  -- the page of a number's bits is none of the inventory pages
  abbrev pub IsTipShown : Pool D FireLinks → ℕ → Type 0
  IsTipShown before page = (i : Image) → Tells m before.disk i → 3 ≤ byte (shown before.dirty i page) 0

  -- the batch of a page with new bits
  abbrev bits_batch : PageNo → List ℕ → Changed
  bits_batch page bytes = record { pages = one_page page.0 bytes; orders = orders_of header_first page }

  bits_spend : (before after : Pool D FireLinks) (page : PageNo) (bytes : List ℕ) → IsPool m before
      → after.geometry ≡ before.geometry → IsTipShown before page.0 → ChangesBits m before after page bytes
      → SpendsAtMost m before after 0
  bits_spend before after page bytes pool same tip it = record {
    tells = still_tells before before after (bits_batch page bytes) keeps it.changes;
    geometry = same;
    takes = on;
  }
    where
      keeps : KeepsStore m before before
      keeps = keeps_itself m before pool

      others : (i : Image) (k : ℕ) → k ≢ page.0 → viewed before i (bits_batch page bytes) k ≡ shown before.dirty i k
      others i k other = ap (λ (here : Bool). unwrap_or (if here then Some bytes else None) (shown before.dirty i k))
          (ne_eqb page.0 k (λ same. other (sym same)))

      on : IsGeometry before.geometry → (i j : Image) → Tells m before.disk i → m.held after.disk ≡ Some j
          → TakesAtMost before.geometry (shown before.dirty i) (shown after.dirty j) 0
      on lawful i j is held = subst (λ (pages : Pages). TakesAtMost before.geometry (shown before.dirty i) pages 0)
          (sym changed.pool) (one_changed before.geometry (shown before.dirty i) (viewed before i (bits_batch page bytes)) page.0
          (λ regions. kind_off before.geometry (shown before.dirty i) page.0 regions (tip i is)) (others i))
        where
          changed : BatchIsChanged before after i j (bits_batch page bytes) (λ t. false) (λ t. 0)
          changed = changed_batches_are D FireLinks m before before after i j (bits_batch page bytes) (λ t. false) (λ t. 0) keeps
              it.frame is held

  -- the geometry of a cache whose batch was changed
  same_geometry : (before after : Pool D FireLinks) (page : PageNo) (bytes : List ℕ)
      → ChangesBits m before after page bytes → after.geometry ≡ before.geometry
  same_geometry before after page bytes it = geometry_on it.changes
    where
      geometry_on : Changes m before after (one_page page.0 bytes) (orders_of header_first page)
          → after.geometry ≡ before.geometry
      geometry_on changes = changes.enters.geometry ∙ (changes.puts.geometry ∙ changes.written.geometry)

  -- the disk was settled
  settled_spends : (before after : Pool D FireLinks) → KeepsContent m before.disk after.disk
      → after ≡ record before { disk = after.disk; faults = after.faults; offline = after.offline }
      → SpendsAtMost m before after 0
  settled_spends before after keeps same = record {
    tells = λ told. keeps.tells ∙ told;
    geometry = ap (λ (p : Pool D FireLinks). p.geometry) same;
    takes = λ lawful i j is held. same_taken before.geometry (shown before.dirty i) (shown after.dirty j)
        (λ n. ap (λ (p : Pool D FireLinks). shown p.dirty j n) same
        ∙ ap (λ (k : Image). shown before.dirty k n) (one i j is held));
  }
    where
      one : (i j : Image) → Tells m before.disk i → m.held after.disk ≡ Some j → j ≡ i
      one i j is held = let both : Some j ≡ Some i = sym held ∙ (keeps.held ∙ is.held) in cc

  pub page_settles : (before after : Pool D FireLinks) (page : PageNo) (bytes : List ℕ) → IsPool m before
      → IsTipShown before page.0 → SettlesPage m before after page bytes → SpendsAtMost m before after 0
  page_settles before after page bytes pool tip it = both_spend m holds before it.changed after 0 0
      (bits_spend before it.changed page bytes pool (same_geometry before it.changed page bytes it.changes) tip
      it.changes)
      (both_spend m holds it.changed it.written after 0 0 (written_spends it.changed it.written it.writes)
      (settled_spends it.written after it.settles it.same))

  pub failed_settle : (before after : Pool D FireLinks) (page : PageNo) (bytes : List ℕ) (fault : PoolFault)
      → IsPool m before → IsTipShown before page.0 → FailsToSettle m before after page bytes fault
      → SpendsAtMost m before after 0
  failed_settle before after page bytes fault pool tip (bits_not_changed left) = left_spends before after fault left
  failed_settle before after page bytes fault pool tip (not_written changed it left) =
      both_spend m holds before changed after 0 0
      (bits_spend before changed page bytes pool (same_geometry before changed page bytes it) tip it)
      (left_spends changed after fault left)
  failed_settle before after page bytes fault pool tip (not_settled changed written it writes out keeps same) =
      both_spend m holds before changed after 0 0
      (bits_spend before changed page bytes pool (same_geometry before changed page bytes it) tip it)
      (both_spend m holds changed written after 0 0 (written_spends changed written writes)
      (settled_spends written after keeps same))
