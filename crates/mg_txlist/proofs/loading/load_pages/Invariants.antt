use Rattle.std.proofs.Common.{◌≡◌, ◌-◌, ◌++◌, length}
use Rattle.mg_base.specs.Image.{Image}
use Rattle.mg_image.specs.Inventory.{tip_before}
use Rattle.mg_pool.specs.Fault.{MeetsNoFault}
use Rattle.mg_pool.specs.Pool.{shown}
use Rattle.mg_pool.specs.Reading.{ReadsPages}
use Rattle.mg_space.specs.View.{KeepsStore, Tells}
use Rattle.mg_txlist.specs.Chain.{AreTested, AreWholePages, tips_below}
use Rattle.mg_txlist.specs.Reading.{is_among_tips}
use Rattle.mg_txlist.specs.Refusals.{holder_of}
use Rattle.mg_txlist.proofs.loading.load_pages.Given as goal

abbrev pub invariant-loop-k : goal.invariant-loop-k
invariant-loop-k g l = record {
  keeps : KeepsStore g.D.Disk.meaning l.initial.store l.store;
  faults : MeetsNoFault g.D.Disk.meaning l.initial.store l.store;
  read : length l.pages.items ≡ l.k;
  whole : AreWholePages l.initial.store.geometry l.pages.items;
  tested : AreTested (l.count - l.k) l.pages.items;
  says : (image : Image) → Tells g.D.Disk.meaning l.initial.store.disk image
      → tips_below (shown l.initial.store.dirty image) l.initial.at.0 l.count
      ≡ tips_below (shown l.initial.store.dirty image) l.at.0 (l.count - l.k) ++ l.pages.items;
  stands : (image : Image) → Tells g.D.Disk.meaning l.initial.store.disk image
      → l.at.0 ≡ tip_before (shown l.initial.store.dirty image) l.fn.last.0 l.k;
  holds : (image : Image) → Tells g.D.Disk.meaning l.initial.store.disk image
      → l.holder ≡ holder_of (shown l.initial.store.dirty image) l.fn.last.0 l.k;
  reads : ReadsPages g.D.Disk.meaning l.initial.store l.store (length l.pages.items)
      (is_among_tips l.pages.items);
}
