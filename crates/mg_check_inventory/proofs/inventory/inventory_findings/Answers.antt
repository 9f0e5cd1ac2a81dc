use Rattle.std.proofs.Common.{refl}
use Rattle.mg_base.specs.Image.{page_at}
use Rattle.mg_findings.specs.RungLaws.{list_as}
use Rattle.mg_check_inventory.specs.InventoryRung.{IsInventoryFinding, IsRegionFinding}
use Rattle.mg_check_inventory.proofs.InventoryLemmas.{all_below, below_more}
use Rattle.mg_check_inventory.proofs.PlaceLemmas.{some_bits}
use Rattle.mg_check_inventory.specs.TestLaws.{some_told}
use Rattle.mg_check_inventory.proofs.inventory.inventory_findings.Goals as goal

pub loop-region-preserved : goal.loop-region-preserved
loop-region-preserved c = below_more c.args.size (page_at c.args.size c.args.pages.now)
    c.loop-region.region c.loop-region.findings.items c.note.new.findings.items
    c.check_region.result c.loop-region.invariant c.in_ok-note.ensures.adds c.check_region.ensures

pub returns-clause-list : goal.returns-clause-list
returns-clause-list c = list_as (IsInventoryFinding c.args.size (page_at c.args.size c.args.pages.now))
    c.loop-region.findings.items c.in_order.new.findings.items c.in_order.ensures (λ f.
    let inventory = all_below c.args.size (page_at c.args.size c.args.pages.now) c.loop-region.region
    c.bits_of.result (some_bits c.args.size c.args.pages.now c.requires) c.bits_of.ensures.bits
    c.loop-region-test.false f in (
      λ has. inventory.0 ((c.loop-region.invariant f).0 has),
      λ found. (c.loop-region.invariant f).1 (inventory.1 found),
    ))

pub returns-in_err-note-clause-cause : goal.returns-in_err-note-clause-cause
returns-in_err-note-clause-cause c = λ failed none. some_told
    (IsRegionFinding c.args.size (page_at c.args.size c.args.pages.now) c.loop-region.region)
    c.check_region.result (c.in_err-note.ensures.cause refl) c.check_region.ensures
    (λ f found. none f (c.loop-region.region, found))
